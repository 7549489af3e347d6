-- The loop of the rounds: what is left of the fit gives the whole, no circle is lost, and all fit. Assumes nothing.
use mathlib.Core.Path.{◌≡◌, sym, ap, ◌∙◌}
use mathlib.Core.Bool.{Bool, true, false, cond}
use mathlib.Core.List.{List}
use Prim.Native.Nat.{ℕ, zero, suc, ◌≤◌}
use native.Mathlib.Omega.{arith}
use lib.ListN.{length, length-append}
use lib.Ieee.{Float, le}
use Rattle.std.specs.Prelude.{Ok}
use Rattle.points.specs.declared.Point2.{Point2}
use Rattle.runs.specs.Run.{ended, under_limit}
use Rattle.inscribed.specs.Store.{circles_of, stored}
use Rattle.inscribed.proofs.StoreLaws.{length-circles, stored_longer}
use Rattle.inscribed.specs.declared.Inscribed.{Inscribed}
use Rattle.gap.specs.declared.Gap.{Gap}
use Rattle.gap.specs.declared.round.Reached.{Reached}
use Rattle.std.specs.declared.ops.ControlFlow.{ControlFlow}
use Rattle.std.specs.declared.ops.ControlFlow.TheVariants.{Continue, Break}
use Rattle.refine.specs.declared.Run.{Run}
use Rattle.gap.specs.Rounds.{Fit, fit, Progress, progress, Round, stops, goes, round, onward, rounds}
use Rattle.gap.specs.Code.{fit_in, progress_in, round_circles, round_units}
use Rattle.gap.proofs.RoundLaws.{RoundTold, Kept, round-kept}

-- what r returns and leaves, in a store that held `old`: a fit as a whole
pub record FitTold (is : Fit) (old store : List Float) (r : Run Point2) : Type 0 where
  pub returned : fit_in store r ≡ is
  pub left : store ≡ stored is.circles old

-- a fit that has lost no circle, and whose circles fit
pub record Grown (slots : ℕ) (cs : List Inscribed) (f : Fit) : Type 0 where
  pub low : length cs ≤ length f.circles
  pub high : length f.circles ≤ slots

module _ (ns : List Float) (tol : Float) (slots limit : ℕ) (gap : Gap) where
  abbrev full : ℕ → Bool
  full = under_limit limit

  -- ---- the loop

  module _ (old : List Float) (whole : Fit) where
    pub record Left (store : List Float) (k : ℕ) (point : Point2) (drift : Float) (n u : ℕ) : Type 0 where
      pub low : 2 ≤ n
      pub fits : n ≤ slots
      pub within : u ≤ limit
      pub holds : store ≡ stored (circles_of store n) old
      pub left : rounds ns tol slots full gap k (progress point drift (circles_of store n) u) ≡ whole

    module _ (store : List Float) (k : ℕ) (point : Point2) (drift : Float) (n u : ℕ) (l : Left store k point drift n u) where
      abbrev held_now : List Inscribed
      held_now = circles_of store n

      abbrev now_at : Progress
      now_at = progress point drift held_now u

      -- the fit ends with the point
      pub ends_here : fit (ended (Ok point)) held_now u ≡ rounds ns tol slots full gap k now_at → (r : Run Point2) → fit_in store r ≡ fit (ended (Ok point)) held_now u → FitTold whole old store r
      ends_here e r f =
          let g : fit (ended (Ok point)) held_now u ≡ whole = e ∙ l.left in
          record { returned = f ∙ g; left = l.holds ∙ ap (λ (x : Fit). stored x.circles old) g }

      pub no_more : k ≡ 0 → fit (ended (Ok point)) held_now u ≡ rounds ns tol slots full gap k now_at
      unfolding rounds
      no_more e = rw e

      pub still : (j : ℕ) → k ≡ suc j → le drift tol ≡ true → fit (ended (Ok point)) held_now u ≡ rounds ns tol slots full gap k now_at
      unfolding rounds
      still j e t = rw (e, t)

      module _ (j : ℕ) (e : k ≡ suc j) (t : le drift tol ≡ false) (after : List Float) (m : ℕ) (r : ControlFlow (Run Point2) Reached)
          (is : RoundTold (round ns tol slots full gap point held_now u) store after m r) where
        abbrev this : Round
        this = round ns tol slots full gap point held_now u

        fits_now : length held_now ≤ slots
        fits_now = omega (arith, length-circles store 0 n, l.fits)

        kept : Kept ns tol slots limit gap held_now this
        kept = round-kept ns tol slots limit gap point held_now u fits_now l.within

        -- the store, over the old one
        over_old : after ≡ stored (round_circles this) old
        over_old =
            is.left
            ∙ ap (λ (x : List Float). stored (round_circles this) x) l.holds
            ∙ stored_longer (round_circles this) held_now old (omega (arith, ap length kept.grown, length-append held_now kept.more))

        goes_on : onward (rounds ns tol slots full gap j) this ≡ whole
        unfolding rounds
        goes_on = (rw (e, t) at l.left)

        pub round-over : (f : Run Point2) → r ≡ Break f → FitTold whole old after f
        unfolding onward
        round-over f q =
            let s : stops (fit_in after f) ≡ this = rw q at is.returned in
            let g : fit_in after f ≡ whole = rw (← s) at goes_on in
            record { returned = g; left = over_old ∙ ap (λ (x : Round). stored (round_circles x) old) (sym s) ∙ ap (λ (x : Fit). stored x.circles old) g }

        pub round_next : (x : Reached) → r ≡ Continue x → Left after j x.point x.drift m x.units
        unfolding onward
        round_next x q =
            let s : goes (progress_in after m x) ≡ this = rw q at is.returned in
            let long : m ≡ length (round_circles this) = sym (length-circles after 0 m) ∙ ap (λ (y : Round). length (round_circles y)) s in
            record {
              low = omega (arith, long, ap length kept.grown, length-append held_now kept.more, length-circles store 0 n, l.low);
              fits = omega (arith, long, kept.fits);
              within = omega (arith, ap round_units s, kept.within);
              holds = over_old ∙ ap (λ (y : Round). stored (round_circles y) old) (sym s);
              left = rw (← s) at goes_on;
            }

  -- ---- the rounds as a whole: no circle is lost, and all fit

  onward_grown : (cs : List Inscribed) (go : Progress → Fit) (is : Round) → Kept ns tol slots limit gap cs is
      → ((p : Progress) → length p.circles ≤ slots → p.units ≤ limit → Grown slots p.circles (go p)) → Grown slots cs (onward go is)
  unfolding onward
  onward_grown cs go (stops f) k h = record { low = omega (arith, ap length k.grown, length-append cs k.more); high = k.fits }
  onward_grown cs go (goes p) k h =
      let g = h p k.fits k.within in
      record { low = omega (arith, ap length k.grown, length-append cs k.more, g.low); high = g.high }

  pub rounds_grown : (k : ℕ) (p : Progress) → length p.circles ≤ slots → p.units ≤ limit → Grown slots p.circles (rounds ns tol slots full gap k p)
  unfolding rounds
  rounds_grown zero p h w = record { low = omega arith; high = h }
  rounds_grown (suc k) p h w = go (rounds_grown k) (le p.drift tol)
    where
      go : ((q : Progress) → length q.circles ≤ slots → q.units ≤ limit → Grown slots q.circles (rounds ns tol slots full gap k q)) → (b : Bool)
          → Grown slots p.circles (cond b (fit (ended (Ok p.point)) p.circles p.units) (onward (rounds ns tol slots full gap k) (round ns tol slots full gap p.point p.circles p.units)))
      go later true = record { low = omega arith; high = h }
      go later false = onward_grown p.circles (rounds ns tol slots full gap k) (round ns tol slots full gap p.point p.circles p.units) (round-kept ns tol slots limit gap p.point p.circles p.units h w) later
