-- One round: its circles and units, and what its code returns. Assumes nothing.
use mathlib.Core.Path.{◌≡◌, refl, sym, ap, ◌∙◌}
use mathlib.Core.Bool.{Bool}
use mathlib.Core.List.{List, [], ◌∷◌, ◌++◌, append-nil}
use Rattle.std.specs.Prelude.{Option, Some, None, Ok, Err}
use Prim.Native.Nat.{ℕ, ◌*◌, ◌≤◌}
use native.Mathlib.Omega.{arith}
use lib.ListN.{length, length-append}
use lib.Ieee.{Float}
use Rattle.errors.specs.declared.Refusal.{Refusal}
use Rattle.errors.specs.Answer.{Answer, ◌>>=◌}
use Rattle.points.specs.declared.Point2.{Point2}
use Rattle.runs.specs.Run.{Ending, ended, spent, unfinished, Final, under_limit}
use Rattle.inscribed.specs.Store.{width, circles_of, stored}
use Rattle.inscribed.proofs.StoreLaws.{length-circles, stored-again, circles_of-stored}
use Rattle.inscribed.specs.declared.Inscribed.{Inscribed}
use Rattle.refine.specs.Machine.{State, circles_in, End, refine_run}
use Rattle.refine.specs.Report.{RunReport, reported, listed_end, listed_run}
use Rattle.refine.specs.declared.Run.{Run}
use Rattle.refine.proofs.RefinedLaws.{refined_fits, refined_units, refined_part}
use Rattle.lists.specs.Ends.{last_pair}
use Rattle.lists.specs.declared.ends.Pair.{Pair}
use Rattle.gap.specs.Probe.{probed}
use Rattle.gap.specs.declared.Gap.{Gap}
use Rattle.gap.specs.declared.round.Moved.{Moved}
use Rattle.gap.specs.declared.round.Reached.{Reached}
use Rattle.std.specs.declared.ops.ControlFlow.{ControlFlow}
use Rattle.std.specs.declared.ops.ControlFlow.TheVariants.{Break}
use Rattle.gap.specs.Rounds.{fit, Round, stops, moved_point, after_move, after_refined, after_probe, round}
use Rattle.gap.specs.Code.{fit_in, round_in, round_circles, round_units}

-- ---- the circles and units after a refinement are the refinement's

after_circles : (gap : Gap) (point : Point2) (cs : List Inscribed) (u : ℕ) (e : Ending End) → round_circles (after_refined gap point cs u e) ≡ cs
unfolding after_refined after_move
after_circles gap point cs u (ended (Ok done)) = go (moved_point gap point cs)
  where
    go : (a : Answer Moved) → round_circles (after_move cs u a) ≡ cs
    go (Ok m) = refl
    go (Err n) = refl
after_circles gap point cs u (ended (Err n)) = refl
after_circles gap point cs u spent = refl
after_circles gap point cs u unfinished = refl

after_units : (gap : Gap) (point : Point2) (cs : List Inscribed) (u : ℕ) (e : Ending End) → round_units (after_refined gap point cs u e) ≡ u
unfolding after_refined after_move
after_units gap point cs u (ended (Ok done)) = go (moved_point gap point cs)
  where
    go : (a : Answer Moved) → round_units (after_move cs u a) ≡ u
    go (Ok m) = refl
    go (Err n) = refl
after_units gap point cs u (ended (Err n)) = refl
after_units gap point cs u spent = refl
after_units gap point cs u unfinished = refl

-- what r returns and leaves, in a store that held `old`: a round, with n circles then in the store
pub record RoundTold (is : Round) (old store : List Float) (n : ℕ) (r : ControlFlow (Run Point2) Reached) : Type 0 where
  pub returned : round_in store n r ≡ is
  pub left : store ≡ stored (round_circles is) old

module _ (ns : List Float) (tol : Float) (slots limit : ℕ) (gap : Gap) where
  abbrev full : ℕ → Bool
  full = under_limit limit

  -- ---- a round's circles begin with those before it, and fit; its units are within the limit

  pub record Kept (cs : List Inscribed) (is : Round) : Type 0 where
    pub more : List Inscribed
    pub grown : round_circles is ≡ cs ++ more
    pub fits : length (round_circles is) ≤ slots
    pub within : round_units is ≤ limit

  module _ (point : Point2) (cs : List Inscribed) (u : ℕ) (h : length cs ≤ slots) (w : u ≤ limit) where
    kept_out : (c : Inscribed) → Kept cs (after_refined gap point (circles_in (refine_run ns tol slots full cs (c ∷ []) u).state) (refine_run ns tol slots full cs (c ∷ []) u).units (refine_run ns tol slots full cs (c ∷ []) u).ending)
    kept_out c =
        let o : Final State End = refine_run ns tol slots full cs (c ∷ []) u in
        let ds : List Inscribed = circles_in o.state in
        let e = after_circles gap point ds o.units o.ending in
        let p = refined_part ns tol slots limit [] cs (c ∷ []) u h w in
        record {
          more = p.0;
          grown = e ∙ p.1;
          fits = omega (arith, ap length e, refined_fits ns tol slots limit [] cs (c ∷ []) u h w);
          within = omega (arith, after_units gap point ds o.units o.ending, refined_units ns tol slots limit [] cs (c ∷ []) u h w);
        }

    kept_after_lem : (a : Answer (Option Inscribed)) → Kept cs (after_probe ns tol slots full gap point cs u a)
    unfolding after_probe
    kept_after_lem (Err n) = record { more = []; grown = sym (append-nil cs); fits = h; within = w }
    kept_after_lem (Ok None) = record { more = []; grown = sym (append-nil cs); fits = h; within = w }
    kept_after_lem (Ok (Some c)) = kept_out c

    pub round-kept : Kept cs (round ns tol slots full gap point cs u)
    unfolding round
    round-kept = kept_after_lem (last_pair cs >>= probed ns tol gap)

  -- ---- the code of one round

  module _ (point : Point2) (store : List Float) (n u : ℕ) (end : Pair) (is-end : last_pair (circles_of store n) ≡ Ok end) where
    abbrev cs : List Inscribed
    cs = circles_of store n

    probed_as : (a : Answer (Option Inscribed)) → a ≡ probed ns tol gap end → after_probe ns tol slots full gap point cs u a ≡ round ns tol slots full gap point cs u
    unfolding round
    probed_as a p = rw (is-end, p)

    pub round-refused : n * width ≤ length store → (k : Refusal) (r : Run Point2) → Err k ≡ probed ns tol gap end → fit_in store r ≡ fit (ended (Err k)) cs u → RoundTold (round ns tol slots full gap point cs u) store store n (Break r)
    unfolding after_probe
    round-refused h k r p e =
        rw (← probed_as (Err k) p) (record { returned = ap stops e; left = sym (stored-again store n (omega arith)) })

    pub round_missed : n * width ≤ length store → (r : Run Point2) → Ok None ≡ probed ns tol gap end → fit_in store r ≡ fit (ended (Ok point)) cs u → RoundTold (round ns tol slots full gap point cs u) store store n (Break r)
    unfolding after_probe
    round_missed h r p e =
        rw (← probed_as (Ok None) p) (record { returned = ap stops e; left = sym (stored-again store n (omega arith)) })

    module _ (fits : n ≤ slots) (within : u ≤ limit) (c : Inscribed) (p : Ok (Some c) ≡ probed ns tol gap end) (ran : Run (Unit {0})) (after : List Float)
        (is : listed_run ran after ≡ reported store (refine_run ns tol slots full cs (c ∷ []) u)) where
      abbrev refined : Final State End
      refined = refine_run ns tol slots full cs (c ∷ []) u

      abbrev ds : List Inscribed
      ds = circles_in refined.state

      fits_list : length cs ≤ slots
      fits_list = omega (arith, length-circles store 0 n, fits)

      store_is : after ≡ stored ds store
      unfolding reported
      store_is = ap (λ (x : RunReport). x.store) is

      count_is : ran.count ≡ length ds
      unfolding reported
      count_is = ap (λ (x : RunReport). x.count) is

      units_is : ran.units ≡ refined.units
      unfolding reported
      units_is = ap (λ (x : RunReport). x.units) is

      ending_is : listed_end ran.end ≡ refined.ending
      unfolding reported
      ending_is = ap (λ (x : RunReport). x.ending) is

      pub ran_grown : n ≤ ran.count
      ran_grown =
          let q = refined_part ns tol slots limit [] cs (c ∷ []) u fits_list within in
          omega (arith, count_is, ap length q.1, length-append cs q.0, length-circles store 0 n)

      held : circles_of after ran.count ≡ ds
      held = rw (store_is, count_is) (circles_of-stored ds store)

      pub round_refined : (r : ControlFlow (Run Point2) Reached) → round_in after ran.count r ≡ after_refined gap point (circles_of after ran.count) ran.units (listed_end ran.end) → RoundTold (round ns tol slots full gap point cs u) store after ran.count r
      unfolding after_probe
      round_refined r e =
          rw (← probed_as (Ok (Some c)) p)
          (record {
            returned = e ∙ rw (held, units_is, ending_is);
            left = store_is ∙ ap (λ (x : List Inscribed). stored x store) (sym (after_circles gap point ds refined.units refined.ending));
          })
