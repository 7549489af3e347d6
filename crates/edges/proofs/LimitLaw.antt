-- The ending law of edge fits: a fit ends, and an ending other than 14 is the same at larger limits. Assumes nothing.
use mathlib.Core.Path.{◌≡◌, refl, sym, ap, ◌∙◌}
use mathlib.Core.Bool.{Bool, true, false, cond}
use mathlib.Core.List.{List, [], ◌∷◌}
use mathlib.Core.Logic.{⊎_elim}
use Rattle.std.specs.Prelude.{Option, Some, None, Ok, Err}
use Prim.Native.Nat.{ℕ, zero, suc, ◌≤◌}
use native.Mathlib.Omega.{arith}
use borrow.Author.Tests.{leb-true, le-leb}
use lib.Ieee.{Float, le}
use Rattle.errors.specs.Answer.{Answer, ◌>>=◌}
use Rattle.points.specs.declared.Point2.{Point2}
use Rattle.runs.specs.Run.{Ending, ended, spent, unfinished, Final, under_limit, whole}
use Rattle.runs.proofs.LimitLaws.{compared, finishes}
use Rattle.inscribed.specs.Store.{slots, circles_of}
use Rattle.inscribed.specs.declared.Inscribed.{Inscribed}
use Rattle.refine.specs.Machine.{State, refining, circles_in, End, measure, refine_step, refine_run}
use Rattle.refine.specs.Report.{Report, ran, ending_number, called_number, Ends}
use Rattle.refine.specs.Law.{EndingLaw}
use Rattle.refine.proofs.LawOfRuns.{not-unfinished}
use Rattle.refine.proofs.MoveLaws.{refine_falls}
use Rattle.refine.proofs.MachineLaws.{Part, refine_grows}
use Rattle.lists.specs.Ends.{last_pair}
use Rattle.gap.specs.Probe.{probed}
use Rattle.gap.specs.declared.Gap.{Gap}
use Rattle.gap.specs.declared.round.Moved.{Moved}
use Rattle.gap.specs.Rounds.{Fit, fit, Progress, Round, stops, goes, moved_point, after_move, after_refined, after_out, after_probe, round, onward, most_rounds, rounds, first_progress}
use Rattle.edges.specs.Edges.{end_last, fit_start, fit_from, fit_reported, fitted, EdgeInput, fit_after, fit_of}
use Rattle.edges.specs.declared.fitting.Start.{Start}

module _ (limit more : ℕ) (h : limit ≤ more) (ns : List Float) (tol : Float) (slots : ℕ) where
  abbrev few : ℕ → Bool
  few = under_limit limit

  abbrev many : ℕ → Bool
  many = under_limit more

  refine-larger : (cs ws : List Inscribed) (u : ℕ) → ((refine_run ns tol slots few cs ws u).ending ≡ spent → ⊥) → refine_run ns tol slots many cs ws u ≡ refine_run ns tol slots few cs ws u
  unfolding whole
  refine-larger cs ws u n =
      ⊎_elim (λ e. sym e) (λ k. absurd (n k.0))
      (compared (refine_step ns tol slots) Part (refine_grows ns tol slots) few many (λ v e. le-leb limit v (omega (arith, leb-true more v e))) (suc (measure slots (refining cs ws))) (refining cs ws) u)

  -- a round that isn't spent
  abbrev Unspent : Round → Type 0
  Unspent (stops f) = f.ending ≡ spent → ⊥
  Unspent (goes p) = Unit {0}

  module _ (gap : Gap) where
    refined_unspent : (point : Point2) (cs : List Inscribed) (u : ℕ) (e : Ending End) → e ≡ spent → Unspent (after_refined gap point cs u e) → ⊥
    unfolding after_refined
    refined_unspent point cs u e p n = (rw p at n) refl

    probe-larger : (point : Point2) (cs : List Inscribed) (u : ℕ) (a : Answer (Option Inscribed)) → Unspent (after_probe ns tol slots few gap point cs u a)
        → after_probe ns tol slots many gap point cs u a ≡ after_probe ns tol slots few gap point cs u a
    unfolding after_probe
    probe-larger point cs u (Err n) f = refl
    probe-larger point cs u (Ok None) f = refl
    probe-larger point cs u (Ok (Some c)) f =
        let o : Final State End = refine_run ns tol slots few cs (c ∷ []) u in
        ap (λ (x : Final State End). after_out gap point x) (refine-larger cs (c ∷ []) u (λ e. refined_unspent point (circles_in o.state) o.units o.ending e f))

    round-larger : (point : Point2) (cs : List Inscribed) (u : ℕ) → Unspent (round ns tol slots few gap point cs u) → round ns tol slots many gap point cs u ≡ round ns tol slots few gap point cs u
    unfolding round
    round-larger point cs u f = probe-larger point cs u (last_pair cs >>= probed ns tol gap) f

    onward_unspent : (go : Progress → Fit) (is : Round) → ((onward go is).ending ≡ spent → ⊥) → Unspent is
    unfolding onward
    onward_unspent go (stops f) n = n
    onward_unspent go (goes p) n = tt

    onward-larger : (go big : Progress → Fit) (is : Round) → ((onward go is).ending ≡ spent → ⊥) → ((p : Progress) → ((go p).ending ≡ spent → ⊥) → big p ≡ go p) → onward big is ≡ onward go is
    unfolding onward
    onward-larger go big (stops f) n later = refl
    onward-larger go big (goes p) n later = later p n

    rounds-larger : (k : ℕ) (p : Progress) → ((rounds ns tol slots few gap k p).ending ≡ spent → ⊥) → rounds ns tol slots many gap k p ≡ rounds ns tol slots few gap k p
    unfolding rounds
    rounds-larger zero p n = refl
    rounds-larger (suc k) p n = go (rounds-larger k) (le p.drift tol) n
      where
        go : ((q : Progress) → ((rounds ns tol slots few gap k q).ending ≡ spent → ⊥) → rounds ns tol slots many gap k q ≡ rounds ns tol slots few gap k q) → (b : Bool)
            → ((cond b (fit (ended (Ok p.point)) p.circles p.units) (onward (rounds ns tol slots few gap k) (round ns tol slots few gap p.point p.circles p.units))).ending ≡ spent → ⊥)
            → cond b (fit (ended (Ok p.point)) p.circles p.units) (onward (rounds ns tol slots many gap k) (round ns tol slots many gap p.point p.circles p.units))
            ≡ cond b (fit (ended (Ok p.point)) p.circles p.units) (onward (rounds ns tol slots few gap k) (round ns tol slots few gap p.point p.circles p.units))
        go later true f = refl
        go later false f =
            let is : Round = round ns tol slots few gap p.point p.circles p.units in
            ap (λ (x : Round). onward (rounds ns tol slots many gap k) x) (round-larger p.point p.circles p.units (onward_unspent (rounds ns tol slots few gap k) is f))
            ∙ onward-larger (rounds ns tol slots few gap k) (rounds ns tol slots many gap k) is f later

  from_larger : (cs : List Inscribed) (a : Answer Start) → ((fit_from ns tol slots few cs a).ending ≡ spent → ⊥) → fit_from ns tol slots many cs a ≡ fit_from ns tol slots few cs a
  unfolding fit_from
  from_larger cs (Err n) f = refl
  from_larger cs (Ok s) f = rounds-larger s.gap most_rounds (first_progress s.point cs) f

  fitted-larger : (section_tol : Float) (front : Bool) (old : List Float) (count : ℕ) → ((fitted ns section_tol tol slots few front old count).ending ≡ spent → ⊥)
      → fitted ns section_tol tol slots many front old count ≡ fitted ns section_tol tol slots few front old count
  unfolding fitted fit_reported
  fitted-larger section_tol front old count f =
      let cs : List Inscribed = end_last front (circles_of old count) in
      ap (λ (x : Fit). fit_reported front old x) (from_larger cs (fit_start ns section_tol cs) f)

fit-larger : (limit more : ℕ) → limit ≤ more → (i : EdgeInput) (a : Answer (Unit {0})) → (called_number (fit_after i (under_limit limit) a) ≡ 14 → ⊥) → fit_after i (under_limit more) a ≡ fit_after i (under_limit limit) a
unfolding fit_after
fit-larger limit more h i (Err r) f = refl
fit-larger limit more h i (Ok passed) f =
    ap (λ (x : Report Point2). ran x) (fitted-larger limit more h i.section i.tol (slots i.store) i.section_tol i.at_front i.store i.count (λ e. f (ap ending_number e)))

-- ---- an edge fit ends

module _ (ns : List Float) (tol : Float) (slots : ℕ) (full : ℕ → Bool) where
  -- a round that came to its end
  abbrev Ended : Round → Type 0
  Ended (stops f) = f.ending ≡ unfinished → ⊥
  Ended (goes p) = Unit {0}

  module _ (gap : Gap) where
    move_ends : (cs : List Inscribed) (u : ℕ) (a : Answer Moved) → Ended (after_move cs u a)
    unfolding after_move
    move_ends cs u (Err r) = not-unfinished (Err r)
    move_ends cs u (Ok m) = tt

    refined_ends : (point : Point2) (cs : List Inscribed) (u : ℕ) (e : Ending End) → (e ≡ unfinished → ⊥) → Ended (after_refined gap point cs u e)
    unfolding after_refined
    refined_ends point cs u (ended (Ok done)) n = move_ends cs u (moved_point gap point cs)
    refined_ends point cs u (ended (Err r)) n = not-unfinished (Err r)
    refined_ends point cs u spent n = λ p. let z : ◌≡◌ {A = ℕ} 0 1 = cc in absurd (omega arith)
    refined_ends point cs u unfinished n = λ p. n refl

    probe-ends : (point : Point2) (cs : List Inscribed) (u : ℕ) (a : Answer (Option Inscribed)) → Ended (after_probe ns tol slots full gap point cs u a)
    unfolding after_probe
    probe-ends point cs u (Err r) = not-unfinished (Err r)
    probe-ends point cs u (Ok None) = not-unfinished (Ok point)
    probe-ends point cs u (Ok (Some c)) =
        let o : Final State End = refine_run ns tol slots full cs (c ∷ []) u in
        refined_ends point (circles_in o.state) o.units o.ending (finishes (refine_step ns tol slots) (measure slots) (refine_falls ns tol slots) full (refining cs (c ∷ [])) u)

    onward-ends : (go : Progress → Fit) (is : Round) → Ended is → ((p : Progress) → (go p).ending ≡ unfinished → ⊥) → (onward go is).ending ≡ unfinished → ⊥
    unfolding onward
    onward-ends go (stops f) e later = e
    onward-ends go (goes p) e later = later p

    rounds-end : (k : ℕ) (p : Progress) → (rounds ns tol slots full gap k p).ending ≡ unfinished → ⊥
    unfolding rounds round
    rounds-end zero p = not-unfinished (Ok p.point)
    rounds-end (suc k) p = go (rounds-end k) (le p.drift tol)
      where
        go : ((q : Progress) → (rounds ns tol slots full gap k q).ending ≡ unfinished → ⊥) → (b : Bool)
            → (cond b (fit (ended (Ok p.point)) p.circles p.units) (onward (rounds ns tol slots full gap k) (round ns tol slots full gap p.point p.circles p.units))).ending ≡ unfinished → ⊥
        go later true = not-unfinished (Ok p.point)
        go later false = onward-ends (rounds ns tol slots full gap k) (round ns tol slots full gap p.point p.circles p.units) (probe-ends p.point p.circles p.units (last_pair p.circles >>= probed ns tol gap)) later

  from_ends : (cs : List Inscribed) (a : Answer Start) → (fit_from ns tol slots full cs a).ending ≡ unfinished → ⊥
  unfolding fit_from
  from_ends cs (Err r) = not-unfinished (Err r)
  from_ends cs (Ok s) = rounds-end s.gap most_rounds (first_progress s.point cs)

fit-ends : (i : EdgeInput) (full : ℕ → Bool) (a : Answer (Unit {0})) → Ends (fit_after i full a)
unfolding fit_after fitted fit_reported
fit-ends i full (Err r) = tt
fit-ends i full (Ok passed) =
    let cs : List Inscribed = end_last i.at_front (circles_of i.store i.count) in
    from_ends i.section i.tol (slots i.store) full cs (fit_start i.section i.section_tol cs)

pub fit_law : (i : EdgeInput) (limit : ℕ) → EndingLaw (fit_of i) limit
fit_law i limit = record { ends = fit-ends i (under_limit limit) _; larger = λ more h. fit-larger limit more h i _ }
