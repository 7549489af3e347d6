-- A march in the part of a store behind its first circles. Assumes nothing.
use mathlib.Core.Path.{◌≡◌, ap}
use mathlib.Core.List.{List, [], ◌∷◌, ◌++◌}
use Prim.Native.Nat.{ℕ, ◌+◌, ◌*◌, ◌≤◌}
use native.Mathlib.Omega.{arith}
use lib.ListN.{take, drop}
use lib.Ieee.{Float}
use Rattle.runs.specs.Run.{Final, under_limit}
use Rattle.inscribed.specs.Store.{width}
use Rattle.inscribed.specs.declared.Inscribed.{Inscribed}
use Rattle.refine.specs.Machine.{State, refining, End}
use Rattle.refine.specs.Report.{RunReport, reported, listed_run}
use Rattle.refine.specs.declared.Run.{Run}
use Rattle.camber.specs.March.{march_run}
use Rattle.camber.proofs.MarchMachine.{march-units}
use Rattle.camber.specs.Extraction.{part_report}

-- the run in the part behind k circles, told of the whole
pub behind-run : (k : ℕ) (store front back : List Float) (r : Run (Unit {0})) (after : List Float) (o : Final State End) → front ≡ take (k * width) store → back ≡ drop (k * width) store → listed_run r after ≡ reported back o
    → listed_run (record { end = r.end; count = k + r.count; units = r.units }) (front ++ after) ≡ part_report k store (reported (drop (k * width) store) o)
unfolding part_report
behind-run k store front back r after o f b e = rw f (ap (λ (x : RunReport). part_report k store x) (rw b at e))

-- what a run tells of the store that it leaves, which has two names
pub told_in : (r : Run (Unit {0})) (store again : List Float) (o : RunReport) → store ≡ again → listed_run r again ≡ o → listed_run r store ≡ o
told_in r store again o same e = rw same e

-- ---- a march's count and units

module _ (ns : List Float) (tol : Float) (slots limit : ℕ) (c : Inscribed) (u : ℕ) (r : Run (Unit {0})) (old after : List Float)
    (is : listed_run r after ≡ reported old (march_run ns tol slots (under_limit limit) (refining [] (c ∷ [])) u)) where
  pub marched_units : u ≤ limit → r.units ≤ limit
  unfolding reported
  marched_units h = omega (arith, ap (λ (x : RunReport). x.units) is, march-units ns tol slots limit (refining [] (c ∷ [])) u h)
