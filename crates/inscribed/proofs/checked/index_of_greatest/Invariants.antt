-- `index_of_greatest` compares one radius after the other. The loop keeps that what is told of the circles left, after the best so far, is what is told of all. Assumes nothing.
use Rattle.std.proofs.Common.{◌≡◌, ℕ, ◌<◌, List, length, drop, get_or}
use Rattle.std.specs.Prelude.{Float}
use Rattle.inscribed.specs.declared.Inscribed.{Inscribed}
use Rattle.inscribed.specs.Lists.{tmax, tmax_from}
use Rattle.inscribed.proofs.checked.index_of_greatest.Given as goal

abbrev pub invariant-loop-k : goal.invariant-loop-k
invariant-loop-k g l =
    (cs : List Inscribed) (d : Inscribed) → length cs ≡ l.count → ((k : ℕ) (r : Float) → k < l.count → goal.F-post g l.radius k r → r ≡ (get_or cs k d).r) → tmax_from l.best l.most l.k (drop l.k cs) ≡ tmax cs
