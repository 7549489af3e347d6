-- `keep_all` is cleaning. The loop keeps that what is left, after what is held, is the whole. Assumes nothing.
use Rattle.std.proofs.Common.{◌≡◌, ◌*◌, ◌≤◌, drop}
use Rattle.curve2.specs.Section.{points_of}
use Rattle.cleaning.proofs.HeldLaws.{keep_all}
use Rattle.cleaning.proofs.checked.Uncleaned.keep_all.Given as goal

abbrev pub invariant-loop-i : goal.invariant-loop-i
invariant-loop-i l =
    (l.k.count ≤ l.i) × (keep_all l.self.tol (record { kept = l.k; output = l.out }) (points_of (drop (2 * l.i) l.self.points.now)) ≡ keep_all l.self.tol (record { kept = l.initial.k; output = l.initial.out }) (points_of (drop 2 l.self.points.now)))
