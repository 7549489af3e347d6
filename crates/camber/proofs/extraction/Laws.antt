-- What follows the first march of an extraction. Assumes nothing.
use mathlib.Core.Path.{◌≡◌, refl, sym, ap, ◌∙◌}
use mathlib.Core.List.{List, map}
use Prim.Native.Nat.{ℕ}
use native.Mathlib.Omega.{arith}
use lib.ListN.{length, length-map, length-reverse}
use lib.Ieee.{Float}
use Rattle.std.specs.Prelude.{Ok, Err}
use Rattle.runs.specs.Run.{Ending, ended, spent, unfinished, Final, under_limit}
use Rattle.inscribed.specs.Circles.{reversed_points}
use Rattle.inscribed.specs.Store.{circles_of, stored, slots_within}
use Rattle.inscribed.specs.declared.Inscribed.{Inscribed}
use Rattle.inscribed.specs.Lists.{turned}
use Rattle.refine.specs.Machine.{State, circles_in, End, finished}
use Rattle.refine.specs.Report.{RunReport, reported, listed_end, listed_run}
use Rattle.refine.specs.declared.Run.{Run}
use Rattle.camber.specs.March.{Marched, started_run}
use Rattle.inscribed.proofs.StoreLaws.{stored_longer, circles_of-stored}
use Rattle.camber.specs.Extraction.{second_half, after_first, first_half}

length-turned : (cs : List Inscribed) → length (turned cs) ≡ length cs
unfolding turned
length-turned cs = length-reverse (map reversed_points cs) ∙ length-map cs reversed_points

module _ (m : Marched) (limit : ℕ) (c : Inscribed) (r : Run (Unit {0})) (after : List Float) (is : listed_run r after ≡ reported m.store (started_run m (under_limit limit) c)) where
  abbrev first : Final State End
  first = started_run m (under_limit limit) c

  ending_is : listed_end r.end ≡ first.ending
  unfolding reported
  ending_is = ap (λ (x : RunReport). x.ending) is

  pub first_over : (listed_end r.end ≡ ended finished → ⊥) → listed_run r after ≡ first_half m (under_limit limit) c
  unfolding after_first
  first_over f = is ∙ over first.ending (λ e. f (ending_is ∙ e))
    where
      over : (x : Ending End) → (x ≡ ended finished → ⊥) → reported m.store first ≡ after_first m (under_limit limit) first x
      over (ended (Ok done)) g = absurd (g refl)
      over (ended (Err n)) g = refl
      over spent g = refl
      over unfinished g = refl

  module _ (e : listed_end r.end ≡ ended finished) where
    abbrev cs : List Inscribed
    cs = circles_in first.state

    store_is : after ≡ stored cs m.store
    unfolding reported
    store_is = ap (λ (x : RunReport). x.store) is

    count_is : r.count ≡ length cs
    unfolding reported
    count_is = ap (λ (x : RunReport). x.count) is

    units_is : r.units ≡ first.units
    unfolding reported
    units_is = ap (λ (x : RunReport). x.units) is

    held : circles_of after r.count ≡ cs
    held = rw (store_is, count_is) (circles_of-stored cs m.store)

    turned-over : stored (turned cs) after ≡ stored (turned cs) m.store
    turned-over = rw store_is (stored_longer (turned cs) cs m.store (omega (arith, length-turned cs)))

    pub first_done : second_half m.section m.tol m.line (slots_within m.slot_limit m.store) (under_limit limit) after (circles_of after r.count) r.units ≡ first_half m (under_limit limit) c
    unfolding after_first second_half
    first_done = rw (sym ending_is ∙ e, held, units_is, turned-over)
