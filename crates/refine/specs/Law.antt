-- Demand 3, "the limit law", as one record with a field for each of its sentences. It is stated of what a call gives: `at limit` is that under a limit,
-- `plain` is that of the plain run without one, and `accepted limit` the circles that the plain run under that limit accepts, in its order. Assumes nothing.
use Rattle.std.specs.Prelude.{◌≡◌, List, [], ◌∷◌, ◌++◌, ℕ, ◌+◌, ◌-◌, ◌*◌, ◌≤◌, ◌<◌, min, length, take, drop, Float, None, Ok}
use Rattle.inscribed.specs.Store.{width, circles_of, all_numbers}
use Rattle.circles.specs.Trial.{trial}
use Rattle.inscribed.specs.declared.Inscribed.{Inscribed}
use Rattle.refine.specs.Report.{Called, called_number, store_of, units_of, count_of, Ends}

-- the old last circle, if there is one
abbrev pub old_last : List Float → ℕ → List Inscribed
old_last old count = drop (count - 1) (circles_of old count)

-- "A pair would be refined again unless its trial, later against earlier, adds nothing." No neighbouring pair would.
abbrev pub Settled : List Float → Float → List Inscribed → Type 0
Settled ns tol [] = Unit {0}
Settled ns tol (a ∷ []) = Unit {0}
Settled ns tol (a ∷ (b ∷ cs)) = (trial ns tol a b ≡ Ok None) × Settled ns tol (b ∷ cs)

pub record LimitLaw (section : List Float) (tol : Float) (old : List Float) (count : ℕ)
    (at : ℕ → Called (Unit {0})) (plain : Called (Unit {0})) (accepted : ℕ → List Inscribed) (limit : ℕ) : Type 0 where
  -- the plain run ends, and so does every run under a limit
  pub plain_ends : Ends plain
  pub ends : Ends (at limit)
  -- "the store holds the old circles unchanged, then those that the plain run under that limit accepts, in its order, and every number behind them as it was"
  pub store : store_of (at limit) ≡ take (width * count) old ++ all_numbers (accepted limit) ++ drop (width * (count + length (accepted limit))) old
  pub counted : count_of count (at limit) ≡ count + length (accepted limit)
  -- "no neighbouring pair from the old last on would be refined again"
  pub settled : Settled section tol (old_last old count ++ accepted limit)
  -- "\"spent\" (14) is the ending exactly when the plain run without a limit takes more units than the limit"
  pub spent_if : limit < units_of plain → called_number (at limit) ≡ 14
  pub if_spent : called_number (at limit) ≡ 14 → limit < units_of plain
  -- "the units are the smaller of the two"
  pub units : units_of (at limit) ≡ min limit (units_of plain)
  -- "any other ending is the plain run's, and every larger limit gives the same ending, count, units and whole store"
  pub otherwise : (called_number (at limit) ≡ 14 → ⊥) → at limit ≡ plain
  pub larger : (more : ℕ) → limit ≤ more → (called_number (at limit) ≡ 14 → ⊥) → at more ≡ at limit
  -- "the circles of a spent store are the first ones, bit for bit, of the store at every larger limit"
  pub first : (more : ℕ) → limit ≤ more → take (width * count_of count (at limit)) (store_of (at more)) ≡ take (width * count_of count (at limit)) (store_of (at limit))
  pub fewer : (more : ℕ) → limit ≤ more → count_of count (at limit) ≤ count_of count (at more)

-- "after a finished refinement the offered circle is last"
abbrev pub OfferedLast : Inscribed → (ℕ → Called (Unit {0})) → (ℕ → List Inscribed) → ℕ → Type 0
OfferedLast circle at accepted limit = called_number (at limit) ≡ 0 → (before : List Inscribed) × (accepted limit ≡ before ++ (circle ∷ []))

-- Two slot limits, m the smaller or equal one, "a stated count fitting both": of what two calls give that differ in nothing else.
pub record SlotLaw (m count : ℕ) (old : List Float) (smaller larger : Called (Unit {0})) : Type 0 where
  -- "where the larger run leaves no more circles than the smaller limit, both runs are alike in all"
  pub alike : count_of count larger ≤ m → smaller ≡ larger
  -- "else the smaller ends in 15 with as many of the larger's first circles as its limit"
  pub full : m < count_of count larger → called_number smaller ≡ 15
  pub counted : m < count_of count larger → count_of count smaller ≡ m
  pub first : m < count_of count larger → take (width * m) (store_of smaller) ≡ take (width * m) (store_of larger)
  -- the store behind these is as it was
  pub rest : m < count_of count larger → drop (width * m) (store_of smaller) ≡ drop (width * m) old
  -- the smaller takes no unit that the larger doesn't take
  pub sooner : units_of smaller ≤ units_of larger

-- "An extraction or edge fit has of demand 3 only: an ending other than 14 is the same at larger limits."
pub record EndingLaw {A : Type 0} (at : ℕ → Called A) (limit : ℕ) : Type 0 where
  pub ends : Ends (at limit)
  pub larger : (more : ℕ) → limit ≤ more → (called_number (at limit) ≡ 14 → ⊥) → at more ≡ at limit
