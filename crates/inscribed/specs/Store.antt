-- The store of circles: "the caller's f64 slice with a count of circles in use, packed from its start", its entry tests, and the circles from a stated place on. Assumes nothing.
use Rattle.std.specs.Prelude.{Bool, false, not, ◌&&◌, ◌||◌, List, [], ◌∷◌, ◌++◌, ℕ, zero, suc, ◌+◌, ◌*◌, ◌/◌, min, ◌-◌, ltb, length, get_or, drop, take, Float, Ok, Err}
use Rattle.std.specs.Float.{nan}
use Rattle.std.specs.Float.Ieee.{lt}
use Rattle.std.specs.Float.Ieee.Scale.{finite}
use Rattle.points.specs.Numbers.{f0}
use Rattle.inscribed.specs.declared.Inscribed.{Inscribed}
use Rattle.errors.specs.Answer.{Answer}
use Rattle.curve2.specs.Entry.{tested}
use Rattle.errors.specs.declared.Refusal.TheVariants.{BadNumber, NoRoom}

-- a circle's numbers, in stored order, and how many they are
abbrev pub width : ℕ
width = 9

unfoldable pub numbers_of : Inscribed → List Float
numbers_of c = c.cx ∷ c.cy ∷ c.r ∷ c.p0x ∷ c.p0y ∷ c.p1x ∷ c.p1y ∷ c.l0 ∷ c.l1 ∷ []

-- the circle whose numbers start at i
unfoldable pub circle_from : List Float → ℕ → Inscribed
circle_from ns i =
    record { cx = get_or ns i nan; cy = get_or ns (i + 1) nan; r = get_or ns (i + 2) nan; p0x = get_or ns (i + 3) nan; p0y = get_or ns (i + 4) nan; p1x = get_or ns (i + 5) nan; p1y = get_or ns (i + 6) nan; l0 = get_or ns (i + 7) nan; l1 = get_or ns (i + 8) nan }

-- the circle in slot k
abbrev pub circle_at : List Float → ℕ → Inscribed
circle_at ns k = circle_from ns (k * width)

-- "its length divided by nine", rounded down, "and at most 1,024"
abbrev pub most_slots : ℕ
most_slots = 1024

-- the cell's program has slots for 256: by its entries "a store holds at most 256"
abbrev pub cell_slots : ℕ
cell_slots = 256

-- of a store that holds no more than a slot limit
abbrev pub slots_within : ℕ → List Float → ℕ
slots_within slot_limit ns = min (length ns / width) slot_limit

abbrev pub slots : List Float → ℕ
slots ns = slots_within most_slots ns

-- the circles in the first n slots, first to last
unfoldable pub circles_from : List Float → ℕ → ℕ → List Inscribed
circles_from ns k zero = []
circles_from ns k (suc n) = circle_at ns k ∷ circles_from ns (suc k) n

abbrev pub circles_of : List Float → ℕ → List Inscribed
circles_of ns n = circles_from ns 0 n

-- ---- what a store holds after a run: the circles from its start on, every number behind them as it was

unfoldable pub all_numbers : List Inscribed → List Float
unfolding numbers_of
all_numbers [] = []
all_numbers (c ∷ cs) = numbers_of c ++ all_numbers cs

unfoldable pub stored : List Inscribed → List Float → List Float
stored cs old = all_numbers cs ++ drop (width * length cs) old

-- ---- entry tests of a store with a stated count

-- the centre and both contacts
abbrev pub finite_points : Inscribed → Bool
finite_points c = (finite c.cx && finite c.cy) && ((finite c.p0x && finite c.p0y) && (finite c.p1x && finite c.p1y))

-- a radius or a length along: not finite, or below zero
abbrev pub bad_length : Float → Bool
bad_length x = not (finite x) || lt x f0

-- 2: a number of a circle that "isn't finite", or "a circle's radius is below zero"; 02 (f): "A circle handed in with either length along below zero is refused with 2."
unfoldable pub bad_circle : Inscribed → Bool
bad_circle c = not (finite_points c) || (bad_length c.r || (bad_length c.l0 || bad_length c.l1))

unfoldable pub any_bad : List Inscribed → Bool
unfolding bad_circle
any_bad [] = false
any_bad (c ∷ cs) = bad_circle c || any_bad cs

-- "of a store only the circles in use, as far as it holds them, are tested"
abbrev pub bad_store_within : ℕ → List Float → ℕ → Bool
bad_store_within slot_limit ns count = any_bad (circles_of ns (min count (slots_within slot_limit ns)))

abbrev pub bad_store : List Float → ℕ → Bool
bad_store ns count = bad_store_within most_slots ns count

-- 4: "stated count above what the store holds"
abbrev pub bad_count_within : ℕ → List Float → ℕ → Bool
bad_count_within slot_limit ns count = ltb (slots_within slot_limit ns) count

abbrev pub bad_store_count : List Float → ℕ → Bool
bad_store_count ns count = bad_count_within most_slots ns count

-- whether the circles from a place on can be handed out: 2 for a bad circle in use, 4 for a count above what the store holds or a place above the count
unfoldable pub circles_entry : List Float → ℕ → ℕ → Answer (Unit {0})
circles_entry ns count place = tested ((BadNumber, bad_store ns count) ∷ (NoRoom, bad_store_count ns count || ltb count place) ∷ [])

-- numbers that are handed out only where the entry passed
abbrev pub if_passed : Answer (Unit {0}) → List Float → List Float
if_passed (Ok u) part = part
if_passed (Err r) part = []

-- the numbers of the circles in use from a place on
unfoldable pub numbers_from : List Float → ℕ → ℕ → List Float
unfolding circles_entry
numbers_from ns count place = if_passed (circles_entry ns count place) (take ((count - place) * width) (drop (place * width) ns))
