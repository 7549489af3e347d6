-- What is asked of a store of circles: each call makes the entry tests (2, 4), and then its step. The thickest is asked of a slice of records too. Assumes nothing.
use Rattle.std.specs.Prelude.{◌≡◌, List, [], ◌∷◌, ℕ, Float, Ok, Err}
use Rattle.errors.specs.Answer.{Answer, ◌>>=◌}
use Rattle.line2.specs.declared.Line2.{Line2}
use Rattle.curve2.specs.Entry.{tested}
use Rattle.inscribed.specs.Store.{circles_of, stored, bad_store, bad_store_count, any_bad}
use Rattle.inscribed.specs.declared.Inscribed.{Inscribed}
use Rattle.lists.specs.Ends.{last_pair, clip_line}
use Rattle.inscribed.specs.Lists.{front_and_back, tmax, average_spacing}
use Rattle.inscribed.specs.declared.FrontAndBack.{FrontAndBack}
use Rattle.errors.specs.declared.Refusal.TheVariants.{BadNumber, NoRoom}

-- 2 for a bad circle in use, as far as the store holds them; 4 for a count above what it holds
unfoldable pub store_entry : List Float → ℕ → Answer (Unit {0})
store_entry ns count = tested ((BadNumber, bad_store ns count) ∷ (NoRoom, bad_store_count ns count) ∷ [])

-- ---- what is told

unfoldable pub ends_asked : List Float → ℕ → Answer FrontAndBack
ends_asked ns count = store_entry ns count >>= λ passed. front_and_back (circles_of ns count)

unfoldable pub tmax_asked : List Float → ℕ → Answer ℕ
tmax_asked ns count = store_entry ns count >>= λ passed. Ok (tmax (circles_of ns count))

unfoldable pub spacing_asked : List Float → ℕ → Answer Float
spacing_asked ns count = store_entry ns count >>= λ passed. average_spacing (circles_of ns count)

-- `end_clip_line`: 7, 11, 12
unfoldable pub clip_asked : List Float → ℕ → Answer Line2
clip_asked ns count = store_entry ns count >>= λ passed. last_pair (circles_of ns count) >>= clip_line

-- ---- what is changed

-- "Refusals on entry .. change no memory"
abbrev pub unless_refused : Answer (Unit {0}) → List Float → List Float → List Float
unless_refused (Ok passed) new old = new
unless_refused (Err r) new old = old

-- Both together: the answer r of a call that makes f of the circles in use, and the store before and after it.
pub record Changed (f : List Inscribed → List Inscribed) (old : List Float) (count : ℕ) (new : List Float) (r : Answer (Unit {0})) : Type 0 where
  pub listed : r ≡ store_entry old count
  pub output : new ≡ unless_refused (store_entry old count) (stored (f (circles_of old count)) old) old

-- ---- a slice of records

-- 2 for a bad circle; a slice has no stated count, so nothing is 4
unfoldable pub tmax_records : List Inscribed → Answer ℕ
tmax_records cs = tested ((BadNumber, any_bad cs) ∷ []) >>= λ passed. Ok (tmax cs)
