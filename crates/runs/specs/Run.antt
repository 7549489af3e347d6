-- A run goes from state to state. At each one its machine says what comes next: the end, a step that costs nothing, or a step that wants one unit first.
-- A limit ends the run where a unit is wanted and none is left: it is spent, in the state that it had. Assumes nothing.
use Rattle.std.specs.Prelude.{Bool, false, cond, ℕ, zero, suc, leb}

pub data Move (S E : Type 0) : Type 0 where
  ends : E → Move S E
  goes : S → Move S E
  pays : S → Move S E

-- `unfinished` never comes: see `finishes`
pub data Ending (E : Type 0) : Type 0 where
  ended : E → Ending E
  spent : Ending E
  unfinished : Ending E

pub record Final (S E : Type 0) : Type 0 where
  pub ending : Ending E
  pub state : S
  pub units : ℕ

abbrev pub final_of : {S E : Type 0} → Ending E → S → ℕ → Final S E
final_of e s u = record { ending = e; state = s; units = u }

-- whether no unit may follow u of them: under a limit, and without one
abbrev pub under_limit : ℕ → ℕ → Bool
under_limit limit u = leb limit u

abbrev pub never : ℕ → Bool
never u = false

-- what follows a state that u units have led to
unfoldable pub next : {S E : Type 0} → (ℕ → Bool) → (S → ℕ → Final S E) → S → ℕ → Move S E → Final S E
next full go s u (ends e) = final_of (ended e) s u
next full go s u (goes t) = go t u
next full go s u (pays t) = let r = go t (suc u) in cond (full u) (final_of spent s u) r

-- as many states as there is fuel
unfoldable pub run : {S E : Type 0} → (S → Move S E) → (ℕ → Bool) → ℕ → S → ℕ → Final S E
unfolding next
run step full zero s u = final_of unfinished s u
run step full (suc fuel) s u = next full (run step full fuel) s u (step s)

-- A measure that falls at each step says how much fuel is enough.
unfoldable pub whole : {S E : Type 0} → (S → Move S E) → (S → ℕ) → (ℕ → Bool) → S → ℕ → Final S E
unfolding run
whole step measure full s u = run step full (suc (measure s)) s u
