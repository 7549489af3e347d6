-- The circles of a list offered again, each by a refinement of its own. Assumes nothing.
use Rattle.std.specs.Prelude.{cond, List, [], ◌∷◌, ℕ, ◌+◌, eqb, Float}
use Rattle.errors.specs.Answer.{number_of}
use Rattle.inscribed.specs.declared.Inscribed.{Inscribed}
use Rattle.refine.specs.Report.{RunReport, Called, refused_on_entry, ran, ending_number}
use Rattle.refine.specs.Refinement.{Offer, refine_of}

-- what calls in order come to: the number of the first ending that isn't 0, else 0; and by then the count, the units of all together and the store
pub record InOrder : Type 0 where
  pub number : ℕ
  pub count : ℕ
  pub units : ℕ
  pub store : List Float

abbrev pub in_order : ℕ → ℕ → ℕ → List Float → InOrder
in_order k n u store = record { number = k; count = n; units = u; store = store }

-- after one call: the next, where it is finished
unfoldable pub after_call : ℕ → ℕ → (RunReport → InOrder) → Called (Unit {0}) → InOrder
after_call n u go (refused_on_entry r store) = in_order (number_of r) n u store
after_call n u go (ran r) = cond (eqb (ending_number r.ending) 0) (go r) (in_order (ending_number r.ending) r.count (u + r.units) r.store)

-- "offer them in order": each by a call of its own, with the store and the count that the one before left, and the same limit for each. `o` has the first store and count; its circle isn't read.
unfoldable pub called_in_order : Offer → ℕ → List Inscribed → ℕ → InOrder
unfolding after_call
called_in_order o limit [] u = in_order 0 o.count u o.store
called_in_order o limit (c ∷ cs) u =
    let go : RunReport → InOrder = λ r. called_in_order (record o { store = r.store; count = r.count; circle = c }) limit cs (u + r.units) in
    after_call o.count u go (refine_of (record o { circle = c }) limit)
