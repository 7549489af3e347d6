-- What is written is read again, of a store whose numbers have 64 bits by their type. Assumes nothing.
use Rattle.record.proofs.RoundTrips.{written_law}
use Rattle.record.proofs.laws.written_law.Goals as goal

pub returns : goal.returns
returns c = λ count room bytes wrote fits. written_law c.args.store.now count room bytes wrote c.args.other.now (λ k. c.type_inv.store k) fits
