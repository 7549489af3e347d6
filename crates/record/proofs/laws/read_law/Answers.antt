-- What is read is written again, of bytes that are below 256 by their type. Assumes nothing.
use native.Mathlib.Omega.{arith}
use Rattle.record.proofs.RoundTrips.{read_law}
use Rattle.record.proofs.laws.read_law.Goals as goal

pub returns : goal.returns
returns c = λ circles read. read_law c.args.bytes.now c.args.store.now circles (λ k. omega (arith, c.type_inv.bytes k)) read
