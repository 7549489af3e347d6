-- How long a record is, and the longest. Assumes nothing.
use Rattle.record.proofs.RoundTrips.{length_law, longest_written}
use Rattle.record.proofs.laws.length_law.Goals as goal

pub returns-clause-written : goal.returns-clause-written
returns-clause-written c = length_law

pub returns-clause-reached : goal.returns-clause-reached
returns-clause-reached c = longest_written
