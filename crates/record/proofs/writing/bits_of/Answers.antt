use Rattle.errors.proofs.Laws.{told}
use Rattle.record.proofs.Words.{nan_word}
use Rattle.record.proofs.writing.bits_of.Goals as goal

pub returns-then-is_nan : goal.returns-then-is_nan
returns-then-is_nan c = nan_word c.args.x (told c.is_nan.ensures.value c.if-is_nan.true)
