use Rattle.std.proofs.Common.{refl, Err, ap, arith}
use Rattle.dj_lexer.specs.declared.token.TheConstants.{MAX_LENGTH}
use Rattle.dj_run.proofs.Answering.{too_many}
use Rattle.dj_run.proofs.reading.read_file.Goals as goal

pub returns-in-Ok-clause-read : goal.returns-in-Ok-clause-read
returns-in-Ok-clause-read g c = (c.in-Ok.bytes.items, c.in-Ok.ensures.whole, (refl, omega (arith, c.in-Ok.ensures.within_limit, c.in-Ok.bytes.ok.0)))

pub returns-in-Err-TooLong-clause-read : goal.returns-in-Err-TooLong-clause-read
returns-in-Err-TooLong-clause-read g c =
    too_many MAX_LENGTH (g.F.Files.left c.args.files.now c.args.file.now) (c.in-Err-TooLong.ensures.too_long (ap Err c.in-Err-TooLong.field-0-is))
