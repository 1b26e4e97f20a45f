use Rattle.std.proofs.Common.{ap, Err}
use Rattle.java_reader.specs.Files.{no_classes}
use Rattle.java_reader.proofs.reading.source_of.Goals as goal

pub returns-in-Err-Syntax : goal.returns-in-Err-Syntax
returns-in-Err-Syntax c =
    let at = c.in-Err-Syntax.at in
    let is = c.in-Err-Syntax.field-0-is in
    record { source = λ _. no_classes c.args.tokens.now.list at c.requires.tokens ((c.in-Err-Syntax.ensures.syntax at (λ e. cc)).0 (ap Err is)) }
