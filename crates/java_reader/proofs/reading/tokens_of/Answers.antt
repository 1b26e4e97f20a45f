use Rattle.std.proofs.Common.{ap, Err}
use Rattle.java_reader.proofs.Stages.{lex_refused}
use Rattle.java_reader.proofs.reading.tokens_of.Goals as goal

pub returns-in-Err : goal.returns-in-Err
returns-in-Err c =
    let refused = c.in-Err.ensures.refused in
    record { tokens = rw c.token_error.ensures (lex_refused c.args.bytes.now c.in-Err.error (λ f other. let both = refused f (λ e. other cc) in (λ is. both.0 (ap Err is), λ first. let e = both.1 first in cc))) }
