use Rattle.std.proofs.Common.{subst}
use Rattle.java_reader.specs.Files.{IsRefusedFor}
use Rattle.dj_run.specs.JavaFiles.{no_tokens, no_classes, repeated}
use Rattle.dj_run.proofs.typechecking.java_outcome.Goals as goal

pub refused_java-requires-clause-refused : goal.refused_java-requires-clause-refused
refused_java-requires-clause-refused c =
    no_tokens c.in-Err-Lex.fault c.requires (subst (IsRefusedFor c.args.bytes.now) c.in-Err-Lex.field-0-is (c.in-Err-Lex.ensures.refused (λ e. cc)))

pub refused_java-requires-in-Err-Syntax-clause-refused : goal.refused_java-requires-in-Err-Syntax-clause-refused
refused_java-requires-in-Err-Syntax-clause-refused c =
    no_classes c.in-Err-Syntax.at c.requires (subst (IsRefusedFor c.args.bytes.now) c.in-Err-Syntax.field-0-is (c.in-Err-Syntax.ensures.refused (λ e. cc)))

pub refused_java-requires-in-Err-Repeated-clause-refused : goal.refused_java-requires-in-Err-Repeated-clause-refused
refused_java-requires-in-Err-Repeated-clause-refused c =
    repeated c.in-Err-Repeated.fault c.in-Err-Repeated.at c.requires
    (subst (IsRefusedFor c.args.bytes.now) c.in-Err-Repeated.field-0-is (c.in-Err-Repeated.ensures.refused (λ e. cc)))
