use Rattle.std.proofs.Common.{sym, subst}
use Rattle.dj_calculus.specs.TableRules.{StandsIn}
use Rattle.ifj_table.specs.Tables.{plain_table}
use Rattle.dj_run.specs.Answers.{refuted, Typechecks, untyped}
use Rattle.dj_run.proofs.typechecking.untyped_outcome.Goals as goal

pub rule_text-requires-clause-said : goal.rule_text-requires-clause-said
rule_text-requires-clause-said c =
    let reads = c.requires.file.reads in
    c.java_instances_are_said.ensures c.args.bytes.now reads.classes c.args.instance.now
    (record { tokens = reads.tokens; lexed = reads.lexed; spelled = reads.spelled })
    (subst (λ t. StandsIn t c.args.instance.now) reads.made c.requires.least.is.stands)

pub returns : goal.returns
returns c =
    subst (λ text. Typechecks c.args.bytes.now (refuted text)) (sym (rw c.deref.ensures.value at c.in_ok-no_line.ensures))
    (untyped (plain_table c.args.table.now) c.args.instance.now c.in_ok-why.why.items c.requires.short c.requires.file c.requires.least c.in_ok-why.ensures)
