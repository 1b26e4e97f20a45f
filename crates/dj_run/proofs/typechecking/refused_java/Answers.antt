use Rattle.dj_run.specs.Answers.{java_refused}
use Rattle.dj_run.proofs.JavaSayable.{java_sayable}
use Rattle.dj_run.proofs.typechecking.refused_java.Goals as goal

pub refusal_text-requires-clause-within : goal.refusal_text-requires-clause-within
refusal_text-requires-clause-within c =
    (java_sayable c.token_spans.ensures.tokens_are_spans c.java_faults_are_said.ensures c.args.bytes.now c.args.refusal.now c.requires.refused).0

pub refusal_text-requires-clause-named : goal.refusal_text-requires-clause-named
refusal_text-requires-clause-named c =
    (java_sayable c.token_spans.ensures.tokens_are_spans c.java_faults_are_said.ensures c.args.bytes.now c.args.refusal.now c.requires.refused).1

pub returns : goal.returns
returns c = java_refused c.args.refusal.now c.in_ok-refusal_text.field-0.items c.requires.refused c.in_ok-refusal_text.ensures
