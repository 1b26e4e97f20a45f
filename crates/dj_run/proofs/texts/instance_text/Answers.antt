use Rattle.dj_run.proofs.texts.instance_text.Goals as goal
use Rattle.dj_line.specs.Lines.{plain_line}

pub no_text-requires-clause-said : goal.no_text-requires-clause-said
no_text-requires-clause-said c =
    let file = c.requires.says in
    c.line_instances_are_said.ensures c.args.bytes.now (plain_line c.args.line.now) c.args.chosen.now.chosen.items c.args.instance.now
    (record { tokens = file.tokens; lexed = file.has.lexed; spelled = file.spelled }) file.accepted c.requires.least.is.stands
