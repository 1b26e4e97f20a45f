use Rattle.dj_run.specs.Answers.{typed}
use Rattle.ifj_table.specs.Tables.{plain_table}
use Rattle.dj_run.proofs.typechecking.table_outcome.Goals as goal

pub returns-in-Ok : goal.returns-in-Ok
returns-in-Ok c = typed (plain_table c.args.table.now) c.requires.short c.requires.file c.in-Ok.ensures.typed
