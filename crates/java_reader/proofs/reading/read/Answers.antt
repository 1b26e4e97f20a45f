use Rattle.java_reader.proofs.Stages.{given, reason}
use Rattle.java_reader.proofs.reading.read.Goals as goal

pub returns-clause-given : goal.returns-clause-given
returns-clause-given c = given c.args.bytes.now c.one_answer.ensures.no_refused_table c.one_answer.ensures.one_refusal c.file_table.result c.file_table.ensures.table

pub returns-clause-reason : goal.returns-clause-reason
returns-clause-reason c = reason c.args.bytes.now c.one_answer.ensures.no_refused_table c.one_answer.ensures.one_refusal c.file_table.result c.file_table.ensures.table
