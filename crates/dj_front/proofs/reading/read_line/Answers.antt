use Rattle.dj_front.proofs.Stages.{given_of}
use Rattle.dj_front.proofs.reading.read_line.Goals as goal

pub returns-clause-given : goal.returns-clause-given
returns-clause-given c = given_of c.args.bytes.now c.line_of.result c.one_answer.ensures.no_refused_line c.line_of.ensures.line
