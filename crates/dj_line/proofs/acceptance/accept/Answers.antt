use Rattle.dj_tree.specs.Plain.{plain_source}
use Rattle.dj_line.proofs.SourceAnswers.{given_exactly, refused_exactly}
use Rattle.dj_line.proofs.acceptance.accept.Goals as goal

pub returns-clause-given : goal.returns-clause-given
returns-clause-given c = λ some. given_exactly (plain_source c.args.source) c.judged.result c.judged.ensures some

pub returns-clause-refused : goal.returns-clause-refused
returns-clause-refused c = λ fault at some. refused_exactly (plain_source c.args.source) fault at c.judged.result c.judged.ensures some
