use Rattle.dj_line.specs.Lines.{plain_line}
use Rattle.dj_line.proofs.OrderWords.{given_exactly, refused_exactly}
use Rattle.dj_line.proofs.line.Line.order_of.Goals as goal

pub returns-clause-given : goal.returns-clause-given
returns-clause-given c = λ some. given_exactly (plain_line c.args.self.now) c.args.config.now.chosen.items c.args.word.now c.word_order.result c.word_order.ensures.answer some

pub returns-clause-refused : goal.returns-clause-refused
returns-clause-refused c = λ fault some. refused_exactly (plain_line c.args.self.now) c.args.config.now.chosen.items c.args.word.now fault c.word_order.result c.word_order.ensures.answer some
