use Rattle.dj_lexer.specs.Symbols.{symbols_of}
use Rattle.dj_nodes.proofs.Forms.{expr_order}
use Rattle.dj_declarations.proofs.Fewer.{fewer_left}
use Rattle.dj_declarations.proofs.trees.expression.Goals as goal

pub new-requires : goal.new-requires
new-requires c =
    let taken = (c.expressions_are_read.ensures.nodes c.args.dialect).sound (symbols_of c.args.bytes.now c.args.tokens.now) (symbols_of c.args.bytes.now c.in_ok-marks.rest.now) _ c.in_ok-marks.ensures in
    expr_order c.args.dialect c.args.bytes.now taken.front c.in_ok-marks.marks.items taken.spelled

pub returns-clause-fewer : goal.returns-clause-fewer
returns-clause-fewer c = fewer_left (c.expressions_are_read.ensures.nodes c.args.dialect) c.args.bytes.now c.args.tokens.now c.in_ok-marks.rest.now _ c.in_ok-marks.ensures
