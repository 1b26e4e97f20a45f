use Rattle.dj_lexer.specs.Symbols.{symbols_of}
use Rattle.dj_nodes.proofs.Forms.{formula_order}
use Rattle.dj_declarations.proofs.trees.formula.Goals as goal

pub new-requires : goal.new-requires
new-requires c =
    let taken = c.formulas_are_read.ensures.nodes.sound (symbols_of c.args.bytes.now c.args.tokens.now) (symbols_of c.args.bytes.now c.in_ok-marks.rest.now) _ c.in_ok-marks.ensures.answers in
    formula_order c.args.bytes.now taken.front c.in_ok-marks.marks.items taken.spelled
