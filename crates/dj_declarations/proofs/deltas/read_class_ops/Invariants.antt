use Rattle.std.proofs.Common.{◌≡◌, ◌≤◌, length, map, codes}
use Rattle.dj_lexer.specs.Symbols.{symbols_of}
use Rattle.dj_reader.specs.Terminals.{is_the_sign}
use Rattle.dj_reader.specs.Combining.{until}
use Rattle.dj_reader.proofs.Loops.{with_front}
use Rattle.dj_lexer.specs.declared.token.Dialect.TheVariants.{Line}
use Rattle.dj_expr_reader.specs.Laws.{expr_trees}
use Rattle.dj_declarations.specs.Readings.{operation_reading}
use Rattle.dj_declarations.specs.View.{class_op_view}
use Rattle.dj_declarations.proofs.deltas.read_class_ops.Given as goal

abbrev pub invariant-pieces : goal.invariant-pieces
invariant-pieces l =
    (with_front (map (class_op_view l.bytes) l.ops.items) (until (is_the_sign (codes "}")) (operation_reading (expr_trees Line)) (symbols_of l.bytes l.rest))
    ≡ until (is_the_sign (codes "}")) (operation_reading (expr_trees Line)) (symbols_of l.bytes l.tokens))
    × (length l.rest ≤ length l.tokens)

abbrev pub decreases-pieces : goal.decreases-pieces
decreases-pieces l = length l.rest
