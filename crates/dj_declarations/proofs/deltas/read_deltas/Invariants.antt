use Rattle.std.proofs.Common.{◌≡◌, ◌≤◌, length, map}
use Rattle.dj_lexer.specs.Symbols.{symbols_of}
use Rattle.dj_reader.specs.Combining.{to_end}
use Rattle.dj_reader.proofs.Loops.{with_front}
use Rattle.dj_lexer.specs.declared.token.Dialect.TheVariants.{Line}
use Rattle.dj_expr_reader.specs.Laws.{expr_trees}
use Rattle.dj_declarations.specs.Readings.{delta_reading}
use Rattle.dj_declarations.specs.View.{delta_view}
use Rattle.dj_declarations.proofs.deltas.read_deltas.Given as goal

abbrev pub invariant-pieces : goal.invariant-pieces
invariant-pieces l =
    (with_front (map (delta_view l.bytes) l.deltas.items) (to_end (delta_reading (expr_trees Line)) (symbols_of l.bytes l.rest))
    ≡ to_end (delta_reading (expr_trees Line)) (symbols_of l.bytes l.tokens))
    × (length l.rest ≤ length l.tokens)

abbrev pub decreases-pieces : goal.decreases-pieces
decreases-pieces l = length l.rest
