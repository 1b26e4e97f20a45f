use Rattle.std.proofs.Common.{◌≡◌, ◌≤◌, length, map}
use Rattle.dj_lexer.specs.Symbols.{symbols_of}
use Rattle.dj_reader.specs.Combining.{to_end}
use Rattle.dj_reader.proofs.Loops.{with_front}
use Rattle.dj_expr_reader.specs.Laws.{expr_trees}
use Rattle.dj_declarations.specs.Readings.{class_reading}
use Rattle.dj_declarations.specs.View.{class_view}
use Rattle.dj_declarations.proofs.classes.read_classes.Given as goal

abbrev pub invariant-pieces : goal.invariant-pieces
invariant-pieces l =
    (with_front (map (class_view l.bytes) l.classes.items) (to_end (class_reading (expr_trees l.dialect)) (symbols_of l.bytes l.rest))
    ≡ to_end (class_reading (expr_trees l.dialect)) (symbols_of l.bytes l.tokens))
    × (length l.rest ≤ length l.tokens)

abbrev pub decreases-pieces : goal.decreases-pieces
decreases-pieces l = length l.rest
