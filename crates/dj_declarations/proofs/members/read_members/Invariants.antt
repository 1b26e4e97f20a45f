use Rattle.std.proofs.Common.{◌≡◌, ◌≤◌, length, map, codes}
use Rattle.dj_lexer.specs.Symbols.{symbols_of}
use Rattle.dj_reader.specs.Terminals.{is_the_sign}
use Rattle.dj_reader.specs.Combining.{until}
use Rattle.dj_reader.proofs.Loops.{with_front}
use Rattle.dj_expr_reader.specs.Laws.{expr_trees}
use Rattle.dj_declarations.specs.Readings.{member_reading}
use Rattle.dj_declarations.specs.View.{member_view}
use Rattle.dj_declarations.proofs.members.read_members.Given as goal

abbrev pub invariant-pieces : goal.invariant-pieces
invariant-pieces l =
    (with_front (map (member_view l.bytes) l.members.items) (until (is_the_sign (codes "}")) (member_reading (expr_trees l.dialect)) (symbols_of l.bytes l.rest))
    ≡ until (is_the_sign (codes "}")) (member_reading (expr_trees l.dialect)) (symbols_of l.bytes l.tokens))
    × (length l.rest ≤ length l.tokens)

abbrev pub decreases-pieces : goal.decreases-pieces
decreases-pieces l = length l.rest
