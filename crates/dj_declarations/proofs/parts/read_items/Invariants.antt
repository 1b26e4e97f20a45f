use Rattle.std.proofs.Common.{◌≡◌, ◌≤◌, length, map}
use Rattle.std.specs.Prelude.{codes}
use Rattle.dj_lexer.specs.Symbols.{symbols_of}
use Rattle.dj_reader.specs.Terminals.{is_the_sign}
use Rattle.dj_reader.specs.Combining.{until}
use Rattle.dj_reader.proofs.Loops.{with_front}
use Rattle.dj_formula_reader.specs.Laws.{formula_trees}
use Rattle.dj_declarations.specs.Readings.{item_reading}
use Rattle.dj_declarations.specs.View.{item_view}
use Rattle.dj_declarations.proofs.parts.read_items.Given as goal

-- what was read, in front of what is still read, is what all reads
abbrev pub invariant-pieces : goal.invariant-pieces
invariant-pieces l =
    let read = until (is_the_sign (codes "}")) (item_reading formula_trees) in
    (with_front (map (item_view l.bytes) l.items.items) (read (symbols_of l.bytes l.rest)) ≡ read (symbols_of l.bytes l.tokens)) × (length l.rest ≤ length l.tokens)

abbrev pub decreases-pieces : goal.decreases-pieces
decreases-pieces l = length l.rest
