use Rattle.std.proofs.Common.{◌≡◌, ◌∷◌, ◌≤◌, length, map, codes}
use Rattle.dj_lexer.specs.Symbols.{symbols_of}
use Rattle.dj_reader.specs.Terminals.{is_the_sign}
use Rattle.dj_reader.specs.Combining.{mapped, until, comma_and}
use Rattle.dj_reader.proofs.Loops.{with_front}
use Rattle.dj_declarations.specs.Readings.{typed_reading}
use Rattle.dj_declarations.specs.View.{field_view}
use Rattle.dj_declarations.proofs.members.read_more_typed.Given as goal

abbrev pub invariant-pieces : goal.invariant-pieces
invariant-pieces l =
    (with_front (map (field_view l.bytes) l.fields.items) (until (is_the_sign (codes ")")) (comma_and typed_reading) (symbols_of l.bytes l.rest))
    ≡ mapped (λ more. field_view l.bytes l.fn.first ∷ more) (until (is_the_sign (codes ")")) (comma_and typed_reading)) (symbols_of l.bytes l.tokens))
    × (length l.rest ≤ length l.tokens)

abbrev pub decreases-pieces : goal.decreases-pieces
decreases-pieces l = length l.rest
