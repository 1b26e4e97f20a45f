use Rattle.std.proofs.Common.{◌≡◌, ◌∷◌, ◌≤◌, length, map}
use Rattle.std.specs.Prelude.{codes}
use Rattle.dj_lexer.specs.Symbols.{symbols_of}
use Rattle.dj_reader.specs.Terminals.{is_the_sign}
use Rattle.dj_reader.specs.Combining.{a_name, mapped, until, comma_and}
use Rattle.dj_reader.proofs.Loops.{with_front}
use Rattle.dj_declarations.specs.View.{spot_at}
use Rattle.dj_declarations.proofs.sources.read_more_names.Given as goal

-- what was read, in front of what is still read, is the first with what all reads
abbrev pub invariant-pieces : goal.invariant-pieces
invariant-pieces l =
    let read = until (is_the_sign (codes ";")) (comma_and a_name) in
    (with_front (map (spot_at l.bytes) l.names.items) (read (symbols_of l.bytes l.rest)) ≡ mapped (λ names. spot_at l.bytes l.fn.first ∷ names) read (symbols_of l.bytes l.tokens))
    × (length l.rest ≤ length l.tokens)

abbrev pub decreases-pieces : goal.decreases-pieces
decreases-pieces l = length l.rest
