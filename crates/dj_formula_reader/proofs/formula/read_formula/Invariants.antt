use Rattle.std.proofs.Common.{◌≡◌, ◌≤◌, length}
use Rattle.dj_lexer.specs.Symbols.{symbols_of}
use Rattle.dj_formula_reader.specs.Machine.{formula_reading, run}
use Rattle.dj_formula_reader.specs.View.{state_of}
use Rattle.dj_formula_reader.proofs.formula.read_formula.Given as goal

-- the machine goes on with the rest as it began with the whole
abbrev pub invariant-tokens : goal.invariant-tokens
invariant-tokens l =
    (formula_reading (symbols_of l.bytes l.tokens) ≡ run (state_of l.bytes l.machine) (symbols_of l.bytes l.rest)) × (length l.rest ≤ length l.tokens)

abbrev pub decreases-tokens : goal.decreases-tokens
decreases-tokens l = length l.rest
