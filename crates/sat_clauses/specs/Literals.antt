-- Literals, and their values under an assignment.
use Rattle.std.specs.Prelude.{◌-◌, ◌^◌, ◌<◌, ◌≤◌, ◌==◌, Bool, false, not, ◌&&◌, List, slice_index_or}
use Rattle.std.specs.Bool.{beq}
use Rattle.sat_clauses.specs.declared.literal.Lit.{Lit}

-- the literal's variable has a number from 1 to 2 ^ 63 - 1
abbrev pub IsLiteral : Lit → Type 0
IsLiteral lit = (1 ≤ lit.var) × (lit.var < 2 ^ 63)

-- two literals have one variable and one sign
abbrev pub same_literal : Lit → Lit → Bool
same_literal a b = a.var == b.var && beq a.positive b.positive

-- the literal of the same variable with the other sign
abbrev pub opposite : Lit → Lit
opposite lit = record { var = lit.var; positive = not lit.positive }

-- the values of an assignment, that of variable v at v - 1, make the literal true; a variable past the end is false
abbrev pub is_true : List Bool → Lit → Bool
is_true values lit = beq (slice_index_or values (lit.var - 1) false) lit.positive
