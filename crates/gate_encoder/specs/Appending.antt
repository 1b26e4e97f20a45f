-- Clauses that are appended to others, all of them or only the first ones.
use Rattle.std.specs.Prelude.{◌≡◌, ℕ, ◌≤◌, List, [], ◌∷◌, ◌++◌, length, map, take}
use Rattle.sat_clauses.specs.declared.literal.Lit.{Lit}
use Rattle.sat_clauses.specs.ClauseLists.{distinct_literals}
use Rattle.gate_encoder.specs.declared.parts.Parts.{Parts}
use Rattle.gate_encoder.specs.declared.parts.Parts.TheVariants.{All as AllOf, Any as AnyOf, Equal}
use Rattle.gate_encoder.specs.Writing.{all_clauses, any_clauses, equal_clauses}

-- the clauses with others behind them, which have each of their literals once
abbrev pub with_clauses : List (List Lit) → List (List Lit) → List (List Lit)
with_clauses clauses more = clauses ++ map distinct_literals more

-- only the first of the clauses were appended, however many
pub record IsBegun (old more new : List (List Lit)) : Type 0 where
  pub count : ℕ
  pub within : count ≤ length more
  pub begun : new ≡ with_clauses old (take count more)

-- the clauses of a gate, and the literals that it is made of
abbrev pub clauses_of : Lit → Parts → List (List Lit)
clauses_of g (AllOf parts) = all_clauses g parts.now
clauses_of g (AnyOf parts) = any_clauses g parts.now
clauses_of g (Equal a b) = equal_clauses g a b

abbrev pub literals_in : Parts → List Lit
literals_in (AllOf parts) = parts.now
literals_in (AnyOf parts) = parts.now
literals_in (Equal a b) = a ∷ b ∷ []
