-- Literals in the order in which they became true.
use Rattle.std.specs.Prelude.{◌≡◌, ℕ, ◌==◌, ◌≤◌, Bool, not, List, ◌++◌, Option, Some, None, option_map, is_none, IsSome, IsTrue, nat_le, take, length, filter, find, map, count_by, slice_get}
use Rattle.std.specs.Bool.{beq}
use Rattle.std.specs.List.{range_with_len}
use Rattle.sat_clauses.specs.declared.literal.Lit.{Lit}
use Rattle.sat_clauses.specs.ClauseLists.{has, without}
use Rattle.sat_solver.specs.declared.entry.Entry.{Entry}

-- the entry of a variable
abbrev pub entry_of : List Entry → ℕ → Option Entry
entry_of entries var = find (λ entry. entry.lit.var == var) entries

-- the value of a variable
abbrev pub value_in : List Entry → ℕ → Option Bool
value_in entries var = option_map (λ entry. entry.lit.positive) (entry_of entries var)

-- the values of the variables from 1 to a number
abbrev pub values_of : ℕ → List Entry → List (Option Bool)
values_of vars entries = map (value_in entries) (range_with_len 1 vars)

abbrev pub IsFreeIn : List Entry → Lit → Type 0
IsFreeIn entries lit = value_in entries lit.var ≡ None

abbrev pub IsFalseIn : List Entry → Lit → Type 0
IsFalseIn entries lit = value_in entries lit.var ≡ Some (not lit.positive)

-- whether the literal is true, where its variable has a value
abbrev pub truth_in : List Entry → Lit → Option Bool
truth_in entries lit = option_map (λ value. beq value lit.positive) (value_in entries lit.var)

-- a clause is false if each of its literals is
abbrev pub IsFalseClause : List Entry → List Lit → Type 0
IsFalseClause entries clause = (lit : Lit) → IsTrue (has clause lit) → IsFalseIn entries lit

-- the clause has the literal, and its others are false
pub record Forces (entries : List Entry) (clause : List Lit) (lit : Lit) : Type 0 where
  pub there : IsTrue (has clause lit)
  pub others : IsFalseClause entries (without clause lit)

-- the clause is neither false nor unit: it forces no free literal
pub record IsSettled (entries : List Entry) (clause : List Lit) : Type 0 where
  pub not_false : ¬ IsFalseClause entries clause
  pub not_unit : (lit : Lit) → IsFreeIn entries lit → ¬ Forces entries clause lit

-- each of the clauses is neither false nor unit
abbrev pub AllSettled : List Entry → List (List Lit) → Type 0
AllSettled entries clauses = (place : ℕ) (clause : List Lit) → slice_get clauses place ≡ Some clause → IsSettled entries clause

-- the clause at a place is false
pub record IsConflict (entries : List Entry) (clauses : List (List Lit)) (place : ℕ) : Type 0 where
  pub clause : List Lit
  pub found : slice_get clauses place ≡ Some clause
  pub falsified : IsFalseClause entries clause

-- the reason of an entry is the place of a clause that forces its literal after the entries before it
pub record IsForced (clauses : List (List Lit)) (before : List Entry) (entry : Entry) : Type 0 where
  pub place : ℕ
  pub clause : List Lit
  pub reason : entry.reason ≡ Some place
  pub found : slice_get clauses place ≡ Some clause
  pub forces : Forces before clause entry.lit

-- each entry stands so to the entries before it
abbrev pub AllAlong : (List Entry → Entry → Type 0) → List Entry → Type 0
AllAlong P entries = (place : ℕ) (entry : Entry) → slice_get entries place ≡ Some entry → P (take place entries) entry

-- each entry with a reason is forced by it
abbrev pub AllReasoned : List (List Lit) → List Entry → Type 0
AllReasoned clauses entries = AllAlong (λ before entry. IsSome entry.reason → IsForced clauses before entry) entries

-- how many entries are decisions
abbrev pub decisions : List Entry → ℕ
decisions entries = count_by (λ entry. is_none entry.reason) entries

-- the entries whose levels aren't above a level
abbrev pub up_to : ℕ → List Entry → List Entry
up_to level entries = filter (λ entry. nat_le entry.level level) entries

-- entries that go on with others of one level, each forced by a clause
pub record Extends (clauses : List (List Lit)) (level : ℕ) (old new : List Entry) : Type 0 where
  pub added : List Entry
  pub prefix : new ≡ old ++ added
  pub forced : (place : ℕ) (entry : Entry) → length old ≤ place → slice_get new place ≡ Some entry → IsForced clauses (take place new) entry
  pub leveled : (place : ℕ) (entry : Entry) → length old ≤ place → slice_get new place ≡ Some entry → entry.level ≡ level
