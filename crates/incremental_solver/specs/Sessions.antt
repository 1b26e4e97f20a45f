-- Questions one after the other.
use Rattle.std.specs.Prelude.{◌≡◌, ℕ, ◌≤◌, ◌<◌, List, Bool, Some, IsTrue, All, length, slice_get}
use Rattle.sat_clauses.specs.declared.literal.Lit.{Lit}
use Rattle.sat_clauses.specs.ClauseLists.{holds}
use Rattle.sat_solver.specs.Searches.{IsSearch}
use Rattle.incremental_solver.specs.declared.session.Session.{Session}

-- a session knows the first of the added clauses, and all clauses of its search follow from the added ones
pub record IsSession (added : List (List Lit)) (session : Session) : Type 0 where
  pub search : IsSearch session.search
  pub few : session.known ≤ length added
  pub knows : (k : ℕ) (clause : List Lit) → k < session.known → slice_get added k ≡ Some clause → (place : ℕ) × (slice_get session.search.store.clauses place ≡ Some clause)
  pub follow : (values : List Bool) → IsTrue (holds values added) → IsTrue (holds values session.search.store.clauses)

-- a session knows all added clauses and has the variables of the assumptions, and no level is open
pub record IsReady (added : List (List Lit)) (assumed : List Lit) (session : Session) : Type 0 where
  pub all : session.known ≡ length added
  pub level : session.search.trail.level ≡ 0
  pub within : All (λ lit. lit.var ≤ session.search.trail.vars) assumed

-- the clauses from a place on have variables up to a number
abbrev pub FitsNew : List (List Lit) → ℕ → ℕ → Type 0
FitsNew added known vars = (k : ℕ) (clause : List Lit) → known ≤ k → slice_get added k ≡ Some clause → All (λ lit. lit.var ≤ vars) clause
