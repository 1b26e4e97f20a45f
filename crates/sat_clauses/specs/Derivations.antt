-- Derivations: clauses that follow from others by resolution.
use Rattle.std.specs.Prelude.{◌≡◌, ◌≢◌, ℕ, List, [], ◌∷◌, ◌++◌, Some, IsTrue, map, slice_get}
use Rattle.sat_clauses.specs.declared.literal.Lit.{Lit}
use Rattle.sat_clauses.specs.declared.derivation.Link.{Link}
use Rattle.sat_clauses.specs.declared.derivation.Step.{Step}
use Rattle.sat_clauses.specs.declared.derivation.Derivation.{Derivation}
use Rattle.sat_clauses.specs.Literals.{opposite}
use Rattle.sat_clauses.specs.ClauseLists.{has, resolvent}

-- a step: the number of its first clause, and its links
pub record Resolution : Type 0 where
  pub first : ℕ
  pub links : List Link

abbrev pub resolution_of : Step → Resolution
resolution_of step = record { first = step.first; links = step.chain.items }

-- the steps of a derivation
abbrev pub steps_of : Derivation → List Resolution
steps_of derivation = map resolution_of derivation.steps.items

-- over the known clauses a link leads from one clause to the next: the clause has the pivot, and the clause of the link's
-- number is known and has the opposite of the pivot
pub record Leads (known : List (List Lit)) (link : Link) (clause next : List Lit) : Type 0 where
  pub other : List Lit
  pub numbered : slice_get known link.clause ≡ Some other
  pub pivot : IsTrue (has clause link.pivot)
  pub opposite : IsTrue (has other (opposite link.pivot))
  pub resolved : next ≡ resolvent link.pivot clause other

-- links lead from one clause to the last
abbrev pub Chain : List (List Lit) → List Link → List Lit → List Lit → Type 0
Chain known [] clause last = last ≡ clause
Chain known (link ∷ links) clause last = (next : List Lit) × Leads known link clause next × Chain known links next last

-- a step makes a clause of the known ones
pub record Makes (known : List (List Lit)) (step : Resolution) (clause : List Lit) : Type 0 where
  pub start : List Lit
  pub numbered : slice_get known step.first ≡ Some start
  pub chain : Chain known step.links start clause

-- steps, each over the clauses known before it, take the known clauses to all that are known after them
abbrev pub Follow : List (List Lit) → List Resolution → List (List Lit) → Type 0
Follow known [] all = all ≡ known
Follow known (step ∷ steps) all = (clause : List Lit) × Makes known step clause × Follow (known ++ clause ∷ []) steps all

-- the steps derive the empty clause: there is a step, each is right, and the last makes the empty clause
pub record Derives (clauses : List (List Lit)) (steps : List Resolution) : Type 0 where
  pub before : List (List Lit)
  pub some : steps ≢ []
  pub follow : Follow clauses steps (before ++ [] ∷ [])
