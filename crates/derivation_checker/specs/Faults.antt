-- The first fault of a derivation, read from the left.
use Rattle.std.specs.Prelude.{◌≡◌, ◌≢◌, ◌≤◌, ⊤, ℕ, false, ◌&&◌, List, [], ◌∷◌, ◌++◌, Some, length, slice_get}
use Rattle.sat_clauses.specs.declared.literal.Lit.{Lit}
use Rattle.sat_clauses.specs.declared.derivation.Link.{Link}
use Rattle.sat_clauses.specs.Literals.{opposite}
use Rattle.sat_clauses.specs.ClauseLists.{has}
use Rattle.sat_clauses.specs.Derivations.{Resolution, Chain, Follow}
use Rattle.derivation_checker.specs.declared.fault.StepFault.{StepFault}
use Rattle.derivation_checker.specs.declared.fault.StepFault.TheVariants.{UnknownClause, NoPivot, NotEmpty, NoSteps}
use Rattle.derivation_checker.specs.declared.fault.CheckError.{CheckError}
use Rattle.derivation_checker.specs.declared.fault.CheckError.TheVariants.{Fault, NoMemory}

-- a fact of the fault in an error, if it is no want of memory
abbrev pub IfFault : CheckError → (StepFault → Type 0) → Type 0
IfFault (Fault fault) P = P fault
IfFault NoMemory P = ⊤

-- the fault of a link that stands at a place of a step, where `clause` is the clause made so far
pub data LinkHasFault (known : List (List Lit)) (step place : ℕ) (link : Link) (clause : List Lit) : StepFault → Type 0 where
  unknown : length known ≤ link.clause → LinkHasFault known step place link clause (UnknownClause step link.clause)
  no_pivot : (other : List Lit) → slice_get known link.clause ≡ Some other → (has clause link.pivot && has other (opposite link.pivot)) ≡ false
      → LinkHasFault known step place link clause (NoPivot step place)

-- the fault of links after a start: the links before it lead to a clause at which a link has it
pub record ChainHasFault (known : List (List Lit)) (step : ℕ) (links : List Link) (start : List Lit) (fault : StepFault) : Type 0 where
  pub before : List Link
  pub link : Link
  pub after : List Link
  pub split : links ≡ before ++ link ∷ after
  pub clause : List Lit
  pub right : Chain known before start clause
  pub here : LinkHasFault known step (length before) link clause fault

-- the fault of the step of a number over the known clauses
pub data StepHasFault (known : List (List Lit)) (number : ℕ) (step : Resolution) : StepFault → Type 0 where
  unknown_first : length known ≤ step.first → StepHasFault known number step (UnknownClause number step.first)
  in_chain : (start : List Lit) (fault : StepFault) → slice_get known step.first ≡ Some start → ChainHasFault known number step.links start fault
      → StepHasFault known number step fault

-- the fault of a step before which all steps are right
pub record StepsHaveFault (clauses : List (List Lit)) (steps : List Resolution) (fault : StepFault) : Type 0 where
  pub before : List Resolution
  pub step : Resolution
  pub after : List Resolution
  pub split : steps ≡ before ++ step ∷ after
  pub known : List (List Lit)
  pub right : Follow clauses before known
  pub here : StepHasFault known (length before) step fault

-- the first fault of a derivation
pub data FirstFault (clauses : List (List Lit)) (steps : List Resolution) : StepFault → Type 0 where
  no_steps : steps ≡ [] → FirstFault clauses steps NoSteps
  in_step : (fault : StepFault) → StepsHaveFault clauses steps fault → FirstFault clauses steps fault
  not_empty : (before : List (List Lit)) (last : List Lit) → steps ≢ [] → Follow clauses steps (before ++ last ∷ []) → last ≢ [] → FirstFault clauses steps NotEmpty
