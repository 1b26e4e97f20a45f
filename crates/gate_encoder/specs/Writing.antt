-- What an entry writes: numbers of keys, clauses over those numbers, and marks for the gates that stand whole.
use Rattle.std.specs.Prelude.{◌≡◌, ℕ, ◌+◌, ◌≤◌, Bool, true, false, if◌then◌else◌, List, [], ◌∷◌, ◌++◌, length, map, take, fold, unwrap_or}
use Rattle.std.specs.List.{list_any, position_or_len}
use Rattle.std.specs.Map.{keys_of, lookup, set_value}
use Rattle.sat_clauses.specs.declared.literal.Lit.{Lit}
use Rattle.sat_clauses.specs.Literals.{opposite}
use Rattle.sat_clauses.specs.ClauseLists.{distinct_literals}
use Rattle.gate_encoder.specs.Entries.{Literal, Entry, numbered, stated, all_of, any_of, equal_of, map_literals}

-- what was written: the keys in the order of their numbers, each with whether its gate is written, and the clauses
pub record Written (K : Type 0) : Type 0 where
  pub keys : List (K × Bool)
  pub clauses : List (List Lit)

abbrev pub nothing : {K : Type 0} → Written K
nothing = record { keys = []; clauses = [] }

-- the literal's variable is the number of a key; the first key has the number 1
abbrev pub IsNumbered : {K : Type 0} → Written K → Lit → Type 0
IsNumbered w lit = (1 ≤ lit.var) × (lit.var ≤ length w.keys)

-- the clauses of a gate g over literals: two literals for each part, and then the one clause over all of them
abbrev pub all_clauses : Lit → List Lit → List (List Lit)
all_clauses g parts = map (λ l. opposite g ∷ l ∷ []) parts ++ (g ∷ map opposite parts) ∷ []

abbrev pub any_clauses : Lit → List Lit → List (List Lit)
any_clauses g parts = map (λ l. g ∷ opposite l ∷ []) parts ++ (opposite g ∷ parts) ∷ []

abbrev pub equal_clauses : Lit → Lit → Lit → List (List Lit)
equal_clauses g a b =
    (opposite g ∷ opposite a ∷ b ∷ []) ∷ (opposite g ∷ a ∷ opposite b ∷ []) ∷ (g ∷ a ∷ b ∷ []) ∷ (g ∷ opposite a ∷ opposite b ∷ []) ∷ []

-- one step of writing: a key gets the next number, where it has none; a clause goes last; a key's gate stands whole
pub data Step (K : Type 0) : Type 0 where
  new_number : K → Step K
  new_clause : List Lit → Step K
  whole_gate : K → Step K

module _ {K : Type 0} (eq : K → K → Bool) where
  abbrev pub has_number : Written K → K → Bool
  has_number w k = list_any (eq k) (keys_of w.keys)

  abbrev pub has_gate : Written K → K → Bool
  has_gate w k = unwrap_or (lookup (eq k) w.keys) false

  -- the literal of a key: of its number, or of the next one where it has none
  abbrev pub literal : Written K → K → Lit
  literal w k = record { var = position_or_len (eq k) (keys_of w.keys) + 1; positive = true }

  -- the literal of a key's literal
  abbrev pub lit_in : Written K → Literal K → Lit
  lit_in w l = record { var = position_or_len (eq l.key) (keys_of w.keys) + 1; positive = l.positive }

  abbrev pub after_step : Written K → Step K → Written K
  after_step w (new_number k) = record { keys = if has_number w k then w.keys else w.keys ++ (k, false) ∷ []; clauses = w.clauses }
  after_step w (new_clause lits) = record { keys = w.keys; clauses = w.clauses ++ distinct_literals lits ∷ [] }
  after_step w (whole_gate k) = record { keys = set_value (eq k) w.keys true; clauses = w.clauses }

  abbrev pub after_steps : Written K → List (Step K) → Written K
  after_steps w steps = fold after_step w steps

  -- the steps of a key's gate with these clauses: none where the key's gate was written
  abbrev pub gate_steps : Written K → K → List (List Lit) → List (Step K)
  gate_steps w k clauses = if has_gate w k then [] else new_number k ∷ map new_clause clauses ++ whole_gate k ∷ []

  -- the steps of an entry over literals
  abbrev pub steps : Written K → Entry K Lit → List (Step K)
  steps w (numbered k) = new_number k ∷ []
  steps w (stated lits) = new_clause lits ∷ []
  steps w (all_of k parts) = gate_steps w k (all_clauses (literal w k) parts)
  steps w (any_of k parts) = gate_steps w k (any_clauses (literal w k) parts)
  steps w (equal_of k a b) = gate_steps w k (equal_clauses (literal w k) a b)

  -- what an entry over literals writes
  abbrev pub write : Written K → Entry K Lit → Written K
  write w entry = after_steps w (steps w entry)

  -- what entries over keys write one after the other, each over the literals that its keys then have, and the steps of that
  abbrev pub write_all : Written K → List (Entry K (Literal K)) → Written K
  write_all w [] = w
  write_all w (entry ∷ entries) = write_all (write w (map_literals (lit_in w) entry)) entries

  abbrev pub all_steps : Written K → List (Entry K (Literal K)) → List (Step K)
  all_steps w [] = []
  all_steps w (entry ∷ entries) =
      steps w (map_literals (lit_in w) entry) ++ all_steps (write w (map_literals (lit_in w) entry)) entries

  -- only the first of the steps were taken, however many: numbers and clauses were appended, and of the keys only such are
  -- marked whose gate stands whole
  pub record IsCut (w : Written K) (all : List (Step K)) (new : Written K) : Type 0 where
    pub count : ℕ
    pub within : count ≤ length all
    pub cut : new ≡ after_steps w (take count all)
