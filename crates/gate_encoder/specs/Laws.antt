-- What entries mean: their clauses and the values of keys.
use Rattle.std.specs.Prelude.{◌≡◌, ℕ, Bool, true, false, not, ◌&&◌, List, [], ◌∷◌, ◌++◌, length, map, Option, Some, None, Contains, slice_index_or, if◌then◌else◌}
use Rattle.std.specs.Bool.{beq}
use Rattle.std.specs.List.{list_any, list_all, flat_map, position_or_len}
use Rattle.std.specs.Map.{keys_of}
use Rattle.arena_walk.specs.Tree.{Tree, EachNode}
use Rattle.arena_walk.specs.Forest.{HasArity}
use Rattle.dj_formula.specs.declared.formula.Gate.{Gate}
use Rattle.dj_formula.specs.Gates.{operands}
use Rattle.dj_formula.specs.Value.{HasFeaturesBelow, value_of as value_of_tree}
use Rattle.sat_clauses.specs.declared.literal.Lit.{Lit}
use Rattle.sat_clauses.specs.Literals.{is_true}
use Rattle.sat_clauses.specs.ClauseLists.{holds}
use Rattle.gate_encoder.specs.Entries.{Literal, Entry, numbered, stated, all_of, any_of, equal_of, agrees, agree, value_of}
use Rattle.gate_encoder.specs.Writing.{Written, nothing, has_gate, literal, write, write_all}
use Rattle.gate_encoder.specs.Formulas.{Names, tree_entries, tree_literal}

-- the test tells whether two keys are the same
pub record IsEquality {K : Type 0} (eq : K → K → Bool) : Type 0 where
  pub reflexive : (k : K) → eq k k ≡ true
  pub exact : (j k : K) → eq j k ≡ true → j ≡ k

-- the literals that an entry stands on
abbrev pub parts_of : {K : Type 0} → Entry K (Literal K) → List (Literal K)
parts_of (numbered k) = []
parts_of (stated ls) = ls
parts_of (all_of k ls) = ls
parts_of (any_of k ls) = ls
parts_of (equal_of k a b) = a ∷ b ∷ []

-- the key that an entry gives a number, if it had none
abbrev pub own_keys : {K : Type 0} → Entry K (Literal K) → List K
own_keys (numbered k) = k ∷ []
own_keys (stated ls) = []
own_keys (all_of k ls) = k ∷ []
own_keys (any_of k ls) = k ∷ []
own_keys (equal_of k a b) = k ∷ []

-- the key of an entry's gate
abbrev pub gate_key : {K : Type 0} → Entry K (Literal K) → Option K
gate_key (numbered k) = None
gate_key (stated ls) = None
gate_key (all_of k ls) = Some k
gate_key (any_of k ls) = Some k
gate_key (equal_of k a b) = Some k

abbrev pub is_gate : {K : Type 0} → Entry K (Literal K) → Bool
is_gate (numbered k) = false
is_gate (stated ls) = false
is_gate (all_of k ls) = true
is_gate (any_of k ls) = true
is_gate (equal_of k a b) = true

-- two gates of one key are the same
abbrev pub AreConsistent : {K : Type 0} → List (Entry K (Literal K)) → Type 0
AreConsistent {K} es = (e f : Entry K (Literal K)) (k : K) → Contains es e → Contains es f → gate_key e ≡ Some k → gate_key f ≡ Some k → e ≡ f

module _ {K : Type 0} (eq : K → K → Bool) where
  -- each literal's key has a number, which it was given before, where these keys have one
  abbrev pub are_in_order : List K → List (Entry K (Literal K)) → Bool
  are_in_order known [] = true
  are_in_order known (e ∷ es) = list_all (λ l. list_any (eq l.key) known) (parts_of e) && are_in_order (known ++ own_keys e) es

  -- a key that has no gate, or got its number before its gate
  abbrev pub is_free : List (Entry K (Literal K)) → K → Bool
  is_free [] k = true
  is_free (e ∷ es) k = if list_any (eq k) (own_keys e) then not (is_gate e) else is_free es k

  -- the value that an assignment gives a key
  abbrev pub value_in : Written K → List Bool → K → Bool
  value_in w values k = slice_index_or values (position_or_len (eq k) (keys_of w.keys)) false

  -- an assignment holds the clauses of entries exactly if the values that it gives the keys agree with each entry
  abbrev pub ClausesSay : Type 0
  ClausesSay = IsEquality eq → (es : List (Entry K (Literal K))) → are_in_order [] es ≡ true → AreConsistent es → (values : List Bool)
      → holds values (write_all eq nothing es).clauses ≡ agree (value_in (write_all eq nothing es) values) es

  -- values of the keys agree with each entry exactly if the assignment of these values, in the order of the keys, holds the clauses
  abbrev pub ValuesSay : Type 0
  ValuesSay = IsEquality eq → (es : List (Entry K (Literal K))) → are_in_order [] es ≡ true → AreConsistent es → (v : K → Bool)
      → holds (map v (keys_of (write_all eq nothing es).keys)) (write_all eq nothing es).clauses ≡ agree v es

  -- values that agree, and are alike on the free keys, are alike
  abbrev pub FreeKeysDecide : Type 0
  FreeKeysDecide = IsEquality eq → (es : List (Entry K (Literal K))) → are_in_order [] es ≡ true → (v u : K → Bool)
      → agree v es ≡ true → agree u es ≡ true → ((k : K) → is_free es k ≡ true → v k ≡ u k) → (k : K) → v k ≡ u k

  -- where every gate's key gets its number by its gate, a choice for the free keys extends to values that agree with every gate
  abbrev pub ChoicesExtend : Type 0
  ChoicesExtend = IsEquality eq → (es : List (Entry K (Literal K))) → are_in_order [] es ≡ true → AreConsistent es
      → ((e : Entry K (Literal K)) (k : K) → Contains es e → gate_key e ≡ Some k → is_free es k ≡ false) → (choice : K → Bool)
      → (v : K → Bool) × ((e : Entry K (Literal K)) → Contains es e → is_gate e ≡ true → agrees v (value_of v) e ≡ true)
      × ((k : K) → is_free es k ≡ true → v k ≡ choice k)

  -- in every assignment that holds the clauses, a new gate's literal has the gate's value
  abbrev pub AllOfSays : Type 0
  AllOfSays = (w : Written K) (k : K) (parts : List Lit) (values : List Bool) → has_gate eq w k ≡ false
      → holds values (write eq w (all_of k parts)).clauses ≡ true → is_true values (literal eq w k) ≡ list_all (is_true values) parts

  abbrev pub AnyOfSays : Type 0
  AnyOfSays = (w : Written K) (k : K) (parts : List Lit) (values : List Bool) → has_gate eq w k ≡ false
      → holds values (write eq w (any_of k parts)).clauses ≡ true → is_true values (literal eq w k) ≡ list_any (is_true values) parts

  abbrev pub EqualSays : Type 0
  EqualSays = (w : Written K) (k : K) (a b : Lit) (values : List Bool) → has_gate eq w k ≡ false
      → holds values (write eq w (equal_of k a b)).clauses ≡ true → is_true values (literal eq w k) ≡ beq (is_true values a) (is_true values b)

-- the entry, and what was written, with other names for the keys
module _ {J K : Type 0} (name : J → K) where
  abbrev pub renamed_literal : Literal J → Literal K
  renamed_literal l = record { key = name l.key; positive = l.positive }

  abbrev pub renamed : Entry J (Literal J) → Entry K (Literal K)
  renamed (numbered k) = numbered (name k)
  renamed (stated ls) = stated (map renamed_literal ls)
  renamed (all_of k ls) = all_of (name k) (map renamed_literal ls)
  renamed (any_of k ls) = any_of (name k) (map renamed_literal ls)
  renamed (equal_of k a b) = equal_of (name k) (renamed_literal a) (renamed_literal b)

  abbrev pub renamed_keys : List (J × Bool) → List (K × Bool)
  renamed_keys keys = map (λ (e : J × Bool). let pair : K × Bool = (name e.0, e.1) in pair) keys

-- the keys that entries speak of
abbrev pub keys_in : {K : Type 0} → List (Entry K (Literal K)) → List K
keys_in es = flat_map (λ e. map (λ l. l.key) (parts_of e) ++ own_keys e) es

-- entries whose keys are renamed by a function that keeps them apart write the same clauses, and number the keys alike
abbrev pub RenamingKeeps : {J K : Type 0} → (J → J → Bool) → (K → K → Bool) → Type 0
RenamingKeeps {J} {K} eq other = (name : J → K) (es : List (Entry J (Literal J)))
    → ((j k : J) → Contains (keys_in es) j → Contains (keys_in es) k → other (name j) (name k) ≡ eq j k)
    → ((write_all other nothing (map (renamed name) es)).clauses ≡ (write_all eq nothing es).clauses)
    × ((write_all other nothing (map (renamed name) es)).keys ≡ renamed_keys name (write_all eq nothing es).keys)

-- values that agree with a formula's entries give its literal the formula's value, where the literal for true is true
abbrev pub FormulasHaveValues : Type 0 → Type 0
FormulasHaveValues K = (names : Names K) (first : ℕ) (tree : Tree Gate) (v : K → Bool) → EachNode (λ t _. HasArity operands t) first tree → HasFeaturesBelow (length names.features) tree
    → value_of v names.truth ≡ true → agree v (tree_entries names first tree) ≡ true
    → value_of v (tree_literal names first tree) ≡ value_of_tree (map (value_of v) names.features) tree
