-- What a search ends with.
use Rattle.std.proofs.Common.{◌≡◌, ◌≢◌, ℕ, suc, ◌≤◌, ◌<◌, ◌-◌, Bool, true, false, not, ◌||◌, List, [], ◌∷◌, ◌++◌, Option, Some, None, IsSome, IsTrue, All, map, unwrap_or, length, get_or, slice_get, refl, sym, ap, ◌∙◌, arith}
use Rattle.std.specs.List.{list_any}
use Rattle.std.specs.Bool.{beq}
use Rattle.std.proofs.lemmas.Bool.{false≢true, and_from, or_parts}
use Rattle.std.proofs.lemmas.List.{get_or-map}
use Rattle.sat_clauses.specs.declared.literal.Lit.{Lit}
use Rattle.sat_clauses.specs.Literals.{IsLiteral, same_literal, is_true}
use Rattle.sat_clauses.specs.ClauseLists.{has, holds, holds_clause, IsClause}
use Rattle.sat_clauses.specs.Derivations.{Resolution, Follow, Makes, Derives}
use Rattle.sat_clauses.proofs.SetLemmas.{one_literal}
use Rattle.sat_clauses.proofs.DerivationLemmas.{Follow-push}
use Rattle.sat_solver.specs.declared.entry.Entry.{Entry}
use Rattle.sat_solver.specs.Stores.{greatest_var}
use Rattle.sat_solver.specs.Keeping.{KeepsClauses}
use Rattle.sat_solver.specs.Entries.{value_in, truth_in, values_of, IsFalseIn, IsFalseClause, AllSettled}
use Rattle.sat_solver.proofs.AlongLemmas.{All-at}
use Rattle.sat_solver.proofs.StoreLemmas.{clause_below}
use Rattle.sat_solver.proofs.EntryLemmas.{values_at, length-values_of}
use Rattle.sat_solver.proofs.ClauseLemmas.{All-has, other_value, truth_true}
use Rattle.sat_solver.proofs.SearchLemmas.{follow_keeps}

some_step : (steps : List Resolution) (step : Resolution) → steps ++ step ∷ [] ≢ []
some_step [] step e = cc
some_step (s ∷ ss) step e = cc

-- a step that makes the empty clause ends a derivation
pub derives_empty : (clauses all : List (List Lit)) (steps : List Resolution) (step : Resolution) → Follow clauses steps all → Makes all step [] → Derives clauses (steps ++ step ∷ [])
derives_empty clauses all steps step follow makes = record {
  before = all;
  some = some_step steps step;
  follow = Follow-push clauses all steps step [] follow makes;
}

-- the value that an assignment reads
read_value : (o : Option Bool) → IsSome o → o ≡ Some (unwrap_or o false)
read_value None e = absurd (false≢true e)
read_value (Some b) e = refl

not_any : (test : Lit → Bool) (clause : List Lit) → list_any test clause ≡ false → (lit : Lit) → IsTrue (has clause lit) → test lit ≡ false
not_any test [] e lit h = absurd (false≢true h)
not_any test (x ∷ xs) e lit h = by (same_literal lit x) refl h (or_parts (test x) (list_any test xs) e) (not_any test xs)
  where
    by : (b : Bool) → same_literal lit x ≡ b → (b || has xs lit) ≡ true → (test x ≡ false) × (list_any test xs ≡ false) → (list_any test xs ≡ false → (lit : Lit) → IsTrue (has xs lit) → test lit ≡ false) → test lit ≡ false
    by true f h parts rest = ap test (one_literal lit x f) ∙ parts.0
    by false f h parts rest = rest parts.1 lit h

module _ (vars : ℕ) (entries : List Entry) (all_valued : All IsSome (values_of vars entries)) where
  abbrev assigned : List Bool
  assigned = map (λ value. unwrap_or value false) (values_of vars entries)

  read_false : (lit : Lit) → 1 ≤ lit.var → lit.var ≤ vars → is_true assigned lit ≡ false → IsFalseIn entries lit
  read_false lit low high e =
      let within : lit.var - 1 < length (values_of vars entries) = omega (arith, length-values_of vars entries) in
      let here : Option Bool = get_or (values_of vars entries) (lit.var - 1) None in
      let value : value_in entries lit.var ≡ Some (unwrap_or here false) = sym (values_at vars entries lit.var low high) ∙ read_value here (all_valued (lit.var - 1) None within) in
      let read : get_or assigned (lit.var - 1) false ≡ unwrap_or here false = get_or-map (λ value. unwrap_or value false) (values_of vars entries) (lit.var - 1) None false within in
      let other : unwrap_or here false ≡ not lit.positive = other_value (unwrap_or here false) lit.positive (ap (λ b. beq b lit.positive) (sym read) ∙ e) in
      value ∙ ap (λ b. Some b) other

  -- a clause that isn't false is held
  held : (clause : List Lit) → All IsLiteral clause → All (λ lit. lit.var ≤ vars) clause → ¬ IsFalseClause entries clause → holds_clause assigned clause ≡ true
  held clause literals within not_false = by (holds_clause assigned clause) refl
    where
      by : (b : Bool) → holds_clause assigned clause ≡ b → b ≡ true
      by true e = refl
      by false e = absurd (not_false (λ lit h. read_false lit (All-has IsLiteral clause lit literals h).0 (All-has (λ l. l.var ≤ vars) clause lit within h) (not_any (is_true assigned) clause e lit h)))

all_held : (values : List Bool) (clauses : List (List Lit)) → ((k : ℕ) (clause : List Lit) → slice_get clauses k ≡ Some clause → holds_clause values clause ≡ true) → holds values clauses ≡ true
all_held values [] each = refl
all_held values (c ∷ cs) each = and_from (holds_clause values c) (holds values cs) (each 0 c refl) (all_held values cs (λ k clause e. each (suc k) clause e))

-- where no known clause is false and all variables have values, the given clauses are held
pub all_hold : (clauses all : List (List Lit)) (steps : List Resolution) (entries : List Entry) → All IsClause clauses → Follow clauses steps all → AllSettled entries all → All IsSome (values_of (greatest_var clauses) entries) → holds (map (λ value. unwrap_or value false) (values_of (greatest_var clauses) entries)) clauses ≡ true
all_hold clauses all steps entries are follow settled valued =
    all_held (map (λ value. unwrap_or value false) (values_of (greatest_var clauses) entries)) clauses (λ k clause e. held (greatest_var clauses) entries valued clause (All-at IsClause clauses k clause are e).literals (clause_below clauses k clause e) (settled k clause (follow_keeps clauses all steps follow k clause e)).not_false)

-- where no clause is false and all variables have values, all clauses are held
pub store_holds : (vars : ℕ) (entries : List Entry) → All IsSome (values_of vars entries) → (clauses : List (List Lit)) → KeepsClauses vars clauses → AllSettled entries clauses → holds (map (λ value. unwrap_or value false) (values_of vars entries)) clauses ≡ true
store_holds vars entries valued clauses keeps settled =
    all_held (map (λ value. unwrap_or value false) (values_of vars entries)) clauses (λ k clause e. held vars entries valued clause (All-at IsClause clauses k clause keeps.each e).literals (All-at (λ c. All (λ lit. lit.var ≤ vars) c) clauses k clause keeps.within e) (settled k clause e).not_false)

-- what is true on the trail is true in the assignment
pub reads_true : (vars : ℕ) (entries : List Entry) → All IsSome (values_of vars entries) → (lit : Lit) → 1 ≤ lit.var → lit.var ≤ vars → truth_in entries lit ≡ Some true → is_true (map (λ value. unwrap_or value false) (values_of vars entries)) lit ≡ true
reads_true vars entries valued lit low high truth =
    let within : lit.var - 1 < length (values_of vars entries) = omega (arith, length-values_of vars entries) in
    let read : get_or (map (λ value. unwrap_or value false) (values_of vars entries)) (lit.var - 1) false ≡ unwrap_or (get_or (values_of vars entries) (lit.var - 1) None) false = get_or-map (λ value. unwrap_or value false) (values_of vars entries) (lit.var - 1) None false within in
    let value : get_or (values_of vars entries) (lit.var - 1) None ≡ Some lit.positive = values_at vars entries lit.var low high ∙ truth_true entries lit truth in
    ap (λ b. beq b lit.positive) (read ∙ ap (λ o. unwrap_or o false) value) ∙ same lit.positive
  where
    same : (b : Bool) → beq b b ≡ true
    same true = refl
    same false = refl
