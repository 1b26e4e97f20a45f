-- When an assignment holds the clauses that an entry writes.
use Rattle.std.proofs.Common.{◌≡◌, Bool, true, false, not, ◌&&◌, ◌||◌, List, [], ◌∷◌, ◌++◌, map, refl, sym, ap, ◌∙◌, if◌then◌else◌}
use Rattle.std.specs.Bool.{beq}
use Rattle.std.specs.List.{list_any, list_all}
use Rattle.std.proofs.lemmas.Bool.{true≢false, or_left, or_right}
use Rattle.std.proofs.lemmas.List.Folds.{list_any-append, list_all-append}
use Rattle.sat_clauses.specs.declared.literal.Lit.{Lit}
use Rattle.sat_clauses.specs.Literals.{opposite, is_true, same_literal}
use Rattle.sat_clauses.specs.ClauseLists.{has, holds, holds_clause, with_literal, joined, distinct_literals}
use Rattle.sat_clauses.proofs.SetLemmas.{one_literal}
use Rattle.sat_clauses.proofs.SoundLemmas.{opposite_value}
use Rattle.gate_encoder.specs.Entries.{stated, all_of, any_of, equal_of}
use Rattle.gate_encoder.specs.Writing.{Written, has_gate, literal, write, gate_steps, after_steps, all_clauses, any_clauses, equal_clauses}
use Rattle.gate_encoder.specs.Appending.{with_clauses}
use Rattle.gate_encoder.proofs.Gating.{gate_is}

module _ (values : List Bool) where
  held_by : (clause : List Lit) (lit : Lit) → has clause lit ≡ true → is_true values lit ≡ true → holds_clause values clause ≡ true
  held_by [] lit there value = absurd (true≢false (sym there))
  held_by (x ∷ xs) lit there value = by (same_literal lit x) refl (λ h. held_by xs lit h value)
    where
      by : (b : Bool) → same_literal lit x ≡ b → (has xs lit ≡ true → holds_clause values xs ≡ true) → holds_clause values (x ∷ xs) ≡ true
      by true same rest = or_left (is_true values x) (holds_clause values xs) (ap (is_true values) (sym (one_literal lit x same)) ∙ value)
      by false other rest = or_right (is_true values x) (holds_clause values xs) (rest (sym (ap (λ b. b || has xs lit) other) ∙ there))

  implied_or : (a b : Bool) → (b ≡ true → a ≡ true) → a ≡ (a || b)
  implied_or true b more = refl
  implied_or false true more = more refl
  implied_or false false more = refl

  holds_with : (clause : List Lit) (lit : Lit) → holds_clause values (with_literal clause lit) ≡ (holds_clause values clause || is_true values lit)
  holds_with clause lit = by (has clause lit) refl
    where
      or_none : (b : Bool) → (b || false) ≡ b
      or_none true = refl
      or_none false = refl

      by : (b : Bool) → has clause lit ≡ b → holds_clause values (if has clause lit then clause else clause ++ lit ∷ []) ≡ (holds_clause values clause || is_true values lit)
      by true there = ap (λ b. holds_clause values (if b then clause else clause ++ lit ∷ [])) there ∙ implied_or (holds_clause values clause) (is_true values lit) (λ value. held_by clause lit there value)
      by false absent =
          ap (λ b. holds_clause values (if b then clause else clause ++ lit ∷ [])) absent ∙ list_any-append (is_true values) clause (lit ∷ [])
          ∙ ap (λ b. holds_clause values clause || b) (or_none (is_true values lit))

  or_regroup : (a b c : Bool) → ((a || b) || c) ≡ (a || (b || c))
  or_regroup true b c = refl
  or_regroup false b c = refl

  holds_joined : (clause lits : List Lit) → holds_clause values (joined clause lits) ≡ (holds_clause values clause || holds_clause values lits)
  holds_joined clause [] = by (holds_clause values clause)
    where
      by : (b : Bool) → b ≡ (b || false)
      by true = refl
      by false = refl
  holds_joined clause (x ∷ xs) =
      holds_joined (with_literal clause x) xs ∙ ap (λ b. b || holds_clause values xs) (holds_with clause x) ∙ or_regroup (holds_clause values clause) (is_true values x) (holds_clause values xs)

  -- a clause in which each literal stands once says the same
  pub holds_distinct : (lits : List Lit) → holds_clause values (distinct_literals lits) ≡ holds_clause values lits
  holds_distinct lits = holds_joined [] lits

  pub holds_more : (old more : List (List Lit)) → holds values (with_clauses old more) ≡ (holds values old && holds values more)
  holds_more old more = list_all-append (holds_clause values) old (map distinct_literals more) ∙ ap (λ b. holds values old && b) (by more)
    where
      by : (cs : List (List Lit)) → holds values (map distinct_literals cs) ≡ holds values cs
      by [] = refl
      by (c ∷ cs) = ap (λ b. b && holds values (map distinct_literals cs)) (holds_distinct c) ∙ ap (λ b. holds_clause values c && b) (by cs)

  any_opposite : (ls : List Lit) → list_any (is_true values) (map opposite ls) ≡ not (list_all (is_true values) ls)
  any_opposite [] = refl
  any_opposite (l ∷ ls) = ap (λ b. b || list_any (is_true values) (map opposite ls)) (opposite_value values l) ∙ ap (λ b. not (is_true values l) || b) (any_opposite ls) ∙ by (is_true values l) (list_all (is_true values) ls)
    where
      by : (a b : Bool) → (not a || not b) ≡ not (a && b)
      by true b = refl
      by false b = refl

  pairs_hold : (first : Lit) (f : Lit → Lit) (ls : List Lit) → holds values (map (λ l. first ∷ f l ∷ []) ls) ≡ (is_true values first || list_all (λ l. is_true values (f l)) ls)
  pairs_hold first f [] = by (is_true values first)
    where
      by : (b : Bool) → true ≡ (b || true)
      by true = refl
      by false = refl
  pairs_hold first f (l ∷ ls) = ap (λ b. (is_true values first || (is_true values (f l) || false)) && b) (pairs_hold first f ls) ∙ by (is_true values first) (is_true values (f l)) (list_all (λ m. is_true values (f m)) ls)
    where
      by : (a b c : Bool) → ((a || (b || false)) && (a || c)) ≡ (a || (b && c))
      by true b c = refl
      by false true c = refl
      by false false c = refl

  all_opposite : (ls : List Lit) → list_all (λ l. is_true values (opposite l)) ls ≡ not (list_any (is_true values) ls)
  all_opposite [] = refl
  all_opposite (l ∷ ls) = ap (λ b. b && list_all (λ m. is_true values (opposite m)) ls) (opposite_value values l) ∙ ap (λ b. not (is_true values l) && b) (all_opposite ls) ∙ by (is_true values l) (list_any (is_true values) ls)
    where
      by : (a b : Bool) → (not a && not b) ≡ not (a || b)
      by true b = refl
      by false b = refl

  -- the clauses of a gate say that its literal has the gate's value
  pub all_says : (g : Lit) (parts : List Lit) → holds values (all_clauses g parts) ≡ beq (is_true values g) (list_all (is_true values) parts)
  all_says g parts =
      list_all-append (holds_clause values) (map (λ l. opposite g ∷ l ∷ []) parts) ((g ∷ map opposite parts) ∷ [])
      ∙ ap (λ b. b && ((is_true values g || list_any (is_true values) (map opposite parts)) && true)) (pairs_hold (opposite g) (λ l. l) parts)
      ∙ ap (λ b. (b || list_all (is_true values) parts) && ((is_true values g || list_any (is_true values) (map opposite parts)) && true)) (opposite_value values g)
      ∙ ap (λ b. (not (is_true values g) || list_all (is_true values) parts) && ((is_true values g || b) && true)) (any_opposite parts)
      ∙ by (is_true values g) (list_all (is_true values) parts)
    where
      by : (a b : Bool) → ((not a || b) && ((a || not b) && true)) ≡ beq a b
      by true true = refl
      by true false = refl
      by false true = refl
      by false false = refl

  pub any_says : (g : Lit) (parts : List Lit) → holds values (any_clauses g parts) ≡ beq (is_true values g) (list_any (is_true values) parts)
  any_says g parts =
      list_all-append (holds_clause values) (map (λ l. g ∷ opposite l ∷ []) parts) ((opposite g ∷ parts) ∷ [])
      ∙ ap (λ b. b && ((is_true values (opposite g) || list_any (is_true values) parts) && true)) (pairs_hold g opposite parts)
      ∙ ap (λ b. (is_true values g || b) && ((is_true values (opposite g) || list_any (is_true values) parts) && true)) (all_opposite parts)
      ∙ ap (λ b. (is_true values g || not (list_any (is_true values) parts)) && ((b || list_any (is_true values) parts) && true)) (opposite_value values g)
      ∙ by (is_true values g) (list_any (is_true values) parts)
    where
      by : (a b : Bool) → ((a || not b) && ((not a || b) && true)) ≡ beq a b
      by true true = refl
      by true false = refl
      by false true = refl
      by false false = refl

  pub equal_says : (g a b : Lit) → holds values (equal_clauses g a b) ≡ beq (is_true values g) (beq (is_true values a) (is_true values b))
  equal_says g a b =
      rw (opposite_value values g, opposite_value values a, opposite_value values b) (by (is_true values g) (is_true values a) (is_true values b))
    where
      by : (x y z : Bool) → ((not x || (not y || (z || false))) && ((not x || (y || (not z || false))) && ((x || (y || (z || false))) && ((x || (not y || (not z || false))) && true)))) ≡ beq x (beq y z)
      by true true true = refl
      by true true false = refl
      by true false true = refl
      by true false false = refl
      by false true true = refl
      by false true false = refl
      by false false true = refl
      by false false false = refl

  module _ {K : Type 0} (eq : K → K → Bool) (w : Written K) where
    gate_holds : (k : K) (clauses : List (List Lit)) → has_gate eq w k ≡ false → holds values (after_steps eq w (gate_steps eq w k clauses)).clauses ≡ (holds values w.clauses && holds values clauses)
    gate_holds k clauses none = ap (λ (x : Written K). holds values x.clauses) (gate_is eq w k clauses none) ∙ holds_more w.clauses clauses

    -- a gate that isn't written yet
    pub all_holds : (k : K) (parts : List Lit) → has_gate eq w k ≡ false → holds values (write eq w (all_of k parts)).clauses ≡ (holds values w.clauses && beq (is_true values (literal eq w k)) (list_all (is_true values) parts))
    all_holds k parts none = gate_holds k (all_clauses (literal eq w k) parts) none ∙ ap (λ b. holds values w.clauses && b) (all_says (literal eq w k) parts)

    pub any_holds : (k : K) (parts : List Lit) → has_gate eq w k ≡ false → holds values (write eq w (any_of k parts)).clauses ≡ (holds values w.clauses && beq (is_true values (literal eq w k)) (list_any (is_true values) parts))
    any_holds k parts none = gate_holds k (any_clauses (literal eq w k) parts) none ∙ ap (λ b. holds values w.clauses && b) (any_says (literal eq w k) parts)

    pub equal_holds : (k : K) (a b : Lit) → has_gate eq w k ≡ false → holds values (write eq w (equal_of k a b)).clauses ≡ (holds values w.clauses && beq (is_true values (literal eq w k)) (beq (is_true values a) (is_true values b)))
    equal_holds k a b none = gate_holds k (equal_clauses (literal eq w k) a b) none ∙ ap (λ b. holds values w.clauses && b) (equal_says (literal eq w k) a b)

    pub stated_holds : (lits : List Lit) → holds values (write eq w (stated lits)).clauses ≡ (holds values w.clauses && list_any (is_true values) lits)
    stated_holds lits = holds_more w.clauses (lits ∷ []) ∙ ap (λ b. holds values w.clauses && b) (by (holds_clause values lits))
      where
        by : (b : Bool) → (b && true) ≡ b
        by true = refl
        by false = refl

pub same_by : (a b c : Bool) → (a && beq b c) ≡ true → b ≡ c
same_by true true true e = refl
same_by true false false e = refl
same_by true true false e = absurd (true≢false (sym e))
same_by true false true e = absurd (true≢false (sym e))
same_by false b c e = absurd (true≢false (sym e))
