-- Resolution is sound: an assignment that holds the known clauses holds each that follows.
use Rattle.std.proofs.Common.{◌≡◌, ℕ, zero, suc, ◌-◌, Bool, true, false, not, ◌&&◌, ◌||◌, List, [], ◌∷◌, ◌++◌, Some, slice_get, slice_index_or, refl, sym, ap, ◌∙◌}
use Rattle.std.specs.Bool.{beq}
use Rattle.std.proofs.lemmas.Bool.{and_parts, and_from, true≢false, or_left, or_right}
use Rattle.std.proofs.lemmas.List.Folds.{list_all-append}
use Rattle.std.proofs.lemmas.Option.{same_Some}
use Rattle.sat_clauses.specs.declared.literal.Lit.{Lit}
use Rattle.sat_clauses.specs.declared.derivation.Link.{Link}
use Rattle.sat_clauses.specs.Literals.{same_literal, opposite, is_true}
use Rattle.sat_clauses.specs.ClauseLists.{has, holds, holds_clause, resolvent}
use Rattle.sat_clauses.specs.Derivations.{Resolution, Leads, Chain, Makes, Follow, Derives}
use Rattle.sat_clauses.proofs.SetLemmas.{one_literal, same_itself, has-resolvent}

-- a true literal of a clause, and what one shows
pub record HasTrue (values : List Bool) (clause : List Lit) : Type 0 where
  pub lit : Lit
  pub there : has clause lit ≡ true
  pub value : is_true values lit ≡ true

true_literal : (values : List Bool) (clause : List Lit) → holds_clause values clause ≡ true → HasTrue values clause
true_literal values [] h = absurd (true≢false (sym h))
true_literal values (x ∷ xs) h = by (is_true values x) refl (λ e. true_literal values xs (sym (ap (λ b. b || holds_clause values xs) e) ∙ h))
  where
    by : (b : Bool) → is_true values x ≡ b → (is_true values x ≡ false → HasTrue values xs) → HasTrue values (x ∷ xs)
    by true e in_rest = record { lit = x; there = or_left (same_literal x x) (has xs x) (same_itself x); value = e }
    by false e in_rest =
        let rest = in_rest e in
        record { lit = rest.lit; there = or_right (same_literal rest.lit x) (has xs rest.lit) rest.there; value = rest.value }

held_by : (values : List Bool) (clause : List Lit) (lit : Lit) → has clause lit ≡ true → is_true values lit ≡ true → holds_clause values clause ≡ true
held_by values [] lit h v = h
held_by values (x ∷ xs) lit h v = by (same_literal lit x) refl (λ e. held_by values xs lit (sym (ap (λ b. b || has xs lit) e) ∙ h) v)
  where
    by : (b : Bool) → same_literal lit x ≡ b → (same_literal lit x ≡ false → holds_clause values xs ≡ true) → holds_clause values (x ∷ xs) ≡ true
    by true e rest = or_left (is_true values x) (holds_clause values xs) (sym (ap (is_true values) (one_literal lit x e)) ∙ v)
    by false e rest = or_right (is_true values x) (holds_clause values xs) (rest e)

-- an assignment makes one of a literal and its opposite true
pub opposite_value : (values : List Bool) (lit : Lit) → is_true values (opposite lit) ≡ not (is_true values lit)
opposite_value values lit = signs (slice_index_or values (lit.var - 1) false) lit.positive
  where
    signs : (a b : Bool) → beq a (not b) ≡ not (beq a b)
    signs true true = refl
    signs true false = refl
    signs false true = refl
    signs false false = refl

pub held_resolvent : (values : List Bool) (pivot : Lit) (clause other : List Lit) → holds_clause values clause ≡ true → holds_clause values other ≡ true → holds_clause values (resolvent pivot clause other) ≡ true
held_resolvent values pivot clause other h k =
    let left = true_literal values clause h in
    let right = true_literal values other k in
    by left right (same_literal pivot left.lit) refl (same_literal (opposite pivot) right.lit) refl
  where
    in_left : (a b c : Bool) → a ≡ true → b ≡ false → ((a && not b) || c) ≡ true
    in_left a b c p q = rw (p, q) refl

    in_right : (a b c : Bool) → b ≡ true → c ≡ false → (a || (b && not c)) ≡ true
    in_right a b c p q = or_right a (b && not c) (rw (p, q) refl)

    by : (left : HasTrue values clause) (right : HasTrue values other) (b : Bool) → same_literal pivot left.lit ≡ b → (c : Bool) → same_literal (opposite pivot) right.lit ≡ c → holds_clause values (resolvent pivot clause other) ≡ true
    by left right false p c q =
        held_by values (resolvent pivot clause other) left.lit (has-resolvent pivot clause other left.lit ∙ in_left (has clause left.lit) (same_literal pivot left.lit) _ left.there p) left.value
    by left right true p false q =
        held_by values (resolvent pivot clause other) right.lit (has-resolvent pivot clause other right.lit ∙ in_right _ (has other right.lit) (same_literal (opposite pivot) right.lit) right.there q) right.value
    by left right true p true q =
        let yes : is_true values pivot ≡ true = ap (is_true values) (one_literal pivot left.lit p) ∙ left.value in
        let no : is_true values (opposite pivot) ≡ true = ap (is_true values) (one_literal (opposite pivot) right.lit q) ∙ right.value in
        absurd (true≢false (sym no ∙ opposite_value values pivot ∙ ap not yes))

-- each of the clauses that are held
pub held_at : (values : List Bool) (clauses : List (List Lit)) (place : ℕ) (clause : List Lit) → holds values clauses ≡ true → slice_get clauses place ≡ Some clause → holds_clause values clause ≡ true
held_at values [] place clause h at = cc
held_at values (x ∷ xs) zero clause h at = ap (holds_clause values) (sym (same_Some x clause at)) ∙ (and_parts (holds_clause values x) (holds values xs) h).0
held_at values (x ∷ xs) (suc place) clause h at = held_at values xs place clause (and_parts (holds_clause values x) (holds values xs) h).1 at

pub held_after_link : (values : List Bool) (known : List (List Lit)) (link : Link) (clause next : List Lit) → holds values known ≡ true → holds_clause values clause ≡ true → Leads known link clause next → holds_clause values next ≡ true
held_after_link values known link clause next h k leads =
    ap (holds_clause values) leads.resolved ∙ held_resolvent values link.pivot clause leads.other k (held_at values known link.clause leads.other h leads.numbered)

pub held_after_chain : (values : List Bool) (known : List (List Lit)) (links : List Link) (clause last : List Lit) → holds values known ≡ true → holds_clause values clause ≡ true → Chain known links clause last → holds_clause values last ≡ true
held_after_chain values known [] clause last h k chain = ap (holds_clause values) chain ∙ k
held_after_chain values known (link ∷ links) clause last h k chain =
    held_after_chain values known links chain.0 last h (held_after_link values known link clause chain.0 h k chain.1) chain.2

pub held_after_step : (values : List Bool) (known : List (List Lit)) (step : Resolution) (clause : List Lit) → holds values known ≡ true → Makes known step clause → holds_clause values clause ≡ true
held_after_step values known step clause h makes =
    held_after_chain values known step.links makes.start clause h (held_at values known step.first makes.start h makes.numbered) makes.chain

pub held_with : (values : List Bool) (known : List (List Lit)) (clause : List Lit) → holds values known ≡ true → holds_clause values clause ≡ true → holds values (known ++ clause ∷ []) ≡ true
held_with values known clause h k = list_all-append (holds_clause values) known (clause ∷ []) ∙ and_from (holds values known) (holds_clause values clause && true) h (and_from (holds_clause values clause) true k refl)

pub held_after_steps : (values : List Bool) (known all : List (List Lit)) (steps : List Resolution) → holds values known ≡ true → Follow known steps all → holds values all ≡ true
held_after_steps values known all [] h follow = ap (holds values) follow ∙ h
held_after_steps values known all (step ∷ steps) h follow =
    held_after_steps values (known ++ follow.0 ∷ []) all steps (held_with values known follow.0 h (held_after_step values known step follow.0 h follow.1)) follow.2

pub sound : (clauses : List (List Lit)) (steps : List Resolution) (values : List Bool) → Derives clauses steps → holds values clauses ≡ true → ⊥
sound clauses steps values derives h =
    let all = held_after_steps values clauses (derives.before ++ [] ∷ []) steps h derives.follow in
    let parts = and_parts (holds values derives.before) (holds_clause values [] && true) (sym (list_all-append (holds_clause values) derives.before ([] ∷ [])) ∙ all) in
    true≢false (sym parts.1)
