-- Clauses as sets: what `has` says of the lists that are made of them.
use Rattle.std.proofs.Common.{◌≡◌, ℕ, Bool, true, false, cond, not, ◌&&◌, ◌||◌, List, [], ◌∷◌, ◌++◌, All, length, get_or, ◌<◌, refl, sym, ap, subst, ◌∙◌, eqb}
use Rattle.std.specs.Bool.{beq}
use Rattle.std.specs.List.{list_any}
use Rattle.std.proofs.lemmas.Bool.{and_parts, and_from, eqb-true, eq-eqb}
use Rattle.std.proofs.lemmas.Bool.{cond_both}
use Rattle.std.proofs.lemmas.List.{length-map, get_or-map}
use Rattle.std.proofs.lemmas.List.Elements.{All-push, All-get_or, All-head, All-tail, All-filter}
use Rattle.std.specs.declared.vec.Vec.{Vec}
use Rattle.std.proofs.lemmas.List.Folds.{list_any-append}
use Rattle.sat_clauses.specs.declared.literal.Lit.{Lit}
use Rattle.sat_clauses.specs.Literals.{same_literal, opposite}
use Rattle.sat_clauses.specs.ClauseLists.{has, with_literal, without, joined, resolvent, literal_lists}

beq-true : (a b : Bool) → beq a b ≡ true → a ≡ b
beq-true true true e = refl
beq-true true false e = sym e
beq-true false true e = e
beq-true false false e = refl

beq-same : (a : Bool) → beq a a ≡ true
beq-same true = refl
beq-same false = refl

-- the test of two literals tells whether they are one
pub one_literal : (a b : Lit) → same_literal a b ≡ true → a ≡ b
one_literal a b e =
    let parts = and_parts (eqb a.var b.var) (beq a.positive b.positive) e in
    let vars : a.var ≡ b.var = eqb-true a.var b.var parts.0 in
    let signs : a.positive ≡ b.positive = beq-true a.positive b.positive parts.1 in
    (λ j. record { var = vars j; positive = signs j })

pub same_itself : (a : Lit) → same_literal a a ≡ true
same_itself a = and_from (eqb a.var a.var) (beq a.positive a.positive) (eq-eqb a.var a.var refl) (beq-same a.positive)

-- one literal has one test against each other
same_along : (a b c : Lit) → same_literal a b ≡ true → same_literal c a ≡ same_literal c b
same_along a b c e = ap (same_literal c) (one_literal a b e)

pub has_along : (a b : Lit) (clause : List Lit) → same_literal a b ≡ true → has clause a ≡ has clause b
has_along a b clause e = ap (has clause) (one_literal a b e)

any_of_cond : (test : Lit → Bool) (b : Bool) (x : Lit) (xs : List Lit) → list_any test (cond b (x ∷ xs) xs) ≡ cond b (test x || list_any test xs) (list_any test xs)
any_of_cond test true x xs = refl
any_of_cond test false x xs = refl

left_out : (px lx pl hx w : Bool) → w ≡ (hx && not pl) → (lx ≡ true → pl ≡ px) → cond (not px) (lx || w) w ≡ ((lx || hx) && not pl)
left_out true true pl true w e s = rw (e, s refl) refl
left_out true true pl false w e s = rw (e, s refl) refl
left_out true false pl hx w e s = e
left_out false true pl hx w e s = rw (s refl) refl
left_out false false pl hx w e s = e

pub has-without : (clause : List Lit) (pivot lit : Lit) → has (without clause pivot) lit ≡ (has clause lit && not (same_literal pivot lit))
has-without [] pivot lit = refl
has-without (x ∷ xs) pivot lit =
    any_of_cond (same_literal lit) (not (same_literal pivot x)) x (without xs pivot)
    ∙ left_out (same_literal pivot x) (same_literal lit x) (same_literal pivot lit) (has xs lit) (has (without xs pivot) lit) (has-without xs pivot lit) (same_along lit x pivot)

put_in : (hx lx hl : Bool) (clause : List Lit) (x lit : Lit) → has clause x ≡ hx → same_literal lit x ≡ lx → has clause lit ≡ hl → (lx ≡ true → hl ≡ hx) → has (cond hx clause (clause ++ x ∷ [])) lit ≡ (hl || lx)
put_in true lx true clause x lit eh el e s = e
put_in true true false clause x lit eh el e s = e ∙ s refl
put_in true false false clause x lit eh el e s = e
put_in false lx hl clause x lit eh el e s = list_any-append (same_literal lit) clause (x ∷ []) ∙ last hl lx e el
  where
    last : (h l : Bool) → has clause lit ≡ h → same_literal lit x ≡ l → (has clause lit || (same_literal lit x || false)) ≡ (h || l)
    last true l p q = rw p refl
    last false true p q = rw (p, q) refl
    last false false p q = rw (p, q) refl

pub has-with_literal : (clause : List Lit) (x lit : Lit) → has (with_literal clause x) lit ≡ (has clause lit || same_literal lit x)
has-with_literal clause x lit = put_in (has clause x) (same_literal lit x) (has clause lit) clause x lit refl refl refl (has_along lit x clause)

or_regroup : (a b c : Bool) → ((a || b) || c) ≡ (a || (b || c))
or_regroup true b c = refl
or_regroup false b c = refl

pub has-joined : (clause lits : List Lit) (lit : Lit) → has (joined clause lits) lit ≡ (has clause lit || has lits lit)
has-joined clause [] lit = or_none (has clause lit)
  where
    or_none : (b : Bool) → b ≡ (b || false)
    or_none true = refl
    or_none false = refl
has-joined clause (x ∷ xs) lit =
    has-joined (with_literal clause x) xs lit
    ∙ ap (λ h. h || has xs lit) (has-with_literal clause x lit)
    ∙ or_regroup (has clause lit) (same_literal lit x) (has xs lit)

pub has-resolvent : (pivot : Lit) (clause other : List Lit) (lit : Lit)
    → has (resolvent pivot clause other) lit ≡ ((has clause lit && not (same_literal pivot lit)) || (has other lit && not (same_literal (opposite pivot) lit)))
has-resolvent pivot clause other lit =
    has-joined (without clause pivot) (without other (opposite pivot)) lit
    ∙ ap (λ h. h || has (without other (opposite pivot)) lit) (has-without clause pivot lit)
    ∙ ap (λ h. (has clause lit && not (same_literal pivot lit)) || h) (has-without other (opposite pivot) lit)

-- one literal more
pub joined-push : (clause lits : List Lit) (lit : Lit) → joined clause (lits ++ lit ∷ []) ≡ with_literal (joined clause lits) lit
joined-push clause [] lit = refl
joined-push clause (x ∷ xs) lit = joined-push (with_literal clause x) xs lit

-- what holds of each literal of a clause and of one more
pub All-with_literal : (P : Lit → Type 0) (clause : List Lit) (lit : Lit) → All P clause → P lit → All P (with_literal clause lit)
All-with_literal P clause lit all here = cond_both (has clause lit) clause (clause ++ lit ∷ []) (λ ls. All P ls) (λ _. all) (λ _. All-push P clause lit all here)

pub All-joined : (P : Lit → Type 0) (clause lits : List Lit) → All P clause → All P lits → All P (joined clause lits)
All-joined P clause [] all more = all
All-joined P clause (x ∷ xs) all more = All-joined P (with_literal clause x) xs (All-with_literal P clause x all (All-head P x xs more)) (All-tail P x xs more)

pub All-resolvent : (P : Lit → Type 0) (pivot : Lit) (clause other : List Lit) → All P clause → All P other → All P (resolvent pivot clause other)
All-resolvent P pivot clause other all more =
    All-joined P (without clause pivot) (without other (opposite pivot)) (All-filter (λ lit. not (same_literal pivot lit)) P clause all) (All-filter (λ lit. not (same_literal (opposite pivot) lit)) P other more)

-- what holds of each clause holds of the one at a place
pub clause_at : {A : Type 0} (P : List Lit → Type 0) (clauses : List (Vec Lit A)) (place : ℕ) (clause : Vec Lit A) → All P (literal_lists clauses) → place < length clauses → clause ≡ get_or clauses place clause → P clause.items
clause_at {A} P clauses place clause all within at =
    let items : Vec Lit A → List Lit = λ c. c.items in
    let here = All-get_or P (literal_lists clauses) place clause.items (rw (length-map clauses items) within) all in
    subst P (get_or-map items clauses place clause clause.items within ∙ ap items (sym at)) here
