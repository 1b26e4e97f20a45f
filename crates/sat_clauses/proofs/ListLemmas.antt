-- Literal lists without repetition, and what a set's operations make of them.
use Rattle.std.proofs.Common.{◌≡◌, ℕ, Bool, true, false, cond, not, List, [], ◌∷◌, ◌++◌, take, length, get_or, ◌<◌, ◌+◌, refl, sym, ap, subst, ◌∙◌, append_assoc}
use Rattle.std.specs.List.{list_any, IsDistinct, AllByRecursion}
use Rattle.std.specs.Set.{remove_key}
use Rattle.std.proofs.lemmas.List.{append-nil, take_more}
use Rattle.std.proofs.lemmas.List.Elements.{filter-append}
use Rattle.std.proofs.lemmas.Map.Keys.{IsDistinct-head, IsDistinct-tail}
use Rattle.sat_clauses.specs.declared.literal.Lit.{Lit}
use Rattle.sat_clauses.specs.Literals.{same_literal}
use Rattle.sat_clauses.specs.ClauseLists.{has, with_literal, without, joined}
use Rattle.sat_clauses.proofs.SetLemmas.{one_literal, same_itself, joined-push}

pub same_either_way : (a b : Lit) → same_literal a b ≡ same_literal b a
same_either_way a b = by (same_literal a b) refl (same_literal b a) refl
  where
    by : (p : Bool) → same_literal a b ≡ p → (q : Bool) → same_literal b a ≡ q → p ≡ q
    by true e true f = refl
    by false e false f = refl
    by true e false f = sym (same_itself a) ∙ ap (λ x. same_literal x a) (one_literal a b e) ∙ f
    by false e true f = sym e ∙ ap (same_literal a) (one_literal b a f) ∙ same_itself a

-- a literal is in a clause, whichever way the test is put
pub has_either_way : (clause : List Lit) (lit : Lit) → list_any (λ other. same_literal other lit) clause ≡ has clause lit
has_either_way [] lit = refl
has_either_way (x ∷ xs) lit = rw (same_either_way x lit, has_either_way xs lit) refl

none_left_out : (lit : Lit) (xs : List Lit) → AllByRecursion (λ y. same_literal lit y ≡ false) xs → xs ≡ without xs lit
none_left_out lit [] h = refl
none_left_out lit (x ∷ xs) h = ap (λ l. x ∷ l) (none_left_out lit xs h.1) ∙ ap (λ b. cond (not b) (x ∷ without xs lit) (without xs lit)) (sym h.0)

-- a set that has no literal twice loses all of one with the first
pub removed : (pivot : Lit) (clause : List Lit) → IsDistinct same_literal clause → remove_key (same_literal pivot) clause ≡ without clause pivot
removed pivot [] h = refl
removed pivot (x ∷ xs) h =
    by (same_literal pivot x) refl (removed pivot xs (IsDistinct-tail same_literal x xs h)) (λ e. none_left_out pivot xs (subst (λ y. AllByRecursion (λ z. same_literal y z ≡ false) xs) (sym (one_literal pivot x e)) (IsDistinct-head same_literal x xs h)))
  where
    by : (b : Bool) → same_literal pivot x ≡ b → remove_key (same_literal pivot) xs ≡ without xs pivot → (same_literal pivot x ≡ true → xs ≡ without xs pivot) → cond b xs (x ∷ remove_key (same_literal pivot) xs) ≡ cond (not b) (x ∷ without xs pivot) (without xs pivot)
    by true e rest same = same e
    by false e rest same = ap (λ l. x ∷ l) rest

absent : (before xs : List Lit) (x : Lit) → IsDistinct same_literal (before ++ x ∷ xs) → has before x ≡ false
absent [] xs x h = refl
absent (y ∷ ys) xs x h =
    rw (same_either_way x y, apart ys (IsDistinct-head same_literal y (ys ++ x ∷ xs) h), absent ys xs x (IsDistinct-tail same_literal y (ys ++ x ∷ xs) h)) refl
  where
    apart : (zs : List Lit) → AllByRecursion (λ z. same_literal y z ≡ false) (zs ++ x ∷ xs) → same_literal y x ≡ false
    apart [] all = all.0
    apart (z ∷ zs) all = apart zs all.1

joined_apart : (before xs : List Lit) → IsDistinct same_literal (before ++ xs) → joined before xs ≡ before ++ xs
joined_apart before [] h = sym (append-nil before)
joined_apart before (x ∷ xs) h =
    let more : with_literal before x ≡ before ++ x ∷ [] = ap (λ b. cond b before (before ++ x ∷ [])) (absent before xs x h) in
    let moved : (before ++ x ∷ []) ++ xs ≡ before ++ x ∷ xs = append_assoc before (x ∷ []) xs in
    ap (λ l. joined l xs) more ∙ joined_apart (before ++ x ∷ []) xs (subst (IsDistinct same_literal) (sym moved) h) ∙ moved

-- a clause that has no literal twice is the one that its literals make
pub joined_distinct : (clause : List Lit) → IsDistinct same_literal clause → joined [] clause ≡ clause
joined_distinct clause h = joined_apart [] clause h

-- one literal more to be joined, unless it is left out
module _ (clause lits : List Lit) (at : ℕ) (none out : Lit) (within : at < length lits) where
  more_without : without (take (at + 1) lits) out ≡ without (take at lits) out ++ cond (not (same_literal out (get_or lits at none))) (get_or lits at none ∷ []) []
  more_without = ap (λ l. without l out) (take_more lits at none within) ∙ filter-append (λ other. not (same_literal out other)) (take at lits) (get_or lits at none ∷ [])

  pub joined_with : same_literal (get_or lits at none) out ≡ false → joined clause (without (take (at + 1) lits) out) ≡ with_literal (joined clause (without (take at lits) out)) (get_or lits at none)
  joined_with other =
      let lit = get_or lits at none in
      let kept : cond (not (same_literal out lit)) (lit ∷ []) [] ≡ lit ∷ [] = ap (λ b. cond (not b) (lit ∷ []) []) (same_either_way out lit ∙ other) in
      ap (joined clause) (more_without ∙ ap (λ l. without (take at lits) out ++ l) kept) ∙ joined-push clause (without (take at lits) out) lit

  pub joined_without : same_literal (get_or lits at none) out ≡ true → joined clause (without (take (at + 1) lits) out) ≡ joined clause (without (take at lits) out)
  joined_without same =
      let lit = get_or lits at none in
      let kept : cond (not (same_literal out lit)) (lit ∷ []) [] ≡ [] = ap (λ b. cond (not b) (lit ∷ []) []) (same_either_way out lit ∙ same) in
      ap (joined clause) (more_without ∙ ap (λ l. without (take at lits) out ++ l) kept ∙ append-nil (without (take at lits) out))
