-- Keys with marks: places of keys, and what a number or a mark changes.
use Rattle.std.proofs.Common.{◌≡◌, ℕ, suc, ◌+◌, Bool, true, false, not, cond, List, [], ◌∷◌, ◌++◌, length, Some, None, refl, sym, ap, ◌∙◌, unwrap_or, if◌then◌else◌, position, set, slice_index_or, arith}
use Rattle.std.specs.List.{list_any, position_or_len, zip}
use Rattle.std.specs.Map.{keys_of, lookup, set_value}
use Rattle.std.proofs.lemmas.Map.Made.{keys_of-zip}
use Rattle.std.proofs.lemmas.Bool.{not-true, not-false}
use Rattle.sat_clauses.specs.declared.literal.Lit.{Lit}
use Rattle.gate_encoder.specs.Writing.{Written, new_number, after_step}

-- a place that was found is that of the number
pub found_place : {K : Type 0} (test : K → Bool) (ks : List K) (place : ℕ) → Some place ≡ position test ks → place ≡ position_or_len test ks
found_place test ks place e = by _ _ e
  where
    by : (b : Bool) (n : ℕ) → Some place ≡ cond b (Some n) None → place ≡ n
    by true n e = cc
    by false n e = absurd (cc)

pub view_keys : {K : Type 0} (ks : List K) (marks : List Bool) (clauses : _) (w : Written K) → record { keys = zip ks marks; clauses = clauses } ≡ w → length marks ≡ length ks → keys_of w.keys ≡ ks
view_keys {K} ks marks clauses w is same = ap (λ (x : Written K). keys_of x.keys) (sym is) ∙ keys_of-zip ks marks same

zip-push : {K X : Type 0} (ks : List K) (vs : List X) (k : K) (v : X) → length vs ≡ length ks → zip (ks ++ k ∷ []) (vs ++ v ∷ []) ≡ zip ks vs ++ (k, v) ∷ []
zip-push [] [] k v same = refl
zip-push [] (y ∷ ys) k v same = absurd (omega arith)
zip-push (x ∷ xs) [] k v same = absurd (omega arith)
zip-push (x ∷ xs) (y ∷ ys) k v same = ap (λ es. (x, y) ∷ es) (zip-push xs ys k v (omega arith))

-- a new key goes behind the others, without a mark
pub number_added : {K : Type 0} (eq : K → K → Bool) (ks more : List K) (marks new : List Bool) (clauses : List (List Lit)) (k : K) (w : Written K) → record { keys = zip ks marks; clauses = clauses } ≡ w → length marks ≡ length ks
    → true ≡ not (list_any (eq k) ks) → more ≡ (if list_any (eq k) ks then ks else ks ++ k ∷ []) → new ≡ marks ++ false ∷ []
    → record { keys = zip more new; clauses = clauses } ≡ after_step eq w (new_number k)
number_added {K} eq ks more marks new clauses k w is same absent grown marked =
    let none : list_any (eq k) ks ≡ false = not-true (list_any (eq k) ks) (sym absent) in
    let names : list_any (eq k) (keys_of (zip ks marks)) ≡ false = ap (list_any (eq k)) (keys_of-zip ks marks same) ∙ none in
    let keys : more ≡ ks ++ k ∷ [] = grown ∙ ap (λ b. if b then ks else ks ++ k ∷ []) none in
    let there : zip more new ≡ zip ks marks ++ (k, false) ∷ [] = ap (λ xs. zip xs new) keys ∙ ap (zip (ks ++ k ∷ [])) marked ∙ zip-push ks marks k false same in
    let at : zip more new ≡ (if list_any (eq k) (keys_of (zip ks marks)) then zip ks marks else zip ks marks ++ (k, false) ∷ []) =
    there ∙ sym (ap (λ b. if b then zip ks marks else zip ks marks ++ (k, false) ∷ []) names) in
    let whole : record { keys = zip more new; clauses = clauses } ≡ after_step eq record { keys = zip ks marks; clauses = clauses } (new_number k) =
    ap (λ (es : List (K × Bool)). let x : Written K = record { keys = es; clauses = clauses } in x) at in
    whole ∙ ap (λ (x : Written K). after_step eq x (new_number k)) is

-- a key that has a number changes nothing
pub number_kept : {K : Type 0} (eq : K → K → Bool) (ks more : List K) (marks : List Bool) (clauses : List (List Lit)) (k : K) (w : Written K) → record { keys = zip ks marks; clauses = clauses } ≡ w → length marks ≡ length ks
    → false ≡ not (list_any (eq k) ks) → more ≡ (if list_any (eq k) ks then ks else ks ++ k ∷ [])
    → record { keys = zip more marks; clauses = clauses } ≡ after_step eq w (new_number k)
number_kept {K} eq ks more marks clauses k w is same there grown =
    let known : list_any (eq k) ks ≡ true = not-false (list_any (eq k) ks) (sym there) in
    let names : list_any (eq k) (keys_of (zip ks marks)) ≡ true = ap (list_any (eq k)) (keys_of-zip ks marks same) ∙ known in
    let keys : more ≡ ks = grown ∙ ap (λ b. if b then ks else ks ++ k ∷ []) known in
    let at : zip more marks ≡ (if list_any (eq k) (keys_of (zip ks marks)) then zip ks marks else zip ks marks ++ (k, false) ∷ []) =
    ap (λ xs. zip xs marks) keys ∙ sym (ap (λ b. if b then zip ks marks else zip ks marks ++ (k, false) ∷ []) names) in
    let whole : record { keys = zip more marks; clauses = clauses } ≡ after_step eq record { keys = zip ks marks; clauses = clauses } (new_number k) =
    ap (λ (es : List (K × Bool)). let x : Written K = record { keys = es; clauses = clauses } in x) at in
    whole ∙ ap (λ (x : Written K). after_step eq x (new_number k)) is

-- the mark at the place of a key is that of the key
pub mark_at : {K : Type 0} (test : K → Bool) (ks : List K) (marks : List Bool) → length marks ≡ length ks → unwrap_or (lookup test (zip ks marks)) false ≡ slice_index_or marks (position_or_len test ks) false
mark_at test [] [] same = refl
mark_at test [] (y ∷ ys) same = absurd (omega arith)
mark_at test (x ∷ xs) [] same = absurd (omega arith)
mark_at test (x ∷ xs) (y ∷ ys) same = by (test x) refl (mark_at test xs ys (omega arith))
  where
    by : (b : Bool) → test x ≡ b → unwrap_or (lookup test (zip xs ys)) false ≡ slice_index_or ys (position_or_len test xs) false
        → unwrap_or (cond (test x) (Some y) (lookup test (zip xs ys))) false ≡ slice_index_or (y ∷ ys) (cond (not (test x)) (1 + position_or_len test xs) 0) false
    by true e rest = rw e refl
    by false e rest = let more : 1 + position_or_len test xs ≡ suc (position_or_len test xs) = omega arith in rw (e, more) rest

-- a mark that is put at the place of a key
pub mark_set : {K : Type 0} (test : K → Bool) (ks : List K) (marks : List Bool) → length marks ≡ length ks → zip ks (set marks (position_or_len test ks) true) ≡ set_value test (zip ks marks) true
mark_set test [] [] same = refl
mark_set test [] (y ∷ ys) same = absurd (omega arith)
mark_set test (x ∷ xs) [] same = absurd (omega arith)
mark_set test (x ∷ xs) (y ∷ ys) same = by (test x) refl (mark_set test xs ys (omega arith))
  where
    by : (b : Bool) → test x ≡ b → zip xs (set ys (position_or_len test xs) true) ≡ set_value test (zip xs ys) true
        → zip (x ∷ xs) (set (y ∷ ys) (cond (not (test x)) (1 + position_or_len test xs) 0) true) ≡ cond (test x) ((x, true) ∷ zip xs ys) ((x, y) ∷ set_value test (zip xs ys) true)
    by true e rest = rw e refl
    by false e rest = let more : 1 + position_or_len test xs ≡ suc (position_or_len test xs) = omega arith in rw (e, more) (ap (λ es. (x, y) ∷ es) rest)
