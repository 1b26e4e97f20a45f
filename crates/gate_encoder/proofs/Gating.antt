-- What the steps of a gate make of what was written.
use Rattle.std.proofs.Common.{◌≡◌, ℕ, ◌+◌, ◌<◌, ◌≤◌, suc, Bool, true, false, not, cond, ◌||◌, List, [], ◌∷◌, ◌++◌, length, map, take, set, Some, None, refl, sym, ap, ◌∙◌, unwrap_or, if◌then◌else◌, append_assoc, slice_index_or, length-append, arith}
use Rattle.std.specs.Cmp.{IsEquivalence}
use Rattle.std.specs.List.{list_any, position_or_len, zip}
use Rattle.std.specs.Map.{keys_of, lookup, set_value}
use Rattle.std.proofs.lemmas.Bool.{true≢false, or_left, or_right}
use Rattle.std.proofs.lemmas.List.{map-append, take-append-le, take-map, length-map, append-nil, get_or_default}
use Rattle.std.proofs.lemmas.List.Sums.{fold-append}
use Rattle.std.proofs.lemmas.Map.Made.{keys_of-zip}
use Rattle.sat_clauses.specs.declared.literal.Lit.{Lit}
use Rattle.sat_clauses.specs.ClauseLists.{distinct_literals}
use Rattle.gate_encoder.specs.Writing.{Written, Step, new_number, new_clause, whole_gate, after_step, after_steps, gate_steps, has_number, has_gate, IsCut}
use Rattle.gate_encoder.specs.Appending.{with_clauses, IsBegun}
use Rattle.gate_encoder.proofs.Keys.{mark_at, mark_set}

module _ {K : Type 0} (eq : K → K → Bool) where
  -- a key without a mark at the end
  lookup_push : (test : K → Bool) (es : List (K × Bool)) (k : K) → unwrap_or (lookup test (es ++ (k, false) ∷ [])) false ≡ unwrap_or (lookup test es) false
  lookup_push test [] k = by (test k)
    where
      by : (b : Bool) → unwrap_or (cond b (Some false) None) false ≡ false
      by true = refl
      by false = refl
  lookup_push test (e ∷ es) k = by (test e.0) (lookup_push test es k)
    where
      by : (b : Bool) → unwrap_or (lookup test (es ++ (k, false) ∷ [])) false ≡ unwrap_or (lookup test es) false
          → unwrap_or (cond b (Some e.1) (lookup test (es ++ (k, false) ∷ []))) false ≡ unwrap_or (cond b (Some e.1) (lookup test es)) false
      by true rest = refl
      by false rest = rest

  -- a number marks nothing
  pub number_marks : (w : Written K) (k q : K) → has_gate eq (after_step eq w (new_number k)) q ≡ has_gate eq w q
  number_marks w k q = by (has_number eq w k)
    where
      by : (b : Bool) → unwrap_or (lookup (eq q) (if b then w.keys else w.keys ++ (k, false) ∷ [])) false ≡ unwrap_or (lookup (eq q) w.keys) false
      by true = refl
      by false = lookup_push (eq q) w.keys k

  pub keys_of-push : (es : List (K × Bool)) (k : K) (b : Bool) → keys_of (es ++ (k, b) ∷ []) ≡ keys_of es ++ k ∷ []
  keys_of-push es k b = map-append (λ (e : K × Bool). e.0) es ((k, b) ∷ [])

  -- the place of a key that stands in front
  pub place_in_front : (test : K → Bool) (ks more : List K) → list_any test ks ≡ true → position_or_len test (ks ++ more) ≡ position_or_len test ks
  place_in_front test [] more there = absurd (true≢false (sym there))
  place_in_front test (x ∷ xs) more there = by (test x) refl (λ h. place_in_front test xs more h)
    where
      by : (b : Bool) → test x ≡ b → (list_any test xs ≡ true → position_or_len test (xs ++ more) ≡ position_or_len test xs)
          → cond (not (test x)) (1 + position_or_len test (xs ++ more)) 0 ≡ cond (not (test x)) (1 + position_or_len test xs) 0
      by true e rest = rw e refl
      by false e rest = rw e (ap (λ n. 1 + n) (rest (sym (ap (λ b. b || list_any test xs) e) ∙ there)))

  place_behind : (test : K → Bool) (ks : List K) (k : K) → list_any test ks ≡ false → test k ≡ true → position_or_len test (ks ++ k ∷ []) ≡ position_or_len test ks
  place_behind test [] k absent own = rw own refl
  place_behind test (x ∷ xs) k absent own = by (test x) refl (λ h. place_behind test xs k h own)
    where
      by : (b : Bool) → test x ≡ b → (list_any test xs ≡ false → position_or_len test (xs ++ k ∷ []) ≡ position_or_len test xs)
          → cond (not (test x)) (1 + position_or_len test (xs ++ k ∷ [])) 0 ≡ cond (not (test x)) (1 + position_or_len test xs) 0
      by true e rest = rw e refl
      by false e rest = rw e (ap (λ n. 1 + n) (rest (sym (ap (λ b. b || list_any test xs) e) ∙ absent)))

  pub length_number : (w : Written K) (k : K) → length w.keys ≤ length (after_step eq w (new_number k)).keys
  length_number w k = by (has_number eq w k)
    where
      by : (b : Bool) → length w.keys ≤ length (if b then w.keys else w.keys ++ (k, false) ∷ [])
      by true = omega arith
      by false = omega (arith, length-append w.keys ((k, false) ∷ []))

  -- a key's place stays where it gets its number
  pub number_place : IsEquivalence eq → (w : Written K) (k : K) → position_or_len (eq k) (keys_of (after_step eq w (new_number k)).keys) ≡ position_or_len (eq k) (keys_of w.keys)
  number_place laws w k = by (has_number eq w k) refl
    where
      by : (b : Bool) → has_number eq w k ≡ b → position_or_len (eq k) (keys_of (if has_number eq w k then w.keys else w.keys ++ (k, false) ∷ [])) ≡ position_or_len (eq k) (keys_of w.keys)
      by true e = rw e refl
      by false e = rw e (ap (position_or_len (eq k)) (keys_of-push w.keys k false) ∙ place_behind (eq k) (keys_of w.keys) k e (laws.refl k))

  marked_there : (test : K → Bool) (es : List (K × Bool)) → unwrap_or (lookup test es) false ≡ true → list_any test (keys_of es) ≡ true
  marked_there test [] marked = absurd (true≢false (sym marked))
  marked_there test (e ∷ es) marked = by (test e.0) refl (λ h. marked_there test es h)
    where
      by : (b : Bool) → test e.0 ≡ b → (unwrap_or (lookup test es) false ≡ true → list_any test (keys_of es) ≡ true) → (test e.0 || list_any test (keys_of es)) ≡ true
      by true there rest = or_left (test e.0) (list_any test (keys_of es)) there
      by false there rest = or_right (test e.0) (list_any test (keys_of es)) (rest (sym (ap (λ b. unwrap_or (cond b (Some e.1) (lookup test es)) false) there) ∙ marked))

  -- a key whose gate is written has a number
  pub gated_has_number : (w : Written K) (k : K) → has_gate eq w k ≡ true → has_number eq w k ≡ true
  gated_has_number w k marked = marked_there (eq k) w.keys marked

  -- steps that are clauses
  pub after_clauses : (w : Written K) (clauses : List (List Lit)) → after_steps eq w (map new_clause clauses) ≡ record { keys = w.keys; clauses = with_clauses w.clauses clauses }
  after_clauses w clauses = by w.keys w.clauses clauses
    where
      by : (keys : List (K × Bool)) (old more : List (List Lit)) → after_steps eq record { keys = keys; clauses = old } (map new_clause more) ≡ record { keys = keys; clauses = with_clauses old more }
      by keys old [] = ap (λ (cs : List (List Lit)). let x : Written K = record { keys = keys; clauses = cs } in x) (sym (append-nil old))
      by keys old (c ∷ cs) =
          by keys (old ++ distinct_literals c ∷ []) cs
          ∙ ap (λ (xs : List (List Lit)). let x : Written K = record { keys = keys; clauses = xs } in x) (append_assoc old (distinct_literals c ∷ []) (map distinct_literals cs))

  pub cut_none : (w new : Written K) (all : List (Step K)) → new ≡ w → IsCut eq w all new
  cut_none w new all same = record { count = 0; within = omega arith; cut = same }

  module _ (w : Written K) (k : K) (clauses : List (List Lit)) where
    -- the steps of a gate that isn't written
    pub open_steps : has_gate eq w k ≡ false → gate_steps eq w k clauses ≡ new_number k ∷ map new_clause clauses ++ whole_gate k ∷ []
    open_steps none = ap (λ b. if b then [] else new_number k ∷ map new_clause clauses ++ whole_gate k ∷ []) none

    steps_length : has_gate eq w k ≡ false → length (gate_steps eq w k clauses) ≡ length clauses + 2
    steps_length none =
        ap length (open_steps none) ∙ omega (arith, length-append (map new_clause clauses) (whole_gate k ∷ []), length-map clauses (λ (c : List Lit). let s : Step K = new_clause c in s))

    -- what a gate writes: the number, the clauses and the mark
    pub gate_is : has_gate eq w k ≡ false → after_steps eq w (gate_steps eq w k clauses) ≡ record { keys = set_value (eq k) (after_step eq w (new_number k)).keys true; clauses = with_clauses w.clauses clauses }
    gate_is none =
        let first = after_step eq w (new_number k) in
        ap (after_steps eq w) (open_steps none)
        ∙ fold-append (after_step eq) first (map new_clause clauses) (whole_gate k ∷ [])
        ∙ ap (λ (x : Written K). after_step eq x (whole_gate k)) (after_clauses first clauses)

    pub gate_kept : has_gate eq w k ≡ true → after_steps eq w (gate_steps eq w k clauses) ≡ w
    gate_kept marked = ap (λ b. after_steps eq w (if b then [] else new_number k ∷ map new_clause clauses ++ whole_gate k ∷ [])) marked

    pub number_kept_gated : has_gate eq w k ≡ true → after_step eq w (new_number k) ≡ w
    number_kept_gated marked =
        ap (λ b. let x : Written K = record { keys = if b then w.keys else w.keys ++ (k, false) ∷ []; clauses = w.clauses } in x) (gated_has_number w k marked)

    cut_steps : (n : ℕ) → n ≤ length clauses → after_steps eq w (take (suc n) (new_number k ∷ map new_clause clauses ++ whole_gate k ∷ [])) ≡ record { keys = (after_step eq w (new_number k)).keys; clauses = with_clauses w.clauses (take n clauses) }
    cut_steps n within =
        let first = after_step eq w (new_number k) in
        let front : take n (map new_clause clauses ++ whole_gate k ∷ []) ≡ map new_clause (take n clauses) =
        take-append-le n (map new_clause clauses) (whole_gate k ∷ []) (omega (arith, length-map clauses (λ (c : List Lit). let s : Step K = new_clause c in s))) ∙ take-map new_clause n clauses in
        ap (after_steps eq first) front ∙ after_clauses first (take n clauses)

    module _ (ks : List K) (marks : List Bool) (old : List (List Lit)) (number : record { keys = zip ks marks; clauses = old } ≡ after_step eq w (new_number k)) where
      same_old : old ≡ w.clauses
      same_old = ap (λ (x : Written K). x.clauses) number

      -- after the number only some of the clauses were put
      pub gate_cut : (new : List (List Lit)) → has_gate eq w k ≡ false → IsBegun old clauses new → IsCut eq w (gate_steps eq w k clauses) record { keys = zip ks marks; clauses = new }
      gate_cut new none begun =
          record {
            count = suc begun.count;
            within = omega (arith, begun.within, steps_length none);
            cut = ap (λ (cs : List (List Lit)). let x : Written K = record { keys = zip ks marks; clauses = cs } in x) (begun.begun ∙ ap (λ cs. with_clauses cs (take begun.count clauses)) same_old)
                ∙ ap (λ (es : List (K × Bool)). let x : Written K = record { keys = es; clauses = with_clauses w.clauses (take begun.count clauses) } in x) (ap (λ (x : Written K). x.keys) number)
                ∙ sym (cut_steps begun.count begun.within) ∙ ap (λ ss. after_steps eq w (take (suc begun.count) ss)) (sym (open_steps none));
          }

      -- only the number was given
      pub gate_numbered : has_gate eq w k ≡ false → IsCut eq w (gate_steps eq w k clauses) record { keys = zip ks marks; clauses = old }
      gate_numbered none =
          record {
            count = 1;
            within = omega (arith, steps_length none);
            cut = number ∙ ap (λ ss. after_steps eq w (take 1 ss)) (sym (open_steps none));
          }

      module _ (place : ℕ) (laws : IsEquivalence eq) (same : length marks ≡ length ks) (at : place ≡ position_or_len (eq k) (keys_of w.keys)) where
        at_names : place ≡ position_or_len (eq k) ks
        at_names = at ∙ sym (number_place laws w k) ∙ ap (λ (x : Written K). position_or_len (eq k) (keys_of x.keys)) (sym number) ∙ ap (position_or_len (eq k)) (keys_of-zip ks marks same)

        -- the mark at the key's place tells whether the gate was written
        pub mark_tells : (mark : Bool) → place < length marks → mark ≡ slice_index_or marks place mark → mark ≡ has_gate eq w k
        mark_tells mark within read =
            read ∙ get_or_default marks place mark false within
            ∙ ap (λ n. slice_index_or marks n false) at_names ∙ sym (mark_at (eq k) ks marks same) ∙ ap (λ (x : Written K). has_gate eq x k) number ∙ number_marks w k k

        -- the clauses were put, and the mark
        pub gate_done : (new : List (List Lit)) → has_gate eq w k ≡ false → new ≡ with_clauses old clauses → record { keys = zip ks (set marks place true); clauses = new } ≡ after_steps eq w (gate_steps eq w k clauses)
        gate_done new none is =
            ap (λ (cs : List (List Lit)). let x : Written K = record { keys = zip ks (set marks place true); clauses = cs } in x) (is ∙ ap (λ cs. with_clauses cs clauses) same_old)
            ∙ ap (λ (es : List (K × Bool)). let x : Written K = record { keys = es; clauses = with_clauses w.clauses clauses } in x)
            (ap (λ n. zip ks (set marks n true)) at_names ∙ mark_set (eq k) ks marks same ∙ ap (λ (x : Written K). set_value (eq k) x.keys true) number)
            ∙ sym (gate_is none)
