-- The clauses of entries say that the values of keys agree with each of them.
use Rattle.std.proofs.Common.{◌≡◌, ℕ, zero, suc, ◌+◌, ◌-◌, ◌<◌, Bool, true, false, not, cond, ◌&&◌, ◌||◌, List, [], ◌∷◌, ◌++◌, length, map, Some, slice_index_or, unwrap_or, Contains, refl, sym, ap, ◌∙◌, subst, inl, inr, ◌⊎◌, arith}
use Rattle.std.specs.Bool.{beq}
use Rattle.std.specs.Cmp.{IsEquivalence}
use Rattle.std.specs.List.{list_any, list_all, position_or_len}
use Rattle.std.specs.Map.{keys_of, lookup, set_value}
use Rattle.std.proofs.lemmas.Bool.{true≢false, or_cases, and_parts, and_from}
use Rattle.std.proofs.lemmas.List.{append-nil, append_assoc}
use Rattle.std.proofs.lemmas.List.Elements.{Contains-append_left, Contains-append_right, Contains-push}
use Rattle.std.proofs.lemmas.List.Folds.{list_any-append, list_all-append, list_all-map}
use Rattle.sat_clauses.specs.declared.literal.Lit.{Lit}
use Rattle.sat_clauses.specs.Literals.{is_true}
use Rattle.sat_clauses.specs.ClauseLists.{holds}
use Rattle.gate_encoder.specs.Entries.{Literal, Entry, numbered, stated, all_of, any_of, equal_of, agrees, agree, value_of, map_literals}
use Rattle.gate_encoder.specs.Writing.{Written, Step, nothing, has_number, has_gate, literal, lit_in, new_number, after_step, after_steps, gate_steps, steps, write, write_all, all_clauses, any_clauses, equal_clauses}
use Rattle.gate_encoder.specs.Laws.{IsEquality, parts_of, own_keys, gate_key, AreConsistent, are_in_order, value_in}
use Rattle.gate_encoder.proofs.Gating.{number_marks, gate_is, gate_kept}
use Rattle.gate_encoder.proofs.Numbers.{Keeps, keeps_steps, keeps_all, keeps_after, numbers_key, gate_numbers}
use Rattle.gate_encoder.proofs.Meaning.{all_holds, any_holds, equal_holds, stated_holds}

-- functions that give the same where a test holds
pub list_all_same : {X : Type 0} (test f g : X → Bool) (xs : List X) → list_all test xs ≡ true → ((x : X) → test x ≡ true → f x ≡ g x) → list_all f xs ≡ list_all g xs
list_all_same test f g [] all same = refl
list_all_same test f g (x ∷ xs) all same =
    let parts = and_parts (test x) (list_all test xs) all in
    ap (λ b. b && list_all f xs) (same x parts.0) ∙ ap (λ b. g x && b) (list_all_same test f g xs parts.1 same)

pub list_any_same : {X : Type 0} (test f g : X → Bool) (xs : List X) → list_all test xs ≡ true → ((x : X) → test x ≡ true → f x ≡ g x) → list_any f xs ≡ list_any g xs
list_any_same test f g [] all same = refl
list_any_same test f g (x ∷ xs) all same =
    let parts = and_parts (test x) (list_all test xs) all in
    ap (λ b. b || list_any f xs) (same x parts.0) ∙ ap (λ b. g x || b) (list_any_same test f g xs parts.1 same)

list_any-map : {X Y : Type 0} (f : Y → X) (test : X → Bool) (ys : List Y) → list_any test (map f ys) ≡ list_any (λ y. test (f y)) ys
list_any-map f test [] = refl
list_any-map f test (y ∷ ys) = ap (λ b. test (f y) || b) (list_any-map f test ys)

-- an entry over other literals says the same where the literals' values are the same
agrees_mapped : {K M : Type 0} (f : Literal K → M) (u v : K → Bool) (value : M → Bool) (test : Literal K → Bool) (e : Entry K (Literal K)) → list_all test (parts_of e) ≡ true
    → ((l : Literal K) → test l ≡ true → value (f l) ≡ value_of v l) → ((k : K) → gate_key e ≡ Some k → u k ≡ v k) → agrees u value (map_literals f e) ≡ agrees v (value_of v) e
agrees_mapped f u v value test (numbered k) all parts own = refl
agrees_mapped f u v value test (stated ls) all parts own = list_any-map f value ls ∙ list_any_same test (λ l. value (f l)) (value_of v) ls all parts
agrees_mapped f u v value test (all_of k ls) all parts own =
    ap (λ b. beq b (list_all value (map f ls))) (own k refl) ∙ ap (beq (v k)) (list_all-map value f ls ∙ list_all_same test (λ l. value (f l)) (value_of v) ls all parts)
agrees_mapped f u v value test (any_of k ls) all parts own =
    ap (λ b. beq b (list_any value (map f ls))) (own k refl) ∙ ap (beq (v k)) (list_any-map f value ls ∙ list_any_same test (λ l. value (f l)) (value_of v) ls all parts)
agrees_mapped f u v value test (equal_of k a b) all parts own =
    let first = and_parts (test a) (test b && true) all in
    let second = and_parts (test b) true first.1 in
    ap (λ c. beq c (beq (value (f a)) (value (f b)))) (own k refl) ∙ ap (λ c. beq (v k) (beq c (value (f b)))) (parts a first.0) ∙ ap (λ c. beq (v k) (beq (value_of v a) c)) (parts b second.0)

pub agrees_same : {K : Type 0} (u v : K → Bool) (test : Literal K → Bool) (e : Entry K (Literal K)) → list_all test (parts_of e) ≡ true
    → ((l : Literal K) → test l ≡ true → u l.key ≡ v l.key) → ((k : K) → gate_key e ≡ Some k → u k ≡ v k) → agrees u (value_of u) e ≡ agrees v (value_of v) e
agrees_same {K} u v test e all parts own = by e all own
  where
    same : (l : Literal K) → test l ≡ true → value_of u l ≡ value_of v l
    same l there = ap (λ b. beq b l.positive) (parts l there)

    by : (e : Entry K (Literal K)) → list_all test (parts_of e) ≡ true → ((k : K) → gate_key e ≡ Some k → u k ≡ v k) → agrees u (value_of u) e ≡ agrees v (value_of v) e
    by (numbered k) all own = refl
    by (stated ls) all own = list_any_same test (value_of u) (value_of v) ls all same
    by (all_of k ls) all own = ap (λ b. beq b (list_all (value_of u) ls)) (own k refl) ∙ ap (beq (v k)) (list_all_same test (value_of u) (value_of v) ls all same)
    by (any_of k ls) all own = ap (λ b. beq b (list_any (value_of u) ls)) (own k refl) ∙ ap (beq (v k)) (list_any_same test (value_of u) (value_of v) ls all same)
    by (equal_of k a b) all own =
        let first = and_parts (test a) (test b && true) all in
        let second = and_parts (test b) true first.1 in
        ap (λ c. beq c (beq (value_of u a) (value_of u b))) (own k refl) ∙ ap (λ c. beq (v k) (beq c (value_of u b))) (same a first.0) ∙ ap (λ c. beq (v k) (beq (value_of v a) c)) (same b second.0)

pub list_all_weaker : {X : Type 0} (test more : X → Bool) (xs : List X) → list_all test xs ≡ true → ((x : X) → test x ≡ true → more x ≡ true) → list_all more xs ≡ true
list_all_weaker test more [] all weaker = refl
list_all_weaker test more (x ∷ xs) all weaker =
    let parts = and_parts (test x) (list_all test xs) all in
    and_from (more x) (list_all more xs) (weaker x parts.0) (list_all_weaker test more xs parts.1 weaker)

pub list_all_at : {X : Type 0} (test : X → Bool) (xs : List X) (x : X) → list_all test xs ≡ true → Contains xs x → test x ≡ true
list_all_at test xs x all there = by xs all there.0 there.1 there.2
  where
    by : (ys : List _) → list_all test ys ≡ true → (k : ℕ) → k < length ys → slice_index_or ys k x ≡ x → test x ≡ true
    by [] h k within is = absurd (omega arith)
    by (y ∷ ys) h zero within is = ap test (sym is) ∙ (and_parts (test y) (list_all test ys) h).0
    by (y ∷ ys) h (suc k) within is = by ys (and_parts (test y) (list_all test ys) h).1 k (omega arith) is

pub one_of : {K : Type 0} (eq : K → K → Bool) (q k : K) → list_any (eq q) (k ∷ []) ≡ true → eq q k ≡ true
one_of eq q k there = by (eq q k) there
  where
    by : (b : Bool) → (b || false) ≡ true → b ≡ true
    by true h = refl
    by false h = absurd (true≢false (sym h))

module _ {K : Type 0} (eq : K → K → Bool) (same : IsEquality eq) where
  pub equivalence_of : IsEquivalence eq
  equivalence_of =
      record {
        refl = same.reflexive;
        symm = λ x y. symmetric x y (eq x y) (eq y x) refl refl;
        congr = λ x y z e. ap (λ j. eq j z) (same.exact x y e);
      }
    where
      turned : (x y : K) → eq x y ≡ true → eq y x ≡ true
      turned x y e = ap (λ j. eq y j) (same.exact x y e) ∙ same.reflexive y

      symmetric : (x y : K) (a b : Bool) → eq x y ≡ a → eq y x ≡ b → eq x y ≡ eq y x
      symmetric x y true b p q = p ∙ sym (turned x y p)
      symmetric x y false true p q = turned y x q ∙ sym q
      symmetric x y false false p q = p ∙ sym q

  -- a mark that is there was there before, or is that of the key
  marked_either : (k q : K) (es : List (K × Bool)) → unwrap_or (lookup (eq q) (set_value (eq k) es true)) false ≡ true → (unwrap_or (lookup (eq q) es) false ≡ true) ⊎ (k ≡ q)
  marked_either k q [] marked = inl marked
  marked_either k q (e ∷ es) marked = by (eq k e.0) (eq q e.0) refl refl (λ h. marked_either k q es h)
    where
      by : (a b : Bool) → eq k e.0 ≡ a → eq q e.0 ≡ b → (unwrap_or (lookup (eq q) (set_value (eq k) es true)) false ≡ true → (unwrap_or (lookup (eq q) es) false ≡ true) ⊎ (k ≡ q))
          → (unwrap_or (cond (eq q e.0) (Some e.1) (lookup (eq q) es)) false ≡ true) ⊎ (k ≡ q)
      by true true p r rest = inr (same.exact k e.0 p ∙ sym (same.exact q e.0 r))
      by true false p r rest =
          let here : unwrap_or (lookup (eq q) (cond true ((e.0, true) ∷ es) (e ∷ set_value (eq k) es true))) false ≡ true = ap (λ b. unwrap_or (lookup (eq q) (cond b ((e.0, true) ∷ es) (e ∷ set_value (eq k) es true))) false) (sym p) ∙ marked in
          inl (ap (λ b. unwrap_or (cond b (Some e.1) (lookup (eq q) es)) false) r ∙ ap (λ b. unwrap_or (cond b (Some true) (lookup (eq q) es)) false) (sym r) ∙ here)
      by false true p r rest =
          let here : unwrap_or (lookup (eq q) (cond false ((e.0, true) ∷ es) (e ∷ set_value (eq k) es true))) false ≡ true = ap (λ b. unwrap_or (lookup (eq q) (cond b ((e.0, true) ∷ es) (e ∷ set_value (eq k) es true))) false) (sym p) ∙ marked in
          inl (ap (λ b. unwrap_or (cond b (Some e.1) (lookup (eq q) es)) false) r ∙ ap (λ b. unwrap_or (cond b (Some e.1) (lookup (eq q) (set_value (eq k) es true))) false) (sym r) ∙ here)
      by false false p r rest =
          let here : unwrap_or (lookup (eq q) (cond false ((e.0, true) ∷ es) (e ∷ set_value (eq k) es true))) false ≡ true = ap (λ b. unwrap_or (lookup (eq q) (cond b ((e.0, true) ∷ es) (e ∷ set_value (eq k) es true))) false) (sym p) ∙ marked in
          let behind : unwrap_or (lookup (eq q) (set_value (eq k) es true)) false ≡ true = ap (λ b. unwrap_or (cond b (Some e.1) (lookup (eq q) (set_value (eq k) es true))) false) (sym r) ∙ here in
          by_cases (rest behind) r
        where
          by_cases : (unwrap_or (lookup (eq q) es) false ≡ true) ⊎ (k ≡ q) → eq q e.0 ≡ false → (unwrap_or (cond (eq q e.0) (Some e.1) (lookup (eq q) es)) false ≡ true) ⊎ (k ≡ q)
          by_cases (inl h) r = inl (ap (λ b. unwrap_or (cond b (Some e.1) (lookup (eq q) es)) false) r ∙ h)
          by_cases (inr h) r = inr h

  -- a gate, as steps and as what its clauses say
  pub record GateAt (w : Written K) (e : Entry K (Literal K)) : Type 0 where
    pub key : K
    pub gate : gate_key e ≡ Some key
    pub own : own_keys e ≡ key ∷ []
    pub clauses : List (List Lit)
    pub steps_are : steps eq w (map_literals (lit_in eq w) e) ≡ gate_steps eq w key clauses
    pub says : (values : List Bool) → has_gate eq w key ≡ false
        → holds values (write eq w (map_literals (lit_in eq w) e)).clauses ≡ (holds values w.clauses && agrees (λ k. is_true values (literal eq w k)) (is_true values) (map_literals (lit_in eq w) e))

  pub data Kind (w : Written K) : Entry K (Literal K) → Type 0 where
    a_number : (k : K) → Kind w (numbered k)
    a_clause : (ls : List (Literal K)) → Kind w (stated ls)
    a_gate : {e : Entry K (Literal K)} → GateAt w e → Kind w e

  pub kind : (w : Written K) (e : Entry K (Literal K)) → Kind w e
  kind w (numbered k) = a_number k
  kind w (stated ls) = a_clause ls
  kind w (all_of k ls) =
      let lits = map (lit_in eq w) ls in
      a_gate record { key = k; gate = refl; own = refl; clauses = all_clauses (literal eq w k) lits; steps_are = refl; says = λ values none. all_holds values eq w k lits none }
  kind w (any_of k ls) =
      let lits = map (lit_in eq w) ls in
      a_gate record { key = k; gate = refl; own = refl; clauses = any_clauses (literal eq w k) lits; steps_are = refl; says = λ values none. any_holds values eq w k lits none }
  kind w (equal_of k a b) =
      a_gate
      record { key = k; gate = refl; own = refl; clauses = equal_clauses (literal eq w k) (lit_in eq w a) (lit_in eq w b); steps_are = refl; says = λ values none. equal_holds values eq w k (lit_in eq w a) (lit_in eq w b) none }

  abbrev pub next_written : Written K → Entry K (Literal K) → Written K
  next_written w e = write eq w (map_literals (lit_in eq w) e)

  -- an entry's own key has its number after it
  pub own_numbered : (w : Written K) (e : Entry K (Literal K)) (q : K) → list_any (eq q) (own_keys e) ≡ true → Keeps eq w (next_written w e) q
  own_numbered w e q there = by e (kind w e) there
    where
      at : (k : K) (new : Written K) → eq q k ≡ true → Keeps eq w new k → Keeps eq w new q
      at k new here keeps = subst (λ j. Keeps eq w new j) (sym (same.exact q k here)) keeps

      by : (e : Entry K (Literal K)) → Kind w e → list_any (eq q) (own_keys e) ≡ true → Keeps eq w (next_written w e) q
      by e (a_number k) h = at k (next_written w (numbered k)) (one_of eq q k h) (numbers_key eq equivalence_of w k)
      by e (a_clause ls) h = absurd (true≢false (sym h))
      by e (a_gate g) h =
          let here : eq q g.key ≡ true = one_of eq q g.key (ap (list_any (eq q)) (sym g.own) ∙ h) in
          at g.key (next_written w e) here (subst (λ (all : List (Step K)). Keeps eq w (after_steps eq w all) g.key) (sym g.steps_are) (gate_numbers eq equivalence_of w g.key g.clauses))

  -- what was written for entries: the known keys have numbers, and each gate that is marked is one of theirs
  pub record Reached (before : List (Entry K (Literal K))) (known : List K) (w : Written K) : Type 0 where
    pub numbers : (q : K) → list_any (eq q) known ≡ true → has_number eq w q ≡ true
    pub gates : (k : K) → has_gate eq w k ≡ true → (f : Entry K (Literal K)) × Contains before f × (gate_key f ≡ Some k)

  pub known_next : (known : List K) (w : Written K) (e : Entry K (Literal K)) → ((q : K) → list_any (eq q) known ≡ true → has_number eq w q ≡ true) → (q : K) → list_any (eq q) (known ++ own_keys e) ≡ true → has_number eq (next_written w e) q ≡ true
  known_next known w e numbers q there = by (or_cases (list_any (eq q) known) (list_any (eq q) (own_keys e)) (sym (list_any-append (eq q) known (own_keys e)) ∙ there))
    where
      by : (list_any (eq q) known ≡ true) ⊎ (list_any (eq q) (own_keys e) ≡ true) → has_number eq (next_written w e) q ≡ true
      by (inl h) = (keeps_steps eq w (steps eq w (map_literals (lit_in eq w) e)) q (numbers q h)).there
      by (inr h) = (own_numbered w e q h).there

  gates_next : (before : List (Entry K (Literal K))) (known : List K) (w : Written K) (e : Entry K (Literal K)) → Reached before known w → (k : K) → has_gate eq (next_written w e) k ≡ true → (f : Entry K (Literal K)) × Contains (before ++ e ∷ []) f × (gate_key f ≡ Some k)
  gates_next before known w e reached k marked = by e (kind w e) marked
    where
      old : (e : Entry K (Literal K)) → has_gate eq w k ≡ true → (f : Entry K (Literal K)) × Contains (before ++ e ∷ []) f × (gate_key f ≡ Some k)
      old e h = let there = reached.gates k h in (there.0, Contains-append_left before (e ∷ []) there.0 there.1, there.2)

      new : (e : Entry K (Literal K)) (g : GateAt w e) → (has_gate eq (after_step eq w (new_number g.key)) k ≡ true) ⊎ (g.key ≡ k) → (f : Entry K (Literal K)) × Contains (before ++ e ∷ []) f × (gate_key f ≡ Some k)
      new e g (inl h) = old e (sym (number_marks eq w g.key k) ∙ h)
      new e g (inr h) = (e, Contains-push before e, g.gate ∙ ap (λ j. Some j) h)

      gate : (e : Entry K (Literal K)) (g : GateAt w e) (b : Bool) → has_gate eq w g.key ≡ b → has_gate eq (next_written w e) k ≡ true → (f : Entry K (Literal K)) × Contains (before ++ e ∷ []) f × (gate_key f ≡ Some k)
      gate e g true there h = old e (ap (λ (x : Written K). has_gate eq x k) (sym (ap (after_steps eq w) g.steps_are ∙ gate_kept eq w g.key g.clauses there)) ∙ h)
      gate e g false none h =
          new e g (marked_either g.key k (after_step eq w (new_number g.key)).keys (ap (λ (x : Written K). has_gate eq x k) (sym (ap (after_steps eq w) g.steps_are ∙ gate_is eq w g.key g.clauses none)) ∙ h))

      by : (e : Entry K (Literal K)) → Kind w e → has_gate eq (next_written w e) k ≡ true → (f : Entry K (Literal K)) × Contains (before ++ e ∷ []) f × (gate_key f ≡ Some k)
      by e (a_number j) h = old (numbered j) (sym (number_marks eq w j k) ∙ h)
      by e (a_clause ls) h = old (stated ls) h
      by e (a_gate g) h = gate e g (has_gate eq w g.key) refl h

  pub reached_next : (before : List (Entry K (Literal K))) (known : List K) (w : Written K) (e : Entry K (Literal K)) → Reached before known w → Reached (before ++ e ∷ []) (known ++ own_keys e) (next_written w e)
  reached_next before known w e reached = record { numbers = known_next known w e reached.numbers; gates = gates_next before known w e reached }

  module _ (values : List Bool) where
    value_at : (w : Written K) (l : Literal K) → is_true values (lit_in eq w l) ≡ value_of (value_in eq w values) l
    value_at w l =
        let place = position_or_len (eq l.key) (keys_of w.keys) in
        let less : place + 1 - 1 ≡ place = omega arith in
        ap (λ n. beq (slice_index_or values n false) l.positive) less

    own_value : (w : Written K) (k : K) → is_true values (literal eq w k) ≡ value_in eq w values k
    own_value w k =
        let place = position_or_len (eq k) (keys_of w.keys) in
        let less : place + 1 - 1 ≡ place = omega arith in
        ap (λ n. beq (slice_index_or values n false) true) less ∙ by (value_in eq w values k)
      where
        by : (b : Bool) → beq b true ≡ b
        by true = refl
        by false = refl

    value_keeps : (w new : Written K) (q : K) → Keeps eq w new q → value_in eq w values q ≡ value_in eq new values q
    value_keeps w new q keeps = ap (λ n. slice_index_or values n false) (sym keeps.place)

    -- what an entry says over the numbers, by the values at the end
    said : (known : List K) (w end : Written K) (e : Entry K (Literal K)) → ((q : K) → list_any (eq q) known ≡ true → has_number eq w q ≡ true) → ((q : K) → has_number eq (next_written w e) q ≡ true → Keeps eq (next_written w e) end q)
        → list_all (λ l. list_any (eq l.key) known) (parts_of e) ≡ true
        → agrees (λ k. is_true values (literal eq w k)) (is_true values) (map_literals (lit_in eq w) e) ≡ agrees (value_in eq end values) (value_of (value_in eq end values)) e
    said known w end e numbers keeps parts =
        agrees_mapped (lit_in eq w) (λ k. is_true values (literal eq w k)) (value_in eq end values) (is_true values) (λ l. list_any (eq l.key) known) e parts
        (λ l there. value_at w l ∙ ap (λ b. beq b l.positive) (value_keeps w end l.key (late l.key (keeps_steps eq w (steps eq w (map_literals (lit_in eq w) e)) l.key (numbers l.key there)))))
        (λ k gate. own_value w k ∙ value_keeps w end k (late k (own_numbered w e k (own_of k gate))))
      where
        late : (q : K) → Keeps eq w (next_written w e) q → Keeps eq w end q
        late q first = keeps_after eq w (next_written w e) end q first (keeps q first.there)

        own_of : (k : K) → gate_key e ≡ Some k → list_any (eq k) (own_keys e) ≡ true
        own_of k gate = by e gate
          where
            here : (j : K) → j ≡ k → list_any (eq k) (j ∷ []) ≡ true
            here j is = ap (λ i. eq k i || false) is ∙ ap (λ b. b || false) (same.reflexive k)

            by : (x : Entry K (Literal K)) → gate_key x ≡ Some k → list_any (eq k) (own_keys x) ≡ true
            by (numbered j) h = absurd (cc)
            by (stated ls) h = absurd (cc)
            by (all_of j ls) h = here j (cc)
            by (any_of j ls) h = here j (cc)
            by (equal_of j a b) h = here j (cc)

    implied : (a b : Bool) → (a ≡ true → b ≡ true) → a ≡ (a && (b && true))
    implied true b more = sym (and_from b true (more refl) refl)
    implied false b more = refl

    one_more : (v : K → Bool) (before : List (Entry K (Literal K))) (e : Entry K (Literal K)) → agree v (before ++ e ∷ []) ≡ (agree v before && (agrees v (value_of v) e && true))
    one_more v before e = list_all-append (agrees v (value_of v)) before (e ∷ [])

    with_true : (b : Bool) → b ≡ (b && true)
    with_true true = refl
    with_true false = refl

    says_next : (before : List (Entry K (Literal K))) (known : List K) (w end : Written K) (e : Entry K (Literal K)) → ((q : K) → list_any (eq q) known ≡ true → has_number eq w q ≡ true)
        → ((q : K) → has_number eq (next_written w e) q ≡ true → Keeps eq (next_written w e) end q) → list_all (λ l. list_any (eq l.key) known) (parts_of e) ≡ true
        → holds values w.clauses ≡ agree (value_in eq end values) before
        → holds values (next_written w e).clauses ≡ (holds values w.clauses && agrees (λ k. is_true values (literal eq w k)) (is_true values) (map_literals (lit_in eq w) e))
        → holds values (next_written w e).clauses ≡ agree (value_in eq end values) (before ++ e ∷ [])
    says_next before known w end e numbers keeps parts held is =
        let v = value_in eq end values in
        is ∙ ap (λ b. holds values w.clauses && b) (said known w end e numbers keeps parts ∙ with_true (agrees v (value_of v) e))
        ∙ ap (λ b. b && (agrees v (value_of v) e && true)) held ∙ sym (one_more v before e)

    gate_again : (before rest : List (Entry K (Literal K))) (known : List K) (w end : Written K) (e : Entry K (Literal K)) → AreConsistent (before ++ (e ∷ rest)) → Reached before known w
        → holds values w.clauses ≡ agree (value_in eq end values) before → (g : GateAt w e) → has_gate eq w g.key ≡ true
        → holds values (next_written w e).clauses ≡ agree (value_in eq end values) (before ++ e ∷ [])
    gate_again before rest known w end e consistent reached held g there =
        let v = value_in eq end values in
        let one = reached.gates g.key there in
        let is : one.0 ≡ e = consistent one.0 e g.key (Contains-append_left before (e ∷ rest) one.0 one.1) (Contains-append_right before (e ∷ rest) e (0, omega arith, refl)) one.2 g.gate in
        ap (λ (x : Written K). holds values x.clauses) (ap (after_steps eq w) g.steps_are ∙ gate_kept eq w g.key g.clauses there) ∙ held
        ∙ implied (agree v before) (agrees v (value_of v) e) (λ all. ap (agrees v (value_of v)) (sym is) ∙ list_all_at (agrees v (value_of v)) before one.0 all one.1) ∙ sym (one_more v before e)

    holds_next : (before rest : List (Entry K (Literal K))) (known : List K) (w end : Written K) (e : Entry K (Literal K)) → Kind w e → AreConsistent (before ++ (e ∷ rest)) → Reached before known w
        → ((q : K) → has_number eq (next_written w e) q ≡ true → Keeps eq (next_written w e) end q) → list_all (λ l. list_any (eq l.key) known) (parts_of e) ≡ true
        → holds values w.clauses ≡ agree (value_in eq end values) before → holds values (next_written w e).clauses ≡ agree (value_in eq end values) (before ++ e ∷ [])
    holds_next before rest known w end e (a_number k) consistent reached keeps parts held =
        held ∙ with_true (agree (value_in eq end values) before) ∙ sym (one_more (value_in eq end values) before (numbered k))
    holds_next before rest known w end e (a_clause ls) consistent reached keeps parts held =
        says_next before known w end (stated ls) reached.numbers keeps parts held (stated_holds values eq w (map (lit_in eq w) ls))
    holds_next before rest known w end e (a_gate g) consistent reached keeps parts held = by (has_gate eq w g.key) refl
      where
        by : (b : Bool) → has_gate eq w g.key ≡ b → holds values (next_written w e).clauses ≡ agree (value_in eq end values) (before ++ e ∷ [])
        by true there = gate_again before rest known w end e consistent reached held g there
        by false none = says_next before known w end e reached.numbers keeps parts held (g.says values none)

    go : (before rest : List (Entry K (Literal K))) (known : List K) (w end : Written K) → AreConsistent (before ++ rest) → Reached before known w → end ≡ write_all eq w rest → are_in_order eq known rest ≡ true
        → holds values w.clauses ≡ agree (value_in eq end values) before → holds values end.clauses ≡ agree (value_in eq end values) (before ++ rest)
    go before [] known w end consistent reached is order held =
        ap (λ (x : Written K). holds values x.clauses) is ∙ held ∙ ap (agree (value_in eq end values)) (sym (append-nil before))
    go before (e ∷ rest) known w end consistent reached is order held =
        let parts = and_parts (list_all (λ l. list_any (eq l.key) known) (parts_of e)) (are_in_order eq (known ++ own_keys e) rest) order in
        let joined : (before ++ e ∷ []) ++ rest ≡ before ++ (e ∷ rest) = append_assoc before (e ∷ []) rest in
        let keeps = λ (q : K) (there : has_number eq (next_written w e) q ≡ true). subst (λ (x : Written K). Keeps eq (next_written w e) x q) (sym is) (keeps_all eq (next_written w e) rest q there) in
        go (before ++ e ∷ []) rest (known ++ own_keys e) (next_written w e) end (subst (λ es. AreConsistent es) (sym joined) consistent) (reached_next before known w e reached) is parts.1
        (holds_next before rest known w end e (kind w e) consistent reached keeps parts.0 held)
        ∙ ap (agree (value_in eq end values)) joined

  reached_nothing : Reached [] [] nothing
  reached_nothing = record { numbers = λ q there. absurd (true≢false (sym there)); gates = λ k there. absurd (true≢false (sym there)) }

  pub clauses_say : (es : List (Entry K (Literal K))) → are_in_order eq [] es ≡ true → AreConsistent es → (values : List Bool)
      → holds values (write_all eq nothing es).clauses ≡ agree (value_in eq (write_all eq nothing es) values) es
  clauses_say es order consistent values = go values [] es [] nothing (write_all eq nothing es) consistent reached_nothing refl order refl

  -- values that are alike on the keys that have numbers at the end agree alike
  alike : (v u : K → Bool) (rest : List (Entry K (Literal K))) (known : List K) (w end : Written K) → ((q : K) → list_any (eq q) known ≡ true → has_number eq w q ≡ true) → end ≡ write_all eq w rest → are_in_order eq known rest ≡ true
      → ((q : K) → has_number eq end q ≡ true → v q ≡ u q) → agree v rest ≡ agree u rest
  alike v u [] known w end numbers is order same_values = refl
  alike v u (e ∷ rest) known w end numbers is order same_values =
      let parts = and_parts (list_all (λ l. list_any (eq l.key) known) (parts_of e)) (are_in_order eq (known ++ own_keys e) rest) order in
      let late = λ (q : K) (there : has_number eq (next_written w e) q ≡ true). subst (λ (x : Written K). Keeps eq (next_written w e) x q) (sym is) (keeps_all eq (next_written w e) rest q there) in
      ap (λ b. b && agree v rest)
      (agrees_same v u (λ l. list_any (eq l.key) known) e parts.0
      (λ l there. same_values l.key (late l.key (keeps_steps eq w (steps eq w (map_literals (lit_in eq w) e)) l.key (numbers l.key there)).there).there)
      (λ k gate. same_values k (late k (own_numbered w e k (own_key e k gate)).there).there))
      ∙ ap (λ b. agrees u (value_of u) e && b) (alike v u rest (known ++ own_keys e) (next_written w e) end (known_next known w e numbers) is parts.1 same_values)
    where
      own_key : (x : Entry K (Literal K)) (k : K) → gate_key x ≡ Some k → list_any (eq k) (own_keys x) ≡ true
      own_key x k gate = by x gate
        where
          here : (j : K) → j ≡ k → list_any (eq k) (j ∷ []) ≡ true
          here j is = ap (λ i. eq k i || false) is ∙ ap (λ b. b || false) (same.reflexive k)

          by : (y : Entry K (Literal K)) → gate_key y ≡ Some k → list_any (eq k) (own_keys y) ≡ true
          by (numbered j) h = absurd (cc)
          by (stated ls) h = absurd (cc)
          by (all_of j ls) h = here j (cc)
          by (any_of j ls) h = here j (cc)
          by (equal_of j a b) h = here j (cc)

  -- the value of a key in the list of all values
  value_there : (v : K → Bool) (q : K) (ks : List K) → list_any (eq q) ks ≡ true → slice_index_or (map v ks) (position_or_len (eq q) ks) false ≡ v q
  value_there v q [] there = absurd (true≢false (sym there))
  value_there v q (k ∷ ks) there = by (eq q k) refl (λ h. value_there v q ks h)
    where
      by : (b : Bool) → eq q k ≡ b → (list_any (eq q) ks ≡ true → slice_index_or (map v ks) (position_or_len (eq q) ks) false ≡ v q)
          → slice_index_or (v k ∷ map v ks) (cond (not (eq q k)) (1 + position_or_len (eq q) ks) 0) false ≡ v q
      by true e rest = rw e (ap v (sym (same.exact q k e)))
      by false e rest =
          let more : 1 + position_or_len (eq q) ks ≡ suc (position_or_len (eq q) ks) = omega arith in
          rw (e, more) (rest (sym (ap (λ b. b || list_any (eq q) ks) e) ∙ there))

  pub values_say : (es : List (Entry K (Literal K))) → are_in_order eq [] es ≡ true → AreConsistent es → (v : K → Bool) → holds (map v (keys_of (write_all eq nothing es).keys)) (write_all eq nothing es).clauses ≡ agree v es
  values_say es order consistent v =
      let end = write_all eq nothing es in
      clauses_say es order consistent (map v (keys_of end.keys))
      ∙ alike (value_in eq end (map v (keys_of end.keys))) v es [] nothing end (λ q there. absurd (true≢false (sym there))) refl order (λ q there. value_there v q (keys_of end.keys) there)
