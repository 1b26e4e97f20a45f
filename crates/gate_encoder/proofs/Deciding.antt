-- The free keys decide the values of all keys.
use Rattle.std.proofs.Common.{◌≡◌, Bool, true, false, not, ◌&&◌, ◌||◌, List, [], ◌∷◌, ◌++◌, Some, Contains, refl, sym, ap, ◌∙◌, if◌then◌else◌, arith}
use Rattle.std.specs.Bool.{beq}
use Rattle.std.specs.List.{list_any, list_all}
use Rattle.std.proofs.lemmas.Bool.{true≢false, or_parts, or_from, or_left, or_right, and_parts, not-true, not-false}
use Rattle.std.proofs.lemmas.List.Elements.{Contains-append_right}
use Rattle.std.proofs.lemmas.List.Folds.{list_any-append}
use Rattle.gate_encoder.specs.Entries.{Literal, Entry, numbered, stated, all_of, any_of, equal_of, agrees, agree, value_of}
use Rattle.gate_encoder.specs.Laws.{IsEquality, parts_of, own_keys, gate_key, is_gate, AreConsistent, are_in_order, is_free}
use Rattle.gate_encoder.proofs.Saying.{list_all_same, list_any_same, one_of}

-- the value that a gate's literals give
gives : {K : Type 0} → (K → Bool) → Entry K (Literal K) → Bool
gives v (numbered k) = true
gives v (stated ls) = true
gives v (all_of k ls) = list_all (value_of v) ls
gives v (any_of k ls) = list_any (value_of v) ls
gives v (equal_of k a b) = beq (value_of v a) (value_of v b)

gives_same : {K : Type 0} (u v : K → Bool) (test : Literal K → Bool) (e : Entry K (Literal K)) → list_all test (parts_of e) ≡ true → ((l : Literal K) → test l ≡ true → u l.key ≡ v l.key) → gives u e ≡ gives v e
unfolding gives
gives_same {K} u v test e all parts = by e all
  where
    same : (l : Literal K) → test l ≡ true → value_of u l ≡ value_of v l
    same l there = ap (λ b. beq b l.positive) (parts l there)

    by : (x : Entry K (Literal K)) → list_all test (parts_of x) ≡ true → gives u x ≡ gives v x
    by (numbered k) h = refl
    by (stated ls) h = refl
    by (all_of k ls) h = list_all_same test (value_of u) (value_of v) ls h same
    by (any_of k ls) h = list_any_same test (value_of u) (value_of v) ls h same
    by (equal_of k a b) h =
        let first = and_parts (test a) (test b && true) h in
        let second = and_parts (test b) true first.1 in
        ap (λ c. beq c (value_of u b)) (same a first.0) ∙ ap (beq (value_of v a)) (same b second.0)

-- a gate's entry, by its key
record Gated {K : Type 0} (e : Entry K (Literal K)) : Type 0 where
  pub key : K
  pub gate : gate_key e ≡ Some key
  pub own : own_keys e ≡ key ∷ []
  pub says : (v : K → Bool) → agrees v (value_of v) e ≡ beq (v key) (gives v e)

gated : {K : Type 0} (e : Entry K (Literal K)) → is_gate e ≡ true → Gated e
unfolding gives
gated (numbered k) is = absurd (true≢false (sym is))
gated (stated ls) is = absurd (true≢false (sym is))
gated (all_of k ls) is = record { key = k; gate = refl; own = refl; says = λ v. refl }
gated (any_of k ls) is = record { key = k; gate = refl; own = refl; says = λ v. refl }
gated (equal_of k a b) is = record { key = k; gate = refl; own = refl; says = λ v. refl }

same_true : (a b : Bool) → beq a b ≡ true → a ≡ b
same_true true true e = refl
same_true true false e = absurd (true≢false (sym e))
same_true false true e = absurd (true≢false (sym e))
same_true false false e = refl

beq-itself : (b : Bool) → beq b b ≡ true
beq-itself true = refl
beq-itself false = refl

module _ {K : Type 0} (eq : K → K → Bool) (same : IsEquality eq) where
  -- a key that an entry owns, where the entry is a gate
  own_key : (e : Entry K (Literal K)) (g : Gated e) (q : K) → list_any (eq q) (own_keys e) ≡ true → q ≡ g.key
  own_key e g q there = same.exact q g.key (one_of eq q g.key (ap (list_any (eq q)) (sym g.own) ∙ there))

  -- whether a key is free, by the first entry
  free_own : (e : Entry K (Literal K)) (es : List (Entry K (Literal K))) (q : K) → list_any (eq q) (own_keys e) ≡ true → is_free eq (e ∷ es) q ≡ not (is_gate e)
  free_own e es q there = ap (λ b. if b then not (is_gate e) else is_free eq es q) there

  free_other : (e : Entry K (Literal K)) (es : List (Entry K (Literal K))) (q : K) → list_any (eq q) (own_keys e) ≡ false → is_free eq (e ∷ es) q ≡ is_free eq es q
  free_other e es q absent = ap (λ b. if b then not (is_gate e) else is_free eq es q) absent

  module _ (v u : K → Bool) where
    alike_own : (e : Entry K (Literal K)) (es : List (Entry K (Literal K))) (known : List K) → ((q : K) → list_any (eq q) known ≡ true → v q ≡ u q) → ((q : K) → list_any (eq q) known ≡ false → is_free eq (e ∷ es) q ≡ true → v q ≡ u q)
        → list_all (λ l. list_any (eq l.key) known) (parts_of e) ≡ true → agrees v (value_of v) e ≡ true → agrees u (value_of u) e ≡ true
        → (q : K) → list_any (eq q) known ≡ false → list_any (eq q) (own_keys e) ≡ true → v q ≡ u q
    alike_own e es known before free parts first second q absent there = by (is_gate e) refl
      where
        by : (b : Bool) → is_gate e ≡ b → v q ≡ u q
        by false none = free q absent (free_own e es q there ∙ ap not none)
        by true is =
            let g = gated e is in
            let here = own_key e g q there in
            ap v here ∙ same_true (v g.key) (gives v e) (sym (g.says v) ∙ first)
            ∙ gives_same v u (λ l. list_any (eq l.key) known) e parts (λ l known_part. before l.key known_part)
            ∙ sym (ap u here ∙ same_true (u g.key) (gives u e) (sym (g.says u) ∙ second))

    alike_go : (es : List (Entry K (Literal K))) (known : List K) → ((q : K) → list_any (eq q) known ≡ true → v q ≡ u q) → ((q : K) → list_any (eq q) known ≡ false → is_free eq es q ≡ true → v q ≡ u q)
        → are_in_order eq known es ≡ true → agree v es ≡ true → agree u es ≡ true → (q : K) → v q ≡ u q
    alike_go [] known before free order first second q = by (list_any (eq q) known) refl
      where
        by : (b : Bool) → list_any (eq q) known ≡ b → v q ≡ u q
        by true there = before q there
        by false absent = free q absent refl
    alike_go (e ∷ es) known before free order first second q =
        let parts = and_parts (list_all (λ l. list_any (eq l.key) known) (parts_of e)) (are_in_order eq (known ++ own_keys e) es) order in
        let one = and_parts (agrees v (value_of v) e) (agree v es) first in
        let two = and_parts (agrees u (value_of u) e) (agree u es) second in
        alike_go es (known ++ own_keys e) (now parts.0 one.0 two.0) later parts.1 one.1 two.1 q
      where
        now : list_all (λ l. list_any (eq l.key) known) (parts_of e) ≡ true → agrees v (value_of v) e ≡ true → agrees u (value_of u) e ≡ true → (k : K) → list_any (eq k) (known ++ own_keys e) ≡ true → v k ≡ u k
        now parts one two k there = by (list_any (eq k) known) refl (sym (list_any-append (eq k) known (own_keys e)) ∙ there)
          where
            by : (b : Bool) → list_any (eq k) known ≡ b → (list_any (eq k) known || list_any (eq k) (own_keys e)) ≡ true → v k ≡ u k
            by true h both = before k h
            by false h both = alike_own e es known before free parts one two k h (ap (λ b. b || list_any (eq k) (own_keys e)) (sym h) ∙ both)

        later : (k : K) → list_any (eq k) (known ++ own_keys e) ≡ false → is_free eq es k ≡ true → v k ≡ u k
        later k absent is =
            let both = or_parts (list_any (eq k) known) (list_any (eq k) (own_keys e)) (sym (list_any-append (eq k) known (own_keys e)) ∙ absent) in
            free k both.0 (free_other e es k both.1 ∙ is)

  pub free_keys_decide : (es : List (Entry K (Literal K))) → are_in_order eq [] es ≡ true → (v u : K → Bool) → agree v es ≡ true → agree u es ≡ true → ((k : K) → is_free eq es k ≡ true → v k ≡ u k) → (k : K) → v k ≡ u k
  free_keys_decide es order v u first second free = alike_go v u es [] (λ q there. absurd (true≢false (sym there))) (λ q absent is. free q is) order first second

  -- values after an entry: a gate's key that isn't known gets what the gate's literals give
  takes : List K → Entry K (Literal K) → K → Bool
  takes known e q = is_gate e && (not (list_any (eq q) known) && list_any (eq q) (own_keys e))

  settle_one : List K → (K → Bool) → Entry K (Literal K) → K → Bool
  settle_one known v e q = if takes known e q then gives v e else v q

  settle : List K → (K → Bool) → List (Entry K (Literal K)) → K → Bool
  settle known v [] = v
  settle known v (e ∷ es) = settle (known ++ own_keys e) (settle_one known v e) es

  keeps_known : (known : List K) (v : K → Bool) (e : Entry K (Literal K)) (q : K) → list_any (eq q) known ≡ true → settle_one known v e q ≡ v q
  unfolding settle_one takes
  keeps_known known v e q there = ap (λ b. if (is_gate e && (not b && list_any (eq q) (own_keys e))) then gives v e else v q) there ∙ by (is_gate e)
    where
      by : (b : Bool) → (if (b && false) then gives v e else v q) ≡ v q
      by true = refl
      by false = refl

  keeps_other : (known : List K) (v : K → Bool) (e : Entry K (Literal K)) (q : K) → list_any (eq q) (own_keys e) ≡ false → settle_one known v e q ≡ v q
  unfolding settle_one takes
  keeps_other known v e q absent = ap (λ b. if (is_gate e && (not (list_any (eq q) known) && b)) then gives v e else v q) absent ∙ by (is_gate e) (not (list_any (eq q) known))
    where
      by : (a b : Bool) → (if (a && (b && false)) then gives v e else v q) ≡ v q
      by true true = refl
      by true false = refl
      by false b = refl

  keeps_free : (known : List K) (v : K → Bool) (e : Entry K (Literal K)) (q : K) → is_gate e ≡ false → settle_one known v e q ≡ v q
  unfolding settle_one takes
  keeps_free known v e q none = ap (λ b. if (b && (not (list_any (eq q) known) && list_any (eq q) (own_keys e))) then gives v e else v q) none

  takes_gate : (known : List K) (v : K → Bool) (e : Entry K (Literal K)) (q : K) → is_gate e ≡ true → list_any (eq q) known ≡ false → list_any (eq q) (own_keys e) ≡ true → settle_one known v e q ≡ gives v e
  unfolding settle_one takes
  takes_gate known v e q is absent there =
      ap (λ b. if (b && (not (list_any (eq q) known) && list_any (eq q) (own_keys e))) then gives v e else v q) is
      ∙ ap (λ b. if (not b && list_any (eq q) (own_keys e)) then gives v e else v q) absent ∙ ap (λ b. if b then gives v e else v q) there

  known_more : (known : List K) (e : Entry K (Literal K)) (q : K) → list_any (eq q) known ≡ true → list_any (eq q) (known ++ own_keys e) ≡ true
  known_more known e q there = list_any-append (eq q) known (own_keys e) ∙ or_left (list_any (eq q) known) (list_any (eq q) (own_keys e)) there

  known_own : (known : List K) (e : Entry K (Literal K)) (q : K) → list_any (eq q) (own_keys e) ≡ true → list_any (eq q) (known ++ own_keys e) ≡ true
  known_own known e q there = list_any-append (eq q) known (own_keys e) ∙ or_right (list_any (eq q) known) (list_any (eq q) (own_keys e)) there

  known_none : (known : List K) (e : Entry K (Literal K)) (q : K) → list_any (eq q) known ≡ false → list_any (eq q) (own_keys e) ≡ false → list_any (eq q) (known ++ own_keys e) ≡ false
  known_none known e q absent other = list_any-append (eq q) known (own_keys e) ∙ or_from (list_any (eq q) known) (list_any (eq q) (own_keys e)) absent other

  settle_keeps : (es : List (Entry K (Literal K))) (known : List K) (v : K → Bool) (q : K) → list_any (eq q) known ≡ true → settle known v es q ≡ v q
  unfolding settle
  settle_keeps [] known v q there = refl
  settle_keeps (e ∷ es) known v q there = settle_keeps es (known ++ own_keys e) (settle_one known v e) q (known_more known e q there) ∙ keeps_known known v e q there

  settle_free : (es : List (Entry K (Literal K))) (known : List K) (v : K → Bool) (q : K) → list_any (eq q) known ≡ false → is_free eq es q ≡ true → settle known v es q ≡ v q
  unfolding settle
  settle_free [] known v q absent is = refl
  settle_free (e ∷ es) known v q absent is = by (list_any (eq q) (own_keys e)) refl (λ other here. settle_free es (known ++ own_keys e) (settle_one known v e) q (known_none known e q absent other) here)
    where
      by : (b : Bool) → list_any (eq q) (own_keys e) ≡ b → (list_any (eq q) (own_keys e) ≡ false → is_free eq es q ≡ true → settle (known ++ own_keys e) (settle_one known v e) es q ≡ settle_one known v e q)
          → settle (known ++ own_keys e) (settle_one known v e) es q ≡ v q
      by true there rest =
          settle_keeps es (known ++ own_keys e) (settle_one known v e) q (known_own known e q there)
          ∙ keeps_free known v e q (not-true (is_gate e) (sym (free_own e es q there) ∙ is))
      by false other rest = rest other (sym (free_other e es q other) ∙ is) ∙ keeps_other known v e q other

  -- a gate that gives its key its number, and whose key has the gate's value
  record Settled (es : List (Entry K (Literal K))) (v : K → Bool) (q : K) : Type 0 where
    pub entry : Entry K (Literal K)
    pub there : Contains es entry
    pub gate : gate_key entry ≡ Some q
    pub agrees_now : agrees v (value_of v) entry ≡ true

  settled : (es : List (Entry K (Literal K))) (known : List K) (v : K → Bool) (q : K) → are_in_order eq known es ≡ true → list_any (eq q) known ≡ false → is_free eq es q ≡ false → Settled es (settle known v es) q
  unfolding settle
  settled [] known v q order absent is = absurd (true≢false is)
  settled (e ∷ es) known v q order absent is =
      let parts = and_parts (list_all (λ l. list_any (eq l.key) known) (parts_of e)) (are_in_order eq (known ++ own_keys e) es) order in
      by (list_any (eq q) (own_keys e)) refl parts.0 (λ other here. settled es (known ++ own_keys e) (settle_one known v e) q parts.1 (known_none known e q absent other) here)
    where
      by : (b : Bool) → list_any (eq q) (own_keys e) ≡ b → list_all (λ l. list_any (eq l.key) known) (parts_of e) ≡ true
          → (list_any (eq q) (own_keys e) ≡ false → is_free eq es q ≡ false → Settled es (settle (known ++ own_keys e) (settle_one known v e) es) q) → Settled (e ∷ es) (settle (known ++ own_keys e) (settle_one known v e) es) q
      by true there parts rest =
          let gate : is_gate e ≡ true = not-false (is_gate e) (sym (free_own e es q there) ∙ is) in
          let g = gated e gate in
          let here = own_key e g q there in
          let end = settle (known ++ own_keys e) (settle_one known v e) es in
          let mine : end q ≡ gives v e = settle_keeps es (known ++ own_keys e) (settle_one known v e) q (known_own known e q there) ∙ takes_gate known v e q gate absent there in
          let theirs : gives end e ≡ gives v e =
          gives_same end v (λ l. list_any (eq l.key) known) e parts
          (λ l known_part. settle_keeps es (known ++ own_keys e) (settle_one known v e) l.key (known_more known e l.key known_part) ∙ keeps_known known v e l.key known_part) in
          record {
            entry = e;
            there = (0, omega arith, refl);
            gate = g.gate ∙ ap (λ k. Some k) (sym here);
            agrees_now = g.says end ∙ ap (λ k. beq (end k) (gives end e)) (sym here) ∙ ap (λ b. beq b (gives end e)) (mine ∙ sym theirs) ∙ beq-itself (gives end e);
          }
      by false other parts rest =
          let one = rest other (sym (free_other e es q other) ∙ is) in
          record { entry = one.entry; there = Contains-append_right (e ∷ []) es one.entry one.there; gate = one.gate; agrees_now = one.agrees_now }

  pub choices_extend : (es : List (Entry K (Literal K))) → are_in_order eq [] es ≡ true → AreConsistent es
      → ((e : Entry K (Literal K)) (k : K) → Contains es e → gate_key e ≡ Some k → is_free eq es k ≡ false) → (choice : K → Bool)
      → (v : K → Bool) × ((e : Entry K (Literal K)) → Contains es e → is_gate e ≡ true → agrees v (value_of v) e ≡ true)
      × ((k : K) → is_free eq es k ≡ true → v k ≡ choice k)
  choices_extend es order consistent numbered_by choice = (
    settle [] choice es,
    (λ e there is.
        let g = gated e is in
        let one = settled es [] choice g.key order refl (numbered_by e g.key there g.gate) in
        let same_entry : one.entry ≡ e = consistent one.entry e g.key one.there there one.gate g.gate in
        ap (agrees (settle [] choice es) (value_of (settle [] choice es))) (sym same_entry) ∙ one.agrees_now),
    (λ k is. settle_free es [] choice k refl is),
  )
