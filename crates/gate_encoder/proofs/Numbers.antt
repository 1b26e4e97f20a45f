-- Keys that have a number keep it, whatever is written after.
use Rattle.std.proofs.Common.{◌≡◌, ℕ, ◌+◌, ◌<◌, suc, Bool, true, false, ◌||◌, List, [], ◌∷◌, ◌++◌, length, map, take, refl, sym, ap, ◌∙◌, subst, if◌then◌else◌, length-append, arith}
use Rattle.std.specs.Cmp.{IsEquivalence}
use Rattle.std.specs.List.{list_any, list_all, position_or_len}
use Rattle.std.specs.Map.{keys_of}
use Rattle.std.proofs.lemmas.Bool.{or_left, or_right, and_parts, and_from}
use Rattle.std.proofs.lemmas.List.{append_assoc, length-map, take-append-le, take_all}
use Rattle.std.proofs.lemmas.List.Folds.{list_any-append}
use Rattle.std.proofs.lemmas.List.Sums.{fold-append}
use Rattle.std.proofs.lemmas.Map.{keys-set_value}
use Rattle.sat_clauses.specs.declared.literal.Lit.{Lit}
use Rattle.gate_encoder.specs.Entries.{Literal, Entry, map_literals}
use Rattle.gate_encoder.specs.Writing.{Written, Step, new_number, new_clause, whole_gate, after_step, after_steps, gate_steps, steps, write, write_all, all_steps, has_number, has_gate, lit_in, IsNumbered, IsCut}
use Rattle.gate_encoder.proofs.Gating.{keys_of-push, place_in_front, number_place, gated_has_number, open_steps, gate_kept}

-- a place before the end is that of a key
pub place_there : {K : Type 0} (test : K → Bool) (ks : List K) → position_or_len test ks < length ks → list_any test ks ≡ true
place_there test [] before = absurd (omega arith)
place_there test (x ∷ xs) before = by (test x) refl (λ h. place_there test xs h)
  where
    by : (b : Bool) → test x ≡ b → (position_or_len test xs < length xs → list_any test xs ≡ true) → (test x || list_any test xs) ≡ true
    by true e rest = or_left (test x) (list_any test xs) e
    by false e rest =
        let more : 1 + position_or_len test xs < suc (length xs) = rw e at before in
        or_right (test x) (list_any test xs) (rest (omega arith))

module _ {K : Type 0} (eq : K → K → Bool) where
  -- a key that has a number in the one has the same in the other
  pub record Keeps (w new : Written K) (q : K) : Type 0 where
    pub there : has_number eq new q ≡ true
    pub place : position_or_len (eq q) (keys_of new.keys) ≡ position_or_len (eq q) (keys_of w.keys)

  keeps_keys : (w new : Written K) (q : K) → has_number eq w q ≡ true → keys_of new.keys ≡ keys_of w.keys → Keeps w new q
  keeps_keys w new q there same = record { there = ap (list_any (eq q)) same ∙ there; place = ap (position_or_len (eq q)) same }

  pub keeps_self : (w : Written K) (q : K) → has_number eq w q ≡ true → Keeps w w q
  keeps_self w q there = record { there = there; place = refl }

  pub keeps_step : (w : Written K) (step : Step K) (q : K) → has_number eq w q ≡ true → Keeps w (after_step eq w step) q
  keeps_step w (new_number k) q there = by (has_number eq w k) refl
    where
      by : (b : Bool) → has_number eq w k ≡ b → Keeps w (after_step eq w (new_number k)) q
      by true e = keeps_keys w (after_step eq w (new_number k)) q there (ap (λ b. keys_of (if b then w.keys else w.keys ++ (k, false) ∷ [])) e)
      by false e =
          let names : keys_of (after_step eq w (new_number k)).keys ≡ keys_of w.keys ++ k ∷ [] = ap (λ b. keys_of (if b then w.keys else w.keys ++ (k, false) ∷ [])) e ∙ keys_of-push eq w.keys k false in
          record {
            there = ap (list_any (eq q)) names ∙ list_any-append (eq q) (keys_of w.keys) (k ∷ []) ∙ or_left (list_any (eq q) (keys_of w.keys)) (list_any (eq q) (k ∷ [])) there;
            place = ap (position_or_len (eq q)) names ∙ place_in_front eq (eq q) (keys_of w.keys) (k ∷ []) there;
          }
  keeps_step w (new_clause lits) q there = keeps_keys w (after_step eq w (new_clause lits)) q there refl
  keeps_step w (whole_gate k) q there = keeps_keys w (after_step eq w (whole_gate k)) q there (keys-set_value (eq k) w.keys true)

  pub keeps_after : (w between new : Written K) (q : K) → Keeps w between q → Keeps between new q → Keeps w new q
  keeps_after w between new q first second = record { there = second.there; place = second.place ∙ first.place }

  pub keeps_steps : (w : Written K) (all : List (Step K)) (q : K) → has_number eq w q ≡ true → Keeps w (after_steps eq w all) q
  keeps_steps w [] q there = keeps_self w q there
  keeps_steps w (s ∷ ss) q there =
      let first = keeps_step w s q there in
      keeps_after w (after_step eq w s) (after_steps eq (after_step eq w s) ss) q first (keeps_steps (after_step eq w s) ss q first.there)

  pub keeps_all : (w : Written K) (entries : List (Entry K (Literal K))) (q : K) → has_number eq w q ≡ true → Keeps w (write_all eq w entries) q
  keeps_all w [] q there = keeps_self w q there
  keeps_all w (e ∷ es) q there =
      let entry = map_literals (lit_in eq w) e in
      let first = keeps_steps w (steps eq w entry) q there in
      keeps_after w (write eq w entry) (write_all eq (write eq w entry) es) q first (keeps_all (write eq w entry) es q first.there)

  number_there : IsEquivalence eq → (w : Written K) (k : K) → has_number eq (after_step eq w (new_number k)) k ≡ true
  number_there laws w k = by (has_number eq w k) refl
    where
      by : (b : Bool) → has_number eq w k ≡ b → list_any (eq k) (keys_of (if has_number eq w k then w.keys else w.keys ++ (k, false) ∷ [])) ≡ true
      by true e = rw e e
      by false e =
          rw e
          (ap (list_any (eq k)) (keys_of-push eq w.keys k false) ∙ list_any-append (eq k) (keys_of w.keys) (k ∷ [])
          ∙ or_right (list_any (eq k) (keys_of w.keys)) (list_any (eq k) (k ∷ [])) (or_left (eq k k) false (laws.refl k)))

  -- a number that is given
  pub numbers_key : IsEquivalence eq → (w : Written K) (k : K) → Keeps w (after_step eq w (new_number k)) k
  numbers_key laws w k = record { there = number_there laws w k; place = number_place eq laws w k }

  -- a gate's key has a number after it, the one that it had or the next
  pub gate_numbers : IsEquivalence eq → (w : Written K) (k : K) (clauses : List (List Lit)) → Keeps w (after_steps eq w (gate_steps eq w k clauses)) k
  gate_numbers laws w k clauses = by (has_gate eq w k) refl
    where
      by : (b : Bool) → has_gate eq w k ≡ b → Keeps w (after_steps eq w (gate_steps eq w k clauses)) k
      by true marked = subst (λ (x : Written K). Keeps w x k) (sym (gate_kept eq w k clauses marked)) (keeps_self w k (gated_has_number eq w k marked))
      by false none =
          let first = numbers_key laws w k in
          let rest : List (Step K) = map new_clause clauses ++ whole_gate k ∷ [] in
          subst (λ (all : List (Step K)). Keeps w (after_steps eq w all) k) (sym (open_steps eq w k clauses none))
          (keeps_after w (after_step eq w (new_number k)) (after_steps eq (after_step eq w (new_number k)) rest) k first (keeps_steps (after_step eq w (new_number k)) rest k first.there))

  -- literals keep their numbers
  pub lit_keeps : (w new : Written K) (l : Literal K) → Keeps w new l.key → lit_in eq new l ≡ lit_in eq w l
  lit_keeps w new l keeps = ap (λ n. let x : Lit = record { var = n + 1; positive = l.positive } in x) keeps.place

  abbrev pub are_numbered : Written K → List (Literal K) → Bool
  are_numbered w ls = list_all (λ l. has_number eq w l.key) ls

  pub lits_keep : (w new : Written K) (ls : List (Literal K)) → ((q : K) → has_number eq w q ≡ true → Keeps w new q) → are_numbered w ls ≡ true → (are_numbered new ls ≡ true) × (map (lit_in eq new) ls ≡ map (lit_in eq w) ls)
  lits_keep w new [] keeps known = (refl, refl)
  lits_keep w new (l ∷ ls) keeps known =
      let parts = and_parts (has_number eq w l.key) (are_numbered w ls) known in
      let first = keeps l.key parts.0 in
      let rest = lits_keep w new ls keeps parts.1 in (
        and_from (has_number eq new l.key) (are_numbered new ls) first.there rest.0,
        ap (λ x. x ∷ map (lit_in eq new) ls) (lit_keeps w new l first) ∙ ap (λ xs. lit_in eq w l ∷ xs) rest.1,
      )

  -- a literal whose variable is the number of a key
  pub numbered_key : (w : Written K) (lit : Lit) (l : Literal K) → IsNumbered w lit → lit ≡ lit_in eq w l → has_number eq w l.key ≡ true
  numbered_key w lit l numbered is =
      place_there (eq l.key) (keys_of w.keys) (omega (arith, numbered.1, ap (λ (x : Lit). x.var) is, length-map w.keys (λ (e : K × Bool). e.0)))

  -- entries written one after the other
  pub write_all-append : (w : Written K) (xs ys : List (Entry K (Literal K))) → write_all eq w (xs ++ ys) ≡ write_all eq (write_all eq w xs) ys
  write_all-append w [] ys = refl
  write_all-append w (x ∷ xs) ys = write_all-append (write eq w (map_literals (lit_in eq w) x)) xs ys

  pub all_steps-append : (w : Written K) (xs ys : List (Entry K (Literal K))) → all_steps eq w (xs ++ ys) ≡ all_steps eq w xs ++ all_steps eq (write_all eq w xs) ys
  all_steps-append w [] ys = refl
  all_steps-append w (x ∷ xs) ys =
      let entry = map_literals (lit_in eq w) x in
      ap (λ ss. steps eq w entry ++ ss) (all_steps-append (write eq w entry) xs ys)
      ∙ sym (append_assoc (steps eq w entry) (all_steps eq (write eq w entry) xs) (all_steps eq (write_all eq (write eq w entry) xs) ys))

  pub after_all_steps : (w : Written K) (es : List (Entry K (Literal K))) → after_steps eq w (all_steps eq w es) ≡ write_all eq w es
  after_all_steps w [] = refl
  after_all_steps w (e ∷ es) =
      let entry = map_literals (lit_in eq w) e in
      fold-append (after_step eq) w (steps eq w entry) (all_steps eq (write eq w entry) es) ∙ after_all_steps (write eq w entry) es

  -- a cut of what is left is one of the whole
  pub cut_behind : (w new : Written K) (first rest : List (Step K)) → IsCut eq (after_steps eq w first) rest new → IsCut eq w (first ++ rest) new
  cut_behind w new first rest c =
      record {
        count = length first + c.count;
        within = omega (arith, c.within, length-append first rest);
        cut = c.cut ∙ sym (ap (after_steps eq w) (take-past first rest c.count) ∙ fold-append (after_step eq) w first (take c.count rest));
      }
    where
      take-past : (xs ys : List (Step K)) (n : ℕ) → take (length xs + n) (xs ++ ys) ≡ xs ++ take n ys
      take-past [] ys n = let same : 0 + n ≡ n = omega arith in ap (λ (m : ℕ). take m ys) same
      take-past (x ∷ xs) ys n = let same : suc (length xs) + n ≡ suc (length xs + n) = omega arith in ap (λ (m : ℕ). take m (x ∷ xs ++ ys)) same ∙ ap (λ zs. x ∷ zs) (take-past xs ys n)

  pub cut_front : (w new : Written K) (first rest : List (Step K)) → IsCut eq w first new → IsCut eq w (first ++ rest) new
  cut_front w new first rest c =
      record {
        count = c.count;
        within = omega (arith, c.within, length-append first rest);
        cut = c.cut ∙ ap (after_steps eq w) (sym (take-append-le c.count first rest c.within));
      }

  pub cut_all : (w new : Written K) (all : List (Step K)) → new ≡ after_steps eq w all → IsCut eq w all new
  cut_all w new all is = record { count = length all; within = omega arith; cut = is ∙ ap (after_steps eq w) (sym (take_all (length all) all (omega arith))) }
