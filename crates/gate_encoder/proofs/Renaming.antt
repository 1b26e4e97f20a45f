-- Entries under other names write the same clauses.
use Rattle.std.proofs.Common.{◌≡◌, ◌+◌, Bool, true, false, not, cond, ◌||◌, List, [], ◌∷◌, ◌++◌, map, Some, Contains, unwrap_or, refl, sym, ap, ◌∙◌, subst, if◌then◌else◌, arith}
use Rattle.std.specs.List.{list_any, position_or_len}
use Rattle.std.specs.Map.{keys_of, lookup, set_value}
use Rattle.std.proofs.lemmas.List.{map-append}
use Rattle.std.proofs.lemmas.List.Elements.{Contains-append_left, Contains-append_right}
use Rattle.sat_clauses.specs.declared.literal.Lit.{Lit}
use Rattle.gate_encoder.specs.Entries.{Literal, Entry, numbered, stated, all_of, any_of, equal_of, map_literals}
use Rattle.gate_encoder.specs.Writing.{Written, Step, nothing, new_number, new_clause, whole_gate, has_number, has_gate, literal, lit_in, after_step, after_steps, gate_steps, steps, write, write_all, all_clauses, any_clauses, equal_clauses}
use Rattle.gate_encoder.specs.Laws.{parts_of, own_keys, keys_in, renamed_literal, renamed, renamed_keys}

-- P holds of each
abbrev Each : {X : Type 0} → (X → Type 0) → List X → Type 0
Each P [] = Unit {0}
Each P (x ∷ xs) = P x × Each P xs

each_from : {X : Type 0} (P : X → Type 0) (xs : List X) → ((x : X) → Contains xs x → P x) → Each P xs
each_from P [] all = tt
each_from P (x ∷ xs) all = (all x (0, omega arith, refl), each_from P xs (λ y there. all y (Contains-append_right (x ∷ []) xs y there)))

each-append : {X : Type 0} (P : X → Type 0) (xs ys : List X) → Each P xs → Each P ys → Each P (xs ++ ys)
each-append P [] ys h k = k
each-append P (x ∷ xs) ys h k = (h.0, each-append P xs ys h.1 k)

each_front : {X : Type 0} (P : X → Type 0) (xs ys : List X) → Each P (xs ++ ys) → Each P xs × Each P ys
each_front P [] ys h = (tt, h)
each_front P (x ∷ xs) ys h = let rest = each_front P xs ys h.1 in ((h.0, rest.0), rest.1)

module _ {J K : Type 0} (eq : J → J → Bool) (other : K → K → Bool) (name : J → K) (P : J → Type 0) (keeps : (j k : J) → P j → P k → other (name j) (name k) ≡ eq j k) where
  renamed_written : Written J → Written K
  renamed_written w = record { keys = renamed_keys name w.keys; clauses = w.clauses }

  renamed_step : Step J → Step K
  renamed_step (new_number k) = new_number (name k)
  renamed_step (new_clause lits) = new_clause lits
  renamed_step (whole_gate k) = whole_gate (name k)

  IsFine : Step J → Type 0
  IsFine (new_number k) = P k
  IsFine (new_clause lits) = Unit {0}
  IsFine (whole_gate k) = P k

  AreFine : List (J × Bool) → Type 0
  AreFine es = Each (λ (e : J × Bool). P e.0) es

  place_renamed : (q : J) → P q → (es : List (J × Bool)) → AreFine es → position_or_len (other (name q)) (keys_of (renamed_keys name es)) ≡ position_or_len (eq q) (keys_of es)
  unfolding AreFine
  place_renamed q p [] fine = refl
  place_renamed q p (e ∷ es) fine =
      ap (λ b. cond (not b) (1 + position_or_len (other (name q)) (keys_of (renamed_keys name es))) 0) (keeps q e.0 p fine.0)
      ∙ ap (λ n. cond (not (eq q e.0)) (1 + n) 0) (place_renamed q p es fine.1)

  number_renamed : (q : J) → P q → (es : List (J × Bool)) → AreFine es → list_any (other (name q)) (keys_of (renamed_keys name es)) ≡ list_any (eq q) (keys_of es)
  unfolding AreFine
  number_renamed q p [] fine = refl
  number_renamed q p (e ∷ es) fine =
      ap (λ b. b || list_any (other (name q)) (keys_of (renamed_keys name es))) (keeps q e.0 p fine.0) ∙ ap (λ b. eq q e.0 || b) (number_renamed q p es fine.1)

  mark_renamed : (q : J) → P q → (es : List (J × Bool)) → AreFine es → lookup (other (name q)) (renamed_keys name es) ≡ lookup (eq q) es
  unfolding AreFine
  mark_renamed q p [] fine = refl
  mark_renamed q p (e ∷ es) fine =
      ap (λ b. cond b (Some e.1) (lookup (other (name q)) (renamed_keys name es))) (keeps q e.0 p fine.0) ∙ ap (λ o. cond (eq q e.0) (Some e.1) o) (mark_renamed q p es fine.1)

  set_renamed : (q : J) → P q → (es : List (J × Bool)) → AreFine es → set_value (other (name q)) (renamed_keys name es) true ≡ renamed_keys name (set_value (eq q) es true)
  unfolding AreFine
  set_renamed q p [] fine = refl
  set_renamed q p (e ∷ es) fine = by (eq q e.0) (keeps q e.0 p fine.0) refl (set_renamed q p es fine.1)
    where
      by : (b : Bool) → other (name q) (name e.0) ≡ eq q e.0 → eq q e.0 ≡ b → set_value (other (name q)) (renamed_keys name es) true ≡ renamed_keys name (set_value (eq q) es true)
          → cond (other (name q) (name e.0)) ((name e.0, true) ∷ renamed_keys name es) ((name e.0, e.1) ∷ set_value (other (name q)) (renamed_keys name es) true) ≡ renamed_keys name (cond (eq q e.0) ((e.0, true) ∷ es) (e ∷ set_value (eq q) es true))
      by true is there rest = rw (is, there) refl
      by false is absent rest = rw (is, absent) (ap (λ (xs : List (K × Bool)). (name e.0, e.1) ∷ xs) rest)

  fine_set : (test : J → Bool) (es : List (J × Bool)) → AreFine es → AreFine (set_value test es true)
  unfolding AreFine
  fine_set test [] fine = tt
  fine_set test (e ∷ es) fine = by (test e.0) (fine_set test es fine.1)
    where
      by : (b : Bool) → Each (λ (x : J × Bool). P x.0) (set_value test es true) → Each (λ (x : J × Bool). P x.0) (cond b ((e.0, true) ∷ es) (e ∷ set_value test es true))
      by true rest = (fine.0, fine.1)
      by false rest = (fine.0, rest)

  -- a step under other names
  step_renamed : (w : Written J) (step : Step J) → IsFine step → AreFine w.keys → (after_step other (renamed_written w) (renamed_step step) ≡ renamed_written (after_step eq w step)) × AreFine (after_step eq w step).keys
  unfolding renamed_written renamed_step IsFine AreFine
  step_renamed w (new_number k) p fine = by (has_number eq w k) refl (number_renamed k p w.keys fine)
    where
      by : (b : Bool) → has_number eq w k ≡ b → list_any (other (name k)) (keys_of (renamed_keys name w.keys)) ≡ has_number eq w k
          → (after_step other (renamed_written w) (new_number (name k)) ≡ renamed_written (after_step eq w (new_number k))) × AreFine (after_step eq w (new_number k)).keys
      by true there is = (
        ap (λ (es : List (K × Bool)). let x : Written K = record { keys = es; clauses = w.clauses } in x)
            (ap (λ b. if b then renamed_keys name w.keys else renamed_keys name w.keys ++ (name k, false) ∷ []) (is ∙ there)
            ∙ ap (λ b. renamed_keys name (if b then w.keys else w.keys ++ (k, false) ∷ [])) (sym there)),
        subst (λ (es : List (J × Bool)). Each (λ (x : J × Bool). P x.0) es) (ap (λ b. if b then w.keys else w.keys ++ (k, false) ∷ []) (sym there)) fine,
      )
      by false none is = (
        ap (λ (es : List (K × Bool)). let x : Written K = record { keys = es; clauses = w.clauses } in x)
            (ap (λ b. if b then renamed_keys name w.keys else renamed_keys name w.keys ++ (name k, false) ∷ []) (is ∙ none)
            ∙ sym (map-append (λ (e : J × Bool). let pair : K × Bool = (name e.0, e.1) in pair) w.keys ((k, false) ∷ []))
            ∙ ap (λ b. renamed_keys name (if b then w.keys else w.keys ++ (k, false) ∷ [])) (sym none)),
        subst (λ (es : List (J × Bool)). Each (λ (x : J × Bool). P x.0) es) (ap (λ b. if b then w.keys else w.keys ++ (k, false) ∷ []) (sym none)) (each-append (λ (x : J × Bool). P x.0) w.keys ((k, false) ∷ []) fine (p, tt)),
      )
  step_renamed w (new_clause lits) p fine = (refl, fine)
  step_renamed w (whole_gate k) p fine = (
    ap (λ (es : List (K × Bool)). let x : Written K = record { keys = es; clauses = w.clauses } in x) (set_renamed k p w.keys fine),
    fine_set (eq k) w.keys fine,
  )

  steps_after : (w : Written J) (ss : List (Step J)) → Each IsFine ss → AreFine w.keys → (after_steps other (renamed_written w) (map renamed_step ss) ≡ renamed_written (after_steps eq w ss)) × AreFine (after_steps eq w ss).keys
  steps_after w [] p fine = (refl, fine)
  steps_after w (s ∷ ss) p fine =
      let one = step_renamed w s p.0 fine in
      let rest = steps_after (after_step eq w s) ss p.1 one.1 in
      (ap (λ (x : Written K). after_steps other x (map renamed_step ss)) one.0 ∙ rest.0, rest.1)

  lit_renamed : (w : Written J) → AreFine w.keys → (l : Literal J) → P l.key → lit_in other (renamed_written w) (renamed_literal name l) ≡ lit_in eq w l
  unfolding renamed_written
  lit_renamed w fine l p = ap (λ n. let x : Lit = record { var = n + 1; positive = l.positive } in x) (place_renamed l.key p w.keys fine)

  lits_renamed : (w : Written J) → AreFine w.keys → (ls : List (Literal J)) → Each P (map (λ l. l.key) ls) → map (lit_in other (renamed_written w)) (map (renamed_literal name) ls) ≡ map (lit_in eq w) ls
  lits_renamed w fine [] p = refl
  lits_renamed w fine (l ∷ ls) p =
      ap (λ x. x ∷ map (lit_in other (renamed_written w)) (map (renamed_literal name) ls)) (lit_renamed w fine l p.0) ∙ ap (λ xs. lit_in eq w l ∷ xs) (lits_renamed w fine ls p.1)

  own_renamed : (w : Written J) → AreFine w.keys → (k : J) → P k → literal other (renamed_written w) (name k) ≡ literal eq w k
  unfolding renamed_written
  own_renamed w fine k p = ap (λ n. let x : Lit = record { var = n + 1; positive = true } in x) (place_renamed k p w.keys fine)

  clauses_renamed : (cs : List (List Lit)) → map renamed_step (map new_clause cs) ≡ map new_clause cs
  unfolding renamed_step
  clauses_renamed [] = refl
  clauses_renamed (c ∷ cs) = ap (λ ss. new_clause c ∷ ss) (clauses_renamed cs)

  clauses_fine : (cs : List (List Lit)) (rest : List (Step J)) → Each IsFine rest → Each IsFine (map new_clause cs ++ rest)
  unfolding IsFine
  clauses_fine [] rest fine = fine
  clauses_fine (c ∷ cs) rest fine = (tt, clauses_fine cs rest fine)

  gate_renamed : (w : Written J) → AreFine w.keys → (k : J) → P k → (cs : List (List Lit)) → (gate_steps other (renamed_written w) (name k) cs ≡ map renamed_step (gate_steps eq w k cs)) × Each IsFine (gate_steps eq w k cs)
  unfolding renamed_written renamed_step IsFine
  gate_renamed w fine k p cs = by (has_gate eq w k) refl (ap (λ o. unwrap_or o false) (mark_renamed k p w.keys fine))
    where
      whole : map renamed_step (new_number k ∷ map new_clause cs ++ whole_gate k ∷ []) ≡ new_number (name k) ∷ map new_clause cs ++ whole_gate (name k) ∷ []
      whole = map-append renamed_step (new_number k ∷ map new_clause cs) (whole_gate k ∷ []) ∙ ap (λ ss. new_number (name k) ∷ ss ++ whole_gate (name k) ∷ []) (clauses_renamed cs)

      by : (b : Bool) → has_gate eq w k ≡ b → unwrap_or (lookup (other (name k)) (renamed_keys name w.keys)) false ≡ has_gate eq w k
          → (gate_steps other (renamed_written w) (name k) cs ≡ map renamed_step (gate_steps eq w k cs)) × Each IsFine (gate_steps eq w k cs)
      by true there is = (
        ap (λ b. if b then [] else new_number (name k) ∷ map new_clause cs ++ whole_gate (name k) ∷ []) (is ∙ there)
            ∙ ap (λ b. map renamed_step (if b then [] else new_number k ∷ map new_clause cs ++ whole_gate k ∷ [])) (sym there),
        subst (λ (ss : List (Step J)). Each IsFine ss) (ap (λ b. if b then [] else new_number k ∷ map new_clause cs ++ whole_gate k ∷ []) (sym there)) tt,
      )
      by false none is = (
        ap (λ b. if b then [] else new_number (name k) ∷ map new_clause cs ++ whole_gate (name k) ∷ []) (is ∙ none)
            ∙ sym whole ∙ ap (λ b. map renamed_step (if b then [] else new_number k ∷ map new_clause cs ++ whole_gate k ∷ [])) (sym none),
        subst (λ (ss : List (Step J)). Each IsFine ss) (ap (λ b. if b then [] else new_number k ∷ map new_clause cs ++ whole_gate k ∷ []) (sym none)) (p, clauses_fine cs (whole_gate k ∷ []) (p, tt)),
      )

  keys_of_entry : Entry J (Literal J) → List J
  keys_of_entry e = map (λ l. l.key) (parts_of e) ++ own_keys e

  entry_renamed : (w : Written J) → AreFine w.keys → (e : Entry J (Literal J)) → Each P (keys_of_entry e)
      → (steps other (renamed_written w) (map_literals (lit_in other (renamed_written w)) (renamed name e)) ≡ map renamed_step (steps eq w (map_literals (lit_in eq w) e))) × Each IsFine (steps eq w (map_literals (lit_in eq w) e))
  unfolding keys_of_entry renamed_step IsFine
  entry_renamed w fine (numbered k) p = (refl, (p.0, tt))
  entry_renamed w fine (stated ls) p =
      let keys = (each_front P (map (λ l. l.key) ls) [] p).0 in
      (ap (λ lits. new_clause lits ∷ []) (lits_renamed w fine ls keys), (tt, tt))
  entry_renamed w fine (all_of k ls) p =
      let keys = each_front P (map (λ l. l.key) ls) (k ∷ []) p in
      let gate = gate_renamed w fine k keys.1.0 (all_clauses (literal eq w k) (map (lit_in eq w) ls)) in (
        ap (λ lits. gate_steps other (renamed_written w) (name k) (all_clauses (literal other (renamed_written w) (name k)) lits)) (lits_renamed w fine ls keys.0)
            ∙ ap (λ l. gate_steps other (renamed_written w) (name k) (all_clauses l (map (lit_in eq w) ls))) (own_renamed w fine k keys.1.0) ∙ gate.0,
        gate.1,
      )
  entry_renamed w fine (any_of k ls) p =
      let keys = each_front P (map (λ l. l.key) ls) (k ∷ []) p in
      let gate = gate_renamed w fine k keys.1.0 (any_clauses (literal eq w k) (map (lit_in eq w) ls)) in (
        ap (λ lits. gate_steps other (renamed_written w) (name k) (any_clauses (literal other (renamed_written w) (name k)) lits)) (lits_renamed w fine ls keys.0)
            ∙ ap (λ l. gate_steps other (renamed_written w) (name k) (any_clauses l (map (lit_in eq w) ls))) (own_renamed w fine k keys.1.0) ∙ gate.0,
        gate.1,
      )
  entry_renamed w fine (equal_of k a b) p =
      let gate = gate_renamed w fine k p.1.1.0 (equal_clauses (literal eq w k) (lit_in eq w a) (lit_in eq w b)) in (
        ap (λ l. gate_steps other (renamed_written w) (name k) (equal_clauses l (lit_in other (renamed_written w) (renamed_literal name a)) (lit_in other (renamed_written w) (renamed_literal name b)))) (own_renamed w fine k p.1.1.0)
            ∙ ap (λ l. gate_steps other (renamed_written w) (name k) (equal_clauses (literal eq w k) l (lit_in other (renamed_written w) (renamed_literal name b)))) (lit_renamed w fine a p.0)
            ∙ ap (λ l. gate_steps other (renamed_written w) (name k) (equal_clauses (literal eq w k) (lit_in eq w a) l)) (lit_renamed w fine b p.1.0) ∙ gate.0,
        gate.1,
      )

  all_renamed : (es : List (Entry J (Literal J))) (w : Written J) → AreFine w.keys → ((j : J) → Contains (keys_in es) j → P j) → write_all other (renamed_written w) (map (renamed name) es) ≡ renamed_written (write_all eq w es)
  unfolding keys_of_entry
  all_renamed [] w fine all = refl
  all_renamed (e ∷ es) w fine all =
      let here = each_from P (keys_of_entry e) (λ j there. all j (Contains-append_left (keys_of_entry e) (keys_in es) j there)) in
      let one = entry_renamed w fine e here in
      let rest = steps_after w (steps eq w (map_literals (lit_in eq w) e)) one.1 fine in
      ap (λ (x : Written K). write_all other x (map (renamed name) es)) (ap (after_steps other (renamed_written w)) one.0 ∙ rest.0)
      ∙ all_renamed es (write eq w (map_literals (lit_in eq w) e)) rest.1 (λ j there. all j (Contains-append_right (keys_of_entry e) (keys_in es) j there))

  pub renaming_from : (es : List (Entry J (Literal J))) → ((j : J) → Contains (keys_in es) j → P j)
      → ((write_all other nothing (map (renamed name) es)).clauses ≡ (write_all eq nothing es).clauses) × ((write_all other nothing (map (renamed name) es)).keys ≡ renamed_keys name (write_all eq nothing es).keys)
  unfolding renamed_written AreFine
  renaming_from es all =
      let is = all_renamed es nothing tt all in
      (ap (λ (x : Written K). x.clauses) is, ap (λ (x : Written K). x.keys) is)

pub renaming_keeps : {J K : Type 0} (eq : J → J → Bool) (other : K → K → Bool) (name : J → K) (es : List (Entry J (Literal J)))
    → ((j k : J) → Contains (keys_in es) j → Contains (keys_in es) k → other (name j) (name k) ≡ eq j k)
    → ((write_all other nothing (map (renamed name) es)).clauses ≡ (write_all eq nothing es).clauses) × ((write_all other nothing (map (renamed name) es)).keys ≡ renamed_keys name (write_all eq nothing es).keys)
renaming_keeps eq other name es keeps = renaming_from eq other name (Contains (keys_in es)) keeps es (λ j there. there)
