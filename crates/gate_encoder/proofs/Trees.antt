-- The literals and entries of trees that stand one behind the other, and of one node more.
use Rattle.std.proofs.Common.{◌≡◌, ℕ, ◌+◌, ◌<◌, zero, suc, Bool, true, false, List, [], ◌∷◌, ◌++◌, length, map, fold, slice_index_or, refl, sym, ap, ◌∙◌, arith}
use Rattle.std.specs.Cmp.{IsEquivalence}
use Rattle.std.specs.List.{flat_map}
use Rattle.std.proofs.lemmas.Bool.{and_parts}
use Rattle.std.proofs.lemmas.List.{append-nil, append_assoc}
use Rattle.arena_walk.specs.Tree.{Tree, trees_of, over, size, size_each}
use Rattle.arena_walk.proofs.Visitors.{size_each-append}
use Rattle.dj_formula.specs.declared.formula.Gate.{Gate}
use Rattle.dj_formula.specs.declared.formula.Gate.TheVariants.{Constant, Feature, Not, And, Or, Implies, Same}
use Rattle.dj_formula.specs.Gates.{operands, IsBelow}
use Rattle.sat_clauses.specs.declared.literal.Lit.{Lit}
use Rattle.sat_clauses.specs.Literals.{opposite}
use Rattle.gate_encoder.specs.Entries.{Literal, negated, Entry, all_of, any_of, equal_of}
use Rattle.gate_encoder.specs.Writing.{Written, steps, write, write_all, all_steps, has_number, literal, lit_in, all_clauses, any_clauses, equal_clauses}
use Rattle.gate_encoder.specs.Formulas.{Names, node_entries, node_literal, own_literal, tree_literal, trees_literals, tree_entries, trees_entries}
use Rattle.gate_encoder.proofs.Numbers.{Keeps, keeps_self, keeps_steps, gate_numbers, lit_keeps, are_numbered}

module _ {K : Type 0} (names : Names K) where
  pub literals-append : (first : ℕ) (xs ys : List (Tree Gate)) → trees_literals names first (trees_of (xs ++ ys)) ≡ trees_literals names first (trees_of xs) ++ trees_literals names (first + size_each (trees_of xs)) (trees_of ys)
  literals-append first [] ys = let same : first ≡ first + 0 = omega arith in ap (λ n. trees_literals names n (trees_of ys)) same
  literals-append first (t ∷ ts) ys =
      let same : first + size t + size_each (trees_of ts) ≡ first + (size t + size_each (trees_of ts)) = omega arith in
      ap (λ ls. tree_literal names first t ∷ ls)
      (literals-append (first + size t) ts ys ∙ ap (λ n. trees_literals names (first + size t) (trees_of ts) ++ trees_literals names n (trees_of ys)) same)

  pub entries-append : (first : ℕ) (xs ys : List (Tree Gate)) → trees_entries names first (trees_of (xs ++ ys)) ≡ trees_entries names first (trees_of xs) ++ trees_entries names (first + size_each (trees_of xs)) (trees_of ys)
  entries-append first [] ys = let same : first ≡ first + 0 = omega arith in ap (λ n. trees_entries names n (trees_of ys)) same
  entries-append first (t ∷ ts) ys =
      let same : first + size t + size_each (trees_of ts) ≡ first + (size t + size_each (trees_of ts)) = omega arith in
      ap (λ es. tree_entries names first t ++ es)
      (entries-append (first + size t) ts ys ∙ ap (λ n. trees_entries names (first + size t) (trees_of ts) ++ trees_entries names n (trees_of ys)) same)
      ∙ sym (append_assoc (tree_entries names first t) (trees_entries names (first + size t) (trees_of ts)) (trees_entries names (first + (size t + size_each (trees_of ts))) (trees_of ys)))

  pub length-literals : (first : ℕ) (ts : List (Tree Gate)) → length (trees_literals names first (trees_of ts)) ≡ length ts
  length-literals first [] = refl
  length-literals first (t ∷ ts) = ap suc (length-literals (first + size t) ts)

  -- one node more, over the last trees
  pub entries-node : (first number : ℕ) (front kids : List (Tree Gate)) (gate : Gate) → number ≡ first + size_each (trees_of (front ++ kids))
      → trees_entries names first (trees_of (front ++ over gate kids ∷ [])) ≡ trees_entries names first (trees_of (front ++ kids)) ++ node_entries negated (names.node number) gate (trees_literals names (first + size_each (trees_of front)) (trees_of kids))
  entries-node first number front kids gate at =
      let start = first + size_each (trees_of front) in
      let root : start + size_each (trees_of kids) ≡ number = omega (arith, at, size_each-append front kids) in
      let own = node_entries negated (names.node number) gate (trees_literals names start (trees_of kids)) in
      entries-append first front (over gate kids ∷ [])
      ∙ ap (λ es. trees_entries names first (trees_of front) ++ es)
      (append-nil (tree_entries names start (over gate kids)) ∙ ap (λ n. trees_entries names start (trees_of kids) ++ node_entries negated (names.node n) gate (trees_literals names start (trees_of kids))) root)
      ∙ sym (append_assoc (trees_entries names first (trees_of front)) (trees_entries names start (trees_of kids)) own)
      ∙ ap (λ es. es ++ own) (sym (entries-append first front kids))

  pub literals-node : (first number : ℕ) (front kids : List (Tree Gate)) (gate : Gate) → number ≡ first + size_each (trees_of (front ++ kids))
      → trees_literals names first (trees_of (front ++ over gate kids ∷ [])) ≡ trees_literals names first (trees_of front) ++ node_literal negated names.truth names.features (own_literal (names.node number)) gate (trees_literals names (first + size_each (trees_of front)) (trees_of kids)) ∷ []
  literals-node first number front kids gate at =
      let start = first + size_each (trees_of front) in
      let root : start + size_each (trees_of kids) ≡ number = omega (arith, at, size_each-append front kids) in
      literals-append first front (over gate kids ∷ [])
      ∙ ap (λ n. trees_literals names first (trees_of front) ++ node_literal negated names.truth names.features (own_literal (names.node n)) gate (trees_literals names start (trees_of kids)) ∷ []) root

module _ {K : Type 0} (eq : K → K → Bool) where
  -- the entries of a node, over literals of keys and over literals of their numbers
  pub node_written : (w : Written K) (k : K) (gate : Gate) (ls : List (Literal K)) → write_all eq w (node_entries negated k gate ls) ≡ fold (write eq) w (node_entries opposite k gate (map (lit_in eq w) ls))
  node_written w k (Constant b) ls = refl
  node_written w k (Feature f) ls = refl
  node_written w k Not ls = refl
  node_written w k And ls = refl
  node_written w k Or ls = refl
  node_written w k Implies [] = refl
  node_written w k Implies (a ∷ []) = refl
  node_written w k Implies (a ∷ b ∷ []) = refl
  node_written w k Implies (a ∷ b ∷ c ∷ ls) = refl
  node_written w k Same [] = refl
  node_written w k Same (a ∷ []) = refl
  node_written w k Same (a ∷ b ∷ []) = refl
  node_written w k Same (a ∷ b ∷ c ∷ ls) = refl

  pub node_steps : (w : Written K) (k : K) (gate : Gate) (ls : List (Literal K)) → all_steps eq w (node_entries negated k gate ls) ≡ flat_map (steps eq w) (node_entries opposite k gate (map (lit_in eq w) ls))
  node_steps w k (Constant b) ls = refl
  node_steps w k (Feature f) ls = refl
  node_steps w k Not ls = refl
  node_steps w k And ls = refl
  node_steps w k Or ls = refl
  node_steps w k Implies [] = refl
  node_steps w k Implies (a ∷ []) = refl
  node_steps w k Implies (a ∷ b ∷ []) = refl
  node_steps w k Implies (a ∷ b ∷ c ∷ ls) = refl
  node_steps w k Same [] = refl
  node_steps w k Same (a ∷ []) = refl
  node_steps w k Same (a ∷ b ∷ []) = refl
  node_steps w k Same (a ∷ b ∷ c ∷ ls) = refl

  -- a literal of keys that is read as one of numbers, and has a number
  pub record Reads (w new : Written K) (l : Literal K) (lit : Lit) : Type 0 where
    pub there : has_number eq new l.key ≡ true
    pub reads : lit ≡ lit_in eq new l

  kept : (w new : Written K) (l : Literal K) → Keeps eq w new l.key → Reads w new l (lit_in eq w l)
  kept w new l keeps = record { there = keeps.there; reads = sym (lit_keeps eq w new l keeps) }

  kept_negated : (w new : Written K) (l : Literal K) → Keeps eq w new l.key → Reads w new (negated l) (opposite (lit_in eq w l))
  kept_negated w new l keeps = record { there = keeps.there; reads = sym (lit_keeps eq w new (negated l) keeps) }

  feature_at : (w new : Written K) (ls : List (Literal K)) (f : ℕ) (truth : Literal K) → ((q : K) → has_number eq w q ≡ true → Keeps eq w new q) → are_numbered eq w ls ≡ true → f < length ls → Reads w new (slice_index_or ls f truth) (slice_index_or (map (lit_in eq w) ls) f (lit_in eq w truth))
  feature_at w new [] f truth keeps known within = absurd (omega arith)
  feature_at w new (l ∷ ls) zero truth keeps known within = kept w new l (keeps l.key (and_parts (has_number eq w l.key) (are_numbered eq w ls) known).0)
  feature_at w new (l ∷ ls) (suc f) truth keeps known within = feature_at w new ls f truth keeps (and_parts (has_number eq w l.key) (are_numbered eq w ls) known).1 (omega arith)

  -- the literal of a node after its entries were written
  pub node_reads : IsEquivalence eq → (w : Written K) (k : K) (truth : Literal K) (features : List (Literal K)) (gate : Gate) (ls : List (Literal K))
      → has_number eq w truth.key ≡ true → are_numbered eq w features ≡ true → are_numbered eq w ls ≡ true → IsBelow (length features) gate → length ls ≡ operands gate
      → Reads w (fold (write eq) w (node_entries opposite k gate (map (lit_in eq w) ls))) (node_literal negated truth features (own_literal k) gate ls)
      (node_literal opposite (lit_in eq w truth) (map (lit_in eq w) features) (literal eq w k) gate (map (lit_in eq w) ls))
  node_reads laws w k truth features (Constant true) ls t fs known below count = kept w w truth (keeps_self eq w truth.key t)
  node_reads laws w k truth features (Constant false) ls t fs known below count = kept_negated w w truth (keeps_self eq w truth.key t)
  node_reads laws w k truth features (Feature f) ls t fs known below count = feature_at w w features f truth (λ q there. keeps_self eq w q there) fs (below f refl)
  node_reads laws w k truth features Not [] t fs known below count = absurd (omega arith)
  node_reads laws w k truth features Not (a ∷ []) t fs known below count = kept_negated w w a (keeps_self eq w a.key (and_parts (has_number eq w a.key) true known).0)
  node_reads laws w k truth features Not (a ∷ b ∷ ls) t fs known below count = absurd (omega arith)
  node_reads laws w k truth features And ls t fs known below count =
      kept w (write eq w (all_of k (map (lit_in eq w) ls))) (own_literal k) (gate_numbers eq laws w k (all_clauses (literal eq w k) (map (lit_in eq w) ls)))
  node_reads laws w k truth features Or ls t fs known below count =
      kept w (write eq w (any_of k (map (lit_in eq w) ls))) (own_literal k) (gate_numbers eq laws w k (any_clauses (literal eq w k) (map (lit_in eq w) ls)))
  node_reads laws w k truth features Implies [] t fs known below count = absurd (omega arith)
  node_reads laws w k truth features Implies (a ∷ []) t fs known below count = absurd (omega arith)
  node_reads laws w k truth features Implies (a ∷ b ∷ []) t fs known below count =
      let lits = opposite (lit_in eq w a) ∷ lit_in eq w b ∷ [] in
      kept w (write eq w (any_of k lits)) (own_literal k) (gate_numbers eq laws w k (any_clauses (literal eq w k) lits))
  node_reads laws w k truth features Implies (a ∷ b ∷ c ∷ ls) t fs known below count = absurd (omega arith)
  node_reads laws w k truth features Same [] t fs known below count = absurd (omega arith)
  node_reads laws w k truth features Same (a ∷ []) t fs known below count = absurd (omega arith)
  node_reads laws w k truth features Same (a ∷ b ∷ []) t fs known below count =
      kept w (write eq w (equal_of k (lit_in eq w a) (lit_in eq w b))) (own_literal k) (gate_numbers eq laws w k (equal_clauses (literal eq w k) (lit_in eq w a) (lit_in eq w b)))
  node_reads laws w k truth features Same (a ∷ b ∷ c ∷ ls) t fs known below count = absurd (omega arith)

  -- a node's entries leave the numbers of keys
  pub node_keeps : (w : Written K) (entries : List (Entry K Lit)) (q : K) → has_number eq w q ≡ true → Keeps eq w (fold (write eq) w entries) q
  node_keeps w [] q there = keeps_self eq w q there
  node_keeps w (e ∷ es) q there =
      let first = keeps_steps eq w (steps eq w e) q there in
      let rest = node_keeps (write eq w e) es q first.there in
      record { there = rest.there; place = rest.place ∙ first.place }
