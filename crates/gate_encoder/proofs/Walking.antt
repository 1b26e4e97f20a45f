-- The loop over a formula's nodes: what was written for the trees that no node has taken yet.
use Rattle.std.proofs.Common.{◌≡◌, ℕ, ◌+◌, ◌-◌, ◌<◌, ◌≤◌, zero, suc, Bool, true, ◌&&◌, List, [], ◌∷◌, ◌++◌, length, map, take, drop, fold, slice_get, Some, refl, sym, ap, ◌∙◌, subst, All, length-append, length-take, length-drop, Result, Ok, Err, OnErr, arith}
use Rattle.std.specs.Cmp.{IsEquivalence}
use Rattle.std.specs.List.{flat_map, AllZip}
use Rattle.std.proofs.lemmas.Bool.{and_from, and_parts}
use Rattle.std.proofs.lemmas.List.{append-nil, append_assoc, length-map, map-append, take-append-drop, take-append-le, drop-append-le, take_all, drop_all}
use Rattle.std.proofs.lemmas.List.Folds.{list_all-append}
use Rattle.arena_walk.specs.Tree.{Tree, trees_of, over, root_of, size_each, EachNode}
use Rattle.arena_walk.specs.Forest.{tree_at, first_number, HasArity}
use Rattle.arena_walk.proofs.Visitors.{nodes_to, IsAlong, along_start, along_enough, along_kids, along_next, along_end, along_at, next_node, size_each-append}
use Rattle.dj_formula.specs.declared.formula.Gate.{Gate}
use Rattle.dj_formula.specs.declared.formula.Gate.TheVariants.{Constant, Feature, Not, And, Or, Implies, Same}
use Rattle.dj_formula.specs.declared.formula.Formula.{Formula}
use Rattle.dj_formula.specs.Gates.{operands, IsBelow}
use Rattle.dj_formula.specs.Value.{tree_of, HasFeaturesBelow}
use Rattle.dj_formula.proofs.Trees.{each_below}
use Rattle.sat_clauses.specs.declared.literal.Lit.{Lit}
use Rattle.sat_clauses.specs.Literals.{opposite}
use Rattle.gate_encoder.specs.Entries.{Literal, negated, Entry, all_of, any_of, equal_of}
use Rattle.gate_encoder.specs.Writing.{Written, Step, IsNumbered, after_steps, steps, write, write_all, all_steps, has_number, literal, lit_in, IsCut}
use Rattle.gate_encoder.specs.Formulas.{Names, node_entries, node_literal, own_literal, tree_literal, trees_literals, tree_entries, trees_entries, IsNodeOf, AreNames}
use Rattle.gate_encoder.proofs.Numbers.{Keeps, are_numbered, lits_keep, lit_keeps, numbered_key, write_all-append, all_steps-append, after_all_steps, cut_behind, cut_front, cut_all}
use Rattle.gate_encoder.proofs.Trees.{literals-append, entries-node, literals-node, length-literals, node_written, node_steps, node_reads, node_keeps}

abbrev SameTree : Tree Gate → Tree Gate → Type 0
SameTree u v = v ≡ u

abbrev IsRootBelow : ℕ → Tree Gate → ℕ → Type 0
IsRootBelow n u at = IsBelow n (root_of u)

-- the walk along the nodes of a tree, with the trees that no node has taken yet
abbrev pub Along : ℕ → List Gate → ℕ → Tree Gate → ℕ → List (Tree Gate) → Type 0
Along n ns root t at ts = IsAlong operands SameTree (IsRootBelow n) t at (drop at (take (root + 1) ns)) ts

same_trees : (xs ys : List (Tree Gate)) → AllZip SameTree xs ys → ys ≡ xs
same_trees [] [] h = refl
same_trees [] (y ∷ ys) h = absurd h
same_trees (x ∷ xs) [] h = absurd h
same_trees (x ∷ xs) (y ∷ ys) h = ap (λ z. z ∷ ys) h.0 ∙ ap (λ zs. x ∷ zs) (same_trees xs ys h.1)

-- one node more
along_more : (n : ℕ) (t : Tree Gate) (at : ℕ) (gate : Gate) (rest : List Gate) (ts : List (Tree Gate)) → IsAlong operands SameTree (IsRootBelow n) t at (gate ∷ rest) ts → IsAlong operands SameTree (IsRootBelow n) t (at + 1) rest (take (length ts - operands gate) ts ++ over gate (drop (length ts - operands gate) ts) ∷ [])
along_more n t at gate rest ts along =
    along_next operands SameTree SameTree (IsRootBelow n) t at gate rest ts (over gate (drop (length ts - operands gate) ts)) along (λ u v is. is)
    (λ kids same _. ap (over gate) (same_trees kids (drop (length ts - operands gate) ts) same))

module _ (n : ℕ) (ns : List Gate) (root : ℕ) (t : Tree Gate) where
  pub along_first : (at : ℕ) → at ≡ first_number root t → tree_at operands ns root ≡ Some t → EachNode (λ u _. HasArity operands u) (first_number root t) t → HasFeaturesBelow n t → Along n ns root t at []
  along_first at first is whole below =
      subst (λ (k : ℕ). Along n ns root t k []) (sym first)
      (along_start operands SameTree (IsRootBelow n) t (first_number root t) _ whole (each_below n (first_number root t) t below) (nodes_to operands ns root t is))

  module _ (at : ℕ) (gate : Gate) (here : slice_get ns at ≡ Some gate) (before : at < root + 1) (ts : List (Tree Gate)) (along : Along n ns root t at ts) where
    at_gate : IsAlong operands SameTree (IsRootBelow n) t at (gate ∷ drop (at + 1) (take (root + 1) ns)) ts
    at_gate = along_at operands SameTree (IsRootBelow n) t at _ _ ts (next_node ns (root + 1) at gate here before) along

    pub enough : operands gate ≤ length ts
    enough = along_enough operands SameTree (IsRootBelow n) t at gate _ ts at_gate

    pub gate_below : IsBelow n gate
    gate_below = (along_kids operands SameTree (IsRootBelow n) t at gate _ ts at_gate).2

    pub along_one : Along n ns root t (at + 1) (take (length ts - operands gate) ts ++ over gate (drop (length ts - operands gate) ts) ∷ [])
    along_one = along_more n t at gate (drop (at + 1) (take (root + 1) ns)) ts at_gate

  pub along_last : (at : ℕ) (ts : List (Tree Gate)) → length (take (root + 1) ns) ≤ at → Along n ns root t at ts → ts ≡ t ∷ []
  along_last at ts past along =
      let end = along_end operands SameTree (IsRootBelow n) t at _ ts (drop_all at (take (root + 1) ns) past) along in
      end.1 ∙ ap (λ u. u ∷ []) end.2

-- the node's tree ends at the node
after_node : (first at : ℕ) (front kids : List (Tree Gate)) (gate : Gate) → at ≡ first + size_each (trees_of (front ++ kids)) → at + 1 ≡ first + size_each (trees_of (front ++ over gate kids ∷ []))
after_node first at front kids gate here = omega (arith, here, size_each-append front kids, size_each-append front (over gate kids ∷ []))

-- the entries of a tree begin with those of the trees that stand before any of its nodes
begins : {K : Type 0} (names : Names K) (n first : ℕ) (t : Tree Gate) (at : ℕ) (rest : List Gate) (ts : List (Tree Gate)) → at ≡ first + size_each (trees_of ts) → IsAlong operands SameTree (IsRootBelow n) t at rest ts → (more : List (Entry K (Literal K))) × (tree_entries names first t ≡ trees_entries names first (trees_of ts) ++ more)
begins names n first t at [] ts here along =
    let end = along_end operands SameTree (IsRootBelow n) t at [] ts refl along in
    let whole : ts ≡ t ∷ [] = end.1 ∙ ap (λ u. u ∷ []) end.2 in
    ([], sym (append-nil (trees_entries names first (trees_of ts)) ∙ ap (λ us. trees_entries names first (trees_of us)) whole ∙ append-nil (tree_entries names first t)))
begins names n first t at (gate ∷ rest) ts here along =
    let front = take (length ts - operands gate) ts in
    let kids = drop (length ts - operands gate) ts in
    let joined : front ++ kids ≡ ts = take-append-drop (length ts - operands gate) ts in
    let place : at ≡ first + size_each (trees_of (front ++ kids)) = here ∙ ap (λ us. first + size_each (trees_of us)) (sym joined) in
    let own = node_entries negated (names.node at) gate (trees_literals names (first + size_each (trees_of front)) (trees_of kids)) in
    let node = entries-node names first at front kids gate place in
    let next = begins names n first t (at + 1) rest (front ++ over gate kids ∷ []) (after_node first at front kids gate place) (along_more n t at gate rest ts along) in (
      own ++ next.0,
      next.1 ∙ ap (λ es. es ++ next.0) (node ∙ ap (λ us. trees_entries names first (trees_of us) ++ own) joined) ∙ append_assoc (trees_entries names first (trees_of ts)) own next.0,
    )

-- what was written for trees: their entries; and the literals on the stack are theirs
pub record IsWritten {K : Type 0} (eq : K → K → Bool) (old now : Written K) (first : ℕ) (truth : Lit) (features : List Lit) (names : Names K) (ts : List (Tree Gate)) (lits : List Lit) : Type 0 where
  pub entries : now ≡ write_all eq old (trees_entries names first (trees_of ts))
  pub literals : lits ≡ map (lit_in eq now) (trees_literals names first (trees_of ts))
  pub numbered : are_numbered eq now (trees_literals names first (trees_of ts)) ≡ true
  pub truth_there : has_number eq now names.truth.key ≡ true
  pub truth_is : truth ≡ lit_in eq now names.truth
  pub features_there : are_numbered eq now names.features ≡ true
  pub features_are : features ≡ map (lit_in eq now) names.features

all_numbered : {K : Type 0} (eq : K → K → Bool) (w : Written K) (lits : List Lit) (ls : List (Literal K)) → All (IsNumbered w) lits → lits ≡ map (lit_in eq w) ls → are_numbered eq w ls ≡ true
all_numbered eq w lits [] numbered is = refl
all_numbered eq w [] (l ∷ ls) numbered is = absurd (cc)
all_numbered eq w (x ∷ xs) (l ∷ ls) numbered is =
    let here : x ≡ lit_in eq w l = cc in
    let rest : xs ≡ map (lit_in eq w) ls = cc in
    and_from (has_number eq w l.key) (are_numbered eq w ls) (numbered_key eq w x l (numbered 0 x (omega arith)) here)
    (all_numbered eq w xs ls (λ k d within. numbered (suc k) d (omega arith)) rest)

module _ {K : Type 0} (eq : K → K → Bool) (truth : Lit) (features : List Lit) (first : ℕ) (names : Names K) where
  pub written_first : (w : Written K) → IsNumbered w truth → All (IsNumbered w) features → truth ≡ lit_in eq w names.truth → features ≡ map (lit_in eq w) names.features → IsWritten eq w w first truth features names [] []
  written_first w truth_numbered features_numbered truth_is features_are =
      record {
        entries = refl;
        literals = refl;
        numbered = refl;
        truth_there = numbered_key eq w truth names.truth truth_numbered truth_is;
        truth_is = truth_is;
        features_there = all_numbered eq w features names.features features_numbered features_are;
        features_are = features_are;
      }

  -- the literals of the trees in front and of those behind
  front_lits : (now : Written K) (front kids : List (Tree Gate)) (lits : List Lit) → lits ≡ map (lit_in eq now) (trees_literals names first (trees_of (front ++ kids)))
      → lits ≡ map (lit_in eq now) (trees_literals names first (trees_of front)) ++ map (lit_in eq now) (trees_literals names (first + size_each (trees_of front)) (trees_of kids))
  front_lits now front kids lits is = is ∙ ap (map (lit_in eq now)) (literals-append names first front kids) ∙ map-append (lit_in eq now) (trees_literals names first (trees_of front)) _

  take_front : {X : Type 0} (k : ℕ) (xs ys : List X) → k ≡ length xs → take k (xs ++ ys) ≡ xs
  take_front k xs ys e = take-append-le k xs ys (omega arith) ∙ take_all k xs (omega arith)

  drop_front : {X : Type 0} (k : ℕ) (xs ys : List X) → k ≡ length xs → drop k (xs ++ ys) ≡ ys
  drop_front k xs ys e = drop-append-le k xs ys (omega arith) ∙ ap (λ zs. zs ++ ys) (drop_all k xs (omega arith))

  module _ (old now : Written K) (number : ℕ) (front kids : List (Tree Gate)) (gate : Gate) (lits : List Lit) (start : ℕ) (at : number ≡ first + size_each (trees_of (front ++ kids))) (begin : start ≡ length front)
      (written : IsWritten eq old now first truth features names (front ++ kids) lits) where
    length-front : start ≡ length (map (lit_in eq now) (trees_literals names first (trees_of front)))
    length-front = omega (arith, length-map (trees_literals names first (trees_of front)) (lit_in eq now), length-literals names first front)

    operand_lits : drop start lits ≡ map (lit_in eq now) (trees_literals names (first + size_each (trees_of front)) (trees_of kids))
    operand_lits = ap (drop start) (front_lits now front kids lits written.literals) ∙ drop_front start _ _ length-front

    other_lits : take start lits ≡ map (lit_in eq now) (trees_literals names first (trees_of front))
    other_lits = ap (take start) (front_lits now front kids lits written.literals) ∙ take_front start _ _ length-front

    both_numbered : (are_numbered eq now (trees_literals names first (trees_of front)) ≡ true) × (are_numbered eq now (trees_literals names (first + size_each (trees_of front)) (trees_of kids)) ≡ true)
    both_numbered =
        and_parts _ _
        (sym (list_all-append (λ (l : Literal K). has_number eq now l.key) (trees_literals names first (trees_of front)) (trees_literals names (first + size_each (trees_of front)) (trees_of kids)))
        ∙ ap (are_numbered eq now) (sym (literals-append names first front kids)) ∙ written.numbered)

    -- a node's entries and its literal
    pub written_next : IsEquivalence eq → (new : Written K) (lit : Lit) → IsBelow (length features) gate → length kids ≡ operands gate
        → new ≡ fold (write eq) now (node_entries opposite (names.node number) gate (drop start lits))
        → lit ≡ node_literal opposite truth features (literal eq now (names.node number)) gate (drop start lits)
        → IsWritten eq old new first truth features names (front ++ over gate kids ∷ []) (take start lits ++ lit ∷ [])
    written_next laws new lit below count is lit_is =
        let kid_literals = trees_literals names (first + size_each (trees_of front)) (trees_of kids) in
        let front_literals = trees_literals names first (trees_of front) in
        let own = node_literal negated names.truth names.features (own_literal (names.node number)) gate kid_literals in
        let made : new ≡ fold (write eq) now (node_entries opposite (names.node number) gate (map (lit_in eq now) kid_literals)) =
        is ∙ ap (λ ls. fold (write eq) now (node_entries opposite (names.node number) gate ls)) operand_lits in
        let keeps : (q : K) → has_number eq now q ≡ true → Keeps eq now new q =
        λ q there. subst (λ (x : Written K). Keeps eq now x q) (sym made) (node_keeps eq now (node_entries opposite (names.node number) gate (map (lit_in eq now) kid_literals)) q there) in
        let count_features = ap length written.features_are ∙ length-map names.features (lit_in eq now) in
        let reads = node_reads eq laws now (names.node number) names.truth names.features gate kid_literals written.truth_there written.features_there both_numbered.1
        (subst (λ (m : ℕ). IsBelow m gate) count_features below) (length-literals names (first + size_each (trees_of front)) kids ∙ count) in
        let here : has_number eq new own.key ≡ true = ap (λ (x : Written K). has_number eq x own.key) made ∙ reads.there in
        let read : lit ≡ lit_in eq new own =
        lit_is
        ∙ ap (λ x. node_literal opposite x features (literal eq now (names.node number)) gate (drop start lits)) written.truth_is
        ∙ ap (λ xs. node_literal opposite (lit_in eq now names.truth) xs (literal eq now (names.node number)) gate (drop start lits)) written.features_are
        ∙ ap (λ ls. node_literal opposite (lit_in eq now names.truth) (map (lit_in eq now) names.features) (literal eq now (names.node number)) gate ls) operand_lits
        ∙ reads.reads ∙ ap (λ (x : Written K). lit_in eq x own) (sym made) in
        let fronts = lits_keep eq now new front_literals keeps both_numbered.0 in
        let features_keep = lits_keep eq now new names.features keeps written.features_there in
        let literals_are = literals-node names first number front kids gate at in
        record {
          entries = made ∙ sym (node_written eq now (names.node number) gate kid_literals) ∙ ap (λ (x : Written K). write_all eq x (node_entries negated (names.node number) gate kid_literals)) written.entries
              ∙ sym (write_all-append eq old (trees_entries names first (trees_of (front ++ kids))) (node_entries negated (names.node number) gate kid_literals))
              ∙ ap (write_all eq old) (sym (entries-node names first number front kids gate at));
          literals = ap (λ ls. ls ++ lit ∷ []) (other_lits ∙ sym fronts.1) ∙ ap (λ l. map (lit_in eq new) front_literals ++ l ∷ []) read
              ∙ sym (map-append (lit_in eq new) front_literals (own ∷ [])) ∙ ap (map (lit_in eq new)) (sym literals_are);
          numbered = ap (are_numbered eq new) literals_are ∙ list_all-append (λ (l : Literal K). has_number eq new l.key) front_literals (own ∷ [])
              ∙ and_from (are_numbered eq new front_literals) (has_number eq new own.key && true) fronts.0 (and_from (has_number eq new own.key) true here refl);
          truth_there = (keeps names.truth.key written.truth_there).there;
          truth_is = written.truth_is ∙ sym (lit_keeps eq now new names.truth (keeps names.truth.key written.truth_there));
          features_there = features_keep.0;
          features_are = written.features_are ∙ sym features_keep.1;
        }

    -- where a node's entries were cut, those of the whole tree were
    pub written_cut : (new : Written K) (t : Tree Gate) (n : ℕ) (rest : List Gate) → IsAlong operands SameTree (IsRootBelow n) t (number + 1) rest (front ++ over gate kids ∷ [])
        → IsCut eq now (flat_map (steps eq now) (node_entries opposite (names.node number) gate (drop start lits))) new → IsCut eq old (all_steps eq old (tree_entries names first t)) new
    written_cut new t n rest along cut =
        let kid_literals = trees_literals names (first + size_each (trees_of front)) (trees_of kids) in
        let before = trees_entries names first (trees_of (front ++ kids)) in
        let own = node_entries negated (names.node number) gate kid_literals in
        let more = begins names n first t (number + 1) rest (front ++ over gate kids ∷ []) (after_node first number front kids gate at) along in
        let whole : tree_entries names first t ≡ before ++ (own ++ more.0) =
        more.1 ∙ ap (λ es. es ++ more.0) (entries-node names first number front kids gate at) ∙ append_assoc before own more.0 in
        let here : IsCut eq now (all_steps eq now own) new = subst (λ (all : List (Step K)). IsCut eq now all new) (ap (λ ls. flat_map (steps eq now) (node_entries opposite (names.node number) gate ls)) operand_lits ∙ sym (node_steps eq now (names.node number) gate kid_literals)) cut in
        let ahead : IsCut eq now (all_steps eq now (own ++ more.0)) new =
        subst (λ (all : List (Step K)). IsCut eq now all new) (sym (all_steps-append eq now own more.0)) (cut_front eq now new (all_steps eq now own) (all_steps eq (write_all eq now own) more.0) here) in
        let reached : now ≡ after_steps eq old (all_steps eq old before) = written.entries ∙ sym (after_all_steps eq old before) in
        let behind : IsCut eq old (all_steps eq old before ++ all_steps eq now (own ++ more.0)) new =
        cut_behind eq old new (all_steps eq old before) (all_steps eq now (own ++ more.0)) (subst (λ (x : Written K). IsCut eq x (all_steps eq now (own ++ more.0)) new) reached ahead) in
        subst (λ (all : List (Step K)). IsCut eq old all new)
        (ap (λ (x : Written K). all_steps eq old before ++ all_steps eq x (own ++ more.0)) written.entries ∙ sym (all_steps-append eq old before (own ++ more.0)) ∙ ap (all_steps eq old) (sym whole)) behind

-- before a node of a formula's tree: the trees that no node has taken yet, and for any names of the formula's parts what was written for them
pub record Stands {K : Type 0} (eq : K → K → Bool) (formula : Formula) (old now : Written K) (truth : Lit) (features : List Lit) (gives : ℕ → K → Type 0) (t : Tree Gate) (number : ℕ) (lits : List Lit) : Type 0 where
  pub ts : List (Tree Gate)
  pub along : Along (length features) formula.nodes formula.root.0 t number ts
  pub at : number ≡ first_number formula.root.0 t + size_each (trees_of ts)
  pub count : length lits ≡ length ts
  pub written : (names : Names K) → AreNames eq old formula truth features gives names → IsWritten eq old now (first_number formula.root.0 t) truth features names ts lits

module _ {K : Type 0} (eq : K → K → Bool) (formula : Formula) (truth : Lit) (features : List Lit) (gives : ℕ → K → Type 0) (t : Tree Gate) (is : tree_of formula ≡ Some t) where
  pub stand_first : (w : Written K) (number : ℕ) → number ≡ first_number formula.root.0 t → EachNode (λ u _. HasArity operands u) (first_number formula.root.0 t) t → HasFeaturesBelow (length features) t → IsNumbered w truth → All (IsNumbered w) features
      → Stands eq formula w w truth features gives t number []
  stand_first w number first whole below truth_numbered features_numbered =
      record {
        ts = [];
        along = along_first (length features) formula.nodes formula.root.0 t number first is whole below;
        at = omega (arith, first);
        count = refl;
        written = λ names are. written_first eq truth features (first_number formula.root.0 t) names w truth_numbered features_numbered are.truth_is are.features_are;
      }

  -- where the walk is past the root, all is written
  pub stand_last : (old now : Written K) (number : ℕ) (lits : List Lit) → length (take (formula.root.0 + 1) formula.nodes) ≤ number → Stands eq formula old now truth features gives t number lits
      → (names : Names K) → AreNames eq old formula truth features gives names
      → (now ≡ write_all eq old (tree_entries names (first_number formula.root.0 t) t)) × (lits ≡ lit_in eq now (tree_literal names (first_number formula.root.0 t) t) ∷ [])
  stand_last old now number lits past stand names are =
      let first = first_number formula.root.0 t in
      let whole = along_last (length features) formula.nodes formula.root.0 t number stand.ts past stand.along in
      let written = stand.written names are in (
        written.entries ∙ ap (λ us. write_all eq old (trees_entries names first (trees_of us))) whole ∙ ap (write_all eq old) (append-nil (tree_entries names first t)),
        written.literals ∙ ap (λ us. map (lit_in eq now) (trees_literals names first (trees_of us))) whole,
      )

  module _ (old now : Written K) (number : ℕ) (lits : List Lit) (stand : Stands eq formula old now truth features gives t number lits) (gate : Gate) (here : slice_get formula.nodes number ≡ Some gate) (before : number < formula.root.0 + 1) where
    pub stand_enough : operands gate ≤ length lits
    stand_enough = omega (arith, stand.count, enough (length features) formula.nodes formula.root.0 t number gate here before stand.ts stand.along)

    pub stand_below : IsBelow (length features) gate
    stand_below = gate_below (length features) formula.nodes formula.root.0 t number gate here before stand.ts stand.along

    front : List (Tree Gate)
    front = take (length stand.ts - operands gate) stand.ts

    kids : List (Tree Gate)
    kids = drop (length stand.ts - operands gate) stand.ts

    is_node : first_number formula.root.0 t ≤ number → number < formula.root.0 + 1 → IsNodeOf formula number
    is_node from to = record { tree = t; there = is; from = from; to = omega arith }

    node_of : IsNodeOf formula number
    node_of = is_node (omega (arith, stand.at)) before

    module _ (start : ℕ) (begin : start + operands gate ≡ length lits) (names : Names K) (are : AreNames eq old formula truth features gives names) where
      key_is : (key : K) → gives number key → key ≡ names.node number
      key_is key given = are.nodes_are number key node_of given

      pub stand_cut : (new : Written K) → ((name : K) → ((key : K) → gives number key → key ≡ name) → IsCut eq now (flat_map (steps eq now) (node_entries opposite name gate (drop start lits))) new) → IsCut eq old (all_steps eq old (tree_entries names (first_number formula.root.0 t) t)) new
      unfolding front kids
      stand_cut new cut =
          let joined = take-append-drop (length stand.ts - operands gate) stand.ts in
          let first = first_number formula.root.0 t in
          written_cut eq truth features first names old now number front kids gate lits start (stand.at ∙ ap (λ us. first + size_each (trees_of us)) (sym joined))
          (omega (arith, length-take (length stand.ts - operands gate) stand.ts, stand.count))
          (subst (λ (us : List (Tree Gate)). IsWritten eq old now first truth features names us lits) (sym joined) (stand.written names are))
          new t (length features) _ (along_one (length features) formula.nodes formula.root.0 t number gate here before stand.ts stand.along) (cut (names.node number) key_is)

    pub stand_next : IsEquivalence eq → (new : Written K) (start : ℕ) (lit : Lit) → start + operands gate ≡ length lits
        → ((name : K) → ((key : K) → gives number key → key ≡ name) → new ≡ fold (write eq) now (node_entries opposite name gate (drop start lits)))
        → ((name : K) → ((key : K) → gives number key → key ≡ name) → lit ≡ node_literal opposite truth features (literal eq now name) gate (drop start lits))
        → Stands eq formula old new truth features gives t (number + 1) (take start lits ++ lit ∷ [])
    unfolding front kids
    stand_next laws new start lit begin wrote reads =
        let joined = take-append-drop (length stand.ts - operands gate) stand.ts in
        let first = first_number formula.root.0 t in
        let at = stand.at ∙ ap (λ us. first + size_each (trees_of us)) (sym joined) in
        let count : start ≡ length front = omega (arith, length-take (length stand.ts - operands gate) stand.ts, stand.count) in
        record {
          ts = front ++ over gate kids ∷ [];
          along = along_one (length features) formula.nodes formula.root.0 t number gate here before stand.ts stand.along;
          at = after_node first number front kids gate at;
          count = omega (arith, length-append (take start lits) (lit ∷ []), length-take start lits, length-append front (over gate kids ∷ []), count);
          written = λ names are.
              let all = λ (key : K) (given : gives number key). are.nodes_are number key node_of given in
              written_next eq truth features first names old now number front kids gate lits start at count
              (subst (λ (us : List (Tree Gate)). IsWritten eq old now first truth features names us lits) (sym joined) (stand.written names are))
              laws new lit stand_below (omega (arith, length-drop (length stand.ts - operands gate) stand.ts, stand.count)) (wrote (names.node number) all) (reads (names.node number) all);
        }

pub stand_lits : {K : Type 0} {eq : K → K → Bool} {formula : Formula} {old now : Written K} {truth : Lit} {features : List Lit} {gives : ℕ → K → Type 0} {t : Tree Gate} {number : ℕ} {os us : List Lit} → os ≡ us
    → Stands eq formula old now truth features gives t number os → Stands eq formula old now truth features gives t number us
stand_lits {K} {eq} {formula} {old} {now} {truth} {features} {gives} {t} {number} same stand =
    subst (λ (ls : List Lit). Stands eq formula old now truth features gives t number ls) same stand

pub stand_one : {K : Type 0} {eq : K → K → Bool} {formula : Formula} {old now : Written K} {truth : Lit} {features : List Lit} {gives : ℕ → K → Type 0} {t : Tree Gate} {number : ℕ} {lits : List Lit} → length (take (formula.root.0 + 1) formula.nodes) ≤ number
    → Stands eq formula old now truth features gives t number lits → length lits ≡ 1
stand_one {K} {eq} {formula} {old} {now} {truth} {features} {gives} {t} {number} past stand =
    stand.count ∙ ap length (along_last (length features) formula.nodes formula.root.0 t number stand.ts past stand.along)

-- what is behind a start, as a range that goes to the end
pub to_the_end : {X : Type 0} (xs ys : List X) (start : ℕ) → xs ≡ ys → take (length xs - start) (drop start xs) ≡ drop start ys
to_the_end xs ys start same = take_all (length xs - start) (drop start xs) (omega (arith, length-drop start xs)) ∙ ap (drop start) same

pub last_of : {X : Type 0} (P : X → Type 0) (rest : List X) (x : X) → All P (rest ++ x ∷ []) → P x
last_of P [] x all = all 0 x (omega arith)
last_of P (y ∷ ys) x all = last_of P ys x (λ k d within. all (suc k) d (omega arith))

-- the literals of a walk are numbers of keys
pub numbered_next : {K : Type 0} (now new : Written K) (lits : List Lit) (start : ℕ) (lit : Lit) → length now.keys ≤ length new.keys → All (IsNumbered now) lits → IsNumbered new lit → All (IsNumbered new) (take start lits ++ lit ∷ [])
numbered_next now new lits zero lit grown all here zero d within = here
numbered_next now new lits zero lit grown all here (suc k) d within = absurd (omega arith)
numbered_next now new [] (suc start) lit grown all here zero d within = here
numbered_next now new [] (suc start) lit grown all here (suc k) d within = absurd (omega arith)
numbered_next now new (x ∷ xs) (suc start) lit grown all here zero d within = let h = all 0 d (omega arith) in (h.0, omega (arith, h.1))
numbered_next now new (x ∷ xs) (suc start) lit grown all here (suc k) d within =
    numbered_next now new xs start lit grown (λ i e before. all (suc i) e (omega arith)) here k d (omega arith)

-- all that a node writes
pub cut_node : {K : Type 0} (eq : K → K → Bool) (w new : Written K) (k : K) (gate : Gate) (ls : List Lit) → new ≡ fold (write eq) w (node_entries opposite k gate ls) → IsCut eq w (flat_map (steps eq w) (node_entries opposite k gate ls)) new
cut_node {K} eq w new k gate ls is = cut_all eq w new (flat_map (steps eq w) (node_entries opposite k gate ls)) (is ∙ by gate ls)
  where
    one : (e : Entry K Lit) → write eq w e ≡ after_steps eq w (steps eq w e ++ [])
    one e = ap (after_steps eq w) (sym (append-nil (steps eq w e)))

    by : (g : Gate) (xs : List Lit) → fold (write eq) w (node_entries opposite k g xs) ≡ after_steps eq w (flat_map (steps eq w) (node_entries opposite k g xs))
    by (Constant b) xs = refl
    by (Feature f) xs = refl
    by Not xs = refl
    by And xs = one (all_of k xs)
    by Or xs = one (any_of k xs)
    by Implies [] = refl
    by Implies (a ∷ []) = refl
    by Implies (a ∷ b ∷ []) = one (any_of k (opposite a ∷ b ∷ []))
    by Implies (a ∷ b ∷ c ∷ xs) = refl
    by Same [] = refl
    by Same (a ∷ []) = refl
    by Same (a ∷ b ∷ []) = one (equal_of k a b)
    by Same (a ∷ b ∷ c ∷ xs) = refl

-- a cut, whatever the names are, where a call gives an error
pub cut_on_err : {T E K : Type 0} (r : Result T E) (eq : K → K → Bool) (formula : Formula) (old new : Written K) (truth : Lit) (features : List Lit) (gives : ℕ → K → Type 0)
    → ((names : Names K) (t : Tree Gate) → tree_of formula ≡ Some t → AreNames eq old formula truth features gives names → IsCut eq old (all_steps eq old (tree_entries names (first_number formula.root.0 t) t)) new)
    → OnErr r ((names : Names K) (t : Tree Gate) → tree_of formula ≡ Some t → AreNames eq old formula truth features gives names → IsCut eq old (all_steps eq old (tree_entries names (first_number formula.root.0 t) t)) new)
cut_on_err (Ok x) eq formula old new truth features gives cut = tt
cut_on_err (Err e) eq formula old new truth features gives cut = cut
