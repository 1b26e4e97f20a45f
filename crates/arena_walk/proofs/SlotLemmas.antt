-- What an arena's slots say of its trees.
use Rattle.std.proofs.Common.{◌≡◌, ℕ, ◌+◌, ◌-◌, ◌<◌, ◌≤◌, List, [], ◌∷◌, ◌++◌, length, take, drop, get_or, slice_get, Some, refl, sym, ap, ◌∙◌, subst, length-append, inl, inr, arith}
use Rattle.std.proofs.lemmas.List.{length-map, drop_all, map_push}
use Rattle.std.specs.Option.{option_map}
use Rattle.std.proofs.lemmas.Option.{slice_get_read, slice_get-map}
use Rattle.std.proofs.lemmas.Bool.{cases_lt}
use Rattle.arena_walk.specs.Tree.{Tree, trees_of, over, children_of, size, size_each, EachNode}
use Rattle.arena_walk.specs.Forest.{last_trees, trees, tree_at, first_number, HasArity}
use Rattle.arena_walk.specs.Slots.{slot_nodes, slot_firsts, AreSound}
use Rattle.arena_walk.specs.declared.arena.Slot.{Slot}
use Rattle.arena_walk.proofs.TreeLemmas.{list_of-trees_of, size_above, EachNode-map, nth_last}
use Rattle.arena_walk.proofs.ForestLemmas.{length-last_trees, size-trees, tree_at-append, tree_at_within, tree_at-push, tree_at_node, trees_to, have_own, has_own, slice_get-append, slice_get-push}

pub AreSound-nil : {N : Type 0} (arity : N → ℕ) → AreSound arity [] []
unfolding AreSound
AreSound-nil arity at t e = let inside = tree_at_within arity [] at t e in absurd (omega arith)

pub arities : {N : Type 0} (arity : N → ℕ) (ns : List N) (firsts : List ℕ) (at : ℕ) (t : Tree N) → AreSound arity ns firsts → tree_at arity ns at ≡ Some t → HasArity arity t
unfolding AreSound
arities arity ns firsts at t sound e = (sound at t e).0

firsts_at : {N : Type 0} (arity : N → ℕ) (ns : List N) (firsts : List ℕ) (at : ℕ) (t : Tree N) → AreSound arity ns firsts → tree_at arity ns at ≡ Some t → slice_get firsts at ≡ Some (first_number at t)
unfolding AreSound
firsts_at arity ns firsts at t sound e = (sound at t e).1

HasArity-over : {N : Type 0} (arity : N → ℕ) (n : N) (kids : List (Tree N)) → length kids ≡ arity n → HasArity arity (over n kids)
HasArity-over arity n kids e = ap length (list_of-trees_of kids) ∙ e

-- a node that found enough trees, beside the number of its tree's first node
pub AreSound-push : {N : Type 0} (arity : N → ℕ) (ns : List N) (firsts : List ℕ) (n : N) (first : ℕ) → AreSound arity ns firsts → length firsts ≡ length ns → arity n ≤ length (trees arity ns) → first + size_each (trees_of (last_trees arity (trees arity ns) n)) ≡ length ns → AreSound arity (ns ++ n ∷ []) (firsts ++ first ∷ [])
unfolding AreSound
AreSound-push {N} arity ns firsts n first sound same enough is at t e =
    elim (cases_lt at (length ns)) [
      | inl h ↦
          let old : tree_at arity ns at ≡ Some t = sym (tree_at-append arity ns (n ∷ []) at h) ∙ e in
          (arities arity ns firsts at t sound old, slice_get-append firsts (first ∷ []) at (omega arith) ∙ firsts_at arity ns firsts at t sound old)
      | inr h ↦
          let l = last_trees arity (trees arity ns) n in
          let inside = tree_at_within arity (ns ++ n ∷ []) at t e in
          let here : at ≡ length ns = omega (arith, length-append ns (n ∷ [])) in
          let there : tree_at arity (ns ++ n ∷ []) at ≡ Some (over n l) = ap (tree_at arity (ns ++ n ∷ [])) here ∙ tree_at-push arity ns n in
          let this : over n l ≡ t = cc in
          let front : first ≡ first_number at (over n l) = omega arith in
          let end : length firsts ≡ at = omega arith in (
            subst (λ (u : Tree N). HasArity arity u) this (HasArity-over arity n l (length-last_trees arity (trees arity ns) n enough)),
            ap (slice_get (firsts ++ first ∷ [])) (sym end) ∙ slice_get-push firsts first ∙ ap (λ k. Some k) (front ∙ ap (first_number at) this),
          )
    ]

-- each node of a tree has as many children as its arity
pub each_arity : {N : Type 0} (arity : N → ℕ) (ns : List N) (firsts : List ℕ) (at : ℕ) (t : Tree N) → AreSound arity ns firsts → tree_at arity ns at ≡ Some t → EachNode (λ u _. HasArity arity u) (first_number at t) t
each_arity {N} arity ns firsts at t sound e =
    EachNode-map (λ u k. tree_at arity ns k ≡ Some u) (λ u _. HasArity arity u) (λ u k h. arities arity ns firsts k u sound h) (first_number at t) t (has_own arity ns at t e)

pub size_within : {N : Type 0} (arity : N → ℕ) (ns : List N) (at : ℕ) (t : Tree N) → tree_at arity ns at ≡ Some t → size t ≤ at + 1
size_within arity ns at t e = let to = trees_to arity ns at t e in omega (arith, to.2)

pub length_slots : {N : Type 0} (slots : List (Slot N)) (ns : List N) → slot_nodes slots ≡ ns → length slots ≡ length ns
length_slots {N} slots ns e = sym (length-map slots (λ (r : Slot N). r.node)) ∙ ap length e

-- what the slot of a number holds
pub at_slot : {N : Type 0} (arity : N → ℕ) (slots : List (Slot N)) (ns : List N) (at : ℕ) (s : Slot N) → AreSound arity (slot_nodes slots) (slot_firsts slots) → slot_nodes slots ≡ ns → at < length ns → s ≡ get_or slots at s → (kids : List (Tree N)) × (length kids ≡ arity s.node) × (tree_at arity ns at ≡ Some (over s.node kids)) × (s.first ≡ first_number at (over s.node kids)) × (slice_get ns at ≡ Some s.node)
at_slot {N} arity slots ns at s sound e below is =
    let same = length_slots slots ns e in
    let here : slice_get slots at ≡ Some s = slice_get_read slots (length slots) at s refl (omega arith) is in
    let node : slice_get ns at ≡ Some s.node =
    ap (λ xs. slice_get xs at) (sym e) ∙ slice_get-map (λ (r : Slot N). r.node) slots at ∙ ap (option_map (λ (r : Slot N). r.node)) here in
    let front : slice_get (slot_firsts slots) at ≡ Some s.first =
    slice_get-map (λ (r : Slot N). r.first) slots at ∙ ap (option_map (λ (r : Slot N). r.first)) here in
    let kids = last_trees arity (trees arity (take at ns)) s.node in
    let tree : tree_at arity ns at ≡ Some (over s.node kids) = tree_at_node arity ns at s.node node in
    let sound_here : AreSound arity ns (slot_firsts slots) = subst (λ (xs : List N). AreSound arity xs (slot_firsts slots)) e sound in
    let first : slice_get (slot_firsts slots) at ≡ Some (first_number at (over s.node kids)) = firsts_at arity ns (slot_firsts slots) at (over s.node kids) sound_here tree in
    (kids, ap length (sym (list_of-trees_of kids)) ∙ arities arity ns (slot_firsts slots) at (over s.node kids) sound_here tree, tree, (cc), node)

-- a number has one tree, and so one first number
pub same_first : {N : Type 0} (arity : N → ℕ) (ns : List N) (at first : ℕ) (t : Tree N) → tree_at arity ns at ≡ Some t → (u : Tree N) × (tree_at arity ns at ≡ Some u) × (first ≡ first_number at u) × (first ≤ at) → first ≡ first_number at t
same_first {N} arity ns at first t e u =
    let same : u.0 ≡ t = cc in
    u.2 ∙ ap (first_number at) same

-- of the finished trees, the one that has j behind it, and its number
pub tree_behind : {N : Type 0} (arity : N → ℕ) (ns : List N) (j top : ℕ) → j < length (trees arity ns) → top + size_each (trees_of (drop (length (trees arity ns) - j) (trees arity ns))) ≡ length ns → (u : Tree N) × (tree_at arity ns (top - 1) ≡ Some u) × (0 + size u ≤ top) × (drop (length (trees arity ns) - (j + 1)) (trees arity ns) ≡ u ∷ drop (length (trees arity ns) - j) (trees arity ns)) × (slice_get (trees arity ns) (length (trees arity ns) - (j + 1)) ≡ Some u)
tree_behind {N} arity ns j top below e =
    nth_last (λ u k. tree_at arity ns k ≡ Some u) 0 (trees arity ns) j top (have_own arity ns) below (omega (arith, size-trees arity ns))

-- of a node's children, the one that has j behind it: its number, and that of the next one before it
pub child_behind : {N : Type 0} (arity : N → ℕ) (ns : List N) (at : ℕ) (n : N) (kids : List (Tree N)) (j child : ℕ) → tree_at arity ns at ≡ Some (over n kids) → j < length kids → child + 1 + size_each (trees_of (drop (length kids - j) kids)) ≡ at → (u : Tree N) × (tree_at arity ns child ≡ Some u) × (child + 1 - size u + size_each (trees_of (drop (length kids - (j + 1)) kids)) ≡ at) × (slice_get kids (length kids - (j + 1)) ≡ Some u)
child_behind {N} arity ns at n kids j child e below is =
    let within = size_within arity ns at (over n kids) e in
    let own = nth_last (λ u k. tree_at arity ns k ≡ Some u) (first_number at (over n kids)) kids j (child + 1) (has_own arity ns at (over n kids) e).0 below (omega arith) in
    let same : child + 1 - 1 ≡ child = omega arith in
    let behind : size_each (trees_of (drop (length kids - (j + 1)) kids)) ≡ size own.0 + size_each (trees_of (drop (length kids - j) kids)) = ap (λ xs. size_each (trees_of xs)) own.3 in
    (own.0, ap (tree_at arity ns) (sym same) ∙ own.1, omega (arith, own.2, behind), own.4)

-- there is room for one child more
pub room_before : {N : Type 0} (arity : N → ℕ) (ns : List N) (at : ℕ) (n : N) (kids : List (Tree N)) (j top : ℕ) → tree_at arity ns at ≡ Some (over n kids) → j < length kids → top + size_each (trees_of (drop (length kids - j) kids)) ≡ at → 1 ≤ top
room_before {N} arity ns at n kids j top e below is =
    let within = size_within arity ns at (over n kids) e in
    let own = nth_last (λ u k. tree_at arity ns k ≡ Some u) (first_number at (over n kids)) kids j top (has_own arity ns at (over n kids) e).0 below (omega arith) in
    omega (arith, own.2, size_above own.0)

pub none_behind : {N : Type 0} (kids : List (Tree N)) (j : ℕ) → j ≡ 0 → size_each (trees_of (drop (length kids - j) kids)) ≡ 0
none_behind kids j e = ap (λ xs. size_each (trees_of xs)) (drop_all (length kids - j) kids (omega arith))

pub behind_at : {N : Type 0} (kids : List (Tree N)) (i j : ℕ) → i ≡ j → size_each (trees_of (drop i kids)) ≡ size_each (trees_of (drop j kids))
behind_at kids i j e = ap (λ (k : ℕ). size_each (trees_of (drop k kids))) e

-- a node has one list of children
pub same_children : {N : Type 0} (arity : N → ℕ) (ns : List N) (at : ℕ) (n m : N) (kids others : List (Tree N)) → tree_at arity ns at ≡ Some (over n kids) → tree_at arity ns at ≡ Some (over m others) → length kids ≡ length others
same_children {N} arity ns at n m kids others e h =
    let same : over n kids ≡ over m others = cc in
    ap length (sym (list_of-trees_of kids) ∙ ap children_of same ∙ list_of-trees_of others)

-- the arena's invariant, of the nodes that contracts see
pub sound_of : {N : Type 0} (arity : N → ℕ) (slots : List (Slot N)) (ns : List N) → AreSound arity (slot_nodes slots) (slot_firsts slots) → slot_nodes slots ≡ ns → AreSound arity ns (slot_firsts slots)
sound_of {N} arity slots ns sound e = subst (λ (xs : List N). AreSound arity xs (slot_firsts slots)) e sound

-- one slot more at the end
pub nodes_of_push : {N : Type 0} (slots new : List (Slot N)) (s : Slot N) (ns : List N) → new ≡ slots ++ s ∷ [] → slot_nodes slots ≡ ns → slot_nodes new ≡ ns ++ s.node ∷ []
nodes_of_push {N} slots new s ns e is =
    ap slot_nodes e ∙ map_push (λ (r : Slot N). r.node) slots s ∙ ap (λ xs. xs ++ s.node ∷ []) is

pub sound_of_push : {N : Type 0} (arity : N → ℕ) (slots new : List (Slot N)) (s : Slot N) (ns : List N) → AreSound arity (slot_nodes slots) (slot_firsts slots) → new ≡ slots ++ s ∷ [] → slot_nodes slots ≡ ns → arity s.node ≤ length (trees arity ns) → s.first + size_each (trees_of (last_trees arity (trees arity ns) s.node)) ≡ length ns → AreSound arity (slot_nodes new) (slot_firsts new)
sound_of_push {N} arity slots new s ns sound e is enough first =
    let same : length (slot_firsts slots) ≡ length ns = length-map slots (λ (r : Slot N). r.first) ∙ length_slots slots ns is in
    let more = AreSound-push arity ns (slot_firsts slots) s.node s.first (sound_of arity slots ns sound is) same enough first in
    let nodes : ns ++ s.node ∷ [] ≡ slot_nodes new = sym (nodes_of_push slots new s ns e is) in
    let firsts : slot_firsts slots ++ s.first ∷ [] ≡ slot_firsts new = sym (ap slot_firsts e ∙ map_push (λ (r : Slot N). r.first) slots s) in
    subst (λ (xs : List ℕ). AreSound arity (slot_nodes new) xs) firsts (subst (λ (xs : List N). AreSound arity xs (slot_firsts slots ++ s.first ∷ [])) nodes more)
