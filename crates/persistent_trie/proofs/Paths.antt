-- Paths of new nodes behind others.
use Rattle.std.proofs.Common.{◌≡◌, ◌<◌, ◌≤◌, ◌+◌, ◌-◌, ◌/◌, ℕ, zero, suc, Bool, true, false, List, [], ◌∷◌, ◌++◌, length, refl, sym, ap, ◌∙◌, subst, arith, length-append, append-nil}
use Rattle.std.proofs.lemmas.List.{append_assoc, get_or_append_left}
use Rattle.persistent_trie.specs.Nodes.{node_at, side_of, forked, held_by, is_odd, AreLinked, path_of, value_at}
use Rattle.persistent_trie.specs.declared.node.Node.{Node}
use Rattle.persistent_trie.specs.declared.node.Node.TheVariants.{Empty, Leaf, Fork}

-- in the midst of a path: what is still to be put there
pub record Putting {V : Type 0} (old now : List (Node V)) (levels turn root at key rest : ℕ) (value : V) : Type 0 where
  pub within : at < length old
  pub grown : (path : List (Node V)) × (now ≡ old ++ path)
  pub rest_is : now ++ path_of old (levels - turn) at rest (length now) value ≡ old ++ path_of old levels root key (length old) value

module _ {V : Type 0} where
  side_linked : (nodes : List (Node V)) (at : ℕ) (bit : Bool) → AreLinked nodes → at < length nodes → (node : Node V) → node_at nodes at ≡ node → side_of node at bit < length nodes
  side_linked nodes at true linked within (Fork evens odds) is = (linked at evens odds is).1
  side_linked nodes at false linked within (Fork evens odds) is = (linked at evens odds is).0
  side_linked nodes at bit linked within Empty is = within
  side_linked nodes at bit linked within (Leaf value) is = within

  pub side_within : (nodes : List (Node V)) (at : ℕ) (bit : Bool) → AreLinked nodes → at < length nodes → side_of (node_at nodes at) at bit < length nodes
  side_within nodes at bit linked within = side_linked nodes at bit linked within (node_at nodes at) refl

  -- one level further down
  pub one_down : (nodes : List (Node V)) (levels turn at rest : ℕ) → turn < levels
      → value_at nodes (levels - (turn + 1)) (side_of (node_at nodes at) at (is_odd rest)) (rest / 2) ≡ value_at nodes (levels - turn) at rest
  one_down nodes levels turn at rest low =
      let e : levels - turn ≡ suc (levels - (turn + 1)) = omega (arith, low) in
      rw e refl

  -- ---- nodes that were there

  pub front : (old path : List (Node V)) (at : ℕ) → at < length old → node_at (old ++ path) at ≡ node_at old at
  front old path at within = get_or_append_left old path Empty at within

  -- what was said before is said again
  pub kept : (old path : List (Node V)) (levels at key : ℕ) → AreLinked old → at < length old → value_at (old ++ path) levels at key ≡ value_at old levels at key
  kept old path zero at key linked within = ap held_by (front old path at within)
  kept old path (suc levels) at key linked within =
      ap (λ node. value_at (old ++ path) levels (side_of node at (is_odd key)) (key / 2)) (front old path at within)
      ∙ kept old path levels (side_of (node_at old at) at (is_odd key)) (key / 2) linked (side_within old at (is_odd key) linked within)

  -- ---- a path

  pub put_starts : (old : List (Node V)) (levels root key : ℕ) (value : V) → root < length old → Putting old old levels 0 root root key key value
  put_starts old levels root key value within = record { within = within; grown = ([], sym (append-nil old)); rest_is = ap (λ n. old ++ path_of old n root key (length old) value) no_turn }
    where
      no_turn : levels - 0 ≡ levels
      no_turn = omega arith

  put_on : (old now later : List (Node V)) (levels turn root at key rest : ℕ) (value : V) → AreLinked old → Putting old now levels turn root at key rest value → turn < levels
      → later ≡ now ++ forked (node_at old at) at (is_odd rest) (suc (length now)) ∷ []
      → Putting old later levels (turn + 1) root (side_of (node_at old at) at (is_odd rest)) key (rest / 2) value
  put_on old now later levels turn root at key rest value linked is low more =
      let node = forked (node_at old at) at (is_odd rest) (suc (length now)) in
      let below = side_of (node_at old at) at (is_odd rest) in
      let left : levels - turn ≡ suc (levels - (turn + 1)) = omega (arith, low) in
      let long : length later ≡ suc (length now) = ap length more ∙ omega (arith, length-append now (node ∷ [])) in
      record {
        within = side_within old at (is_odd rest) linked is.within;
        grown = (is.grown.0 ++ node ∷ [], more ∙ ap (λ ns. ns ++ node ∷ []) is.grown.1 ∙ append_assoc old is.grown.0 (node ∷ []));
        rest_is = ap (λ ns. ns ++ path_of old (levels - (turn + 1)) below (rest / 2) (length later) value) more
            ∙ append_assoc now (node ∷ []) (path_of old (levels - (turn + 1)) below (rest / 2) (length later) value)
            ∙ ap (λ n. now ++ node ∷ path_of old (levels - (turn + 1)) below (rest / 2) n value) long
            ∙ ap (λ n. now ++ path_of old n at rest (length now) value) (sym left)
            ∙ is.rest_is;
      }

  pub node_was : (old now : List (Node V)) (levels turn root at key rest : ℕ) (value : V) → Putting old now levels turn root at key rest value → node_at now at ≡ node_at old at
  node_was old now levels turn root at key rest value is = ap (λ ns. node_at ns at) is.grown.1 ∙ front old is.grown.0 at is.within

  pub within_now : (old now : List (Node V)) (levels turn root at key rest : ℕ) (value : V) → Putting old now levels turn root at key rest value → at < length now
  within_now old now levels turn root at key rest value is = omega (arith, is.within, ap length is.grown.1, length-append old is.grown.0)

  pub put_further : (old now later : List (Node V)) (levels turn root at key rest next below : ℕ) (node : Node V) (value : V) → AreLinked old → Putting old now levels turn root at key rest value → turn < levels
      → next ≡ length now + 1 → node ≡ forked (node_at now at) at (is_odd rest) next → below ≡ side_of (node_at now at) at (is_odd rest) → later ≡ now ++ node ∷ []
      → Putting old later levels (turn + 1) root below key (rest / 2) value
  put_further old now later levels turn root at key rest next below node value linked is low next_is node_is below_is more =
      let was = node_was old now levels turn root at key rest value is in
      let one_more : next ≡ suc (length now) = next_is ∙ omega arith in
      subst (λ b. Putting old later levels (turn + 1) root b key (rest / 2) value) (sym (below_is ∙ ap (λ n. side_of n at (is_odd rest)) was))
      (put_on old now later levels turn root at key rest value linked is low
      (more ∙ ap (λ n. now ++ n ∷ []) (node_is ∙ ap (λ n. forked n at (is_odd rest) next) was ∙ ap (forked (node_at old at) at (is_odd rest)) one_more)))

  pub put_ends : (old now later : List (Node V)) (levels turn root at key rest : ℕ) (value : V) → Putting old now levels turn root at key rest value → levels ≤ turn
      → later ≡ now ++ Leaf value ∷ [] → later ≡ old ++ path_of old levels root key (length old) value
  put_ends old now later levels turn root at key rest value is end more =
      let none : levels - turn ≡ 0 = omega (arith, end) in
      more ∙ ap (λ n. now ++ path_of old n at rest (length now) value) (sym none) ∙ is.rest_is
