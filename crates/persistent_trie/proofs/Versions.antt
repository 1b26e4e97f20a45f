-- What a trie says with a path put behind its nodes.
use Rattle.std.proofs.Common.{◌≡◌, ◌⊎◌, inl, inr, ◌==◌, ◌<◌, ◌≤◌, ◌+◌, ◌-◌, ◌*◌, ◌^◌, ◌/◌, ℕ, zero, suc, Bool, true, false, not, List, [], ◌∷◌, ◌++◌, length, Some, None, refl, sym, ap, ◌∙◌, subst, arith, length-append}
use Rattle.std.specs.Bool.{if◌then◌else◌}
use Rattle.std.proofs.Math.Seq.{get_or-append_seam}
use Rattle.std.proofs.lemmas.List.{append_assoc, get_or-append-add}
use Rattle.persistent_trie.specs.Nodes.{node_at, side_of, forked, held_by, is_odd, AreLinked, path_of, value_at}
use Rattle.persistent_trie.specs.declared.node.Node.{Node}
use Rattle.persistent_trie.specs.declared.node.Node.TheVariants.{Empty, Leaf, Fork}
use Rattle.persistent_trie.specs.Versions.{StartsEmpty, IsVersion, says, Keeps}
use Rattle.persistent_trie.specs.declared.trie.Root.{Root}
use Rattle.persistent_trie.proofs.Paths.{side_within, kept, front}

-- ---- keys by their bits

same_key : (k key : ℕ) → is_odd k ≡ is_odd key → (k / 2 == key / 2) ≡ (k == key)
same_key k key same = grind arith

other_key : (k key : ℕ) (b : Bool) → is_odd k ≡ b → is_odd key ≡ not b → (k == key) ≡ false
other_key k key true one other = grind arith
other_key k key false one other = grind arith

halved : (key levels : ℕ) → key < 2 ^ suc levels → key / 2 < 2 ^ levels
halved key levels low = omega (arith, low, double levels)
  where
    double : (n : ℕ) → 2 ^ suc n ≡ 2 * 2 ^ n
    double n = grind arith

in_or_out : (i n : ℕ) → (i < n) ⊎ (n ≤ i)
in_or_out i n = grind arith

before_or_behind : (i n : ℕ) → (i < n) ⊎ ((j : ℕ) × (i ≡ n + j))
before_or_behind i n = by (in_or_out i n)
  where
    by : (i < n) ⊎ (n ≤ i) → (i < n) ⊎ ((j : ℕ) × (i ≡ n + j))
    by (inl low) = inl low
    by (inr high) = inr (i - n, omega (arith, high))

module _ {V : Type 0} where
  side_new : (node : Node V) (at up next : ℕ) (b : Bool) → side_of (forked node at b next) up b ≡ next
  side_new node at up next true = refl
  side_new node at up next false = refl

  side_old : (node : Node V) (at up next : ℕ) (b : Bool) → side_of (forked node at b next) up (not b) ≡ side_of node at (not b)
  side_old node at up next true = refl
  side_old node at up next false = refl

  -- ---- one key has another value

  pub changed : (old more all before : List (Node V)) (levels at key : ℕ) (value : V) → AreLinked old → at < length old → all ≡ old ++ more
      → all ≡ before ++ path_of old levels at key (length before) value → (k : ℕ) → key < 2 ^ levels → k < 2 ^ levels
      → value_at all levels (length before) k ≡ (if k == key then Some value else value_at old levels at k)
  changed old more all before zero at key value linked within grown is k low lower =
      let here : node_at all (length before) ≡ Leaf value = ap (λ ns. node_at ns (length before)) is ∙ get_or-append_seam before (Leaf value) [] Empty in
      let none : key ≡ 0 = omega (arith, low) in
      let none_too : k ≡ 0 = omega (arith, lower) in
      ap held_by here ∙ rw (none, none_too) refl
  changed old more all before (suc levels) at key value linked within grown is k low lower =
      by (λ front below half there behind j small smaller. changed old more all front levels below half value linked there grown behind j small smaller) (is_odd key) (is_odd k) refl refl
    where
      here : (b : Bool) → is_odd key ≡ b → node_at all (length before) ≡ forked (node_at old at) at b (suc (length before))
      here b is_b = ap (λ ns. node_at ns (length before)) is ∙ get_or-append_seam before (forked (node_at old at) at (is_odd key) (suc (length before)))
          (path_of old levels (side_of (node_at old at) at (is_odd key)) (key / 2) (suc (length before)) value) Empty ∙ ap (λ c. forked (node_at old at) at c (suc (length before))) is_b

      -- the key's own side
      on_path : ((front : List (Node V)) (below half : ℕ) → below < length old → all ≡ front ++ path_of old levels below half (length front) value → (j : ℕ) → half < 2 ^ levels → j < 2 ^ levels
          → value_at all levels (length front) j ≡ (if j == half then Some value else value_at old levels below j))
          → (b : Bool) → is_odd key ≡ b → is_odd k ≡ b
          → value_at all levels (suc (length before)) (k / 2) ≡ (if k / 2 == key / 2 then Some value else value_at old levels (side_of (node_at old at) at b) (k / 2))
      on_path deeper b is_b is_k =
          let x = forked (node_at old at) at (is_odd key) (suc (length before)) in
          let below = side_of (node_at old at) at (is_odd key) in
          let long : length (before ++ x ∷ []) ≡ suc (length before) = omega (arith, length-append before (x ∷ [])) in
          let behind : all ≡ (before ++ x ∷ []) ++ path_of old levels below (key / 2) (length (before ++ x ∷ [])) value =
          is ∙ sym (append_assoc before (x ∷ []) (path_of old levels below (key / 2) (suc (length before)) value)) ∙ ap (λ n. (before ++ x ∷ []) ++ path_of old levels below (key / 2) n value) (sym long) in
          ap (λ n. value_at all levels n (k / 2)) (sym long)
          ∙ deeper (before ++ x ∷ []) below (key / 2) (side_within old at (is_odd key) linked within) behind (k / 2) (halved key levels low) (halved k levels lower)
          ∙ ap (λ c. if k / 2 == key / 2 then Some value else value_at old levels (side_of (node_at old at) at c) (k / 2)) is_b

      -- the other side
      beside : (b : Bool) → value_at all levels (side_of (node_at old at) at b) (k / 2) ≡ value_at old levels (side_of (node_at old at) at b) (k / 2)
      beside b = ap (λ ns. value_at ns levels (side_of (node_at old at) at b) (k / 2)) grown ∙ kept old more levels (side_of (node_at old at) at b) (k / 2) linked (side_within old at b linked within)

      down : (b c : Bool) → is_odd key ≡ b → is_odd k ≡ c → side_of (node_at all (length before)) (length before) (is_odd k) ≡ side_of (forked (node_at old at) at b (suc (length before))) (length before) c
      down b c is_b is_c = ap (λ x. side_of x (length before) (is_odd k)) (here b is_b) ∙ ap (side_of (forked (node_at old at) at b (suc (length before))) (length before)) is_c

      joined : ((front : List (Node V)) (below half : ℕ) → below < length old → all ≡ front ++ path_of old levels below half (length front) value → (j : ℕ) → half < 2 ^ levels → j < 2 ^ levels
          → value_at all levels (length front) j ≡ (if j == half then Some value else value_at old levels below j))
          → (b c : Bool) → is_odd key ≡ b → is_odd k ≡ c → value_at all levels (side_of (forked (node_at old at) at b (suc (length before))) (length before) c) (k / 2)
          ≡ (if k == key then Some value else value_at old levels (side_of (node_at old at) at c) (k / 2))
      joined deeper true true is_b is_c = on_path deeper true is_b is_c ∙ ap (λ t. if t then Some value else value_at old levels (side_of (node_at old at) at true) (k / 2)) (same_key k key (is_c ∙ sym is_b))
      joined deeper false false is_b is_c = on_path deeper false is_b is_c ∙ ap (λ t. if t then Some value else value_at old levels (side_of (node_at old at) at false) (k / 2)) (same_key k key (is_c ∙ sym is_b))
      joined deeper true false is_b is_c = beside false ∙ ap (λ t. if t then Some value else value_at old levels (side_of (node_at old at) at false) (k / 2)) (sym (other_key k key false is_c is_b))
      joined deeper false true is_b is_c = beside true ∙ ap (λ t. if t then Some value else value_at old levels (side_of (node_at old at) at true) (k / 2)) (sym (other_key k key true is_c is_b))

      by : ((front : List (Node V)) (below half : ℕ) → below < length old → all ≡ front ++ path_of old levels below half (length front) value → (j : ℕ) → half < 2 ^ levels → j < 2 ^ levels
          → value_at all levels (length front) j ≡ (if j == half then Some value else value_at old levels below j))
          → (b c : Bool) → is_odd key ≡ b → is_odd k ≡ c
          → value_at all (suc levels) (length before) k ≡ (if k == key then Some value else value_at old (suc levels) at k)
      by deeper b c is_b is_c =
          ap (λ n. value_at all levels n (k / 2)) (down b c is_b is_c) ∙ joined deeper b c is_b is_c
          ∙ ap (λ d. if k == key then Some value else value_at old levels (side_of (node_at old at) at d) (k / 2)) (sym is_c)

  -- ---- the new nodes are linked

  some_path : (old : List (Node V)) (levels at key next : ℕ) (value : V) → 0 < length (path_of old levels at key next value)
  some_path old zero at key next value = omega arith
  some_path old (suc levels) at key next value = omega arith

  fork_linked : (old : List (Node V)) (at next : ℕ) (b : Bool) → AreLinked old → at < length old → length old ≤ next → (evens odds : ℕ) → forked (node_at old at) at b (suc next) ≡ Fork evens odds
      → (evens < suc (suc next)) × (odds < suc (suc next))
  fork_linked old at next true linked within long evens odds is =
      let one : side_of (node_at old at) at false ≡ evens = cc in
      let other : suc next ≡ odds = cc in
      (omega (arith, side_within old at false linked within, one, long), omega (arith, other))
  fork_linked old at next false linked within long evens odds is =
      let one : suc next ≡ evens = cc in
      let other : side_of (node_at old at) at true ≡ odds = cc in
      (omega (arith, one), omega (arith, side_within old at true linked within, other, long))

  path_linked : (old : List (Node V)) (levels at key next : ℕ) (value : V) → AreLinked old → at < length old → length old ≤ next → (i evens odds : ℕ)
      → node_at (path_of old levels at key next value) i ≡ Fork evens odds
      → (evens < next + length (path_of old levels at key next value)) × (odds < next + length (path_of old levels at key next value))
  path_linked old zero at key next value linked within long zero evens odds is = absurd cc
  path_linked old zero at key next value linked within long (suc i) evens odds is = absurd cc
  path_linked old (suc levels) at key next value linked within long zero evens odds is =
      let it = fork_linked old at next (is_odd key) linked within long evens odds is in
      let some = some_path old levels (side_of (node_at old at) at (is_odd key)) (key / 2) (suc next) value in
      (omega (arith, it.0, some), omega (arith, it.1, some))
  path_linked old (suc levels) at key next value linked within long (suc i) evens odds is =
      let it = path_linked old levels (side_of (node_at old at) at (is_odd key)) (key / 2) (suc next) value linked (side_within old at (is_odd key) linked within) (omega (arith, long)) i evens odds is in
      (omega (arith, it.0), omega (arith, it.1))

  pub linked_later : (old : List (Node V)) (levels at key : ℕ) (value : V) → AreLinked old → at < length old → AreLinked (old ++ path_of old levels at key (length old) value)
  linked_later old levels at key value linked within i evens odds is = by (before_or_behind i (length old))
    where
      path : List (Node V)
      path = path_of old levels at key (length old) value

      by : (i < length old) ⊎ ((j : ℕ) × (i ≡ length old + j))
          → (evens < length (old ++ path_of old levels at key (length old) value)) × (odds < length (old ++ path_of old levels at key (length old) value))
      by (inl low) =
          let it = linked i evens odds (sym (front old (path_of old levels at key (length old) value) i low) ∙ is) in
          let long = length-append old (path_of old levels at key (length old) value) in
          (omega (arith, it.0, long), omega (arith, it.1, long))
      by (inr (j, same)) =
          let it = path_linked old levels at key (length old) value linked within (omega arith) j evens odds
          (sym (get_or-append-add old (path_of old levels at key (length old) value) j Empty) ∙ ap (λ n. node_at (old ++ path_of old levels at key (length old) value) n) (sym same) ∙ is) in
          let long = length-append old (path_of old levels at key (length old) value) in
          (omega (arith, it.0, long), omega (arith, it.1, long))

  -- ---- nothing

  pub nothing : (nodes : List (Node V)) (levels at key : ℕ) → node_at nodes at ≡ Empty → value_at nodes levels at key ≡ None
  nothing nodes zero at key is = ap held_by is
  nothing nodes (suc levels) at key is = ap (λ node. value_at nodes levels (side_of node at (is_odd key)) (key / 2)) is ∙ nothing nodes levels at (key / 2) is

  -- ---- a version more

  pub says_nothing : (nodes : List (Node V)) → StartsEmpty nodes → (key : ℕ) → says nodes record { 0 = 0 } key ≡ None
  unfolding says
  says_nothing nodes starts key = nothing nodes 32 0 key starts.1

  pub said : (nodes : List (Node V)) (root : Root) (key : ℕ) → value_at nodes 32 root.0 key ≡ says nodes root key
  unfolding says
  said nodes root key = refl

  module _ (old later : List (Node V)) (root : Root) (key : ℕ) (value : V) (linked : AreLinked old) (version : IsVersion old root) (is : later ≡ old ++ path_of old 32 root.0 key (length old) value) where
    pub put_linked : StartsEmpty old → AreLinked later × StartsEmpty later
    put_linked starts =
        let path = path_of old 32 root.0 key (length old) value in (
          subst AreLinked (sym is) (linked_later old 32 root.0 key value linked version),
          (
            omega (arith, starts.0, ap length is, length-append old path),
            ap (λ ns. node_at ns 0) is ∙ front old path 0 starts.0 ∙ starts.1,
          ),
        )

    pub put_version : length old < length later
    put_version = omega (arith, ap length is, length-append old (path_of old 32 root.0 key (length old) value), some_path old 32 root.0 key (length old) value)

    pub put_says : key < 2 ^ 32 → (k : ℕ) → k < 2 ^ 32 → says later record { 0 = length old } k ≡ (if k == key then Some value else says old root k)
    unfolding says
    put_says low k lower = changed old (path_of old 32 root.0 key (length old) value) later old 32 root.0 key value linked version is is k low lower

    pub put_keeps : Keeps old later
    unfolding says
    put_keeps =
        let path = path_of old 32 root.0 key (length old) value in
        record {
          there = λ r there. omega (arith, there, ap length is, length-append old path);
          same = λ r there k. ap (λ ns. value_at ns 32 r.0 k) is ∙ kept old path 32 r.0 k linked there;
        }
