-- Finite maps of lists whose keys rise: an entry put in at its gap, one that takes the place of another of its key, and one taken out.
use Rattle.std.proofs.Common.{◌≡◌, ◌⊎◌, inl, inr, ℕ, zero, suc, ◌+◌, ◌<◌, ◌≤◌, Bool, true, false, cond, T, List, [], ◌∷◌, ◌++◌, map, take, drop, set, Option, Some, None, length, slice_get, refl, sym, ap, ◌∙◌, subst, arith}
use Rattle.std.specs.List.{insert, remove}
use Rattle.std.specs.Option.{option_map}
use Rattle.std.specs.Ordering.{is_eq, eq_by_cmp}
use Rattle.std.specs.declared.cmp.Ordering.{Ordering}
use Rattle.std.specs.declared.cmp.Ordering.TheVariants.{Less, Equal, Greater}
use Rattle.std.specs.FinMap as finite
use Rattle.std.specs.FinMap.{from_entries, get, get-from_entries, get-insert, get-remove, same_map, find, slice_cmp-IsAntisymmetric, nat_cmp-IsAntisymmetric}
use Rattle.std.specs.Cmp.{tied_itself}
use Rattle.std.proofs.lemmas.Cmp.{nat_list_cmp_total}
use Rattle.dj_names.specs.Texts.{Text}
use Rattle.dj_calculus.specs.Maps.{TextMap, text_cmp}
use Rattle.ifj_table.specs.Sorted.{AreRising, IsGap}

-- ---- texts in order

abbrev ties : Text → Text → Bool
ties q k = eq_by_cmp text_cmp q k

pub tied_same : (q k : Text) → ties q k ≡ true → q ≡ k
tied_same q k e = by (text_cmp q k) refl e
  where
    by : (o : Ordering) → text_cmp q k ≡ o → is_eq o ≡ true → q ≡ k
    by Less is e = absurd cc
    by Equal is e = slice_cmp-IsAntisymmetric nat_cmp-IsAntisymmetric q k is
    by Greater is e = absurd cc

itself : (k : Text) → text_cmp k k ≡ Equal
itself k = tied_itself nat_list_cmp_total k

ties_itself : (k : Text) → ties k k ≡ true
ties_itself k = ap is_eq (itself k)

-- a text isn't less than itself
pub not_less_itself : {G : Type 0} (k : Text) → text_cmp k k ≡ Less → G
not_less_itself k e = let same = itself k in absurd cc

less_apart : {G : Type 0} (x y : Text) → text_cmp x y ≡ Less → x ≡ y → G
less_apart x y less same = not_less_itself y (subst (λ z. text_cmp z y ≡ Less) same less)

one_up : {i n : ℕ} → (i < n) ⊎ (n ≤ i) → (suc i < suc n) ⊎ (suc n ≤ suc i)
one_up (inl low) = inl (omega arith)
one_up (inr high) = inr (omega arith)

either_side : (i n : ℕ) → (i < n) ⊎ (n ≤ i)
either_side i zero = inr (omega arith)
either_side zero (suc n) = inl (omega arith)
either_side (suc i) (suc n) = one_up (either_side i n)

-- a text that has a gap isn't in the list
pub gap_excludes : {G : Type 0} (keys : List Text) (k : Text) (at i : ℕ) → IsGap keys k at → slice_get keys i ≡ Some k → G
gap_excludes {G = G} keys k at i gap here = by (either_side i at)
  where
    by : (i < at) ⊎ (at ≤ i) → G
    by (inl low) = not_less_itself k (gap.before i k low here)
    by (inr high) = not_less_itself k (gap.behind i k high here)

-- ---- look-ups in lists

shadowed : {A : Type 0} (b : Bool) (x y z : A) → cond b x z ≡ cond b x (cond b y z)
shadowed true x y z = refl
shadowed false x y z = refl

swapped : {A : Type 0} (a b : Bool) (x y z : A) → (a ≡ true → b ≡ true → ⊥) → cond a x (cond b y z) ≡ cond b y (cond a x z)
swapped true true x y z apart = absurd (apart refl refl)
swapped true false x y z apart = refl
swapped false b x y z apart = refl

module _ {X : Type 0} where
  abbrev keys_of : List (Text × X) → List Text
  keys_of es = map (λ (e : Text × X). e.0) es

  abbrev look : Text → List (Text × X) → Option X
  look q es = find text_cmp q es

  head_key : (e : Text × X) (es : List (Text × X)) (k : Text) (o : Option X) → look k (e ∷ es) ≡ None → ties k e.0 ≡ true → ⊥
  head_key e es k o none is = absurd (no_value (ties k e.0) is none)
    where
      no_value : (b : Bool) → b ≡ true → cond b (Some e.1) (look k es) ≡ None → ⊥
      no_value true is none = absurd cc
      no_value false is none = absurd cc

  later_none : (e : Text × X) (es : List (Text × X)) (k : Text) → look k (e ∷ es) ≡ None → look k es ≡ None
  later_none e es k none = by (ties k e.0) none
    where
      by : (b : Bool) → cond b (Some e.1) (look k es) ≡ None → look k es ≡ None
      by true none = absurd cc
      by false none = none

  -- nothing is found where no key is the one asked for
  none_found : (k : Text) (es : List (Text × X)) → ((i : ℕ) (e : Text × X) → slice_get es i ≡ Some e → k ≡ e.0 → ⊥) → look k es ≡ None
  none_found k [] apart = refl
  none_found k (e ∷ es) apart = by (ties k e.0) refl (none_found k es (λ i. apart (suc i)))
    where
      by : (b : Bool) → ties k e.0 ≡ b → look k es ≡ None → cond b (Some e.1) (look k es) ≡ None
      by true is rest = absurd (apart 0 e refl (tied_same k e.0 is))
      by false is rest = rest

  -- what is found stands somewhere
  pub found_at : (k : Text) (es : List (Text × X)) (x : X) → look k es ≡ Some x → (i : ℕ) × (slice_get es i ≡ Some (k, x))
  found_at k [] x e = absurd cc
  found_at k (p ∷ es) x e = by (ties k p.0) refl e (found_at k es x)
    where
      by : (b : Bool) → ties k p.0 ≡ b → cond b (Some p.1) (look k es) ≡ Some x → (look k es ≡ Some x → (i : ℕ) × (slice_get es i ≡ Some (k, x))) → (i : ℕ) × (slice_get (p ∷ es) i ≡ Some (k, x))
      by true is e rest =
          let value : p.1 ≡ x = cc in
          (0, ap (λ (t : Text). Some (t, p.1)) (sym (tied_same k p.0 is)) ∙ ap (λ (y : X). Some (k, y)) value)
      by false is e rest = let later = rest e in (suc later.0, later.1)

  key_at : (es : List (Text × X)) (i : ℕ) (e : Text × X) → slice_get es i ≡ Some e → slice_get (keys_of es) i ≡ Some e.0
  key_at [] i e at = absurd cc
  key_at (p ∷ es) zero e at = let same : p ≡ e = cc in ap (λ (q : Text × X). Some q.0) same
  key_at (p ∷ es) (suc i) e at = key_at es i e at

  later_rising : (e : Text × X) (es : List (Text × X)) → AreRising (keys_of (e ∷ es)) → AreRising (keys_of es)
  later_rising e es rising i j x y low at_i at_j = rising (suc i) (suc j) x y (omega arith) at_i at_j

  head_less : (e : Text × X) (es : List (Text × X)) (i : ℕ) (p : Text × X) → AreRising (keys_of (e ∷ es)) → slice_get es i ≡ Some p → text_cmp e.0 p.0 ≡ Less
  head_less e es i p rising at = rising 0 (suc i) e.0 p.0 (omega arith) refl (key_at es i p at)

  -- ---- at a place

  pub look_at : (es : List (Text × X)) (at : ℕ) (k : Text) (x : X) → AreRising (keys_of es) → slice_get es at ≡ Some (k, x) → look k es ≡ Some x
  look_at [] at k x rising here = absurd cc
  look_at (e ∷ es) zero k x rising here =
      let same : e ≡ (k, x) = cc in
      subst (λ (p : Text × X). cond (ties k p.0) (Some p.1) (look k es) ≡ Some x) (sym same) (ap (λ b. cond b (Some x) (look k es)) (ties_itself k))
  look_at (e ∷ es) (suc n) k x rising here = by (ties k e.0) refl (look_at es n k x (later_rising e es rising) here)
    where
      by : (b : Bool) → ties k e.0 ≡ b → look k es ≡ Some x → cond b (Some e.1) (look k es) ≡ Some x
      by true is rest = less_apart e.0 k (head_less e es n (k, x) rising here) (sym (tied_same k e.0 is))
      by false is rest = rest

  -- ---- at a gap

  pub look_in_gap : (es : List (Text × X)) (k : Text) (at : ℕ) → IsGap (keys_of es) k at → look k es ≡ None
  look_in_gap es k at gap = none_found k es (λ i e here same. by i e here same (either_side i at))
    where
      by : (i : ℕ) (e : Text × X) → slice_get es i ≡ Some e → k ≡ e.0 → (i < at) ⊎ (at ≤ i) → ⊥
      by i e here same (inl low) = less_apart e.0 k (gap.before i e.0 low (key_at es i e here)) (sym same)
      by i e here same (inr high) = less_apart k e.0 (gap.behind i e.0 high (key_at es i e here)) same

  -- ---- changes

  look_inserted : (es : List (Text × X)) (at : ℕ) (k q : Text) (v : X) → look k es ≡ None → look q (insert es at (k, v)) ≡ cond (ties q k) (Some v) (look q es)
  look_inserted es zero k q v none = refl
  look_inserted [] (suc n) k q v none = refl
  look_inserted (e ∷ es) (suc n) k q v none =
      ap (λ rest. cond (ties q e.0) (Some e.1) rest) (look_inserted es n k q v (later_none e es k none))
      ∙ swapped (ties q e.0) (ties q k) (Some e.1) (Some v) (look q es)
      (λ first second. head_key e es k None none (subst (λ t. ties t e.0 ≡ true) (tied_same q k second) first))

  look_set : (es : List (Text × X)) (at : ℕ) (k q : Text) (x v : X) → AreRising (keys_of es) → slice_get es at ≡ Some (k, x) → look q (set es at (k, v)) ≡ cond (ties q k) (Some v) (look q es)
  look_set [] at k q x v rising here = absurd cc
  look_set (e ∷ es) zero k q x v rising here =
      let same : e.0 ≡ k = ap (λ (p : Text × X). p.0) (is_the e (k, x) here) in
      shadowed (ties q k) (Some v) (Some e.1) (look q es) ∙ ap (λ t. cond (ties q k) (Some v) (cond (ties q t) (Some e.1) (look q es))) (sym same)
    where
      is_the : (a b : Text × X) → Some a ≡ Some b → a ≡ b
      is_the a b is = cc
  look_set (e ∷ es) (suc n) k q x v rising here =
      ap (λ rest. cond (ties q e.0) (Some e.1) rest) (look_set es n k q x v (later_rising e es rising) here)
      ∙ swapped (ties q e.0) (ties q k) (Some e.1) (Some v) (look q es)
      (λ first second. less_apart e.0 k (head_less e es n (k, x) rising here) (sym (tied_same q e.0 first) ∙ tied_same q k second))

  look_removed : (es : List (Text × X)) (at : ℕ) (k q : Text) (x : X) → AreRising (keys_of es) → slice_get es at ≡ Some (k, x) → look q (remove es at) ≡ cond (ties q k) None (look q es)
  look_removed [] at k q x rising here = absurd cc
  look_removed (e ∷ es) zero k q x rising here =
      let same : e.0 ≡ k = ap (λ (p : Text × X). p.0) (is_the e (k, x) here) in
      by (ties q k) refl same
    where
      is_the : (a b : Text × X) → Some a ≡ Some b → a ≡ b
      is_the a b is = cc

      by : (b : Bool) → ties q k ≡ b → e.0 ≡ k → look q es ≡ cond b None (cond (ties q e.0) (Some e.1) (look q es))
      by true is same =
          none_found q es (λ i p there equal. less_apart e.0 p.0 (head_less e es i p rising there) (same ∙ sym (tied_same q k is) ∙ equal))
      by false is same = ap (λ b. cond b (Some e.1) (look q es)) (sym (ap (ties q) same ∙ is))
  look_removed (e ∷ es) (suc n) k q x rising here =
      ap (λ rest. cond (ties q e.0) (Some e.1) rest) (look_removed es n k q x (later_rising e es rising) here)
      ∙ swapped (ties q e.0) (ties q k) (Some e.1) None (look q es)
      (λ first second. less_apart e.0 k (head_less e es n (k, x) rising here) (sym (tied_same q e.0 first) ∙ tied_same q k second))

  -- ---- as maps

  look_map : (es : List (Text × X)) (q : Text) → get (from_entries {R = text_cmp} es) q ≡ look q es
  look_map es q = get-from_entries nat_list_cmp_total es q

  same_texts : (m n : TextMap X) → ((q : Text) → get m q ≡ get n q) → m ≡ n
  same_texts m n is = same_map nat_list_cmp_total (slice_cmp-IsAntisymmetric nat_cmp-IsAntisymmetric) m n is

  pub get_at : (es : List (Text × X)) (at : ℕ) (k : Text) (x : X) → AreRising (keys_of es) → slice_get es at ≡ Some (k, x) → get (from_entries {R = text_cmp} es) k ≡ Some x
  get_at es at k x rising here = look_map es k ∙ look_at es at k x rising here

  pub get_in_gap : (es : List (Text × X)) (k : Text) (at : ℕ) → IsGap (keys_of es) k at → get (from_entries {R = text_cmp} es) k ≡ None
  get_in_gap es k at gap = look_map es k ∙ look_in_gap es k at gap

  pub map_inserted : (es : List (Text × X)) (at : ℕ) (k : Text) (v : X) → get (from_entries {R = text_cmp} es) k ≡ None
      → from_entries {R = text_cmp} (insert es at (k, v)) ≡ finite.insert (from_entries es) k v
  map_inserted es at k v none =
      same_texts (from_entries (insert es at (k, v))) (finite.insert (from_entries es) k v)
      (λ q. look_map (insert es at (k, v)) q ∙ look_inserted es at k q v (sym (look_map es k) ∙ none)
      ∙ sym (get-insert nat_list_cmp_total (from_entries es) k v q ∙ ap (λ o. cond (ties q k) (Some v) o) (look_map es q)))

  pub map_set : (es : List (Text × X)) (at : ℕ) (k : Text) (x v : X) → AreRising (keys_of es) → slice_get es at ≡ Some (k, x)
      → from_entries {R = text_cmp} (set es at (k, v)) ≡ finite.insert (from_entries es) k v
  map_set es at k x v rising here =
      same_texts (from_entries (set es at (k, v))) (finite.insert (from_entries es) k v)
      (λ q. look_map (set es at (k, v)) q ∙ look_set es at k q x v rising here
      ∙ sym (get-insert nat_list_cmp_total (from_entries es) k v q ∙ ap (λ o. cond (ties q k) (Some v) o) (look_map es q)))

  pub map_removed : (es : List (Text × X)) (at : ℕ) (k : Text) (x : X) → AreRising (keys_of es) → slice_get es at ≡ Some (k, x)
      → from_entries {R = text_cmp} (remove es at) ≡ finite.remove (from_entries es) k
  map_removed es at k x rising here =
      same_texts (from_entries (remove es at)) (finite.remove (from_entries es) k)
      (λ q. look_map (remove es at) q ∙ look_removed es at k q x rising here
      ∙ sym (get-remove nat_list_cmp_total (from_entries es) k q ∙ ap (λ o. cond (ties q k) None o) (look_map es q)))

-- ---- keys that rise

in_inserted : (keys : List Text) (at : ℕ) (k y : Text) (j : ℕ) → slice_get (insert keys at k) j ≡ Some y → (y ≡ k) ⊎ ((i : ℕ) × (slice_get keys i ≡ Some y))
in_inserted keys zero k y zero e = inl cc
in_inserted keys zero k y (suc j) e = inr (j, e)
in_inserted [] (suc n) k y zero e = inl cc
in_inserted [] (suc n) k y (suc j) e = absurd cc
in_inserted (x ∷ keys) (suc n) k y zero e = inr (0, e)
in_inserted (x ∷ keys) (suc n) k y (suc j) e = more (in_inserted keys n k y j e)
  where
    more : (y ≡ k) ⊎ ((i : ℕ) × (slice_get keys i ≡ Some y)) → (y ≡ k) ⊎ ((i : ℕ) × (slice_get (x ∷ keys) i ≡ Some y))
    more (inl same) = inl same
    more (inr (i, at)) = inr (suc i, at)

in_removed : (keys : List Text) (at : ℕ) (y : Text) (j : ℕ) → slice_get (remove keys at) j ≡ Some y → (i : ℕ) × (slice_get keys i ≡ Some y)
in_removed [] zero y j e = absurd cc
in_removed [] (suc n) y j e = absurd cc
in_removed (x ∷ keys) zero y j e = (suc j, e)
in_removed (x ∷ keys) (suc n) y zero e = (0, e)
in_removed (x ∷ keys) (suc n) y (suc j) e = let there = in_removed keys n y j e in (suc there.0, there.1)

rising_cons : (x : Text) (keys : List Text) → ((j : ℕ) (y : Text) → slice_get keys j ≡ Some y → text_cmp x y ≡ Less) → AreRising keys → AreRising (x ∷ keys)
rising_cons x keys first rest i zero a b low at_i at_j = absurd (omega arith)
rising_cons x keys first rest zero (suc j) a b low at_i at_j = let same : x ≡ a = cc in subst (λ z. text_cmp z b ≡ Less) same (first j b at_j)
rising_cons x keys first rest (suc i) (suc j) a b low at_i at_j = rest i j a b (omega arith) at_i at_j

pub rising_none : AreRising []
rising_none i j x y low at_i at_j = absurd cc

pub rising_inserted : (keys : List Text) (at : ℕ) (k : Text) → AreRising keys → IsGap keys k at → AreRising (insert keys at k)
rising_inserted keys zero k rising gap = rising_cons k keys (λ j y at_j. gap.behind j y (omega arith) at_j) rising
rising_inserted [] (suc n) k rising gap = rising_cons k [] (λ j y at_j. absurd cc) rising_none
rising_inserted (x ∷ keys) (suc n) k rising gap =
    rising_cons x (insert keys n k) (λ j y at_j. by y (in_inserted keys n k y j at_j))
    (rising_inserted keys n k (λ i j a b low at_i at_j. rising (suc i) (suc j) a b (omega arith) at_i at_j)
    (record {
      within = omega (arith, gap.within);
      before = λ i a low at_i. gap.before (suc i) a (omega arith) at_i;
      behind = λ i a high at_i. gap.behind (suc i) a (omega arith) at_i;
    }))
  where
    by : (y : Text) → (y ≡ k) ⊎ ((i : ℕ) × (slice_get keys i ≡ Some y)) → text_cmp x y ≡ Less
    by y (inl same) = subst (λ z. text_cmp x z ≡ Less) (sym same) (gap.before 0 x (omega arith) refl)
    by y (inr (i, at)) = rising 0 (suc i) x y (omega arith) refl at

pub rising_removed : (keys : List Text) (at : ℕ) → AreRising keys → AreRising (remove keys at)
rising_removed [] zero rising = rising_none
rising_removed [] (suc n) rising = rising_none
rising_removed (x ∷ keys) zero rising = λ i j a b low at_i at_j. rising (suc i) (suc j) a b (omega arith) at_i at_j
rising_removed (x ∷ keys) (suc n) rising =
    rising_cons x (remove keys n) (λ j y at_j. let there = in_removed keys n y j at_j in rising 0 (suc there.0) x y (omega arith) refl there.1)
    (rising_removed keys n (λ i j a b low at_i at_j. rising (suc i) (suc j) a b (omega arith) at_i at_j))
