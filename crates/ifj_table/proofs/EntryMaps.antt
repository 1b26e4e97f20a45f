-- The map of a list of entries, by its keys and by what each entry says: look-ups, and entries that are put in, changed and taken out.
use Rattle.std.proofs.Common.{◌≡◌, ◌⊎◌, inl, inr, ℕ, zero, suc, ◌+◌, ◌<◌, ◌≤◌, List, [], ◌∷◌, ◌++◌, map, take, drop, set, Option, Some, None, length, slice_get, get_or, refl, sym, ap, ap₂, ◌∙◌, subst, arith, drop-cons}
use Rattle.std.specs.Prelude.{All, IsSome, is_some}
use Rattle.std.specs.List.{insert, remove}
use Rattle.std.specs.Option.{option_map}
use Rattle.std.specs.FinMap as finite
use Rattle.std.specs.FinMap.{from_entries, get, get-from_entries, find}
use Rattle.std.proofs.lemmas.Cmp.{nat_list_cmp_total}
use Rattle.std.proofs.lemmas.List.{map-append, map-set}
use Rattle.std.proofs.lemmas.List.Elements.{All-append, All-take, All-drop, All-set, All-push, All-nil}
use Rattle.std.proofs.lemmas.Option.{slice_get-map, slice_get_within, slice_get-get_or}
use Rattle.std.proofs.lemmas.Simd.{map-map}
use Rattle.dj_names.specs.Texts.{Text}
use Rattle.dj_calculus.specs.Maps.{TextMap, text_cmp}
use Rattle.dj_calculus.proofs.Members.{mapped}
use Rattle.ifj_table.specs.Sorted.{AreRising, IsGap, pairs_of, map_of}
use Rattle.ifj_table.proofs.MapLists.{get_at, get_in_gap, map_inserted, map_set, map_removed, rising_inserted, rising_removed, found_at, not_less_itself}

-- ---- lists

map_insert : {X Y : Type 0} (f : X → Y) (xs : List X) (at : ℕ) (x : X) → map f (insert xs at x) ≡ insert (map f xs) at (f x)
map_insert f xs zero x = refl
map_insert f [] (suc n) x = refl
map_insert f (y ∷ xs) (suc n) x = ap (λ ys. f y ∷ ys) (map_insert f xs n x)

map_remove : {X Y : Type 0} (f : X → Y) (xs : List X) (at : ℕ) → map f (remove xs at) ≡ remove (map f xs) at
map_remove f [] zero = refl
map_remove f [] (suc n) = refl
map_remove f (y ∷ xs) zero = refl
map_remove f (y ∷ xs) (suc n) = ap (λ ys. f y ∷ ys) (map_remove f xs n)

pub set_same_key : {X Y : Type 0} (f : X → Y) (xs : List X) (at : ℕ) (old new : X) → slice_get xs at ≡ Some old → f new ≡ f old → map f (set xs at new) ≡ map f xs
set_same_key f [] zero old new here same = refl
set_same_key f [] (suc n) old new here same = refl
set_same_key f (y ∷ xs) zero old new here same = let is : y ≡ old = cc in ap (λ z. z ∷ map f xs) (same ∙ sym (ap f is))
set_same_key f (y ∷ xs) (suc n) old new here same = ap (λ ys. f y ∷ ys) (set_same_key f xs n old new here same)

pub set_itself : {X : Type 0} (xs : List X) (at : ℕ) (x : X) → slice_get xs at ≡ Some x → set xs at x ≡ xs
set_itself [] zero x here = refl
set_itself [] (suc n) x here = refl
set_itself (y ∷ xs) zero x here = let is : y ≡ x = cc in ap (λ z. z ∷ xs) (sym is)
set_itself (y ∷ xs) (suc n) x here = ap (λ ys. y ∷ ys) (set_itself xs n x here)

pub all_inserted : {X : Type 0} (P : X → Type 0) (xs : List X) (at : ℕ) (x : X) → All P xs → P x → All P (insert xs at x)
all_inserted P xs at x all here =
    All-append P (take at xs) (x ∷ drop at xs) (All-take P at xs all) (All-append P (x ∷ []) (drop at xs) (All-push P [] x (All-nil P) here) (All-drop P at xs all))

pub all_removed : {X : Type 0} (P : X → Type 0) (xs : List X) (at : ℕ) → All P xs → All P (remove xs at)
all_removed P xs at all = All-append P (take at xs) (drop (suc at) xs) (All-take P at xs all) (All-drop P (suc at) xs all)

-- the element at the place of a key
pub element_at : {E : Type 0} (key : E → Text) (es : List E) (at : ℕ) (k : Text) → slice_get (map key es) at ≡ Some k → (e : E) × (slice_get es at ≡ Some e) × (key e ≡ k)
element_at key es at k here = mapped key (slice_get es at) k (sym (slice_get-map key es at) ∙ here)

-- ---- maps

module _ {E X : Type 0} (key : E → Text) (read : E → X) where
  keys_are : (es : List E) → map (λ (p : Text × X). p.0) (pairs_of key read es) ≡ map key es
  keys_are es = map-map (λ (p : Text × X). p.0) (λ (e : E). (key e, read e)) es

  pairs_rise : (es : List E) → AreRising (map key es) → AreRising (map (λ (p : Text × X). p.0) (pairs_of key read es))
  pairs_rise es rising = subst AreRising (sym (keys_are es)) rising

  pair_at : (es : List E) (at : ℕ) (e : E) → slice_get es at ≡ Some e → slice_get (pairs_of key read es) at ≡ Some (key e, read e)
  pair_at es at e here = slice_get-map (λ (x : E). (key x, read x)) es at ∙ ap (option_map (λ (x : E). (key x, read x))) here

  -- what stands at a key
  pub got : (es : List E) (at : ℕ) (e : E) → AreRising (map key es) → slice_get es at ≡ Some e → get (map_of key read es) (key e) ≡ Some (read e)
  got es at e rising here = get_at (pairs_of key read es) at (key e) (read e) (pairs_rise es rising) (pair_at es at e here)

  pub got_at : (es : List E) (at : ℕ) (k : Text) → AreRising (map key es) → slice_get (map key es) at ≡ Some k
      → (e : E) × (slice_get es at ≡ Some e) × (key e ≡ k) × (get (map_of key read es) k ≡ Some (read e))
  got_at es at k rising here =
      let it = element_at key es at k here in
      (it.0, it.1, it.2, subst (λ t. get (map_of key read es) t ≡ Some (read it.0)) it.2 (got es at it.0 rising it.1))

  pub missing_in_gap : (es : List E) (k : Text) (at : ℕ) → IsGap (map key es) k at → get (map_of key read es) k ≡ None
  missing_in_gap es k at gap = get_in_gap (pairs_of key read es) k at (subst (λ ks. IsGap ks k at) (sym (keys_are es)) gap)

  -- a key at which nothing stands is no entry's
  pub none_there : {G : Type 0} (es : List E) (k : Text) (at : ℕ) → AreRising (map key es) → get (map_of key read es) k ≡ None → slice_get (map key es) at ≡ Some k → G
  none_there es k at rising none here = let it = got_at es at k rising here in absurd cc

  -- and one at which something stands is some entry's
  pub some_there : (es : List E) (k : Text) (x : X) → get (map_of key read es) k ≡ Some x → (at : ℕ) × (slice_get (map key es) at ≡ Some k)
  some_there es k x some =
      let it = found_at k (pairs_of key read es) x (sym (get-from_entries nat_list_cmp_total (pairs_of key read es) k) ∙ some) in
      let e = mapped (λ (y : E). (key y, read y)) (slice_get es it.0) (k, x) (sym (slice_get-map (λ (y : E). (key y, read y)) es it.0) ∙ it.1) in
      (it.0, slice_get-map key es it.0 ∙ ap (option_map key) e.1 ∙ ap (λ (p : Text × X). Some p.0) e.2)

  pub entry_there : (es : List E) (k : Text) → IsSome (get (map_of key read es) k) → (at : ℕ) × (slice_get (map key es) at ≡ Some k)
  entry_there es k some = by (get (map_of key read es) k) refl some
    where
      by : (o : Option X) → get (map_of key read es) k ≡ o → IsSome o → (at : ℕ) × (slice_get (map key es) at ≡ Some k)
      by None is some = absurd cc
      by (Some x) is some = some_there es k x is

  -- ---- changes

  pub inserted : (es : List E) (at : ℕ) (e : E) → get (map_of key read es) (key e) ≡ None → map_of key read (insert es at e) ≡ finite.insert (map_of key read es) (key e) (read e)
  inserted es at e none =
      ap from_entries (map_insert (λ (x : E). (key x, read x)) es at e) ∙ map_inserted (pairs_of key read es) at (key e) (read e) none

  pub set_at : (es : List E) (at : ℕ) (old new : E) → AreRising (map key es) → slice_get es at ≡ Some old → key new ≡ key old
      → map_of key read (set es at new) ≡ finite.insert (map_of key read es) (key new) (read new)
  set_at es at old new rising here same =
      ap from_entries (map-set (λ (x : E). (key x, read x)) es at new)
      ∙ map_set (pairs_of key read es) at (key new) (read old) (read new) (pairs_rise es rising)
      (pair_at es at old here ∙ ap (λ t. Some (t, read old)) (sym same))

  pub removed : (es : List E) (at : ℕ) (e : E) → AreRising (map key es) → slice_get es at ≡ Some e → map_of key read (remove es at) ≡ finite.remove (map_of key read es) (key e)
  removed es at e rising here =
      ap from_entries (map_remove (λ (x : E). (key x, read x)) es at) ∙ map_removed (pairs_of key read es) at (key e) (read e) (pairs_rise es rising) (pair_at es at e here)

-- ---- keys that rise

module _ {E : Type 0} (key : E → Text) where
  pub keys_inserted : (es : List E) (at : ℕ) (e : E) → AreRising (map key es) → IsGap (map key es) (key e) at → AreRising (map key (insert es at e))
  keys_inserted es at e rising gap = subst AreRising (sym (map_insert key es at e)) (rising_inserted (map key es) at (key e) rising gap)

  pub keys_set : (es : List E) (at : ℕ) (old new : E) → slice_get es at ≡ Some old → key new ≡ key old → AreRising (map key es) → AreRising (map key (set es at new))
  keys_set es at old new here same rising = subst AreRising (sym (set_same_key key es at old new here same)) rising

  pub keys_removed : (es : List E) (at : ℕ) → AreRising (map key es) → AreRising (map key (remove es at))
  keys_removed es at rising = subst AreRising (sym (map_remove key es at)) (rising_removed (map key es) at rising)
