-- Maps of texts and their entries, for this crate and its clients.
use Rattle.std.proofs.Common.{◌≡◌, zero, suc, List, [], ◌∷◌, map, length, Option, Some, None, Bool, true, false, cond, ◌&&◌, Contains, refl, sym, ap, ◌∙◌, subst, arith}
use Rattle.std.specs.Prelude.{T}
use Rattle.std.specs.Option.{option_map}
use Rattle.std.proofs.lemmas.Cmp.{tied_itself}
use Rattle.std.specs.FinMap.{get, insert, remove, entries, entries_sorted, from_entries, from_sorted, put, find, is_sorted, empty, len-entries, len-empty, get-empty, get-insert, get-remove, get-entries, get-from_entries, get-from_sorted, entries-insert, entries-from_sorted, IsAntisymmetric, nat_cmp-IsAntisymmetric, slice_cmp-IsAntisymmetric, same_map, same_entries_map}
use Rattle.std.specs.Ordering.{eq_by_cmp, is_eq}
use Rattle.std.specs.Cmp.{eq_by_cmp_equiv}
use Rattle.std.specs.declared.cmp.Ordering.{Ordering}
use Rattle.std.specs.declared.cmp.Ordering.TheVariants.{Less, Equal, Greater}
use Rattle.dj_names.specs.Texts.{Text}
use Rattle.std.specs.Cmp.{IsTotalOrder}
use Rattle.std.specs.Cmp.Lexicographic.{nat_list_cmp_total}
use Rattle.std.specs.FinMap.Entries.{below_all}
use Rattle.std.specs.Ordering.{is_lt}
use Rattle.dj_calculus.specs.Maps.{text_cmp, TextMap, map_values}

pub text_total : IsTotalOrder text_cmp
text_total = nat_list_cmp_total

no_length : {X : Type 0} (xs : List X) → length xs ≡ 0 → xs ≡ []
no_length [] e = refl
no_length (x ∷ xs) e = absurd (omega arith)

pub entries-empty : (X : Type 0) → entries (empty {X = X} {R = text_cmp}) ≡ []
entries-empty X = no_length _ (sym (len-entries empty) ∙ len-empty text_cmp X)

-- look-ups in maps of texts
pub text_get-empty : (X : Type 0) (q : Text) → get (empty {X = X} {R = text_cmp}) q ≡ None
text_get-empty X q = get-empty text_cmp q

pub text_get-insert : (X : Type 0) (m : TextMap X) (k : Text) (v : X) (q : Text) → get (insert m k v) q ≡ cond (eq_by_cmp text_cmp q k) (Some v) (get m q)
text_get-insert X m k v q = get-insert text_total m k v q

pub text_get-remove : (X : Type 0) (m : TextMap X) (k q : Text) → get (remove m k) q ≡ cond (eq_by_cmp text_cmp q k) None (get m q)
text_get-remove X m k q = get-remove text_total m k q

pub text_entries-insert : (X : Type 0) (m : TextMap X) (k : Text) (v : X) → entries (insert m k v) ≡ put text_cmp k v (entries m)
text_entries-insert X m k v = entries-insert text_total m k v

pub text_antisymmetric : IsAntisymmetric text_cmp
text_antisymmetric = slice_cmp-IsAntisymmetric nat_cmp-IsAntisymmetric

twice : {X : Type 0} (b : Bool) (x y : X) (o : Option X) → cond b (Some y) (cond b (Some x) o) ≡ cond b (Some y) o
twice true x y o = refl
twice false x y o = refl

-- what is put in again takes the place of what was there
pub reinserted : (X : Type 0) (m : TextMap X) (k : Text) (x y : X) → insert (insert m k x) k y ≡ insert m k y
reinserted X m k x y = same_map text_total text_antisymmetric _ _ (λ q. text_get-insert X (insert m k x) k y q ∙ ap (cond (eq_by_cmp text_cmp q k) (Some y)) (text_get-insert X m k x q) ∙ twice (eq_by_cmp text_cmp q k) x y (get m q) ∙ sym (text_get-insert X m k y q))

pub is_equal : (r : Ordering) → is_eq r ≡ true → r ≡ Equal
is_equal Less e = absurd cc
is_equal Equal e = refl
is_equal Greater e = absurd cc

pub same_key : (q k : Text) → eq_by_cmp text_cmp q k ≡ true → q ≡ k
same_key q k e = text_antisymmetric q k (is_equal (text_cmp q k) e)

found_in_one : {X : Type 0} (b : Bool) (q k : Text) (v x : X) → eq_by_cmp text_cmp q k ≡ b → cond b (Some v) None ≡ Some x → (q ≡ k) × (v ≡ x)
found_in_one true q k v x e is = (text_antisymmetric q k (is_equal (text_cmp q k) e), cc)
found_in_one false q k v x e is = absurd cc

-- what is found in a map of one entry is that entry
pub get_of_one : (X : Type 0) (k q : Text) (v x : X) → get (insert (empty {R = text_cmp}) k v) q ≡ Some x → (q ≡ k) × (v ≡ x)
get_of_one X k q v x is = found_in_one _ q k v x refl (sym (text_get-insert X empty k v q ∙ ap (cond (eq_by_cmp text_cmp q k) (Some v)) (text_get-empty X q)) ∙ is)

-- ---- entries

found_first : {X : Type 0} (b : Bool) (q : Text) (e : Text × X) (x : X) (es : List (Text × X)) → eq_by_cmp text_cmp q e.0 ≡ b → (find text_cmp q es ≡ Some x → Contains es (q, x))
    → cond b (Some e.1) (find text_cmp q es) ≡ Some x → Contains (e ∷ es) (q, x)
found_first true q e x es same later is = (0, omega arith, pair (same_key q e.0 same) is)
  where
    pair : {X : Type 0} {q k : Text} {v x : X} → q ≡ k → ◌≡◌ {A = Option X} (Some v) (Some x) → ◌≡◌ {A = Text × X} (k, v) (q, x)
    pair p r = cc
found_first false q e x es same later is = let there = later is in (suc there.0, omega arith, there.2)

found_in_list : {X : Type 0} (es : List (Text × X)) (q : Text) (x : X) → find text_cmp q es ≡ Some x → Contains es (q, x)
found_in_list [] q x is = absurd cc
found_in_list (e ∷ es) q x is = found_first (eq_by_cmp text_cmp q e.0) q e x es refl (found_in_list es q x) is

-- what is found in a map is one of its entries
pub found_entry : {X : Type 0} (m : TextMap X) (q : Text) (x : X) → get m q ≡ Some x → Contains (entries m) (q, x)
found_entry m q x is = found_in_list (entries m) q x (sym (get-entries m q) ∙ is)

-- what is found in the map of a list is an element of it
pub found_in_entries : {X : Type 0} (es : List (Text × X)) (q : Text) (x : X) → get (from_entries {R = text_cmp} es) q ≡ Some x → Contains es (q, x)
found_in_entries es q x is = found_in_list es q x (sym (get-from_entries text_total es q) ∙ is)

-- ---- the map with each value changed

find_changed : {X Y : Type 0} (f : X → Y) (q : Text) (es : List (Text × X)) → find text_cmp q (map (λ (e : Text × X). (e.0, f e.1)) es) ≡ option_map f (find text_cmp q es)
find_changed f q [] = refl
find_changed f q (e ∷ es) = chosen (eq_by_cmp text_cmp q e.0) e.1 _ (find text_cmp q es) (find_changed f q es)
  where
    chosen : (b : Bool) (x : _) (o : Option _) (p : Option _) → o ≡ option_map f p → cond b (Some (f x)) o ≡ option_map f (cond b (Some x) p)
    chosen true x o p e = refl
    chosen false x o p e = e

pub get_changed : {X Y : Type 0} (f : X → Y) (m : TextMap X) (q : Text) → get (map_values f m) q ≡ option_map f (get m q)
get_changed f m q = get-from_entries text_total _ q ∙ find_changed f q (entries m) ∙ ap (option_map f) (sym (get-entries m q))

below_changed : {X Y : Type 0} (f : X → Y) (k : Text) (es : List (Text × X)) → below_all text_cmp k (map (λ (e : Text × X). (e.0, f e.1)) es) ≡ below_all text_cmp k es
below_changed f k [] = refl
below_changed f k (e ∷ es) = ap (λ b. is_lt (text_cmp k e.0) && b) (below_changed f k es)

sorted_changed : {X Y : Type 0} (f : X → Y) (es : List (Text × X)) → is_sorted text_cmp (map (λ (e : Text × X). (e.0, f e.1)) es) ≡ is_sorted text_cmp es
sorted_changed f [] = refl
sorted_changed f (e ∷ es) = rw (below_changed f e.0 es, sorted_changed f es) refl

-- a map made from sorted entries has these
pub entries_of_sorted : {X : Type 0} (es : List (Text × X)) → T (is_sorted text_cmp es) → entries (from_entries {R = text_cmp} es) ≡ es
entries_of_sorted es sorted =
    ap entries (same_map text_total text_antisymmetric (from_entries es) (from_sorted es) (λ q. get-from_entries text_total es q ∙ sym (get-from_sorted text_cmp es q sorted)))
    ∙ entries-from_sorted text_cmp es sorted

pub entries_changed : {X Y : Type 0} (f : X → Y) (m : TextMap X) → entries (map_values f m) ≡ map (λ (e : Text × X). (e.0, f e.1)) (entries m)
entries_changed f m = entries_of_sorted _ (subst T (sym (sorted_changed f (entries m))) (entries_sorted m))

-- a map is that of its entries
pub from_its_entries : {X : Type 0} (m : TextMap X) → from_entries (entries m) ≡ m
from_its_entries m = same_entries_map _ _ (entries_of_sorted (entries m) (entries_sorted m))

-- ---- an entry of a map is found

t_first : (a b : Bool) → T (a && b) → T a
t_first true b h = tt
t_first false b h = absurd h

t_second : (a b : Bool) → T (a && b) → T b
t_second true b h = h
t_second false b h = absurd h

below_each : {X : Type 0} (k : Text) (es : List (Text × X)) (e : Text × X) → T (below_all text_cmp k es) → Contains es e → T (is_lt (text_cmp k e.0))
below_each k [] e below (i, low, is) = absurd (omega arith)
below_each k (f ∷ es) e below (zero, low, is) = subst (λ x. T (is_lt (text_cmp k x.0))) is (t_first _ (below_all text_cmp k es) below)
below_each k (f ∷ es) e below (suc i, low, is) = below_each k es e (t_second (is_lt (text_cmp k f.0)) _ below) (i, omega arith, is)

not_itself : (k q : Text) → q ≡ k → T (is_lt (text_cmp k q)) → ⊥
not_itself k q same less = subst (λ r. T (is_lt r)) (ap (text_cmp k) same ∙ tied_itself text_total k) less

behind_first : {X : Type 0} (b : Bool) (q k : Text) (v : X) (x : X) (rest : Option X) → eq_by_cmp text_cmp q k ≡ b → T (is_lt (text_cmp k q)) → rest ≡ Some x → cond b (Some v) rest ≡ Some x
behind_first true q k v x rest same less e = absurd (not_itself k q (same_key q k same) less)
behind_first false q k v x rest same less e = e

found_sorted : {X : Type 0} (es : List (Text × X)) (q : Text) (x : X) → T (is_sorted text_cmp es) → Contains es (q, x) → find text_cmp q es ≡ Some x
found_sorted [] q x sorted (i, low, is) = absurd (omega arith)
found_sorted (e ∷ es) q x sorted (zero, low, is) =
    subst (λ f. cond (eq_by_cmp text_cmp q f.0) (Some f.1) (find text_cmp q es) ≡ Some x) (sym is) (rw ((eq_by_cmp_equiv text_total).refl q) refl)
found_sorted (e ∷ es) q x sorted (suc i, low, is) =
    behind_first (eq_by_cmp text_cmp q e.0) q e.0 e.1 x (find text_cmp q es) refl (below_each e.0 es (q, x) (t_first _ (is_sorted text_cmp es) sorted) (i, omega arith, is))
    (found_sorted es q x (t_second (below_all text_cmp e.0 es) _ sorted) (i, omega arith, is))

pub entry_found : {X : Type 0} (m : TextMap X) (q : Text) (x : X) → Contains (entries m) (q, x) → get m q ≡ Some x
entry_found m q x has = get-entries m q ∙ found_sorted (entries m) q x (entries_sorted m) has

-- a key stands once among the entries
pub key_once : {X : Type 0} (m : TextMap X) (q : Text) (x y : X) → Contains (entries m) (q, x) → Contains (entries m) (q, y) → x ≡ y
key_once m q x y first second = same_value (entry_found m q x first) (entry_found m q y second)
  where
    same_value : {o : Option _} → o ≡ Some x → o ≡ Some y → x ≡ y
    same_value p r = cc

-- the values changed before a map is made, or after
pub changed_entries : {X Y : Type 0} (f : X → Y) (es : List (Text × X)) → map_values f (from_entries {R = text_cmp} es) ≡ from_entries (map (λ (e : Text × X). (e.0, f e.1)) es)
changed_entries f es =
    same_map text_total text_antisymmetric _ _ (λ q. get_changed f (from_entries es) q ∙ ap (option_map f) (get-from_entries text_total es q) ∙ sym (find_changed f q es) ∙ sym (get-from_entries text_total _ q))
