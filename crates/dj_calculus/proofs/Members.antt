-- Elements of lists, and lists in which no name stands twice.
use Rattle.std.proofs.Common.{◌≡◌, ◌⊎◌, inl, inr, ℕ, zero, suc, ◌<◌, Bool, true, false, ◌||◌, cond, List, [], ◌∷◌, ◌++◌, map, Option, Some, None, length, slice_get, slice_index_or, Contains, refl, sym, ap, ◌∙◌, subst, arith}
use Rattle.std.specs.Option.{option_map, option_and_then}
use Rattle.std.specs.List.{filter_map, cons_option, flat_map, find, insert}
use Rattle.std.specs.List.Sorted.{IsPermutation}
use Rattle.std.specs.Str.{bytes_eq}
use Rattle.std.proofs.lemmas.Slice.Eq.{bytes_eq-Decides}
use Rattle.std.proofs.lemmas.List.Elements.{Contains-append_left, Contains-append_right}
use Rattle.std.proofs.lemmas.List.Sorted.{IsPermutation-insert, IsPermutation-sym}
use Rattle.dj_tree.specs.Trees.{Spot}
use Rattle.dj_names.specs.Texts.{Text}
use Rattle.dj_calculus.specs.Configurations.{is_named}
use Rattle.dj_calculus.specs.FaultPlaces.{Repeats}

pub same_some : {X : Type 0} (a b : X) (o : Option X) → o ≡ Some a → o ≡ Some b → a ≡ b
same_some a b o p q = cc

pub not_both : {X : Type 0} (x : X) (o : Option X) → o ≡ None → o ≡ Some x → ⊥
not_both x o p q = absurd cc

-- what a map of an option is made from
pub mapped : {A B : Type 0} (f : A → B) (o : Option A) (b : B) → option_map f o ≡ Some b → (a : A) × (o ≡ Some a) × (f a ≡ b)
mapped f None b e = absurd cc
mapped f (Some a) b e = (a, refl, cc)

-- what a step that is followed by another gave
pub taken : {S : Type 0} (next : S → Option S) (o : Option S) (s : S) → option_and_then next o ≡ Some s → (m : S) × (o ≡ Some m) × (next m ≡ Some s)
taken next None s e = absurd cc
taken next (Some m) s e = (m, refl, e)

-- ---- elements

pub no_element : {X : Type 0} {G : Type 0} (x : X) → Contains [] x → G
no_element x (k, low, is) = absurd (omega arith)

-- an element is the first one or one of the others
pub first_or_other : {X : Type 0} (x y : X) (xs : List X) → Contains (x ∷ xs) y → (x ≡ y) ⊎ Contains xs y
first_or_other x y xs (zero, low, is) = inl is
first_or_other x y xs (suc k, low, is) = inr (k, omega arith, is)

pub among_others : {X : Type 0} (x y : X) (xs : List X) → Contains xs y → Contains (x ∷ xs) y
among_others x y xs (k, low, is) = (suc k, omega arith, is)

pub either : {A B C : Type 0} → A ⊎ B → (A → C) → (B → C) → C
either (inl a) f g = f a
either (inr b) f g = g b

-- ---- filters

abbrev pub From : {X Y : Type 0} → (X → Option Y) → List X → Y → Type 0
From {X} h xs y = (x : X) × Contains xs x × (h x ≡ Some y)

from_first : {X Y : Type 0} (h : X → Option Y) (x : X) (xs : List X) (y : Y) (o : Option Y) → h x ≡ o → (Contains (filter_map h xs) y → From h xs y)
    → Contains (cons_option o (filter_map h xs)) y → From h (x ∷ xs) y
from_first h x xs y None e rest within = let found = rest within in (found.0, among_others x found.0 xs found.1, found.2)
from_first h x xs y (Some z) e rest within =
    either (first_or_other z y (filter_map h xs) within) (λ same. (x, (0, omega arith, refl), e ∙ ap Some same))
    (λ later. let found = rest later in (found.0, among_others x found.0 xs found.1, found.2))

pub filtered_from : {X Y : Type 0} (h : X → Option Y) (xs : List X) (y : Y) → Contains (filter_map h xs) y → From h xs y
filtered_from h [] y within = no_element y within
filtered_from h (x ∷ xs) y within = from_first h x xs y (h x) refl (filtered_from h xs y) within

behind_option : {Y : Type 0} (o : Option Y) (y : Y) (ys : List Y) → Contains ys y → Contains (cons_option o ys) y
behind_option None y ys within = within
behind_option (Some w) y ys within = among_others w y ys within

pub kept_by : {X Y : Type 0} (h : X → Option Y) (xs : List X) (x : X) (y : Y) → Contains xs x → h x ≡ Some y → Contains (filter_map h xs) y
kept_by h [] x y within e = no_element x within
kept_by h (z ∷ xs) x y within e =
    either (first_or_other z x xs within) (λ same. rw (ap h same ∙ e) (0, omega arith, refl)) (λ later. behind_option (h z) y _ (kept_by h xs x y later e))

pub mapped_within : {X Y : Type 0} (f : X → Y) (xs : List X) (x : X) → Contains xs x → Contains (map f xs) (f x)
mapped_within f [] x within = no_element x within
mapped_within f (z ∷ xs) x within =
    either (first_or_other z x xs within) (λ same. (0, omega arith, ap f same)) (λ later. among_others (f z) (f x) (map f xs) (mapped_within f xs x later))

pub within_flat : {X Y : Type 0} (f : X → List Y) (xs : List X) (x : X) (y : Y) → Contains xs x → Contains (f x) y → Contains (flat_map f xs) y
within_flat f [] x y within here = no_element x within
within_flat f (z ∷ xs) x y within here =
    either (first_or_other z x xs within) (λ same. Contains-append_left (f z) (flat_map f xs) y (rw same here))
    (λ later. Contains-append_right (f z) (flat_map f xs) y (within_flat f xs x y later here))

found_first : {X : Type 0} (b : Bool) (x y : X) (xs : List X) (o : Option X) → (o ≡ Some y → Contains xs y) → cond b (Some x) o ≡ Some y → Contains (x ∷ xs) y
found_first true x y xs o rest e = (0, omega arith, cc)
found_first false x y xs o rest e = among_others x y xs (rest e)

pub found_within : {X : Type 0} (p : X → Bool) (xs : List X) (x : X) → find p xs ≡ Some x → Contains xs x
found_within p [] x e = absurd cc
found_within p (y ∷ xs) x e = found_first (p y) y x xs (find p xs) (found_within p xs x) e

-- ---- one of a list first

pub record Inserted {X : Type 0} (xs : List X) (x : X) : Type 0 where
  pub others : List X
  pub at : ℕ
  pub is : insert others at x ≡ xs

pub inserted : {X : Type 0} (xs : List X) (x : X) → Contains xs x → Inserted xs x
inserted [] x within = no_element x within
inserted (y ∷ xs) x within =
    either (first_or_other y x xs within) (λ same. record { others = xs; at = 0; is = ap (λ z. z ∷ xs) (sym same) })
    (λ later. let rest = inserted xs x later in record { others = y ∷ rest.others; at = suc rest.at; is = ap (λ zs. y ∷ zs) rest.is })

pub moved_first : {X : Type 0} (xs : List X) (x : X) (found : Inserted xs x) → IsPermutation xs (x ∷ found.others)
moved_first xs x found =
    IsPermutation-sym (x ∷ found.others) xs (subst (λ zs. IsPermutation (x ∷ found.others) zs) found.is (IsPermutation-insert found.others found.at x))

-- ---- names that stand once

abbrev pub StandOnce : List Spot → Type 0
StandOnce names = (at : ℕ) → ¬ (Repeats names at)

pub later_once : (x : Spot) (names : List Spot) → StandOnce (x ∷ names) → StandOnce names
later_once x names once at r =
    once at (record { before = suc r.before; number = suc r.number; earlier = omega (arith, r.earlier); x = r.x; y = r.y; at_before = r.at_before; at_number = r.at_number; same = r.same; here = r.here })

at_place : {X : Type 0} (xs : List X) (k : ℕ) (x : X) → k < length xs → slice_index_or xs k x ≡ x → slice_get xs k ≡ Some x
at_place [] k x low is = absurd (omega arith)
at_place (y ∷ xs) zero x low is = ap Some is
at_place (y ∷ xs) (suc k) x low is = at_place xs k x (omega arith) is

-- the first is named otherwise than each later one
pub first_apart : (x y : Spot) (names : List Spot) → StandOnce (x ∷ names) → Contains names y → ¬ (x.text ≡ y.text)
first_apart x y names once (k, low, is) same =
    once y.at (record { before = 0; number = suc k; earlier = omega arith; x = x; y = y; at_before = refl; at_number = at_place names k y low is; same = same; here = refl })

or_true : (a : Bool) → (a || true) ≡ true
or_true true = refl
or_true false = refl

-- a name of a list is named, and what is named is one
pub named_within : (names : List Spot) (x : Spot) → Contains names x → is_named names x.text ≡ true
named_within [] x there = no_element x there
named_within (y ∷ names) x there =
    either (first_or_other y x names there) (λ same. ap (λ b. b || is_named names x.text) ((bytes_eq-Decides y.text x.text).1 (ap (λ z. z.text) same)))
    (λ later. ap (λ b. bytes_eq y.text x.text || b) (named_within names x later) ∙ or_true (bytes_eq y.text x.text))

named_first : (y : Spot) (names : List Spot) (text : Text) (b o : Bool) → bytes_eq y.text text ≡ b → (o ≡ true → (x : Spot) × Contains names x × (x.text ≡ text)) → (b || o) ≡ true
    → (x : Spot) × Contains (y ∷ names) x × (x.text ≡ text)
named_first y names text true o is later e = (y, (0, omega arith, refl), (bytes_eq-Decides y.text text).0 is)
named_first y names text false o is later e = let found = later e in (found.0, among_others y found.0 names found.1, found.2)

pub named_from : (names : List Spot) (text : Text) → is_named names text ≡ true → (x : Spot) × Contains names x × (x.text ≡ text)
named_from [] text e = absurd cc
named_from (y ∷ names) text e = named_first y names text _ _ refl (named_from names text) e

-- ---- each element

-- P of each element
pub data Each {X : Type 0} (P : X → Type 0) : List X → Type 0 where
  none : Each P []
  and : {x : X} {xs : List X} → P x → Each P xs → Each P (x ∷ xs)

pub each_of : {X : Type 0} (P : X → Type 0) (xs : List X) → ((x : X) → Contains xs x → P x) → Each P xs
each_of P [] all = none
each_of P (x ∷ xs) all = and (all x (0, omega arith, refl)) (each_of P xs (λ y within. all y (among_others x y xs within)))

pub each_at : {X : Type 0} (P : X → Type 0) (xs : List X) (k : ℕ) (x : X) → Each P xs → slice_get xs k ≡ Some x → P x
each_at P xs k x none is = absurd cc
each_at P xs zero x (and {x = y} here all) is = let same : y ≡ x = cc in subst P same here
each_at P xs (suc k) x (and {xs = rest} here all) is = each_at P rest k x all is

pub each_append : {X : Type 0} (P : X → Type 0) (xs ys : List X) → Each P xs → Each P ys → Each P (xs ++ ys)
each_append P xs ys none more = more
each_append P xs ys (and {xs = rest} here all) more = and here (each_append P rest ys all more)

pub each_map : {X Y : Type 0} (P : Y → Type 0) (f : X → Y) (xs : List X) → ((x : X) → Contains xs x → P (f x)) → Each P (map f xs)
each_map P f [] all = none
each_map P f (x ∷ xs) all = and (all x (0, omega arith, refl)) (each_map P f xs (λ y within. all y (among_others x y xs within)))

pub in_front_or_behind : {X : Type 0} (xs ys : List X) (y : X) → Contains (xs ++ ys) y → Contains xs y ⊎ Contains ys y
in_front_or_behind [] ys y within = inr within
in_front_or_behind (x ∷ xs) ys y within =
    either (first_or_other x y (xs ++ ys) within) (λ is. inl (0, omega arith, is))
    (λ later. either (in_front_or_behind xs ys y later) (λ front. inl (among_others x y xs front)) (λ behind. inr behind))

-- where an element of a mapped list, or of the lists that a list gives, is from
pub mapped_from : {X Y : Type 0} (f : X → Y) (xs : List X) (y : Y) → Contains (map f xs) y → (x : X) × Contains xs x × (f x ≡ y)
mapped_from f [] y within = no_element y within
mapped_from f (x ∷ xs) y within =
    either (first_or_other (f x) y (map f xs) within) (λ same. (x, (0, omega arith, refl), same))
    (λ later. let found = mapped_from f xs y later in (found.0, among_others x found.0 xs found.1, found.2))

pub from_flat : {X Y : Type 0} (f : X → List Y) (xs : List X) (y : Y) → Contains (flat_map f xs) y → (x : X) × Contains xs x × Contains (f x) y
from_flat f [] y within = no_element y within
from_flat f (x ∷ xs) y within =
    either (in_front_or_behind (f x) (flat_map f xs) y within) (λ here. (x, (0, omega arith, refl), here))
    (λ later. let found = from_flat f xs y later in (found.0, among_others x found.0 xs found.1, found.2))

pub only_one : {X : Type 0} (x y : X) → Contains (x ∷ []) y → x ≡ y
only_one x y within = either (first_or_other x y [] within) (λ is. is) (λ nothing. no_element y nothing)
