-- What stands once in an accepted source.
use Rattle.std.proofs.Common.{◌≡◌, ◌⊎◌, inl, inr, ℕ, zero, suc, ◌<◌, ◌≤◌, Bool, true, false, List, [], ◌∷◌, ◌++◌, map, Option, Some, None, slice_get, Contains, refl, sym, ap, ◌∙◌, subst, arith}
use Rattle.std.specs.Option.{option_map}
use Rattle.std.specs.List.{filter_map}
use Rattle.std.specs.Str.{bytes_eq}
use Rattle.std.proofs.lemmas.Slice.Eq.{bytes_eq-Decides}
use Rattle.std.proofs.lemmas.Option.{slice_get-map}
use Rattle.dj_names.specs.Texts.{Text}
use Rattle.dj_tree.specs.Trees.{Spot, Field, Method, MemberOperation, adds_field, adds_method, modifies_method, removes_field, removes_method}
use Rattle.dj_tree.specs.Trees.{Change, Operation, adds_class, modifies_class, removes_class, Delta, Item, Part, Source}
use Rattle.dj_calculus.specs.Configurations.{is_named}
use Rattle.dj_calculus.specs.Contents.{items_of, operations_of, class_name, added_by, change_by, changes_of, field_name, method_name}
use Rattle.dj_calculus.specs.Things.{Step, does, Piece, superclass, field_named, method_named, piece, first_steps, steps_of}
use Rattle.dj_calculus.specs.Conflicts.{same_piece}
use Rattle.dj_calculus.specs.FaultPlaces.{repeated_feature, repeated_delta, delta_not_placed, delta_placed_twice, repeated_part, repeated_class_operation, repeated_field_operation, repeated_method_operation, repeated_field, repeated_method, repeated_parameter}
use Rattle.dj_calculus.specs.Accepted.{IsAccepted}
use Rattle.dj_calculus.proofs.Members.{either, kept_by, within_flat, from_flat, mapped_from, named_from, StandOnce as NamesStandOnce}
use Rattle.dj_calculus.proofs.Counting.{number_in}
use Rattle.dj_source_laws.specs.Once.{OnceBy, members_in, StandOnce, IsPlaced}
use Rattle.dj_source_laws.specs.Said.{optional}
use Rattle.dj_source_laws.proofs.Weights.{weigh, bit, weigh_append, weigh_map, weigh_flat, weigh_filter_map, weigh_same, weighs_some, weighs_one, one_place}

-- ---- by names

pub order : (i j : ℕ) → (i < j) ⊎ ((i ≡ j) ⊎ (j < i))
order zero zero = inr (inl refl)
order zero (suc j) = inl (omega arith)
order (suc i) zero = inr (inr (omega arith))
order (suc i) (suc j) = either (order i j) (λ low. inl (omega arith)) (λ rest. either rest (λ same. inr (inl (ap suc same))) (λ high. inr (inr (omega arith))))

once_named : (names : List Spot) → NamesStandOnce names → OnceBy (λ (x : Spot). x.text) names
once_named names once i j x y at_i at_j same =
    either (order i j)
    (λ low. absurd (once y.at (record { before = i; number = j; earlier = low; x = x; y = y; at_before = at_i; at_number = at_j; same = same; here = refl })))
    (λ rest. either rest (λ is. is)
    (λ high. absurd (once x.at (record { before = j; number = i; earlier = high; x = y; y = x; at_before = at_j; at_number = at_i; same = sym same; here = refl }))))

once_of : {X : Type 0} (name : X → Spot) (xs : List X) → NamesStandOnce (map name xs) → OnceBy (λ (x : X). (name x).text) xs
once_of name xs once i j x y at_i at_j same =
    once_named (map name xs) once i j (name x) (name y) (slice_get-map name xs i ∙ ap (option_map name) at_i) (slice_get-map name xs j ∙ ap (option_map name) at_j) same

-- ---- by weights

pub bit_small : (b : Bool) → bit b ≤ 1
bit_small true = omega arith
bit_small false = omega arith

pub bit_true : (b : Bool) → 1 ≤ bit b → b ≡ true
bit_true true some = refl
bit_true false some = absurd (omega arith)

pub true_bit : (b : Bool) → b ≡ true → 1 ≤ bit b
true_bit true e = omega arith
true_bit false e = absurd cc

-- names that stand once weigh 1 at most by their text
pub once_weighs : {X : Type 0} (text : X → Text) (xs : List X) → OnceBy text xs → (q : Text) → weigh (λ (x : X). bit (bytes_eq q (text x))) xs ≤ 1
once_weighs {X = X} text xs once q =
    weighs_one (λ (x : X). bit (bytes_eq q (text x))) xs (λ x. bit_small (bytes_eq q (text x)))
    (λ i j x y at_i at_j some_x some_y. once i j x y at_i at_j
    (sym ((bytes_eq-Decides q (text x)).0 (bit_true (bytes_eq q (text x)) some_x)) ∙ (bytes_eq-Decides q (text y)).0 (bit_true (bytes_eq q (text y)) some_y)))

pub own_text : (q : Text) → 1 ≤ bit (bytes_eq q q)
own_text q = true_bit (bytes_eq q q) ((bytes_eq-Decides q q).1 refl)

pub same_text : (q x : Text) → q ≡ x → 1 ≤ bit (bytes_eq q x)
same_text q x same = true_bit (bytes_eq q x) ((bytes_eq-Decides q x).1 same)

weigh_none : {X : Type 0} (f : X → ℕ) (xs : List X) → ((x : X) → f x ≡ 0) → weigh f xs ≡ 0
weigh_none f [] none = refl
weigh_none f (x ∷ xs) none = omega (arith, none x, weigh_none f xs none)

-- ---- by pieces

abbrev by_piece : Piece → Step → ℕ
by_piece p s = bit (same_piece p (piece s))

abbrev by_text : Text → Spot → ℕ
by_text q x = bit (bytes_eq q x.text)

own_piece : (p : Piece) → 1 ≤ bit (same_piece p p)
own_piece superclass = omega arith
own_piece (field_named f) = own_text f
own_piece (method_named m) = own_text m

once_by_pieces : {X : Type 0} (key : X → Piece) (xs : List X) → ((p : Piece) → weigh (λ (x : X). bit (same_piece p (key x))) xs ≤ 1) → OnceBy key xs
once_by_pieces {X = X} key xs few i j x y at_i at_j same =
    one_place (λ (z : X). bit (same_piece (key x) (key z))) xs i j x y (few (key x)) at_i at_j (own_piece (key x))
    (subst (λ p. 1 ≤ bit (same_piece (key x) p)) same (own_piece (key x)))

of_superclass : (m : MemberOperation) → by_piece superclass (does m) ≡ 0
of_superclass (adds_field f) = refl
of_superclass (adds_method m) = refl
of_superclass (modifies_method m) = refl
of_superclass (removes_field f) = refl
of_superclass (removes_method m) = refl

of_field : (q : Text) (m : MemberOperation) → by_piece (field_named q) (does m) ≡ weigh (by_text q) (optional (field_name m))
of_field q (adds_field f) = omega arith
of_field q (adds_method m) = refl
of_field q (modifies_method m) = refl
of_field q (removes_field f) = omega arith
of_field q (removes_method m) = refl

of_method : (q : Text) (m : MemberOperation) → by_piece (method_named q) (does m) ≡ weigh (by_text q) (optional (method_name m))
of_method q (adds_field f) = refl
of_method q (adds_method m) = omega arith
of_method q (modifies_method m) = omega arith
of_method q (removes_field f) = refl
of_method q (removes_method m) = omega arith

names_weigh : (names : List Spot) (q : Text) → NamesStandOnce names → weigh (by_text q) names ≤ 1
names_weigh names q once = once_weighs (λ (x : Spot). x.text) names (once_named names once) q

members_weigh : (ms : List MemberOperation) (p : Piece) → NamesStandOnce (filter_map field_name ms) → NamesStandOnce (filter_map method_name ms)
    → weigh (λ (m : MemberOperation). by_piece p (does m)) ms ≤ 1
members_weigh ms superclass fields methods = omega (arith, weigh_none (λ (m : MemberOperation). by_piece superclass (does m)) ms of_superclass)
members_weigh ms (field_named q) fields methods =
    omega (arith, weigh_same (λ (m : MemberOperation). by_piece (field_named q) (does m)) (λ (m : MemberOperation). weigh (by_text q) (optional (field_name m))) ms (of_field q), weigh_filter_map (by_text q) field_name ms, names_weigh (filter_map field_name ms) q fields)
members_weigh ms (method_named q) fields methods =
    omega (arith, weigh_same (λ (m : MemberOperation). by_piece (method_named q) (does m)) (λ (m : MemberOperation). weigh (by_text q) (optional (method_name m))) ms (of_method q), weigh_filter_map (by_text q) method_name ms, names_weigh (filter_map method_name ms) q methods)

parent_weighs : (o : Option Spot) (p : Piece) → weigh (by_piece p) (first_steps o) ≤ bit (same_piece p superclass)
parent_weighs None p = omega arith
parent_weighs (Some x) p = omega arith

steps_weigh : (change : Change) (p : Piece) → NamesStandOnce (filter_map field_name change.members) → NamesStandOnce (filter_map method_name change.members)
    → weigh (by_piece p) (steps_of change) ≤ 1
steps_weigh change superclass fields methods =
    omega (arith, weigh_append (by_piece superclass) (first_steps change.parent) (map does change.members), weigh_map (by_piece superclass) does change.members, parent_weighs change.parent superclass, weigh_none (λ (m : MemberOperation). by_piece superclass (does m)) change.members of_superclass)
steps_weigh change (field_named q) fields methods =
    omega (arith, weigh_append (by_piece (field_named q)) (first_steps change.parent) (map does change.members), weigh_map (by_piece (field_named q)) does change.members, parent_weighs change.parent (field_named q), members_weigh change.members (field_named q) fields methods)
steps_weigh change (method_named q) fields methods =
    omega (arith, weigh_append (by_piece (method_named q)) (first_steps change.parent) (map does change.members), weigh_map (by_piece (method_named q)) does change.members, parent_weighs change.parent (method_named q), members_weigh change.members (method_named q) fields methods)

declared_weigh : (fields : List Field) (methods : List Method) (p : Piece) → NamesStandOnce (map (λ (f : Field). f.name) fields) → NamesStandOnce (map (λ (m : Method). m.name) methods)
    → weigh (λ (m : MemberOperation). by_piece p (does m)) (map adds_field fields ++ map adds_method methods) ≤ 1
declared_weigh fields methods superclass field_once method_once =
    omega (arith, weigh_none (λ (m : MemberOperation). by_piece superclass (does m)) (map adds_field fields ++ map adds_method methods) of_superclass)
declared_weigh fields methods (field_named q) field_once method_once =
    let f = λ (m : MemberOperation). by_piece (field_named q) (does m) in
    omega (arith, weigh_append f (map adds_field fields) (map adds_method methods), weigh_map f adds_field fields, weigh_map f adds_method methods, weigh_none (λ (m : Method). f (adds_method m)) methods (λ m. refl), weigh_map (by_text q) (λ (x : Field). x.name) fields, names_weigh (map (λ (x : Field). x.name) fields) q field_once)
declared_weigh fields methods (method_named q) field_once method_once =
    let f = λ (m : MemberOperation). by_piece (method_named q) (does m) in
    omega (arith, weigh_append f (map adds_field fields) (map adds_method methods), weigh_map f adds_field fields, weigh_map f adds_method methods, weigh_none (λ (x : Field). f (adds_field x)) fields (λ x. refl), weigh_map (by_text q) (λ (x : Method). x.name) methods, names_weigh (map (λ (x : Method). x.name) methods) q method_once)

-- ---- accepted sources

pub operation_there : (source : Source) (delta : Delta) (operation : Operation) → Contains source.deltas delta → Contains delta.operations operation
    → Contains (operations_of source) operation
operation_there source delta operation at_delta at_operation = within_flat (λ (d : Delta). d.operations) source.deltas delta operation at_delta at_operation

module _ (source : Source) (accepted : IsAccepted source) where
  change_fields : (change : Change) → Contains (changes_of source) change → NamesStandOnce (filter_map field_name change.members)
  change_fields change there at r = accepted _ at (repeated_field_operation change at there r)

  change_methods : (change : Change) → Contains (changes_of source) change → NamesStandOnce (filter_map method_name change.members)
  change_methods change there at r = accepted _ at (repeated_method_operation change at there r)

  steps_once : (delta : Delta) (change : Change) → Contains source.deltas delta → Contains delta.operations (modifies_class change) → OnceBy piece (steps_of change)
  steps_once delta change at_delta at_operation =
      let there = kept_by change_by (operations_of source) (modifies_class change) change (operation_there source delta (modifies_class change) at_delta at_operation) refl in
      once_by_pieces piece (steps_of change) (λ p. steps_weigh change p (change_fields change there) (change_methods change there))

  members_once : (delta : Delta) (operation : Operation) → Contains source.deltas delta → Contains delta.operations operation
      → OnceBy (λ (m : MemberOperation). piece (does m)) (members_in operation)
  members_once delta (adds_class c) at_delta at_operation =
      let there = kept_by added_by (operations_of source) (adds_class c) c (operation_there source delta (adds_class c) at_delta at_operation) refl in
      once_by_pieces (λ (m : MemberOperation). piece (does m)) (members_in (adds_class c))
      (λ p. declared_weigh c.fields c.methods p (λ at r. accepted _ at (repeated_field c at there r)) (λ at r. accepted _ at (repeated_method c at there r)))
  members_once delta (modifies_class change) at_delta at_operation =
      let there = kept_by change_by (operations_of source) (modifies_class change) change (operation_there source delta (modifies_class change) at_delta at_operation) refl in
      once_by_pieces (λ (m : MemberOperation). piece (does m)) change.members
      (λ p. members_weigh change.members p (change_fields change there) (change_methods change there))
  members_once delta (removes_class c) at_delta at_operation = once_by_pieces (λ (m : MemberOperation). piece (does m)) [] (λ p. omega arith)

  pub items_once : OnceBy (λ (i : Item). i.delta.text) (items_of source)
  items_once = once_of (λ (i : Item). i.delta) (items_of source) (λ at r. accepted _ at (delta_placed_twice at r))

  pub parts_once : NamesStandOnce (map (λ (p : Part). p.name) source.parts)
  parts_once at r = accepted _ at (repeated_part at r)

  pub stand_once : StandOnce source
  stand_once = record {
    features = once_named source.features (λ at r. accepted _ at (repeated_feature at r));
    deltas = once_of (λ (d : Delta). d.name) source.deltas (λ at r. accepted _ at (repeated_delta at r));
    items = items_once;
    parts = once_of (λ (p : Part). p.name) source.parts parts_once;
    operations = λ delta there. once_of class_name delta.operations (λ at r. accepted _ at (repeated_class_operation delta at there r));
    steps = steps_once;
    members = members_once;
    parameters = λ method there. once_of (λ (p : Field). p.name) method.parameters (λ at r. accepted _ at (repeated_parameter method at there r));
  }

  -- ---- where a delta is placed

  pub placed : (delta : Delta) → Contains source.deltas delta → (part : Part) × ((item : Item) × IsPlaced source part item delta)
  placed delta there = by_name (is_named (map (λ (i : Item). i.delta) (items_of source)) delta.name.text) refl
    where
      by_name : (b : Bool) → is_named (map (λ (i : Item). i.delta) (items_of source)) delta.name.text ≡ b → (part : Part) × ((item : Item) × IsPlaced source part item delta)
      by_name false e = absurd (accepted _ delta.name.at (delta_not_placed delta there e))
      by_name true e =
          let x = named_from (map (λ (i : Item). i.delta) (items_of source)) delta.name.text e in
          let i = mapped_from (λ (i : Item). i.delta) (items_of source) x.0 x.1 in
          let p = from_flat (λ (p : Part). p.items) source.parts i.0 i.1 in
          (p.0, (i.0, record { part_there = p.1; item_there = p.2; names = ap (λ (y : Spot). y.text) i.2 ∙ x.2 }))

  abbrev by_delta : Delta → Item → ℕ
  by_delta delta i = bit (bytes_eq delta.name.text i.delta.text)

  placed_weighs : (delta : Delta) → weigh (λ (p : Part). weigh (by_delta delta) p.items) source.parts ≤ 1
  placed_weighs delta =
      omega (arith, weigh_flat (by_delta delta) (λ (p : Part). p.items) source.parts, once_weighs (λ (i : Item). i.delta.text) (items_of source) items_once delta.name.text)

  pub placed_once : (p q : Part) (i j : Item) (delta : Delta) → IsPlaced source p i delta → IsPlaced source q j delta → (p ≡ q) × (i ≡ j)
  placed_once p q i j delta one other =
      let part_at = number_in source.parts p one.part_there in
      let other_part_at = number_in source.parts q other.part_there in
      let item_at = number_in p.items i one.item_there in
      let other_item_at = number_in q.items j other.item_there in
      let some = same_text delta.name.text i.delta.text (sym one.names) in
      let other_some = same_text delta.name.text j.delta.text (sym other.names) in
      let parts = one_place (λ (r : Part). weigh (by_delta delta) r.items) source.parts part_at.0 other_part_at.0 p q (placed_weighs delta) part_at.1 other_part_at.1
      (omega (arith, some, weighs_some (by_delta delta) p.items item_at.0 i item_at.1))
      (omega (arith, other_some, weighs_some (by_delta delta) q.items other_item_at.0 j other_item_at.1)) in
      let same_part = one_of source.parts part_at.0 other_part_at.0 p q parts part_at.1 other_part_at.1 in
      let few : weigh (by_delta delta) p.items ≤ 1 = omega (arith, placed_weighs delta, weighs_some (λ (r : Part). weigh (by_delta delta) r.items) source.parts part_at.0 p part_at.1) in
      let other_at = subst (λ (r : Part). slice_get r.items other_item_at.0 ≡ Some j) (sym same_part) other_item_at.1 in
      (same_part, one_of p.items item_at.0 other_item_at.0 i j (one_place (by_delta delta) p.items item_at.0 other_item_at.0 i j few item_at.1 other_at some other_some) item_at.1 other_at)
    where
      one_of : {X : Type 0} (xs : List X) (k m : ℕ) (x y : X) → k ≡ m → slice_get xs k ≡ Some x → slice_get xs m ≡ Some y → x ≡ y
      one_of xs k m x y same at_k at_m = cc
