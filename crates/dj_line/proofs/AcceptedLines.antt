-- Facts of accepted lines.
use Rattle.std.proofs.Common.{◌≡◌, ◌⊎◌, inl, inr, ℕ, zero, suc, ◌<◌, ◌≤◌, ◌+◌, Bool, true, false, cond, not, ◌||◌, List, [], ◌∷◌, length, map, Option, Some, None, is_none, slice_get, unwrap_or, Contains, All, refl, sym, ap, ◌∙◌, subst, arith}
use Rattle.std.specs.List.{find, filter_map, position_or_len}
use Rattle.std.specs.Option.{option_map, option_and_then}
use Rattle.std.specs.Str.{bytes_eq}
use Rattle.std.proofs.lemmas.Option.{slice_get-map, slice_get_cases}
use Rattle.std.proofs.lemmas.Slice.Eq.{bytes_eq-Decides}
use Rattle.dj_names.specs.Texts.{Text}
use Rattle.dj_tree.specs.Trees.{Spot, Formula, Delta, Item, Part, Source, always}
use Rattle.dj_calculus.specs.Accepted.{IsAccepted}
use Rattle.dj_calculus.specs.Configurations.{is_named}
use Rattle.dj_calculus.specs.Contents.{items_of, formulas_of}
use Rattle.dj_calculus.specs.Faults.{RepeatedFeature, UnknownFeature, TooManyFeatures, RepeatedDelta, UnknownDelta, DeltaNotPlaced, DeltaPlacedTwice, RepeatedPart, PartsNoChain}
use Rattle.dj_calculus.specs.FaultPlaces.{Repeats, repeated_feature, unknown_feature, too_many_features, repeated_delta, unknown_delta, delta_not_placed, delta_placed_twice, repeated_part, parts_no_chain}
use Rattle.dj_calculus.specs.Formulas.{names_in}
use Rattle.dj_calculus.specs.Parts.{chain, parts_from, first_part, next_part, comes_after}
use Rattle.dj_calculus.proofs.Members.{no_element, first_or_other, among_others, either, mapped, found_within, within_flat, kept_by}
use Rattle.dj_calculus.proofs.PartChain.{chain_is_reached}
use Rattle.dj_line.specs.Placing.{delta_number, numbers_of, numbers_along, is_item_of, formula_of}
use Rattle.dj_line.proofs.Lists.{or_true}
use Rattle.dj_calculus.proofs.Counting.{as_many, got_within, number_in}

-- ---- lists

two_truths : (b : Bool) → (b ≡ false → ⊥) → b ≡ true
two_truths true h = refl
two_truths false h = absurd (h refl)

three_ways : (i j : ℕ) → (i < j → ⊥) → (j < i → ⊥) → i ≡ j
three_ways i j f g = omega (arith, f, g)

-- names that don't repeat are told apart by their texts
once : (names : List Spot) → ((at : ℕ) → ¬ (Repeats names at)) → (i j : ℕ) (x y : Spot) → slice_get names i ≡ Some x → slice_get names j ≡ Some y → x.text ≡ y.text → i ≡ j
once names never i j x y at_i at_j same =
    three_ways i j
    (λ low. never y.at (record { before = i; number = j; earlier = low; x = x; y = y; at_before = at_i; at_number = at_j; same = same; here = refl }))
    (λ low. never x.at (record { before = j; number = i; earlier = low; x = y; y = x; at_before = at_j; at_number = at_i; same = sym same; here = refl }))

mapped_at : {X : Type 0} (f : X → Spot) (xs : List X) (k : ℕ) (x : X) → slice_get xs k ≡ Some x → slice_get (map f xs) k ≡ Some (f x)
mapped_at f xs k x at = slice_get-map f xs k ∙ ap (option_map f) at

-- a name in the list has a number in it
pub number_below : {X : Type 0} (f : X → Spot) (xs : List X) (text : Text) → is_named (map f xs) text ≡ true → position_or_len (λ x. bytes_eq (f x).text text) xs < length xs
number_below f [] text named = absurd (cc)
number_below {X} f (x ∷ xs) text named = first_case (bytes_eq (f x).text text) (number_below f xs text) named
  where
    first_case : (b : Bool) → (is_named (map f xs) text ≡ true → position_or_len (λ (z : X). bytes_eq (f z).text text) xs < length xs) → (b || is_named (map f xs) text) ≡ true
        → cond (not b) (1 + position_or_len (λ (z : X). bytes_eq (f z).text text) xs) 0 < length (x ∷ xs)
    first_case true later e = omega arith
    first_case false later e = omega (arith, later e)

module _ (source : Source) (accepted : IsAccepted source) where
  -- ---- features

  pub names_are_features : (formula : Formula) (x : Spot) → Contains (formulas_of source) formula → Contains (names_in formula) x → is_named source.features x.text ≡ true
  names_are_features formula x in_source in_formula = two_truths _ (λ e. accepted UnknownFeature x.at (unknown_feature formula x in_source in_formula e))

  pub features_once : (i j : ℕ) (x y : Spot) → slice_get source.features i ≡ Some x → slice_get source.features j ≡ Some y → x.text ≡ y.text → i ≡ j
  features_once = once source.features (λ at r. accepted RepeatedFeature at (repeated_feature at r))

  pub few_features : length source.features ≤ 4096
  few_features = either (past_or_at source.features 4096) (λ h. h) (λ at. absurd (accepted TooManyFeatures at.0.at (too_many_features at.0 at.1)))
    where
      past_or_at : (xs : List Spot) (n : ℕ) → (length xs ≤ n) ⊎ ((x : Spot) × (slice_get xs n ≡ Some x))
      past_or_at [] n = inl (omega arith)
      past_or_at (x ∷ xs) zero = inr (x, refl)
      past_or_at (x ∷ xs) (suc n) = either (past_or_at xs n) (λ h. inl (omega (arith, h))) (λ at. inr at)

  -- ---- deltas and items

  pub deltas_once : (i j : ℕ) (d e : Delta) → slice_get source.deltas i ≡ Some d → slice_get source.deltas j ≡ Some e → d.name.text ≡ e.name.text → i ≡ j
  deltas_once i j d e at_i at_j same =
      once (map (λ d. d.name) source.deltas) (λ at r. accepted RepeatedDelta at (repeated_delta at r)) i j d.name e.name
      (mapped_at (λ d. d.name) source.deltas i d at_i) (mapped_at (λ d. d.name) source.deltas j e at_j) same

  pub item_has_delta : (item : Item) → Contains (items_of source) item → delta_number source item.delta.text < length source.deltas
  item_has_delta item within =
      number_below (λ (d : Delta). d.name) source.deltas item.delta.text (two_truths _ (λ e. accepted UnknownDelta item.delta.at (unknown_delta item within e)))

  pub delta_is_placed : (d : Delta) → Contains source.deltas d → is_named (map (λ i. i.delta) (items_of source)) d.name.text ≡ true
  delta_is_placed d within = two_truths _ (λ e. accepted DeltaNotPlaced d.name.at (delta_not_placed d within e))

  -- an item is told by its delta
  pub one_item : (x y : Item) → Contains (items_of source) x → Contains (items_of source) y → x.delta.text ≡ y.delta.text → x ≡ y
  one_item x y has_x has_y same =
      let i = number_in (items_of source) x has_x in
      let j = number_in (items_of source) y has_y in
      let equal = once (map (λ i. i.delta) (items_of source)) (λ at r. accepted DeltaPlacedTwice at (delta_placed_twice at r)) i.0 j.0 x.delta y.delta
      (mapped_at (λ i. i.delta) (items_of source) i.0 x i.1) (mapped_at (λ i. i.delta) (items_of source) j.0 y j.1) same in
      let P : ℕ → Type 0 = λ k. slice_get (items_of source) k ≡ Some x in
      let at_j = subst P equal i.1 in
      let e : Some x ≡ Some y = sym at_j ∙ j.1 in cc

  -- ---- parts

  pub parts_once : (i j : ℕ) (p q : Part) → slice_get source.parts i ≡ Some p → slice_get source.parts j ≡ Some q → p.name.text ≡ q.name.text → i ≡ j
  parts_once i j p q at_i at_j same =
      once (map (λ p. p.name) source.parts) (λ at r. accepted RepeatedPart at (repeated_part at r)) i j p.name q.name
      (mapped_at (λ p. p.name) source.parts i p at_i) (mapped_at (λ p. p.name) source.parts j q at_j) same

-- a part of the chain is a part
from_within : (parts : List Part) (n : ℕ) (o : Option Part) (p : Part) → ((q : Part) → o ≡ Some q → Contains parts q) → Contains (parts_from n parts o) p → Contains parts p
from_within parts zero o p start has = no_element p has
from_within parts (suc n) None p start has = no_element p has
from_within parts (suc n) (Some r) p start has =
    either (first_or_other r p (parts_from n parts (next_part parts r)) has) (λ same. let P : Part → Type 0 = Contains parts in subst P same (start r refl))
    (λ later. from_within parts n (next_part parts r) p (λ q is. found_within (comes_after r) parts q is) later)

pub chain_within : (source : Source) (p : Part) → Contains (chain source) p → Contains source.parts p
chain_within source p has = from_within source.parts (length source.parts) (first_part source.parts) p (λ q is. found_within (λ x. is_none x.after) source.parts q is) has

length-from : (parts : List Part) (n : ℕ) (o : Option Part) → length (parts_from n parts o) ≤ n
length-from parts zero o = omega arith
length-from parts (suc n) None = omega arith
length-from parts (suc n) (Some p) = omega (arith, length-from parts n (next_part parts p))

pub items_within : (source : Source) (p : Part) (item : Item) → Contains (chain source) p → Contains p.items item → Contains (items_of source) item
items_within source p item in_chain in_part = within_flat (λ p. p.items) source.parts p item (chain_within source p in_chain) in_part

-- ---- the chain has each part, once

abbrev NamedOne : {X : Type 0} → (X → Spot) → List X → Text → Type 0
NamedOne {X} f xs text = (x : X) × Contains xs x × ((f x).text ≡ text)

pub named_one : {X : Type 0} (f : X → Spot) (xs : List X) (text : Text) → is_named (map f xs) text ≡ true → NamedOne f xs text
named_one f [] text named = absurd (cc)
named_one {X} f (x ∷ xs) text named = first_case (bytes_eq (f x).text text) refl (named_one f xs text) named
  where
    first_case : (b : Bool) → bytes_eq (f x).text text ≡ b → (is_named (map f xs) text ≡ true → NamedOne f xs text) → (b || is_named (map f xs) text) ≡ true → NamedOne f (x ∷ xs) text
    first_case true is later e = (x, (0, omega arith, refl), (bytes_eq-Decides (f x).text text).0 is)
    first_case false is later e = let it = later e in (it.0, among_others x it.0 xs it.1, it.2)

pub one_named : {X : Type 0} (f : X → Spot) (xs : List X) (x : X) → Contains xs x → is_named (map f xs) (f x).text ≡ true
one_named f [] x has = no_element x has
one_named f (y ∷ xs) x has =
    either (first_or_other y x xs has) (λ same. ap (λ b. b || is_named (map f xs) (f x).text) ((bytes_eq-Decides (f y).text (f x).text).1 (ap (λ z. (f z).text) same)))
    (λ later. or_true (bytes_eq (f y).text (f x).text) (is_named (map f xs) (f x).text) (one_named f xs x later))

module _ (source : Source) (accepted : IsAccepted source) where
  one_part : (p q : Part) → Contains source.parts p → Contains source.parts q → p.name.text ≡ q.name.text → p ≡ q
  one_part p q has_p has_q same =
      let i = number_in source.parts p has_p in
      let j = number_in source.parts q has_q in
      let P : ℕ → Type 0 = λ k. slice_get source.parts k ≡ Some p in
      let at_j = subst P (parts_once source accepted i.0 j.0 p q i.1 j.1 same) i.1 in
      let e : Some p ≡ Some q = sym at_j ∙ j.1 in cc

  pub on_chain : (p : Part) → Contains source.parts p → Contains (chain source) p
  on_chain p has =
      let named = two_truths (is_named (map (λ q. q.name) (chain source)) p.name.text) (λ e.
      accepted PartsNoChain p.name.at (parts_no_chain p has (λ reached.
      let there = one_named (λ (q : Part). q.name) (chain source) p ((chain_is_reached source p (λ at. accepted RepeatedPart at)).1 reached) in cc))) in
      let q = named_one (λ (q : Part). q.name) (chain source) p.name.text named in
      let P : Part → Type 0 = Contains (chain source) in
      subst P (one_part q.0 p (chain_within source q.0 q.1) has q.2) q.1

  pub length-chain : length (chain source) ≡ length source.parts
  length-chain =
      let at_most = length-from source.parts (length source.parts) (first_part source.parts) in
      let at_least = as_many (length source.parts) (chain source) (λ i p. slice_get source.parts i ≡ Some p)
      (λ i low. either (slice_get_cases source.parts i).1 (λ at. (at.0, at.2, on_chain at.0 (got_within source.parts i at.0 at.2))) (λ past. absurd (omega (arith, past.0, low))))
      (λ i j p at_i at_j. parts_once source accepted i j p p at_i at_j refl) in
      omega (arith, at_most, at_least)

  -- ---- numbers of deltas

  all_mapped : {X : Type 0} (f : X → ℕ) (n : ℕ) (xs : List X) → ((x : X) → Contains xs x → f x < n) → All (λ k. k < n) (map f xs)
  all_mapped f n [] all k d low = absurd (omega arith)
  all_mapped f n (x ∷ xs) all zero d low = all x (0, omega arith, refl)
  all_mapped f n (x ∷ xs) all (suc k) d low = all_mapped f n xs (λ y has. all y (among_others x y xs has)) k d (omega arith)

  pub numbers_below : (k : ℕ) (numbers : List ℕ) → slice_get (numbers_along source) k ≡ Some numbers → All (λ n. n < length source.deltas) numbers
  numbers_below k numbers at =
      let p = mapped (numbers_of source) (slice_get (chain source) k) numbers (sym (slice_get-map (numbers_of source) (chain source) k) ∙ at) in
      let P : List ℕ → Type 0 = All (λ n. n < length source.deltas) in
      subst P p.2 (all_mapped (λ i. delta_number source i.delta.text) (length source.deltas) p.0.items
      (λ item has. item_has_delta source accepted item (items_within source p.0 item (got_within (chain source) k p.0 p.1) has)))

  -- ---- formulas

  always_named : (x : Spot) → Contains (names_in always) x → is_named source.features x.text ≡ true
  always_named x has = no_element x has

  condition_named : (o : Option Item) (delta : ℕ) → find (is_item_of source delta) (items_of source) ≡ o → (x : Spot) → Contains (names_in (unwrap_or (option_and_then (λ i. i.condition) o) always)) x → is_named source.features x.text ≡ true
  condition_named None delta found x has = always_named x has
  condition_named (Some item) delta found x has = by_condition item.condition refl has
    where
      by_condition : (when : Option Formula) → item.condition ≡ when → Contains (names_in (unwrap_or when always)) x → is_named source.features x.text ≡ true
      by_condition None is within = always_named x within
      by_condition (Some formula) is within =
          names_are_features source accepted formula x
          (among_others source.valid formula (filter_map (λ i. i.condition) (items_of source)) (kept_by (λ i. i.condition) (items_of source) item formula (found_within (is_item_of source delta) (items_of source) item found) is)) within

  -- each name in a formula of the line is a feature
  pub meant_named : (of : Option ℕ) (x : Spot) → Contains (names_in (formula_of source of)) x → is_named source.features x.text ≡ true
  meant_named None x has = names_are_features source accepted source.valid x (0, omega arith, refl) has
  meant_named (Some delta) x has = condition_named (find (is_item_of source delta) (items_of source)) delta refl x has
