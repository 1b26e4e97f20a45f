-- From the tables of the code to what they say of the plain line.
use Rattle.std.proofs.Common.{◌≡◌, ℕ, ◌<◌, ◌+◌, ◌-◌, Bool, cond, not, List, [], ◌∷◌, length, map, Option, Some, None, nat_eq, slice_get, unwrap_or, Contains, refl, sym, ap, ◌∙◌, subst, eq-eqb, arith}
use Rattle.std.specs.Prelude.{IfSome, ◌==◌}
use Rattle.std.specs.List.{filter_map, cons_option, list_any, position_or_len}
use Rattle.std.specs.Option.{option_map}
use Rattle.std.specs.Str.{bytes_eq}
use Rattle.std.proofs.lemmas.Option.{slice_get-map, slice_get_within, slice_get_cases}
use Rattle.std.proofs.lemmas.List.Elements.{All-contains}
use Rattle.arena_walk.specs.declared.arena.NodeId.{NodeId}
use Rattle.dj_names.specs.Texts.{AreDistinct}
use Rattle.dj_tree.specs.Trees as plain
use Rattle.dj_tree.specs.Plain.{plain_spot, plain_item, plain_part, plain_formula, plain_source}
use Rattle.dj_tree.specs.WellFormed.{IsKnown, IsItem, IsPart, IsWellFormed}
use Rattle.dj_tree.specs.declared.declarations.Item.{Item}
use Rattle.dj_tree.specs.declared.declarations.PartDecl.{PartDecl}
use Rattle.dj_tree.specs.declared.source.Source.{Source}
use Rattle.dj_calculus.specs.Accepted.{IsAccepted}
use Rattle.dj_calculus.specs.Contents.{items_of}
use Rattle.dj_calculus.specs.Parts.{chain}
use Rattle.dj_calculus.proofs.Members.{mapped, mapped_within, filtered_from, either, within_flat, among_others, mapped_from, from_flat}
use Rattle.dj_conditions.proofs.Names.{number_of}
use Rattle.dj_line.specs.declared.tables.Placing.{Placing}
use Rattle.dj_line.specs.Placing.{delta_number, numbers_of, numbers_along}
use Rattle.dj_line.specs.Numbering.{number_by, HasItems, ArePlaced, StandsAt, when_formula, IsPlaced}
use Rattle.dj_line.proofs.AcceptedLines.{delta_is_placed, named_one, on_chain, item_has_delta}
use Rattle.dj_calculus.proofs.Counting.{number_in, got_within}
use Rattle.dj_line.proofs.DeltaNames.{delta_spots, delta_keys, spots_known}
use Rattle.dj_line.proofs.DeltaNumbers.{condition_of_item, number_of_delta}
use Rattle.dj_line.proofs.Lists.{any_at}

-- ---- lists

position_map : {X Y : Type 0} (f : X → Y) (p : Y → Bool) (xs : List X) → position_or_len (λ x. p (f x)) xs ≡ position_or_len p (map f xs)
position_map f p [] = refl
position_map f p (x ∷ xs) = ap (λ n. cond (not (p (f x))) (1 + n) 0) (position_map f p xs)

same_maps : {X Y Z : Type 0} (f : X → Y) (g : Y → Z) (h : X → Z) (xs : List X) → ((x : X) → Contains xs x → g (f x) ≡ h x) → map g (map f xs) ≡ map h xs
same_maps f g h [] same = refl
same_maps f g h (x ∷ xs) same = ap (λ z. z ∷ map g (map f xs)) (same x (0, omega arith, refl)) ∙ ap (λ zs. h x ∷ zs) (same_maps f g h xs (λ y has. same y (among_others x y xs has)))

pub mapped_at : {X Y : Type 0} (f : X → Y) (xs : List X) (k : ℕ) (x : X) → slice_get xs k ≡ Some x → slice_get (map f xs) k ≡ Some (f x)
mapped_at f xs k x at = slice_get-map f xs k ∙ ap (option_map f) at

module _ (s : Source) (fine : IsWellFormed s) (distinct : AreDistinct s.names) (keys : List ℕ) (are : keys ≡ map (λ d. d.spot.name.0) s.deltas) where
  abbrev line : plain.Source
  line = plain_source s

  -- the number of an item's delta
  pub same_number : (item : Item) → IsKnown s.names item.delta → number_by keys item ≡ delta_number line (plain_spot s.names item.delta).text
  same_number item known =
      let text = (plain_spot s.names item.delta).text in
      let spots = map (λ d. d.spot) s.deltas in
      ap (λ ks. position_or_len (nat_eq item.delta.name.0) ks) (are ∙ delta_keys s.deltas)
      ∙ number_of s.names distinct spots (spots_known s.names s.exprs s.deltas fine.deltas) item.delta known
      ∙ ap (λ names. position_or_len (λ (f : plain.Spot). bytes_eq f.text text) names) (delta_spots s.names s.exprs s.deltas)
      ∙ sym (position_map (λ (d : plain.Delta). d.name) (λ (f : plain.Spot). bytes_eq f.text text) line.deltas)

  pub item_known : (k : ℕ) (part : PartDecl) (item : Item) → slice_get s.parts k ≡ Some part → Contains part.items item → IsItem s.names s.formulas item
  item_known k part item at has =
      let is_part = All-contains (IsPart s.names s.formulas) s.parts part fine.parts (got_within s.parts k part at) in
      All-contains (IsItem s.names s.formulas) part.items item is_part.items has

  part_numbers : (k : ℕ) (part : PartDecl) → slice_get s.parts k ≡ Some part → map (number_by keys) part.items ≡ numbers_of line (plain_part s.names s.formulas part)
  part_numbers k part at =
      sym (same_maps (plain_item s.names s.formulas) (λ i. delta_number line i.delta.text) (number_by keys) part.items (λ item has. sym (same_number item (item_known k part item at has).delta)))

  -- ---- the numbers of each part's deltas

  abbrev One : ℕ → Option (List ℕ)
  One k = option_map (λ p. map (number_by keys) p.items) (slice_get s.parts k)

  pub along : (ns : List ℕ) (lists : List (List ℕ)) → HasItems (number_by keys) s.parts ns lists → lists ≡ map (numbers_of line) (filter_map (slice_get line.parts) ns)
  along [] [] has = refl
  along [] (l ∷ lists) has = absurd (cc)
  along (n ∷ ns) [] has = absurd (cc)
  along (n ∷ ns) (l ∷ lists) has =
      let first : Some l ≡ One n = cc in
      let rest : HasItems (number_by keys) s.parts ns lists = cc in
      let p = mapped (λ p. map (number_by keys) p.items) (slice_get s.parts n) l (sym first) in
      let there = mapped_at (plain_part s.names s.formulas) s.parts n p.0 p.1 in
      let here : l ≡ numbers_of line (plain_part s.names s.formulas p.0) = sym p.2 ∙ part_numbers n p.0 p.1 in
      ap (λ x. x ∷ lists) here ∙ ap (λ xs. numbers_of line (plain_part s.names s.formulas p.0) ∷ xs) (along ns lists rest)
      ∙ ap (λ o. map (numbers_of line) (cons_option o (filter_map (slice_get line.parts) ns))) (sym there)

  -- the numbers in the part that an item stands in
  numbers_at : (ns : List ℕ) (lists : List (List ℕ)) → HasItems (number_by keys) s.parts ns lists → (k : ℕ) (item : Item) (at : StandsAt s.parts ns k item) → slice_get lists k ≡ Some (map (number_by keys) at.part.items)
  numbers_at ns lists has k item at =
      let e = slice_get-map Some lists k in
      let f = slice_get-map One ns k ∙ ap (option_map One) at.on_chain ∙ ap Some (ap (option_map (λ p. map (number_by keys) p.items)) at.is_part) in
      let both : option_map Some (slice_get lists k) ≡ Some (Some (map (number_by keys) at.part.items)) = sym e ∙ ap (λ xs. slice_get xs k) has ∙ f in
      let it = mapped Some (slice_get lists k) (Some (map (number_by keys) at.part.items)) both in
      let same : it.0 ≡ map (number_by keys) at.part.items = cc in
      it.1 ∙ ap Some same

  -- ---- where each delta is placed

  module _ (accepted : IsAccepted line) (ns : List ℕ) (on : filter_map (slice_get line.parts) ns ≡ chain line) where
    -- an item of the plain line, in the code
    item_in_code : (item : plain.Item) → Contains (items_of line) item → (k : ℕ) × ((i : Item) × StandsAt s.parts ns k i × (plain_item s.names s.formulas i ≡ item))
    item_in_code item within =
        let p = from_flat (λ (p : plain.Part). p.items) line.parts item within in
        let P : List plain.Part → Type 0 = λ ps. Contains ps p.0 in
        let n = filtered_from (slice_get line.parts) ns p.0 (subst P (sym on) (on_chain line accepted p.0 p.1)) in
        let k = number_in ns n.0 n.1 in
        let q = mapped (plain_part s.names s.formulas) (slice_get s.parts n.0) p.0 (sym (slice_get-map (plain_part s.names s.formulas) s.parts n.0) ∙ n.2) in
        let Q : plain.Part → Type 0 = λ r. Contains r.items item in
        let i = mapped_from (plain_item s.names s.formulas) q.0.items item (subst Q (sym q.2) p.2) in
        (k.0, (i.0, record { number = n.0; part = q.0; on_chain = k.1; is_part = q.1; within = i.1 }, i.2))

    in_line : (k : ℕ) (i : Item) → StandsAt s.parts ns k i → Contains (items_of line) (plain_item s.names s.formulas i)
    in_line k i at =
        within_flat (λ (p : plain.Part). p.items) line.parts (plain_part s.names s.formulas at.part) (plain_item s.names s.formulas i)
        (got_within line.parts at.number (plain_part s.names s.formulas at.part) (mapped_at (plain_part s.names s.formulas) s.parts at.number at.part at.is_part))
        (mapped_within (plain_item s.names s.formulas) at.part.items i at.within)

    -- each delta has an item on the chain
    has_item : (d : ℕ) → d < length line.deltas → (k : ℕ) × ((i : Item) × StandsAt s.parts ns k i × (number_by keys i ≡ d))
    has_item d low =
        either (slice_get_cases line.deltas d).1
        (λ it.
        let named = named_one (λ (i : plain.Item). i.delta) (items_of line) it.0.name.text (delta_is_placed line accepted it.0 (got_within line.deltas d it.0 it.2)) in
        let here = item_in_code named.0 named.1 in
        let i = here.1.0 in
        let at = here.1.1 in
        let text_is : (plain_spot s.names i.delta).text ≡ it.0.name.text = ap (λ (x : plain.Item). x.delta.text) here.1.2 ∙ named.2 in
        let number_is = number_of_delta line accepted d it.0 (plain_spot s.names i.delta).text it.2 (sym text_is) (item_has_delta line accepted (plain_item s.names s.formulas i) (in_line here.0 i at)) in
        (here.0, (i, at, same_number i (item_known at.number at.part i at.is_part at.within).delta ∙ number_is)))
        (λ past. absurd (omega (arith, past.0, low)))

    pub is_placed : (placings : List Placing) (lists : List (List ℕ)) → HasItems (number_by keys) s.parts ns lists → ArePlaced (number_by keys) s.parts ns (length ns) placings
        → (d : ℕ) (p : Placing) → d < length line.deltas → slice_get placings d ≡ Some p → IsPlaced s d p
    is_placed placings lists has placed d p low got =
        either (placed d p got)
        (λ none. let it = has_item d low in absurd (none.1 it.0 it.1.0 (slice_get_within ns it.0 it.1.1.number it.1.1.on_chain) it.1.1 it.1.2))
        (λ some.
        let i = some.0 in
        let at = some.1 in
        let known = item_known at.number at.part i at.is_part at.within in
        let lists_are : lists ≡ numbers_along line = along ns lists has ∙ ap (map (numbers_of line)) on in
        let numbers = map (number_by keys) at.part.items in
        let there : slice_get (numbers_along line) (p.part - 1) ≡ Some numbers = ap (λ xs. slice_get xs (p.part - 1)) (sym lists_are) ∙ numbers_at ns lists has (p.part - 1) i at in
        let place = number_in at.part.items i at.within in
        let named = any_at (λ n. n == d) numbers place.0 (number_by keys i) (mapped_at (number_by keys) at.part.items place.0 i place.1) (eq-eqb (number_by keys i) d some.2) in
        let condition_is = condition_of_item line accepted (plain_item s.names s.formulas i) d (in_line (p.part - 1) i at) (sym (same_number i known.delta) ∙ some.2) in
        record {
          stands = record { counted = some.3; named = ap (λ o. list_any (λ n. n == d) (unwrap_or o [])) there ∙ named };
          condition = ap (when_formula s) some.4 ∙ same_condition i.when ∙ sym condition_is;
          root = let P : Option NodeId → Type 0 = λ o. IfSome o (λ root. root.0 < length s.formulas) in subst P (sym some.4) known.when;
        })
      where
        same_condition : (when : Option NodeId) → when_formula s when ≡ unwrap_or (option_map (λ root. plain_formula s.names s.formulas root.0) when) plain.always
        same_condition None = refl
        same_condition (Some root) = refl
