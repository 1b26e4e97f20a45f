-- The tables as they are filled, turn by turn.
use Rattle.std.proofs.Common.{◌≡◌, inl, inr, ℕ, zero, suc, ◌<◌, ◌+◌, ◌-◌, cond, List, [], ◌∷◌, ◌++◌, length, map, take, set, Some, None, slice_get, Contains, refl, sym, ap, ◌∙◌, subst, eqb, arith}
use Rattle.std.specs.List.{list_any}
use Rattle.std.specs.Option.{option_map}
use Rattle.std.proofs.lemmas.Bool.{eqb-true}
use Rattle.std.proofs.lemmas.List.{map-append}
use Rattle.std.proofs.lemmas.Option.{slice_get-map}
use Rattle.dj_calculus.proofs.Members.{either}
use Rattle.dj_calculus.proofs.Counting.{earlier_or_last}
use Rattle.dj_tree.specs.declared.declarations.Item.{Item}
use Rattle.dj_line.specs.declared.tables.Placing.{Placing}
use Rattle.dj_tree.specs.declared.declarations.PartDecl.{PartDecl}
use Rattle.dj_line.specs.Numbering.{StandOnce, IsSetTo, HasItems, ArePlaced, StandsAt}
use Rattle.dj_line.proofs.Lists.{earlier, get_set_same, get_set_other, eq_or_not, take_one_more, within_more, within_last, within_front}
use Rattle.dj_line.proofs.NumberNamed.{one_truth}

pub map_more : {X Y : Type 0} (f : X → Y) (xs : List X) (k : ℕ) (x : X) → slice_get xs k ≡ Some x → map f (take (k + 1) xs) ≡ map f (take k xs) ++ f x ∷ []
map_more f xs k x at = ap (map f) (take_one_more xs k x at) ∙ map-append f (take k xs) (x ∷ [])

take_mapped : {X Y : Type 0} (f : X → Y) (xs : List X) (k : ℕ) → take k (map f xs) ≡ map f (take k xs)
take_mapped f xs zero = refl
take_mapped f [] (suc k) = refl
take_mapped f (x ∷ xs) (suc k) = ap (λ ys. f x ∷ ys) (take_mapped f xs k)

-- one key more, which is new
pub keys_next : {X : Type 0} (f : X → ℕ) (xs : List X) (k : ℕ) (x : X) (keys after : List ℕ) → StandOnce (map f xs) → slice_get xs k ≡ Some x → keys ≡ map f (take k xs)
    → after ≡ cond (list_any (eqb (f x)) keys) keys (keys ++ f x ∷ []) → after ≡ map f (take (k + 1) xs)
keys_next f xs k x keys after once at are is =
    let here : slice_get (map f xs) k ≡ Some (f x) = slice_get-map f xs k ∙ ap (option_map f) at in
    let fresh = one_truth (list_any (eqb (f x)) (take k (map f xs))) (λ e.
    let it = earlier (eqb (f x)) (map f xs) k e in
    let same = once it.0 k (f x) (it.2.1 ∙ ap Some (sym (eqb-true (f x) it.2.0 it.2.2))) here in
    omega (arith, it.1, same)) in
    is ∙ ap (λ b. cond b keys (keys ++ f x ∷ [])) (ap (list_any (eqb (f x))) (are ∙ sym (take_mapped f xs k)) ∙ fresh) ∙ ap (λ ks. ks ++ f x ∷ []) are ∙ sym (map_more f xs k x at)

-- one item more is placed
pub set_next : (old placings : List Placing) (number : Item → ℕ) (items : List Item) (part k n : ℕ) (item : Item) (new : Placing) → slice_get items k ≡ Some item → n ≡ number item → n < length placings → new.part ≡ part → new.when ≡ item.when
    → ((delta : ℕ) (p : Placing) → slice_get placings delta ≡ Some p → IsSetTo old number (take k items) part delta p)
    → (delta : ℕ) (p : Placing) → slice_get (set placings n new) delta ≡ Some p → IsSetTo old number (take (k + 1) items) part delta p
set_next old placings number items part k n item new at is_n low is_part is_when each delta p got =
    either (eq_or_not delta n)
    (λ same.
    let e : Some new ≡ Some p = sym (get_set_same placings n new low) ∙ ap (slice_get (set placings n new)) (sym same) ∙ got in
    let one : new ≡ p = cc in
    inr (item, within_last items k item at, sym is_n ∙ sym same, ap (λ (q : Placing). q.part) (sym one) ∙ is_part, ap (λ (q : Placing). q.when) (sym one) ∙ is_when))
    (λ ne. either (each delta p (sym (get_set_other placings n delta new ne) ∙ got))
    (λ before. inl (before.0, λ other has is. either (within_more items k item other at has) (λ front. before.1 other front is) (λ last. ne (sym is ∙ ap number (sym last) ∙ sym is_n))))
    (λ set_by. inr (set_by.0, within_front items k item set_by.0 at set_by.1, set_by.2, set_by.3, set_by.4)))

-- what stands past the end of a list of items
abbrev pub no_item : Item
no_item = record { delta = record { name = record { 0 = 0 }; at = 0 }; when = None }

-- one value more is pushed
pub pushed_next : {X Y : Type 0} (f : X → Y) (xs : List X) (k : ℕ) (x : X) (ys after : List Y) (y : Y) → slice_get xs k ≡ Some x → ys ≡ map f (take k xs) → y ≡ f x → after ≡ ys ++ y ∷ [] → after ≡ map f (take (k + 1) xs)
pushed_next f xs k x ys after y at are is pushed = pushed ∙ ap (λ zs. zs ++ y ∷ []) are ∙ ap (λ z. map f (take k xs) ++ z ∷ []) is ∙ sym (map_more f xs k x at)

-- ---- along the chain

module _ (number : Item → ℕ) (parts : List PartDecl) (chain : List ℕ) (k n : ℕ) (part : PartDecl) (at : slice_get chain k ≡ Some n) (is_part : slice_get parts n ≡ Some part) where
  pub items_next : (lists after : List (List ℕ)) (ns : List ℕ) → ns ≡ map number part.items → after ≡ lists ++ ns ∷ [] → HasItems number parts (take k chain) lists → HasItems number parts (take (k + 1) chain) after
  items_next lists after ns are pushed has =
      ap (map Some) pushed ∙ map-append Some lists (ns ∷ []) ∙ ap (λ xs. xs ++ Some ns ∷ []) has
      ∙ ap (λ o. map (λ m. option_map (λ p. map number p.items) (slice_get parts m)) (take k chain) ++ o ∷ []) (ap Some are ∙ sym (ap (option_map (λ p. map number p.items)) is_part))
      ∙ sym (map_more (λ m. option_map (λ p. map number p.items) (slice_get parts m)) chain k n at)

  pub placed_next : (old new : List Placing) → ((delta : ℕ) (p : Placing) → slice_get new delta ≡ Some p → IsSetTo old number part.items (k + 1) delta p) → ArePlaced number parts chain k old → ArePlaced number parts chain (k + 1) new
  placed_next old new each placed delta p got =
      either (each delta p got)
      (λ same. either (placed delta p same.0)
      (λ none. inl (none.0, λ j item low stands is. either (earlier_or_last j k low) (λ before. none.1 j item before stands is) (λ here. same.1 item (in_part j item here stands) is)))
      (λ some. inr some))
      (λ set_by.
      let number_is : k ≡ p.part - 1 = omega (arith, set_by.3) in
      inr (set_by.0, subst (λ (j : ℕ). StandsAt parts chain j set_by.0) number_is (record { number = n; part = part; on_chain = at; is_part = is_part; within = set_by.1 }), set_by.2, omega (arith, set_by.3), set_by.4))
    where
      in_part : (j : ℕ) (item : Item) → j ≡ k → StandsAt parts chain j item → Contains part.items item
      in_part j item same stands =
          let e : Some stands.number ≡ Some n = sym stands.on_chain ∙ ap (slice_get chain) same ∙ at in
          let one : stands.number ≡ n = cc in
          let f : Some stands.part ≡ Some part = sym stands.is_part ∙ ap (slice_get parts) one ∙ is_part in
          let equal : stands.part ≡ part = cc in
          let P : PartDecl → Type 0 = λ q. Contains q.items item in
          subst P equal stands.within

-- what was lent comes back whole
pub lent_back : {X : Type 0} (len : ℕ) (new rest : List X) → length new ≡ len → take len (new ++ rest) ≡ new
lent_back len new rest e = ap (λ n. take n (new ++ rest)) (sym e) ∙ front new rest
  where
    front : {X : Type 0} (xs ys : List X) → take (length xs) (xs ++ ys) ≡ xs
    front [] ys = refl
    front (x ∷ xs) ys = ap (λ zs. x ∷ zs) (front xs ys)
