-- The active deltas of the parts, by their numbers.
use Rattle.std.proofs.Common.{◌≡◌, ℕ, zero, suc, ◌<◌, ◌+◌, Bool, true, false, cond, if◌then◌else◌, List, [], ◌∷◌, ◌++◌, length, map, take, filter, Option, Some, None, slice_get, get_or, unwrap_or, All, Contains, Result, Ok, Err, IfOk, refl, sym, ap, ◌∙◌, subst, arith}
use Rattle.std.specs.List.{filter_map, flat_map, cons_option}
use Rattle.std.specs.Option.{option_map_or}
use Rattle.std.specs.Str.{bytes_eq}
use Rattle.std.proofs.lemmas.List.Elements.{filter-append, filter_map-append}
use Rattle.std.proofs.lemmas.List.{append-nil}
use Rattle.std.proofs.lemmas.List.Folds.{find_at}
use Rattle.std.proofs.lemmas.Grind.{flat_map-append}
use Rattle.dj_tree.specs.Trees.{Delta, Formula, Item, Part, Source, always}
use Rattle.dj_calculus.specs.Accepted.{IsAccepted}
use Rattle.dj_calculus.specs.Configurations.{Configuration, chosen}
use Rattle.dj_calculus.specs.Contents.{items_of}
use Rattle.dj_calculus.specs.Formulas.{value}
use Rattle.dj_calculus.specs.Parts.{chain, active, delta_named, is_on}
use Rattle.dj_calculus.specs.Products.{default_order, IsAllowed}
use Rattle.dj_calculus.proofs.ProductLemmas.{default_along}
use Rattle.dj_calculus.proofs.Members.{among_others}
use Rattle.dj_formula.specs.declared.formula.Formula.{Formula as Gates}
use Rattle.dj_formula.specs.Value.{HasValue}
use Rattle.dj_line.specs.Placing.{delta_number, numbers_of, numbers_along}
use Rattle.dj_line.specs.Orders.{plain_order, is_active}
use Rattle.dj_line.proofs.AcceptedLines.{items_within, numbers_below}
use Rattle.dj_line.proofs.ConfigWords.{one_value}
use Rattle.dj_line.proofs.DeltaNumbers.{condition_of_item}
use Rattle.dj_line.proofs.Lists.{take_one_more}

-- the value that was found
pub value_is : {E : Type 0} (formula : Gates) (c d : Configuration) (b : Bool) (result : Result Bool E) → c ≡ d → HasValue formula c b → IfOk result (HasValue formula d) → IfOk result (λ a. a ≡ b)
value_is formula c d b (Ok a) same has found = one_value formula d c a b (sym same) found has
value_is formula c d b (Err e) same has found = tt

-- one delta more, which is active, or isn't
filter_more : {X : Type 0} (p : X → Bool) (xs : List X) (k : ℕ) (x : X) → slice_get xs k ≡ Some x → filter p (take (k + 1) xs) ≡ filter p (take k xs) ++ cond (p x) (x ∷ []) []
filter_more p xs k x at = ap (filter p) (take_one_more xs k x at) ∙ filter-append p (take k xs) (x ∷ [])

pub filter_on : {X : Type 0} (p : X → Bool) (xs ys after : List X) (k : ℕ) (x : X) → slice_get xs k ≡ Some x → ys ≡ filter p (take k xs) → p x ≡ true → after ≡ ys ++ x ∷ [] → after ≡ filter p (take (k + 1) xs)
filter_on p xs ys after k x at are on pushed = pushed ∙ ap (λ zs. zs ++ x ∷ []) are ∙ ap (λ b. filter p (take k xs) ++ cond b (x ∷ []) []) (sym on) ∙ sym (filter_more p xs k x at)

pub filter_off : {X : Type 0} (p : X → Bool) (xs ys after : List X) (k : ℕ) (x : X) → slice_get xs k ≡ Some x → ys ≡ filter p (take k xs) → p x ≡ false → after ≡ ys → after ≡ filter p (take (k + 1) xs)
filter_off p xs ys after k x at are off same =
    same ∙ are ∙ sym (append-nil (filter p (take k xs))) ∙ ap (λ b. filter p (take k xs) ++ cond b (x ∷ []) []) (sym off) ∙ sym (filter_more p xs k x at)

-- one part more
pub flat_next : {X Y : Type 0} (f : X → List Y) (xs : List X) (ys after more : List Y) (k : ℕ) (x : X) → slice_get xs k ≡ Some x → ys ≡ flat_map f (take k xs) → more ≡ f x → after ≡ ys ++ more → after ≡ flat_map f (take (k + 1) xs)
flat_next f xs ys after more k x at are is pushed =
    pushed ∙ ap (λ zs. zs ++ more) are ∙ ap (λ zs. flat_map f (take k xs) ++ zs) (is ∙ sym (append-nil (f x))) ∙ sym (ap (flat_map f) (take_one_more xs k x at) ∙ flat_map-append f (take k xs) (x ∷ []))

-- what is filtered and joined is below a number, where all is
pub all_append : (n : ℕ) (xs ys : List ℕ) → All (λ k. k < n) xs → All (λ k. k < n) ys → All (λ k. k < n) (xs ++ ys)
all_append n [] ys a b k d low = b k d low
all_append n (x ∷ xs) ys a b zero d low = a 0 d (omega arith)
all_append n (x ∷ xs) ys a b (suc k) d low = all_append n xs ys (λ j e l. a (suc j) e (omega arith)) b k d (omega arith)

pub all_filter : (n : ℕ) (p : ℕ → Bool) (xs : List ℕ) → All (λ k. k < n) xs → All (λ k. k < n) (filter p xs)
all_filter n p [] a = a
all_filter n p (x ∷ xs) a = by_test (p x) (all_filter n p xs (λ j e l. a (suc j) e (omega arith)))
  where
    by_test : (b : Bool) → All (λ k. k < n) (filter p xs) → All (λ k. k < n) (cond b (x ∷ filter p xs) (filter p xs))
    by_test true rest = all_append n (x ∷ []) (filter p xs) (λ j e l. first j e l) rest
      where
        first : (j e : ℕ) → j < 1 → get_or (x ∷ []) j e < n
        first zero e l = a 0 e (omega arith)
        first (suc j) e l = absurd (omega arith)
    by_test false rest = rest

pub all_flat : (n : ℕ) (p : ℕ → Bool) (lists : List (List ℕ)) → ((k : ℕ) (xs : List ℕ) → slice_get lists k ≡ Some xs → All (λ j. j < n) xs) → All (λ j. j < n) (flat_map (filter p) lists)
all_flat n p [] all k d low = absurd (omega arith)
all_flat n p (xs ∷ lists) all k d low = all_append n (filter p xs) (flat_map (filter p) lists) (all_filter n p xs (all 0 xs refl)) (all_flat n p lists (λ k ys at. all (suc k) ys at)) k d low

module _ (source : Source) (accepted : IsAccepted source) (c : Configuration) where
  -- whether an item's delta is active
  item_on : (item : Item) → Contains (items_of source) item → is_active source c (delta_number source item.delta.text) ≡ is_on source c item
  item_on item within = ap (value (chosen source c)) (condition_of_item source accepted item (delta_number source item.delta.text) within refl) ∙ by_condition item.condition
    where
      by_condition : (when : Option Formula) → value (chosen source c) (unwrap_or when always) ≡ option_map_or (value (chosen source c)) when true
      by_condition None = refl
      by_condition (Some formula) = refl

  -- the active deltas of these items
  active_items : (items : List Item) → ((item : Item) → Contains items item → Contains (items_of source) item)
      → plain_order source (filter (is_active source c) (map (λ i. delta_number source i.delta.text) items)) ≡ filter_map (λ i. if is_on source c i then delta_named source i.delta.text else None) items
  active_items [] within = refl
  active_items (i ∷ items) within =
      let n = delta_number source i.delta.text in
      let rest = active_items items (λ j has. within j (among_others i j items has)) in
      by_test (is_active source c n) (is_on source c i) (item_on i (within i (0, omega arith, refl))) rest
    where
      by_test : (a b : Bool) → a ≡ b → plain_order source (filter (is_active source c) (map (λ i. delta_number source i.delta.text) items)) ≡ filter_map (λ i. if is_on source c i then delta_named source i.delta.text else None) items
          → plain_order source (cond a (delta_number source i.delta.text ∷ filter (is_active source c) (map (λ i. delta_number source i.delta.text) items)) (filter (is_active source c) (map (λ i. delta_number source i.delta.text) items)))
          ≡ cons_option (if b then delta_named source i.delta.text else None) (filter_map (λ i. if is_on source c i then delta_named source i.delta.text else None) items)
      by_test true true e rest = ap (λ o. cons_option o (plain_order source (filter (is_active source c) (map (λ i. delta_number source i.delta.text) items)))) (sym (find_at (λ (d : Delta). bytes_eq d.name.text i.delta.text) source.deltas))
          ∙ ap (cons_option (delta_named source i.delta.text)) rest
      by_test true false e rest = absurd (cc)
      by_test false true e rest = absurd (cc)
      by_test false false e rest = rest

  pub active_part : (part : Part) → Contains (chain source) part → plain_order source (filter (is_active source c) (numbers_of source part)) ≡ active source c part
  active_part part on = active_items part.items (λ item has. items_within source part item on has)

  along : (parts : List Part) → ((p : Part) → Contains parts p → Contains (chain source) p) → plain_order source (flat_map (filter (is_active source c)) (map (numbers_of source) parts)) ≡ flat_map (active source c) parts
  along [] on = refl
  along (p ∷ parts) on =
      filter_map-append (slice_get source.deltas) (filter (is_active source c) (numbers_of source p)) (flat_map (filter (is_active source c)) (map (numbers_of source) parts))
      ∙ ap (λ xs. xs ++ plain_order source (flat_map (filter (is_active source c)) (map (numbers_of source) parts))) (active_part p (on p (0, omega arith, refl)))
      ∙ ap (λ xs. active source c p ++ xs) (along parts (λ q has. on q (among_others p q parts has)))

  pub default_is : (deltas : List ℕ) → deltas ≡ flat_map (filter (is_active source c)) (numbers_along source) → plain_order source deltas ≡ default_order source c
  default_is deltas are = ap (plain_order source) are ∙ along (chain source) (λ p has. has)

  pub default_allowed : (deltas : List ℕ) → deltas ≡ flat_map (filter (is_active source c)) (numbers_along source) → IsAllowed source c (plain_order source deltas)
  default_allowed deltas are = subst (λ (order : List Delta). IsAllowed source c order) (sym (default_is deltas are)) (default_along source c (chain source))

  pub default_below : (deltas : List ℕ) → deltas ≡ flat_map (filter (is_active source c)) (numbers_along source) → All (λ k. k < length source.deltas) deltas
  default_below deltas are =
      subst (λ (ns : List ℕ). All (λ k. k < length source.deltas) ns) (sym are) (all_flat (length source.deltas) (is_active source c) (numbers_along source) (λ k numbers at. numbers_below source accepted k numbers at))
