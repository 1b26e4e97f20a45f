-- The classes of a table by their names.
use Rattle.std.proofs.Common.{◌≡◌, ℕ, ◌<◌, List, [], ◌∷◌, map, Option, Some, None, length, slice_get, get_or, refl, sym, ap, ◌∙◌, subst, arith}
use Rattle.std.specs.Prelude.{IsSome, All}
use Rattle.std.specs.FinMap.{get}
use Rattle.std.proofs.lemmas.List.Elements.{All-get_or}
use Rattle.std.proofs.lemmas.List.{length-map}
use Rattle.std.proofs.lemmas.Option.{slice_get_within, slice_get-get_or, get_or_from_slice_get}
use Rattle.dj_names.specs.Texts.{Text}
use Rattle.dj_tree.specs.declared.expression.ExprNode.{ExprNode}
use Rattle.dj_calculus.specs.Tables as calculus
use Rattle.ifj_table.specs.Sorted.{AreRising, IsGap}
use Rattle.ifj_table.specs.Entries.{text_at, plain_class, classes_of}
use Rattle.ifj_table.specs.Held.{IsClassEntry, AreClasses}
use Rattle.ifj_table.specs.declared.entry.ClassEntry.{ClassEntry}
use Rattle.ifj_table.proofs.EntryMaps.{got_at, missing_in_gap, none_there, entry_there}

abbrev pub class_key : List Text → ClassEntry → Text
class_key names c = text_at names c.spot

-- an element at a number that lies within
pub element_is : {X : Type 0} (xs : List X) (at : ℕ) (x : X) → at < length xs → x ≡ get_or xs at x → slice_get xs at ≡ Some x
element_is xs at x low is = slice_get-get_or xs at x low ∙ ap Some (sym is)

-- what holds of all entries holds of the one at a number
pub all_at : {X : Type 0} (P : X → Type 0) (xs : List X) (at : ℕ) (x : X) → All P xs → slice_get xs at ≡ Some x → P x
all_at P xs at x all here = subst P (get_or_from_slice_get xs at x x here) (All-get_or P xs at x (slice_get_within xs at x here) all)

-- a place among the keys is one among the entries
pub place_within : {E : Type 0} (key : E → Text) (es : List E) (at : ℕ) (k : Text) → slice_get (map key es) at ≡ Some k → at < length es
place_within key es at k here = omega (arith, slice_get_within (map key es) at k here, length-map es key)

module _ (names : List Text) (exprs : List ExprNode) (classes : List ClassEntry) (held : AreClasses names exprs classes) where
  -- the class at the place of a key
  pub class_at : (at : ℕ) (k : Text) → slice_get (map (class_key names) classes) at ≡ Some k
      → (c : ClassEntry) × (slice_get classes at ≡ Some c) × (class_key names c ≡ k) × (get (classes_of names exprs classes) k ≡ Some (plain_class names exprs c))
  class_at at k here = got_at (class_key names) (plain_class names exprs) classes at k held.rising here

  -- the same of an element that was read there
  pub class_read : (at : ℕ) (k : Text) (c : ClassEntry) → slice_get (map (class_key names) classes) at ≡ Some k → c ≡ get_or classes at c
      → get (classes_of names exprs classes) k ≡ Some (plain_class names exprs c)
  class_read at k c here is =
      let it = class_at at k here in
      let there = element_is classes at c (place_within (class_key names) classes at k here) is in
      let same : it.0 ≡ c = cc in
      subst (λ (d : ClassEntry). get (classes_of names exprs classes) k ≡ Some (plain_class names exprs d)) same it.3

  pub no_class : (at : ℕ) (k : Text) → IsGap (map (class_key names) classes) k at → get (classes_of names exprs classes) k ≡ None
  no_class at k gap = missing_in_gap (class_key names) (plain_class names exprs) classes k at gap

  pub class_absent : (k : Text) (at : ℕ) → get (classes_of names exprs classes) k ≡ None → ¬ (slice_get (map (class_key names) classes) at ≡ Some k)
  class_absent k at none here = none_there (class_key names) (plain_class names exprs) classes k at held.rising none here

  pub class_there : (k : Text) → IsSome (get (classes_of names exprs classes) k) → (at : ℕ) × (slice_get (map (class_key names) classes) at ≡ Some k)
  class_there k some = entry_there (class_key names) (plain_class names exprs) classes k some
