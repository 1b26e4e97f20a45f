-- The fields, and the methods, among the members of a class.
use Rattle.std.proofs.Common.{◌≡◌, ℕ, ◌+◌, ◌<◌, ◌≤◌, List, [], ◌∷◌, ◌++◌, length, get_or, take, drop, map, refl, sym, ap, subst, ◌∙◌}
use Rattle.std.proofs.lemmas.List.{take_all, map-append}
use Rattle.dj_names.specs.Texts.{Text}
use Rattle.dj_tree.specs.Trees.{Field, Method}
use Rattle.dj_tree.specs.ClassGrammar.{Member, field_member, method_member, fields_of, methods_of}
use Rattle.dj_parser.specs.Said.{said_each}
use Rattle.dj_parser.specs.Growth.{CanSay, Grew}
use Rattle.dj_parser.specs.declared.tables.Tables.{Tables}
use Rattle.dj_parser.proofs.Growing.{can_first, can_then, grew_then}
use Rattle.dj_parser.proofs.Loops.{one_more, split, said_append}

pub fields_append : (xs ys : List Member) → fields_of (xs ++ ys) ≡ fields_of xs ++ fields_of ys
fields_append [] ys = refl
fields_append (field_member f ∷ xs) ys = ap (λ (fs : List Field). f ∷ fs) (fields_append xs ys)
fields_append (method_member m ∷ xs) ys = fields_append xs ys

pub methods_append : (xs ys : List Member) → methods_of (xs ++ ys) ≡ methods_of xs ++ methods_of ys
methods_append [] ys = refl
methods_append (field_member f ∷ xs) ys = methods_append xs ys
methods_append (method_member m ∷ xs) ys = ap (λ (ms : List Method). m ∷ ms) (methods_append xs ys)

pub all_of : {A X : Type 0} (pick : List Member → List X) (view : A → Member) (raws : List A) (i : ℕ) → length raws ≤ i → pick (map view (take i raws)) ≡ pick (map view raws)
all_of pick view raws i end = ap (λ xs. pick (map view xs)) (take_all i raws end)

module _ {A X : Type 0} (pick : List Member → List X) (pick_append : (xs ys : List Member) → pick (xs ++ ys) ≡ pick xs ++ pick ys) where
  pub next_of : (view : A → Member) (raws : List A) (i : ℕ) (x : A) → i < length raws → x ≡ get_or raws i x
      → pick (map view (take (i + 1) raws)) ≡ pick (map view (take i raws)) ++ pick (view x ∷ [])
  next_of view raws i x below is =
      ap (λ xs. pick (map view xs)) (one_more raws i x below is) ∙ ap pick (map-append view (take i raws) (x ∷ [])) ∙ pick_append (map view (take i raws)) (view x ∷ [])

  split_of : (view : A → Member) (raws : List A) (i : ℕ) (x : A) → i < length raws → x ≡ get_or raws i x
      → pick (map view raws) ≡ pick (map view (take i raws)) ++ (pick (view x ∷ []) ++ pick (map view (drop (i + 1) raws)))
  split_of view raws i x below is =
      ap (λ xs. pick (map view xs)) (split raws i x below is) ∙ ap pick (map-append view (take i raws) (x ∷ drop (i + 1) raws))
      ∙ pick_append (map view (take i raws)) (view x ∷ map view (drop (i + 1) raws))
      ∙ ap (λ (ys : List X). pick (map view (take i raws)) ++ ys) (pick_append (view x ∷ []) (map view (drop (i + 1) raws)))

  module _ (says : X → List Text) (view : A → Member) (raws : List A) (i : ℕ) (x : A) (below : i < length raws) (is : x ≡ get_or raws i x) where
    pub can_next_of : {old now : Tables} → CanSay old (said_each says (pick (map view raws))) → Grew old now (said_each says (pick (map view (take i raws))))
        → CanSay now (said_each says (pick (view x ∷ [])))
    can_next_of {old = old} can grew =
        let front = pick (map view (take i raws)) in
        let here = pick (view x ∷ []) in
        let rest = pick (map view (drop (i + 1) raws)) in
        let parts : said_each says (pick (map view raws)) ≡ said_each says front ++ (said_each says here ++ said_each says rest) =
        ap (said_each says) (split_of view raws i x below is) ∙ said_append says front (here ++ rest) ∙ ap (λ (ts : List Text). said_each says front ++ ts) (said_append says here rest) in
        can_first _ (can_then _ (subst (λ texts. CanSay old texts) parts can) grew)

    pub grew_next_of : {old now new : Tables} → Grew old now (said_each says (pick (map view (take i raws)))) → Grew now new (said_each says (pick (view x ∷ [])))
        → Grew old new (said_each says (pick (map view (take (i + 1) raws))))
    grew_next_of {old = old} {new = new} grew more =
        let parts : said_each says (pick (map view (take (i + 1) raws))) ≡ said_each says (pick (map view (take i raws))) ++ said_each says (pick (view x ∷ [])) =
        ap (said_each says) (next_of view raws i x below is) ∙ said_append says (pick (map view (take i raws))) (pick (view x ∷ [])) in
        subst (λ texts. Grew old new texts) (sym parts) (grew_then grew more)
