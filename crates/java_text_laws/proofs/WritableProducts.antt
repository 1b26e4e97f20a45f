-- The flat tables of products of laid, accepted lines are writable.
use Rattle.std.proofs.Common.{◌≡◌, ℕ, zero, suc, ◌+◌, ◌-◌, Bool, true, false, cond, ◌==◌, List, [], ◌∷◌, ◌++◌, length, slice_get, Some, Contains, refl, sym, ap, ◌∙◌, subst, arith}
use Rattle.std.proofs.Props.{props}
use mathlib.Core.Logic.{∥∥₁_elim}
use Rattle.std.specs.List.{flat_map}
use Rattle.std.specs.FinMap.{get, entries}
use Rattle.std.proofs.lemmas.List.Elements.{All-contains, Contains-append_left, Contains-append_right}
use Rattle.dj_names.specs.Texts.{Text}
use Rattle.dj_lexer.specs.Symbols.{IsToken}
use Rattle.dj_lexer.specs.declared.token.Dialect.TheVariants.{Line}
use Rattle.arena_walk.specs.Tree.{nodes}
use Rattle.dj_tree.specs.Words.{named}
use Rattle.dj_tree.specs.Trees.{Source}
use Rattle.dj_tree.specs.Spells.{Laid}
use Rattle.dj_calculus.specs.Accepted.{IsAccepted}
use Rattle.dj_calculus.specs.Configurations.{Configuration}
use Rattle.dj_calculus.specs.Products.{Product}
use Rattle.dj_calculus.specs.Tables.{Body, MethodEntry, ClassEntry, Table, texts_of}
use Rattle.dj_calculus.specs.FlatTables.{version_name, version, calling, flat, IsFlat, HasOneBody, names_in_form, names_in_body, names_in_field, names_in_method, names_in_class}
use Rattle.dj_calculus.proofs.MapLemmas.{entry_found, found_entry}
use Rattle.dj_calculus.proofs.Members.{first_or_other, among_others, either, only_one, in_front_or_behind, from_flat, within_flat}
use Rattle.dj_calculus.proofs.SpelledExpressions.{laid_expressions}
use Rattle.dj_calculus_laws.specs.TableLaws.{ProductIsTable, ProductHasDistinct, FlatIsTable, FlatHasDistinct}
use Rattle.dj_calculus_laws.proofs.SpelledNames.{source_says, product_says}
use Rattle.dj_calculus_laws.proofs.FlatTyping.{flat_entry, flat_from, Origin, origin}
use Rattle.java_text_laws.specs.Writable.{IsJavaName}
use Rattle.java_text_laws.specs.Laws.{FlatProductsAreWritable}
use Rattle.java_text_laws.proofs.VersionWords.{version_is_name, line_name, object_is_name}
use Rattle.java_text_laws.proofs.FlatForms.{made_nodes, made_plain}

-- ---- flat tables are flat

got_within : {X : Type 0} (xs : List X) (k : ℕ) (x : X) → slice_get xs k ≡ Some x → Contains xs x
got_within [] k x is = absurd cc
got_within (y ∷ xs) zero x is = (0, omega arith, cc)
got_within (y ∷ xs) (suc k) x is = among_others y x xs (got_within xs k x is)

made_of_one : (c m : Text) (method : MethodEntry) (numbered : ℕ × Body) (n : Text) (x : MethodEntry) → version c m method numbered ≡ (n, x) → HasOneBody x
made_of_one c m method numbered n x is =
    subst (λ (y : Text × MethodEntry). HasOneBody y.1) is (record { names = numbered.1.names; value = calling (version_name c m (numbered.0 - 1)) numbered.1.value }, refl, made_plain (version_name c m (numbered.0 - 1)) numbered.1.value)

flat_is_flat : (t : Table) → IsFlat (flat t)
flat_is_flat t c m x method class_there there =
    let from = flat_from t c x class_there in
    let o = origin c from.0 m method (ap (λ (e : ClassEntry). get e.methods m) from.2 ∙ there) in
    made_of_one c o.m o.method (o.number, o.body) m method o.is

-- ---- names of flat tables

module _ (t : Table) (named_all : (n : Text) → Contains (flat_map names_in_class (entries t)) n → IsJavaName n) where
  module _ (k : Text) (e : ClassEntry) (there : get t k ≡ Some e) where
    in_class : (n : Text) → Contains (names_in_class (k, e)) n → IsJavaName n
    in_class n has = named_all n (within_flat names_in_class (entries t) (k, e) n (found_entry t k e there) has)

    abbrev fields_say : List Text
    fields_say = flat_map names_in_field (entries e.fields)

    abbrev methods_say : List Text
    methods_say = flat_map names_in_method (entries e.methods)

    in_members : (n : Text) → Contains (fields_say ++ methods_say) n → IsJavaName n
    in_members n has = in_class n (among_others k n (e.parent.text ∷ (fields_say ++ methods_say)) (among_others e.parent.text n (fields_say ++ methods_say) has))

    in_method : (m : Text) (method : MethodEntry) → get e.methods m ≡ Some method → (n : Text) → Contains (names_in_method (m, method)) n → IsJavaName n
    in_method m method is n has = in_members n (Contains-append_right fields_say methods_say n (within_flat names_in_method (entries e.methods) (m, method) n (found_entry e.methods m method is) has))

    module _ (n : Text) (x : MethodEntry) (o : Origin k e n x) where
      abbrev before : Text
      before = version_name k o.m (o.number - 1)

      abbrev made : Body
      made = record { names = o.body.names; value = calling before o.body.value }

      class_is : IsJavaName k
      class_is = in_class k (0, omega arith, refl)

      method_is : IsJavaName o.m
      method_is = in_method o.m o.method o.there o.m (0, omega arith, refl)

      in_body : (name : Text) → Contains (names_in_body o.body) name → IsJavaName name
      in_body name has =
          let types = texts_of o.method.signature.parameters in
          let bodies = flat_map names_in_body o.method.bodies in
          let inside = Contains-append_right types bodies name (within_flat names_in_body o.method.bodies o.body name (got_within o.method.bodies o.number o.body o.its) has) in
          in_method o.m o.method o.there name (among_others o.m name (o.method.signature.result.text ∷ (types ++ bodies)) (among_others o.method.signature.result.text name (types ++ bodies) inside))

      in_value : (name : Text) → Contains (flat_map names_in_form (nodes made.value)) name → IsJavaName name
      in_value name has =
          let form = from_flat names_in_form (nodes made.value) name has in
          either ((made_nodes before o.body.value form.0 form.1).named name form.2)
          (λ same. subst IsJavaName (sym same) (version_is_name k o.m (o.number - 1) class_is method_is))
          (λ inner. in_body name (Contains-append_right (texts_of o.body.names) (flat_map names_in_form (nodes o.body.value)) name (within_flat names_in_form (nodes o.body.value) inner.0 name inner.1 inner.2)))

      in_made : (name : Text) → Contains (names_in_body made) name → IsJavaName name
      in_made name has =
          either (in_front_or_behind (texts_of o.body.names) (flat_map names_in_form (nodes made.value)) name has)
          (λ among. in_body name (Contains-append_left (texts_of o.body.names) (flat_map names_in_form (nodes o.body.value)) name among)) (in_value name)

      its_name : (b : Bool) → IsJavaName (cond b o.m (version_name k o.m o.number))
      its_name true = method_is
      its_name false = version_is_name k o.m o.number class_is method_is

      in_version : (name : Text) → Contains (names_in_method (version k o.m o.method (o.number, o.body))) name → IsJavaName name
      in_version name has =
          let types = texts_of o.method.signature.parameters in
          let bodies = flat_map names_in_body o.method.bodies in
          let own = (version k o.m o.method (o.number, o.body)).0 in
          let result = o.method.signature.result.text in
          let mades = flat_map names_in_body (made ∷ []) in
          either (first_or_other own name (result ∷ (types ++ mades)) has) (λ same. subst IsJavaName same (its_name (o.number + 1 == length o.method.bodies)))
          (λ more. either (first_or_other result name (types ++ mades) more) (λ same. subst IsJavaName same (in_method o.m o.method o.there result (1, omega arith, refl)))
          (λ rest. either (in_front_or_behind types mades name rest)
          (λ typed_by. in_method o.m o.method o.there name (among_others o.m name (result ∷ (types ++ bodies)) (among_others result name (types ++ bodies) (Contains-append_left types bodies name typed_by))))
          (λ within. let body = from_flat names_in_body (made ∷ []) name within in in_made name (subst (λ b. Contains (names_in_body b) name) (sym (only_one made body.0 body.1)) body.2))))

      in_its_method : (name : Text) → Contains (names_in_method (n, x)) name → IsJavaName name
      in_its_method name has = in_version name (subst (λ y. Contains (names_in_method y) name) (sym o.is) has)

    in_flat_class : (name : Text) → Contains (names_in_class (k, flat_entry k e)) name → IsJavaName name
    in_flat_class name has =
        let flats = flat_map names_in_method (entries (flat_entry k e).methods) in
        either (first_or_other k name (e.parent.text ∷ (fields_say ++ flats)) has) (λ same. subst IsJavaName same (in_class k (0, omega arith, refl)))
        (λ more. either (first_or_other e.parent.text name (fields_say ++ flats) more) (λ same. subst IsJavaName same (in_class e.parent.text (1, omega arith, refl)))
        (λ rest. either (in_front_or_behind fields_say flats name rest) (λ in_field. in_members name (Contains-append_left fields_say methods_say name in_field))
        (λ in_flat.
        let y = from_flat names_in_method (entries (flat_entry k e).methods) name in_flat in
        in_its_method y.0.0 y.0.1 (origin k e y.0.0 y.0.1 (entry_found (flat_entry k e).methods y.0.0 y.0.1 y.1)) name y.2)))

  flat_names : (name : Text) → Contains (flat_map names_in_class (entries (flat t))) name → IsJavaName name
  flat_names name has =
      let class = from_flat names_in_class (entries (flat t)) name has in
      let from = flat_from t class.0.0 class.0.1 (entry_found (flat t) class.0.0 class.0.1 class.1) in
      in_flat_class class.0.0 from.0 from.1 name (subst (λ y. Contains (names_in_class (class.0.0, y)) name) (sym from.2) class.2)

-- ---- products

pub product_names : (source : Source) (c : Configuration) (t : Table) → Laid source → IsAccepted source → Product source c t
    → (name : Text) → Contains (flat_map names_in_class (entries t)) name → IsJavaName name
product_names source c t laid accepted product name has =
    All-contains IsJavaName (flat_map names_in_class (entries t)) name
    (product_says IsJavaName source
    (source_says IsJavaName laid.tokens (λ x free within. line_name x free (All-contains (IsToken Line) laid.tokens (named x) laid.are_tokens.each within)) source laid.spelled)
    object_is_name accepted c t product) has

IsJavaName-prop : (name : Text) → IsProp (IsJavaName name)
IsJavaName-prop name = hlevel props

-- that some tokens spell the source is enough, whichever they are
pub flat_products_are_writable : ProductIsTable → FlatIsTable → ProductHasDistinct → FlatHasDistinct → FlatProductsAreWritable
flat_products_are_writable product_is_table flat_is_table product_is_distinct flat_is_distinct source c t laid accepted product = record {
  table = flat_is_table t (product_is_table source c t accepted (laid_expressions source laid) product);
  flat = flat_is_flat t;
  distinct = flat_is_distinct t (product_is_distinct source c t accepted product);
  names = λ name has. ∥∥₁_elim laid (IsJavaName-prop name) (λ it. flat_names t (product_names source c t it accepted product) name has);
}
