-- The forms of tables: of products, of Java files, of flat tables.
use Rattle.std.proofs.Common.{◌≡◌, ℕ, ◌+◌, ◌<◌, Bool, true, false, ◌&&◌, ◌||◌, List, [], ◌∷◌, ◌++◌, length, slice_get, Option, Some, None, Contains, refl, sym, ap, ◌∙◌, subst, arith, length-append}
use Rattle.std.specs.Bool.{if◌then◌else◌}
use Rattle.std.specs.List.{list_any, enumerate_from}
use Rattle.std.specs.FinMap.{get, entries, from_entries}
use Rattle.std.proofs.lemmas.List.{length-map}
use Rattle.std.proofs.lemmas.List.Elements.{Contains-append_left, Contains-append_right}
use Rattle.dj_names.specs.Texts.{Text}
use Rattle.arena_walk.specs.Tree.{Trees, branch, no_trees, tree_and, trees_of, nodes, fold_each}
use Rattle.dj_tree.specs.Trees.{Spot, Expr, ExprForm, VariableForm, ThisForm, NullForm, FieldForm, CallForm, NewForm, CastForm, AssignForm, OriginalForm, Method, Class, Source}
use Rattle.dj_calculus.specs.Maps.{text_cmp}
use Rattle.dj_calculus.specs.Configurations.{Configuration}
use Rattle.dj_calculus.specs.Parts.{chain}
use Rattle.dj_calculus.specs.Contents.{new_methods, modified_methods}
use Rattle.dj_calculus.specs.Accepted.{IsAccepted}
use Rattle.dj_calculus.specs.Faults.{RepeatedParameter, OriginalOutside}
use Rattle.dj_calculus.specs.FaultPlaces.{Repeats, repeated_parameter, original_outside}
use Rattle.dj_calculus.specs.Tables.{Signature, Body, MethodEntry, ClassEntry, Table, empty_table}
use Rattle.dj_calculus.specs.Entries.{signature_of, body_of, method_entry, class_entry, same_types, same_signature, is_original, says_original}
use Rattle.dj_calculus.specs.Operations.{modify}
use Rattle.dj_calculus.specs.Products.{Product}
use Rattle.dj_calculus.specs.Subclasses.{object}
use Rattle.dj_calculus.specs.Expressions.{takes, is_expression, are_expressions, IsExpression, HasExpressions, HaveExpressions}
use Rattle.dj_calculus.specs.TableForms.{EachMethod, EachBody, HasBody, IsMethod, IsTable, HasDistinctParameters}
use Rattle.dj_calculus.specs.FlatTables.{calling_over, calling, version, versions, flat_class, flat, BeginsPlainly}
use Rattle.dj_calculus.specs.JavaFiles.{RepeatedClass, RepeatedParameter as JavaParameter, object_class, repeated_parameter as java_parameter, table_of}
use Rattle.dj_calculus.proofs.MapLemmas.{text_get-empty, found_in_entries, entry_found}
use Rattle.dj_calculus.proofs.Members.{no_element, first_or_other, among_others, either, only_one, mapped_from, from_flat}
use Rattle.dj_calculus.proofs.Chains.{none_or_value}
use Rattle.dj_calculus.proofs.ExpressionForms.{both_of}
use Rattle.dj_calculus.proofs.FormedProducts.{modified, modified_bodies}
use Rattle.dj_calculus.proofs.GoodLemmas.{product_lacks}
use Rattle.dj_calculus.proofs.ProductsKeep.{EachValue, Declares, made_is}
use Rattle.dj_calculus_laws.specs.TableLaws.{HasNoFault}

-- ---- the methods that a source declares

-- P holds of each method of a product, where it does of each new method, and of a modified one if it did before
module _ (P : MethodEntry → Type 0) (source : Source) (new_is : (m : Method) → Contains (new_methods source) m → P (method_entry m))
    (modified_is : (m : Method) (old new : MethodEntry) → Contains (modified_methods source) m → modify m old ≡ Some new → P old → P new) where
  declares : Declares (λ k. Unit {0}) (λ p. Unit {0}) (λ f x. Unit {0}) (λ m x. P x) source
  declares =
      record {
        class_names = λ c of. tt;
        parents = λ c of. tt;
        new_parents = λ c p of e. tt;
        fields = λ c f of within. tt;
        new_fields = λ c f of within. tt;
        methods = new_is;
        modified = modified_is;
      }

  pub each_method : IsAccepted source → (c : Configuration) (t : Table) → Product source c t → EachMethod t P
  each_method accepted c t product k m entry method is has =
      (made_is (λ k. Unit {0}) (λ p. Unit {0}) (λ f x. Unit {0}) (λ m x. P x) source declares accepted c (chain source) t product k entry is).methods m method has

-- ---- methods

same_length : (xs ys : List Spot) → same_types xs ys ≡ true → length xs ≡ length ys
same_length [] [] e = refl
same_length [] (y ∷ ys) e = absurd cc
same_length (x ∷ xs) [] e = absurd cc
same_length (x ∷ xs) (y ∷ ys) e = omega (arith, same_length xs ys (both_of _ (same_types xs ys) e).1)

new_body : (m : Method) → IsExpression m.body → HasBody (signature_of m) (body_of m)
new_body m is = record { expression = is; count = length-map m.parameters (λ p. p.name) ∙ sym (length-map m.parameters (λ p. p.kind)) }

new_method : (m : Method) → IsExpression m.body → IsMethod (method_entry m)
new_method m is = record { some = omega arith; bodies = λ body within. subst (HasBody (signature_of m)) (only_one (body_of m) body within) (new_body m is) }

other_signature : (s t : Signature) (body : Body) → same_signature s t ≡ true → HasBody s body → HasBody t body
other_signature s t body same has =
    record { expression = has.expression; count = has.count ∙ same_length s.parameters t.parameters (both_of _ _ same).0 }

modified_method : (m : Method) (old new : MethodEntry) → IsExpression m.body → modify m old ≡ Some new → IsMethod old → IsMethod new
modified_method m old new is e was =
    let it = modified m old new e in
    let bodies : EachBody new (HasBody (signature_of m)) =
    modified_bodies (HasBody (signature_of m)) m old new e (new_body m is) (λ body within. other_signature old.signature (signature_of m) body it.same (was.bodies body within)) in
    record {
      some = subst (λ x. 0 < length x.bodies) it.is (omega (arith, length-append (if says_original m.body then old.bodies else []) (body_of m ∷ [])));
      bodies = subst (λ s. EachBody new (HasBody s)) (ap (λ x. x.signature) it.is) bodies;
    }

pub product_is_table : (source : Source) (c : Configuration) (t : Table) → IsAccepted source → HasExpressions source → Product source c t → IsTable t
product_is_table source c t accepted expressions product =
    record {
      no_object = product_lacks source accepted c t product;
      methods = each_method IsMethod source
          (λ m of. new_method m (expressions m (Contains-append_left (new_methods source) (modified_methods source) m of)))
          (λ m old new of. modified_method m old new (expressions m (Contains-append_right (new_methods source) (modified_methods source) m of))) accepted c t product;
    }

abbrev Distinct : Body → Type 0
Distinct body = (at : ℕ) → ¬ (Repeats body.names at)

pub product_has_distinct : (source : Source) (c : Configuration) (t : Table) → IsAccepted source → Product source c t → HasDistinctParameters t
product_has_distinct source c t accepted product =
    each_method (λ x. EachBody x Distinct) source
    (λ m of body within. subst Distinct (only_one (body_of m) body within)
    (λ at r. accepted RepeatedParameter at (repeated_parameter m at (Contains-append_left (new_methods source) (modified_methods source) m of) r)))
    (λ m old new of e. modified_bodies Distinct m old new e
    (λ at r. accepted RepeatedParameter at (repeated_parameter m at (Contains-append_right (new_methods source) (modified_methods source) m of) r)))
    accepted c t product

-- ---- the oldest body

any_first : {X : Type 0} (p : X → Bool) (b : Bool) (x : X) (xs : List X) → p x ≡ b → (list_any p xs ≡ true → (y : X) × Contains xs y × (p y ≡ true))
    → (b || list_any p xs) ≡ true → (y : X) × Contains (x ∷ xs) y × (p y ≡ true)
any_first p true x xs is rest e = (x, (0, omega arith, refl), is)
any_first p false x xs is rest e = let found = rest e in (found.0, among_others x found.0 xs found.1, found.2)

pub any_found : {X : Type 0} (p : X → Bool) (xs : List X) → list_any p xs ≡ true → (x : X) × Contains xs x × (p x ≡ true)
any_found p [] e = absurd cc
any_found p (x ∷ xs) e = any_first p (p x) x xs refl (any_found p xs) e

its_place : (form : ExprForm) → is_original form ≡ true → (at : ℕ) × (OriginalForm at ≡ form)
its_place (OriginalForm at) e = (at, refl)
its_place (VariableForm x) e = absurd cc
its_place (ThisForm at) e = absurd cc
its_place (NullForm at) e = absurd cc
its_place (FieldForm f) e = absurd cc
its_place (CallForm m) e = absurd cc
its_place (NewForm c) e = absurd cc
its_place (CastForm c) e = absurd cc
its_place (AssignForm f) e = absurd cc

says_none : (e : Expr) → ((at : ℕ) → ¬ (Contains (nodes e) (OriginalForm at))) → says_original e ≡ false
says_none e never = by_test (says_original e) refl
  where
    by_test : (b : Bool) → says_original e ≡ b → b ≡ false
    by_test true is =
        let found = any_found is_original (nodes e) is in
        let place = its_place found.0 found.2 in
        absurd (never place.0 (subst (Contains (nodes e)) (sym place.1) found.1))
    by_test false is = refl

first_stays : {X : Type 0} (xs ys : List X) (x : X) → slice_get xs 0 ≡ Some x → slice_get (xs ++ ys) 0 ≡ Some x
first_stays [] ys x e = absurd cc
first_stays (z ∷ xs) ys x e = e

still_plainly : (m : Method) (old : MethodEntry) (b : Bool) → says_original m.body ≡ b → BeginsPlainly old
    → BeginsPlainly (record { at = m.name.at; signature = signature_of m; bodies = (if b then old.bodies else []) ++ body_of m ∷ [] })
still_plainly m old true says was = (was.0, first_stays old.bodies (body_of m ∷ []) was.0 was.1, was.2)
still_plainly m old false says was = (body_of m, refl, says)

pub product_begins_plainly : (source : Source) (c : Configuration) (t : Table) → IsAccepted source → Product source c t → EachMethod t BeginsPlainly
product_begins_plainly source c t accepted product =
    each_method BeginsPlainly source
    (λ m of. (body_of m, refl, says_none m.body (λ at within. accepted OriginalOutside at (original_outside m at of within))))
    (λ m old new of e was. subst BeginsPlainly (modified m old new e).is (still_plainly m old (says_original m.body) refl was)) accepted c t product

-- ---- Java files

-- P of each element of a list is P of each value of its map
each_in_list : {X : Type 0} (P : Text → X → Type 0) (es : List (Text × X)) → ((e : Text × X) → Contains es e → P e.0 e.1) → EachValue P (from_entries {R = text_cmp} es)
each_in_list P es all k x e = all (k, x) (found_in_entries es k x e)

module _ (classes : List Class) where
  pub java_each : (P : MethodEntry → Type 0) → ((c : Class) (m : Method) → Contains classes c → Contains c.methods m → P (method_entry m)) → EachMethod (table_of classes) P
  java_each P all k m entry method is has =
      let at = mapped_from (λ c. (c.name.text, class_entry c)) classes (k, entry) (found_in_entries _ k entry is) in
      let there = subst (λ e. get e.methods m ≡ Some method) (sym (ap (λ e. e.1) at.2)) has in
      let of = mapped_from (λ x. (x.name.text, method_entry x)) at.0.methods (m, method) (found_in_entries _ m method there) in
      subst P (ap (λ e. e.1) of.2) (all at.0 of.0 at.1 of.1)

  pub java_is_table : HasNoFault classes → HaveExpressions classes → IsTable (table_of classes)
  java_is_table sound expressions =
      record {
        no_object = either (none_or_value (get (table_of classes) object)) (λ none. none)
            (λ there. absurd (let at = mapped_from (λ c. (c.name.text, class_entry c)) classes (object, there.0) (found_in_entries _ object there.0 there.1) in
            sound RepeatedClass at.0.name.at (object_class at.0 at.1 (ap (λ e. e.0) at.2))));
        methods = java_each IsMethod (λ c m of within. new_method m (expressions c m of within));
      }

  pub java_has_distinct : HasNoFault classes → HasDistinctParameters (table_of classes)
  java_has_distinct sound =
      java_each (λ x. EachBody x Distinct) (λ c m of within body has. subst Distinct (only_one (body_of m) body has)
      (λ at r. sound JavaParameter at (java_parameter c m at of within r)))

-- ---- flat tables

-- calls in place of `original(..)` leave an expression one
same_takes : (name : Text) (form : ExprForm) (parts : Trees ExprForm) → takes form parts && are_expressions parts ≡ true
    → are_expressions (trees_of (fold_each (calling_over name) parts)) ≡ true → is_expression (calling_over name form (fold_each (calling_over name) parts)) ≡ true
same_takes name (OriginalForm at) parts is are = are
same_takes name (VariableForm x) no_trees is are = refl
same_takes name (VariableForm x) (tree_and e es) is are = absurd cc
same_takes name (ThisForm at) no_trees is are = refl
same_takes name (ThisForm at) (tree_and e es) is are = absurd cc
same_takes name (NullForm at) no_trees is are = refl
same_takes name (NullForm at) (tree_and e es) is are = absurd cc
same_takes name (NewForm c) no_trees is are = refl
same_takes name (NewForm c) (tree_and e es) is are = absurd cc
same_takes name (FieldForm f) no_trees is are = absurd cc
same_takes name (FieldForm f) (tree_and e no_trees) is are = are
same_takes name (FieldForm f) (tree_and e (tree_and v es)) is are = absurd cc
same_takes name (CastForm c) no_trees is are = absurd cc
same_takes name (CastForm c) (tree_and e no_trees) is are = are
same_takes name (CastForm c) (tree_and e (tree_and v es)) is are = absurd cc
same_takes name (AssignForm f) no_trees is are = absurd cc
same_takes name (AssignForm f) (tree_and e no_trees) is are = absurd cc
same_takes name (AssignForm f) (tree_and e (tree_and v no_trees)) is are = are
same_takes name (AssignForm f) (tree_and e (tree_and v (tree_and w es))) is are = absurd cc
same_takes name (CallForm m) no_trees is are = absurd cc
same_takes name (CallForm m) (tree_and e es) is are = are

both : (a b : Bool) → a ≡ true → b ≡ true → a && b ≡ true
both a b p q = rw (p, q) refl

mutual
  pub calling_expression : (name : Text) (e : Expr) → IsExpression e → IsExpression (calling name e)
  calling_expression name (branch form parts) is =
      same_takes name form parts is (calling_expressions name parts (both_of (takes form parts) (are_expressions parts) is).1)

  calling_expressions : (name : Text) (es : Trees ExprForm) → are_expressions es ≡ true → are_expressions (trees_of (fold_each (calling_over name) es)) ≡ true
  calling_expressions name no_trees is = refl
  calling_expressions name (tree_and e es) is =
      let parts = both_of (is_expression e) (are_expressions es) is in
      both (is_expression (calling name e)) _ (calling_expression name e parts.0) (calling_expressions name es parts.1)

enumerated : {X : Type 0} (n : ℕ) (xs : List X) (e : ℕ × X) → Contains (enumerate_from n xs) e → Contains xs e.1
enumerated n [] e within = no_element e within
enumerated n (x ∷ xs) e within =
    either (first_or_other (n, x) e (enumerate_from (n + 1) xs) within) (λ same. (0, omega arith, ap (λ y. y.1) same))
    (λ later. among_others x e.1 xs (enumerated (n + 1) xs e later))

module _ (t : Table) where
  -- P of each version of each method is P of each method of the flat table
  pub flat_each : (P : MethodEntry → Type 0) → ((c m : Text) (entry : ClassEntry) (method : MethodEntry) (k : ℕ) (body : Body) → get t c ≡ Some entry
      → get entry.methods m ≡ Some method → Contains method.bodies body → P (version c m method (k, body)).1) → EachMethod (flat t) P
  flat_each P all c m entry method is has =
      let at = mapped_from flat_class (entries t) (c, entry) (found_in_entries _ c entry is) in
      let there = subst (λ e. get e.methods m ≡ Some method) (sym (ap (λ e. e.1) at.2)) has in
      let of = from_flat (versions at.0.0) (entries at.0.1.methods) (m, method) (found_in_entries _ m method there) in
      let one = mapped_from (version at.0.0 of.0.0 of.0.1) (enumerate_from 0 of.0.1.bodies) (m, method) of.2 in
      subst P (ap (λ e. e.1) one.2)
      (all at.0.0 of.0.0 at.0.1 of.0.1 one.0.0 one.0.1 (entry_found t at.0.0 at.0.1 at.1) (entry_found at.0.1.methods of.0.0 of.0.1 of.1) (enumerated 0 of.0.1.bodies one.0 one.1))

  pub flat_is_table : IsTable t → IsTable (flat t)
  flat_is_table is =
      record {
        no_object = either (none_or_value (get (flat t) object)) (λ none. none)
            (λ there. absurd (let at = mapped_from flat_class (entries t) (object, there.0) (found_in_entries _ object there.0 there.1) in
            missing (get t object) at.0.1 is.no_object (subst (λ k. get t k ≡ Some at.0.1) (ap (λ e. e.0) at.2) (entry_found t at.0.0 at.0.1 at.1))));
        methods = flat_each IsMethod (λ c m entry method k body there has within.
            let was = (is.methods c m entry method there has).bodies body within in
            record {
              some = omega arith;
              bodies = λ b of. subst (HasBody method.signature) (only_one _ b of) (record { expression = calling_expression _ body.value was.expression; count = was.count });
            });
      }
    where
      missing : (o : Option ClassEntry) (e : ClassEntry) → o ≡ None → o ≡ Some e → ⊥
      missing o e p q = absurd cc

  pub flat_has_distinct : HasDistinctParameters t → HasDistinctParameters (flat t)
  flat_has_distinct distinct =
      flat_each (λ x. EachBody x Distinct) (λ c m entry method k body there has within b of. subst Distinct (only_one _ b of) (distinct c m entry method there has body within))

pub empty_is_table : IsTable empty_table
empty_is_table =
    record {
      no_object = text_get-empty ClassEntry object;
      methods = λ c m entry method is has. absurd (missing (get empty_table c) entry (text_get-empty ClassEntry c) is);
    }
  where
    missing : (o : Option ClassEntry) (e : ClassEntry) → o ≡ None → o ≡ Some e → ⊥
    missing o e p q = absurd cc
