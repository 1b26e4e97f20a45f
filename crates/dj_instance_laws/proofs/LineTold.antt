-- Where a predicate of places holds where each thing in the operations of a source is said, each instance that stands in a configuration is
-- at places of it.
use Rattle.std.proofs.Common.{◌≡◌, ℕ, Some, Contains, refl, ap, subst, arith}
use Rattle.std.specs.List.{filter_map, flat_map}
use Rattle.dj_tree.specs.Trees.{Method, Class, MemberOperation, adds_field, adds_method, modifies_method, removes_field, removes_method}
use Rattle.dj_tree.specs.Trees.{Change, Operation, adds_class, modifies_class, removes_class, Delta, Part, Source}
use Rattle.dj_calculus.specs.Accepted.{IsAccepted}
use Rattle.dj_calculus.specs.Configurations.{Configuration}
use Rattle.dj_calculus.specs.Parts.{chain, active}
use Rattle.dj_calculus.specs.Contents.{operations_of, classes_of, changes_of, added_by, change_by, method_added, method_modified, new_methods, modified_methods}
use Rattle.dj_calculus.specs.Things.{Thing, things, touched_by}
use Rattle.dj_calculus.specs.Tables.{Table}
use Rattle.dj_calculus.specs.LineRules as line
use Rattle.dj_calculus.specs.LineRules.{OperationRule, LineRule, Stands}
use Rattle.dj_calculus.proofs.GoodLemmas.{declared}
use Rattle.dj_calculus.proofs.Members.{either, in_front_or_behind, from_flat, filtered_from, within_flat}
use Rattle.dj_calculus.proofs.ProductsKeep.{Declares, made_is}
use Rattle.dj_source_laws.specs.Said.{member_name, its_class, the_name, the_class, its_parent, the_parent}
use Rattle.dj_instance_laws.proofs.Told.{Told, FieldTold, MethodTold, MemberTold, member_told, parent_told, field_told, method_told, modified_told, class_field, class_method, thing_told}
use Rattle.dj_instance_laws.proofs.TableTold.{Numbered, numbered, table_told, got}

-- ---- what a source has, and the operation that it is from

is_added : (o : Operation) (c : Class) → added_by o ≡ Some c → o ≡ adds_class c
is_added (adds_class d) c e = let same : d ≡ c = cc in ap adds_class same
is_added (modifies_class d) c e = absurd cc
is_added (removes_class d) c e = absurd cc

is_change : (o : Operation) (c : Change) → change_by o ≡ Some c → o ≡ modifies_class c
is_change (adds_class d) c e = absurd cc
is_change (modifies_class d) c e = let same : d ≡ c = cc in ap modifies_class same
is_change (removes_class d) c e = absurd cc

is_new : (x : MemberOperation) (m : Method) → method_added x ≡ Some m → x ≡ adds_method m
is_new (adds_field f) m e = absurd cc
is_new (adds_method n) m e = let same : n ≡ m = cc in ap adds_method same
is_new (modifies_method n) m e = absurd cc
is_new (removes_field f) m e = absurd cc
is_new (removes_method n) m e = absurd cc

is_modified : (x : MemberOperation) (m : Method) → method_modified x ≡ Some m → x ≡ modifies_method m
is_modified (adds_field f) m e = absurd cc
is_modified (adds_method n) m e = absurd cc
is_modified (modifies_method n) m e = let same : n ≡ m = cc in ap modifies_method same
is_modified (removes_field f) m e = absurd cc
is_modified (removes_method n) m e = absurd cc

-- an instance: its rule is one of the table of rules, and its places are of the predicate
pub record InstanceTold (A : ℕ → Type 0) (rule at second : ℕ) : Type 0 where
  pub first : Numbered A rule at
  pub also : A second

module _ (A : ℕ → Type 0) (source : Source) (each : (o : Operation) → Contains (operations_of source) o → Told A o) where
  class_in : (c : Class) → Contains (classes_of source) c → Told A (adds_class c)
  class_in c of = let found = filtered_from added_by (operations_of source) c of in subst (Told A) (is_added found.0 c found.2) (each found.0 found.1)

  change_in : (c : Change) → Contains (changes_of source) c → Told A (modifies_class c)
  change_in c of = let found = filtered_from change_by (operations_of source) c of in subst (Told A) (is_change found.0 c found.2) (each found.0 found.1)

  member_in : (c : Change) (x : MemberOperation) → Contains (changes_of source) c → Contains c.members x → MemberTold A x
  member_in c x of within = member_told A (modifies_class c) x (change_in c of) within

  new_in : (m : Method) → Contains (new_methods source) m → MemberTold A (adds_method m)
  new_in m of =
      either (in_front_or_behind (flat_map (λ c. c.methods) (classes_of source)) (flat_map (λ c. filter_map method_added c.members) (changes_of source)) m of)
      (λ front. let found = from_flat (λ c. c.methods) (classes_of source) m front in class_method A found.0 m (class_in found.0 found.1) found.2)
      (λ behind. let found = from_flat (λ c. filter_map method_added c.members) (changes_of source) m behind in
      let member = filtered_from method_added found.0.members m found.2 in
      subst (MemberTold A) (is_new member.0 m member.2) (member_in found.0 member.0 found.1 member.1))

  modified_in : (m : Method) → Contains (modified_methods source) m → MemberTold A (modifies_method m)
  modified_in m of =
      let found = from_flat (λ c. filter_map method_modified c.members) (changes_of source) m of in
      let member = filtered_from method_modified found.0.members m found.2 in
      subst (MemberTold A) (is_modified member.0 m member.2) (member_in found.0 member.0 found.1 member.1)

  -- so what a source declares is said
  declares : Declares (λ k. Unit {0}) (λ p. A p.at) (λ f x. FieldTold A x) (λ m x. MethodTold A x) source
  declares =
      record {
        class_names = λ c of. tt;
        parents = λ c of. parent_told A c c.parent refl (class_in c of);
        new_parents = λ c p of e. change_in c of (its_parent p) (the_parent p e);
        fields = λ c f of within. field_told A f (class_field A c f (class_in c of) within);
        new_fields = λ c f of within. field_told A f (member_in c (adds_field f) of within);
        methods = λ m of. method_told A m (new_in m of);
        modified = λ m old new of e. modified_told A m old new (modified_in m of) e;
      }

  -- ---- instances

  operation_told : (t : Table) (o : Operation) (rule at : ℕ) → Told A o → OperationRule t o rule at → Numbered A rule at
  operation_told t _ _ _ told (line.class_there there) = numbered A _ _ (omega arith) (omega arith) (told its_class the_class)
  operation_told t _ _ _ told (line.removed_class_missing missing) = numbered A _ _ (omega arith) (omega arith) (told its_class the_class)
  operation_told t _ _ _ told (line.modified_class_missing missing) = numbered A _ _ (omega arith) (omega arith) (told its_class the_class)
  operation_told t _ _ _ told (line.field_there {c = c} f entry within there has) =
      numbered A _ _ (omega arith) (omega arith) (member_told A (modifies_class c) (adds_field f) told within member_name the_name)
  operation_told t _ _ _ told (line.field_missing {c = c} f entry within there lacks) =
      numbered A _ _ (omega arith) (omega arith) (member_told A (modifies_class c) (removes_field f) told within member_name the_name)
  operation_told t _ _ _ told (line.method_there {c = c} m entry within there has) =
      numbered A _ _ (omega arith) (omega arith) (member_told A (modifies_class c) (adds_method m) told within member_name the_name)
  operation_told t _ _ _ told (line.removed_method_missing {c = c} m entry within there lacks) =
      numbered A _ _ (omega arith) (omega arith) (member_told A (modifies_class c) (removes_method m) told within member_name the_name)
  operation_told t _ _ _ told (line.modified_method_missing {c = c} m entry within there lacks) =
      numbered A _ _ (omega arith) (omega arith) (member_told A (modifies_class c) (modifies_method m) told within member_name the_name)
  operation_told t _ _ _ told (line.signature_differs {c = c} m entry old within there has differs) =
      numbered A _ _ (omega arith) (omega arith) (member_told A (modifies_class c) (modifies_method m) told within member_name the_name)

  module _ (accepted : IsAccepted source) (c : Configuration) where
    active_in : (part : Part) (delta : Delta) (o : Operation) → Contains (active source c part) delta → Contains delta.operations o → Contains (operations_of source) o
    active_in part delta o on within = within_flat (λ d. d.operations) source.deltas delta o (declared source accepted c part delta on) within

    a_thing : (part : Part) (delta : Delta) (a : Thing) → Contains (active source c part) delta → Contains (things delta) a → A a.at
    a_thing part delta a on within =
        let found = from_flat touched_by delta.operations a within in thing_told A found.0 a (each found.0 (active_in part delta found.0 on found.1)) found.2

    pub line_told : (rule at second : ℕ) → LineRule source c rule at second → InstanceTold A rule at second
    line_told _ _ _ (line.overlap part i j one other first second of before at_one at_other least) =
        let clash = least.clash in
        record {
          first = numbered A _ _ (omega arith) (omega arith) (subst A clash.first_at (a_thing part one clash.a (got (active source c part) i one at_one) clash.of_one));
          also = subst A clash.second_at (a_thing part other clash.b (got (active source c part) j other at_other) clash.of_other);
        }
    line_told _ _ _ (line.of_operation k part t delta o rule at here makes on within breaks) =
        let told = operation_told t o rule at (each o (active_in part delta o on within)) breaks in record { first = told; also = told.place }
    line_told _ _ _ (line.of_product t rule at product breaks) =
        let told = table_told A t rule at
        (made_is (λ k. Unit {0}) (λ p. A p.at) (λ f x. FieldTold A x) (λ m x. MethodTold A x) source declares accepted c (chain source) t product) breaks in
        record { first = told; also = told.place }
