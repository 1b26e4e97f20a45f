-- The operations of an accepted line are ready to be applied.
use Rattle.std.proofs.Common.{◌≡◌, ℕ, List, [], map, slice_get, Some, Contains, refl, ◌∙◌, subst}
use Rattle.std.specs.Prelude.{All}
use Rattle.std.specs.List.{filter_map, flat_map}
use Rattle.std.proofs.lemmas.List.Elements.{Contains-append_left, Contains-append_right, All-contains}
use Rattle.dj_tree.specs.Trees.{Method, MemberOperation, adds_field, adds_method, modifies_method, removes_field, removes_method, Class, Change, Operation, adds_class, modifies_class, removes_class, Delta}
use Rattle.dj_tree.specs.Trees as plain
use Rattle.dj_tree.specs.Plain.{plain_delta, plain_operation, plain_source}
use Rattle.dj_tree.specs.WellFormed.{IsDelta, IsOperation, IsWellFormed}
use Rattle.dj_tree.specs.declared.declarations.DeltaDecl.{DeltaDecl}
use Rattle.dj_tree.specs.declared.source.Source.{Source}
use Rattle.dj_calculus.specs.Accepted.{IsAccepted}
use Rattle.dj_calculus.specs.Contents.{class_name, operations_of, added_by, classes_of, changes_of, method_added, method_modified, new_methods, modified_methods}
use Rattle.dj_calculus.specs.Expressions.{HasExpressions}
use Rattle.dj_calculus.specs.Subclasses.{object}
use Rattle.dj_calculus.specs.Faults.{RepeatedMember, ReservedClass}
use Rattle.dj_calculus.specs.FaultPlaces.{Repeats, repeated_field, repeated_method, reserved_class}
use Rattle.dj_calculus.proofs.Members.{kept_by, within_flat, mapped_within, mapped_from, in_front_or_behind, either, no_element}
use Rattle.dj_calculus.proofs.Counting.{got_within}
use Rattle.dj_calculus.proofs.GoodLemmas.{change_within, members_once}
use Rattle.dj_source_laws.specs.Once.{members_in}
use Rattle.ifj_table.proofs.TableLemmas.{all_at}
use Rattle.dj_apply.specs.Ready.{HasBody, AreMembers, IsReady}
use Rattle.dj_apply.proofs.AddedClasses.{field_names, no_methods, own_names}
use Rattle.dj_apply.proofs.Applied.{elements}

module _ (source : plain.Source) (accepted : IsAccepted source) (expressions : HasExpressions source) (delta : Delta) (within : Contains source.deltas delta) where
  class_within : (c : Class) → Contains delta.operations (adds_class c) → Contains (classes_of source) c
  class_within c has = kept_by added_by (operations_of source) (adds_class c) c (within_flat (λ d. d.operations) source.deltas delta (adds_class c) within has) refl

  body_of_class : (c : Class) → Contains (classes_of source) c → (m : MemberOperation) → Contains (members_in (adds_class c)) m → HasBody m
  body_of_class c there m has =
      either (in_front_or_behind (map adds_field c.fields) (map adds_method c.methods) m has)
      (λ front. let f = mapped_from adds_field c.fields m front in subst HasBody f.2 tt)
      (λ behind. let n = mapped_from adds_method c.methods m behind in
      subst HasBody n.2 (expressions n.0
      (Contains-append_left (new_methods source) (modified_methods source) n.0
      (Contains-append_left (flat_map (λ d. d.methods) (classes_of source)) (flat_map (λ d. filter_map method_added d.members) (changes_of source)) n.0
      (within_flat (λ d. d.methods) (classes_of source) c n.0 there n.1)))))

  body_in_change : (c : Change) → Contains (changes_of source) c → (m : MemberOperation) → Contains c.members m → HasBody m
  body_in_change c there (adds_field f) has = tt
  body_in_change c there (removes_field f) has = tt
  body_in_change c there (removes_method n) has = tt
  body_in_change c there (adds_method n) has =
      expressions n
      (Contains-append_left (new_methods source) (modified_methods source) n
      (Contains-append_right (flat_map (λ d. d.methods) (classes_of source)) (flat_map (λ d. filter_map method_added d.members) (changes_of source)) n
      (within_flat (λ d. filter_map method_added d.members) (changes_of source) c n there (kept_by method_added c.members (adds_method n) n has refl))))
  body_in_change c there (modifies_method n) has =
      expressions n
      (Contains-append_right (new_methods source) (modified_methods source) n
      (within_flat (λ d. filter_map method_modified d.members) (changes_of source) c n there (kept_by method_modified c.members (modifies_method n) n has refl)))

  members_of : (x : Operation) → Contains delta.operations x → AreMembers (members_in x)
  members_of (adds_class c) has =
      let there = class_within c has in
      record {
        fields = λ at r. accepted RepeatedMember at (repeated_field c at there (subst (λ names. Repeats names at) (field_names c.fields c.methods) r));
        methods = λ at r. accepted RepeatedMember at (repeated_method c at there (subst (λ names. Repeats names at) (no_methods c.fields (map adds_method c.methods) ∙ own_names c.methods) r));
        bodies = body_of_class c there;
      }
  members_of (modifies_class c) has =
      let there = change_within source accepted delta c within has in
      let once = members_once source accepted c there in
      record { fields = once.fields; methods = once.methods; bodies = body_in_change c there }
  members_of (removes_class c) has = record { fields = nowhere; methods = nowhere; bodies = λ m none. no_element m none }
    where
      nowhere : (at : ℕ) → ¬ (Repeats [] at)
      nowhere at r = let here = r.at_number in absurd cc

  declarable_of : (x : Operation) → Contains delta.operations x → (class_name x).text ≡ object → ⊥
  declarable_of x has same = accepted ReservedClass (class_name x).at (reserved_class x (within_flat (λ d. d.operations) source.deltas delta x within has) same)

pub ready_of : (s : Source) → IsWellFormed s → IsAccepted (plain_source s) → HasExpressions (plain_source s) → (k : ℕ) (d : DeltaDecl) → slice_get s.deltas k ≡ Some d → All (IsReady s.names s.exprs) d.ops
ready_of s formed accepted expressions k d here =
    let delta = all_at (IsDelta s.names s.exprs) s.deltas k d formed.deltas here in
    let within = mapped_within (plain_delta s.names s.exprs) s.deltas d (got_within s.deltas k d here) in
    elements (IsReady s.names s.exprs) d.ops
    (λ x has. let of_delta = mapped_within (plain_operation s.names s.exprs) d.ops x has in
    record {
      known = all_of (IsOperation s.names s.exprs) d.ops x delta.ops has;
      nodes = formed.expr_nodes;
      declarable = declarable_of (plain_source s) accepted expressions (plain_delta s.names s.exprs d) within (plain_operation s.names s.exprs x) of_delta;
      members = members_of (plain_source s) accepted expressions (plain_delta s.names s.exprs d) within (plain_operation s.names s.exprs x) of_delta;
    })
  where
    all_of : {X : Type 0} (P : X → Type 0) (xs : List X) (x : X) → All P xs → Contains xs x → P x
    all_of P xs x all has = All-contains P xs x all has
