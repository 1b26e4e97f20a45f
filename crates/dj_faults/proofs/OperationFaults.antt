-- The faults in operations, by the operations of all deltas.
use Rattle.std.proofs.Common.{◌≡◌, ◌⊎◌, inl, inr, ℕ, List, [], length, map, All, Contains, Option, None, Some, slice_get, refl, sym, ap, ◌∙◌, subst, arith}
use Rattle.std.specs.List.{filter_map, flat_map}
use Rattle.std.proofs.lemmas.List.Elements.{All-contains, Contains-append_left, Contains-append_right, Contains-append_cases}
use Rattle.dj_calculus.proofs.Members.{either, first_or_other, among_others, filtered_from, kept_by, mapped_within, within_flat, mapped_from, from_flat}
use Rattle.dj_tree.specs.Trees as plain
use Rattle.dj_tree.specs.Trees.{adds_class, modifies_class, removes_class, adds_field, adds_method, modifies_method, removes_field, removes_method}
use Rattle.dj_tree.specs.Plain.{plain_spot, plain_source, plain_operation, plain_delta, plain_item, plain_part}
use Rattle.dj_tree.specs.WellFormed.{IsKnown, IsOperation}
use Rattle.dj_tree.specs.declared.declarations.Spot.{Spot}
use Rattle.dj_tree.specs.declared.declarations.ClassOp.{ClassOp}
use Rattle.dj_tree.specs.declared.declarations.ClassOp.TheVariants.{Adds, Modifies, Removes}
use Rattle.dj_tree.specs.declared.source.Source.{Source}
use Rattle.dj_calculus.specs.Contents.{items_of, operations_of, class_name, added_by, change_by, classes_of, changes_of, method_added, method_modified, new_methods, modified_methods}
use Rattle.dj_calculus.specs.Faults as line
use Rattle.dj_calculus.specs.FaultPlaces.{Repeats, FaultStands, unknown_feature, repeated_class_operation, repeated_field_operation, repeated_method_operation, repeated_field, repeated_method, repeated_parameter, reserved_class, original_outside}
use Rattle.dj_faults.specs.LeastPlace.{IsLeastPlace, Among}
use Rattle.dj_faults.specs.Numbers.{Again, IsSound}
use Rattle.dj_faults.specs.Spots.{class_spot}
use Rattle.dj_faults.specs.Inside.{Inside, RepeatedOperation, RepeatedMember, RepeatedParameter, OriginalOutside, line_fault, UnknownName, InCondition, UnknownInItem, InMethod, InModified, InMember, InOperation, ClassTwice, InOperations, OnObject}
use Rattle.dj_faults.proofs.LeastLemmas.{least_same}
use Rattle.dj_faults.proofs.NameLemmas.{present, map_named, AllKnown}
use Rattle.dj_faults.proofs.ListFaults.{by_repeats}

module _ (s : Source) where
  -- ---- operations

  all_to : (P : plain.Operation → ℕ → Type 0) (at : ℕ) → Among (λ d. Among (λ o. P (plain_operation s.names s.exprs o)) d.ops) s.deltas at → Among P (operations_of (plain_source s)) at
  all_to P at (d, in_d, (o, in_o, h)) = (
    plain_operation s.names s.exprs o,
    within_flat (λ (d : plain.Delta). d.operations) (map (plain_delta s.names s.exprs) s.deltas) (plain_delta s.names s.exprs d) (plain_operation s.names s.exprs o) (mapped_within (plain_delta s.names s.exprs) s.deltas d in_d)
        (mapped_within (plain_operation s.names s.exprs) d.ops o in_o),
    h,
  )

  all_from : (P : plain.Operation → ℕ → Type 0) (at : ℕ) → Among P (operations_of (plain_source s)) at → Among (λ d. Among (λ o. P (plain_operation s.names s.exprs o)) d.ops) s.deltas at
  all_from P at (op, there, h) =
      let delta = from_flat (λ (d : plain.Delta). d.operations) (map (plain_delta s.names s.exprs) s.deltas) op there in
      let d = mapped_from (plain_delta s.names s.exprs) s.deltas delta.0 delta.1 in
      let o = mapped_from (plain_operation s.names s.exprs) d.0.ops op (subst (λ (x : plain.Delta). Contains x.operations op) (sym d.2) delta.2) in
      (d.0, d.1, (o.0, o.1, subst (λ x. P x at) (sym o.2) h))

  -- ---- where methods stand

  new_in_class : (c : plain.Class) (m : plain.Method) → Contains (operations_of (plain_source s)) (adds_class c) → Contains c.methods m → Contains (new_methods (plain_source s)) m
  new_in_class c m there within =
      Contains-append_left (flat_map (λ c. c.methods) (classes_of (plain_source s))) _ m
      (within_flat (λ (c : plain.Class). c.methods) (classes_of (plain_source s)) c m (kept_by added_by (operations_of (plain_source s)) (adds_class c) c there refl) within)

  new_in_change : (c : plain.Change) (m : plain.Method) → Contains (operations_of (plain_source s)) (modifies_class c) → Contains c.members (adds_method m) → Contains (new_methods (plain_source s)) m
  new_in_change c m there within =
      Contains-append_right (flat_map (λ c. c.methods) (classes_of (plain_source s))) _ m
      (within_flat (λ (c : plain.Change). filter_map method_added c.members) (changes_of (plain_source s)) c m (kept_by change_by (operations_of (plain_source s)) (modifies_class c) c there refl)
      (kept_by method_added c.members (adds_method m) m within refl))

  modified_in_change : (c : plain.Change) (m : plain.Method) → Contains (operations_of (plain_source s)) (modifies_class c) → Contains c.members (modifies_method m) → Contains (modified_methods (plain_source s)) m
  modified_in_change c m there within =
      within_flat (λ (c : plain.Change). filter_map method_modified c.members) (changes_of (plain_source s)) c m (kept_by change_by (operations_of (plain_source s)) (modifies_class c) c there refl)
      (kept_by method_modified c.members (modifies_method m) m within refl)

  added_is : (op : plain.Operation) (c : plain.Class) → added_by op ≡ Some c → op ≡ adds_class c
  added_is (adds_class d) c e = cc
  added_is (modifies_class d) c e = absurd cc
  added_is (removes_class d) c e = absurd cc

  change_is : (op : plain.Operation) (c : plain.Change) → change_by op ≡ Some c → op ≡ modifies_class c
  change_is (adds_class d) c e = absurd cc
  change_is (modifies_class d) c e = cc
  change_is (removes_class d) c e = absurd cc

  class_within : (c : plain.Class) → Contains (classes_of (plain_source s)) c → Contains (operations_of (plain_source s)) (adds_class c)
  class_within c within =
      let op = filtered_from added_by (operations_of (plain_source s)) c within in
      subst (Contains (operations_of (plain_source s))) (added_is op.0 c op.2) op.1

  change_within : (c : plain.Change) → Contains (changes_of (plain_source s)) c → Contains (operations_of (plain_source s)) (modifies_class c)
  change_within c within =
      let op = filtered_from change_by (operations_of (plain_source s)) c within in
      subst (Contains (operations_of (plain_source s))) (change_is op.0 c op.2) op.1

  method_added_is : (o : plain.MemberOperation) (m : plain.Method) → method_added o ≡ Some m → o ≡ adds_method m
  method_added_is (adds_method n) m e = cc
  method_added_is (adds_field f) m e = absurd cc
  method_added_is (modifies_method n) m e = absurd cc
  method_added_is (removes_field f) m e = absurd cc
  method_added_is (removes_method n) m e = absurd cc

  method_modified_is : (o : plain.MemberOperation) (m : plain.Method) → method_modified o ≡ Some m → o ≡ modifies_method m
  method_modified_is (modifies_method n) m e = cc
  method_modified_is (adds_field f) m e = absurd cc
  method_modified_is (adds_method n) m e = absurd cc
  method_modified_is (removes_field f) m e = absurd cc
  method_modified_is (removes_method n) m e = absurd cc

  -- a fault in a new method is one in an operation
  in_new : (fault : Inside) (m : plain.Method) (at : ℕ) → Contains (new_methods (plain_source s)) m → InMethod fault m at → Among (InOperation fault) (operations_of (plain_source s)) at
  in_new fault m at within h =
      either (Contains-append_cases (flat_map (λ c. c.methods) (classes_of (plain_source s))) (flat_map (λ c. filter_map method_added c.members) (changes_of (plain_source s))) m within)
      (λ in_class. let c = from_flat (λ (c : plain.Class). c.methods) (classes_of (plain_source s)) m in_class in (adds_class c.0, class_within c.0 c.1, inr (m, c.2, h)))
      (λ in_change.
      let c = from_flat (λ (c : plain.Change). filter_map method_added c.members) (changes_of (plain_source s)) m in_change in
      let o = filtered_from method_added c.0.members m c.2 in
      (modifies_class c.0, change_within c.0 c.1, inr (o.0, o.1, subst (λ x. InMember fault x at) (sym (method_added_is o.0 m o.2)) h)))

  in_modified : (fault : Inside) (m : plain.Method) (at : ℕ) → Contains (modified_methods (plain_source s)) m → InModified fault m at → Among (InOperation fault) (operations_of (plain_source s)) at
  in_modified fault m at within h =
      let c = from_flat (λ (c : plain.Change). filter_map method_modified c.members) (changes_of (plain_source s)) m within in
      let o = filtered_from method_modified c.0.members m c.2 in
      (modifies_class c.0, change_within c.0 c.1, inr (o.0, o.1, subst (λ x. InMember fault x at) (sym (method_modified_is o.0 m o.2)) h))

  -- ---- each fault

  member_to : (at : ℕ) (op : plain.Operation) → Contains (operations_of (plain_source s)) op → InOperation RepeatedMember op at → FaultStands (plain_source s) line.RepeatedMember at
  member_to at (adds_class c) there (inl (inl h)) = repeated_field c at (kept_by added_by (operations_of (plain_source s)) (adds_class c) c there refl) h
  member_to at (adds_class c) there (inl (inr h)) = repeated_method c at (kept_by added_by (operations_of (plain_source s)) (adds_class c) c there refl) h
  member_to at (adds_class c) there (inr h) = absurd h.2
  member_to at (modifies_class c) there (inl h) = absurd h
  member_to at (modifies_class c) there (inr (adds_field f, within, h)) = absurd h
  member_to at (modifies_class c) there (inr (adds_method f, within, h)) = absurd h
  member_to at (modifies_class c) there (inr (modifies_method f, within, h)) = absurd h
  member_to at (modifies_class c) there (inr (removes_field f, within, h)) = absurd h
  member_to at (modifies_class c) there (inr (removes_method f, within, h)) = absurd h
  member_to at (removes_class c) there (inl h) = absurd h
  member_to at (removes_class c) there (inr h) = absurd h

  least_repeated_member : (o : Option ℕ) → IsLeastPlace (Among (λ d. Among (λ o. InOperation RepeatedMember (plain_operation s.names s.exprs o)) d.ops) s.deltas) o → IsLeastPlace (FaultStands (plain_source s) line.RepeatedMember) o
  least_repeated_member o is = least_same o (λ at h. let op = all_to (InOperation RepeatedMember) at h in member_to at op.0 op.1 op.2) (λ at h. all_from (InOperation RepeatedMember) at (back at h)) is
    where
      back : (at : ℕ) → FaultStands (plain_source s) line.RepeatedMember at → Among (InOperation RepeatedMember) (operations_of (plain_source s)) at
      back at (repeated_field c place within h) = (adds_class c, class_within c within, inl (inl h))
      back at (repeated_method c place within h) = (adds_class c, class_within c within, inl (inr h))

  parameter_to : (at : ℕ) (op : plain.Operation) → Contains (operations_of (plain_source s)) op → InOperation RepeatedParameter op at → FaultStands (plain_source s) line.RepeatedParameter at
  parameter_to at (adds_class c) there (inl h) = absurd h
  parameter_to at (adds_class c) there (inr h) = repeated_parameter h.0 at (Contains-append_left (new_methods (plain_source s)) (modified_methods (plain_source s)) h.0 (new_in_class c h.0 there h.1)) h.2
  parameter_to at (modifies_class c) there (inl h) = absurd h
  parameter_to at (modifies_class c) there (inr (adds_method m, within, h)) =
      repeated_parameter m at (Contains-append_left (new_methods (plain_source s)) (modified_methods (plain_source s)) m (new_in_change c m there within)) h
  parameter_to at (modifies_class c) there (inr (modifies_method m, within, h)) =
      repeated_parameter m at (Contains-append_right (new_methods (plain_source s)) (modified_methods (plain_source s)) m (modified_in_change c m there within)) h
  parameter_to at (modifies_class c) there (inr (adds_field f, within, h)) = absurd h
  parameter_to at (modifies_class c) there (inr (removes_field f, within, h)) = absurd h
  parameter_to at (modifies_class c) there (inr (removes_method f, within, h)) = absurd h
  parameter_to at (removes_class c) there (inl h) = absurd h
  parameter_to at (removes_class c) there (inr h) = absurd h

  least_repeated_parameter : (o : Option ℕ) → IsLeastPlace (Among (λ d. Among (λ o. InOperation RepeatedParameter (plain_operation s.names s.exprs o)) d.ops) s.deltas) o → IsLeastPlace (FaultStands (plain_source s) line.RepeatedParameter) o
  least_repeated_parameter o is = least_same o (λ at h. let op = all_to (InOperation RepeatedParameter) at h in parameter_to at op.0 op.1 op.2) (λ at h. all_from (InOperation RepeatedParameter) at (back at h)) is
    where
      back : (at : ℕ) → FaultStands (plain_source s) line.RepeatedParameter at → Among (InOperation RepeatedParameter) (operations_of (plain_source s)) at
      back at (repeated_parameter m place within h) =
          either (Contains-append_cases (new_methods (plain_source s)) (modified_methods (plain_source s)) m within) (λ new. in_new RepeatedParameter m at new h) (λ modified. in_modified RepeatedParameter m at modified h)

  original_to : (at : ℕ) (op : plain.Operation) → Contains (operations_of (plain_source s)) op → InOperation OriginalOutside op at → FaultStands (plain_source s) line.OriginalOutside at
  original_to at (adds_class c) there (inl h) = absurd h
  original_to at (adds_class c) there (inr h) = original_outside h.0 at (new_in_class c h.0 there h.1) h.2
  original_to at (modifies_class c) there (inl h) = absurd h
  original_to at (modifies_class c) there (inr (adds_method m, within, h)) = original_outside m at (new_in_change c m there within) h
  original_to at (modifies_class c) there (inr (modifies_method m, within, h)) = absurd h
  original_to at (modifies_class c) there (inr (adds_field f, within, h)) = absurd h
  original_to at (modifies_class c) there (inr (removes_field f, within, h)) = absurd h
  original_to at (modifies_class c) there (inr (removes_method f, within, h)) = absurd h
  original_to at (removes_class c) there (inl h) = absurd h
  original_to at (removes_class c) there (inr h) = absurd h

  least_original_outside : (o : Option ℕ) → IsLeastPlace (Among (λ d. Among (λ o. InOperation OriginalOutside (plain_operation s.names s.exprs o)) d.ops) s.deltas) o → IsLeastPlace (FaultStands (plain_source s) line.OriginalOutside) o
  least_original_outside o is = least_same o (λ at h. let op = all_to (InOperation OriginalOutside) at h in original_to at op.0 op.1 op.2) (λ at h. all_from (InOperation OriginalOutside) at (back at h)) is
    where
      back : (at : ℕ) → FaultStands (plain_source s) line.OriginalOutside at → Among (InOperation OriginalOutside) (operations_of (plain_source s)) at
      back at (original_outside m place within h) = in_new OriginalOutside m at within h

  operation_to : (at : ℕ) (op : plain.Operation) → Contains (operations_of (plain_source s)) op → InOperation RepeatedOperation op at → FaultStands (plain_source s) line.RepeatedOperation at
  operation_to at (adds_class c) there (inl h) = absurd h
  operation_to at (adds_class c) there (inr h) = absurd h.2
  operation_to at (modifies_class c) there (inl (inl h)) = repeated_field_operation c at (kept_by change_by (operations_of (plain_source s)) (modifies_class c) c there refl) h
  operation_to at (modifies_class c) there (inl (inr h)) = repeated_method_operation c at (kept_by change_by (operations_of (plain_source s)) (modifies_class c) c there refl) h
  operation_to at (modifies_class c) there (inr (adds_field f, within, h)) = absurd h
  operation_to at (modifies_class c) there (inr (adds_method f, within, h)) = absurd h
  operation_to at (modifies_class c) there (inr (modifies_method f, within, h)) = absurd h
  operation_to at (modifies_class c) there (inr (removes_field f, within, h)) = absurd h
  operation_to at (modifies_class c) there (inr (removes_method f, within, h)) = absurd h
  operation_to at (removes_class c) there (inl h) = absurd h
  operation_to at (removes_class c) there (inr h) = absurd h

  least_repeated_operation : (o : Option ℕ)
      → IsLeastPlace (λ at. Among (λ d. Repeats (map class_name (map (plain_operation s.names s.exprs) d.ops))) s.deltas at ⊎ Among (λ d. Among (λ o. InOperation RepeatedOperation (plain_operation s.names s.exprs o)) d.ops) s.deltas at) o
      → IsLeastPlace (FaultStands (plain_source s) line.RepeatedOperation) o
  least_repeated_operation o is = least_same o to back is
    where
      to : (at : ℕ) → Among (λ d. Repeats (map class_name (map (plain_operation s.names s.exprs) d.ops))) s.deltas at ⊎ Among (λ d. Among (λ o. InOperation RepeatedOperation (plain_operation s.names s.exprs o)) d.ops) s.deltas at
          → FaultStands (plain_source s) line.RepeatedOperation at
      to at (inl h) = repeated_class_operation (plain_delta s.names s.exprs h.0) at (mapped_within (plain_delta s.names s.exprs) s.deltas h.0 h.1) h.2
      to at (inr h) = let op = all_to (InOperation RepeatedOperation) at h in operation_to at op.0 op.1 op.2

      back : (at : ℕ) → FaultStands (plain_source s) line.RepeatedOperation at
          → Among (λ d. Repeats (map class_name (map (plain_operation s.names s.exprs) d.ops))) s.deltas at ⊎ Among (λ d. Among (λ o. InOperation RepeatedOperation (plain_operation s.names s.exprs o)) d.ops) s.deltas at
      back at (repeated_class_operation delta place within h) =
          let d = mapped_from (plain_delta s.names s.exprs) s.deltas delta within in
          inl (d.0, d.1, subst (λ (x : plain.Delta). Repeats (map class_name x.operations) at) (sym d.2) h)
      back at (repeated_field_operation c place within h) = inr (all_from (InOperation RepeatedOperation) at (modifies_class c, change_within c within, inl (inl h)))
      back at (repeated_method_operation c place within h) = inr (all_from (InOperation RepeatedOperation) at (modifies_class c, change_within c within, inl (inr h)))

  -- ---- all four

  -- a fault that no two operations on one class are
  of_one_operation : (fault : Inside) → ((ops : List plain.Operation) (at : ℕ) → ClassTwice fault ops at → ⊥) → (o : Option ℕ) → IsLeastPlace (Among (λ d. InOperations (plain_operation s.names s.exprs) fault d.ops) s.deltas) o
      → IsLeastPlace (Among (λ d. Among (λ o. InOperation fault (plain_operation s.names s.exprs o)) d.ops) s.deltas) o
  of_one_operation fault never o is =
      least_same o (λ at h. (h.0, h.1, either h.2 (λ two. absurd (never _ at two)) (λ one. one))) (λ at h. (h.0, h.1, inr h.2)) is

  pub least_inside : (fault : Inside) (o : Option ℕ) → IsLeastPlace (Among (λ d. InOperations (plain_operation s.names s.exprs) fault d.ops) s.deltas) o
      → IsLeastPlace (FaultStands (plain_source s) (line_fault fault)) o
  least_inside RepeatedOperation o is =
      least_repeated_operation o
      (least_same o (λ at h. either h.2 (λ two. inl (h.0, h.1, two)) (λ one. inr (h.0, h.1, one)))
      (λ at h. either h (λ two. (two.0, two.1, inl two.2)) (λ one. (one.0, one.1, inr one.2))) is)
  least_inside RepeatedMember o is = least_repeated_member o (of_one_operation RepeatedMember (λ ops at h. h) o is)
  least_inside RepeatedParameter o is = least_repeated_parameter o (of_one_operation RepeatedParameter (λ ops at h. h) o is)
  least_inside OriginalOutside o is = least_original_outside o (of_one_operation OriginalOutside (λ ops at h. h) o is)

  pub least_reserved_class : (o : Option ℕ) → IsLeastPlace (Among (λ d. Among (λ o. OnObject (plain_operation s.names s.exprs o)) d.ops) s.deltas) o → IsLeastPlace (FaultStands (plain_source s) line.ReservedClass) o
  least_reserved_class o is =
      least_same o (λ at h. let op = all_to OnObject at h in subst (FaultStands (plain_source s) line.ReservedClass) op.2.1 (reserved_class op.0 op.1 op.2.0)) (λ at h. all_from OnObject at (back at h)) is
    where
      back : (at : ℕ) → FaultStands (plain_source s) line.ReservedClass at → Among OnObject (operations_of (plain_source s)) at
      back at (reserved_class op within is) = (op, within, (is, refl))

  -- ---- formulas

  in_condition : (features : List plain.Spot) (c : Option plain.Formula) (at : ℕ) → InCondition features c at → (f : plain.Formula) × (c ≡ Some f) × UnknownName features f at
  in_condition features None at h = absurd h
  in_condition features (Some f) at h = (f, refl, h)

  pub least_unknown_feature : (o : Option ℕ)
      → IsLeastPlace (λ at. UnknownName (plain_source s).features (plain_source s).valid at ⊎ Among (λ p. Among (λ i. UnknownInItem (plain_source s).features (plain_item s.names s.formulas i)) p.items) s.parts at) o
      → IsLeastPlace (FaultStands (plain_source s) line.UnknownFeature) o
  least_unknown_feature o is = least_same o to back is
    where
      to : (at : ℕ) → UnknownName (plain_source s).features (plain_source s).valid at ⊎ Among (λ p. Among (λ i. UnknownInItem (plain_source s).features (plain_item s.names s.formulas i)) p.items) s.parts at
          → FaultStands (plain_source s) line.UnknownFeature at
      to at (inl h) = subst (FaultStands (plain_source s) line.UnknownFeature) h.2.1 (unknown_feature (plain_source s).valid h.0 (0, omega arith, refl) h.1 h.2.0)
      to at (inr (p, in_p, (i, in_i, h))) =
          let f = in_condition (plain_source s).features (plain_item s.names s.formulas i).condition at h in
          let items : Contains (items_of (plain_source s)) (plain_item s.names s.formulas i) =
          within_flat (λ (p : plain.Part). p.items) (plain_source s).parts (plain_part s.names s.formulas p) (plain_item s.names s.formulas i) (mapped_within (plain_part s.names s.formulas) s.parts p in_p)
          (mapped_within (plain_item s.names s.formulas) p.items i in_i) in
          subst (FaultStands (plain_source s) line.UnknownFeature) f.2.2.1
          (unknown_feature f.0 f.2.0 (among_others (plain_source s).valid f.0 _ (kept_by (λ (i : plain.Item). i.condition) (items_of (plain_source s)) (plain_item s.names s.formulas i) f.0 items f.1)) f.2.1 f.2.2.0)

      back : (at : ℕ) → FaultStands (plain_source s) line.UnknownFeature at
          → UnknownName (plain_source s).features (plain_source s).valid at ⊎ Among (λ p. Among (λ i. UnknownInItem (plain_source s).features (plain_item s.names s.formulas i)) p.items) s.parts at
      back at (unknown_feature f x within there un) =
          either (first_or_other (plain_source s).valid f (filter_map (λ i. i.condition) (items_of (plain_source s))) within)
          (λ same. inl (subst (λ g. UnknownName (plain_source s).features g x.at) (sym same) (x, there, (un, refl))))
          (λ later.
          let item = filtered_from (λ (i : plain.Item). i.condition) (items_of (plain_source s)) f later in
          let part = from_flat (λ (p : plain.Part). p.items) (plain_source s).parts item.0 item.1 in
          let p = mapped_from (plain_part s.names s.formulas) s.parts part.0 part.1 in
          let i = mapped_from (plain_item s.names s.formulas) p.0.items item.0 (subst (λ (y : plain.Part). Contains y.items item.0) (sym p.2) part.2) in
          inr (p.0, p.1, (i.0, i.1, subst (λ c. InCondition (plain_source s).features c x.at) (sym (ap (λ (y : plain.Item). y.condition) i.2 ∙ item.2)) (x, there, (un, refl)))))

  -- ---- classes

  same_class : (o : ClassOp) → class_name (plain_operation s.names s.exprs o) ≡ plain_spot s.names (class_spot o)
  same_class (Adds c) = refl
  same_class (Modifies c) = refl
  same_class (Removes c) = refl

  known_class : (o : ClassOp) → IsOperation s.names s.exprs o → IsKnown s.names (class_spot o)
  known_class (Adds c) is = is.spot
  known_class (Modifies c) is = is.spot
  known_class (Removes c) is = is

  pub least_classes : IsSound s → (operations : List ClassOp) (spots : List Spot) (o : Option ℕ) → All (IsOperation s.names s.exprs) operations → spots ≡ map class_spot operations → IsLeastPlace (Again spots (length spots)) o
      → IsLeastPlace (Repeats (map class_name (map (plain_operation s.names s.exprs) operations))) o
  least_classes sound operations spots o all e is =
      by_repeats s sound _ o _ known (map_named class_spot class_name (plain_operation s.names s.exprs) (plain_spot s.names) same_class operations) (subst (λ zs. IsLeastPlace (Again zs (length zs)) o) e is)
    where
      known : AllKnown s.names (map class_spot operations)
      known x there =
          let m = mapped_from class_spot operations x there in
          subst (IsKnown s.names) m.2 (known_class m.0 (All-contains (IsOperation s.names s.exprs) operations m.0 all m.1))

  class_text : (o : ClassOp) → IsOperation s.names s.exprs o → slice_get s.names (class_spot o).name.0 ≡ Some (class_name (plain_operation s.names s.exprs o)).text
  class_text o is = present s.names (class_spot o).name.0 [] (known_class o is) ∙ ap (λ (x : plain.Spot). Some x.text) (sym (same_class o))
