-- Which rules an operation breaks, told by look-ups.
use Rattle.std.proofs.Common.{◌≡◌, inl, inr, ℕ, true, cond, Option, None, Some, Contains, IsNone, refl, sym, ap, ◌∙◌, subst, arith}
use Rattle.std.specs.Prelude.{is_some, not, MatchOption}
use Rattle.std.specs.Option.{option_and_then}
use Rattle.std.specs.FinMap.{get}
use Rattle.dj_names.specs.Texts.{Text}
use Rattle.dj_tree.specs.Trees.{Spot, MemberOperation, adds_field, adds_method, modifies_method, removes_field, removes_method, Class, Change, Operation, adds_class, modifies_class, removes_class}
use Rattle.dj_tree.specs.declared.source.Instance.{Instance}
use Rattle.dj_calculus.specs.Tables.{ClassEntry, Table}
use Rattle.dj_calculus.specs.Instances.{IsNotAfter, IsLeast}
use Rattle.dj_calculus.specs.LineRules.{OperationRule, class_there, removed_class_missing, modified_class_missing, field_there, field_missing, method_there, removed_method_missing, modified_method_missing, signature_differs}
use Rattle.ifj_table.specs.Lookups.{own_field, own_method}
use Rattle.dj_apply.specs.Least.{IsLeastBy, Among}
use Rattle.dj_apply.proofs.LeastLemmas.{least_same, least_one, least_test}
use Rattle.dj_apply.specs.Judging.{Breaks, MemberBreaks, instance_at}

-- ---- the order of instances

pub not_after_itself : (i : Instance) → IsNotAfter i i
not_after_itself i = inr (refl, inr (refl, omega arith))

pub not_after_joins : (i j k : Instance) → IsNotAfter i j → IsNotAfter j k → IsNotAfter i k
not_after_joins i j k p q = grind arith

same_parts : (a b c rule at : ℕ) → a ≡ rule → b ≡ at → c ≡ b → ◌≡◌ {A = Instance} (record { rule = a; at = b; second = c }) (record { rule = rule; at = at; second = at })
same_parts a b c rule at p q r = cc

same_instance : (i : Instance) (rule at : ℕ) → i.rule ≡ rule → i.at ≡ at → i.second ≡ i.at → i ≡ instance_at rule at
same_instance i rule at p q r = same_parts i.rule i.at i.second rule at p q r

-- ---- members of a change

module _ (t : Table) (c : Change) (entry : ClassEntry) (there : get t c.name.text ≡ Some entry) where
  field_is : (f : Text) → own_field t c.name.text f ≡ get entry.fields f
  field_is f = ap (option_and_then (λ (e : ClassEntry). get e.fields f)) there

  method_is : (m : Text) → own_method t c.name.text m ≡ get entry.methods m
  method_is m = ap (option_and_then (λ (e : ClassEntry). get e.methods m)) there

  member_breaks : (m : MemberOperation) (i : Instance) → Contains c.members m → MemberBreaks t c.name.text m i → Breaks t (modifies_class c) i
  member_breaks (adds_field f) i within (is, e) = subst (Breaks t (modifies_class c)) (sym e) (field_there f entry within there (sym (ap is_some (field_is f.name.text)) ∙ is), refl)
  member_breaks (removes_field f) i within (is, e) = subst (Breaks t (modifies_class c)) (sym e) (field_missing f entry within there (sym (ap is_some (field_is f.text)) ∙ is), refl)
  member_breaks (adds_method m) i within (is, e) = subst (Breaks t (modifies_class c)) (sym e) (method_there m entry within there (sym (ap is_some (method_is m.name.text)) ∙ is), refl)
  member_breaks (removes_method m) i within (is, e) = subst (Breaks t (modifies_class c)) (sym e) (removed_method_missing m entry within there (sym (ap is_some (method_is m.text)) ∙ is), refl)
  member_breaks (modifies_method m) i within (inl (is, e)) =
      subst (Breaks t (modifies_class c)) (sym e) (modified_method_missing m entry within there (sym (ap is_some (method_is m.name.text)) ∙ is), refl)
  member_breaks (modifies_method m) i within (inr (old, is, differs, e)) =
      subst (Breaks t (modifies_class c)) (sym e) (signature_differs m entry old within there (sym (method_is m.name.text) ∙ is) differs, refl)

  same_fields : (f : Text) (other : ClassEntry) → get t c.name.text ≡ Some other → get entry.fields f ≡ get other.fields f
  same_fields f other has = let same : entry ≡ other = cc in ap (λ (e : ClassEntry). get e.fields f) same

  same_methods : (m : Text) (other : ClassEntry) → get t c.name.text ≡ Some other → get entry.methods m ≡ get other.methods m
  same_methods m other has = let same : entry ≡ other = cc in ap (λ (e : ClassEntry). get e.methods m) same

  there_and_not : (o : Option ClassEntry) → o ≡ Some entry → IsNone o → ⊥
  there_and_not None e none = absurd cc
  there_and_not (Some x) e none = absurd cc

  member_from : (rule at : ℕ) → OperationRule t (modifies_class c) rule at → Among (MemberBreaks t c.name.text) c.members (instance_at rule at)
  member_from rule at (modified_class_missing is) = absurd (there_and_not (get t c.name.text) there is)
  member_from rule at (field_there f other within has is) = (adds_field f, within, (ap is_some (field_is f.name.text ∙ same_fields f.name.text other has) ∙ is, refl))
  member_from rule at (field_missing f other within has is) = (removes_field f, within, (ap is_some (field_is f.text ∙ same_fields f.text other has) ∙ is, refl))
  member_from rule at (method_there m other within has is) = (adds_method m, within, (ap is_some (method_is m.name.text ∙ same_methods m.name.text other has) ∙ is, refl))
  member_from rule at (removed_method_missing m other within has is) = (removes_method m, within, (ap is_some (method_is m.text ∙ same_methods m.text other has) ∙ is, refl))
  member_from rule at (modified_method_missing m other within has is) = (modifies_method m, within, inl (ap is_some (method_is m.name.text ∙ same_methods m.name.text other has) ∙ is, refl))
  member_from rule at (signature_differs m other old within has is differs) =
      (modifies_method m, within, inr (old, method_is m.name.text ∙ same_methods m.name.text other has ∙ is, differs, refl))

  -- the members of a change whose class is there, each judged in it
  pub change_judged : (o : Option Instance) → IsLeastBy IsNotAfter (Among (MemberBreaks t c.name.text) c.members) o → IsLeastBy IsNotAfter (Breaks t (modifies_class c)) o
  change_judged o is = least_same IsNotAfter o (λ i found. member_breaks found.0 i found.1 found.2) back is
    where
      back : (i : Instance) → Breaks t (modifies_class c) i → Among (MemberBreaks t c.name.text) c.members i
      back i (breaks, second) = subst (Among (MemberBreaks t c.name.text) c.members) (sym (same_instance i i.rule i.at refl refl second)) (member_from i.rule i.at breaks)

-- ---- classes that aren't there, and that are

module _ (t : Table) where
  pub class_missing : (c : Change) → IsNone (get t c.name.text) → IsLeastBy IsNotAfter (Breaks t (modifies_class c)) (Some (instance_at 3 c.name.at))
  class_missing c none = least_one IsNotAfter (instance_at 3 c.name.at) (not_after_itself _) (modified_class_missing {c = c} none, refl) (λ i breaks. same_instance i 3 c.name.at (rule_is i.rule i.at breaks.0).0 (rule_is i.rule i.at breaks.0).1 breaks.1)
    where
      not_there : (entry : ClassEntry) (o : Option ClassEntry) → o ≡ Some entry → IsNone o → ⊥
      not_there entry None e is = absurd cc
      not_there entry (Some x) e is = absurd cc

      rule_is : (rule at : ℕ) → OperationRule t (modifies_class c) rule at → (rule ≡ 3) × (at ≡ c.name.at)
      rule_is rule at (modified_class_missing is) = (refl, refl)
      rule_is rule at (field_there f other within has is) = absurd (not_there other _ has none)
      rule_is rule at (field_missing f other within has is) = absurd (not_there other _ has none)
      rule_is rule at (method_there m other within has is) = absurd (not_there other _ has none)
      rule_is rule at (removed_method_missing m other within has is) = absurd (not_there other _ has none)
      rule_is rule at (modified_method_missing m other within has is) = absurd (not_there other _ has none)
      rule_is rule at (signature_differs m other old within has is differs) = absurd (not_there other _ has none)

  pub added_judged : (c : Class) (o : Option Instance) → o ≡ cond (is_some (get t c.name.text)) (Some (instance_at 2 c.name.at)) None → IsLeastBy IsNotAfter (Breaks t (adds_class c)) o
  added_judged c o is =
      least_test IsNotAfter (is_some (get t c.name.text)) (instance_at 2 c.name.at) o is (not_after_itself _) (λ there. (class_there {c = c} there, refl))
      (λ i breaks. let it = rule_is i.rule i.at breaks.0 in (it.0, same_instance i 2 c.name.at it.1 it.2 breaks.1))
    where
      rule_is : (rule at : ℕ) → OperationRule t (adds_class c) rule at → (is_some (get t c.name.text) ≡ true) × (rule ≡ 2) × (at ≡ c.name.at)
      rule_is rule at (class_there is) = (is, refl, refl)

  not_some : {X : Type 0} (o : Option X) → IsNone o → not (is_some o) ≡ true
  not_some None is = refl
  not_some (Some x) is = absurd cc

  none_from : {X : Type 0} (o : Option X) → not (is_some o) ≡ true → IsNone o
  none_from None is = refl
  none_from (Some x) is = absurd cc

  pub removed_judged : (c : Spot) (o : Option Instance) → o ≡ cond (not (is_some (get t c.text))) (Some (instance_at 3 c.at)) None → IsLeastBy IsNotAfter (Breaks t (removes_class c)) o
  removed_judged c o is =
      least_test IsNotAfter (not (is_some (get t c.text))) (instance_at 3 c.at) o is (not_after_itself _) (λ none. (removed_class_missing {c = c} (none_from _ none), refl))
      (λ i breaks. let it = rule_is i.rule i.at breaks.0 in (it.0, same_instance i 3 c.at it.1 it.2 breaks.1))
    where
      rule_is : (rule at : ℕ) → OperationRule t (removes_class c) rule at → (not (is_some (get t c.text)) ≡ true) × (rule ≡ 3) × (at ≡ c.at)
      rule_is rule at (removed_class_missing is) = (not_some _ is, refl, refl)

  -- what judge answers
  abbrev pub Judged : Operation → Option Instance → Type 0
  Judged x o = MatchOption o ((rule at : ℕ) → ¬ (OperationRule t x rule at)) (IsLeast (Breaks t x))

  pub judged : (x : Operation) (o : Option Instance) → IsLeastBy IsNotAfter (Breaks t x) o → Judged x o
  judged x None is = λ rule at breaks. is (instance_at rule at) (breaks, refl)
  judged x (Some i) is = record { is = is.0; least = is.1 }
