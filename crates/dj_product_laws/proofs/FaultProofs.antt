-- The faults of an operation are the rules that it breaks, and an operation of an accepted source without a fault is applied.
use Rattle.std.proofs.Common.{◌≡◌, ◌↔◌, ℕ, Bool, true, false, List, [], ◌∷◌, Option, Some, None, IsSome, IsNone, Contains, refl, sym, ap, ◌∙◌, subst, arith}
use Rattle.std.specs.Bool.{if◌then◌else◌}
use Rattle.std.specs.FinMap.{get}
use Rattle.dj_tree.specs.Trees.{Method, MemberOperation, adds_field, adds_method, modifies_method, removes_field, removes_method}
use Rattle.dj_tree.specs.Trees.{Change, Operation, adds_class, modifies_class, removes_class, Delta, Source}
use Rattle.dj_calculus.specs.Accepted.{IsAccepted}
use Rattle.dj_calculus.specs.Tables.{MethodEntry, ClassEntry, Table}
use Rattle.dj_calculus.specs.Entries.{signature_of, same_signature}
use Rattle.dj_calculus.specs.Operations.{apply}
use Rattle.dj_calculus.specs.LineRules.{OperationRule, class_there, removed_class_missing, modified_class_missing, field_there, field_missing, method_there, removed_method_missing, modified_method_missing, signature_differs}
use Rattle.dj_calculus.proofs.Members.{no_element, either, only_one, from_flat, within_flat}
use Rattle.dj_calculus.proofs.OperationLemmas.{IsOnce}
use Rattle.dj_calculus.proofs.GoodLemmas.{change_within, members_once}
use Rattle.dj_calculus.proofs.Independence.{Defined}
use Rattle.dj_calculus.proofs.ProductExists.{defined_or_broken}
use Rattle.dj_product_laws.specs.OperationFaults.{if_there, if_missing, modify_faults, member_faults, class_faults, faults}
use Rattle.dj_product_laws.specs.Passes.{unless_broken, attempt}

-- ---- faults are broken rules

-- what holds of the pair told holds of each one in the list
module _ (P : ℕ × ℕ → Type 0) (rule at : ℕ) where
  from_one : (q : ℕ × ℕ) → Contains ((rule, at) ∷ []) q → P (rule, at) → P q
  from_one q has is = subst P (only_one (rule, at) q has) is

  from_there : {X : Type 0} (o : Option X) (q : ℕ × ℕ) → Contains (if_there rule at o) q → (IsSome o → P (rule, at)) → P q
  from_there None q has is = no_element q has
  from_there (Some x) q has is = from_one q has (is refl)

  from_missing : {X : Type 0} (o : Option X) (q : ℕ × ℕ) → Contains (if_missing rule at o) q → (IsNone o → P (rule, at)) → P q
  from_missing None q has is = from_one q has (is refl)
  from_missing (Some x) q has is = no_element q has

abbrev Broke : Table → Operation → ℕ × ℕ → Type 0
Broke t x q = OperationRule t x q.0 q.1

module _ (t : Table) (c : Change) (entry : ClassEntry) (there : get t c.name.text ≡ Some entry) where
  differs_from : (m : Method) (old : MethodEntry) → Contains c.members (modifies_method m) → get entry.methods m.name.text ≡ Some old → (b : Bool)
      → same_signature old.signature (signature_of m) ≡ b → (q : ℕ × ℕ) → Contains (if b then [] else (8, m.name.at) ∷ []) q → Broke t (modifies_class c) q
  differs_from m old within is true same q has = no_element q has
  differs_from m old within is false same q has =
      from_one (Broke t (modifies_class c)) 8 m.name.at q has (signature_differs m entry old within there is same)

  modified_from : (m : Method) → Contains c.members (modifies_method m) → (o : Option MethodEntry) → get entry.methods m.name.text ≡ o
      → (q : ℕ × ℕ) → Contains (modify_faults m o) q → Broke t (modifies_class c) q
  modified_from m within None e q has =
      from_one (Broke t (modifies_class c)) 7 m.name.at q has (modified_method_missing m entry within there (subst IsNone (sym e) refl))
  modified_from m within (Some old) e q has = differs_from m old within e _ refl q has

  member_from : (m : MemberOperation) → Contains c.members m → (q : ℕ × ℕ) → Contains (member_faults entry m) q → Broke t (modifies_class c) q
  member_from (adds_field f) within q has =
      from_there (Broke t (modifies_class c)) 4 f.name.at (get entry.fields f.name.text) q has (λ is. field_there f entry within there is)
  member_from (adds_method m) within q has =
      from_there (Broke t (modifies_class c)) 6 m.name.at (get entry.methods m.name.text) q has (λ is. method_there m entry within there is)
  member_from (modifies_method m) within q has = modified_from m within _ refl q has
  member_from (removes_field f) within q has =
      from_missing (Broke t (modifies_class c)) 5 f.at (get entry.fields f.text) q has (λ is. field_missing f entry within there is)
  member_from (removes_method m) within q has =
      from_missing (Broke t (modifies_class c)) 7 m.at (get entry.methods m.text) q has (λ is. removed_method_missing m entry within there is)

change_from : (t : Table) (c : Change) (o : Option ClassEntry) → get t c.name.text ≡ o → (q : ℕ × ℕ) → Contains (class_faults (modifies_class c) o) q
    → Broke t (modifies_class c) q
change_from t c None e q has =
    from_one (Broke t (modifies_class c)) 3 c.name.at q has (modified_class_missing {c = c} (subst IsNone (sym e) refl))
change_from t c (Some entry) e q has =
    let found = from_flat (member_faults entry) c.members q has in
    member_from t c entry e found.0 found.1 q found.2

pub rule_from : (t : Table) (x : Operation) (q : ℕ × ℕ) → Contains (faults t x) q → OperationRule t x q.0 q.1
rule_from t (adds_class c) q has = from_there (Broke t (adds_class c)) 2 c.name.at (get t c.name.text) q has (λ is. class_there {c = c} is)
rule_from t (removes_class c) q has = from_missing (Broke t (removes_class c)) 3 c.at (get t c.text) q has (λ is. removed_class_missing {c = c} is)
rule_from t (modifies_class c) q has = change_from t c _ refl q has

-- ---- broken rules are faults

told_there : {X : Type 0} (rule at : ℕ) (o : Option X) → IsSome o → Contains (if_there rule at o) (rule, at)
told_there rule at None is = absurd cc
told_there rule at (Some x) is = (0, omega arith, refl)

told_missing : {X : Type 0} (rule at : ℕ) (o : Option X) → IsNone o → Contains (if_missing rule at o) (rule, at)
told_missing rule at None is = (0, omega arith, refl)
told_missing rule at (Some x) is = absurd cc

told_modified : (m : Method) (o : Option MethodEntry) → IsNone o → Contains (modify_faults m o) (7, m.name.at)
told_modified m None is = (0, omega arith, refl)
told_modified m (Some x) is = absurd cc

told_differs : (b : Bool) (at : ℕ) → b ≡ false → Contains {X = ℕ × ℕ} (if b then [] else (8, at) ∷ []) (8, at)
told_differs true at is = absurd cc
told_differs false at is = (0, omega arith, refl)

-- what a member breaks in the class, the change breaks
of_member : (t : Table) (c : Change) (entry : ClassEntry) (m : MemberOperation) (q : ℕ × ℕ) → get t c.name.text ≡ Some entry → Contains c.members m
    → Contains (member_faults entry m) q → Contains (faults t (modifies_class c)) q
of_member t c entry m q there within has =
    subst (λ o. Contains (class_faults (modifies_class c) o) q) (sym there) (within_flat (member_faults entry) c.members m q within has)

missing_told : (t : Table) (c : Change) (o : Option ClassEntry) → IsNone o → Contains (class_faults (modifies_class c) o) (3, c.name.at)
missing_told t c None is = (0, omega arith, refl)
missing_told t c (Some entry) is = absurd cc

pub rule_told : (t : Table) (x : Operation) (rule at : ℕ) → OperationRule t x rule at → Contains (faults t x) (rule, at)
rule_told t x rule at (class_there {c = c} is) = told_there 2 c.name.at _ is
rule_told t x rule at (removed_class_missing {c = c} is) = told_missing 3 c.at _ is
rule_told t x rule at (modified_class_missing {c = c} is) = missing_told t c _ is
rule_told t x rule at (field_there {c = c} f entry within there is) = of_member t c entry (adds_field f) _ there within (told_there 4 f.name.at _ is)
rule_told t x rule at (field_missing {c = c} f entry within there is) = of_member t c entry (removes_field f) _ there within (told_missing 5 f.at _ is)
rule_told t x rule at (method_there {c = c} m entry within there is) = of_member t c entry (adds_method m) _ there within (told_there 6 m.name.at _ is)
rule_told t x rule at (removed_method_missing {c = c} m entry within there is) =
    of_member t c entry (removes_method m) _ there within (told_missing 7 m.at _ is)
rule_told t x rule at (modified_method_missing {c = c} m entry within there is) =
    of_member t c entry (modifies_method m) _ there within (told_modified m _ is)
rule_told t x rule at (signature_differs {c = c} m entry old within there is differs) =
    of_member t c entry (modifies_method m) _ there within
    (subst (λ o. Contains (modify_faults m o) (8, m.name.at)) (sym is) (told_differs _ m.name.at differs))

pub faults_are_rules : (t : Table) (x : Operation) (rule at : ℕ) → Contains (faults t x) (rule, at) ↔ OperationRule t x rule at
faults_are_rules t x rule at = (λ has. rule_from t x (rule, at) has, λ breaks. rule_told t x rule at breaks)

-- ---- attempts

made_alone : (fs : List (ℕ × ℕ)) (o : Option Table) (t u : Table) → fs ≡ [] → o ≡ Some u → unless_broken fs o t ≡ u
made_alone fs o t u none made = rw (none, made) refl

-- where an operation has no fault and is defined, the attempt is what it makes
pub made_by : (x : Operation) (t : Table) → faults t x ≡ [] → Defined (apply x) t → apply x t ≡ Some (attempt x t)
made_by x t none d = d.1 ∙ ap Some (sym (made_alone (faults t x) (apply x t) t d.0 none d.1))

-- a broken operation changes nothing
pub stays_if_broken : (x : Operation) (t : Table) (fault : ℕ × ℕ) (more : List (ℕ × ℕ)) → faults t x ≡ fault ∷ more → attempt x t ≡ t
stays_if_broken x t fault more is = ap (λ fs. unless_broken fs (apply x t) t) is

pub none_within : {X : Type 0} (xs : List X) (x : X) → xs ≡ [] → Contains xs x → ⊥
none_within xs x none has = no_element x (subst (λ ys. Contains ys x) none has)

-- an operation without a fault whose members stand once is applied
pub applied_once : (x : Operation) (t : Table) → ((c : Change) → x ≡ modifies_class c → IsOnce c) → faults t x ≡ [] → apply x t ≡ Some (attempt x t)
applied_once x t once none =
    either (defined_or_broken t x once) (λ d. made_by x t none d)
    (λ b. absurd (none_within (faults t x) (b.0, b.1.0) none (rule_told t x b.0 b.1.0 b.1.1)))

pub faultless_is_applied : (source : Source) (delta : Delta) (x : Operation) (t : Table) → IsAccepted source → Contains source.deltas delta
    → Contains delta.operations x → faults t x ≡ [] → apply x t ≡ Some (attempt x t)
faultless_is_applied source delta x t accepted of within none =
    applied_once x t
    (λ c same. members_once source accepted c (change_within source accepted delta c of (subst (λ y. Contains delta.operations y) same within))) none
