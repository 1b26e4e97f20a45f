-- Operations that break no rule, as steps on their class.
use Rattle.std.proofs.Common.{◌≡◌, ℕ, suc, ◌+◌, ◌≤◌, false, List, [], ◌∷◌, ◌++◌, map, take, drop, length, slice_get, Option, None, Some, IsSome, Contains, refl, sym, ap, ◌∙◌, subst}
use Rattle.std.specs.Prelude.{is_some, All}
use Rattle.std.specs.Option.{option_map}
use Rattle.std.specs.FinMap.{get, insert, remove}
use Rattle.std.specs.List.Sorted.{IsPermutation}
use Rattle.std.proofs.lemmas.List.{take_more, take_all}
use Rattle.std.proofs.lemmas.List.Elements.{All-weaker, All-contains_itself}
use Rattle.std.proofs.lemmas.List.Sorted.{IsPermutation-map, IsPermutation-append_right, All-permutation}
use Rattle.std.proofs.lemmas.Option.{slice_get_within, get_or_from_slice_get}
use Rattle.dj_names.specs.Texts.{Text}
use Rattle.dj_tree.specs.Trees.{Spot, MemberOperation, Class, Change, adds_class, modifies_class, removes_class}
use Rattle.dj_calculus.specs.Maps.{with_at}
use Rattle.dj_calculus.specs.Things.{Step, does, first_steps, steps_of}
use Rattle.dj_calculus.specs.Tables.{ClassEntry, Table}
use Rattle.dj_calculus.specs.Entries.{class_entry, superclass_of}
use Rattle.dj_calculus.specs.LineRules.{OperationRule, class_there, removed_class_missing}
use Rattle.dj_calculus.specs.Operations.{run, inside, leave, take_step, apply}
use Rattle.dj_calculus.proofs.Members.{mapped, either}
use Rattle.dj_calculus.proofs.GoodLemmas.{split_at}
use Rattle.dj_calculus.proofs.Independence.{Reordered, Pairwise, reordered}
use Rattle.dj_calculus.proofs.DisjointDeltas.{get_there, members_pairwise, steps_pairwise}
use Rattle.dj_calculus.proofs.ProductExists.{defined_or_broken}
use Rattle.dj_calculus.proofs.OperationLemmas.{IsOnce}
use Rattle.dj_source_laws.specs.Once.{members_in}
use Rattle.ifj_table.specs.Changes.{bare_class}
use Rattle.dj_apply.specs.Ready.{HasBody, AreMembers}
use Rattle.dj_apply.specs.Taking.{CanTake, Takes}
use Rattle.dj_apply.proofs.Taking.{takes_more, can_go_on, can_first, takes_reordered, can_reordered, change_applied, class_applied}
use Rattle.dj_apply.proofs.AddedClasses.{class_made}

-- ---- along a list of steps

module _ (t u : Table) (class : Text) (steps : List Step) (i : ℕ) (x : Step) (here : slice_get steps i ≡ Some x) (done : Takes t u class (take i steps)) where
  pub next_can : CanTake t class steps → CanTake u class (x ∷ [])
  next_can can = can_first u class x (drop (suc i) steps) (can_go_on t u class (take i steps) (x ∷ drop (suc i) steps) (subst (CanTake t class) (split_at steps i x here) can) done)

  pub next_taken : (v : Table) → Takes u v class (x ∷ []) → Takes t v class (take (i + 1) steps)
  next_taken v one =
      let more : take (i + 1) steps ≡ take i steps ++ x ∷ [] = take_more steps i x (slice_get_within steps i x here) ∙ ap (λ y. take i steps ++ y ∷ []) (get_or_from_slice_get steps i x x here) in
      subst (Takes t v class) (sym more) (takes_more t u class v (take i steps) (x ∷ []) done one)

pub all_taken : (t u : Table) (class : Text) (steps : List Step) (i : ℕ) → length steps ≤ i → Takes t u class (take i steps) → Takes t u class steps
all_taken t u class steps i high done = subst (Takes t u class) (take_all i steps high) done

-- ---- classes that are there, and that aren't

went_inside : {X : Type 0} (change : X → Option X) (o y : Option X) → inside change o ≡ Some y → (x : X) × (o ≡ Some x) × ((z : X) × (change x ≡ Some z))
went_inside change None y e = absurd cc
went_inside change (Some x) y e = let made = mapped Some (change x) y e in (x, refl, (made.0, made.1))

none_unless : {X : Type 0} (o : Option X) → (IsSome o → ⊥) → o ≡ None
none_unless None never = refl
none_unless (Some x) never = absurd (never refl)

some_unless : {X : Type 0} (o : Option X) → (is_some o ≡ false → ⊥) → (x : X) × (o ≡ Some x)
some_unless None never = absurd (never refl)
some_unless (Some x) never = (x, refl)

pub added_absent : (t : Table) (c : Class) → ((rule at : ℕ) → ¬ (OperationRule t (adds_class c) rule at)) → get t c.name.text ≡ None
added_absent t c unbroken = none_unless (get t c.name.text) (λ there. unbroken 2 c.name.at (class_there {c = c} there))

pub removed_there : (t : Table) (c : Spot) → ((rule at : ℕ) → ¬ (OperationRule t (removes_class c) rule at)) → (old : ClassEntry) × (get t c.text ≡ Some old)
removed_there t c unbroken = some_unless (get t c.text) (λ missing. unbroken 3 c.at (removed_class_missing {c = c} missing))

pub class_removed : (t u : Table) (c : Spot) (old : ClassEntry) → get t c.text ≡ Some old → u ≡ remove t c.text → apply (removes_class c) t ≡ Some u
class_removed t u c old there is = ap (λ o. option_map (λ held. with_at t c.text held) (leave o)) there ∙ ap Some (sym is)

-- ---- bodies

-- every element is an element
pub elements : {X : Type 0} (P : X → Type 0) (xs : List X) → ((x : X) → Contains xs x → P x) → All P xs
elements P xs each = All-weaker (Contains xs) P each xs (All-contains_itself xs)

pub bodies_of : (members ms : List MemberOperation) → AreMembers members → IsPermutation members ms → All HasBody ms
bodies_of members ms are p = All-permutation HasBody members ms p (elements HasBody members are.bodies)

-- ---- a change

module _ (t : Table) (c : Change) (are : AreMembers (members_in (modifies_class c))) (unbroken : (rule at : ℕ) → ¬ (OperationRule t (modifies_class c) rule at)) where
  once : (d : Change) → modifies_class c ≡ modifies_class d → IsOnce d
  once d same = let e : c ≡ d = cc in subst IsOnce e (record { fields = are.fields; methods = are.methods })

  change_can : CanTake t c.name.text (steps_of c)
  change_can =
      let made = either (defined_or_broken t (modifies_class c) once) (λ d. d) (λ b. absurd (unbroken b.0 b.1.0 b.1.1)) in
      let held = mapped (λ h. with_at t c.name.text h) (inside (run take_step (steps_of c)) (get t c.name.text)) made.0 made.1 in
      let went = went_inside (run take_step (steps_of c)) (get t c.name.text) held.0 held.1 in
      record { old = went.0; new = went.2.0; there = went.1; taken = went.2.1 }

  pub change_there : IsSome (get t c.name.text)
  change_there = ap is_some change_can.there

  steps_apart : Pairwise take_step (steps_of c)
  steps_apart = steps_pairwise c.parent c.members are.fields are.methods

  module _ (ms : List MemberOperation) (p : IsPermutation c.members ms) where
    in_order : Reordered (steps_of c) (first_steps c.parent ++ map does ms)
    in_order = reordered (steps_of c) (first_steps c.parent ++ map does ms) (IsPermutation-append_right (first_steps c.parent) (map does c.members) (map does ms) (IsPermutation-map does c.members ms p))

    -- what is left behind the superclass
    pub after_parent : (u : Table) → Takes t u c.name.text (first_steps c.parent) → CanTake u c.name.text (map does ms)
    after_parent u first = can_go_on t u c.name.text (first_steps c.parent) (map does ms) (can_reordered t c.name.text (steps_of c) (first_steps c.parent ++ map does ms) in_order steps_apart change_can) first

    pub change_done : (u v : Table) → Takes t u c.name.text (first_steps c.parent) → Takes u v c.name.text (map does ms) → apply (modifies_class c) t ≡ Some v
    change_done u v first rest =
        change_applied c t v (takes_reordered t v c.name.text (steps_of c) (first_steps c.parent ++ map does ms) in_order steps_apart
        (takes_more t u c.name.text v (first_steps c.parent) (map does ms) first rest))

-- ---- an added class

module _ (t u : Table) (c : Class) (are : AreMembers (members_in (adds_class c))) (bare : u ≡ insert t c.name.text (bare_class c.name.at (superclass_of c.name c.parent)))
    (ms : List MemberOperation) (p : IsPermutation (members_in (adds_class c)) ms) where
  members_apart : Pairwise take_step (map does (members_in (adds_class c)))
  members_apart = members_pairwise (members_in (adds_class c)) are.fields are.methods

  members_order : Reordered (map does (members_in (adds_class c))) (map does ms)
  members_order = reordered (map does (members_in (adds_class c))) (map does ms) (IsPermutation-map does (members_in (adds_class c)) ms p)

  pub class_can : CanTake u c.name.text (map does ms)
  class_can =
      can_reordered u c.name.text (map does (members_in (adds_class c))) (map does ms) members_order members_apart
      (record {
        old = bare_class c.name.at (superclass_of c.name c.parent);
        new = class_entry c;
        there = ap (λ w. get w c.name.text) bare ∙ get_there t c.name.text (Some (bare_class c.name.at (superclass_of c.name c.parent)));
        taken = class_made c are.fields are.methods;
      })

  pub class_done : (v : Table) → get t c.name.text ≡ None → Takes u v c.name.text (map does ms) → apply (adds_class c) t ≡ Some v
  class_done v none done =
      class_applied c t u v (bare_class c.name.at (superclass_of c.name c.parent)) (map does (members_in (adds_class c))) none bare
      (takes_reordered u v c.name.text (map does (members_in (adds_class c))) (map does ms) members_order members_apart done) (class_made c are.fields are.methods)
