-- The order of members doesn't matter: an operation has the same faults, and where its members stand once it makes the same table.
use Rattle.std.proofs.Common.{◌≡◌, ◌↔◌, ℕ, List, [], ◌∷◌, ◌++◌, map, Option, Some, None, Contains, refl, sym, ap, ◌∙◌, subst, arith}
use Rattle.std.specs.Prelude.{⊤}
use Rattle.std.specs.List.Sorted.{IsPermutation}
use Rattle.std.specs.Option.{option_map}
use Rattle.std.specs.FinMap.{get, insert, from_entries}
use Rattle.std.proofs.lemmas.List.Sorted.{IsPermutation-map, IsPermutation-sym, Contains-permutation}
use Rattle.dj_names.specs.Texts.{Text}
use Rattle.dj_tree.specs.Trees.{Spot, Field, Method, Change, Operation, adds_class, modifies_class, removes_class, Delta, Source}
use Rattle.dj_calculus.specs.Maps.{text_cmp, with_at}
use Rattle.dj_calculus.specs.Accepted.{IsAccepted}
use Rattle.dj_calculus.specs.Faults.{RepeatedMember}
use Rattle.dj_calculus.specs.FaultPlaces.{repeated_field, repeated_method}
use Rattle.dj_calculus.specs.Contents.{operations_of, classes_of, added_by}
use Rattle.dj_calculus.specs.Things.{Step, extends, does, first_steps, steps_of}
use Rattle.dj_calculus.specs.Tables.{ClassEntry, Table}
use Rattle.dj_calculus.specs.Entries.{field_entry, method_entry, class_entry}
use Rattle.dj_calculus.specs.Operations.{run, enter, inside, take_step, apply}
use Rattle.dj_calculus.proofs.Members.{and, no_element, from_flat, within_flat, kept_by, StandOnce}
use Rattle.dj_calculus.proofs.OperationLemmas.{IsOnce}
use Rattle.dj_calculus.proofs.GoodLemmas.{change_within, members_once}
use Rattle.dj_calculus.proofs.Independence.{Reordered, same, keep, crossed, joined, reordered, run_reordered}
use Rattle.dj_calculus.proofs.DisjointDeltas.{with_at_apart, steps_pairwise}
use Rattle.dj_product_laws.specs.OperationFaults.{member_faults, class_faults, faults}
use Rattle.dj_product_laws.specs.Passes.{unless_broken, attempt, SameMembers, adds, modifies, removes}
use Rattle.dj_product_laws.proofs.EachTwo.{EachTwo, two_and, each_two_reordered, each_two_named}

pub members_turned : (x y : Operation) → SameMembers x y → SameMembers y x
members_turned x y (adds {fields = fs} {fields' = gs} {methods = ms} {methods' = ns} p q) = adds (IsPermutation-sym fs gs p) (IsPermutation-sym ms ns q)
members_turned x y (modifies {members = ms} {members' = ns} p) = modifies (IsPermutation-sym ms ns p)
members_turned x y removes = removes

-- ---- faults

change_keeps : (t : Table) (c d : Change) (o : Option ClassEntry) (q : ℕ × ℕ) → IsPermutation c.members d.members → c.name ≡ d.name
    → Contains (class_faults (modifies_class c) o) q → Contains (class_faults (modifies_class d) o) q
change_keeps t c d None q permuted named has = subst (λ n. Contains {X = ℕ × ℕ} ((3, n.at) ∷ []) q) named has
change_keeps t c d (Some entry) q permuted named has =
    let found = from_flat (member_faults entry) c.members q has in
    within_flat (member_faults entry) d.members found.0 q (Contains-permutation c.members d.members found.0 permuted found.1) found.2

pub faults_kept : (t : Table) (x y : Operation) (q : ℕ × ℕ) → SameMembers x y → Contains (faults t x) q → Contains (faults t y) q
faults_kept t x y q (adds p r) has = has
faults_kept t x y q (modifies {name = n} {parent = parent} {members = ms} {members' = ns} p) has =
    change_keeps t (record { name = n; parent = parent; members = ms }) (record { name = n; parent = parent; members = ns }) (get t n.text) q p refl has
faults_kept t x y q removes has = has

pub same_faults : (t : Table) (x y : Operation) (rule at : ℕ) → SameMembers x y → Contains (faults t x) (rule, at) ↔ Contains (faults t y) (rule, at)
same_faults t x y rule at alike = (faults_kept t x y (rule, at) alike, faults_kept t y x (rule, at) (members_turned x y alike))

-- ---- what operations make

-- each member of the operation stands once
abbrev pub HasOnce : Operation → Type 0
HasOnce (adds_class c) = StandOnce (map (λ f. f.name) c.fields) × StandOnce (map (λ m. m.name) c.methods)
HasOnce (modifies_class c) = IsOnce c
HasOnce (removes_class c) = ⊤

pub has_once : (source : Source) (delta : Delta) (x : Operation) → IsAccepted source → Contains source.deltas delta → Contains delta.operations x → HasOnce x
has_once source delta (adds_class c) accepted of within =
    let there : Contains (classes_of source) c = kept_by added_by (operations_of source) (adds_class c) c (within_flat (λ d. d.operations) source.deltas delta (adds_class c) of within) refl in
    (λ at r. accepted RepeatedMember at (repeated_field c at there r), λ at r. accepted RepeatedMember at (repeated_method c at there r))
has_once source delta (modifies_class c) accepted of within = members_once source accepted c (change_within source accepted delta c of within)
has_once source delta (removes_class c) accepted of within = tt

-- as other lemmas ask for it
pub once_if : (x : Operation) → HasOnce x → (c : Change) → x ≡ modifies_class c → IsOnce c
once_if x once c is = subst HasOnce is once

abbrev KeysDiffer : {X : Type 0} → Text × X → Text × X → Type 0
KeysDiffer e f = ¬ (e.0 ≡ f.0)

pub entries_reordered : {X : Type 0} (es fs : List (Text × X)) → Reordered es fs → EachTwo KeysDiffer es
    → from_entries {R = text_cmp} fs ≡ from_entries es
entries_reordered es fs same all = refl
entries_reordered es fs (keep e {xs = us} {ys = vs} r) (two_and first more) = ap (λ m. insert m e.0 e.1) (entries_reordered us vs r more)
entries_reordered es fs (crossed e f {xs = rest}) (two_and (and apart first) more) = with_at_apart (from_entries rest) e.0 f.0 (Some e.1) (Some f.1) apart
entries_reordered es fs (joined {ys = ms} p q) all =
    entries_reordered ms fs q (each_two_reordered KeysDiffer (λ e f apart equal. apart (sym equal)) es ms p all) ∙ entries_reordered es ms p all

-- the map of named elements in another order
pub entries_permuted : {X Y : Type 0} (name : Y → Spot) (entry : Y → X) (ys zs : List Y) → IsPermutation ys zs → StandOnce (map name ys)
    → from_entries {R = text_cmp} (map (λ y. ((name y).text, entry y)) zs) ≡ from_entries (map (λ y. ((name y).text, entry y)) ys)
entries_permuted name entry ys zs permuted once =
    entries_reordered _ _ (reordered _ _ (IsPermutation-map (λ y. ((name y).text, entry y)) ys zs permuted))
    (each_two_named KeysDiffer name (λ y. ((name y).text, entry y)) (λ y z apart. apart) ys once)

pub same_entry : (name : Spot) (parent : Option Spot) (fs gs : List Field) (ms ns : List Method) → IsPermutation fs gs → IsPermutation ms ns
    → StandOnce (map (λ f. f.name) fs) → StandOnce (map (λ m. m.name) ms)
    → class_entry (record { name = name; parent = parent; fields = gs; methods = ns }) ≡ class_entry (record { name = name; parent = parent; fields = fs; methods = ms })
same_entry name parent fs gs ms ns p q fields methods =
    rw (entries_permuted (λ (f : Field). f.name) field_entry fs gs p fields, entries_permuted (λ (m : Method). m.name) method_entry ms ns q methods) refl

behind_first : (parent : Option Spot) (xs ys : List Step) → Reordered xs ys → Reordered (first_steps parent ++ xs) (first_steps parent ++ ys)
behind_first None xs ys r = r
behind_first (Some p) xs ys r = keep (extends p) r

inside_same : {X : Type 0} (f g : X → Option X) (o : Option X) → ((x : X) → f x ≡ g x) → inside f o ≡ inside g o
inside_same f g None is = refl
inside_same f g (Some x) is = ap (option_map Some) (is x)

-- the steps of a change, its members in another order
pub steps_permuted : (c d : Change) (entry : ClassEntry) → c.parent ≡ d.parent → IsPermutation c.members d.members → IsOnce c
    → run take_step (steps_of d) entry ≡ run take_step (steps_of c) entry
steps_permuted c d entry parents permuted once =
    let moved : Reordered (steps_of c) (first_steps c.parent ++ map does d.members) = behind_first c.parent _ _ (reordered _ _ (IsPermutation-map does c.members d.members permuted)) in
    run_reordered take_step (steps_of c) (steps_of d) entry (subst (λ p. Reordered (steps_of c) (first_steps p ++ map does d.members)) parents moved)
    (steps_pairwise c.parent c.members once.fields once.methods)

pub same_apply_once : (x y : Operation) (t : Table) → SameMembers x y → HasOnce x → apply y t ≡ apply x t
same_apply_once x y t (adds {name = n} {parent = parent} {fields = fs} {fields' = gs} {methods = ms} {methods' = ns} p q) once =
    ap (λ e. option_map (λ held. with_at t n.text held) (enter e (get t n.text))) (same_entry n parent fs gs ms ns p q once.0 once.1)
same_apply_once x y t (modifies {name = n} {parent = parent} {members = ms} {members' = ns} p) once =
    ap (option_map (λ held. with_at t n.text held)) (inside_same _ _ (get t n.text)
    (λ entry. steps_permuted (record { name = n; parent = parent; members = ms }) (record { name = n; parent = parent; members = ns }) entry refl p once))
same_apply_once x y t removes once = refl

pub same_apply : (source : Source) (delta : Delta) (x y : Operation) (t : Table) → IsAccepted source → Contains source.deltas delta
    → Contains delta.operations x → SameMembers x y → apply y t ≡ apply x t
same_apply source delta x y t accepted of within alike = same_apply_once x y t alike (has_once source delta x accepted of within)

-- ---- attempts

unless_same : (fs gs : List (ℕ × ℕ)) (o : Option Table) (t : Table) → ((q : ℕ × ℕ) → Contains fs q → Contains gs q) → ((q : ℕ × ℕ) → Contains gs q → Contains fs q)
    → unless_broken fs o t ≡ unless_broken gs o t
unless_same [] [] o t onward back = refl
unless_same [] (g ∷ gs) o t onward back = no_element g (back g (0, omega arith, refl))
unless_same (f ∷ fs) [] o t onward back = no_element f (onward f (0, omega arith, refl))
unless_same (f ∷ fs) (g ∷ gs) o t onward back = refl

pub same_attempt_once : (x y : Operation) (t : Table) → SameMembers x y → HasOnce x → attempt y t ≡ attempt x t
same_attempt_once x y t alike once =
    ap (λ o. unless_broken (faults t y) o t) (same_apply_once x y t alike once)
    ∙ unless_same (faults t y) (faults t x) (apply x t) t (λ q. faults_kept t y x q (members_turned x y alike)) (λ q. faults_kept t x y q alike)

pub same_attempt : (source : Source) (delta : Delta) (x y : Operation) (t : Table) → IsAccepted source → Contains source.deltas delta
    → Contains delta.operations x → SameMembers x y → attempt y t ≡ attempt x t
same_attempt source delta x y t accepted of within alike = same_attempt_once x y t alike (has_once source delta x accepted of within)
