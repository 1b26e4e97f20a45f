-- Where no instance of layers 1 and 2 counts, there is a product. For clients: an operation is defined or breaks a rule
-- (`defined_or_broken`), and what one part more makes (`next_part_makes`).
use Rattle.std.proofs.Common.{◌≡◌, ◌⊎◌, inl, inr, ℕ, zero, suc, ◌≤◌, Bool, true, false, List, [], ◌∷◌, ◌++◌, map, take, Option, Some, None, is_some, length, slice_get, Contains, append_assoc, refl, sym, ap, ◌∙◌, subst, arith}
use Rattle.std.specs.Bool.{if◌then◌else◌}
use Rattle.std.specs.List.{AllPairs}
use Rattle.std.specs.List.Sorted.{IsPermutation}
use Rattle.std.specs.Option.{option_map, option_and_then}
use Rattle.std.specs.FinMap.{get}
use Rattle.dj_tree.specs.Trees.{Spot, Part, Delta, Source, Change, Field, Method, MemberOperation, adds_field, adds_method, modifies_method, removes_field, removes_method, Operation, adds_class, modifies_class, removes_class}
use Rattle.dj_calculus.specs.Maps.{with_at}
use Rattle.dj_calculus.specs.Configurations.{Configuration}
use Rattle.dj_calculus.specs.Parts.{chain, active}
use Rattle.dj_calculus.specs.Contents.{class_name}
use Rattle.dj_calculus.specs.Things.{Step, does, first_steps, steps_of, piece}
use Rattle.dj_calculus.specs.Accepted.{IsAccepted}
use Rattle.dj_calculus.specs.Conflicts.{Disjoint}
use Rattle.dj_calculus.specs.Tables.{FieldEntry, MethodEntry, ClassEntry, Table, empty_table}
use Rattle.dj_calculus.specs.Entries.{field_entry, method_entry, class_entry, signature_of, body_of, same_signature, says_original}
use Rattle.dj_calculus.specs.Operations.{run, enter, leave, inside, look, write, modify, changes, take_step, class_changes, apply, apply_delta}
use Rattle.dj_calculus.specs.Products.{AllowedAlong, no_parts, part_and, fold_deltas, Makes, Product}
use Rattle.dj_calculus.specs.LineRules.{OperationRule, class_there, removed_class_missing, modified_class_missing, field_there, field_missing, method_there, removed_method_missing, modified_method_missing, signature_differs}
use Rattle.dj_calculus.proofs.Members.{Each, none, and, each_of, each_append, among_others, either}
use Rattle.dj_calculus.proofs.OrderLemmas.{splits, ends}
use Rattle.dj_calculus.proofs.OperationLemmas.{IsOnce}
use Rattle.dj_calculus.proofs.GoodLemmas.{run_append, declared, classes_once, change_within, members_once}
use Rattle.dj_calculus.proofs.Independence.{Defined, Pairwise, no_pairs, pairs, run_defined, run_reordered, reordered}
use Rattle.dj_calculus.proofs.DisjointDeltas.{deltas_independent, operations_pairwise, steps_pairwise}
use Rattle.dj_calculus.proofs.Counting.{got_within, there_is}

-- ---- an operation breaks a rule or is defined

abbrev pub BreaksNothing : Table → Operation → Type 0
BreaksNothing t x = (rule at : ℕ) → ¬ (OperationRule t x rule at)

abbrev pub Broken : Table → Operation → Type 0
Broken t x = (rule : ℕ) × ((at : ℕ) × OperationRule t x rule at)

taken_step : (x : Step) (c : ClassEntry) → Defined (changes x) (look (piece x) c) → Defined (take_step x) c
taken_step x c d = (write (piece x) d.0 c, ap (option_map (λ held. write (piece x) held c)) d.1)

step_or : {B : Type 0} (x : Step) (c : ClassEntry) → Defined (changes x) (look (piece x) c) ⊎ B → Defined (take_step x) c ⊎ B
step_or x c (inl d) = inl (taken_step x c d)
step_or x c (inr b) = inr b

module _ (t : Table) (c : Change) (entry : ClassEntry) (there : get t c.name.text ≡ Some entry) where
  adds_field_or : (f : Field) → Contains c.members (adds_field f) → (o : Option FieldEntry) → get entry.fields f.name.text ≡ o
      → Defined (enter (field_entry f)) o ⊎ Broken t (modifies_class c)
  adds_field_or f within None e = inl (Some (field_entry f), refl)
  adds_field_or f within (Some old) e = inr (4, (f.name.at, field_there f entry within there (ap is_some e)))

  removes_field_or : (f : Spot) → Contains c.members (removes_field f) → (o : Option FieldEntry) → get entry.fields f.text ≡ o → Defined leave o ⊎ Broken t (modifies_class c)
  removes_field_or f within None e = inr (5, (f.at, field_missing f entry within there (ap is_some e)))
  removes_field_or f within (Some old) e = inl (None, refl)

  adds_method_or : (m : Method) → Contains c.members (adds_method m) → (o : Option MethodEntry) → get entry.methods m.name.text ≡ o
      → Defined (enter (method_entry m)) o ⊎ Broken t (modifies_class c)
  adds_method_or m within None e = inl (Some (method_entry m), refl)
  adds_method_or m within (Some old) e = inr (6, (m.name.at, method_there m entry within there (ap is_some e)))

  removes_method_or : (m : Spot) → Contains c.members (removes_method m) → (o : Option MethodEntry) → get entry.methods m.text ≡ o → Defined leave o ⊎ Broken t (modifies_class c)
  removes_method_or m within None e = inr (7, (m.at, removed_method_missing m entry within there (ap is_some e)))
  removes_method_or m within (Some old) e = inl (None, refl)

  modified_or : (m : Method) (old : MethodEntry) (b : Bool) → Contains c.members (modifies_method m) → get entry.methods m.name.text ≡ Some old
      → same_signature old.signature (signature_of m) ≡ b → Defined (inside (modify m)) (Some old) ⊎ Broken t (modifies_class c)
  modified_or m old true within e same =
      inl (Some (record { at = m.name.at; signature = signature_of m; bodies = (if says_original m.body then old.bodies else []) ++ body_of m ∷ [] }), rw same refl)
  modified_or m old false within e same = inr (8, (m.name.at, signature_differs m entry old within there e same))

  modifies_method_or : (m : Method) → Contains c.members (modifies_method m) → (o : Option MethodEntry) → get entry.methods m.name.text ≡ o
      → Defined (inside (modify m)) o ⊎ Broken t (modifies_class c)
  modifies_method_or m within None e = inr (7, (m.name.at, modified_method_missing m entry within there (ap is_some e)))
  modifies_method_or m within (Some old) e = modified_or m old _ within e refl

  member_or : (m : MemberOperation) → Contains c.members m → Defined (take_step (does m)) entry ⊎ Broken t (modifies_class c)
  member_or (adds_field f) within = step_or (does (adds_field f)) entry (adds_field_or f within _ refl)
  member_or (adds_method m) within = step_or (does (adds_method m)) entry (adds_method_or m within _ refl)
  member_or (modifies_method m) within = step_or (does (modifies_method m)) entry (modifies_method_or m within _ refl)
  member_or (removes_field f) within = step_or (does (removes_field f)) entry (removes_field_or f within _ refl)
  member_or (removes_method m) within = step_or (does (removes_method m)) entry (removes_method_or m within _ refl)

  members_or : (ms : List MemberOperation) → ((m : MemberOperation) → Contains ms m → Contains c.members m)
      → Each (λ x. Defined (take_step x) entry) (map does ms) ⊎ Broken t (modifies_class c)
  members_or [] of = inl none
  members_or (m ∷ ms) of =
      either (member_or m (of m (0, omega arith, refl)))
      (λ d. either (members_or ms (λ x within. of x (among_others m x ms within))) (λ ds. inl (and d ds)) (λ b. inr b)) (λ b. inr b)

  first_defined : (parent : Option Spot) → Each (λ x. Defined (take_step x) entry) (first_steps parent)
  first_defined None = none
  first_defined (Some p) = and (record entry { parent = p }, refl) none

  change_or : IsOnce c → Defined (run take_step (steps_of c)) entry ⊎ Broken t (modifies_class c)
  change_or once =
      either (members_or c.members (λ m within. within))
      (λ ds. inl (run_defined take_step (steps_of c) entry (steps_pairwise c.parent c.members once.fields once.methods)
      (each_append _ (first_steps c.parent) (map does c.members) (first_defined c.parent) ds)))
      (λ b. inr b)

class_or : (t : Table) (x : Operation) → ((c : Change) → x ≡ modifies_class c → IsOnce c) → (o : Option ClassEntry)
    → get t (class_name x).text ≡ o → Defined (class_changes x) o ⊎ Broken t x
class_or t (adds_class c) once None e = inl (Some (class_entry c), refl)
class_or t (adds_class c) once (Some old) e = inr (2, (c.name.at, class_there {c = c} (ap is_some e)))
class_or t (removes_class c) once None e = inr (3, (c.at, removed_class_missing {c = c} (ap is_some e)))
class_or t (removes_class c) once (Some old) e = inl (None, refl)
class_or t (modifies_class c) once None e = inr (3, (c.name.at, modified_class_missing {c = c} (ap is_some e)))
class_or t (modifies_class c) once (Some old) e =
    either (change_or t c old e (once c refl)) (λ d. inl (Some d.0, ap (option_map Some) d.1)) (λ b. inr b)

-- an operation is defined or breaks a rule of 2 to 8
pub defined_or_broken : (t : Table) (x : Operation) → ((c : Change) → x ≡ modifies_class c → IsOnce c) → Defined (apply x) t ⊎ Broken t x
defined_or_broken t x once =
    either (class_or t x once _ refl)
    (λ d. inl (with_at t (class_name x).text d.0, ap (option_map (λ held. with_at t (class_name x).text held)) d.1)) (λ b. inr b)

operation_defined : (t : Table) (x : Operation) → BreaksNothing t x → ((c : Change) → x ≡ modifies_class c → IsOnce c) → Defined (apply x) t
operation_defined t x sound once = either (defined_or_broken t x once) (λ d. d) (λ b. absurd (sound b.0 b.1.0 b.1.1))

-- ---- fronts of lists

pub take_one_more : {X : Type 0} (xs : List X) (k : ℕ) (x : X) → slice_get xs k ≡ Some x → take (suc k) xs ≡ take k xs ++ x ∷ []
take_one_more [] k x e = absurd cc
take_one_more (y ∷ xs) zero x e = let same : y ≡ x = cc in ap (λ z. z ∷ []) same
take_one_more (y ∷ xs) (suc k) x e = ap (λ zs. y ∷ zs) (take_one_more xs k x e)

pub take_all : {X : Type 0} (xs : List X) → take (length xs) xs ≡ xs
take_all [] = refl
take_all (x ∷ xs) = ap (λ zs. x ∷ zs) (take_all xs)

-- ---- a part

run_nothing : (mine : List Delta) (t u : Table) → run apply_delta mine t ≡ Some u → run apply_delta (mine ++ []) t ≡ Some u
run_nothing mine t u is = run_append apply_delta mine [] t ∙ ap (option_and_then (run apply_delta [])) is

pub record Lasts (source : Source) (c : Configuration) (parts : List Part) (part : Part) (order : List Delta) : Type 0 where
  pub before : List Delta
  pub mine : List Delta
  pub along : AllowedAlong source c parts before
  pub permuted : IsPermutation (active source c part) mine
  pub joined : order ≡ before ++ (mine ++ [])

pub lasts : (source : Source) (c : Configuration) (parts : List Part) (part : Part) (order : List Delta) → AllowedAlong source c (parts ++ part ∷ []) order
    → Lasts source c parts part order
lasts source c [] part order allowed =
    let first = splits source c part [] order allowed in
    record { before = []; mine = first.mine; along = no_parts; permuted = first.permuted; joined = first.joined ∙ ap (λ rest. first.mine ++ rest) (ends source c first.later first.rest) }
lasts source c (q ∷ parts) part order allowed =
    let first = splits source c q (parts ++ part ∷ []) order allowed in
    let more = lasts source c parts part first.later first.rest in
    record {
      before = first.mine ++ more.before;
      mine = more.mine;
      along = part_and first.permuted more.along;
      permuted = more.permuted;
      joined = first.joined ∙ ap (λ rest. first.mine ++ rest) more.joined ∙ sym (append_assoc first.mine more.before (more.mine ++ []));
    }

pub pairs_of : (xs : List Delta) → AllPairs Disjoint xs → Pairwise apply_delta xs
pairs_of [] all = no_pairs
pairs_of (x ∷ xs) all =
    pairs (each_of _ xs (λ y within. deltas_independent x y (subst (Disjoint x) within.2 (all 0 (suc within.0) y (omega arith) (omega (arith, within.1))))))
    (pairs_of xs (λ i j d behind low. all (suc i) (suc j) d (omega arith) (omega arith)))

module _ (source : Source) (accepted : IsAccepted source) (c : Configuration) where
  pub delta_defined : (delta : Delta) (t : Table) → Contains source.deltas delta → ((x : Operation) → Contains delta.operations x → BreaksNothing t x)
      → Defined (apply_delta delta) t
  delta_defined delta t within sound =
      run_defined apply delta.operations t (operations_pairwise delta.operations (classes_once source accepted delta within))
      (each_of _ delta.operations (λ x has. operation_defined t x (sound x has)
      (λ d same. members_once source accepted d (change_within source accepted delta d within (subst (λ y. Contains delta.operations y) same has)))))

  -- one part more
  pub next_part_makes : (parts : List Part) (part : Part) (t : Table) → Makes source c parts t → AllPairs Disjoint (active source c part)
      → ((delta : Delta) (x : Operation) → Contains (active source c part) delta → Contains delta.operations x → BreaksNothing t x)
      → (u : Table) × Makes source c (parts ++ part ∷ []) u
  next_part_makes parts part t makes disjoint sound =
      let mine = active source c part in
      let pairwise = pairs_of mine disjoint in
      let u = run_defined apply_delta mine t pairwise (each_of _ mine (λ d within. delta_defined d t (declared source accepted c part d within) (λ x has. sound d x within has))) in (
        u.0,
        record {
          each = λ order allowed.
              let last = lasts source c parts part order allowed in
              let ran = run_reordered apply_delta mine last.mine t (reordered mine last.mine last.permuted) pairwise ∙ u.1 in
              ap fold_deltas last.joined ∙ run_append apply_delta last.before (last.mine ++ []) empty_table
              ∙ ap (option_and_then (run apply_delta (last.mine ++ []))) (makes.each last.before last.along) ∙ run_nothing last.mine t u.0 ran;
        },
      )

  -- ---- along the chain

  module _ (disjoint : (part : Part) → Contains (chain source) part → AllPairs Disjoint (active source c part))
      (sound : (k : ℕ) (part : Part) (t : Table) (delta : Delta) (x : Operation) → slice_get (chain source) k ≡ Some part → Makes source c (take k (chain source)) t
      → Contains (active source c part) delta → Contains delta.operations x → BreaksNothing t x) where
    makes_up_to : (k : ℕ) → k ≤ length (chain source) → (t : Table) × Makes source c (take k (chain source)) t
    makes_up_to zero low = (empty_table, record { each = λ order allowed. ap fold_deltas (ends source c order allowed) })
    makes_up_to (suc k) low =
        let before = makes_up_to k (omega arith) in
        let part = there_is (chain source) k (omega arith) in
        let within = got_within (chain source) k part.0 part.1 in
        let next = next_part_makes (take k (chain source)) part.0 before.0 before.1 (disjoint part.0 within) (λ d x has of. sound k part.0 before.0 d x part.1 before.1 has of) in
        (next.0, subst (λ ps. Makes source c ps next.0) (sym (take_one_more (chain source) k part.0 part.1)) next.1)

    pub product_exists : (t : Table) × Product source c t
    product_exists =
        let all = makes_up_to (length (chain source)) (omega arith) in
        (all.0, subst (λ ps. Makes source c ps all.0) (take_all (chain source)) all.1)
