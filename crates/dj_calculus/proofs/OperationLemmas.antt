-- Where an operation breaks a rule on the table before its delta, the delta is undefined there: what stands before it in the delta
-- touches other classes, and within a class other pieces.
use Rattle.std.proofs.Common.{◌≡◌, ◌⊎◌, inl, inr, ℕ, Bool, true, false, cond, List, [], ◌∷◌, ◌++◌, map, Option, Some, None, IsSome, IsNone, Contains, refl, sym, ap, ◌∙◌, subst}
use Rattle.std.proofs.lemmas.Bool.{false≢true}
use Rattle.std.specs.Option.{option_map, option_and_then}
use Rattle.std.specs.List.{filter_map, cons_option}
use Rattle.std.specs.Ordering.{eq_by_cmp}
use Rattle.std.specs.FinMap.{get}
use Rattle.dj_names.specs.Texts.{Text}
use Rattle.dj_tree.specs.Trees.{Spot, Method, MemberOperation, adds_field, adds_method, modifies_method, removes_field, removes_method}
use Rattle.dj_tree.specs.Trees.{Change, Operation, modifies_class, Delta}
use Rattle.dj_calculus.specs.Maps.{text_cmp, TextMap, with_at}
use Rattle.dj_calculus.specs.Contents.{class_name, field_name, method_name}
use Rattle.dj_calculus.specs.Things.{Step, does, first_steps, steps_of, Piece, superclass, field_named, method_named, piece}
use Rattle.dj_calculus.specs.Tables.{MethodEntry, ClassEntry, Table}
use Rattle.dj_calculus.specs.Entries.{signature_of, same_signature}
use Rattle.dj_calculus.specs.Operations.{run, enter, leave, inside, Held, look, write, modify, changes, take_step, class_changes, apply, apply_delta}
use Rattle.dj_calculus.specs.LineRules.{OperationRule, class_there, removed_class_missing, modified_class_missing, field_there, field_missing, method_there, removed_method_missing, modified_method_missing, signature_differs}
use Rattle.dj_calculus.proofs.MapLemmas.{text_get-insert, text_get-remove, text_antisymmetric, is_equal}
use Rattle.dj_calculus.proofs.Members.{no_element, first_or_other, either, kept_by, mapped_within, StandOnce, later_once, first_apart, mapped}

-- ---- maps

pub other_key : {X : Type 0} (b : Bool) (k q : Text) (x y : X) → eq_by_cmp text_cmp q k ≡ b → ¬ (k ≡ q) → cond b x y ≡ y
other_key true k q x y e apart = absurd (apart (sym (text_antisymmetric q k (is_equal (text_cmp q k) e))))
other_key false k q x y e apart = refl

-- at another key stands what stood there
pub get_elsewhere : {X : Type 0} (m : TextMap X) (k q : Text) (held : Option X) → ¬ (k ≡ q) → get (with_at m k held) q ≡ get m q
get_elsewhere {X} m k q None apart = text_get-remove X m k q ∙ other_key _ k q None (get m q) refl apart
get_elsewhere {X} m k q (Some x) apart = text_get-insert X m k x q ∙ other_key _ k q (Some x) (get m q) refl apart

-- ---- one step after the other

-- the element stands in the list, behind elements that are apart from it
pub data Reaches {X : Type 0} (Apart : X → X → Type 0) (x : X) : List X → Type 0 where
  here : {xs : List X} → Reaches Apart x (x ∷ xs)
  later : {y : X} {xs : List X} → Apart y x → Reaches Apart x xs → Reaches Apart x (y ∷ xs)

after_step : {S : Type 0} (next : S → Option S) (o : Option S) → ((s : S) → o ≡ Some s → next s ≡ None) → option_and_then next o ≡ None
after_step next None rest = refl
after_step next (Some s) rest = rest s refl

-- a list of steps stops where one of them can't be taken, and steps that are apart from it don't change that
module _ {X S : Type 0} (step : X → S → Option S) (Bad : X → S → Type 0) (Apart : X → X → Type 0) (stops : (x : X) (s : S) → Bad x s → step x s ≡ None)
    (stays : (y x : X) (s s' : S) → Apart y x → step y s ≡ Some s' → Bad x s → Bad x s') where
  pub run_stops : (x : X) (xs : List X) (s : S) → Reaches Apart x xs → Bad x s → run step xs s ≡ None
  run_stops x xs s (here {xs = rest}) bad = ap (option_and_then (run step rest)) (stops x s bad)
  run_stops x xs s (later {y = y} {xs = rest} apart reaches) bad =
      after_step (run step rest) (step y s) (λ s' e. run_stops x rest s' reaches (stays y x s s' apart e bad))

-- ---- steps within a class

abbrev ApartSteps : Step → Step → Type 0
ApartSteps y x = ¬ (piece y ≡ piece x)

-- the step can't be taken on the class
abbrev pub BadStep : Step → ClassEntry → Type 0
BadStep x c = changes x (look (piece x) c) ≡ None

pub bad_step_stops : (x : Step) (c : ClassEntry) → BadStep x c → take_step x c ≡ None
bad_step_stops x c bad = ap (option_map (λ held. write (piece x) held c)) bad

pub look_elsewhere : (p q : Piece) (held : Held q) (c : ClassEntry) → ¬ (q ≡ p) → look p (write q held c) ≡ look p c
look_elsewhere superclass superclass held c apart = absurd (apart refl)
look_elsewhere superclass (field_named g) held c apart = refl
look_elsewhere superclass (method_named n) held c apart = refl
look_elsewhere (field_named f) superclass held c apart = refl
look_elsewhere (field_named f) (field_named g) held c apart = get_elsewhere c.fields g f held (λ same. apart (ap field_named same))
look_elsewhere (field_named f) (method_named n) held c apart = refl
look_elsewhere (method_named m) superclass held c apart = refl
look_elsewhere (method_named m) (field_named g) held c apart = refl
look_elsewhere (method_named m) (method_named n) held c apart = get_elsewhere c.methods n m held (λ same. apart (ap method_named same))

bad_step_stays : (y x : Step) (c c' : ClassEntry) → ApartSteps y x → take_step y c ≡ Some c' → BadStep x c → BadStep x c'
bad_step_stays y x c c' apart taken bad =
    let held = mapped (λ held. write (piece y) held c) (changes y (look (piece y) c)) c' taken in
    ap (changes x) (ap (look (piece x)) (sym held.2) ∙ look_elsewhere (piece x) (piece y) held.0 c apart) ∙ bad

-- ---- the member operations of a change are apart

field_piece : (m : MemberOperation) (f : Spot) → field_name m ≡ Some f → piece (does m) ≡ field_named f.text
field_piece (adds_field g) f e = cc
field_piece (adds_method g) f e = absurd cc
field_piece (modifies_method g) f e = absurd cc
field_piece (removes_field g) f e = cc
field_piece (removes_method g) f e = absurd cc

method_piece : (m : MemberOperation) (f : Spot) → method_name m ≡ Some f → piece (does m) ≡ method_named f.text
method_piece (adds_field g) f e = absurd cc
method_piece (adds_method g) f e = cc
method_piece (modifies_method g) f e = cc
method_piece (removes_field g) f e = absurd cc
method_piece (removes_method g) f e = cc

abbrev pub Named : MemberOperation → Type 0
Named m = ((f : Spot) × (field_name m ≡ Some f)) ⊎ ((f : Spot) × (method_name m ≡ Some f))

pub named : (m : MemberOperation) → Named m
named (adds_field f) = inl (f.name, refl)
named (adds_method m) = inr (m.name, refl)
named (modifies_method m) = inr (m.name, refl)
named (removes_field f) = inl (f, refl)
named (removes_method m) = inr (m, refl)

named_first : (o : Option Spot) (x y : Spot) (names : List Spot) → o ≡ Some x → StandOnce (cons_option o names) → Contains names y → ¬ (x.text ≡ y.text)
named_first o x y names e once within = first_apart x y names (subst (λ p. StandOnce (cons_option p names)) e once) within

pub later_option : (o : Option Spot) (names : List Spot) → StandOnce (cons_option o names) → StandOnce names
later_option None names once = once
later_option (Some x) names once = later_once x names once

same_field : (f g : Text) → field_named f ≡ field_named g → f ≡ g
same_field f g e = cc

same_method : (f g : Text) → method_named f ≡ method_named g → f ≡ g
same_method f g e = cc

no_field_is_method : (f g : Text) → field_named f ≡ method_named g → ⊥
no_field_is_method f g e = absurd cc

pub apart_members : (m n : MemberOperation) (rest : List MemberOperation) → StandOnce (filter_map field_name (m ∷ rest))
    → StandOnce (filter_map method_name (m ∷ rest)) → Contains rest n → Named m → Named n → ¬ (piece (does m) ≡ piece (does n))
apart_members m n rest fields methods within (inl (f, e)) (inl (g, h)) same =
    named_first (field_name m) f g (filter_map field_name rest) e fields (kept_by field_name rest n g within h) (same_field _ _ (sym (field_piece m f e) ∙ same ∙ field_piece n g h))
apart_members m n rest fields methods within (inl (f, e)) (inr (g, h)) same = no_field_is_method _ _ (sym (field_piece m f e) ∙ same ∙ method_piece n g h)
apart_members m n rest fields methods within (inr (f, e)) (inl (g, h)) same = no_field_is_method _ _ (sym (field_piece n g h) ∙ sym same ∙ method_piece m f e)
apart_members m n rest fields methods within (inr (f, e)) (inr (g, h)) same =
    named_first (method_name m) f g (filter_map method_name rest) e methods (kept_by method_name rest n g within h) (same_method _ _ (sym (method_piece m f e) ∙ same ∙ method_piece n g h))

members_reach : (members : List MemberOperation) (n : MemberOperation) → StandOnce (filter_map field_name members) → StandOnce (filter_map method_name members)
    → Contains members n → Reaches ApartSteps (does n) (map does members)
members_reach [] n fields methods within = no_element n within
members_reach (m ∷ rest) n fields methods within =
    either (first_or_other m n rest within) (λ same. subst (λ k. Reaches ApartSteps (does k) (does m ∷ map does rest)) same here)
    (λ behind. later (apart_members m n rest fields methods behind (named m) (named n))
    (members_reach rest n (later_option (field_name m) _ fields) (later_option (method_name m) _ methods) behind))

pub not_superclass : (n : MemberOperation) → Named n → ¬ (superclass ≡ piece (does n))
not_superclass n (inl (f, e)) same = let other : superclass ≡ field_named f.text = same ∙ field_piece n f e in absurd cc
not_superclass n (inr (f, e)) same = let other : superclass ≡ method_named f.text = same ∙ method_piece n f e in absurd cc

steps_reach : (parent : Option Spot) (n : MemberOperation) (steps : List Step) → Reaches ApartSteps (does n) steps
    → Reaches ApartSteps (does n) (first_steps parent ++ steps)
steps_reach None n steps reaches = reaches
steps_reach (Some p) n steps reaches = later (not_superclass n (named n)) reaches

-- each member operation of the change is on a field, or on a method, of its own
pub record IsOnce (c : Change) : Type 0 where
  pub fields : StandOnce (filter_map field_name c.members)
  pub methods : StandOnce (filter_map method_name c.members)

change_stops : (c : Change) (n : MemberOperation) (entry : ClassEntry) → IsOnce c → Contains c.members n → BadStep (does n) entry
    → run take_step (steps_of c) entry ≡ None
change_stops c n entry once within bad =
    run_stops take_step BadStep ApartSteps bad_step_stops bad_step_stays (does n) (steps_of c) entry
    (steps_reach c.parent n _ (members_reach c.members n once.fields once.methods within)) bad

-- ---- operations on a table

abbrev ApartOperations : Operation → Operation → Type 0
ApartOperations y x = ¬ ((class_name y).text ≡ (class_name x).text)

abbrev BadOperation : Operation → Table → Type 0
BadOperation x t = class_changes x (get t (class_name x).text) ≡ None

bad_operation_stops : (x : Operation) (t : Table) → BadOperation x t → apply x t ≡ None
bad_operation_stops x t bad = ap (option_map (λ held. with_at t (class_name x).text held)) bad

bad_operation_stays : (y x : Operation) (t t' : Table) → ApartOperations y x → apply y t ≡ Some t' → BadOperation x t → BadOperation x t'
bad_operation_stays y x t t' apart applied bad =
    let held = mapped (λ held. with_at t (class_name y).text held) (class_changes y (get t (class_name y).text)) t' applied in
    ap (class_changes x) (ap (λ u. get u (class_name x).text) (sym held.2) ∙ get_elsewhere t (class_name y).text (class_name x).text held.0 apart) ∙ bad

pub operations_reach : (operations : List Operation) (x : Operation) → StandOnce (map class_name operations) → Contains operations x → Reaches ApartOperations x operations
operations_reach [] x once within = no_element x within
operations_reach (y ∷ rest) x once within =
    either (first_or_other y x rest within) (λ same. subst (λ z. Reaches ApartOperations z (y ∷ rest)) same here)
    (λ behind. later (first_apart (class_name y) (class_name x) (map class_name rest) once (mapped_within class_name rest x behind))
    (operations_reach rest x (later_once (class_name y) (map class_name rest) once) behind))

-- ---- rules 2 to 8

enter_some : {X : Type 0} (x : X) (o : Option X) → IsSome o → enter x o ≡ None
enter_some x None is = absurd (false≢true is)
enter_some x (Some y) is = refl

leave_none : {X : Type 0} (o : Option X) → IsNone o → leave o ≡ None
leave_none None is = refl
leave_none (Some y) is = absurd (false≢true (sym is))

inside_none : {X : Type 0} (f : X → Option X) (o : Option X) → IsNone o → inside f o ≡ None
inside_none f None is = refl
inside_none f (Some y) is = absurd (false≢true (sym is))

modify_differs : (m : Method) (old : MethodEntry) → same_signature old.signature (signature_of m) ≡ false → modify m old ≡ None
modify_differs m old differs = rw differs refl

-- a change that is undefined on the class that is there
undefined_change : (c : Change) (t : Table) (entry : ClassEntry) → get t c.name.text ≡ Some entry → run take_step (steps_of c) entry ≡ None
    → BadOperation (modifies_class c) t
undefined_change c t entry there undefined = ap (inside (run take_step (steps_of c))) there ∙ ap (option_map Some) undefined

pub broken_operation : (t : Table) (x : Operation) (rule at : ℕ) → OperationRule t x rule at → ((c : Change) → x ≡ modifies_class c → IsOnce c) → BadOperation x t
broken_operation t x rule at (class_there {c = c} is) once = enter_some _ _ is
broken_operation t x rule at (removed_class_missing is) once = leave_none _ is
broken_operation t x rule at (modified_class_missing is) once = inside_none _ _ is
broken_operation t x rule at (field_there {c = c} f entry within there is) once =
    undefined_change c t entry there (change_stops c (adds_field f) entry (once c refl) within (enter_some _ _ is))
broken_operation t x rule at (field_missing {c = c} f entry within there is) once =
    undefined_change c t entry there (change_stops c (removes_field f) entry (once c refl) within (leave_none _ is))
broken_operation t x rule at (method_there {c = c} m entry within there is) once =
    undefined_change c t entry there (change_stops c (adds_method m) entry (once c refl) within (enter_some _ _ is))
broken_operation t x rule at (removed_method_missing {c = c} m entry within there is) once =
    undefined_change c t entry there (change_stops c (removes_method m) entry (once c refl) within (leave_none _ is))
broken_operation t x rule at (modified_method_missing {c = c} m entry within there is) once =
    undefined_change c t entry there (change_stops c (modifies_method m) entry (once c refl) within (inside_none _ _ is))
broken_operation t x rule at (signature_differs {c = c} m entry old within there is differs) once =
    undefined_change c t entry there
    (change_stops c (modifies_method m) entry (once c refl) within (ap (inside (modify m)) is ∙ ap (option_map Some) (modify_differs m old differs)))

-- a delta with a broken operation is undefined
pub delta_stops : (delta : Delta) (t : Table) (x : Operation) (rule at : ℕ) → StandOnce (map class_name delta.operations)
    → ((c : Change) → x ≡ modifies_class c → IsOnce c) → Contains delta.operations x → OperationRule t x rule at → apply_delta delta t ≡ None
delta_stops delta t x rule at classes once within breaks =
    run_stops apply BadOperation ApartOperations bad_operation_stops bad_operation_stays x delta.operations t (operations_reach delta.operations x classes within)
    (broken_operation t x rule at breaks once)

-- what stands at a class that an operation isn't on stays
pub operation_keeps : (y : Operation) (t t' : Table) (q : Text) → ¬ ((class_name y).text ≡ q) → apply y t ≡ Some t' → get t' q ≡ get t q
operation_keeps y t t' q apart applied =
    let held = mapped (λ held. with_at t (class_name y).text held) (class_changes y (get t (class_name y).text)) t' applied in
    ap (λ u. get u q) (sym held.2) ∙ get_elsewhere t (class_name y).text q held.0 apart
