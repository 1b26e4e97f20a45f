-- What products keep, for this crate and its clients. Take predicates of class names, superclasses, fields under their names and methods
-- under theirs. Where they hold of all that a source declares (`Declares`), and of a method once it is modified if they held before, they
-- hold of all in what its parts make (`made_is`).
use Rattle.std.proofs.Common.{◌≡◌, Bool, true, false, cond, List, [], ◌∷◌, map, Option, Some, None, Contains, refl, sym, ap, ◌∙◌, subst, arith}
use Rattle.std.specs.List.{flat_map, filter_map}
use Rattle.std.specs.Ordering.{eq_by_cmp}
use Rattle.std.specs.FinMap.{get, empty, from_entries}
use Rattle.std.proofs.lemmas.List.Elements.{Contains-append_left, Contains-append_right}
use Rattle.dj_names.specs.Texts.{Text}
use Rattle.dj_tree.specs.Trees.{Spot, Field, Method, Class, MemberOperation, adds_field, adds_method, modifies_method, removes_field, removes_method}
use Rattle.dj_tree.specs.Trees.{Change, Operation, adds_class, modifies_class, removes_class, Delta, Part, Source}
use Rattle.dj_calculus.specs.Maps.{text_cmp, TextMap, with_at}
use Rattle.dj_calculus.specs.Configurations.{Configuration}
use Rattle.dj_calculus.specs.Parts.{active}
use Rattle.dj_calculus.specs.Contents.{operations_of, classes_of, changes_of, added_by, change_by, class_name, method_added, method_modified, new_methods, modified_methods}
use Rattle.dj_calculus.specs.Things.{Step, extends, does, first_steps, steps_of, piece}
use Rattle.dj_calculus.specs.Accepted.{IsAccepted}
use Rattle.dj_calculus.specs.Tables.{FieldEntry, MethodEntry, ClassEntry, Table, empty_table}
use Rattle.dj_calculus.specs.Entries.{field_entry, method_entry, superclass_of, class_entry}
use Rattle.dj_calculus.specs.Operations.{run, enter, leave, inside, look, write, modify, changes, take_step, class_changes, apply, apply_delta}
use Rattle.dj_calculus.specs.Products.{Makes}
use Rattle.dj_calculus.proofs.MapLemmas.{text_get-empty, same_key}
use Rattle.dj_calculus.proofs.Members.{among_others, either, in_front_or_behind, mapped_from, no_element, only_one, kept_by, within_flat, Each, none, each_of, each_append, mapped}
use Rattle.dj_calculus.proofs.DisjointDeltas.{get_with_at}
use Rattle.dj_calculus.proofs.ProductLemmas.{default_along}
use Rattle.dj_calculus.proofs.GoodLemmas.{run_keeps, declared}

-- ---- P of each value of a map, under its key

abbrev pub EachValue : {X : Type 0} → (Text → X → Type 0) → TextMap X → Type 0
EachValue {X} P m = (k : Text) (x : X) → get m k ≡ Some x → P k x

from_either : {X : Type 0} (P : Text → X → Type 0) (b : Bool) (q k : Text) (o p : Option X) (x : X) → eq_by_cmp text_cmp q k ≡ b → ((y : X) → o ≡ Some y → P k y)
    → ((y : X) → p ≡ Some y → P q y) → cond b o p ≡ Some x → P q x
from_either P true q k o p x same first second e = subst (λ z. P z x) (sym (same_key q k same)) (first x e)
from_either P false q k o p x same first second e = second x e

pub each_with_at : {X : Type 0} (P : Text → X → Type 0) (m : TextMap X) (k : Text) (held : Option X) → EachValue P m → ((x : X) → held ≡ Some x → P k x) → EachValue P (with_at m k held)
each_with_at P m k held all new q x e =
    from_either P (eq_by_cmp text_cmp q k) q k held (get m q) x refl new (λ y. all q y) (sym (get_with_at m k held q) ∙ e)

pub each_of_empty : {X : Type 0} (P : Text → X → Type 0) → EachValue P (empty {X = X} {R = text_cmp})
each_of_empty {X} P k x e = absurd (none_is_not_some (sym (text_get-empty X k) ∙ e))
  where
    none_is_not_some : None ≡ Some x → ⊥
    none_is_not_some p = absurd cc

some_same : {X : Type 0} (x y : X) → ◌≡◌ {A = Option X} (Some x) (Some y) → x ≡ y
some_same x y e = cc

-- P of each value that a list of declarations gives
pub each_of_entries : {X Y : Type 0} (P : Text → Y → Type 0) (key : X → Text) (value : X → Y) (xs : List X) → ((x : X) → Contains xs x → P (key x) (value x))
    → EachValue P (from_entries {R = text_cmp} (map (λ x. (key x, value x)) xs))
each_of_entries P key value [] all = each_of_empty P
each_of_entries P key value (x ∷ xs) all =
    each_with_at P (from_entries (map (λ y. (key y, value y)) xs)) (key x) (Some (value x))
    (each_of_entries P key value xs (λ y within. all y (among_others x y xs within)))
    (λ y here. subst (P (key x)) (some_same (value x) y here) (all x (0, omega arith, refl)))

-- ---- what changes leave

entered : {X : Type 0} (new : X) (o : Option X) (held : Option X) (x : X) → enter new o ≡ Some held → held ≡ Some x → new ≡ x
entered new None held x e is = some_same new x (some_same (Some new) held e ∙ is)
entered new (Some old) held x e is = absurd cc

left : {X : Type 0} {G : Type 0} (o : Option X) (held : Option X) (x : X) → leave o ≡ Some held → held ≡ Some x → G
left None held x e is = absurd cc
left (Some old) held x e is = let gone : ◌≡◌ {A = Option _} None (Some x) = some_same None held e ∙ is in absurd cc

changed : {X : Type 0} (f : X → Option X) (o : Option X) (held : Option X) (x : X) → inside f o ≡ Some held → held ≡ Some x → (old : X) × (o ≡ Some old) × (f old ≡ Some x)
changed f None held x e is = absurd cc
changed f (Some old) held x e is =
    let new = mapped Some (f old) held e in
    (old, refl, new.1 ∙ ap Some (some_same new.0 x (new.2 ∙ is)))

module _ (K : Text → Type 0) (H : Spot → Type 0) (F : Text → FieldEntry → Type 0) (M : Text → MethodEntry → Type 0) where
  -- what a source declares
  pub record Declares (source : Source) : Type 0 where
    pub class_names : (c : Class) → Contains (classes_of source) c → K c.name.text
    pub parents : (c : Class) → Contains (classes_of source) c → H (superclass_of c.name c.parent)
    pub new_parents : (c : Change) (p : Spot) → Contains (changes_of source) c → c.parent ≡ Some p → H p
    pub fields : (c : Class) (f : Field) → Contains (classes_of source) c → Contains c.fields f → F f.name.text (field_entry f)
    pub new_fields : (c : Change) (f : Field) → Contains (changes_of source) c → Contains c.members (adds_field f) → F f.name.text (field_entry f)
    pub methods : (m : Method) → Contains (new_methods source) m → M m.name.text (method_entry m)
    pub modified : (m : Method) (old new : MethodEntry) → Contains (modified_methods source) m → modify m old ≡ Some new → M m.name.text old → M m.name.text new

  pub record ClassIs (k : Text) (e : ClassEntry) : Type 0 where
    pub name : K k
    pub parent : H e.parent
    pub fields : EachValue F e.fields
    pub methods : EachValue M e.methods

  abbrev pub TableIs : Table → Type 0
  TableIs t = EachValue ClassIs t

  -- ---- steps

  abbrev StepIs : Step → Type 0
  StepIs (extends parent) = H parent
  StepIs (does (adds_field f)) = F f.name.text (field_entry f)
  StepIs (does (adds_method m)) = M m.name.text (method_entry m)
  StepIs (does (modifies_method m)) = (old new : MethodEntry) → modify m old ≡ Some new → M m.name.text old → M m.name.text new
  StepIs (does (removes_field f)) = Unit {0}
  StepIs (does (removes_method m)) = Unit {0}

  abbrev Taken : Step → ClassEntry → ClassEntry → Type 0
  Taken x c d = (held : _) × (changes x (look (piece x) c) ≡ Some held) × (write (piece x) held c ≡ d)

  with_fields : (k : Text) (c : ClassEntry) (f : Text) (held : Option FieldEntry) → ClassIs k c → ((x : FieldEntry) → held ≡ Some x → F f x)
      → ClassIs k (record c { fields = with_at c.fields f held })
  with_fields k c f held is new = record { name = is.name; parent = is.parent; fields = each_with_at F c.fields f held is.fields new; methods = is.methods }

  with_methods : (k : Text) (c : ClassEntry) (m : Text) (held : Option MethodEntry) → ClassIs k c → ((x : MethodEntry) → held ≡ Some x → M m x)
      → ClassIs k (record c { methods = with_at c.methods m held })
  with_methods k c m held is new = record { name = is.name; parent = is.parent; fields = is.fields; methods = each_with_at M c.methods m held is.methods new }

  step_keeps : (k : Text) (x : Step) (c d : ClassEntry) → StepIs x → take_step x c ≡ Some d → ClassIs k c → ClassIs k d
  step_keeps k (extends p) c d declared e is =
      let step = mapped (λ held. write (piece (extends p)) held c) (changes (extends p) (look (piece (extends p)) c)) d e in
      subst (ClassIs k) step.2 (record { name = is.name; parent = subst H (some_same p step.0 step.1) declared; fields = is.fields; methods = is.methods })
  step_keeps k (does (adds_field f)) c d declared e is =
      let step = mapped (λ held. write (piece (does (adds_field f))) held c) (changes (does (adds_field f)) (look (piece (does (adds_field f))) c)) d e in
      subst (ClassIs k) step.2 (with_fields k c f.name.text step.0 is
      (λ x here. subst (F f.name.text) (entered (field_entry f) (get c.fields f.name.text) step.0 x step.1 here) declared))
  step_keeps k (does (removes_field f)) c d declared e is =
      let step = mapped (λ held. write (piece (does (removes_field f))) held c) (changes (does (removes_field f)) (look (piece (does (removes_field f))) c)) d e in
      subst (ClassIs k) step.2 (with_fields k c f.text step.0 is (λ x here. left (get c.fields f.text) step.0 x step.1 here))
  step_keeps k (does (adds_method m)) c d declared e is =
      let step = mapped (λ held. write (piece (does (adds_method m))) held c) (changes (does (adds_method m)) (look (piece (does (adds_method m))) c)) d e in
      subst (ClassIs k) step.2 (with_methods k c m.name.text step.0 is
      (λ x here. subst (M m.name.text) (entered (method_entry m) (get c.methods m.name.text) step.0 x step.1 here) declared))
  step_keeps k (does (modifies_method m)) c d declared e is =
      let step = mapped (λ held. write (piece (does (modifies_method m))) held c) (changes (does (modifies_method m)) (look (piece (does (modifies_method m))) c)) d e in
      subst (ClassIs k) step.2 (with_methods k c m.name.text step.0 is
      (λ x here. let old = changed (modify m) (get c.methods m.name.text) step.0 x step.1 here in declared old.0 x old.2 (is.methods m.name.text old.0 old.1)))
  step_keeps k (does (removes_method m)) c d declared e is =
      let step = mapped (λ held. write (piece (does (removes_method m))) held c) (changes (does (removes_method m)) (look (piece (does (removes_method m))) c)) d e in
      subst (ClassIs k) step.2 (with_methods k c m.text step.0 is (λ x here. left (get c.methods m.text) step.0 x step.1 here))

  -- ---- operations

  module _ (source : Source) (declares : Declares source) where
    new_method : (c : Class) (m : Method) → Contains (classes_of source) c → Contains c.methods m → M m.name.text (method_entry m)
    new_method c m of within =
        declares.methods m (Contains-append_left (flat_map (λ d. d.methods) (classes_of source)) (flat_map (λ d. filter_map method_added d.members) (changes_of source)) m
        (within_flat (λ d. d.methods) (classes_of source) c m of within))

    added_class : (c : Class) → Contains (classes_of source) c → ClassIs c.name.text (class_entry c)
    added_class c of =
        record {
          name = declares.class_names c of;
          parent = declares.parents c of;
          fields = each_of_entries F (λ f. f.name.text) field_entry c.fields (λ f. declares.fields c f of);
          methods = each_of_entries M (λ m. m.name.text) method_entry c.methods (λ m. new_method c m of);
        }

    member_is : (c : Change) (m : MemberOperation) → Contains (changes_of source) c → Contains c.members m → StepIs (does m)
    member_is c (adds_field f) of within = declares.new_fields c f of within
    member_is c (adds_method m) of within =
        declares.methods m
        (Contains-append_right (flat_map (λ d. d.methods) (classes_of source)) (flat_map (λ d. filter_map method_added d.members) (changes_of source)) m
        (within_flat (λ d. filter_map method_added d.members) (changes_of source) c m of (kept_by method_added c.members (adds_method m) m within refl)))
    member_is c (modifies_method m) of within = λ old new.
        declares.modified m old new
        (within_flat (λ d. filter_map method_modified d.members) (changes_of source) c m of (kept_by method_modified c.members (modifies_method m) m within refl))
    member_is c (removes_field f) of within = tt
    member_is c (removes_method m) of within = tt

    parent_is : (c : Change) (o : Option Spot) → Contains (changes_of source) c → c.parent ≡ o → (x : Step) → Contains (first_steps o) x → StepIs x
    parent_is c None of e x within = no_element x within
    parent_is c (Some p) of e x within = subst StepIs (only_one (extends p) x within) (declares.new_parents c p of e)

    step_is : (c : Change) (x : Step) → Contains (changes_of source) c → Contains (steps_of c) x → StepIs x
    step_is c x of within =
        either (in_front_or_behind (first_steps c.parent) (map does c.members) x within) (λ first. parent_is c c.parent of refl x first)
        (λ later. let found = mapped_from does c.members x later in subst StepIs found.2 (member_is c found.0 of found.1))

    change_keeps : (c : Change) (k : Text) (old new : ClassEntry) → Contains (changes_of source) c → run take_step (steps_of c) old ≡ Some new → ClassIs k old → ClassIs k new
    change_keeps c k old new of e is =
        run_keeps take_step (ClassIs k) (steps_of c) old new (each_of _ (steps_of c) (λ x within u v. step_keeps k x u v (step_is c x of within))) e is

    held_is : (x : Operation) (t : Table) (held : Option ClassEntry) → Contains (operations_of source) x → class_changes x (get t (class_name x).text) ≡ Some held → TableIs t
        → (entry : ClassEntry) → held ≡ Some entry → ClassIs (class_name x).text entry
    held_is (adds_class c) t held of e is entry here =
        subst (ClassIs c.name.text) (entered (class_entry c) (get t c.name.text) held entry e here)
        (added_class c (kept_by added_by (operations_of source) (adds_class c) c of refl))
    held_is (modifies_class c) t held of e is entry here =
        let old = changed (run take_step (steps_of c)) (get t c.name.text) held entry e here in
        change_keeps c c.name.text old.0 entry (kept_by change_by (operations_of source) (modifies_class c) c of refl) old.2 (is c.name.text old.0 old.1)
    held_is (removes_class c) t held of e is entry here = left (get t c.text) held entry e here

    operation_keeps : (x : Operation) (t u : Table) → Contains (operations_of source) x → apply x t ≡ Some u → TableIs t → TableIs u
    operation_keeps x t u of e is =
        let step = mapped (λ held. with_at t (class_name x).text held) (class_changes x (get t (class_name x).text)) u e in
        subst TableIs step.2 (each_with_at ClassIs t (class_name x).text step.0 is (held_is x t step.0 of step.1 is))

    delta_keeps : (delta : Delta) (t u : Table) → Contains source.deltas delta → apply_delta delta t ≡ Some u → TableIs t → TableIs u
    delta_keeps delta t u of e is =
        run_keeps apply TableIs delta.operations t u
        (each_of _ delta.operations (λ x within v w. operation_keeps x v w (within_flat (λ d. d.operations) source.deltas delta x of within))) e is

    module _ (accepted : IsAccepted source) (c : Configuration) where
      actives_keep : (parts : List Part) → Each (λ d. (u v : Table) → apply_delta d u ≡ Some v → TableIs u → TableIs v) (flat_map (active source c) parts)
      actives_keep [] = none
      actives_keep (part ∷ parts) =
          each_append _ (active source c part) (flat_map (active source c) parts)
          (each_of _ (active source c part) (λ d within u v. delta_keeps d u v (declared source accepted c part d within))) (actives_keep parts)

      -- so what parts make has what the source declares
      pub made_is : (parts : List Part) (t : Table) → Makes source c parts t → TableIs t
      made_is parts t makes =
          run_keeps apply_delta TableIs (flat_map (active source c) parts) empty_table t (actives_keep parts) (makes.each _ (default_along source c parts))
          (each_of_empty ClassIs)
