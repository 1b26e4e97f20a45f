-- A flat table is its own flat table.
use Rattle.std.proofs.Common.{◌≡◌, inl, inr, ◌-◌, Bool, true, false, ◌||◌, List, [], ◌∷◌, ◌++◌, Option, Some, None, Contains, refl, sym, ap, ap₂, ◌∙◌, subst, arith}
use Rattle.std.specs.List.{list_any, flat_map}
use Rattle.std.specs.Option.{option_map}
use Rattle.std.specs.FinMap.{get, entries, from_entries, same_map}
use Rattle.dj_names.specs.Texts.{Text}
use Rattle.arena_walk.specs.Tree.{Trees, branch, no_trees, tree_and, trees_of, over, nodes, nodes_each, fold_each}
use Rattle.dj_tree.specs.Trees.{Expr, ExprForm, VariableForm, ThisForm, NullForm, FieldForm, CallForm, NewForm, CastForm, AssignForm, OriginalForm}
use Rattle.dj_calculus.specs.Tables.{Body, MethodEntry, ClassEntry, Table}
use Rattle.dj_calculus.specs.Entries.{is_original, says_original}
use Rattle.dj_calculus.specs.TableForms.{IsTable}
use Rattle.dj_calculus.specs.Typing.{WellTyped}
use Rattle.dj_calculus.specs.FlatTables.{version_name, calling_over, calling, versions, flat, HasOneBody, IsFlat, IsFlattenable}
use Rattle.dj_calculus.proofs.MapLemmas.{text_total, text_antisymmetric, entry_found, from_its_entries}
use Rattle.dj_calculus.proofs.Members.{among_others}
use Rattle.dj_calculus_laws.proofs.FlatTyping.{flat_entry, get_flat, flat_well_typed}

any_append : {X : Type 0} (p : X → Bool) (xs ys : List X) → list_any p (xs ++ ys) ≡ false → (list_any p xs ≡ false) × (list_any p ys ≡ false)
any_append p [] ys none = (refl, none)
any_append p (x ∷ xs) ys none = by_test (p x) (list_any p xs) (list_any p (xs ++ ys)) (list_any p ys) none (any_append p xs ys)
  where
    by_test : (a b c d : Bool) → (a || c) ≡ false → (c ≡ false → (b ≡ false) × (d ≡ false)) → ((a || b) ≡ false) × (d ≡ false)
    by_test true b c d e rest = absurd cc
    by_test false b c d e rest = rest e

keeps_form : (name : Text) (form : ExprForm) (parts : List Expr) → (is_original form || false) ≡ false → calling_over name form parts ≡ over form parts
keeps_form name (OriginalForm at) parts none = absurd cc
keeps_form name (VariableForm x) parts none = refl
keeps_form name (ThisForm at) parts none = refl
keeps_form name (NullForm at) parts none = refl
keeps_form name (FieldForm f) parts none = refl
keeps_form name (CallForm m) parts none = refl
keeps_form name (NewForm c) parts none = refl
keeps_form name (CastForm c) parts none = refl
keeps_form name (AssignForm f) parts none = refl

mutual
  -- an expression that says no `original` has no call made of one
  pub calling_none : (name : Text) (e : Expr) → says_original e ≡ false → calling name e ≡ e
  calling_none name (branch form parts) none =
      let both = any_append is_original (nodes_each parts) (form ∷ []) none in
      keeps_form name form (fold_each (calling_over name) parts) both.1 ∙ ap (branch form) (callings_none name parts both.0)

  callings_none : (name : Text) (es : Trees ExprForm) → list_any is_original (nodes_each es) ≡ false → trees_of (fold_each (calling_over name) es) ≡ es
  callings_none name no_trees none = refl
  callings_none name (tree_and e es) none =
      let both = any_append is_original (nodes e) (nodes_each es) none in
      ap₂ (λ x xs. tree_and x xs) (calling_none name e both.0) (callings_none name es both.1)

one_version : (c m : Text) (method : MethodEntry) (body : Body) → method.bodies ≡ body ∷ [] → says_original body.value ≡ false
    → versions c (m, record method { bodies = body ∷ [] }) ≡ (m, record method { bodies = body ∷ [] }) ∷ []
one_version c m method body one none =
    ap (λ v. (m, record method { bodies = record { names = body.names; value = v } ∷ [] }) ∷ []) (calling_none (version_name c m (0 - 1)) body.value none)

its_version : (c m : Text) (method : MethodEntry) → HasOneBody method → versions c (m, method) ≡ (m, method) ∷ []
its_version c m method has =
    subst (λ bs. versions c (m, record method { bodies = bs }) ≡ (m, record method { bodies = bs }) ∷ []) (sym has.1) (one_version c m method has.0 has.1 has.2)

all_versions : (c : Text) (es : List (Text × MethodEntry)) → ((e : Text × MethodEntry) → Contains es e → versions c e ≡ e ∷ []) → flat_map (versions c) es ≡ es
all_versions c [] each = refl
all_versions c (e ∷ es) each = ap₂ (λ x xs. x ++ xs) (each e (0, omega arith, refl)) (all_versions c es (λ x within. each x (among_others e x es within)))

module _ (t : Table) (is_flat : IsFlat t) where
  same_entry : (c : Text) (e : ClassEntry) → get t c ≡ Some e → flat_entry c e ≡ e
  same_entry c e is =
      ap (λ ms. record e { methods = ms })
      (ap from_entries (all_versions c (entries e.methods) (λ x within. its_version c x.0 x.1 (is_flat c x.0 e x.1 is (entry_found e.methods x.0 x.1 within)))) ∙ from_its_entries e.methods)

  same_class : (c : Text) (o : Option ClassEntry) → get t c ≡ o → option_map (flat_entry c) o ≡ o
  same_class c None is = refl
  same_class c (Some e) is = ap Some (same_entry c e is)

  pub flat_again : flat t ≡ t
  flat_again = same_map text_total text_antisymmetric (flat t) t (λ c. get_flat t c ∙ same_class c (get t c) refl)

pub flat_is_well_typed : (t : Table) → IsTable t → IsFlattenable t → WellTyped t → WellTyped (flat t)
flat_is_well_typed t is (inl has) typed = flat_well_typed t is has.0 has.1 typed
flat_is_well_typed t is (inr is_flat) typed = subst WellTyped (sym (flat_again t is_flat)) typed
