-- The nodes of a body of a flat table: those of the body that it is made of, and calls of the version before.
use Rattle.std.proofs.Common.{◌≡◌, ◌⊎◌, inl, inr, false, List, [], ◌∷◌, Contains, refl, sym, subst, arith}
use Rattle.std.proofs.lemmas.List.Elements.{All-contains_itself, Contains-append_left, Contains-append_right}
use Rattle.std.proofs.lemmas.List.Folds.{list_any_none}
use Rattle.dj_names.specs.Texts.{Text}
use Rattle.arena_walk.specs.Tree.{Trees, branch, no_trees, tree_and, trees_of, fold_each, nodes, nodes_each}
use Rattle.dj_tree.specs.Trees.{Expr, ExprForm, VariableForm, ThisForm, NullForm, FieldForm, CallForm, NewForm, CastForm, AssignForm, OriginalForm}
use Rattle.dj_calculus.specs.Entries.{is_original, says_original}
use Rattle.dj_calculus.specs.FlatTables.{calling_over, calling, names_in_form}
use Rattle.dj_calculus.proofs.Members.{no_element, either, in_front_or_behind, only_one, first_or_other}

-- a node of a body whose calls of `original` are calls of this method: of a node of the other body has it each name but the method's
pub record IsFromNode (name : Text) (old : List ExprForm) (form : ExprForm) : Type 0 where
  pub other : is_original form ≡ false
  pub named : (x : Text) → Contains (names_in_form form) x → (x ≡ name) ⊎ ((inner : ExprForm) × Contains old inner × Contains (names_in_form inner) x)

module _ (name : Text) (old : List ExprForm) where
  abbrev AreFromNodes : List ExprForm → Type 0
  AreFromNodes forms = (form : ExprForm) → Contains forms form → IsFromNode name old form

  all_under : (root : ExprForm) (kids : Trees ExprForm) → IsFromNode name old root → AreFromNodes (nodes_each kids) → AreFromNodes (nodes (branch root kids))
  all_under root kids is are form has =
      either (in_front_or_behind (nodes_each kids) (root ∷ []) form has) (are form) (λ here. subst (IsFromNode name old) (only_one root form here) is)

  at_root : (root : ExprForm) (parts : Trees ExprForm) → ((form : ExprForm) → Contains (nodes (branch root parts)) form → Contains old form) → Contains old root
  at_root root parts all = all root (Contains-append_right (nodes_each parts) (root ∷ []) root (0, omega arith, refl))

  below : (root : ExprForm) (parts : Trees ExprForm) → ((form : ExprForm) → Contains (nodes (branch root parts)) form → Contains old form)
      → (form : ExprForm) → Contains (nodes_each parts) form → Contains old form
  below root parts all form has = all form (Contains-append_left (nodes_each parts) (root ∷ []) form has)

  -- a node that is no `original(..)` stays
  kept_branch : (root : ExprForm) (parts : Trees ExprForm) → is_original root ≡ false → ((form : ExprForm) → Contains (nodes (branch root parts)) form → Contains old form)
      → AreFromNodes (nodes_each (trees_of (fold_each (calling_over name) parts))) → AreFromNodes (nodes (branch root (trees_of (fold_each (calling_over name) parts))))
  kept_branch root parts other all are =
      all_under root (trees_of (fold_each (calling_over name) parts)) (record { other = other; named = λ x within. inr (root, at_root root parts all, within) }) are

  mutual
    from_nodes : (e : Expr) → ((form : ExprForm) → Contains (nodes e) form → Contains old form) → AreFromNodes (nodes (calling name e))
    from_nodes (branch (VariableForm x) parts) all = kept_branch (VariableForm x) parts refl all (from_parts parts (below (VariableForm x) parts all))
    from_nodes (branch (ThisForm at) parts) all = kept_branch (ThisForm at) parts refl all (from_parts parts (below (ThisForm at) parts all))
    from_nodes (branch (NullForm at) parts) all = kept_branch (NullForm at) parts refl all (from_parts parts (below (NullForm at) parts all))
    from_nodes (branch (FieldForm f) parts) all = kept_branch (FieldForm f) parts refl all (from_parts parts (below (FieldForm f) parts all))
    from_nodes (branch (CallForm m) parts) all = kept_branch (CallForm m) parts refl all (from_parts parts (below (CallForm m) parts all))
    from_nodes (branch (NewForm c) parts) all = kept_branch (NewForm c) parts refl all (from_parts parts (below (NewForm c) parts all))
    from_nodes (branch (CastForm c) parts) all = kept_branch (CastForm c) parts refl all (from_parts parts (below (CastForm c) parts all))
    from_nodes (branch (AssignForm f) parts) all = kept_branch (AssignForm f) parts refl all (from_parts parts (below (AssignForm f) parts all))
    from_nodes (branch (OriginalForm at) parts) all =
        all_under (CallForm (record { text = name; at = at })) (tree_and (branch (ThisForm at) no_trees) (trees_of (fold_each (calling_over name) parts)))
        (record { other = refl; named = λ x within. inl (sym (only_one name x within)) })
        (λ form has. either (first_or_other (ThisForm at) form (nodes_each (trees_of (fold_each (calling_over name) parts))) has)
        (λ same. subst (IsFromNode name old) same (record { other = refl; named = λ x within. no_element x within }))
        (from_parts parts (below (OriginalForm at) parts all) form))

    from_parts : (es : Trees ExprForm) → ((form : ExprForm) → Contains (nodes_each es) form → Contains old form) → AreFromNodes (nodes_each (trees_of (fold_each (calling_over name) es)))
    from_parts no_trees all form has = no_element form has
    from_parts (tree_and e es) all form has =
        either (in_front_or_behind (nodes (calling name e)) (nodes_each (trees_of (fold_each (calling_over name) es))) form has)
        (from_nodes e (λ f here. all f (Contains-append_left (nodes e) (nodes_each es) f here)) form)
        (from_parts es (λ f here. all f (Contains-append_right (nodes e) (nodes_each es) f here)) form)

-- the nodes of a made body
pub made_nodes : (name : Text) (e : Expr) (form : ExprForm) → Contains (nodes (calling name e)) form → IsFromNode name (nodes e) form
made_nodes name e = from_nodes name (nodes e) e (λ form has. has)

-- it says no `original`
pub made_plain : (name : Text) (e : Expr) → says_original (calling name e) ≡ false
made_plain name e = list_any_none is_original (nodes (calling name e)) (λ k d low. (made_nodes name e _ (All-contains_itself (nodes (calling name e)) k d low)).other)
