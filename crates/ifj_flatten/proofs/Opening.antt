-- The tree of a node that is replaced by its pieces, from its last part on.
use Rattle.std.proofs.Common.{◌≡◌, ℕ, ◌+◌, ◌-◌, ◌*◌, ◌<◌, ◌≤◌, List, [], ◌∷◌, ◌++◌, length, map, take, drop, slice_get, Some, Option, refl, sym, ap, ap₂, ◌∙◌, subst, append_assoc, length-append, arith}
use Rattle.std.specs.Prelude.{unwrap_or}
use Rattle.std.specs.Option.{option_map}
use Rattle.std.proofs.lemmas.List.{append-nil, length-map, take_more, take_all}
use Rattle.std.proofs.lemmas.Option.{get_or_from_slice_get, slice_get_within, slice_get-map}
use Rattle.dj_names.specs.Texts.{Text}
use Rattle.arena_walk.specs.Tree.{Tree, trees_of, children_of, over, size, size_each}
use Rattle.arena_walk.specs.Forest.{tree_at, first_number}
use Rattle.arena_walk.proofs.TreeLemmas.{list_of-trees_of, drop_at_place}
use Rattle.arena_walk.proofs.SlotLemmas.{child_behind, same_first}
use Rattle.arena_walk.proofs.Visitors.{fold_each-trees_of, tree_at_within}
use Rattle.dj_tree.specs.Arities.{expr_arity}
use Rattle.dj_tree.specs.Plain.{expr_form, in_form, plain_expr}
use Rattle.dj_tree.specs.Trees.{Expr, ExprForm, VariableForm, ThisForm, NullForm, FieldForm, CallForm, NewForm, CastForm, AssignForm, OriginalForm}
use Rattle.dj_tree.specs.declared.expression.ExprNode.{ExprNode}
use Rattle.dj_tree.specs.declared.expression.ExprNode.TheVariants as node
use Rattle.dj_calculus.specs.FlatTables.{calling_over, calling}
use Rattle.ifj_flatten.specs.declared.body.Piece.{Piece}
use Rattle.ifj_flatten.specs.declared.body.Piece.TheVariants.{Tree as ATree, Root}
use Rattle.ifj_flatten.specs.Pieces.{called_form, called_arity, receivers, MakesAll, total_work, IsOpened}
use Rattle.ifj_flatten.proofs.Forests.{expr_of_tree, over_parts}

-- ---- the made tree of a node

made_over : (name : Text) (form : ExprForm) (parts : List Expr) → calling_over name form parts ≡ over (called_form name form) (receivers form ++ parts)
made_over name (VariableForm x) parts = refl
made_over name (ThisForm at) parts = refl
made_over name (NullForm at) parts = refl
made_over name (FieldForm f) parts = refl
made_over name (CallForm m) parts = refl
made_over name (NewForm c) parts = refl
made_over name (CastForm c) parts = refl
made_over name (AssignForm f) parts = refl
made_over name (OriginalForm at) parts = refl

as_many : (names : List Text) (n : ExprNode) → length (receivers (expr_form names n)) + expr_arity n ≡ called_arity n
as_many names (node.Variable x) = refl
as_many names (node.This at) = refl
as_many names (node.Null at) = refl
as_many names (node.Field f) = refl
as_many names (node.Call m arguments) = omega arith
as_many names (node.New c) = refl
as_many names (node.Cast c) = refl
as_many names (node.Assign f) = refl
as_many names (node.Original at arguments) = omega arith

-- the last of a list, so many
abbrev pub last_of : {X : Type 0} → ℕ → List X → List X
last_of k xs = drop (length xs - k) xs

abbrev pub parts_at : List ExprNode → ℕ → List (Tree ExprNode)
parts_at exprs at = unwrap_or (option_map children_of (tree_at expr_arity exprs at)) []

module _ (exprs : List ExprNode) (at : ℕ) where
  abbrev pub parts : List (Tree ExprNode)
  parts = parts_at exprs at

  -- the made trees of the parts
  abbrev pub made_parts : Text → List Text → List Expr
  made_parts name names = map (λ t. calling name (in_form (expr_form names) t)) parts

  many_made : (name : Text) (names : List Text) → length (made_parts name names) ≡ length parts
  many_made name names = length-map parts (λ t. calling name (in_form (expr_form names) t))

  -- A node, which stands over its parts.
  pub record IsNode (n : ExprNode) : Type 0 where
    pub stands : slice_get exprs at ≡ Some n
    pub tree : tree_at expr_arity exprs at ≡ Some (over n parts)
    pub many : length parts ≡ expr_arity n

  pub is_node : (n : ExprNode) → slice_get exprs at ≡ Some n → (kids : List (Tree ExprNode)) × (length kids ≡ expr_arity n) × (tree_at expr_arity exprs at ≡ Some (over n kids)) → IsNode n
  is_node n here found =
      let same : parts ≡ found.0 = ap (λ o. unwrap_or (option_map children_of o) []) found.2 ∙ list_of-trees_of found.0 in
      record { stands = here; tree = found.2 ∙ ap (λ ks. Some (over n ks)) (sym same); many = ap length same ∙ found.1 }

  -- the last parts, so many, are on the stack
  pub record IsOpening (n : ExprNode) (behind end : ℕ) (old new : List Piece) : Type 0 where
    pub place : end + size_each (trees_of (last_of behind parts)) ≡ at
    pub same : (name : Text) (names : List Text) (made ts : List Expr)
        → MakesAll name names exprs old made (ts ++ calling name (plain_expr names exprs at) ∷ [])
        → MakesAll name names exprs new made (ts ++ (receivers (expr_form names n) ++ take (length parts - behind) (made_parts name names)))
    pub less : total_work exprs new ≤ 1 + 3 * size_each (trees_of (last_of behind parts)) + total_work exprs old

  module _ (n : ExprNode) (is : IsNode n) where
    calling_is : (name : Text) (names : List Text) → calling name (plain_expr names exprs at) ≡ over (called_form name (expr_form names n)) (receivers (expr_form names n) ++ made_parts name names)
    calling_is name names =
        ap (calling name) (expr_of_tree names exprs at (over n parts) is.tree ∙ over_parts names n parts)
        ∙ ap (calling_over name (expr_form names n)) (fold_each-trees_of (calling_over name) (map (in_form (expr_form names)) parts) ∙ both parts)
        ∙ made_over name (expr_form names n) (made_parts name names)
      where
        both : (ts : List (Tree ExprNode)) → map (calling name) (map (in_form (expr_form names)) ts) ≡ map (λ t. calling name (in_form (expr_form names) t)) ts
        both [] = refl
        both (t ∷ ts) = ap (λ xs. calling name (in_form (expr_form names) t) ∷ xs) (both ts)

    none_last : size_each (trees_of (last_of 0 parts)) ≡ 0
    none_last = none parts (length parts - 0) (omega arith)
      where
        none : (ts : List (Tree ExprNode)) (k : ℕ) → k ≡ length ts → size_each (trees_of (drop k ts)) ≡ 0
        none ts k e = ap (λ j. size_each (trees_of (drop j ts))) e ∙ gone ts
          where
            gone : (us : List (Tree ExprNode)) → size_each (trees_of (drop (length us) us)) ≡ 0
            gone [] = refl
            gone (u ∷ us) = gone us

    pub opening_none : (old new : List Piece) → new ≡ Root (record { 0 = at }) ∷ old → IsOpening n 0 at old new
    opening_none old new on = record {
      place = omega (arith, none_last);
      same = λ name names made ts makes.
          let all : take (length parts - 0) (made_parts name names) ≡ made_parts name names = take_all (length parts - 0) (made_parts name names) (omega (arith, many_made name names)) in
          let form = expr_form names n in
          let whole = receivers form ++ made_parts name names in
          subst (λ ps. MakesAll name names exprs ps made (ts ++ (receivers form ++ take (length parts - 0) (made_parts name names)))) (sym on) (
            n,
            ts,
            whole,
            is.stands,
            ap (λ xs. ts ++ (receivers form ++ xs)) all,
            length-append (receivers form) (made_parts name names) ∙ omega (arith, many_made name names, is.many, as_many names n),
            subst (λ e. MakesAll name names exprs old made (ts ++ e ∷ [])) (calling_is name names) makes,
          );
      less = let work = ap (total_work exprs) on in omega (arith, work);
    }

    pub opening_more : (behind end part first : ℕ) (old new newer : List Piece) → IsOpening n behind end old new → behind < length parts → part + 1 ≡ end
        → (u : Tree ExprNode) × (tree_at expr_arity exprs part ≡ Some u) × (first ≡ first_number part u) × (first ≤ part)
        → newer ≡ ATree (record { 0 = part }) ∷ new → IsOpening n (behind + 1) first old newer
    opening_more behind end part first old new newer so_far low within found on =
        let this = child_behind expr_arity exprs at n parts behind part is.tree low (omega (arith, within, so_far.place)) in
        let u = this.0 in
        let begins = same_first expr_arity exprs part first u this.1 found in
        let number : ℕ = length parts - (behind + 1) in
        let place = drop_at_place parts number (omega (arith, low)) in
        let next : number + 1 ≡ length parts - behind = omega (arith, low) in
        let split : last_of (behind + 1) parts ≡ u ∷ last_of behind parts = place.1 ∙ ap₂ (λ x k. x ∷ drop k parts) (one place.2 this.3) next in
        let sizes = ap (λ ts. size_each (trees_of ts)) split in
        record {
          place = omega (arith, begins, this.2);
          same = λ name names made ts makes.
              let read : Tree ExprNode → Expr = λ t. calling name (in_form (expr_form names) t) in
              let all = made_parts name names in
              let here : slice_get all number ≡ Some (read u) = slice_get-map read parts number ∙ ap (option_map read) this.3 in
              let it : read u ≡ calling name (plain_expr names exprs part) = ap (calling name) (sym (expr_of_tree names exprs part u this.1)) in
              let more : take (length parts - behind) all ≡ take number all ++ calling name (plain_expr names exprs part) ∷ [] =
              ap (λ k. take k all) (sym next) ∙ take_more all number (read u) (slice_get_within all number (read u) here)
              ∙ ap (λ x. take number all ++ x ∷ []) (get_or_from_slice_get all number (read u) (read u) here ∙ it) in
              let front = receivers (expr_form names n) in
              let joined : ts ++ (front ++ take (length parts - behind) all) ≡ (ts ++ (front ++ take number all)) ++ calling name (plain_expr names exprs part) ∷ [] =
              ap (λ xs. ts ++ (front ++ xs)) more ∙ ap (λ xs. ts ++ xs) (sym (append_assoc front (take number all) _)) ∙ sym (append_assoc ts (front ++ take number all) _) in
              subst (λ ps. MakesAll name names exprs ps made (ts ++ (front ++ take number all))) (sym on)
              (tree_at_within expr_arity exprs part u this.1, subst (λ xs. MakesAll name names exprs new made xs) joined (so_far.same name names made ts makes));
          less = let work = ap (total_work exprs) on in let its = ap (λ o. unwrap_or (option_map size o) 0) this.1 in omega (arith, work, its, sizes, so_far.less);
        }
      where
        one : {X : Type 0} {o : Option X} {x y : X} → o ≡ Some x → o ≡ Some y → x ≡ y
        one p q = cc

    pub opened : (behind end : ℕ) (old new newer : List Piece) → IsOpening n behind end old new → behind ≡ expr_arity n
        → ((name : Text) (names : List Text) (exprs : List ExprNode) (made ts : List Expr) → MakesAll name names exprs new made (ts ++ receivers (expr_form names n)) → MakesAll name names exprs newer made ts)
        → total_work exprs newer < 2 + total_work exprs new → IsOpened exprs at old newer
    opened behind end old new newer so_far all receiver work = record {
      same = λ name names made ts makes.
          let none : length parts - behind ≡ 0 = omega (arith, all, is.many) in
          let front = receivers (expr_form names n) in
          receiver name names exprs made ts
          (subst (λ xs. MakesAll name names exprs new made (ts ++ xs)) (ap (λ k. front ++ take k (made_parts name names)) none ∙ append-nil front) (so_far.same name names made ts makes));
      less =
          let none : length parts - behind ≡ 0 = omega (arith, all, is.many) in
          let whole = ap (λ k. size_each (trees_of (drop k parts))) none in
          let its = ap (λ o. unwrap_or (option_map size o) 0) is.tree in
          omega (arith, work, so_far.less, whole, its);
    }
