-- A list of nodes has one expression.
use Rattle.std.proofs.Common.{◌≡◌, ℕ, suc, ◌+◌, List, [], ◌∷◌, ◌++◌, length, drop, refl, sym, ap, ap₂, ◌∙◌, append_assoc, arith}
use Rattle.std.proofs.Common.{subst}
use Rattle.std.specs.Prelude.{slice_get, unwrap_or}
use Rattle.std.proofs.lemmas.List.{append-nil}
use Rattle.dj_lexer.specs.Symbols.{Symbol}
use Rattle.dj_tree.specs.ExprGrammar.{SpellsExpr}
use Rattle.dj_reader.specs.Combining.{SpellsMapped, changed}
use Rattle.dj_reader.proofs.Laws.{mapped_reads, same_reads}
use Rattle.dj_expr_reader.proofs.Reading.{expressions_are_read}
use Rattle.arena_walk.specs.Tree.{Trees, branch, no_trees, tree_and, list_of}
use Rattle.dj_tree.specs.Trees.{Expr, ExprForm, null_at}
use Rattle.dj_expr_reader.specs.Marks.{Mark, marks_of, marks_each, gather, grow, expr_of, SpellsMarks}
use Rattle.dj_expr_reader.specs.Laws.{OneExpression, ExprTreesAreRead}

abbrev pushed : Trees ExprForm → List Expr → List Expr
pushed no_trees stack = stack
pushed (tree_and e es) stack = pushed es (e ∷ stack)

abbrev joined : Trees ExprForm → Trees ExprForm → Trees ExprForm
joined no_trees others = others
joined (tree_and e es) others = tree_and e (joined es others)

joined_none : (es : Trees ExprForm) → joined es no_trees ≡ es
joined_none no_trees = refl
joined_none (tree_and e es) = ap (tree_and e) (joined_none es)

gathered : (es : Trees ExprForm) (n : ℕ) (stack : List Expr) (others : Trees ExprForm) → gather (length (list_of es) + n) (pushed es stack) others ≡ gather n stack (joined es others)
gathered no_trees n stack others = ap (λ k. gather k stack others) (omega arith)
gathered (tree_and e es) n stack others =
    let moved : length (list_of (tree_and e es)) + n ≡ length (list_of es) + suc n = omega arith in
    ap (λ k. gather k (pushed es (e ∷ stack)) others) moved ∙ gathered es (suc n) (e ∷ stack) others

dropped : (es : Trees ExprForm) (n : ℕ) (stack : List Expr) → drop (length (list_of es) + n) (pushed es stack) ≡ drop n stack
dropped no_trees n stack = ap (λ k. drop k stack) (omega arith)
dropped (tree_and e es) n stack =
    let moved : length (list_of (tree_and e es)) + n ≡ length (list_of es) + suc n = omega arith in
    ap (λ k. drop k (pushed es (e ∷ stack))) moved ∙ dropped es (suc n) (e ∷ stack)

taken_off : (form : ExprForm) (es : Trees ExprForm) (stack : List Expr)
    → branch form (gather (length (list_of es)) (pushed es stack) no_trees) ∷ drop (length (list_of es)) (pushed es stack) ≡ branch form es ∷ stack
taken_off form es stack =
    let none_more : length (list_of es) ≡ length (list_of es) + 0 = omega arith in
    ap₂ (λ k l. branch form k ∷ l) (ap (λ k. gather k (pushed es stack) no_trees) none_more ∙ gathered es 0 stack no_trees ∙ joined_none es)
    (ap (λ k. drop k (pushed es stack)) none_more ∙ dropped es 0 stack)

mutual
  grown : (e : Expr) (marks : List Mark) (stack : List Expr) → grow (marks_of e ++ marks) stack ≡ grow marks (e ∷ stack)
  grown (branch form es) marks stack =
      ap (λ l. grow l stack) (append_assoc (marks_each es) ((form, length (list_of es)) ∷ []) marks) ∙ grown_each es ((form, length (list_of es)) ∷ marks) stack
      ∙ ap (grow marks) (taken_off form es stack)

  grown_each : (es : Trees ExprForm) (marks : List Mark) (stack : List Expr) → grow (marks_each es ++ marks) stack ≡ grow marks (pushed es stack)
  grown_each no_trees marks stack = refl
  grown_each (tree_and e es) marks stack =
      ap (λ l. grow l stack) (append_assoc (marks_of e) (marks_each es) marks) ∙ grown e (marks_each es ++ marks) stack ∙ grown_each es marks (e ∷ stack)

pub one_expression : OneExpression
one_expression d e same =
    let both : d ∷ [] ≡ e ∷ [] = sym (grown d [] []) ∙ ap (λ l. grow (l ++ []) []) same ∙ grown e [] [] in
    cc

pub expr_of_marks : (e : Expr) → expr_of (marks_of e) ≡ e
expr_of_marks e =
    ap (λ l. unwrap_or (slice_get (grow l []) 0) (null_at 0)) (sym (append-nil (marks_of e))) ∙ ap (λ (l : List Expr). unwrap_or (slice_get l 0) (null_at 0)) (grown e [] [])

pub expr_trees_are_read : ExprTreesAreRead
expr_trees_are_read d = same_reads (record { to = to; from = from }) (mapped_reads expr_of (expressions_are_read d))
  where
    to : (s : List Symbol) (e : Expr) → SpellsMapped expr_of (SpellsMarks d) s e → SpellsExpr d s e
    to s e (changed {x = marks} p) =
        let P : Expr → Type 0 = λ x. SpellsExpr d s x in
        subst P (sym (ap expr_of p.same ∙ expr_of_marks p.value)) p.spelled

    from : (s : List Symbol) (e : Expr) → SpellsExpr d s e → SpellsMapped expr_of (SpellsMarks d) s e
    from s e p =
        let P : Expr → Type 0 = λ x. SpellsMapped expr_of (SpellsMarks d) s x in
        subst P (expr_of_marks e) (changed (record { value = e; spelled = p; same = refl }))
