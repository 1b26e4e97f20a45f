use Rattle.std.proofs.Common.{◌≡◌, ◌-◌, ◌++◌, [], ◌∷◌, sym, ap, ◌∙◌, subst, arith}
use Rattle.std.specs.Prelude.{All, map}
use Rattle.std.proofs.lemmas.List.Elements.{All-nil}
use Rattle.dj_names.proofs.Extending.{extends_reflexive, extends_transitive}
use Rattle.arena_walk.proofs.ForestLemmas.{trees-nil}
use Rattle.dj_tree.specs.Arities.{expr_arity}
use Rattle.dj_tree.specs.Plain.{expr_form, in_form, plain_expr}
use Rattle.dj_tree.specs.WellFormed.{IsExprNode}
use Rattle.dj_calculus.specs.FlatTables.{calling}
use Rattle.ifj_flatten.specs.declared.body.Piece.TheVariants.{Tree}
use Rattle.ifj_flatten.specs.Pieces.{forest, MakesAll}
use Rattle.ifj_flatten.proofs.Forests.{alone}
use Rattle.ifj_flatten.proofs.body.push_body.Goals as goal

pub pieces-init : goal.pieces-init
pieces-init c =
    let names = c.args.made.now.names in
    let from = c.args.from.now in
    let exprs = c.args.exprs.now in
    let target = calling c.args.called.now (plain_expr from exprs c.args.root.0) in
    let none : forest names c.args.made.now.exprs ≡ [] = ap (forest names) c.requires.empty ∙ ap (map (in_form (expr_form names))) (trees-nil expr_arity) in (
      subst (All (IsExprNode names)) (sym c.requires.empty) (All-nil (IsExprNode names)),
      extends_reflexive names,
      subst (λ ps. MakesAll c.args.called.now from exprs ps (target ∷ []) (forest names c.args.made.now.exprs)) (sym (c.in_ok-push.ensures.ok ∙ ap (λ ps. Tree c.args.root ∷ ps) c.new-pieces.ensures))
          (c.requires.there, ap (λ ts. ts ++ target ∷ []) none),
    )

pub put_piece-requires-clause-makes : goal.put_piece-requires-clause-makes
put_piece-requires-clause-makes c =
    let from = c.args.from.now in
    let exprs = c.args.exprs.now in
    let target = calling c.args.called.now (plain_expr from exprs c.args.root.0) in
    (target ∷ [], subst (λ ps. MakesAll c.args.called.now from exprs ps (target ∷ []) (forest c.pieces.made.names c.pieces.made.exprs)) c.in-Some.ensures c.pieces.invariant.2)

pub pieces-preserved : goal.pieces-preserved
pieces-preserved c =
    let from = c.args.from.now in
    let exprs = c.args.exprs.now in
    let target = calling c.args.called.now (plain_expr from exprs c.args.root.0) in (
      c.in_ok-put_piece.ensures.known,
      extends_transitive c.args.made.now.names c.pieces.made.names c.put_piece.new.made.names c.pieces.invariant.1 c.in_ok-put_piece.ensures.grown,
      c.in_ok-put_piece.ensures.done.same (target ∷ [])
          (subst (λ ps. MakesAll c.args.called.now from exprs ps (target ∷ []) (forest c.pieces.made.names c.pieces.made.exprs)) c.in-Some.ensures c.pieces.invariant.2),
    )

pub overflow_sub-result : goal.overflow_sub-result
overflow_sub-result c =
    let target = calling c.args.called.now (plain_expr c.args.from.now c.args.exprs.now c.args.root.0) in
    let made = c.pieces.made in
    let one = subst (λ ps. MakesAll c.args.called.now c.args.from.now c.args.exprs.now ps (target ∷ []) (forest made.names made.exprs)) c.in_default.ensures.0 c.pieces.invariant.2 in
    let is = alone made.names made.exprs target one in
    omega (arith, is.some, made.nodes_counted)

pub returns-clause-tree : goal.returns-clause-tree
returns-clause-tree c =
    let target = calling c.args.called.now (plain_expr c.args.from.now c.args.exprs.now c.args.root.0) in
    let made = c.pieces.made in
    let one = subst (λ ps. MakesAll c.args.called.now c.args.from.now c.args.exprs.now ps (target ∷ []) (forest made.names made.exprs)) c.in_default.ensures.0 c.pieces.invariant.2 in
    let is = alone made.names made.exprs target one in
    ap (λ k. plain_expr made.names made.exprs (k - 1)) (sym made.nodes_counted) ∙ is.tree

pub returns-clause-there : goal.returns-clause-there
returns-clause-there c =
    let target = calling c.args.called.now (plain_expr c.args.from.now c.args.exprs.now c.args.root.0) in
    let made = c.pieces.made in
    let one = subst (λ ps. MakesAll c.args.called.now c.args.from.now c.args.exprs.now ps (target ∷ []) (forest made.names made.exprs)) c.in_default.ensures.0 c.pieces.invariant.2 in
    let is = alone made.names made.exprs target one in
    omega (arith, is.some, made.nodes_counted)

pub returns-clause-size : goal.returns-clause-size
returns-clause-size c =
    let target = calling c.args.called.now (plain_expr c.args.from.now c.args.exprs.now c.args.root.0) in
    let made = c.pieces.made in
    let one = subst (λ ps. MakesAll c.args.called.now c.args.from.now c.args.exprs.now ps (target ∷ []) (forest made.names made.exprs)) c.in_default.ensures.0 c.pieces.invariant.2 in
    (alone made.names made.exprs target one).many
