use Rattle.std.proofs.Common.{sym, ap, ap₂, ◌∙◌, ◌∷◌, [], ◌++◌}
use Rattle.arena_walk.specs.Tree.{over}
use Rattle.ifj_flatten.specs.Pieces.{forest}
use Rattle.ifj_flatten.proofs.Forests.{forest_later, forest_push}
use Rattle.ifj_flatten.proofs.body.put_root.Goals as goal

pub returns-clause-put : goal.returns-clause-put
returns-clause-put c = λ front parts is many.
    let names = c.args.made.now.names in
    let later = c.called_node.new.self.names in
    let exprs = c.args.made.now.exprs in
    let grown = c.in_ok-own.ensures.grown in
    ap₂ forest c.push.ensures.names (c.in_ok-push.ensures.nodes ∙ ap (λ ns. ns ++ c.in_ok-own.own ∷ []) c.called_node.ensures.exprs)
    ∙ forest_push later exprs c.in_ok-own.own front parts (forest_later names later exprs grown c.requires.known ∙ is) (many ∙ sym c.in_ok-own.ensures.arity)
    ∙ ap (λ form. front ++ over form parts ∷ []) c.in_ok-own.ensures.form
