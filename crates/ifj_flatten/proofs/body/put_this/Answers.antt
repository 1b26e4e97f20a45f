use Rattle.std.proofs.Common.{refl, sym, ap₂, ◌∙◌, []}
use Rattle.std.proofs.lemmas.List.{append-nil}
use Rattle.dj_tree.specs.declared.expression.ExprNode.TheVariants.{This}
use Rattle.ifj_flatten.specs.Pieces.{forest}
use Rattle.ifj_flatten.proofs.Forests.{forest_push}
use Rattle.ifj_flatten.proofs.body.put_this.Goals as goal

pub returns-clause-put : goal.returns-clause-put
returns-clause-put c =
    let names = c.args.made.now.names in
    let exprs = c.args.made.now.exprs in
    ap₂ forest c.push.ensures.names c.in_ok-push.ensures.nodes ∙ forest_push names exprs (This c.args.at) (forest names exprs) [] (sym (append-nil (forest names exprs))) refl
