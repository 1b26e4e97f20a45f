use Rattle.std.proofs.Common.{sym, ap, ap₂, ◌∙◌, map, length, subst}
use Rattle.std.proofs.lemmas.Simd.{map-map}
use Rattle.dj_tree.specs.Trees as plain
use Rattle.dj_tree.specs.Plain.{plain_spot, plain_field, plain_expr}
use Rattle.dj_tree.specs.declared.declarations.FieldDecl.{FieldDecl}
use Rattle.dj_tree.proofs.Growing.{kept_spot}
use Rattle.dj_calculus.specs.Expressions.{IsExpression}
use Rattle.dj_calculus_laws.proofs.TableProofs.{calling_expression}
use Rattle.ifj_table.specs.Held.{IsBody}
use Rattle.ifj_table.proofs.TableLemmas.{element_is, all_at}
use Rattle.ifj_flatten.proofs.Headings.{kinds_later, spots_later}
use Rattle.ifj_flatten.proofs.versions.make_method.Goals as goal

pub returns-clause-expression : goal.returns-clause-expression
returns-clause-expression c =
    let method = c.args.method.now in
    let body = c.index-body.result.now in
    let here = element_is method.bodies.items c.args.number body c.requires.there c.index-body.ensures in
    let is = all_at (IsBody c.args.from.now c.args.exprs.now (length method.parameters)) method.bodies.items c.args.number body c.requires.method.bodies here in
    subst (λ (e : plain.Expr). IsExpression e) (sym c.in_ok-root.ensures.tree) (calling_expression c.args.called.now (plain_expr c.args.from.now c.args.exprs.now body.root.0) is.expression)

pub returns-clause-made : goal.returns-clause-made
returns-clause-made c =
    let method = c.args.method.now in
    let body = c.index-body.result.now in
    let heading = c.in_ok-heading.heading in
    let known = c.in_ok-heading.ensures in
    let names = heading.made.names in
    let later = c.push_body.new.made.names in
    let grown = c.in_ok-root.ensures.grown in
    let ps = heading.parameters.items in
    let kind : FieldDecl → plain.Spot = λ p. plain_spot later p.kind in
    let spot : FieldDecl → plain.Spot = λ p. plain_spot later p.spot in
    let kind_of : plain.Field → plain.Spot = λ p. p.kind in
    let name_of : plain.Field → plain.Spot = λ p. p.name in
    record {
      body = body;
      stands = element_is method.bodies.items c.args.number body c.requires.there c.index-body.ensures;
      named = kept_spot names later heading.spot grown known.known_spot ∙ known.spot;
      signature = ap₂ (λ kinds result. record { parameters = kinds; result = result })
          (map-map kind_of (plain_field later) c.from_vec.result ∙ ap (map kind) c.from_vec.ensures ∙ kinds_later names later ps grown known.known ∙ known.kinds)
          (kept_spot names later heading.result grown known.known_result ∙ known.result);
      body_is = ap₂ (λ spots e. record { names = spots; value = e })
          (map-map name_of (plain_field later) c.from_vec.result ∙ ap (map spot) c.from_vec.ensures ∙ spots_later names later ps grown known.known ∙ known.spots ∙ ap (map (plain_spot c.args.from.now)) c.as_slice.ensures)
          c.in_ok-root.ensures.tree;
    }
