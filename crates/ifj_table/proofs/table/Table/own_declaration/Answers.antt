use Rattle.std.proofs.Common.{◌≡◌, List, length, map, refl, sym, ap, ap₂, ◌∙◌, subst, arith}
use Rattle.std.specs.Prelude.{All}
use Rattle.std.proofs.lemmas.List.{length-map}
use Rattle.std.proofs.lemmas.Simd.{map-map}
use Rattle.dj_tree.specs.Trees as plain
use Rattle.dj_tree.specs.Plain.{plain_spot, plain_field}
use Rattle.dj_tree.specs.WellFormed.{IsKnown}
use Rattle.dj_tree.specs.declared.declarations.FieldDecl.{FieldDecl}
use Rattle.dj_calculus.specs.Expressions.{IsExpression}
use Rattle.ifj_table.proofs.OwnNames.{later_spots, later_known}
use Rattle.ifj_table.proofs.table.Table.own_declaration.Goals as goal

pub returns-clause-types : goal.returns-clause-types
returns-clause-types c =
    let names = c.own_parameters.new.self.names in
    let later = c.copy_expr.new.self.names in
    ap (map (plain_spot later)) c.from_vec.ensures ∙ later_spots names later c.in_ok-parameters.parameters.types.items c.copy_expr.ensures.numbers c.in_ok-parameters.ensures.own_types
    ∙ c.in_ok-parameters.ensures.types ∙ ap (map (λ (p : FieldDecl). plain_spot c.args.from.now p.kind)) c.as_slice.ensures
    ∙ sym (map-map (λ (p : plain.Field). p.kind) (plain_field c.args.from.now) c.args.method.now.parameters)

pub returns-clause-body : goal.returns-clause-body
returns-clause-body c =
    let names = c.own_parameters.new.self.names in
    let later = c.copy_expr.new.self.names in
    ap₂ (λ spots e. record { names = spots; value = e })
    (ap (map (plain_spot later)) c.from_vec-2.ensures ∙ later_spots names later c.in_ok-parameters.parameters.names.items c.copy_expr.ensures.numbers c.in_ok-parameters.ensures.own_names
    ∙ c.in_ok-parameters.ensures.names ∙ ap (map (λ (p : FieldDecl). plain_spot c.args.from.now p.spot)) c.as_slice.ensures
    ∙ sym (map-map (λ (p : plain.Field). p.name) (plain_field c.args.from.now) c.args.method.now.parameters))
    c.in_ok-root.ensures.tree

pub returns-clause-own_types : goal.returns-clause-own_types
returns-clause-own_types c =
    subst (All (IsKnown c.copy_expr.new.self.names)) (sym c.from_vec.ensures)
    (later_known c.own_parameters.new.self.names c.copy_expr.new.self.names c.in_ok-parameters.parameters.types.items c.copy_expr.ensures.numbers c.in_ok-parameters.ensures.own_types)

pub returns-clause-own_body : goal.returns-clause-own_body
returns-clause-own_body c =
    let names = c.own_parameters.new.self.names in
    let later = c.copy_expr.new.self.names in
    let types = c.in_ok-parameters.parameters.types.items in
    let tags = c.in_ok-parameters.parameters.names.items in
    let ps = c.as_slice.result.now in
    let many_types : length types ≡ length ps =
    sym (length-map types (plain_spot names)) ∙ ap length c.in_ok-parameters.ensures.types ∙ length-map ps (λ (p : FieldDecl). plain_spot c.args.from.now p.kind) in
    let many_names : length tags ≡ length ps =
    sym (length-map tags (plain_spot names)) ∙ ap length c.in_ok-parameters.ensures.names ∙ length-map ps (λ (p : FieldDecl). plain_spot c.args.from.now p.spot) in
    record {
      parameters = subst (All (IsKnown later)) (sym c.from_vec-2.ensures) (later_known names later tags c.copy_expr.ensures.numbers c.in_ok-parameters.ensures.own_names);
      count = ap length c.from_vec-2.ensures ∙ many_names ∙ sym many_types ∙ sym (ap length c.from_vec.ensures);
      root = c.in_ok-root.ensures.own;
      expression = subst (λ e. IsExpression e) (sym c.in_ok-root.ensures.tree) c.requires.expression;
    }
