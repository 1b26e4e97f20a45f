use Rattle.std.proofs.Common.{inr, take, get_or, sym, ◌∙◌, subst, arith}
use Rattle.std.specs.Prelude.{All}
use Rattle.std.proofs.lemmas.Bool.{eqb-true}
use Rattle.std.proofs.lemmas.List.{take_more, take_all}
use Rattle.std.proofs.lemmas.List.Elements.{All-nil, All-push}
use Rattle.ifj_table.specs.Tables.{table_names, table_nodes}
use Rattle.ifj_flatten.proofs.NoMethods.{HasNone, no_length, no_methods}
use Rattle.ifj_flatten.proofs.tests.has_no_methods.Goals as goal

pub loop-class-init : goal.loop-class-init
loop-class-init c = All-nil HasNone

pub loop-class-preserved : goal.loop-class-preserved
loop-class-preserved c =
    let classes = c.classes-classes.result.now in
    let class = c.class-item.result in
    let at = c.loop-class.class-index in
    let count = eqb-true _ 0 (sym c.if-not-is_empty.ensures) in
    let none : HasNone class = no_length class.methods.items (omega (arith, count, class.methods.ok.0)) in
    subst (All HasNone) (sym (take_more classes at class c.loop-class-test.true)) (All-push HasNone (take at classes) (get_or classes at class) c.loop-class.invariant (subst HasNone c.class-item.is none))

pub returns : goal.returns
returns c = λ _.
    let t = c.args.table.now in
    let classes = c.classes-classes.result.now in
    let all = subst (All HasNone) (take_all c.loop-class.class-index classes c.loop-class-test.false ∙ c.classes-classes.ensures.classes) c.loop-class.invariant in
    inr (no_methods (table_names t) (table_nodes t) t.classes.items t.held all)
