use Rattle.std.proofs.Common.{◌≡◌, [], slice_get, Some, sym, ap, ◌∙◌, subst, arith}
use Rattle.std.specs.Prelude.{unwrap_or}
use Rattle.std.specs.FinMap.{get}
use Rattle.ifj_table.specs.Entries.{classes_of, plain_class}
use Rattle.ifj_table.proofs.TableLemmas.{class_key, class_at, class_read, no_class, place_within, element_is}
use Rattle.ifj_table.proofs.table.Table.class_named.Goals as goal

pub index-requires : goal.index-requires
index-requires c =
    let t = c.args.self.now in
    omega (arith, place_within (class_key t.names) t.classes.items c.in-Ok.at c.args.class.now c.in-Ok.ensures, t.classes.ok.0)

pub returns-in-Ok-clause-found : goal.returns-in-Ok-clause-found
returns-in-Ok-clause-found c =
    let t = c.args.self.now in
    (class_read t.names t.exprs t.classes.items t.held c.in-Ok.at c.args.class.now c.index.result.now c.in-Ok.ensures c.index.ensures)

pub returns-in-Ok-clause-class : goal.returns-in-Ok-clause-class
returns-in-Ok-clause-class c =
    let t = c.args.self.now in
    let it = class_at t.names t.exprs t.classes.items t.held c.in-Ok.at c.args.class.now c.in-Ok.ensures in
    let stands = element_is t.classes.items c.in-Ok.at c.index.result.now (place_within (class_key t.names) t.classes.items c.in-Ok.at c.args.class.now c.in-Ok.ensures) c.index.ensures in
    let same : it.0 ≡ c.index.result.now = cc in
    record {
      number = c.in-Ok.at;
      stands = stands;
      named = ap (class_key t.names) (sym same) ∙ it.2;
    }

pub returns-in-Err-clause-found : goal.returns-in-Err-clause-found
returns-in-Err-clause-found c =
    let t = c.args.self.now in
    (no_class t.names t.exprs t.classes.items t.held c.in-Err.field-0 c.args.class.now c.in-Err.ensures)
