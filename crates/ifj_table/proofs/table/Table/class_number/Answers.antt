use Rattle.ifj_table.proofs.TableLemmas.{no_class}
use Rattle.ifj_table.proofs.table.Table.class_number.Goals as goal

pub returns-in-Ok : goal.returns-in-Ok
returns-in-Ok c = rw c.text.ensures c.in-Ok.ensures

pub returns-in-Err : goal.returns-in-Err
returns-in-Err c =
    let t = c.args.self.now in
    rw c.text.ensures (no_class t.names t.exprs t.classes.items t.held c.in-Err.field-0 c.text.result.now c.in-Err.ensures)
