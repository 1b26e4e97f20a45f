use Rattle.std.proofs.Common.{◌<◌, length, ap, subst, arith}
use Rattle.ifj_table.specs.Tables.{table_names}
use Rattle.dj_names.specs.Texts.{AreDistinct}
use Rattle.ifj_typing.proofs.LastNamed.{parameter_next}
use Rattle.ifj_typing.proofs.parameters.parameter_types.Goals as goal

pub loop-number-preserved : goal.loop-number-preserved
loop-number-preserved c =
    let names = table_names c.args.table.now in
    let spots = c.args.body.now.parameters in
    let types = c.args.method.now.parameters in
    let n = c.loop-number.number in
    let low : n < length spots = omega (arith, ap length c.as_slice-name-items.ensures) in
    let also : n < length types = omega (arith, low, c.requires.body.count) in
    let updates = rw (c.as_slice-name-items.ensures, c.as_slice-types.ensures) at c.in_ok-insert.ensures.updates.0 in
    parameter_next names (subst AreDistinct c.names.ensures c.names_are_distinct.ensures) spots types n _ _ low also c.loop-number.found c.insert.new.self
    (c.requires.body.parameters n _ low) (c.requires.method.parameters n _ also) updates c.loop-number.invariant
