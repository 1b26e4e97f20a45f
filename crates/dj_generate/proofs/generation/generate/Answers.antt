use Rattle.dj_line.specs.Lines.{plain_line}
use Rattle.ifj_table.specs.Tables.{plain_table}
use Rattle.dj_calculus.specs.FlatTables.{flat}
use Rattle.dj_generate.proofs.FromProducts.{generated}
use Rattle.dj_generate.proofs.generation.generate.Goals as goal

pub flatten-requires : goal.flatten-requires
flatten-requires c =
    let source = plain_line c.args.line.now in
    let chosen = c.args.config.now.chosen.items in
    let t = plain_table c.in_ok-table.table in
    record { flattenable = (c.flattenable_products.ensures.flattenable source chosen t c.source.ensures.laid c.source.ensures.accepted c.in_ok-table.ensures.product).1 }

pub returns-clause-generated : goal.returns-clause-generated
returns-clause-generated c =
    let source = plain_line c.args.line.now in
    let chosen = c.args.config.now.chosen.items in
    let t = plain_table c.in_ok-table.table in
    let laid = c.source.ensures.laid in
    let accepted = c.source.ensures.accepted in
    let product = c.in_ok-table.ensures.product in
    let typed = c.in_ok-table.ensures.typed in
    let shape = c.flattenable_products.ensures.flattenable source chosen t laid accepted product in
    generated source chosen t (plain_table c.in_ok-flat.flat) c.in_ok-text.text.items c.in_ok-table.ensures.good product typed
    c.in_ok-flat.ensures (c.flat_tables.ensures.well_typed t shape.0 shape.1 typed) c.in_ok-text.ensures
    (λ u. c.texts_read_back.ensures (flat t) u (c.flat_products_are_writable.ensures source chosen t laid accepted product))
