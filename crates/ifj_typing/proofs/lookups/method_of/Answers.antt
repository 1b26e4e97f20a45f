use Rattle.std.proofs.Common.{refl}
use Rattle.ifj_table.specs.Entries.{plain_method}
use Rattle.ifj_table.specs.Tables.{table_names, table_nodes}
use Rattle.ifj_typing.specs.Kinds.{text_of}
use Rattle.ifj_typing.proofs.Owners.{no_heading}
use Rattle.ifj_typing.proofs.lookups.method_of.Goals as goal

pub returns-in-None-clause-found : goal.returns-in-None-clause-found
returns-in-None-clause-found c =
    let t = c.args.table.now in
    no_heading t (text_of (table_names t) c.args.class) (text_of (table_names t) c.args.method) c.in-None.ensures

pub returns-in-Some-clause-found : goal.returns-in-Some-clause-found
returns-in-Some-clause-found c =
    let t = c.args.table.now in
    record { owner = _; method = plain_method (table_names t) (table_nodes t) c.in-Some.owned.method.now; nearest = c.in-Some.ensures.nearest; has = refl }
