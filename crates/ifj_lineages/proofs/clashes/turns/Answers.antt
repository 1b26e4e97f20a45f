use Rattle.ifj_table.specs.Tables.{plain_table, table_names, table_nodes, name_text}
use Rattle.ifj_table.specs.Entries.{text_at, plain_signature, plain_method}
use Rattle.ifj_lineages.proofs.Turning.{turned, never_turned}
use Rattle.ifj_lineages.proofs.clashes.turns.Goals as goal

pub returns-in-Some : goal.returns-in-Some
returns-in-Some c =
    let t = c.args.table.now in
    let owned = c.in-Some.ensures in
    turned (plain_table t) (text_at (table_names t) c.args.method.now.spot) (name_text t c.args.class.0) owned.name (plain_signature (table_names t) c.args.method.now)
    (plain_method (table_names t) (table_nodes t) c.in-Some.owned.method.now) owned.nearest c.same_signature.result c.same_signature.ensures

pub returns-in-None : goal.returns-in-None
returns-in-None c =
    let t = c.args.table.now in
    never_turned (plain_table t) (text_at (table_names t) c.args.method.now.spot) (name_text t c.args.class.0) (plain_signature (table_names t) c.args.method.now) c.in-None.ensures
