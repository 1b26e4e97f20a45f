use Rattle.ifj_table.specs.Tables.{name_text}
use Rattle.ifj_lineages.proofs.Telling.{lineage_at, no_fields, no_methods, none_above, no_clashes}
use Rattle.ifj_lineages.proofs.lineages.Lineages.lineage.Goals as goal

pub returns-in-Some : goal.returns-in-Some
returns-in-Some c = lineage_at c.args.table.now c.args.self.now c.in-Some.number (name_text c.args.table.now c.args.class.0) c.index.result.now c.requires.lineages c.in-Some.ensures c.index.ensures

pub returns-in-None : goal.returns-in-None
returns-in-None c =
    let t = c.args.table.now in
    let all = c.args.self.now in
    let class = name_text t c.args.class.0 in
    record {
      has_fields = c.empty.ensures.version;
      fields = no_fields t class c.in-None.ensures all.fields c.empty.result c.empty.ensures.says;
      has_methods = c.empty-in-None.ensures.version;
      methods = no_methods t class c.in-None.ensures all.methods c.empty-in-None.result c.empty-in-None.ensures.says;
      has_above = c.empty-in-None-2.ensures.version;
      above = none_above t class c.in-None.ensures all.above c.empty-in-None-2.result c.empty-in-None-2.ensures.says;
      has_clashes = c.empty-in-None-3.ensures.version;
      clashes = no_clashes t class c.in-None.ensures all.clashes c.empty-in-None-3.result c.empty-in-None-3.ensures.says;
    }
