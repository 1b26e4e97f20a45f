use Rattle.std.proofs.Common.{◌≡◌, subst, arith}
use Rattle.std.proofs.lemmas.Option.{slice_get_within}
use Rattle.ifj_table.specs.Tables.{plain_table, table_names, table_nodes, name_text}
use Rattle.ifj_table.specs.Entries.{plain_method}
use Rattle.dj_calculus.specs.Subclasses.{NearestMethod}
use Rattle.ifj_table.specs.declared.entry.MethodEntry.{MethodEntry}
use Rattle.ifj_table.proofs.TableLemmas.{element_is}
use Rattle.ifj_lineages.proofs.Owners.{not_missing, method_stands, method_held}
use Rattle.ifj_lineages.proofs.owned.owned_method.Goals as goal

pub returns-in-None-class_of : goal.returns-in-None-class_of
returns-in-None-class_of c =
    let is = c.in-Some.ensures in
    not_missing c.args.table.now _ is.owner is.is_owner c.in-None-class_of.ensures.found

pub index-requires : goal.index-requires
index-requires c =
    let t = c.args.table.now in
    let owner = c.in-Some-class_of.owner.now in
    let found = c.in-Some.found in
    let stands = method_stands t (name_text t c.args.class.0) (name_text t c.args.method.0) found owner c.in-Some.ensures c.in-Some-class_of.ensures.class in
    omega (arith, slice_get_within owner.methods.items found.place _ stands, owner.methods.ok.0)

pub returns : goal.returns
returns c =
    let t = c.args.table.now in
    let owner = c.in-Some-class_of.owner.now in
    let found = c.in-Some.found in
    let is = c.in-Some.ensures in
    let stands = method_stands t (name_text t c.args.class.0) (name_text t c.args.method.0) found owner is c.in-Some-class_of.ensures.class in
    let here = element_is owner.methods.items found.place c.index.result.now (slice_get_within owner.methods.items found.place _ stands) c.index.ensures in
    let same : is.entry ≡ c.index.result.now = cc in
    record {
      name = name_text t found.owner.0;
      owner_named = c.in-Some-class_of.ensures.class;
      nearest = subst (λ (m : MethodEntry). NearestMethod (plain_table t) (name_text t c.args.class.0) (name_text t c.args.method.0) (name_text t found.owner.0) (plain_method (table_names t) (table_nodes t) m)) same is.nearest;
      held = method_held t _ owner found.place c.index.result.now c.in-Some-class_of.ensures.class here;
    }
