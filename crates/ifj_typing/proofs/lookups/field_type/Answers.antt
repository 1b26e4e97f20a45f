use Rattle.std.proofs.Common.{arith}
use Rattle.std.proofs.lemmas.Option.{slice_get_within}
use Rattle.ifj_table.specs.Tables.{table_names}
use Rattle.ifj_table.proofs.TableLemmas.{element_is}
use Rattle.ifj_typing.specs.Kinds.{text_of}
use Rattle.ifj_lineages.proofs.Owners.{not_missing, field_stands, field_held}
use Rattle.ifj_typing.proofs.Owners.{its_field_type, no_field_type}
use Rattle.ifj_typing.proofs.lookups.field_type.Goals as goal

pub returns-in-None-clause-found : goal.returns-in-None-clause-found
returns-in-None-clause-found c =
    let t = c.args.table.now in
    no_field_type t (text_of (table_names t) c.args.class) (text_of (table_names t) c.args.field) c.in-None.ensures

pub returns-in-None-class_of-clause-found : goal.returns-in-None-class_of-clause-found
returns-in-None-class_of-clause-found c =
    let is = c.in-Some.ensures in
    not_missing c.args.table.now _ is.owner is.is_owner c.in-None-class_of.ensures.found

pub index-requires : goal.index-requires
index-requires c =
    let t = c.args.table.now in
    let owner = c.in-Some-class_of.owner.now in
    let found = c.in-Some.found in
    let stands = field_stands t (text_of (table_names t) c.args.class) (text_of (table_names t) c.args.field) found owner c.in-Some.ensures c.in-Some-class_of.ensures.class in
    omega (arith, slice_get_within owner.fields.items found.place _ stands, owner.fields.ok.0)

pub returns-clause-found : goal.returns-clause-found
returns-clause-found c =
    let t = c.args.table.now in
    let owner = c.in-Some-class_of.owner.now in
    let found = c.in-Some.found in
    let stands = field_stands t (text_of (table_names t) c.args.class) (text_of (table_names t) c.args.field) found owner c.in-Some.ensures c.in-Some-class_of.ensures.class in
    let here = element_is owner.fields.items found.place c.index.result.now (slice_get_within owner.fields.items found.place _ stands) c.index.ensures in
    its_field_type t (text_of (table_names t) c.args.class) (text_of (table_names t) c.args.field) found c.in-Some.ensures c.index.result.now cc

pub returns-clause-known : goal.returns-clause-known
returns-clause-known c =
    let t = c.args.table.now in
    let owner = c.in-Some-class_of.owner.now in
    let found = c.in-Some.found in
    let stands = field_stands t (text_of (table_names t) c.args.class) (text_of (table_names t) c.args.field) found owner c.in-Some.ensures c.in-Some-class_of.ensures.class in
    let here = element_is owner.fields.items found.place c.index.result.now (slice_get_within owner.fields.items found.place _ stands) c.index.ensures in
    (field_held t _ owner found.place c.index.result.now c.in-Some-class_of.ensures.class here).kind
