use Rattle.std.proofs.Common.{rules}
use Rattle.std.proofs.lemmas.List.{append_assoc}
use Rattle.std.proofs.lemmas.Result.{IfOk-equal}
use Rattle.ifj_table.specs.Entries.{text_at, plain_field, plain_method}
use Rattle.java_text.proofs.Lines.{entries_are}
use Rattle.java_text.proofs.table.push_class.Goals as goal

pub returns : goal.returns
returns c =
    let names = c.args.names.now in
    let exprs = c.args.exprs.now in
    let class = c.args.class.now in
    let fields = entries_are (λ f. text_at names f.spot) (plain_field names) class.fields.items c.requires.class.rising_fields in
    let methods = entries_are (λ m. text_at names m.spot) (plain_method names exprs) class.methods.items c.requires.class.rising_methods in
    rw (fields, methods, ← c.as_slice.ensures.value, ← c.as_slice-2.ensures.value) (search (rules, IfOk-equal, append_assoc))
