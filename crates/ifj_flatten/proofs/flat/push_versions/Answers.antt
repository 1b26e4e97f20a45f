use Rattle.std.proofs.Common.{◌+◌, [], ◌∷◌, ◌++◌, take, drop, sym, ap, ◌∙◌, append_assoc, arith}
use Rattle.std.proofs.lemmas.List.{append-nil, length-map, take_all}
use Rattle.dj_tree.specs.Plain.{plain_method}
use Rattle.dj_calculus.specs.Entries.{method_entry}
use Rattle.dj_calculus.specs.FlatTables.{versions}
use Rattle.ifj_table.specs.Entries.{text_at, plain_body, plain_method as plain_kept}
use Rattle.ifj_table.specs.Tables.{plain_table}
use Rattle.ifj_flatten.proofs.Building.{made_there, made_new, made_more, made_as, version_at, many_versions, one_apart, split_at}
use Rattle.ifj_flatten.proofs.flat.push_versions.Goals as goal

pub add_method-requires-clause-there : goal.add_method-requires-clause-there
add_method-requires-clause-there c = made_there (c.versions.invariant c.requires.may.before c.requires.may.done c.requires.may.made)

pub add_method-requires-clause-absent : goal.add_method-requires-clause-absent
add_method-requires-clause-absent c =
    let may = c.requires.may in
    let method = c.args.method.now in
    let class = c.args.class.now in
    let entry = plain_kept c.args.from.now c.args.exprs.now method in
    let text = text_at c.args.from.now method.spot in
    let vs = versions class (text, entry) in
    let own = c.in_ok-own.own in
    let made = plain_method own.made.names own.made.exprs own.method in
    let here = version_at class text entry c.versions.number made c.in_ok-own.ensures.version in
    made_new (c.versions.invariant may.before may.done may.made) made.name.text (method_entry made) (drop (c.versions.number + 1) vs) (one_apart may.done vs c.versions.number made.name.text (method_entry made) may.apart here)

pub versions-init : goal.versions-init
versions-init c = λ before done made. made_as (done ++ []) made (sym (append-nil done))

pub versions-preserved : goal.versions-preserved
versions-preserved c = λ before done so_far.
    let may = c.requires.may in
    let method = c.args.method.now in
    let class = c.args.class.now in
    let entry = plain_kept c.args.from.now c.args.exprs.now method in
    let text = text_at c.args.from.now method.spot in
    let vs = versions class (text, entry) in
    let number = c.versions.number in
    let own = c.in_ok-own.own in
    let made = plain_method own.made.names own.made.exprs own.method in
    let here = version_at class text entry number made c.in_ok-own.ensures.version in
    let none = made_new (c.versions.invariant may.before may.done may.made) made.name.text (method_entry made) (drop (number + 1) vs) (one_apart may.done vs number made.name.text (method_entry made) may.apart here) in
    made_as (done ++ take (number + 1) vs)
    (made_more (c.versions.invariant before done so_far) made.name.text (method_entry made) (plain_table c.add_method.new.self.table) none c.in_ok-add_method.ensures)
    (append_assoc done (take number vs) ((made.name.text, method_entry made) ∷ []) ∙ ap (λ es. done ++ es) (sym (split_at vs number (made.name.text, method_entry made) here).more))

pub returns : goal.returns
returns c = λ before done so_far.
    let method = c.args.method.now in
    let class = c.args.class.now in
    let entry = plain_kept c.args.from.now c.args.exprs.now method in
    let text = text_at c.args.from.now method.spot in
    let vs = versions class (text, entry) in
    let many = many_versions class text entry in
    let bodies = length-map method.bodies.items (plain_body c.args.from.now c.args.exprs.now) in
    made_as (done ++ vs) (c.versions.invariant before done so_far)
    (ap (λ es. done ++ es) (take_all c.versions.number vs (omega (arith, many, bodies, c.versions-test.false, c.len-number-end.ensures, method.bodies.ok.0))))
