use Rattle.std.proofs.Common.{List, [], ◌++◌, sym, ap}
use Rattle.std.specs.List.{flat_map}
use Rattle.std.proofs.lemmas.List.{append-nil, take_all}
use Rattle.dj_calculus.specs.FlatTables.{versions}
use Rattle.ifj_table.specs.Entries.{text_at, plain_method}
use Rattle.ifj_table.specs.Sorted.{pairs_of}
use Rattle.ifj_table.specs.Tables.{plain_table}
use Rattle.ifj_table.specs.declared.entry.MethodEntry.{MethodEntry}
use Rattle.ifj_table.proofs.TableLemmas.{element_is}
use Rattle.ifj_flatten.proofs.Building.{made_as}
use Rattle.ifj_flatten.proofs.Flattened.{versions_more, methods_follow}
use Rattle.ifj_flatten.proofs.flat.push_methods.Goals as goal

pub push_versions-requires-clause-may : goal.push_versions-requires-clause-may
push_versions-requires-clause-may c =
    let method = c.method-item.result in
    let here = element_is c.args.methods.now c.loop-method.method-index method c.loop-method-test.true c.method-item.is in
    methods_follow c.args.from.now c.args.exprs.now c.args.class.now c.args.methods.now c.loop-method.method-index method here (plain_table c.args.flat.now.table) (plain_table c.loop-method.flat.table) c.requires.may c.loop-method.invariant

pub loop-method-init : goal.loop-method-init
loop-method-init c = λ before done made. made_as (done ++ []) made (sym (append-nil done))

pub loop-method-preserved : goal.loop-method-preserved
loop-method-preserved c = λ before done so_far.
    let method = c.method-item.result in
    let here = element_is c.args.methods.now c.loop-method.method-index method c.loop-method-test.true c.method-item.is in
    made_as _ (c.in_ok-push_versions.ensures before _ (c.loop-method.invariant before done so_far))
    (versions_more c.args.from.now c.args.exprs.now c.args.class.now c.args.methods.now c.loop-method.method-index method here done)

pub returns : goal.returns
returns c = λ before done so_far.
    let names = c.args.from.now in
    made_as _ (c.loop-method.invariant before done so_far)
    (ap (λ (ms : List MethodEntry). done ++ flat_map (versions c.args.class.now) (pairs_of (λ m. text_at names m.spot) (plain_method names c.args.exprs.now) ms)) (take_all c.loop-method.method-index c.args.methods.now c.loop-method-test.false))
