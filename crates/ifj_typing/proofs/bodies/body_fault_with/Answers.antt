use Rattle.std.proofs.Common.{sym, subst}
use Rattle.std.specs.Prelude.{IfOk}
use Rattle.std.specs.declared.result.Result.{Result}
use Rattle.dj_tree.specs.declared.source.Instance.{Instance}
use Rattle.dj_calculus.specs.Instances.{IsLeast}
use Rattle.ifj_table.specs.Tables.{plain_table, table_names}
use Rattle.ifj_typing.specs.Bodies.{body_home, body_value, BreaksBody}
use Rattle.ifj_typing.specs.Kinds.{text_of, plain_kind, IsKnownKind}
use Rattle.ifj_typing.specs.Said.{Says}
use Rattle.ifj_typing.specs.declared.kind.Kind.{Kind}
use Rattle.ifj_typing.proofs.BodyFaults.{body_broken, body_sound, body_returned}
use Rattle.ifj_typing.proofs.Owners.{denied}
use Rattle.ifj_typing.proofs.OneRule.{fault}
use Rattle.ifj_typing.proofs.bodies.body_fault_with.Goals as goal

pub is_below-requires-clause-kind : goal.is_below-requires-clause-kind
is_below-requires-clause-kind c =
    let right = c.in_ok-root.ensures in
    subst (λ (r : Result Kind Instance). IfOk r (IsKnownKind (table_names c.args.table.now))) c.in-Ok.is right.known

pub returns-in-Err : goal.returns-in-Err
returns-in-Err c =
    let t = c.args.table.now in
    let home = body_home t (text_of (table_names t) c.args.class) c.args.method.now c.args.body.now in
    let e = body_value t c.args.body.now in
    let right = c.in_ok-root.ensures in
    body_broken (plain_table t) home e c.in-Err.fault (subst (Says (plain_table t) home (table_names t) e) c.in-Err.is right.says)

pub returns-then-is_below : goal.returns-then-is_below
returns-then-is_below c =
    let t = c.args.table.now in
    let home = body_home t (text_of (table_names t) c.args.class) c.args.method.now c.args.body.now in
    let e = body_value t c.args.body.now in
    let right = c.in_ok-root.ensures in
    body_sound (plain_table t) home e (plain_kind (table_names t) c.in-Ok.kind) (subst (Says (plain_table t) home (table_names t) e) c.in-Ok.is right.says) (c.is_below.ensures.0 c.if-is_below.true)

pub returns-else-is_below : goal.returns-else-is_below
returns-else-is_below c =
    let t = c.args.table.now in
    let home = body_home t (text_of (table_names t) c.args.class) c.args.method.now c.args.body.now in
    let e = body_value t c.args.body.now in
    let right = c.in_ok-root.ensures in
    rw c.instance.ensures (subst (λ at. IsLeast (BreaksBody (plain_table t) home e) (fault 21 at)) (sym right.place)
    (body_returned (plain_table t) home e (plain_kind (table_names t) c.in-Ok.kind) (subst (Says (plain_table t) home (table_names t) e) c.in-Ok.is right.says)
    (denied c.is_below.result c.is_below.ensures c.if-is_below.false)))
