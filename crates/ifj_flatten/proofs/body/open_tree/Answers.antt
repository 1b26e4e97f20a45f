use Rattle.std.proofs.Common.{◌≡◌, ◌-◌, ◌<◌, arith}
use Rattle.std.specs.Prelude.{OnOk, Result, Ok, Err}
use Rattle.arena_walk.proofs.SlotLemmas.{room_before}
use Rattle.dj_tree.specs.Arities.{expr_arity}
use Rattle.ifj_flatten.proofs.Opening.{parts, is_node, opening_none, opening_more, opened}
use Rattle.ifj_flatten.proofs.body.open_tree.Goals as goal

pub parts-init : goal.parts-init
parts-init c =
    let exprs = c.args.exprs.now in
    let node = c.get-node.result.now in
    opening_none exprs c.args.at.0 node (is_node exprs c.args.at.0 node c.get-node.ensures.node c.get-node.ensures.tree) c.args.pieces.now c.push.new.self c.in_ok-push.ensures.ok

pub overflow_sub-part : goal.overflow_sub-part
overflow_sub-part c =
    let exprs = c.args.exprs.now in
    let at = c.args.at.0 in
    let node = c.get-node.result.now in
    let is = is_node exprs at node c.get-node.ensures.node c.get-node.ensures.tree in
    room_before expr_arity exprs at node (parts exprs at) c.parts.behind c.parts.end is.tree (omega (arith, is.many, c.parts-test.true, c.arity-behind-end.ensures)) c.parts.invariant.place

pub parts-preserved : goal.parts-preserved
parts-preserved c =
    let exprs = c.args.exprs.now in
    let at = c.args.at.0 in
    let node = c.get-node.result.now in
    let is = is_node exprs at node c.get-node.ensures.node c.get-node.ensures.tree in
    let low : c.parts.behind < _ = omega (arith, is.many, c.parts-test.true, c.arity-behind-end.ensures) in
    let some = room_before expr_arity exprs at node (parts exprs at) c.parts.behind c.parts.end is.tree low c.parts.invariant.place in
    opening_more exprs at node is c.parts.behind c.parts.end (c.parts.end - 1) c.first-end.result.0 c.args.pieces.now c.parts.pieces c.push-in-parts.new.self c.parts.invariant low (omega (arith, some)) c.first-end.ensures.tree c.in_ok-push-2.ensures.ok

pub returns : goal.returns
returns c =
    let exprs = c.args.exprs.now in
    let at = c.args.at.0 in
    let node = c.get-node.result.now in
    let is = is_node exprs at node c.get-node.ensures.node c.get-node.ensures.tree in
    let all : c.parts.behind ≡ expr_arity node = omega (arith, c.parts-test.false, c.parts.auto.behind-end, c.arity-behind-end.ensures) in
    both c.push_receiver.result c.push_receiver.ensures.same c.push_receiver.ensures.work
    (λ same work. opened exprs at node is c.parts.behind c.parts.end c.args.pieces.now c.parts.pieces c.push_receiver.new.pieces c.parts.invariant all same (work exprs))
  where
    both : {X E : Type 0} {P Q R : Type 0} (r : Result X E) → OnOk r P → OnOk r Q → (P → Q → R) → OnOk r R
    both (Ok x) p q f = f p q
    both (Err e) p q f = tt
