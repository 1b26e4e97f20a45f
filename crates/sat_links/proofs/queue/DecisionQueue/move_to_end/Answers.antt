use Rattle.std.proofs.Common.{Contains, length, subst, sym, ap, ◌∙◌, arith}
use Rattle.std.proofs.lemmas.List.{length-set}
use Rattle.sat_links.specs.Queues.{moved_to_end}
use Rattle.sat_links.proofs.RingLemmas.{var_within, cut_read, last_within, linked}
use Rattle.sat_links.proofs.queue.DecisionQueue.move_to_end.Goals as goal

pub index-requires : goal.index-requires
index-requires c =
    let contains = subst (λ q. Contains q c.args.var) (sym c.self.view_is) c.requires in
    omega (arith, (var_within _ _ _ c.self.invariant contains).0, c.self.inside.ring.previous.ok.0)

pub index-requires-2 : goal.index-requires-2
index-requires-2 c =
    let contains = subst (λ q. Contains q c.args.var) (sym c.self.view_is) c.requires in
    omega (arith, (var_within _ _ _ c.self.invariant contains).1, c.self.inside.ring.next.ok.0)

pub link-requires-clause-before : goal.link-requires-clause-before
link-requires-clause-before c =
    let contains = subst (λ q. Contains q c.args.var) (sym c.self.view_is) c.requires in
    (cut_read _ _ _ _ _ c.self.invariant contains c.index.ensures c.index-2.ensures).before_in

pub link-requires-clause-after : goal.link-requires-clause-after
link-requires-clause-after c =
    let contains = subst (λ q. Contains q c.args.var) (sym c.self.view_is) c.requires in
    (cut_read _ _ _ _ _ c.self.invariant contains c.index.ensures c.index-2.ensures).after_in

pub link-requires-2-clause-before : goal.link-requires-2-clause-before
link-requires-2-clause-before c =
    let contains = subst (λ q. Contains q c.args.var) (sym c.self.view_is) c.requires in
    let cut = cut_read _ _ _ _ _ c.self.invariant contains c.index.ensures c.index-2.ensures in
    last_within _ _ _ _ _ _ _ _ cut c.link.ensures.previous c.link.ensures.next c.index-last.ensures

pub link-requires-2-clause-after : goal.link-requires-2-clause-after
link-requires-2-clause-after c =
    let contains = subst (λ q. Contains q c.args.var) (sym c.self.view_is) c.requires in
    rw (c.link.ensures.previous, length-set) (var_within _ _ _ c.self.invariant contains).0

pub link-requires-3-clause-before : goal.link-requires-3-clause-before
link-requires-3-clause-before c =
    let contains = subst (λ q. Contains q c.args.var) (sym c.self.view_is) c.requires in
    rw (c.link-2.ensures.next, length-set, c.link.ensures.next, length-set) (var_within _ _ _ c.self.invariant contains).1

pub invariant_of-self : goal.invariant_of-self
invariant_of-self c =
    let contains = subst (λ q. Contains q c.args.var) (sym c.self.view_is) c.requires in
    let cut = cut_read _ _ _ _ _ c.self.invariant contains c.index.ensures c.index-2.ensures in
    (linked _ _ _ _ _ _ _ _ _ _ _ _ c.self.invariant cut c.link.ensures.previous c.link.ensures.next c.index-last.ensures c.link-2.ensures.previous c.link-2.ensures.next c.link-3.ensures.previous c.link-3.ensures.next (length c.args.self.now) (ap length (sym c.self.view_is))).ring

pub returns-clause-moved : goal.returns-clause-moved
returns-clause-moved c =
    let contains = subst (λ q. Contains q c.args.var) (sym c.self.view_is) c.requires in
    let cut = cut_read _ _ _ _ _ c.self.invariant contains c.index.ensures c.index-2.ensures in
    (linked _ _ _ _ _ _ _ _ _ _ _ _ c.self.invariant cut c.link.ensures.previous c.link.ensures.next c.index-last.ensures c.link-2.ensures.previous c.link-2.ensures.next c.link-3.ensures.previous c.link-3.ensures.next (length c.args.self.now) (ap length (sym c.self.view_is))).is
    ∙ ap (moved_to_end c.args.var) c.self.view_is

pub returns-clause-each_once : goal.returns-clause-each_once
returns-clause-each_once c =
    let contains = subst (λ q. Contains q c.args.var) (sym c.self.view_is) c.requires in
    let cut = cut_read _ _ _ _ _ c.self.invariant contains c.index.ensures c.index-2.ensures in
    (linked _ _ _ _ _ _ _ _ _ _ _ _ c.self.invariant cut c.link.ensures.previous c.link.ensures.next c.index-last.ensures c.link-2.ensures.previous c.link-2.ensures.next c.link-3.ensures.previous c.link-3.ensures.next (length c.args.self.now) (ap length (sym c.self.view_is))).each_once
