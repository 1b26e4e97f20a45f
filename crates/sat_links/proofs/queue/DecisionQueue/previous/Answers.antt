use Rattle.std.proofs.Common.{◌≡◌, ◌+◌, ℕ, List, Some, Contains, slice_get, subst, sym, arith}
use Rattle.sat_links.proofs.RingLemmas.{var_within}
use Rattle.sat_links.proofs.WalkLemmas.{is_first, follows_it}
use Rattle.sat_links.proofs.queue.DecisionQueue.previous.Goals as goal

pub index-before-requires : goal.index-before-requires
index-before-requires c =
    let contains = subst (λ q. Contains q c.args.var) (sym c.self.view_is) c.requires in
    omega (arith, (var_within _ _ _ c.self.invariant contains).0, c.self.inside.ring.previous.ok.0)

pub returns-then-before-eq0 : goal.returns-then-before-eq0
returns-then-before-eq0 c =
    let contains = subst (λ q. Contains q c.args.var) (sym c.self.view_is) c.requires in
    subst (λ q. slice_get q 0 ≡ Some c.args.var) c.self.view_is (is_first _ _ _ _ c.self.invariant contains c.index-before.ensures (omega (arith, c.if-before-eq0.true)))

pub returns-else-before-eq0 : goal.returns-else-before-eq0
returns-else-before-eq0 c =
    let contains = subst (λ q. Contains q c.args.var) (sym c.self.view_is) c.requires in
    subst (λ (q : List ℕ). (k : ℕ) × (slice_get q k ≡ Some c.index-before.result.now) × (slice_get q (k + 1) ≡ Some c.args.var)) c.self.view_is (follows_it _ _ _ _ c.self.invariant contains c.index-before.ensures (λ e. omega (arith, e, c.if-before-eq0.false)))
