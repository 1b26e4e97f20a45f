use Rattle.std.proofs.Common.{◌≡◌, ℕ, ◌+◌, ◌-◌, [], ◌∷◌, ◌++◌, length, take, drop, sym, ap, ◌∙◌, subst, length-take, arith}
use Rattle.std.proofs.lemmas.List.{same_from_push, drop_all}
use Rattle.arena_walk.specs.Tree.{over}
use Rattle.arena_walk.specs.Forest.{first_number}
use Rattle.arena_walk.proofs.TreeLemmas.{EachNode-from}
use Rattle.arena_walk.proofs.ForestLemmas.{nodes_to}
use Rattle.arena_walk.proofs.SlotLemmas.{same_first, size_within}
use Rattle.arena_walk.proofs.WalkLemmas.{along_start, along_enough, along_kids, along_next, along_end, along_at, along_with, next_node, numbers_all, tells-same, told_more, told_none, OnErr-always}
use Rattle.arena_walk.proofs.visit.walk.Goals as goal

pub loop-number-init : goal.loop-number-init
loop-number-init g c =
    let arity = g.N.Shape.arity_of in
    let ns = c.args.arena.now in
    let root = c.args.root.0 in
    let v = c.args.visitor.now in
    let first = c.first-number.result.0 in
    record {
      grew = g.met.V.Visit.grew_reflexive v;
      along = λ t is.
          let same = same_first arity ns root first t is c.first-number.ensures.tree in
          let rest = ap (λ (k : ℕ). drop k (take (root + 1) ns)) same ∙ nodes_to arity ns root t is in
          along_with arity (g.V.Visit.stands v) (g.V.Visit.admits v) t first (drop first (take (root + 1) ns)) [] c.new-outs.result.items (sym c.new-outs.ensures.items)
          (along_start arity (g.V.Visit.stands v) (g.V.Visit.admits v) t first (drop first (take (root + 1) ns))
          (EachNode-from _ (first_number root t) first t (sym same) (c.first-number.ensures.whole t is))
          (EachNode-from _ (first_number root t) first t (sym same) (c.requires.admitted t is)) rest);
      told = λ t is. told_none (g.V.Visit.visited v) (first_number root t) first t (same_first arity ns root first t is c.first-number.ensures.tree);
    }

pub visit_node-requires-clause-enough : goal.visit_node-requires-clause-enough
visit_node-requires-clause-enough g c =
    let ns = c.args.arena.now in
    let root = c.args.root.0 in
    let at = c.loop-number.number in
    let v = c.loop-number.visitor in
    let tree = c.first-number.ensures.tree in
    let next = next_node ns (root + 1) at c.get.result.now c.get.ensures.node c.loop-number-test.true in
    along_enough g.N.Shape.arity_of (g.V.Visit.stands v) (g.V.Visit.admits c.args.visitor.now) tree.0 at c.get.result.now (drop (at + 1) (take (root + 1) ns)) c.loop-number.outs.items
    (along_at g.N.Shape.arity_of (g.V.Visit.stands v) (g.V.Visit.admits c.args.visitor.now) tree.0 at _ _ c.loop-number.outs.items next (c.loop-number.invariant.along tree.0 tree.1))

pub visit_node-requires-clause-admitted : goal.visit_node-requires-clause-admitted
visit_node-requires-clause-admitted g c =
    let ns = c.args.arena.now in
    let root = c.args.root.0 in
    let at = c.loop-number.number in
    let v = c.loop-number.visitor in
    let tree = c.first-number.ensures.tree in
    let next = next_node ns (root + 1) at c.get.result.now c.get.ensures.node c.loop-number-test.true in
    let kids = along_kids g.N.Shape.arity_of (g.V.Visit.stands v) (g.V.Visit.admits c.args.visitor.now) tree.0 at c.get.result.now (drop (at + 1) (take (root + 1) ns)) c.loop-number.outs.items
    (along_at g.N.Shape.arity_of (g.V.Visit.stands v) (g.V.Visit.admits c.args.visitor.now) tree.0 at _ _ c.loop-number.outs.items next (c.loop-number.invariant.along tree.0 tree.1)) in
    (kids.0, kids.1, g.met.V.Visit.still_admits c.args.visitor.now v (over c.get.result.now kids.0) at c.loop-number.invariant.grew kids.2)

pub returns-in_err-visit_node-clause-visited_some : goal.returns-in_err-visit_node-clause-visited_some
returns-in_err-visit_node-clause-visited_some g c =
    OnErr-always c.from_residual.result _ (λ t is.
    let root = c.args.root.0 in
    let first = same_first g.N.Shape.arity_of c.args.arena.now root c.first-number.result.0 t is c.first-number.ensures.tree in
    let within = size_within g.N.Shape.arity_of c.args.arena.now root t is in (
      c.loop-number.number + 1 - first_number root t,
      omega arith,
      told_more (g.V.Visit.visited c.args.visitor.now) (g.V.Visit.visited c.loop-number.visitor) _ (first_number root t) c.loop-number.number t (omega arith) (omega arith)
          (c.loop-number.invariant.told t is) c.in_err-visit_node.ensures.appended,
    ))

pub loop-number-preserved : goal.loop-number-preserved
loop-number-preserved g c =
    let arity = g.N.Shape.arity_of in
    let ns = c.args.arena.now in
    let root = c.args.root.0 in
    let at = c.loop-number.number in
    let v = c.loop-number.visitor in
    let w = c.visit_node.new.visitor in
    let n = c.get.result.now in
    let done = c.in_ok-visit_node.ensures.ok in
    let old = g.V.Visit.admits c.args.visitor.now in
    record {
      grew = g.met.V.Visit.grew_transitive c.args.visitor.now v w c.loop-number.invariant.grew c.visit_node.ensures.grew;
      along = λ t is.
          let next = next_node ns (root + 1) at n c.get.ensures.node c.loop-number-test.true in
          along_with arity (g.V.Visit.stands w) old t (at + 1) (drop (at + 1) (take (root + 1) ns)) _ c.visit_node.new.outs.items (sym done.1)
          (along_next arity (g.V.Visit.stands v) (g.V.Visit.stands w) old t at n (drop (at + 1) (take (root + 1) ns)) c.loop-number.outs.items done.0
          (along_at arity (g.V.Visit.stands v) old t at _ _ c.loop-number.outs.items next (c.loop-number.invariant.along t is))
          (λ u o. g.met.V.Visit.still_stands v w u o c.visit_node.ensures.grew)
          (λ kids stand admitted. done.2 kids stand (g.met.V.Visit.still_admits c.args.visitor.now v (over n kids) at c.loop-number.invariant.grew admitted)));
      told = λ t is.
          let first = same_first arity ns root c.first-number.result.0 t is c.first-number.ensures.tree in
          let within = size_within arity ns root t is in
          told_more (g.V.Visit.visited c.args.visitor.now) (g.V.Visit.visited v) (g.V.Visit.visited w) (first_number root t) at t (omega arith) (omega arith)
          (c.loop-number.invariant.told t is) c.visit_node.ensures.appended;
    }

pub unwrap-requires : goal.unwrap-requires
unwrap-requires g c =
    let ns = c.args.arena.now in
    let root = c.args.root.0 in
    let v = c.loop-number.visitor in
    let tree = c.first-number.ensures.tree in
    let end = along_end g.N.Shape.arity_of (g.V.Visit.stands v) (g.V.Visit.admits c.args.visitor.now) tree.0 c.loop-number.number _ c.loop-number.outs.items
    (drop_all c.loop-number.number (take (root + 1) ns) (omega (arith, length-take (root + 1) ns))) (c.loop-number.invariant.along tree.0 tree.1) in
    c.pop.ensures.variant.1 (omega (arith, c.loop-number.outs.ok.0, ap length end.1))

pub returns-clause-ok : goal.returns-clause-ok
returns-clause-ok g c = λ t is.
    let ns = c.args.arena.now in
    let root = c.args.root.0 in
    let v = c.loop-number.visitor in
    let end = along_end g.N.Shape.arity_of (g.V.Visit.stands v) (g.V.Visit.admits c.args.visitor.now) t c.loop-number.number _ c.loop-number.outs.items
    (drop_all c.loop-number.number (take (root + 1) ns) (omega (arith, length-take (root + 1) ns))) (c.loop-number.invariant.along t is) in
    let popped : c.loop-number.outs.items ≡ c.pop.new.self.items ++ c.unwrap.result ∷ [] = cc in
    let same = same_from_push [] c.pop.new.self.items end.0 c.unwrap.result (sym end.1 ∙ popped) in
    subst (λ out. g.V.Visit.stands v t out) same.1 end.2

pub returns-clause-visited_all : goal.returns-clause-visited_all
returns-clause-visited_all g c = λ t is.
    let root = c.args.root.0 in
    let within = size_within g.N.Shape.arity_of c.args.arena.now root t is in
    tells-same (g.V.Visit.visited c.args.visitor.now) (g.V.Visit.visited c.loop-number.visitor) _ _
    (numbers_all (first_number root t) (c.loop-number.number - first_number root t) t (omega arith)) (c.loop-number.invariant.told t is)
