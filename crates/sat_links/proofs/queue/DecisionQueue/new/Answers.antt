use Rattle.std.proofs.Common.{◌≡◌, ◌∷◌, [], ◌++◌, ◌+◌, ap, ◌∙◌, sym, arith}
use Rattle.std.specs.List.{range_with_len}
use Rattle.sat_links.proofs.RingLemmas.{range_more, ring_in_order}
use Rattle.sat_links.proofs.queue.DecisionQueue.new.Goals as goal

pub loop-var-preserved : goal.loop-var-preserved
loop-var-preserved c =
    let var = c.loop-var.var in
    let previous : c.push-in-loop-var.new.self.items ≡ c.loop-var.previous.items ++ var ∷ [] = c.in_ok-push-2.ensures.items in
    let next : c.push-in-loop-var-2.new.self.items ≡ c.loop-var.next.items ++ (var + 1) ∷ [] = c.in_ok-push-3.ensures.items in (
      previous ∙ ap (λ l. l ++ var ∷ []) c.loop-var.invariant.0 ∙ ap (λ l. c.args.vars ∷ l) (ap (λ n. range_with_len 0 var ++ n ∷ []) (omega arith) ∙ sym (range_more 0 var)),
      next ∙ ap (λ l. l ++ (var + 1) ∷ []) c.loop-var.invariant.1 ∙ ap (λ n. range_with_len 1 var ++ n ∷ []) (omega arith) ∙ sym (range_more 1 var),
    )

pub invariant_of-result : goal.invariant_of-result
invariant_of-result c =
    let whole : c.loop-var.var ≡ c.args.vars = omega arith in
    (ring_in_order c.args.vars c.loop-var.previous.items c.push-2.new.self.items
    (c.loop-var.invariant.0 ∙ ap (λ n. c.args.vars ∷ range_with_len 0 n) whole)
    (c.in_ok-push-4.ensures.items ∙ ap (λ l. l ++ 0 ∷ []) (c.loop-var.invariant.1 ∙ ap (range_with_len 1) whole))).ring

pub returns : goal.returns
returns c =
    let whole : c.loop-var.var ≡ c.args.vars = omega arith in
    (ring_in_order c.args.vars c.loop-var.previous.items c.push-2.new.self.items
    (c.loop-var.invariant.0 ∙ ap (λ n. c.args.vars ∷ range_with_len 0 n) whole)
    (c.in_ok-push-4.ensures.items ∙ ap (λ l. l ++ 0 ∷ []) (c.loop-var.invariant.1 ∙ ap (range_with_len 1) whole))).is
