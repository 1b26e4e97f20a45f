use Rattle.std.proofs.lemmas.Bool.{false≢true}
use Rattle.std.proofs.Common.{◌+◌, refl, ◌≡◌, ◌<◌, Some, length, slice_get, ap, subst, sym, ◌∙◌, arith}
use Rattle.ifj_table.proofs.TableLemmas.{element_is}
use Rattle.ifj_lineages.proofs.Turning.{AreNames, name_pushed, name_passed}
use Rattle.ifj_lineages.proofs.clashes.turning_names.Goals.{then-turns+in_ok-push, else-turns}
use Rattle.ifj_lineages.proofs.clashes.turning_names.Goals as goal

pub loop-method-preserved : goal.loop-method-preserved
loop-method-preserved c =
    let t = c.args.table.now in
    let class = c.args.class.now in
    let n = c.loop-method.method-index in
    let method = c.method-item.result in
    let low : n < length class.methods.items = omega (arith, ap length c.deref-method-items.ensures.value) in
    let here : slice_get class.methods.items n ≡ Some method = element_is class.methods.items n method low (rw c.deref-method-items.ensures.value at c.method-item.is) in
    elim c.if-turns.branch [
      | then-turns+in_ok-push w ↦
          subst (λ names. AreNames t class names (n + 1)) (sym (ap (λ v. v.items) w.names-is ∙ (w.push.ensures.items ∙ rw w.in_ok-push.was refl)))
          (name_pushed t class c.loop-method.names.items n method here c.loop-method.invariant (c.turns.ensures.0 w.if-turns.true))
      | else-turns w ↦
          subst (λ names. AreNames t class names (n + 1)) (sym (ap (λ v. v.items) w.names-is))
          (name_passed t class c.loop-method.names.items n method here c.loop-method.invariant (λ turns. false≢true (sym w.if-turns.false ∙ c.turns.ensures.1 turns)))
    ]

pub returns : goal.returns
returns c =
    let end : c.loop-method.method-index ≡ length c.args.class.now.methods.items = omega (arith, ap length c.deref-method-items.ensures.value) in
    subst (AreNames c.args.table.now c.args.class.now c.loop-method.names.items) end c.loop-method.invariant
