use Rattle.std.proofs.Common.{subst, sym, ◌∙◌, arith}
use Rattle.std.proofs.lemmas.Result.{IfOk-weaker}
use Rattle.dj_report.specs.Places.{IsPlaceText}
use Rattle.dj_report.proofs.RuleLines.{told_at_one, told_at_two}
use Rattle.dj_report.proofs.rules.rule_text.Goals as goal

pub returns-then-instance-ne1 : goal.returns-then-instance-ne1
returns-then-instance-ne1 c =
    let bytes = c.args.bytes.now in
    let instance = c.args.instance.now in
    IfOk-weaker c.one_place_text.result _ _
    (λ text says. told_at_one bytes instance c.deref.result.now c.rule_words-words.result.now c.token_at-name.result.now c.deref-then-instance-ne1.result.now text.items
    (c.deref.ensures ∙ c.in_ok-number.ensures)
    c.rule_words-words.ensures
    (λ e. omega (arith, e, c.if-instance-ne1.true))
    c.token_at-name.ensures
    (subst (IsPlaceText bytes instance.at) (sym c.deref-then-instance-ne1.ensures) c.in_ok-place.ensures)
    says)
    c.one_place_text.ensures

pub returns : goal.returns
returns c =
    let bytes = c.args.bytes.now in
    let instance = c.args.instance.now in
    IfOk-weaker c.two_places_text.result _ _
    (λ text says. told_at_two bytes instance c.deref-2.result.now c.rule_words-words.result.now c.token_at-name.result.now c.deref-3.result.now c.deref-4.result.now text.items
    (c.deref-2.ensures ∙ c.in_ok-number.ensures)
    c.rule_words-words.ensures
    (omega (arith, c.if-instance-ne1.false))
    c.token_at-name.ensures
    (subst (IsPlaceText bytes instance.at) (sym c.deref-3.ensures) c.in_ok-place.ensures)
    (subst (IsPlaceText bytes instance.second) (sym c.deref-4.ensures) c.in_ok-second.ensures)
    says)
    c.two_places_text.ensures
