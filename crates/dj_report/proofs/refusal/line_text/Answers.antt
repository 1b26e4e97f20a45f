use Rattle.std.proofs.Common.{subst, sym, ◌∙◌}
use Rattle.std.proofs.lemmas.Result.{IfOk-weaker}
use Rattle.dj_report.specs.Places.{IsPlaceText}
use Rattle.dj_report.proofs.Texts.{fault_refused, name_refused}
use Rattle.dj_report.proofs.refusal.line_text.Goals as goal

pub returns-then-not-takes_name : goal.returns-then-not-takes_name
returns-then-not-takes_name c =
    IfOk-weaker c.refused_text.result _ _
    (λ text says. fault_refused c.args.bytes.now c.args.fault c.args.at c.deref.result.now c.line_words.result.now text.items
    (sym c.takes_name.ensures ∙ c.if-not-takes_name.true)
    (subst (IsPlaceText c.args.bytes.now c.args.at) (sym c.deref.ensures) c.in_ok-place.ensures)
    c.line_words.ensures
    says)
    c.refused_text.ensures

pub returns : goal.returns
returns c =
    IfOk-weaker c.refused_name_text.result _ _
    (λ text says. name_refused c.args.bytes.now c.args.fault c.args.at c.deref-2.result.now c.line_words-2.result.now c.token_at-name.result.now text.items
    (sym c.takes_name.ensures ∙ c.if-not-takes_name.false)
    (subst (IsPlaceText c.args.bytes.now c.args.at) (sym c.deref-2.ensures) c.in_ok-place.ensures)
    c.token_at-name.ensures
    c.line_words-2.ensures
    says)
    c.refused_name_text.ensures
