use Rattle.std.proofs.Common.{subst, sym}
use Rattle.std.proofs.lemmas.Result.{IfOk-weaker}
use Rattle.dj_report.specs.Places.{IsPlaceText}
use Rattle.dj_report.proofs.Texts.{java_refused}
use Rattle.dj_report.proofs.refusal.java_text.Goals as goal

pub returns : goal.returns
returns c =
    IfOk-weaker c.refused_name_text.result _ _
    (λ text says. java_refused c.args.bytes.now c.args.fault c.args.at c.deref.result.now c.java_words.result.now c.token_at-name.result.now text.items
    (subst (IsPlaceText c.args.bytes.now c.args.at) (sym c.deref.ensures) c.in_ok-place.ensures)
    c.token_at-name.ensures
    c.java_words.ensures
    says)
    c.refused_name_text.ensures
