use Rattle.std.proofs.Common.{subst, sym}
use Rattle.std.proofs.lemmas.Result.{IfOk-weaker}
use Rattle.dj_report.specs.Places.{IsPlaceText}
use Rattle.dj_report.proofs.Texts.{length_refused, tokens_refused, syntax_refused}
use Rattle.dj_report.proofs.refusal.refusal_text.Goals as goal

pub returns-in-TooLong : goal.returns-in-TooLong
returns-in-TooLong c =
    rw c.in-TooLong.is (IfOk-weaker c.joined.result _ _ (λ text says. length_refused c.args.bytes.now text.items says) c.joined.ensures)

pub returns-in_ok-place-in-Lex : goal.returns-in_ok-place-in-Lex
returns-in_ok-place-in-Lex c =
    rw c.in-Lex.is (IfOk-weaker c.refused_text.result _ _
    (λ text says. tokens_refused c.args.bytes.now c.in-Lex.fault c.lex_place.result c.deref.result.now c.lex_words.result.now text.items
    c.lex_place.ensures
    (subst (IsPlaceText c.args.bytes.now c.lex_place.result) (sym c.deref.ensures) c.in_ok-place-in-Lex.ensures)
    c.lex_words.ensures
    says)
    c.refused_text.ensures)

pub returns-in_ok-place-in-Syntax : goal.returns-in_ok-place-in-Syntax
returns-in_ok-place-in-Syntax c =
    rw c.in-Syntax.is (IfOk-weaker c.refused_text-in-Syntax.result _ _
    (λ text says. syntax_refused c.args.bytes.now c.in-Syntax.at c.deref-in-Syntax.result.now text.items
    (subst (IsPlaceText c.args.bytes.now c.in-Syntax.at) (sym c.deref-in-Syntax.ensures) c.in_ok-place-in-Syntax.ensures)
    says)
    c.refused_text-in-Syntax.ensures)
