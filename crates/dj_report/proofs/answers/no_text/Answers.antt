use Rattle.std.proofs.Common.{subst, sym, ◌∙◌}
use Rattle.std.proofs.lemmas.Result.{IfOk-weaker}
use Rattle.dj_tree.specs.Plain.{plain_source}
use Rattle.dj_line.specs.Lines.{plain_line}
use Rattle.dj_report.specs.Rules.{IsRuleText}
use Rattle.dj_report.proofs.RuleLines.{told_no}
use Rattle.dj_report.proofs.answers.no_text.Goals as goal

pub returns : goal.returns
returns c =
    let bytes = c.args.bytes.now in
    let instance = c.args.instance.now in
    IfOk-weaker c.joined.result _ _
    (λ text says. told_no bytes (plain_source c.source.result.now) (plain_line c.args.line.now) c.args.config.now.chosen.items instance c.as_slice.result.now c.as_bytes.result.now text.items
    c.source.ensures.line
    (subst (IsRuleText bytes instance) (sym c.as_slice.ensures.value) c.in_ok-why.ensures)
    (c.as_bytes.ensures.value ∙ c.in_ok-word.ensures)
    says)
    c.joined.ensures
