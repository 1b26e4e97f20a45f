use Rattle.std.proofs.Common.{◌∙◌, Option, length, ap, subst, arith}
use Rattle.std.specs.Prelude.{MatchOption}
use Rattle.dj_tree.specs.declared.source.Instance.{Instance}
use Rattle.dj_line.specs.Lines.{plain_line}
use Rattle.dj_check.specs.Choices.{choice_of}
use Rattle.dj_check.specs.Small.{IsGoodWhereValid, Fails}
use Rattle.dj_check.proofs.ChoiceLemmas.{length_choice, one_more, all_good}
use Rattle.dj_check.proofs.trial.check_small.Goals as goal

pub failure-requires : goal.failure-requires
failure-requires c = record { features = ap length c.in_ok-config.ensures ∙ length_choice (length (plain_line c.args.line.now).features) c.loop-number.number }

pub loop-number-preserved : goal.loop-number-preserved
loop-number-preserved c =
    let source = plain_line c.args.line.now in
    let chosen = c.in_ok-config.config.chosen.items in
    let here : IsGoodWhereValid source chosen = subst (λ (o : Option Instance). MatchOption o (IsGoodWhereValid source chosen) (Fails source chosen)) c.in-None.is c.in_ok-instance.ensures in
    one_more (λ k. IsGoodWhereValid source (choice_of (length source.features) k)) c.loop-number.number c.loop-number.invariant (subst (IsGoodWhereValid source) c.in_ok-config.ensures here)

pub returns-clause-yes : goal.returns-clause-yes
returns-clause-yes c =
    let source = plain_line c.args.line.now in
    all_good source c.loop-number.number (omega (arith, c.choice_count-number-end.ensures, c.loop-number-test.false)) c.loop-number.invariant
