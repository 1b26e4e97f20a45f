use Rattle.dj_lexer.proofs.AnswerLemmas.{tokens_are_spans, tokens_rise, tokens_are_of_dialect, tokens_are_few}
use Rattle.dj_lexer.proofs.laws.token_spans.Goals as goal

pub returns-clause-tokens_are_spans : goal.returns-clause-tokens_are_spans
returns-clause-tokens_are_spans c = tokens_are_spans

pub returns-clause-tokens_rise : goal.returns-clause-tokens_rise
returns-clause-tokens_rise c = tokens_rise

pub returns-clause-tokens_are_few : goal.returns-clause-tokens_are_few
returns-clause-tokens_are_few c = tokens_are_few

pub returns-clause-tokens_are_of_dialect : goal.returns-clause-tokens_are_of_dialect
returns-clause-tokens_are_of_dialect c = tokens_are_of_dialect
