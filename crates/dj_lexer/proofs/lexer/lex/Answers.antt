use Rattle.dj_lexer.proofs.AnswerLemmas.{tokens_are_spans, tokens_rise, tokens_are_few}
use Rattle.dj_lexer.proofs.LexerLemmas.{given_err, refused_ok, refused_err, found_list, found_tokens, found_fault, found_not_utf8}
use Rattle.dj_lexer.proofs.lexer.lex.Goals as goal

pub returns-in-Ok-tokens_of-clause-spans : goal.returns-in-Ok-tokens_of-clause-spans
returns-in-Ok-tokens_of-clause-spans c =
    tokens_are_spans _ _ _ (found_list _ _ _ _ c.in-Ok.ensures.cases.0 c.in-Ok-tokens_of.ensures.tokens)

pub returns-in-Ok-tokens_of-clause-rising : goal.returns-in-Ok-tokens_of-clause-rising
returns-in-Ok-tokens_of-clause-rising c =
    tokens_rise _ _ _ (found_list _ _ _ _ c.in-Ok.ensures.cases.0 c.in-Ok-tokens_of.ensures.tokens)

pub returns-in-Ok-tokens_of-clause-few : goal.returns-in-Ok-tokens_of-clause-few
returns-in-Ok-tokens_of-clause-few c =
    tokens_are_few _ _ _ (found_list _ _ _ _ c.in-Ok.ensures.cases.0 c.in-Ok-tokens_of.ensures.tokens)

pub returns-in-Ok-tokens_of-clause-refused : goal.returns-in-Ok-tokens_of-clause-refused
returns-in-Ok-tokens_of-clause-refused c fault other =
    let has = found_tokens _ _ _ _ c.in-Ok.ensures.cases.0 c.in-Ok-tokens_of.ensures.tokens c.in-Ok-tokens_of.ensures.shallow in
    refused_ok _ _ _ has fault

pub returns-in-Err-tokens_of-clause-given : goal.returns-in-Err-tokens_of-clause-given
returns-in-Err-tokens_of-clause-given c other =
    given_err _ _ _ (found_fault _ _ _ _ c.in-Ok.ensures.cases.0 c.in-Err-tokens_of.ensures.fault) other

pub returns-in-Err-tokens_of-clause-refused : goal.returns-in-Err-tokens_of-clause-refused
returns-in-Err-tokens_of-clause-refused c fault other =
    refused_err _ _ _ (found_fault _ _ _ _ c.in-Ok.ensures.cases.0 c.in-Err-tokens_of.ensures.fault) fault other

pub returns-in-Err-clause-refused : goal.returns-in-Err-clause-refused
returns-in-Err-clause-refused c fault other =
    refused_err _ _ _ (found_not_utf8 c.args.dialect _ _ _ c.in-Err.ensures.cases.0 c.in-Err.ensures.cases.1 c.valid_up_to.ensures) fault other
