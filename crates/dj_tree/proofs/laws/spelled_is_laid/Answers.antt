use Rattle.dj_tree.proofs.Tokens.{are_tokens}
use Rattle.dj_lexer.specs.Symbols.{symbols_of}
use Rattle.dj_lexer.specs.declared.token.Dialect.TheVariants.{Line, Java}
use Rattle.dj_tree.proofs.laws.spelled_is_laid.Goals as goal

pub returns-clause-sources : goal.returns-clause-sources
returns-clause-sources c = λ bytes tokens source t spelled.
    record {
      tokens = symbols_of bytes tokens;
      are_tokens = are_tokens Line bytes tokens c.token_spans.ensures.tokens_are_of_dialect c.token_spans.ensures.tokens_rise t;
      spelled = spelled;
    }

pub returns-clause-classes : goal.returns-clause-classes
returns-clause-classes c = λ bytes tokens classes t spelled.
    record {
      tokens = symbols_of bytes tokens;
      are_tokens = are_tokens Java bytes tokens c.token_spans.ensures.tokens_are_of_dialect c.token_spans.ensures.tokens_rise t;
      spelled = spelled;
    }
