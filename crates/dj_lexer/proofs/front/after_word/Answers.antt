use Rattle.std.proofs.Common.{rules, of_calls}
use Rattle.std.proofs.lemmas.Fn.{always_returns_same}
use Rattle.dj_lexer.specs.Alphabet.{continues_word}
use Rattle.dj_lexer.proofs.FrontLemmas.{trimmed_by}
use Rattle.dj_lexer.proofs.front.after_word.Goals as goal

pub returns : goal.returns
returns c =
    trimmed_by _ (continues_word c.args.dialect) _ _ c.utf8.text c.trim_start_matches.ensures.matches (always_returns_same _ _ _ (λ a r f k. search (rules, of_calls)))
