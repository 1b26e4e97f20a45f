use Rattle.dj_lexer.proofs.TokenAtLemmas.{one_text_at}
use Rattle.dj_lexer.proofs.laws.one_token_at.Goals as goal

pub returns : goal.returns
returns c = one_text_at
