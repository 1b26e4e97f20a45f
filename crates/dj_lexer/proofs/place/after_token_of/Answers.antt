use Rattle.dj_lexer.proofs.TokenAtLemmas.{no_token_end}
use Rattle.dj_lexer.proofs.place.after_token_of.Goals as goal

pub returns-in-None : goal.returns-in-None
returns-in-None c = no_token_end c.args.dialect c.args.text.now c.in-None.ensures
