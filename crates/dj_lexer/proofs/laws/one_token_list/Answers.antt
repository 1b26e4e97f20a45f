use Rattle.std.proofs.Common.{refl}
use Rattle.dj_lexer.proofs.AnswerLemmas.{tokens_unique}
use Rattle.dj_lexer.proofs.laws.one_token_list.Goals as goal

pub returns : goal.returns
returns c dialect bytes a b x y = tokens_unique x.1 _ refl y.1
