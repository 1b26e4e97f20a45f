use Rattle.std.proofs.Common.{subst}
use Rattle.dj_lexer.specs.Pieces.{IsFront}
use Rattle.dj_lexer.proofs.TokenAtLemmas.{no_token_skipped, no_token_bad, no_token_open}
use Rattle.dj_lexer.proofs.place.behind_token.Goals as goal

pub returns-in-Skipped : goal.returns-in-Skipped
returns-in-Skipped c = no_token_skipped c.args.dialect c.args.text.now _ (subst (IsFront _ _) c.in-Skipped.is c.requires)

pub returns-in-BadCharacter : goal.returns-in-BadCharacter
returns-in-BadCharacter c = no_token_bad c.args.dialect c.args.text.now (subst (IsFront _ _) c.in-BadCharacter.is c.requires)

pub returns-in-OpenComment : goal.returns-in-OpenComment
returns-in-OpenComment c = no_token_open c.args.dialect c.args.text.now (subst (IsFront _ _) c.in-OpenComment.is c.requires)
