use Rattle.std.proofs.Common.{inl, inr}
use Rattle.dj_lexer.proofs.FrontLemmas.{lone_underscore, word_piece}
use Rattle.dj_lexer.proofs.front.word.Goals as goal

pub returns-then-rest-more : goal.returns-then-rest-more
returns-then-rest-more c = lone_underscore _ _ _ _ _ c.utf8.more c.requires.front c.if-first-eq95.true c.after_word-rest.ensures c.if-rest-more.true

pub returns-else-first-eq95 : goal.returns-else-first-eq95
returns-else-first-eq95 c =
    word_piece _ _ _ _ _ c.utf8.more c.requires.front c.requires.starts c.after_word-rest.ensures
    (λ e l. elim c.else-first-eq95.either [ inl h ↦ h.1 l | inr h ↦ h e ])
