use Rattle.std.proofs.Common.{sym, ap, ◌∙◌, ◌∷◌}
use Rattle.std.specs.Str.{chars}
use Rattle.dj_lexer.proofs.FrontLemmas.{first_character, white_piece, begins_nothing}
use Rattle.dj_lexer.proofs.front.front_of.Goals as goal

pub returns-then-is_white_space : goal.returns-then-is_white_space
returns-then-is_white_space c =
    let first = first_character _ _ _ _ c.utf8.text c.chars-chars.ensures.rest c.in_ok-first.ensures.steps.0 in
    white_piece _ _ _ _ (first ∙ ap (λ t. c.in_ok-first.first ∷ chars t) (sym c.as_str.ensures)) (sym c.if-is_white_space.ensures) c.as_str.utf8

pub word-requires-clause-front : goal.word-requires-clause-front
word-requires-clause-front c =
    let first = first_character _ _ _ _ c.utf8.text c.chars-chars.ensures.rest c.in_ok-first.ensures.steps.0 in
    first ∙ ap (λ t. c.in_ok-first.first ∷ chars t) (sym c.as_str-then-starts_word.ensures)

pub returns-in-None : goal.returns-in-None
returns-in-None c =
    let first = first_character _ _ _ _ c.utf8.text c.chars-chars.ensures.rest c.in_ok-first.ensures.steps.0 in
    begins_nothing _ _ _ _ first (sym c.if-is_white_space.ensures) (sym c.if-starts_word.ensures) c.in_default.ensures c.in-None.ensures
