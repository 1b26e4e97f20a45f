use Rattle.std.proofs.Common.{◌≡◌, drop, arith, subst, sym, ◌∙◌}
use Rattle.std.specs.Str.{IsUtf8}
use Rattle.dj_lexer.specs.TokensAt.{BeginsWithToken}
use Rattle.dj_lexer.proofs.TokenAtLemmas.{from_token, is_text, cut_from, at_ok}
use Rattle.dj_lexer.proofs.place.text_from.Goals as goal

pub slice_bounds-from_utf8-count : goal.slice_bounds-from_utf8-count
slice_bounds-from_utf8-count c = omega (arith, (from_token c.args.bytes.now c.args.at c.requires.0 c.requires.1).within)

pub slice_bounds-from_utf8-start : goal.slice_bounds-from_utf8-start
slice_bounds-from_utf8-start c = omega (arith, (from_token c.args.bytes.now c.args.at c.requires.0 c.requires.1).within)

pub unwrap-requires : goal.unwrap-requires
unwrap-requires c =
    is_text _ _ _ _ c.from_utf8.ensures.cases
    (subst IsUtf8 (sym (cut_from c.args.bytes.now c.args.at)) (from_token c.args.bytes.now c.args.at c.requires.0 c.requires.1).utf8)

text_is : (c : goal.After-unwrap) → c.unwrap.result.now ≡ drop c.args.at c.args.bytes.now
text_is c = (at_ok c.from_utf8.result _ _ c.unwrap.result c.from_utf8.ensures.cases c.unwrap.ensures).0 ∙ cut_from c.args.bytes.now c.args.at

pub returns-clause-text : goal.returns-clause-text
returns-clause-text c = text_is c

pub returns-clause-begins : goal.returns-clause-begins
returns-clause-begins c = subst BeginsWithToken (sym (text_is c)) (from_token c.args.bytes.now c.args.at c.requires.0 c.requires.1).begins
