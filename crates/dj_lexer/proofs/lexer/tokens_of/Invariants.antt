use Rattle.std.proofs.Common.{length}
use denote.Text.{Utf8}
use denote.Shadow.{shadow}
use Rattle.dj_lexer.proofs.LexerLemmas.{Reached}
use Rattle.dj_lexer.proofs.lexer.tokens_of.Given as goal

abbrev pub invariant-loop-found : goal.invariant-loop-found
invariant-loop-found l = shadow (Utf8 l.rest) × Reached l.fn.dialect l.text l.rest l.depth l.list.items

abbrev pub decreases-loop-found : goal.decreases-loop-found
decreases-loop-found l = length l.rest
