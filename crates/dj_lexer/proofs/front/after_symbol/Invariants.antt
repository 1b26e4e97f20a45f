use denote.Text.{Utf8}
use denote.Shadow.{shadow}
use Rattle.dj_lexer.proofs.FrontLemmas.{Shortest}
use Rattle.dj_lexer.proofs.front.after_symbol.Given as goal

abbrev pub invariant-loop-symbol : goal.invariant-loop-symbol
invariant-loop-symbol l = shadow (Utf8 l.shortest) × Shortest l.fn.dialect l.text l.symbol-index l.shortest
