use Rattle.std.proofs.Common.{ap}
use Rattle.dj_lexer.proofs.FrontLemmas.{shortest_at_first, shorter_found, longer_found, none_found, all_seen, symbol_piece, no_symbol}
use Rattle.dj_lexer.proofs.front.after_symbol.Goals as goal
use Rattle.dj_lexer.proofs.front.after_symbol.Goals.{in-Some+then-rest-shortest, in-Some+else-rest-shortest, in_default}

pub loop-symbol-init : goal.loop-symbol-init
loop-symbol-init c = (c.utf8.text, shortest_at_first _ _)

pub loop-symbol-preserved : goal.loop-symbol-preserved
loop-symbol-preserved c =
    let before = c.loop-symbol.invariant in
    let items = c.symbols-symbol-items.ensures in
    elim c.match-strip_prefix.branch [
      | in-Some+then-rest-shortest w ↦
          shorter_found _ _ _ _ _ _ items c.loop-symbol-test.true before.1 _ _ c.utf8.text w.in-Some.ensures.cases w.if-rest-shortest.true (ap (λ r. r.now) w.shortest-is)
      | in-Some+else-rest-shortest w ↦
          longer_found _ _ _ _ _ _ items c.loop-symbol-test.true before.1 _ _ before.0 w.in-Some.ensures.cases w.if-rest-shortest.false (ap (λ r. r.now) w.shortest-is)
      | in_default w ↦
          none_found _ _ _ _ _ _ items c.loop-symbol-test.true before.1 _ before.0 w.in_default.ensures.cases (ap (λ r. r.now) w.shortest-is)
    ]

pub returns-then-shortest-text : goal.returns-then-shortest-text
returns-then-shortest-text c =
    let before = c.loop-symbol.invariant in
    symbol_piece _ _ _ c.utf8.text before.0 (all_seen _ _ _ _ _ c.symbols-symbol-items.ensures c.loop-symbol-test.false c.loop-symbol.auto.symbol-index-end before.1) c.if-shortest-text.true

pub returns-else-shortest-text : goal.returns-else-shortest-text
returns-else-shortest-text c =
    let before = c.loop-symbol.invariant in
    no_symbol _ _ _ c.utf8.text (all_seen _ _ _ _ _ c.symbols-symbol-items.ensures c.loop-symbol-test.false c.loop-symbol.auto.symbol-index-end before.1) c.if-shortest-text.false
