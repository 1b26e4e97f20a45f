use Rattle.std.proofs.Common.{ℕ, List, map, sym, ap, ◌∙◌, subst}
use Rattle.std.proofs.lemmas.Result.{err_from_is_err_and}
use Rattle.dj_line.specs.Lines.{plain_line}
use Rattle.dj_line.specs.OrderWords.{InOrder, active_along}
use Rattle.dj_line.proofs.OrderWords.{word_order, word_disallowed, piece_error, alike, unlike}
use Rattle.dj_line.proofs.line.Line.word_order.Goals as goal

pub returns-in_err-deltas-clause-answer : goal.returns-in_err-deltas-clause-answer
returns-in_err-deltas-clause-answer c =
    let line = c.args.self.now in
    let texts = ap (map (λ p. p.now)) c.deref.ensures.value ∙ c.in_ok-pieces.ensures in
    let p = err_from_is_err_and c.from_residual-in_err-deltas.result c.from_residual-in_err-deltas.ensures.1 in
    rw (p.1, p.2) (piece_error (plain_line line) c.args.config.now.chosen.items c.args.word.now _ c.in_err-deltas.field-0.0 texts c.in_err-deltas.ensures)

pub returns-then-branch-clause-below : goal.returns-then-branch-clause-below
returns-then-branch-clause-below c = c.in_ok-deltas.ensures.below

pub returns-then-branch-clause-answer : goal.returns-then-branch-clause-answer
returns-then-branch-clause-answer c =
    let line = c.args.self.now in
    let P : List ℕ → Type 0 = InOrder (active_along (plain_line line) c.args.config.now.chosen.items) in
    let texts = ap (map (λ p. p.now)) c.deref.ensures.value ∙ c.in_ok-pieces.ensures in
    word_order (plain_line line) line.accepted c.args.config.now.chosen.items c.args.word.now _ c.in_ok-deltas.deltas.items texts c.in_ok-deltas.ensures
    (subst P c.deref-2.ensures.value (alike _ c.in_ok-is_in_order.field-0 c.if-branch.true c.in_ok-is_in_order.ensures))

pub returns-clause-answer : goal.returns-clause-answer
returns-clause-answer c =
    let line = c.args.self.now in
    let P : List ℕ → Type 0 = InOrder (active_along (plain_line line) c.args.config.now.chosen.items) in
    let texts = ap (map (λ p. p.now)) c.deref.ensures.value ∙ c.in_ok-pieces.ensures in
    word_disallowed (plain_line line) line.accepted c.args.config.now.chosen.items c.args.word.now _ c.in_ok-deltas.deltas.items texts c.in_ok-deltas.ensures
    (λ ordered. unlike _ c.in_ok-is_in_order.field-0 c.if-branch.false c.in_ok-is_in_order.ensures (subst P (sym c.deref-2.ensures.value) ordered))
