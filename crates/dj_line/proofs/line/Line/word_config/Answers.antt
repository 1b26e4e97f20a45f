use Rattle.std.proofs.Common.{ℕ, List, length, map, sym, ap, ◌∙◌, subst}
use Rattle.std.specs.Option.{ForSome}
use Rattle.std.proofs.lemmas.List.{length-map}
use Rattle.dj_formula.specs.Value.{tree_of, HasFeaturesBelow}
use Rattle.dj_names.specs.Texts.{Text}
use Rattle.dj_line.specs.Lines.{plain_line}
use Rattle.dj_line.specs.Words.{IsPieceError}
use Rattle.std.proofs.lemmas.Result.{err_from_is_err_and}
use Rattle.dj_line.proofs.ConfigWords.{piece_error, valid_word, invalid_word, one_value}
use Rattle.dj_line.proofs.line.Line.word_config.Goals as goal

pub returns-in_err-chosen : goal.returns-in_err-chosen
returns-in_err-chosen c =
    let line = c.args.self.now in
    let error = c.in_err-chosen.field-0.0 in
    let texts = ap (map (λ p. p.now)) c.deref.ensures.value ∙ c.in_ok-pieces.ensures in
    let P : List Text → Type 0 = λ pieces. IsPieceError (plain_line line) pieces error in
    let p = err_from_is_err_and c.from_residual-in_err-chosen.result c.from_residual-in_err-chosen.ensures.1 in
    rw (p.1, p.2) (piece_error (plain_line line) c.args.word.now error (subst P texts c.in_err-chosen.ensures))

pub eval-requires-clause-known : goal.eval-requires-clause-known
eval-requires-clause-known c =
    let line = c.args.self.now in
    let chosen = c.in_ok-chosen.ensures in
    let P : ℕ → Type 0 = λ n. ForSome (tree_of c.formula.result.now) (HasFeaturesBelow n) in
    subst P (sym (ap length c.deref-2.ensures.value ∙ ap length chosen.1 ∙ length-map (plain_line line).features _)) c.formula.ensures.features

pub returns-then-branch : goal.returns-then-branch
returns-then-branch c =
    let line = c.args.self.now in
    let chosen = c.in_ok-chosen.chosen.items in
    let texts = ap (map (λ p. p.now)) c.deref.ensures.value ∙ c.in_ok-pieces.ensures in
    valid_word (plain_line line) c.args.word.now _ chosen texts c.in_ok-chosen.ensures
    (one_value c.formula.result.now chosen c.deref-2.result.now _ c.in_ok-eval.field-0 (sym c.deref-2.ensures.value) (c.formula.ensures.value chosen) c.in_ok-eval.ensures.value ∙ c.if-branch.true)

pub returns : goal.returns
returns c =
    let line = c.args.self.now in
    let chosen = c.in_ok-chosen.chosen.items in
    let texts = ap (map (λ p. p.now)) c.deref.ensures.value ∙ c.in_ok-pieces.ensures in
    invalid_word (plain_line line) c.args.word.now _ chosen texts c.in_ok-chosen.ensures
    (one_value c.formula.result.now chosen c.deref-2.result.now _ c.in_ok-eval.field-0 (sym c.deref-2.ensures.value) (c.formula.ensures.value chosen) c.in_ok-eval.ensures.value ∙ c.if-branch.false)
