use Rattle.std.proofs.Common.{ℕ, length, sym, ap, ◌∙◌, subst}
use Rattle.std.specs.Option.{ForSome}
use Rattle.dj_formula.specs.Value.{tree_of, HasFeaturesBelow}
use Rattle.dj_line.specs.Lines.{plain_line}
use Rattle.dj_check.proofs.ChoiceLemmas.{tells_valid}
use Rattle.dj_check.proofs.choices.is_valid.Goals as goal

pub eval-requires-clause-known : goal.eval-requires-clause-known
eval-requires-clause-known c =
    let P : ℕ → Type 0 = λ n. ForSome (tree_of c.formula.result.now) (HasFeaturesBelow n) in
    subst P (sym (ap length c.deref.ensures.value ∙ c.requires.features)) c.formula.ensures.features

pub returns : goal.returns
returns c =
    tells_valid (plain_line c.args.line.now) c.formula.result.now c.args.config.now.chosen.items c.deref.result.now c.eval.result c.requires.features (sym c.deref.ensures.value) (c.formula.ensures.value c.args.config.now.chosen.items) c.eval.ensures.value
