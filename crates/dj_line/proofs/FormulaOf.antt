-- What the formulas of a line stand for.
use Rattle.std.proofs.Common.{◌≡◌, ◌∙◌, ℕ, Some, Option, sym, length, subst}
use Rattle.std.specs.Option.{ForSome}
use Rattle.arena_walk.specs.Tree.{Tree}
use Rattle.dj_tree.specs.Trees as plain
use Rattle.dj_calculus.specs.Accepted.{IsAccepted}
use Rattle.dj_formula.specs.declared.formula.Formula.{Formula}
use Rattle.dj_formula.specs.declared.formula.Gate.{Gate}
use Rattle.dj_formula.specs.Value.{tree_of, HasFeaturesBelow}
use Rattle.dj_conditions.specs.Conditions.{StandsFor, gates_of}
use Rattle.dj_conditions.proofs.GateFeatures.{features_below}
use Rattle.dj_line.specs.Placing.{formula_of}
use Rattle.dj_line.proofs.AcceptedLines.{meant_named}

-- the features in a formula that stands for one of an accepted line
pub known_features : (source : plain.Source) → IsAccepted source → (formula : Formula) (of : Option ℕ) → StandsFor source formula (formula_of source of)
    → ForSome (tree_of formula) (HasFeaturesBelow (length source.features))
known_features source accepted formula of stands tree is =
    let e : Some (gates_of source.features (formula_of source of)) ≡ Some tree = sym stands.tree ∙ is in
    let same : gates_of source.features (formula_of source of) ≡ tree = cc in
    let P : Tree Gate → Type 0 = HasFeaturesBelow (length source.features) in
    subst P same (features_below source.features (formula_of source of) (meant_named source accepted of))
