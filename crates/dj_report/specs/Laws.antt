-- What is said has one text.
use Rattle.std.specs.Prelude.{◌≡◌, ℕ, List}
use Rattle.dj_names.specs.Texts.{Text}
use Rattle.dj_tree.specs.Trees.{Source}
use Rattle.dj_tree.specs.declared.source.Instance.{Instance}
use Rattle.dj_calculus.specs.Configurations.{Configuration}
use Rattle.dj_report.specs.Refusals.{IsRefusalText}
use Rattle.dj_report.specs.Rules.{IsRuleText}
use Rattle.dj_report.specs.Answers.{IsNoText}
use Rattle.dj_refusals.specs.declared.refusal.Refusal.{Refusal}

abbrev pub OneRefusalText : Type 0
OneRefusalText = (bytes : List ℕ) (refusal : Refusal) (a b : Text) → IsRefusalText bytes refusal a → IsRefusalText bytes refusal b → a ≡ b

abbrev pub OneRuleText : Type 0
OneRuleText = (bytes : List ℕ) (instance : Instance) (a b : Text) → IsRuleText bytes instance a → IsRuleText bytes instance b → a ≡ b

abbrev pub OneNoText : Type 0
OneNoText = (bytes : List ℕ) (source : Source) (c : Configuration) (instance : Instance) (a b : Text) → IsNoText bytes source c instance a
    → IsNoText bytes source c instance b → a ≡ b
