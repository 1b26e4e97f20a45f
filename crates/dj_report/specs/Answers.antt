-- What is said of a configuration that breaks a rule.
use Rattle.std.specs.Prelude.{ℕ, true, false, List, [], ◌∷◌, codes}
use Rattle.std.specs.List.{join_by}
use Rattle.dj_names.specs.Texts.{Text}
use Rattle.dj_tree.specs.Trees.{Spot, Source}
use Rattle.dj_tree.specs.declared.source.Instance.{Instance}
use Rattle.dj_calculus.specs.Configurations.{Configuration}
use Rattle.dj_report.specs.Join.{joined, line_end}
use Rattle.dj_report.specs.Rules.{IsRuleText}

-- the names of the chosen features, in the order in which the features are listed
abbrev pub chosen_names : List Spot → Configuration → List Text
chosen_names (x ∷ xs) (true ∷ values) = x.text ∷ chosen_names xs values
chosen_names (x ∷ xs) (false ∷ values) = chosen_names xs values
chosen_names xs values = []

-- the names with commas between them, or `-` for none
abbrev pub names_word : List Text → Text
names_word [] = codes "-"
names_word (name ∷ names) = join_by (λ (text : Text). text) (codes ",") (name ∷ names)

-- the word that a configuration is told by
abbrev pub configuration_word : Source → Configuration → Text
configuration_word source c = names_word (chosen_names source.features c)

-- "no", the configuration, and the line of the instance
pub data IsNoText (bytes : List ℕ) (source : Source) (c : Configuration) (instance : Instance) : Text → Type 0 where
  no_and_why : (why : Text) → IsRuleText bytes instance why
      → IsNoText bytes source c instance
      (joined (codes "no" ∷ line_end ∷ codes "configuration " ∷ configuration_word source c ∷ line_end ∷ why ∷ []))
