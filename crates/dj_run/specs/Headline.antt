-- What the program says of a whole family.
use Rattle.std.specs.Prelude.{◌≡◌, ◌↔◌, ℕ, List, Option, None, Some}
use Rattle.dj_names.specs.Texts.{Text}
use Rattle.dj_tree.specs.Trees.{Delta, Source}
use Rattle.dj_tree.specs.declared.source.Instance.{Instance}
use Rattle.dj_calculus.specs.Configurations.{Configuration, IsValid}
use Rattle.dj_calculus.specs.Good.{IsGood}
use Rattle.dj_calculus.specs.Instances.{IsLeast}
use Rattle.dj_calculus.specs.LineRules.{Counts}
use Rattle.dj_calculus.specs.Products.{OrderWord}
use Rattle.dj_report.specs.Answers.{IsNoText}
use Rattle.dj_generate.specs.Generated.{IsGenerated}
use Rattle.dj_run.specs.Answers.{Answer}

-- a valid configuration, the least instance of a rule that counts in it, and the text that says so
pub record Refutes (bytes : List ℕ) (source : Source) (text : Text) : Type 0 where
  pub configuration : Configuration
  pub instance : Instance
  pub valid : IsValid source configuration
  pub least : IsLeast (Counts source configuration) instance
  pub says : IsNoText bytes source configuration instance text

-- The answer says yes exactly if in every valid configuration the active deltas of each part are disjoint, every operation is defined, and the class
-- table is well typed. Else it is a no, which tells a valid configuration and a rule that it breaks.
pub record IsVerdict (bytes : List ℕ) (source : Source) (answer : Answer) : Type 0 where
  pub yes : (answer.status ≡ 0) ↔ IsGood source
  pub no : (answer.status ≡ 1) ↔ ¬ (IsGood source)
  pub why : answer.status ≡ 1 → Refutes bytes source answer.text

-- the order word, where one is given, stands for an allowed order
abbrev pub IsAllowedWord : Source → Configuration → Option Text → Type 0
IsAllowedWord source c None = Unit {0}
IsAllowedWord source c (Some word) = (order : List Delta) × OrderWord source c word order

-- the answer is the text that is generated of the configuration
pub record IsVariant (source : Source) (c : Configuration) (answer : Answer) : Type 0 where
  pub done : answer.status ≡ 0
  pub generated : IsGenerated source c answer.text
