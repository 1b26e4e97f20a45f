-- Laws of what is generated.
use Rattle.std.specs.Prelude.{◌≡◌}
use Rattle.dj_names.specs.Texts.{Text}
use Rattle.dj_tree.specs.Trees.{Source}
use Rattle.dj_calculus.specs.Configurations.{Configuration}
use Rattle.dj_generate.specs.Generated.{IsGenerated}

-- a configuration has at most one generated text
abbrev pub OneGeneratedText : Type 0
OneGeneratedText = (source : Source) (c : Configuration) (one other : Text) → IsGenerated source c one → IsGenerated source c other
    → one ≡ other
