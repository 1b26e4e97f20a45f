-- What is generated of a configuration.
use Rattle.std.specs.Prelude.{◌≡◌, ◌↔◌}
use Rattle.dj_names.specs.Texts.{Text}
use Rattle.dj_tree.specs.Trees.{Source}
use Rattle.dj_calculus.specs.Configurations.{Configuration}
use Rattle.dj_calculus.specs.Good.{GoodAt}
use Rattle.dj_calculus.specs.Tables.{Table, SameTable}
use Rattle.dj_calculus.specs.FlatTables.{flat}
use Rattle.dj_calculus.specs.JavaText.{java_text}
use Rattle.dj_calculus.specs.JavaFiles.{IsJava}
use Rattle.dj_calculus.specs.Typing.{WellTyped}

-- The configuration is good, and this is the canonical Java text of the flat table of its product. That table is well typed, and
-- the text is Java text of it and of no other, places aside.
pub record IsGenerated (source : Source) (c : Configuration) (text : Text) : Type 0 where
  pub good : GoodAt source c
  pub says : text ≡ java_text (flat good.has.table)
  pub flat_typed : WellTyped (flat good.has.table)
  pub reads_back : (u : Table) → IsJava text u ↔ SameTable u (flat good.has.table)
