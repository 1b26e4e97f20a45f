-- Laws of the canonical text.
use Rattle.std.specs.Prelude.{◌↔◌}
use Rattle.dj_tree.specs.Trees.{Source}
use Rattle.dj_tree.specs.Spells.{Laid}
use Rattle.dj_calculus.specs.Accepted.{IsAccepted}
use Rattle.dj_calculus.specs.Configurations.{Configuration}
use Rattle.dj_calculus.specs.Products.{Product}
use Rattle.dj_calculus.specs.Tables.{Table, SameTable}
use Rattle.dj_calculus.specs.FlatTables.{flat}
use Rattle.dj_calculus.specs.JavaText.{java_text}
use Rattle.dj_calculus.specs.JavaFiles.{IsJava}
use Rattle.java_text_laws.specs.Writable.{IsWritable}

-- The canonical text of a writable table is the Java text of that table, and of no other but for places.
abbrev pub ReadsBack : Type 0
ReadsBack = (t u : Table) → IsWritable t → IsJava (java_text t) u ↔ SameTable u t

-- The flat table of a product of an accepted source that tokens spell is writable.
abbrev pub FlatProductsAreWritable : Type 0
FlatProductsAreWritable = (source : Source) (c : Configuration) (t : Table) → ∥ Laid source ∥₁ → IsAccepted source → Product source c t
    → IsWritable (flat t)
