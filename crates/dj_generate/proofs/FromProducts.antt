-- What is generated of a good configuration.
use Rattle.std.proofs.Common.{◌≡◌, ◌∙◌, sym, ap, subst}
use Rattle.std.specs.Prelude.{◌↔◌}
use Rattle.dj_names.specs.Texts.{Text}
use Rattle.dj_tree.specs.Trees.{Source}
use Rattle.dj_calculus.specs.Configurations.{Configuration}
use Rattle.dj_calculus.specs.Good.{GoodAt}
use Rattle.dj_calculus.specs.Tables.{Table, SameTable}
use Rattle.dj_calculus.specs.Products.{Product}
use Rattle.dj_calculus.specs.FlatTables.{flat}
use Rattle.dj_calculus.specs.JavaText.{java_text}
use Rattle.dj_calculus.specs.JavaFiles.{IsJava}
use Rattle.dj_calculus.specs.Typing.{WellTyped}
use Rattle.dj_calculus.proofs.ProductLemmas.{one_product}
use Rattle.dj_generate.specs.Generated.{IsGenerated}

-- the configuration is good with this product, which is well typed
abbrev pub good_with : (source : Source) (c : Configuration) (t : Table) → GoodAt source c → Product source c t → WellTyped t → GoodAt source c
good_with source c t good product typed = record { has = record { disjoint = good.has.disjoint; table = t; product = product }; typed = typed }

-- the text of the flat table of its product is generated
pub generated : (source : Source) (c : Configuration) (t f : Table) (text : Text) → GoodAt source c → Product source c t → WellTyped t
    → f ≡ flat t → WellTyped (flat t) → text ≡ java_text f → ((u : Table) → IsJava (java_text (flat t)) u ↔ SameTable u (flat t))
    → IsGenerated source c text
generated source c t f text good product typed is flat_typed says back = record {
  good = good_with source c t good product typed;
  says = says ∙ ap java_text is;
  flat_typed = flat_typed;
  reads_back = λ u. subst (λ (x : Text). IsJava x u ↔ SameTable u (flat t)) (sym (says ∙ ap java_text is)) (back u);
}

-- what is generated of a configuration is one text
pub one_generated : (source : Source) (c : Configuration) (one other : Text) → IsGenerated source c one → IsGenerated source c other → one ≡ other
one_generated source c one other a b =
    a.says ∙ ap (λ (t : Table). java_text (flat t)) (one_product source c a.good.has.table b.good.has.table a.good.has.product b.good.has.product)
    ∙ sym b.says
