-- What a name with a comma, a delta of a part or a part takes.
use Rattle.std.proofs.Common.{◌≡◌, List, [], ◌∷◌, refl}
use Rattle.std.specs.Prelude.{codes}
use Rattle.dj_lexer.specs.Symbols.{Symbol}
use Rattle.dj_tree.specs.Words.{sign, named}
use Rattle.dj_tree.specs.Trees.{Spot, Formula}
use Rattle.dj_tree.specs.FormulaGrammar.{SpellsFormula}
use Rattle.dj_reader.specs.Reading.{Outcome, IsReader, IsSign}
use Rattle.dj_reader.specs.Combining.{a_name, comma_and, SpellsSign, the_sign, SpellsName, the_name, SpellsBoth, one_and_other, SpellsMapped, changed}
use Rattle.dj_reader.proofs.Loops.{Shrinks, shrinks}
use Rattle.dj_reader.proofs.Pieces.{sign_reads, name_reads, some_name, some_name_is}
use Rattle.dj_declarations.specs.Readings.{second, item_reading, part_reading}
use Rattle.dj_declarations.proofs.Pieces.{joins_any, behind_reads}
use Rattle.dj_declarations.proofs.MemberLoops.{opening_shrinks}
use Rattle.dj_declarations.proofs.SourceReaders.{item_reads, item_opens, part_reads, part_opens}

pub name_shrinks : Shrinks (comma_and a_name)
name_shrinks = shrinks begins (behind_reads (joins_any (named some_name ∷ []) some_name (the_name some_name some_name_is)) (sign_reads (codes ",")) name_reads)
  where
    begins : (s : List Symbol) (x : Spot) → SpellsMapped second (SpellsBoth (SpellsSign (codes ",")) SpellsName) s x → (first : Symbol) × ((rest : List Symbol) × (s ≡ first ∷ rest))
    begins s x (changed (one_and_other {t = t} (the_sign at) q)) = (sign (codes ",") at, (t, refl))

module _ (formula : List Symbol → Outcome Formula) (is : IsReader SpellsFormula (IsSign (codes ";")) formula) where
  pub item_shrinks : Shrinks (item_reading formula)
  item_shrinks = opening_shrinks (item_opens formula is) (item_reads formula is)

  pub part_shrinks : Shrinks (part_reading formula)
  part_shrinks = opening_shrinks (part_opens formula is) (part_reads formula is)
