-- What there is at most one of, as far as answers stand on it.
use Rattle.dj_calculus.specs.Laws.{OneLeast, OneLeastInTable, GoodBreaksNothing, WellTypedBreaksNothing}
use Rattle.dj_calculus_laws.specs.TableLaws.{JavaIsTable}
use Rattle.dj_report.specs.Laws.{OneRefusalText, OneRuleText, OneNoText}
use Rattle.dj_front.specs.Laws.{OneLine, OneRefusal, NoRefusedLine}
use Rattle.java_reader.specs.Laws as java
use Rattle.dj_generate.specs.Laws.{OneGeneratedText}

-- of Java files: tables, reasons of refusal, texts, and least instances
pub record OfJava : Type 0 where
  pub one_table : java.OneTable
  pub one_refusal : java.OneRefusal
  pub not_refused : java.NoRefusedTable
  pub refusal_text : OneRefusalText
  pub rule_text : OneRuleText
  pub least : OneLeastInTable
  pub are_tables : JavaIsTable
  pub breaks_nothing : WellTypedBreaksNothing

-- and of product lines
pub record OneEach : Type 0 where
  pub line : OneLine
  pub refusal : OneRefusal
  pub not_refused : NoRefusedLine
  pub refusal_text : OneRefusalText
  pub no_text : OneNoText
  pub generated : OneGeneratedText
  pub least : OneLeast
  pub breaks_nothing : GoodBreaksNothing
  pub java : OfJava
