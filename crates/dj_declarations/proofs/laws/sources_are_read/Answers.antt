use Rattle.dj_lexer.specs.declared.token.Dialect.TheVariants.{Line, Java}
use Rattle.dj_formula_reader.specs.Laws.{formula_trees}
use Rattle.dj_expr_reader.specs.Laws.{expr_trees}
use Rattle.dj_declarations.proofs.SourceReaders.{source_reads, java_reads}
use Rattle.dj_declarations.proofs.laws.sources_are_read.Goals as goal

pub returns-clause-sources : goal.returns-clause-sources
returns-clause-sources c = source_reads (expr_trees Line) formula_trees (c.expressions_are_read.ensures.trees Line) c.formulas_are_read.ensures.trees

pub returns-clause-classes : goal.returns-clause-classes
returns-clause-classes c = java_reads (expr_trees Java) (c.expressions_are_read.ensures.trees Java)
