use Rattle.std.proofs.Common.{◌≡◌, List, sym, ap, ◌∙◌, subst}
use Rattle.dj_names.specs.Texts.{Text}
use Rattle.dj_lexer.specs.Symbols.{symbols_of}
use Rattle.dj_lexer.specs.Laws.{OneTokenList}
use Rattle.dj_lexer.specs.declared.token.Dialect.TheVariants.{Java}
use Rattle.dj_tree.specs.Spells.{SpellsJava}
use Rattle.dj_declarations.specs.Laws.{OneJava}
use Rattle.dj_calculus.specs.Tables.{Table, SameTable, unplaced_table}
use Rattle.dj_calculus.specs.JavaFiles.{ReadsAs, IsJava, table_of}
use Rattle.dj_front.proofs.laws.one_java_table.Goals as goal

-- bytes are read as one table
one_read : OneTokenList → OneJava → (bytes : Text) (t u : Table) → ReadsAs bytes t → ReadsAs bytes u → t ≡ u
one_read tokens_once classes_once bytes t u a b =
    let tokens = tokens_once Java bytes a.tokens b.tokens a.lexed b.lexed in
    let spelled = subst (λ ts. SpellsJava (symbols_of bytes ts) a.classes) tokens a.spelled in
    a.made ∙ ap table_of (classes_once (symbols_of bytes b.tokens) a.classes b.classes spelled b.spelled) ∙ sym b.made

pub returns : goal.returns
returns c = λ bytes t u first second.
    sym first.2 ∙ ap unplaced_table (one_read c.one_token_list.ensures c.one_reading.ensures.classes bytes first.0 second.0 first.1 second.1) ∙ second.2
