-- Bytes give one table at most, or are refused for one reason.
use Rattle.std.proofs.Common.{◌≡◌, ℕ, List, ◌++◌, length, refl, sym, ap, ◌∙◌, subst, arith}
use Rattle.dj_names.specs.Texts.{Text}
use Rattle.dj_lexer.specs.Symbols.{Symbol, symbols_of}
use Rattle.dj_lexer.specs.Laws as lexer
use Rattle.dj_lexer.specs.Tokens.{TokenList}
use Rattle.dj_lexer.specs.Faults.{HasTokens}
use Rattle.dj_lexer.specs.declared.token.Dialect.TheVariants as dialect
use Rattle.dj_lexer.specs.declared.token.Token.{Token}
use Rattle.dj_tree.specs.Trees.{Class}
use Rattle.dj_tree.specs.Spells.{SpellsJava, ViableJava}
use Rattle.dj_parser.specs.Refusals.{IsJavaRefusedAt}
use Rattle.dj_parser.proofs.Refusing.{one_place, not_whole}
use Rattle.dj_declarations.specs.Laws.{OneJava}
use Rattle.dj_calculus.specs.JavaFiles as java
use Rattle.dj_calculus.specs.JavaFiles.{ReadsAs, FirstJavaFault, java_fault_rank, table_of}
use Rattle.dj_refusals.specs.JavaFaults.{java_fault_of}
use Rattle.dj_refusals.specs.declared.refusal.JavaFault.{JavaFault}
use Rattle.dj_refusals.specs.declared.refusal.JavaFault.TheVariants as fault
use Rattle.java_reader.specs.declared.error.JavaError.TheVariants.{Lex, Syntax, Repeated}
use Rattle.java_reader.specs.Files.{HasTokenList, no_tokens, no_classes, at_fault}
use Rattle.java_reader.specs.Laws.{OneTable, OneRefusal, NoRefusedTable}

opens : (front more : List Symbol) (x : List Class) → SpellsJava (front ++ more) x → ViableJava front
opens front more x spelled = record { rest = more; classes = x; spelled = spelled }

closes : (front : List Symbol) → ViableJava front → (more : List Symbol) × ((x : List Class) × SpellsJava (front ++ more) x)
closes front viable = (viable.rest, (viable.classes, viable.spelled))

one_java_place : (symbols : List Symbol) (end a b : ℕ) → IsJavaRefusedAt symbols end a → IsJavaRefusedAt symbols end b → a ≡ b
one_java_place symbols end a b first second = one_place SpellsJava ViableJava opens closes symbols end a b first second

-- ---- faults

same_rank : (f g : JavaFault) → java_fault_rank (java_fault_of f) ≡ java_fault_rank (java_fault_of g) → f ≡ g
same_rank fault.Class fault.Class e = refl
same_rank fault.Class fault.Member e = absurd (omega (arith, e))
same_rank fault.Class fault.Parameter e = absurd (omega (arith, e))
same_rank fault.Member fault.Class e = absurd (omega (arith, e))
same_rank fault.Member fault.Member e = refl
same_rank fault.Member fault.Parameter e = absurd (omega (arith, e))
same_rank fault.Parameter fault.Class e = absurd (omega (arith, e))
same_rank fault.Parameter fault.Member e = absurd (omega (arith, e))
same_rank fault.Parameter fault.Parameter e = refl

same_fault : (classes : List Class) (f g : JavaFault) (a b : ℕ) → FirstJavaFault classes (java_fault_of f) a → FirstJavaFault classes (java_fault_of g) b → f ≡ g
same_fault classes f g a b p q = same_rank f g (omega (arith, p.first (java_fault_of g) b q.stands, q.first (java_fault_of f) a p.stands))

same_place : (classes : List Class) (f : java.JavaFault) (a b : ℕ) → FirstJavaFault classes f a → FirstJavaFault classes f b → a ≡ b
same_place classes f a b p q = omega (arith, p.least b q.stands, q.least a p.stands)

-- ---- one answer

module _ (one_list : lexer.OneTokenList) (one_java : OneJava) where
  -- two lists of classes that the bytes spell
  one_source : (bytes : Text) (t u : List Token) (a b : List Class) → TokenList dialect.Java bytes t → TokenList dialect.Java bytes u
      → SpellsJava (symbols_of bytes t) a → SpellsJava (symbols_of bytes u) b → a ≡ b
  one_source bytes t u a b first second p q =
      one_java (symbols_of bytes u) a b (subst (λ tokens. SpellsJava (symbols_of bytes tokens) a) (one_list dialect.Java bytes t u first second) p) q

  pub one_table : OneTable
  one_table bytes a b first second =
      let p = first.reads in
      let q = second.reads in
      p.made ∙ ap table_of (one_source bytes p.tokens q.tokens p.classes q.classes p.lexed q.lexed p.spelled q.spelled) ∙ sym q.made

  module _ (no_fault : lexer.NoFaultInTokens) (one_lex : lexer.OneFirstFault) where
    has_tokens : (bytes : Text) (tokens : List Token) → HasTokenList bytes tokens → HasTokens dialect.Java bytes
    has_tokens bytes tokens has = (tokens, has.lexed, has.shallow)

    not_both : (bytes : Text) (t u : List Token) (classes : List Class) (at : ℕ) → TokenList dialect.Java bytes t → TokenList dialect.Java bytes u
        → SpellsJava (symbols_of bytes t) classes → IsJavaRefusedAt (symbols_of bytes u) (length bytes) at → ⊥
    not_both bytes t u classes at first second spelled refused =
        not_whole SpellsJava ViableJava opens closes (symbols_of bytes u) (length bytes) at refused
        (classes, subst (λ tokens. SpellsJava (symbols_of bytes tokens) classes) (one_list dialect.Java bytes t u first second) spelled)

    pub one_refusal : OneRefusal
    one_refusal bytes _ _ (no_tokens f x) (no_tokens g y) = ap Lex (one_lex dialect.Java bytes f g x y)
    one_refusal bytes _ _ (no_tokens f x) (no_classes t at has y) = absurd (no_fault dialect.Java bytes f (has_tokens bytes t has) x)
    one_refusal bytes _ _ (no_tokens f x) (at_fault t cs g at has spelled first) = absurd (no_fault dialect.Java bytes f (has_tokens bytes t has) x)
    one_refusal bytes _ _ (no_classes t at has x) (no_tokens f y) = absurd (no_fault dialect.Java bytes f (has_tokens bytes t has) y)
    one_refusal bytes _ _ (no_classes t at has x) (no_classes u place also y) =
        ap Syntax (one_java_place (symbols_of bytes t) (length bytes) at place x
        (subst (λ tokens. IsJavaRefusedAt (symbols_of bytes tokens) (length bytes) place) (one_list dialect.Java bytes u t also.lexed has.lexed) y))
    one_refusal bytes _ _ (no_classes t at has x) (at_fault u cs f place also spelled first) = absurd (not_both bytes u t cs at also.lexed has.lexed spelled x)
    one_refusal bytes _ _ (at_fault t cs f at has spelled first) (no_tokens g y) = absurd (no_fault dialect.Java bytes g (has_tokens bytes t has) y)
    one_refusal bytes _ _ (at_fault t cs f at has spelled first) (no_classes u place also y) = absurd (not_both bytes t u cs place has.lexed also.lexed spelled y)
    one_refusal bytes _ _ (at_fault t cs f a has spelled first) (at_fault u ds g b also spelled_too second) =
        let classes : ds ≡ cs = one_source bytes u t ds cs also.lexed has.lexed spelled_too spelled in
        let here : FirstJavaFault cs (java_fault_of g) b = subst (λ xs. FirstJavaFault xs (java_fault_of g) b) classes second in
        let same : f ≡ g = same_fault cs f g a b first here in
        let place : a ≡ b = same_place cs (java_fault_of g) a b (subst (λ x. FirstJavaFault cs (java_fault_of x) a) same first) here in
        ap (λ x. Repeated x a) same ∙ ap (Repeated g) place

    pub no_refused_table : NoRefusedTable
    no_refused_table bytes t _ file (no_tokens f x) = no_fault dialect.Java bytes f (file.reads.tokens, file.reads.lexed, file.shallow) x
    no_refused_table bytes t _ file (no_classes u at has x) = not_both bytes file.reads.tokens u file.reads.classes at file.reads.lexed has.lexed file.reads.spelled x
    no_refused_table bytes t _ file (at_fault u cs f at has spelled first) =
        let same : cs ≡ file.reads.classes = one_source bytes u file.reads.tokens cs file.reads.classes has.lexed file.reads.lexed spelled file.reads.spelled in
        file.reads.sound (java_fault_of f) at (subst (λ xs. java.JavaFaultStands xs (java_fault_of f) at) same first.stands)
