-- The bytes of a Java file define one answer of `typecheck` at most.
use Rattle.std.proofs.Common.{◌≡◌, ◌≤◌, ◌<◌, ◌++◌, ℕ, List, length, codes, refl, sym, ap, subst, arith}
use Rattle.dj_lexer.specs.Symbols.{symbols_of}
use Rattle.dj_lexer.specs.declared.token.TheConstants.{MAX_LENGTH}
use Rattle.dj_tree.specs.declared.source.Instance.{Instance}
use Rattle.dj_calculus.specs.Instances.{IsLeast}
use Rattle.dj_calculus.specs.TableRules.{CountsIn}
use Rattle.dj_calculus.specs.TableForms.{IsTable}
use Rattle.dj_calculus.specs.Tables.{Table}
use Rattle.dj_calculus.specs.Typing.{WellTyped}
use Rattle.dj_calculus.specs.JavaText.{line as text_line}
use Rattle.dj_calculus.proofs.SpelledExpressions.{spelled_java}
use Rattle.dj_refusals.specs.declared.refusal.Refusal.{Refusal}
use Rattle.dj_refusals.specs.declared.refusal.Refusal.TheVariants as refusal
use Rattle.dj_report.specs.Refusals.{IsRefusalText}
use Rattle.dj_report.specs.Rules.{IsRuleText}
use Rattle.java_reader.specs.Files.{IsJavaFile, IsRefusedFor}
use Rattle.java_reader.specs.declared.error.JavaError.{JavaError}
use Rattle.java_reader.specs.declared.error.JavaError.TheVariants as error
use Rattle.dj_run.specs.OneEach.{OfJava}
use Rattle.dj_run.specs.JavaFiles.{IsRefusedAsJava, too_long, no_tokens, no_classes, repeated}
use Rattle.dj_run.specs.Answers.{Answer, refuted, refused_file, Typechecks, typed, untyped, java_refused}

-- the refusal that an error of the reader is told as
abbrev refusal_of : JavaError → Refusal
refusal_of (error.Lex fault) = refusal.Lex fault
refusal_of (error.Syntax at) = refusal.Syntax at
refusal_of (error.Repeated fault at) = refusal.Java fault at
refusal_of error.NoMemory = refusal.TooLong

-- a refusal is for too many bytes, or that of an error
data Cause (bytes : List ℕ) : Refusal → Type 0 where
  long : MAX_LENGTH < length bytes → Cause bytes refusal.TooLong
  of_error : (e : JavaError) → length bytes ≤ MAX_LENGTH → IsRefusedFor bytes e → Cause bytes (refusal_of e)

cause_of : (bytes : List ℕ) (r : Refusal) → IsRefusedAsJava bytes r → Cause bytes r
cause_of bytes _ (too_long more) = long more
cause_of bytes _ (no_tokens fault short is) = of_error (error.Lex fault) short is
cause_of bytes _ (no_classes at short is) = of_error (error.Syntax at) short is
cause_of bytes _ (repeated fault at short is) = of_error (error.Repeated fault at) short is

module _ (laws : OfJava) (bytes : List ℕ) where
  one_cause : (r q : Refusal) → Cause bytes r → Cause bytes q → r ≡ q
  one_cause _ _ (long more) (long _) = refl
  one_cause _ _ (long more) (of_error e short is) = absurd (omega (arith, more, short))
  one_cause _ _ (of_error e short is) (long more) = absurd (omega (arith, more, short))
  one_cause _ _ (of_error e short is) (of_error d _ so) = ap refusal_of (laws.one_refusal bytes e d is so)

  unrefused : {G : Type 0} (t : Table) (r : Refusal) → length bytes ≤ MAX_LENGTH → IsJavaFile bytes t → Cause bytes r → G
  unrefused t _ short file (long more) = absurd (omega (arith, more, short))
  unrefused t _ short file (of_error e _ is) = absurd (laws.not_refused bytes t e file is)

  pub its_table : (t : Table) → IsJavaFile bytes t → IsTable t
  its_table t file =
      subst IsTable (sym file.reads.made)
      (laws.are_tables file.reads.classes file.reads.sound (spelled_java (symbols_of bytes file.reads.tokens) file.reads.classes file.reads.spelled))

  not_both : {G : Type 0} (t u : Table) (i : Instance) → IsJavaFile bytes t → WellTyped t → IsJavaFile bytes u → IsLeast (CountsIn u) i → G
  not_both t u i file well other least =
      let here = subst (λ x. IsLeast (CountsIn x) i) (sym (laws.one_table bytes t u file other)) least in
      absurd (laws.breaks_nothing t (its_table t file).no_object well i here.is.stands)

  pub one_typecheck : (a b : Answer) → Typechecks bytes a → Typechecks bytes b → a ≡ b
  one_typecheck _ _ (typed t short file is) (typed u _ other so) = refl
  one_typecheck _ _ (typed t short file is) (untyped u i text _ other least says) = not_both t u i file is other least
  one_typecheck _ _ (untyped u i text _ other least says) (typed t short file is) = not_both t u i file is other least
  one_typecheck _ _ (untyped t i text short file least says) (untyped u j words _ other also tells) =
      let same = laws.one_table bytes t u file other in
      let instance = laws.least t i j least (subst (λ x. IsLeast (CountsIn x) j) (sym same) also) in
      ap (λ x. refuted (text_line (codes "no") ++ x)) (laws.rule_text bytes i text words says (subst (λ x. IsRuleText bytes x words) (sym instance) tells))
  one_typecheck _ _ (typed t short file is) (java_refused r text refused says) = unrefused t r short file (cause_of bytes r refused)
  one_typecheck _ _ (java_refused r text refused says) (typed t short file is) = unrefused t r short file (cause_of bytes r refused)
  one_typecheck _ _ (untyped t i text short file least says) (java_refused r words refused tells) = unrefused t r short file (cause_of bytes r refused)
  one_typecheck _ _ (java_refused r words refused tells) (untyped t i text short file least says) = unrefused t r short file (cause_of bytes r refused)
  one_typecheck _ _ (java_refused r text refused says) (java_refused q words so tells) =
      let same = one_cause r q (cause_of bytes r refused) (cause_of bytes q so) in
      ap refused_file (laws.refusal_text bytes r text words says (subst (λ x. IsRefusalText bytes x words) (sym same) tells))
