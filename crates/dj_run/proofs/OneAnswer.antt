-- The words and the bytes of a file define one answer at most.
use Rattle.std.proofs.Common.{◌≡◌, ℕ, List, Option, None, Some, IsSome, refl, sym, ap, ◌∙◌, subst}
use Rattle.std.specs.Option.{ForSome}
use Rattle.std.proofs.lemmas.Bool.{false≢true}
use Rattle.dj_names.specs.Texts.{Text}
use Rattle.dj_tree.specs.Trees.{Source}
use Rattle.dj_calculus.specs.Accepted.{IsAccepted}
use Rattle.dj_calculus.specs.Configurations.{Configuration}
use Rattle.dj_calculus.specs.Good.{IsGood}
use Rattle.dj_report.specs.Answers.{IsNoText}
use Rattle.dj_report.specs.Refusals.{IsRefusalText}
use Rattle.dj_report.specs.WordTexts.{configuration_text, order_text}
use Rattle.dj_check.specs.Small.{IsSmall}
use Rattle.dj_run.specs.OneEach.{OneEach}
use Rattle.dj_run.specs.Commands.{Command, check, generate, generate_in_order, verify, explain, typecheck, sample, try}
use Rattle.dj_run.specs.Answers.{Answer, done, refuted, refused_file, refused_word, VariantAnswer, good, bad, OrderAnswer, in_any_order, in_order, order_refused, LineAnswer, configured, configuration_refused, Checks, right, void, wrong, not_small, OfFile, OfLine, of_line, file_refused, Generates, Typechecks, Answers, IsTold, HasFixedText}
use Rattle.dj_run.proofs.JavaAnswers.{one_typecheck}
use Rattle.dj_run.proofs.WordAnswers.{one_configuration}
use Rattle.dj_line.proofs.ConfigWords.{one_fault, no_fault}
use Rattle.dj_line.proofs.OrderWords.{one_order_fault, no_order_fault}

-- what is so of a source, by the status of a `check` of it
data Judged (source : Source) : ℕ → Type 0 where
  a_good : IsSmall source → IsGood source → Judged source 0
  a_bad : IsSmall source → ¬ (IsGood source) → Judged source 1
  too_large : ¬ (IsSmall source) → Judged source 70

one_judgement : (source : Source) (m n : ℕ) → Judged source m → Judged source n → m ≡ n
one_judgement source _ _ (a_good small is) (a_good _ _) = refl
one_judgement source _ _ (a_good small is) (a_bad _ not) = absurd (not is)
one_judgement source _ _ (a_good small is) (too_large more) = absurd (more small)
one_judgement source _ _ (a_bad small not) (a_good _ is) = absurd (not is)
one_judgement source _ _ (a_bad small not) (a_bad _ _) = refl
one_judgement source _ _ (a_bad small not) (too_large more) = absurd (more small)
one_judgement source _ _ (too_large more) (a_good small is) = absurd (more small)
one_judgement source _ _ (too_large more) (a_bad small not) = absurd (more small)
one_judgement source _ _ (too_large more) (too_large _) = refl

module _ (each : OneEach) where
  -- ---- generate

  module _ (bytes : List ℕ) (source : Source) (accepted : IsAccepted source) where
    one_for_variant : (c : Configuration) (a b : Answer) → VariantAnswer bytes source c a → VariantAnswer bytes source c b → a ≡ b
    one_for_variant c _ _ (good text is) (good other so) = ap done (each.generated source c text other is so)
    one_for_variant c _ _ (good text is) (bad i words least says) = absurd (each.breaks_nothing source c accepted is.good i least.is.stands)
    one_for_variant c _ _ (bad i words least says) (good text is) = absurd (each.breaks_nothing source c accepted is.good i least.is.stands)
    one_for_variant c _ _ (bad i text least says) (bad j other also tells) =
        let same = each.least source c i j least also in
        ap refuted (each.no_text bytes source c i text other says (subst (λ x. IsNoText bytes source c x other) (sym same) tells))

    one_for_order : (c : Configuration) (order : Option Text) (a b : Answer) → OrderAnswer bytes source c order a → OrderAnswer bytes source c order b → a ≡ b
    one_for_order c _ _ _ (in_any_order a is) (in_any_order b so) = one_for_variant c a b is so
    one_for_order c _ _ _ (in_order word ds a stands is) (in_order _ _ b _ so) = one_for_variant c a b is so
    one_for_order c _ _ _ (in_order word ds a stands _) (order_refused _ fault is) = absurd (no_order_fault source c word ds fault stands is)
    one_for_order c _ _ _ (order_refused word fault is) (in_order _ ds b stands _) = absurd (no_order_fault source c word ds fault stands is)
    one_for_order c _ _ _ (order_refused word f is) (order_refused _ g so) = ap (λ fault. refused_word (order_text word fault)) (one_order_fault source c word f g is so)

    one_for_line : (config : Text) (order : Option Text) (a b : Answer) → LineAnswer config order bytes source a → LineAnswer config order bytes source b → a ≡ b
    one_for_line config order _ _ (configured c a is ordered) (configured d b so other) =
        one_for_order c order a b ordered (subst (λ x. OrderAnswer bytes source x order b) (sym (one_configuration source config c d is so)) other)
    one_for_line config order _ _ (configured c a is ordered) (configuration_refused fault refused) = absurd (no_fault source config c fault is refused)
    one_for_line config order _ _ (configuration_refused fault refused) (configured c a is ordered) = absurd (no_fault source config c fault is refused)
    one_for_line config order _ _ (configuration_refused f is) (configuration_refused g so) =
        ap (λ fault. refused_word (configuration_text config fault)) (one_fault source config f g is so)

  -- ---- check

  module _ (bytes : List ℕ) (source : Source) (accepted : IsAccepted source) where
    judged : (a : Answer) → Checks bytes source a → Judged source a.status
    judged _ (right small is some) = a_good small is
    judged _ (void small is) = a_good small (λ c valid. absurd (is c valid))
    judged _ (wrong c i text small valid least says) =
        a_bad small (λ good. each.breaks_nothing source c accepted (good c valid) i least.is.stands)
    judged _ (not_small more) = too_large more

    one_status_for_check : (a b : Answer) → Checks bytes source a → Checks bytes source b → a.status ≡ b.status
    one_status_for_check a b is so = one_judgement source a.status b.status (judged a is) (judged b so)

  -- ---- files

  -- what holds of two answers of a line holds of two answers of bytes
  pub of_one_file : (R : Answer → Answer → Type 0) → ((a : Answer) → R a a) → (Gives : List ℕ → Source → Answer → Type 0) (bytes : List ℕ)
      → ((source : Source) (a b : Answer) → IsAccepted source → Gives bytes source a → Gives bytes source b → R a b)
      → (a b : Answer) → OfLine Gives bytes a → OfLine Gives bytes b → R a b
  of_one_file R same Gives bytes one _ _ (of_line s a file gives) (of_line t b other also) =
      one s a b file.accepted gives (subst (λ x. Gives bytes x b) (sym (each.line bytes s t file other)) also)
  of_one_file R same Gives bytes one _ _ (of_line s a file gives) (file_refused refusal text refused says) =
      absurd (each.not_refused bytes s refusal file refused)
  of_one_file R same Gives bytes one _ _ (file_refused refusal text refused says) (of_line s a file gives) =
      absurd (each.not_refused bytes s refusal file refused)
  of_one_file R same Gives bytes one _ _ (file_refused r t refused says) (file_refused q u other tells) =
      let reason : q ≡ r = each.refusal bytes q r other refused in
      subst (λ text. R (refused_file t) (refused_file text)) (each.refusal_text bytes r t u says (subst (λ x. IsRefusalText bytes x u) reason tells)) (same (refused_file t))

  -- where a path tells what is left of it, it holds one list of bytes
  told_bytes : (left : Option (List ℕ)) (x y : List ℕ) → IsSome left → ForSome left (λ all. x ≡ all) → ForSome left (λ all. y ≡ all) → x ≡ y
  told_bytes None x y told h k = absurd (false≢true told)
  told_bytes (Some all) x y told h k = h all refl ∙ sym (k all refl)

  -- what holds of two answers of bytes holds of two answers of a file
  pub of_told : (left : Text → Option (List ℕ)) (file : Text) (Gives : List ℕ → Answer → Type 0) (R : Answer → Answer → Type 0)
      → ((bytes : List ℕ) (a b : Answer) → Gives bytes a → Gives bytes b → R a b)
      → (a b : Answer) → IsSome (left file) → OfFile left file Gives a → OfFile left file Gives b → R a b
  of_told left file Gives R one a b told (x, held, gives) (y, also_held, also) =
      one x a b gives (subst (λ bytes. Gives bytes b) (sym (told_bytes (left file) x y told held also_held)) also)

  -- ---- commands

  module _ (left : Text → Option (List ℕ)) (a b : Answer) where
    of_generate : (file config : Text) (order : Option Text) → IsSome (left file) → OfFile left file (Generates config order) a → OfFile left file (Generates config order) b → a ≡ b
    of_generate file config order =
        of_told left file (Generates config order) (λ x y. x ≡ y)
        (λ bytes. of_one_file (λ x y. x ≡ y) (λ x. refl) (LineAnswer config order) bytes (λ source x y accepted. one_for_line bytes source accepted config order x y)) a b

    of_typecheck : (file : Text) → IsSome (left file) → OfFile left file Typechecks a → OfFile left file Typechecks b → a ≡ b
    of_typecheck file = of_told left file Typechecks (λ x y. x ≡ y) (λ bytes. one_typecheck each.java bytes) a b

    of_check : (file : Text) → IsSome (left file) → OfFile left file (OfLine Checks) a → OfFile left file (OfLine Checks) b → a.status ≡ b.status
    of_check file =
        of_told left file (OfLine Checks) (λ x y. x.status ≡ y.status) (λ bytes. of_one_file (λ x y. x.status ≡ y.status) (λ x. refl) Checks bytes (λ source x y accepted is so. one_status_for_check bytes source accepted x y is so)) a b

    pub one_defined : (command : Option Command) → HasFixedText command → IsTold command left → Answers left command a → Answers left command b → a ≡ b
    one_defined None fixed told h k = h ∙ sym k
    one_defined (Some (check file)) fixed told h k = absurd fixed
    one_defined (Some (generate file config)) fixed told h k = of_generate file config None (told file refl) h k
    one_defined (Some (generate_in_order file config order)) fixed told h k = of_generate file config (Some order) (told file refl) h k
    one_defined (Some (verify x y)) fixed told h k = h ∙ sym k
    one_defined (Some (explain x)) fixed told h k = h ∙ sym k
    one_defined (Some (typecheck file)) fixed told h k = of_typecheck file (told file refl) h k
    one_defined (Some (sample x)) fixed told h k = h ∙ sym k
    one_defined (Some (try x)) fixed told h k = h ∙ sym k

    pub one_status : (command : Option Command) → IsTold command left → Answers left command a → Answers left command b → a.status ≡ b.status
    one_status None told h k = ap (λ (x : Answer). x.status) (one_defined None tt told h k)
    one_status (Some (check file)) told h k = of_check file (told file refl) h k
    one_status (Some (generate file config)) told h k = ap (λ (x : Answer). x.status) (one_defined (Some (generate file config)) tt told h k)
    one_status (Some (generate_in_order file config order)) told h k = ap (λ (x : Answer). x.status) (one_defined (Some (generate_in_order file config order)) tt told h k)
    one_status (Some (verify x y)) told h k = ap (λ (x : Answer). x.status) (one_defined (Some (verify x y)) tt told h k)
    one_status (Some (explain x)) told h k = ap (λ (x : Answer). x.status) (one_defined (Some (explain x)) tt told h k)
    one_status (Some (typecheck file)) told h k = ap (λ (x : Answer). x.status) (one_defined (Some (typecheck file)) tt told h k)
    one_status (Some (sample x)) told h k = ap (λ (x : Answer). x.status) (one_defined (Some (sample x)) tt told h k)
    one_status (Some (try x)) told h k = ap (λ (x : Answer). x.status) (one_defined (Some (try x)) tt told h k)
