-- What is answered of a family.
use Rattle.std.proofs.Common.{◌≡◌, ℕ, List, Option, None, Some, refl, subst, arith}
use Rattle.std.specs.Option.{ForSome}
use Rattle.dj_names.specs.Texts.{Text}
use Rattle.dj_tree.specs.Trees.{Source}
use Rattle.dj_calculus.specs.Configurations.{Configuration, IsValid, ConfigurationWord}
use Rattle.dj_calculus.specs.Good.{IsGood}
use Rattle.dj_front.specs.Files.{IsLineFile}
use Rattle.dj_check.specs.Small.{IsSmall}
use Rattle.dj_line.proofs.ConfigWords.{no_fault}
use Rattle.dj_line.proofs.OrderWords.{no_order_fault}
use Rattle.dj_run.specs.Commands.{Command, check, generation}
use Rattle.dj_run.specs.Answers.{Answer, Checks, right, void, wrong, not_small, VariantAnswer, good, bad, OrderAnswer, in_any_order, in_order, order_refused, LineAnswer, configured, configuration_refused, OfLine, of_line, file_refused, Answers}
use Rattle.dj_run.specs.Headline.{IsVerdict, IsAllowedWord, IsVariant}
use Rattle.dj_run.specs.OneEach.{OneEach}
use Rattle.dj_run.proofs.WordAnswers.{one_configuration}

module _ (each : OneEach) (bytes : List ℕ) (source : Source) (file : IsLineFile bytes source) where
  -- the answer of the line that the bytes say
  of_the_line : (Gives : List ℕ → Source → Answer → Type 0) (a : Answer) → OfLine Gives bytes a → Gives bytes source a
  of_the_line Gives _ (of_line s a other gives) = subst (λ x. Gives bytes x a) (each.line bytes s source other file) gives
  of_the_line Gives _ (file_refused refusal text refused says) = absurd (each.not_refused bytes source refusal file refused)

  verdict : IsSmall source → (a : Answer) → Checks bytes source a → IsVerdict bytes source a
  verdict small _ (right _ is some) = record { yes = (λ e. is, λ g. refl); no = (λ e. absurd (omega arith), λ not. absurd (not is)); why = λ e. absurd (omega arith) }
  verdict small _ (void _ is) =
      let good : IsGood source = λ c valid. absurd (is c valid) in
      record { yes = (λ e. good, λ g. refl); no = (λ e. absurd (omega arith), λ not. absurd (not good)); why = λ e. absurd (omega arith) }
  verdict small _ (wrong c i text _ valid least says) =
      let bad : ¬ (IsGood source) = λ good. each.breaks_nothing source c file.accepted (good c valid) i least.is.stands in
      record {
        yes = (λ e. absurd (omega arith), λ g. absurd (bad g));
        no = (λ e. bad, λ not. refl);
        why = λ e. record { configuration = c; instance = i; valid = valid; least = least; says = says };
      }
  verdict small _ (not_small more) = absurd (more small)

  variant : (c : Configuration) (a : Answer) → IsGood source → IsValid source c → VariantAnswer bytes source c a → IsVariant source c a
  variant c _ is valid (good text generated) = record { done = refl; generated = generated }
  variant c _ is valid (bad i text least says) = absurd (each.breaks_nothing source c file.accepted (is c valid) i least.is.stands)

  in_order_variant : (c : Configuration) (order : Option Text) (a : Answer) → IsGood source → IsValid source c → IsAllowedWord source c order
      → OrderAnswer bytes source c order a → IsVariant source c a
  in_order_variant c _ _ is valid allowed (in_any_order a answers) = variant c a is valid answers
  in_order_variant c _ _ is valid allowed (in_order word ds a stands answers) = variant c a is valid answers
  in_order_variant c _ _ is valid allowed (order_refused word fault refused) = absurd (no_order_fault source c word allowed.0 fault allowed.1 refused)

  line_variant : (config : Text) (c : Configuration) (order : Option Text) (a : Answer) → IsGood source → ConfigurationWord source config c
      → IsAllowedWord source c order → LineAnswer config order bytes source a → IsVariant source c a
  line_variant config c order _ is word allowed (configured d a other ordered) =
      in_order_variant c order a is word.valid allowed (subst (λ x. OrderAnswer bytes source x order a) (one_configuration source config d c other word) ordered)
  line_variant config c order _ is word allowed (configuration_refused fault refused) = absurd (no_fault source config c fault word refused)

  -- ---- of the file that a command names

  module _ (left : Text → Option (List ℕ)) (path : Text) (held : left path ≡ Some bytes) (a : Answer) where
    told : (Gives : List ℕ → Answer → Type 0) → ((x : List ℕ) × ForSome (left path) (λ all. x ≡ all) × Gives x a) → Gives bytes a
    told Gives (x, may, gives) =
        let same : x ≡ bytes = subst (λ (o : Option (List ℕ)). ForSome o (λ all. x ≡ all)) held may bytes refl in
        subst (λ all. Gives all a) same gives

    pub checked : (command : Option Command) → command ≡ Some (check path) → Answers left command a → IsSmall source → IsVerdict bytes source a
    checked command is answers small =
        verdict small a (of_the_line Checks a (told (OfLine Checks) (subst (λ k. Answers left k a) is answers)))

    generated : (config : Text) (c : Configuration) (order : Option Text) → Answers left (Some (generation path config order)) a → IsGood source
        → ConfigurationWord source config c → IsAllowedWord source c order → IsVariant source c a
    generated config c None answers is word allowed =
        line_variant config c None a is word allowed (of_the_line (LineAnswer config None) a (told (OfLine (LineAnswer config None)) answers))
    generated config c (Some order) answers is word allowed =
        line_variant config c (Some order) a is word allowed (of_the_line (LineAnswer config (Some order)) a (told (OfLine (LineAnswer config (Some order))) answers))

    pub varied : (command : Option Command) (config : Text) (c : Configuration) (order : Option Text) → command ≡ Some (generation path config order)
        → Answers left command a → IsGood source → ConfigurationWord source config c → IsAllowedWord source c order → IsVariant source c a
    varied command config c order is answers = generated config c order (subst (λ k. Answers left k a) is answers)
