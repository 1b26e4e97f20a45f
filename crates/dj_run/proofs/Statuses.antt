-- The statuses that answers have.
use Rattle.std.proofs.Common.{◌≡◌, ◌↔◌, ◌++◌, ℕ, codes, List, Option, None, Some, Contains, refl, sym, ap, ◌∙◌, subst, arith}
use Rattle.dj_names.specs.Texts.{Text}
use Rattle.dj_tree.specs.Trees.{Source}
use Rattle.dj_calculus.specs.Configurations.{Configuration}
use Rattle.dj_calculus.specs.JavaText.{line as text_line}
use Rattle.dj_report.specs.WordTexts.{configuration_text, order_text}
use Rattle.dj_run.specs.Commands.{Command, check, generate, generate_in_order, verify, explain, typecheck, sample, try}
use Rattle.dj_run.specs.Answers.{Answer, usage, not_built, done, refuted, refused_file, refused_word, VariantAnswer, good, bad, OrderAnswer, in_any_order, in_order, order_refused, LineAnswer, configured, configuration_refused, Checks, right, void, wrong, not_small, OfLine, of_line, file_refused, Generates, Typechecks, typed, untyped, java_refused, Answers}
use Rattle.dj_run.specs.Laws.{statuses}

-- a status of the list, but not that of words that are no command
record OfCommand (a : Answer) : Type 0 where
  pub listed : Contains statuses a.status
  pub other : a.status ≡ 64 → ⊥

is_done : (text : Text) → OfCommand (done text)
is_done text = record { listed = (0, omega arith, refl); other = λ e. omega arith }

is_not_built : OfCommand not_built
is_not_built = record { listed = (5, omega arith, refl); other = λ e. omega arith }

is_refuted : (text : Text) → OfCommand (refuted text)
is_refuted text = record { listed = (1, omega arith, refl); other = λ e. omega arith }

is_refused_file : (text : Text) → OfCommand (refused_file text)
is_refused_file text = record { listed = (2, omega arith, refl); other = λ e. omega arith }

is_refused_word : (text : Text) → OfCommand (refused_word text)
is_refused_word text = record { listed = (3, omega arith, refl); other = λ e. omega arith }

variant_status : (bytes : List ℕ) (source : Source) (c : Configuration) (a : Answer) → VariantAnswer bytes source c a → OfCommand a
variant_status bytes source c _ (good text is) = is_done text
variant_status bytes source c _ (bad i text least says) = is_refuted text

order_status : (bytes : List ℕ) (source : Source) (c : Configuration) (order : Option Text) (a : Answer) → OrderAnswer bytes source c order a → OfCommand a
order_status bytes source c _ _ (in_any_order a is) = variant_status bytes source c a is
order_status bytes source c _ _ (in_order word ds a stands is) = variant_status bytes source c a is
order_status bytes source c _ _ (order_refused word fault is) = is_refused_word (order_text word fault)

line_status : (config : Text) (order : Option Text) (bytes : List ℕ) (source : Source) (a : Answer) → LineAnswer config order bytes source a → OfCommand a
line_status config order bytes source _ (configured c a is ordered) = order_status bytes source c order a ordered
line_status config order bytes source _ (configuration_refused fault is) = is_refused_word (configuration_text config fault)

generate_status : (config : Text) (order : Option Text) (bytes : List ℕ) (a : Answer) → Generates config order bytes a → OfCommand a
generate_status config order bytes _ (of_line source a file is) = line_status config order bytes source a is
generate_status config order bytes _ (file_refused refusal text is says) = is_refused_file text

checks_status : (bytes : List ℕ) (source : Source) (a : Answer) → Checks bytes source a → OfCommand a
checks_status bytes source _ (right small is some) = is_done (text_line (codes "yes"))
checks_status bytes source _ (void small is) = is_done (text_line (codes "yes void"))
checks_status bytes source _ (wrong c i text small valid least says) = is_refuted text
checks_status bytes source _ (not_small more) = is_not_built

check_status : (bytes : List ℕ) (a : Answer) → OfLine Checks bytes a → OfCommand a
check_status bytes _ (of_line source a file is) = checks_status bytes source a is
check_status bytes _ (file_refused refusal text is says) = is_refused_file text

typecheck_status : (bytes : List ℕ) (a : Answer) → Typechecks bytes a → OfCommand a
typecheck_status bytes _ (typed t short file is) = is_done (text_line (codes "yes"))
typecheck_status bytes _ (untyped t i text short file least says) = is_refuted (text_line (codes "no") ++ text)
typecheck_status bytes _ (java_refused refusal text refused says) = is_refused_file text

-- an answer of a command, and none where the words are none
pub record Status (a : Answer) (command : Option Command) : Type 0 where
  pub listed : Contains statuses a.status
  pub usage_exactly : (a.status ≡ 64) ↔ (command ≡ None)

of_none : (a : Answer) → a ≡ usage → Status a None
of_none a e = record {
  listed = (4, omega arith, ap (λ (x : Answer). 64) e ∙ sym (ap (λ (x : Answer). x.status) e));
  usage_exactly = (λ h. refl, λ h. ap (λ (x : Answer). x.status) e);
}

of_some : (a : Answer) (command : Command) → OfCommand a → Status a (Some command)
of_some a command is = record { listed = is.listed; usage_exactly = (λ h. absurd (is.other h), λ h. absurd cc) }

unbuilt : (a : Answer) (command : Command) → a ≡ not_built → Status a (Some command)
unbuilt a command e = of_some a command (subst OfCommand (sym e) is_not_built)

pub status_of : (left : Text → Option (List ℕ)) (a : Answer) (command : Option Command) → Answers left command a → Status a command
status_of left a None h = of_none a h
status_of left a (Some (check file)) h = of_some a (check file) (check_status h.0 a h.2)
status_of left a (Some (generate file config)) h = of_some a (generate file config) (generate_status config None h.0 a h.2)
status_of left a (Some (generate_in_order file config order)) h = of_some a (generate_in_order file config order) (generate_status config (Some order) h.0 a h.2)
status_of left a (Some (verify x y)) h = unbuilt a (verify x y) h
status_of left a (Some (explain x)) h = unbuilt a (explain x) h
status_of left a (Some (typecheck file)) h = of_some a (typecheck file) (typecheck_status h.0 a h.2)
status_of left a (Some (sample x)) h = unbuilt a (sample x) h
status_of left a (Some (try x)) h = unbuilt a (try x) h
