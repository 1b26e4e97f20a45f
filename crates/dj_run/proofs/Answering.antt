-- What is answered of what was read is an answer of the command.
use Rattle.std.proofs.Common.{◌≡◌, ℕ, ◌+◌, ◌<◌, List, length, Option, Some, None, refl, arith, replicate}
use Rattle.std.proofs.lemmas.List.{length-replicate}
use Rattle.std.specs.Option.{ForSome}
use Rattle.dj_names.specs.Texts.{Text}
use Rattle.dj_run.specs.Commands.{Command, check, generate, generate_in_order, verify, explain, typecheck, sample, try, IsUnbuilt, file_of}
use Rattle.dj_run.specs.Answers.{Answer, not_built, Answers}
use Rattle.dj_run.specs.Outcomes.{asking, answered}
use Rattle.dj_run.specs.declared.commands.Question.{Question}
use Rattle.dj_run.specs.declared.commands.Question.TheVariants.{IsGood, Generated, IsTyped}

pub unbuilt_answer : (left : Text → Option (List ℕ)) (command : Option Command) → IsUnbuilt command → Answers left command not_built
unbuilt_answer left None h = absurd h
unbuilt_answer left (Some (check x)) h = absurd h
unbuilt_answer left (Some (generate file config)) h = absurd h
unbuilt_answer left (Some (generate_in_order file config order)) h = absurd h
unbuilt_answer left (Some (verify x y)) h = refl
unbuilt_answer left (Some (explain x)) h = refl
unbuilt_answer left (Some (typecheck x)) h = absurd h
unbuilt_answer left (Some (sample x)) h = refl
unbuilt_answer left (Some (try x)) h = refl

-- the command that asks about a file reads it
pub reads_asked : (question : Question) (file : Text) → file_of (Some (asking question file)) ≡ Some file
reads_asked IsGood file = refl
reads_asked (Generated config None) file = refl
reads_asked (Generated config (Some order)) file = refl
reads_asked IsTyped file = refl

-- what is answered of bytes that the file may hold is an answer of the command
pub asked_answer : (left : Text → Option (List ℕ)) (question : Question) (file : Text) (bytes : List ℕ) (a : Answer) → ForSome (left file) (λ all. bytes ≡ all)
    → answered question bytes a → Answers left (Some (asking question file)) a
asked_answer left IsGood file bytes a held is = (bytes, held, is)
asked_answer left (Generated config None) file bytes a held is = (bytes, held, is)
asked_answer left (Generated config (Some order)) file bytes a held is = (bytes, held, is)
asked_answer left IsTyped file bytes a held is = (bytes, held, is)

-- a file that tells nothing may hold more bytes than any number
pub too_many : (n : ℕ) (left : Option (List ℕ)) → ForSome left (λ all. n < length all) → (bytes : List ℕ) × ForSome left (λ all. bytes ≡ all) × (n < length bytes)
too_many n None h = (replicate (n + 1) 0, λ all e. absurd cc, omega (arith, length-replicate {A = ℕ} (n + 1) 0))
too_many n (Some all) h = (all, λ x e. cc, h all refl)
