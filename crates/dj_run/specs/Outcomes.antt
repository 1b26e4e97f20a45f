-- What the program's own types stand for.
use Rattle.std.specs.Prelude.{◌≡◌, ◌≢◌, ◌<◌, ◌≤◌, ℕ, List, length, Option, Some, None}
use Rattle.std.specs.Option.{option_map}
use Rattle.std.specs.Borrow.{Bor}
use Rattle.dj_names.specs.Texts.{Text}
use Rattle.dj_lexer.specs.declared.token.TheConstants.{MAX_LENGTH}
use Rattle.dj_run.specs.Commands.{check, generation, typecheck, IsUnbuilt}
use Rattle.dj_run.specs.Commands as table
use Rattle.dj_run.specs.Answers.{Answer, usage, not_built, refused_file, refused_word, done, refuted, yes, yes_void, Checks, OfLine, Generates, Typechecks}
use Rattle.dj_run.specs.declared.commands.Command.{Command}
use Rattle.dj_run.specs.declared.commands.Command.TheVariants.{Ask, Unbuilt}
use Rattle.dj_run.specs.declared.commands.Question.{Question}
use Rattle.dj_run.specs.declared.commands.Question.TheVariants.{IsGood, Generated, IsTyped}
use Rattle.dj_run.specs.declared.reading.Reading.{Reading}
use Rattle.dj_run.specs.declared.reading.Reading.TheVariants.{Bytes, TooLong}
use Rattle.dj_run.specs.declared.outcome.Outcome.{Outcome}
use Rattle.dj_run.specs.declared.outcome.Outcome.TheVariants.{Usage, NotBuilt, FileRefused, WordRefused, Made, Yes, YesVoid, No}

-- the word of an operand that may be left out
abbrev pub word_of : Option (Bor (List ℕ)) → Option Text
word_of operand = option_map (λ word. word.now) operand

-- the command that asks a question about a file
abbrev pub asking : Question → Text → table.Command
asking IsGood file = check file
asking (Generated config order) file = generation file config.now (word_of order)
asking IsTyped file = typecheck file

-- what is answered to it, of the bytes of the file
abbrev pub answered : Question → List ℕ → Answer → Type 0
answered IsGood = OfLine Checks
answered (Generated config order) = Generates config.now (word_of order)
answered IsTyped = Typechecks

-- the command that was read is the one of the table
abbrev pub Reads : Option Command → Option table.Command → Type 0
Reads None command = command ≡ None
Reads (Some Unbuilt) command = IsUnbuilt command
Reads (Some (Ask file question)) command = command ≡ Some (asking question file.now)

-- what was read of a file that has these bytes: all of them, or that there are too many
abbrev pub IsReading : List ℕ → Reading → Type 0
IsReading bytes (Bytes read) = (read.items ≡ bytes) × (length bytes ≤ MAX_LENGTH)
IsReading bytes TooLong = MAX_LENGTH < length bytes

-- the answer that an outcome stands for
abbrev pub answer_of : Outcome → Answer
answer_of Usage = usage
answer_of NotBuilt = not_built
answer_of (FileRefused text) = refused_file text.items
answer_of (WordRefused text) = refused_word text.items
answer_of (Made text) = done text.items
answer_of Yes = yes
answer_of YesVoid = yes_void
answer_of (No text) = refuted text.items

-- a status of a call that met no fault and had memory
pub record IsDone (status : ℕ) : Type 0 where
  pub read : status ≢ 66
  pub had_memory : status ≢ 71
  pub written : status ≢ 74
