-- Laws of answers.
use Rattle.std.specs.Prelude.{◌≡◌, ◌↔◌, ◌≤◌, ℕ, List, [], ◌∷◌, length, Option, None, Contains}
use Rattle.dj_names.specs.Texts.{Text}
use Rattle.dj_lexer.specs.declared.token.Token.{Token}
use Rattle.dj_lexer.specs.declared.token.TheConstants.{MAX_LENGTH}
use Rattle.dj_tree.specs.Trees.{Source}
use Rattle.dj_calculus.specs.Configurations.{Configuration}
use Rattle.java_reader.specs.Files.{HasTokenList}
use Rattle.dj_generate.specs.Generated.{IsGenerated}
use Rattle.dj_run.specs.Commands.{command_of}
use Rattle.dj_run.specs.Answers.{Answer, yes, Typechecks, Defines, IsTold, HasFixedText}

-- where the files of the command tell what is left of them, the words define answers of one status
abbrev pub OneStatus : Type 0
OneStatus = (words : List Text) (left : Text → Option (List ℕ)) (a b : Answer) → IsTold (command_of words) left → Defines words left a → Defines words left b → a.status ≡ b.status

-- and one answer, where the text of the command's answers is fixed
abbrev pub OneText : Type 0
OneText = (words : List Text) (left : Text → Option (List ℕ)) (a b : Answer) → HasFixedText (command_of words) → IsTold (command_of words) left
    → Defines words left a → Defines words left b → a ≡ b

-- the statuses of answers
abbrev pub statuses : List ℕ
statuses = 0 ∷ 1 ∷ 2 ∷ 3 ∷ 64 ∷ 70 ∷ []

-- no other status is defined, whatever is left of files
abbrev pub StatusesAreListed : Type 0
StatusesAreListed = (words : List Text) (left : Text → Option (List ℕ)) (a : Answer) → Defines words left a → Contains statuses a.status

-- 64 is the status of words that are no command, and of no others
abbrev pub UsageIsForNoCommand : Type 0
UsageIsForNoCommand = (words : List Text) (left : Text → Option (List ℕ)) (a : Answer) → Defines words left a → ((a.status ≡ 64) ↔ (command_of words ≡ None))

-- `typecheck` says `yes` to what is generated of a configuration, where that keeps the limits of a Java file
abbrev pub GeneratedTypechecks : Type 0
GeneratedTypechecks = (source : Source) (c : Configuration) (text : Text) (tokens : List Token) (a : Answer) → IsGenerated source c text
    → length text ≤ MAX_LENGTH → HasTokenList text tokens → Typechecks text a → a ≡ yes
