-- What the program answers: an exit status, and a text for its output.
use Rattle.std.specs.Prelude.{◌≡◌, ◌≤◌, ◌++◌, ℕ, List, length, Option, Some, None, IsSome, codes}
use Rattle.std.specs.Option.{ForSome}
use Rattle.dj_names.specs.Texts.{Text}
use Rattle.dj_lexer.specs.declared.token.TheConstants.{MAX_LENGTH}
use Rattle.dj_tree.specs.Trees.{Delta, Source}
use Rattle.dj_tree.specs.declared.source.Instance.{Instance}
use Rattle.dj_calculus.specs.Configurations.{Configuration, IsValid, ConfigurationFault, ConfigurationWord, ConfigurationWordFault}
use Rattle.dj_calculus.specs.Products.{OrderFault, OrderWord, OrderWordFault}
use Rattle.dj_calculus.specs.Good.{IsGood, IsVoid}
use Rattle.dj_calculus.specs.Instances.{IsLeast}
use Rattle.dj_calculus.specs.LineRules.{Counts}
use Rattle.dj_calculus.specs.TableRules.{CountsIn}
use Rattle.dj_calculus.specs.Tables.{Table}
use Rattle.dj_calculus.specs.Typing.{WellTyped}
use Rattle.dj_calculus.specs.JavaText.{line as text_line}
use Rattle.dj_report.specs.Refusals.{IsRefusalText}
use Rattle.dj_report.specs.Rules.{IsRuleText}
use Rattle.dj_report.specs.Answers.{IsNoText}
use Rattle.dj_report.specs.WordTexts.{configuration_text, order_text}
use Rattle.dj_refusals.specs.declared.refusal.Refusal.{Refusal}
use Rattle.dj_front.specs.Files.{IsLineFile, IsRefusedFor}
use Rattle.java_reader.specs.Files.{IsJavaFile}
use Rattle.dj_check.specs.Small.{IsSmall}
use Rattle.dj_generate.specs.Generated.{IsGenerated}
use Rattle.dj_run.specs.JavaFiles.{IsRefusedAsJava}
use Rattle.dj_run.specs.Commands.{Command, check, generate, generate_in_order, verify, explain, typecheck, sample, try, command_of, ReadsFile}

pub record Answer : Type 0 where
  pub status : ℕ
  pub text : Text

abbrev pub usage : Answer
usage = record {
  status = 64;
  text = text_line (codes "usage: deltaj check FILE | generate FILE CONFIG [ORDER] | verify FILE CERT | explain FILE | typecheck FILE | sample N | try N");
}

abbrev pub not_built : Answer
not_built = record { status = 70; text = text_line (codes "not built") }

-- the file is refused, a word is refused, and what was asked for, with these texts
abbrev pub refused_file : Text → Answer
refused_file text = record { status = 2; text = text }

abbrev pub refused_word : Text → Answer
refused_word text = record { status = 3; text = text }

abbrev pub done : Text → Answer
done text = record { status = 0; text = text }

-- a rule is broken, with this text
abbrev pub refuted : Text → Answer
refuted text = record { status = 1; text = text }

abbrev pub yes : Answer
yes = done (text_line (codes "yes"))

abbrev pub yes_void : Answer
yes_void = done (text_line (codes "yes void"))

-- ---- generate

-- For a configuration: where it is good, the text that is generated of it. Else some instance counts in it, and the least one is told.
pub data VariantAnswer (bytes : List ℕ) (source : Source) (c : Configuration) : Answer → Type 0 where
  good : (text : Text) → IsGenerated source c text → VariantAnswer bytes source c (done text)
  bad : (i : Instance) (text : Text) → IsLeast (Counts source c) i → IsNoText bytes source c i text → VariantAnswer bytes source c (refuted text)

-- In this configuration, with this order word, where one is given. Every allowed order makes the same.
pub data OrderAnswer (bytes : List ℕ) (source : Source) (c : Configuration) : Option Text → Answer → Type 0 where
  in_any_order : (answer : Answer) → VariantAnswer bytes source c answer → OrderAnswer bytes source c None answer
  in_order : (word : Text) (order : List Delta) (answer : Answer) → OrderWord source c word order → VariantAnswer bytes source c answer
      → OrderAnswer bytes source c (Some word) answer
  order_refused : (word : Text) (fault : OrderFault) → OrderWordFault source c word fault
      → OrderAnswer bytes source c (Some word) (refused_word (order_text word fault))

-- for a line that bytes say, a configuration word and an order word
pub data LineAnswer (config : Text) (order : Option Text) (bytes : List ℕ) (source : Source) : Answer → Type 0 where
  configured : (c : Configuration) (answer : Answer) → ConfigurationWord source config c → OrderAnswer bytes source c order answer
      → LineAnswer config order bytes source answer
  configuration_refused : (fault : ConfigurationFault) → ConfigurationWordFault source config fault
      → LineAnswer config order bytes source (refused_word (configuration_text config fault))

-- ---- check

-- For a line that bytes say: whether it is good. Where it isn't, a valid configuration is told, and the least instance that counts in it; which
-- configuration is open. Lines of more than 12 features aren't checked yet.
pub data Checks (bytes : List ℕ) (source : Source) : Answer → Type 0 where
  right : IsSmall source → IsGood source → ¬ (IsVoid source) → Checks bytes source yes
  void : IsSmall source → IsVoid source → Checks bytes source yes_void
  wrong : (c : Configuration) (i : Instance) (text : Text) → IsSmall source → IsValid source c → IsLeast (Counts source c) i → IsNoText bytes source c i text
      → Checks bytes source (refuted text)
  not_small : ¬ (IsSmall source) → Checks bytes source not_built

-- ---- typecheck

-- For the bytes of a Java file: whether the table of its classes is well typed. Where it isn't, the least instance that counts in it is told.
pub data Typechecks (bytes : List ℕ) : Answer → Type 0 where
  typed : (t : Table) → length bytes ≤ MAX_LENGTH → IsJavaFile bytes t → WellTyped t → Typechecks bytes yes
  untyped : (t : Table) (i : Instance) (text : Text) → length bytes ≤ MAX_LENGTH → IsJavaFile bytes t → IsLeast (CountsIn t) i → IsRuleText bytes i text
      → Typechecks bytes (refuted (text_line (codes "no") ++ text))
  java_refused : (refusal : Refusal) (text : Text) → IsRefusedAsJava bytes refusal → IsRefusalText bytes refusal text
      → Typechecks bytes (refused_file text)

-- ---- from files

-- the bytes are those that are left of the path, where it tells them
abbrev pub MayHold : (Text → Option (List ℕ)) → Text → List ℕ → Type 0
MayHold left path bytes = ForSome (left path) (λ all. bytes ≡ all)

-- what is answered of the bytes of a file
abbrev pub OfFile : (Text → Option (List ℕ)) → Text → (List ℕ → Answer → Type 0) → Answer → Type 0
OfFile left file Gives answer = (bytes : List ℕ) × MayHold left file bytes × Gives bytes answer

-- what is answered of the product line that bytes say, or why they are refused
pub data OfLine (Gives : List ℕ → Source → Answer → Type 0) (bytes : List ℕ) : Answer → Type 0 where
  of_line : (source : Source) (answer : Answer) → IsLineFile bytes source → Gives bytes source answer → OfLine Gives bytes answer
  file_refused : (refusal : Refusal) (text : Text) → IsRefusedFor bytes refusal → IsRefusalText bytes refusal text → OfLine Gives bytes (refused_file text)

-- `generate`, of the bytes of its file
abbrev pub Generates : Text → Option Text → List ℕ → Answer → Type 0
Generates config order = OfLine (LineAnswer config order)

-- ---- all commands

-- what a command answers, given what is left of each path
abbrev pub Answers : (Text → Option (List ℕ)) → Option Command → Answer → Type 0
Answers left None answer = answer ≡ usage
Answers left (Some (check file)) answer = OfFile left file (OfLine Checks) answer
Answers left (Some (generate file config)) answer = OfFile left file (Generates config None) answer
Answers left (Some (generate_in_order file config order)) answer = OfFile left file (Generates config (Some order)) answer
Answers left (Some (verify _ _)) answer = answer ≡ not_built
Answers left (Some (explain _)) answer = answer ≡ not_built
Answers left (Some (typecheck file)) answer = OfFile left file Typechecks answer
Answers left (Some (sample _)) answer = answer ≡ not_built
Answers left (Some (try _)) answer = answer ≡ not_built

-- an answer that the words define
abbrev pub Defines : List Text → (Text → Option (List ℕ)) → Answer → Type 0
Defines words left answer = Answers left (command_of words) answer

-- the file that the command reads tells what is left of it
abbrev pub IsTold : Option Command → (Text → Option (List ℕ)) → Type 0
IsTold command left = (file : Text) → ReadsFile command file → IsSome (left file)

-- the command's answers have one text, where the bytes are known: a `check` may tell any configuration that fails
abbrev pub HasFixedText : Option Command → Type 0
HasFixedText None = Unit {0}
HasFixedText (Some (check _)) = ⊥
HasFixedText (Some (generate _ _)) = Unit {0}
HasFixedText (Some (generate_in_order _ _ _)) = Unit {0}
HasFixedText (Some (verify _ _)) = Unit {0}
HasFixedText (Some (explain _)) = Unit {0}
HasFixedText (Some (typecheck _)) = Unit {0}
HasFixedText (Some (sample _)) = Unit {0}
HasFixedText (Some (try _)) = Unit {0}
