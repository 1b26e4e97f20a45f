-- Bytes say at most one line, or are refused for one reason.
use Rattle.std.specs.Prelude.{◌≡◌, ℕ, List}
use Rattle.dj_names.specs.Texts.{Text}
use Rattle.dj_tree.specs.Trees.{Source}
use Rattle.dj_calculus.specs.Tables.{Table, SameTable}
use Rattle.dj_calculus.specs.JavaFiles.{IsJava}
use Rattle.dj_refusals.specs.declared.refusal.Refusal.{Refusal}
use Rattle.dj_refusals.specs.Refusals.{IsWithin, IsNamed}
use Rattle.dj_front.specs.Files.{IsLineFile, IsRefusedFor}

abbrev pub OneLine : Type 0
OneLine = (bytes : List ℕ) (a b : Source) → IsLineFile bytes a → IsLineFile bytes b → a ≡ b

abbrev pub OneRefusal : Type 0
OneRefusal = (bytes : List ℕ) (a b : Refusal) → IsRefusedFor bytes a → IsRefusedFor bytes b → a ≡ b

-- a line isn't refused
abbrev pub NoRefusedLine : Type 0
NoRefusedLine = (bytes : List ℕ) (source : Source) (refusal : Refusal) → IsLineFile bytes source → ¬ (IsRefusedFor bytes refusal)

-- a refusal that bytes are refused for can be said of them: its place stands in them, and a token begins there where its text takes a name
abbrev pub RefusalsAreSaid : Type 0
RefusalsAreSaid = (bytes : List ℕ) (refusal : Refusal) → IsRefusedFor bytes refusal → IsWithin bytes refusal × IsNamed bytes refusal

-- two tables of one Java text are the same but for places
abbrev pub OneJavaTable : Type 0
OneJavaTable = (bytes : Text) (t u : Table) → IsJava bytes t → IsJava bytes u → SameTable t u
