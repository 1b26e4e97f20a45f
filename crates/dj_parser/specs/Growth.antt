-- How the tables of names and nodes grow while a source is made.
use Rattle.std.specs.Prelude.{◌<◌, ◌≤◌, ◌+◌, ◌-◌, ◌^◌, List, length, All}
use Rattle.std.specs.Str.{IsUtf8}
use Rattle.dj_names.specs.Texts.{Text, Extends}
use Rattle.dj_tree.specs.PostOrder.{KeepsNodes}
use Rattle.dj_tree.specs.WellFormed.{IsFormulaNode, IsExprNode}
use Rattle.dj_parser.specs.declared.tables.Tables.{Tables}

-- the names of all nodes are there
pub record AreKnown (t : Tables) : Type 0 where
  pub formulas : All (IsFormulaNode t.names) t.formulas
  pub exprs : All (IsExprNode t.names) t.exprs

-- there is room for a name and a node for each text, and each is UTF-8
pub record CanSay (t : Tables) (texts : List Text) : Type 0 where
  pub known : AreKnown t
  pub utf8 : All IsUtf8 texts
  pub names : length t.names + length texts < 2 ^ 32 - 1
  pub formulas : length t.formulas + length texts < 2 ^ 32 - 1
  pub exprs : length t.exprs + length texts < 2 ^ 32 - 1

-- names and trees keep their numbers, and at most one is new for each text
pub record Grew (old new : Tables) (texts : List Text) : Type 0 where
  pub known : AreKnown new
  pub names : Extends old.names new.names
  pub formulas : KeepsNodes old.formulas new.formulas
  pub exprs : KeepsNodes old.exprs new.exprs
  pub few_names : length new.names ≤ length old.names + length texts
  pub few_formulas : length new.formulas ≤ length old.formulas + length texts
  pub few_exprs : length new.exprs ≤ length old.exprs + length texts

-- P holds of the tables, and of any that they grow to
abbrev pub Lasts : Tables → (Tables → Type 0) → Type 0
Lasts t P = (later : Tables) (texts : List Text) → Grew t later texts → P later
