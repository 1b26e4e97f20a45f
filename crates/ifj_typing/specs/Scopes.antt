-- Where a body of a table stands.
use Rattle.std.specs.Prelude.{◌≡◌, ℕ, ◌<◌, List, Some, length, slice_get, IfOk}
use Rattle.dj_names.specs.Texts.{Text}
use Rattle.dj_tree.specs.declared.source.Instance.{Instance}
use Rattle.dj_calculus.specs.Tables as calculus
use Rattle.dj_calculus.specs.Typing.{Home, home_of}
use Rattle.ifj_table.specs.Tables.{plain_table, table_names, table_nodes}
use Rattle.ifj_table.specs.Entries.{plain_method, plain_body}
use Rattle.ifj_table.specs.Held.{IsMethodEntry, IsBody}
use Rattle.ifj_lineages.specs.Lineages.{AreLineages}
use Rattle.ifj_typing.specs.Kinds.{text_of, IsKnownKind}
use Rattle.ifj_typing.specs.Least.{IsFault}
use Rattle.ifj_typing.specs.Parameters.{TellsTypes, spot_texts}
use Rattle.ifj_typing.specs.declared.kind.Typed.{Typed}
use Rattle.ifj_typing.specs.declared.scope.Scope.{Scope}

abbrev pub scope_names : Scope → List Text
scope_names s = table_names s.table.now

abbrev pub scope_table : Scope → calculus.Table
scope_table s = plain_table s.table.now

abbrev pub scope_home : Scope → Home
scope_home s =
    home_of (text_of (table_names s.table.now) s.class) (plain_method (table_names s.table.now) (table_nodes s.table.now) s.method.now)
    (plain_body (table_names s.table.now) (table_nodes s.table.now) s.body.now)

-- its class, its method, its body and its lineages are of the table, and the types are those of its parameters
pub record IsScope (s : Scope) : Type 0 where
  pub has_lineages : AreLineages s.table.now s.lineages.now
  pub named : s.class.0 < length (table_names s.table.now)
  pub has_method : IsMethodEntry (table_names s.table.now) (table_nodes s.table.now) s.method.now
  pub has_body : IsBody (table_names s.table.now) (table_nodes s.table.now) (length s.method.now.parameters) s.body.now
  pub has_types : TellsTypes (table_names s.table.now) (spot_texts (table_names s.table.now) s.body.now.parameters) (spot_texts (table_names s.table.now) s.method.now.parameters) s.parameters.now

-- for each expression a type was found
pub record IsTyped (names : List Text) (out : Typed) : Type 0 where
  pub sound : (i : Instance) → ¬ (IsFault out i)
  pub known : IfOk out.found (IsKnownKind names)

abbrev pub AreTyped : List Text → List Typed → Type 0
AreTyped names outs = (k : ℕ) (out : Typed) → slice_get outs k ≡ Some out → IsTyped names out
