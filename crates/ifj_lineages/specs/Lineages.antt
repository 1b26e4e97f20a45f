-- What is in force along the chains of superclasses of a table, by the numbers of names.
use Rattle.std.specs.Prelude.{◌≡◌, ◌<◌, ◌^◌, ℕ, List, length, slice_get, Some, is_some, MatchOption, Decides}
use Rattle.dj_names.specs.Texts.{Text}
use Rattle.dj_calculus.specs.Subclasses.{Above}
use Rattle.persistent_trie.specs.Versions.{IsVersion, says}
use Rattle.persistent_trie.specs.declared.node.Node.{Node}
use Rattle.persistent_trie.specs.declared.trie.Root.{Root}
use Rattle.ifj_table.specs.Entries.{text_at}
use Rattle.ifj_table.specs.Lookups.{IsFoundField, IsFoundMethod, HasNoField, HasNoMethod}
use Rattle.ifj_table.specs.Tables.{plain_table, table_names, table_classes, name_text}
use Rattle.ifj_table.specs.declared.entry.ClassEntry.{ClassEntry}
use Rattle.ifj_table.specs.declared.lookups.Found.{Found}
use Rattle.ifj_table.specs.declared.table.Table.{Table}
use Rattle.ifj_lineages.specs.Overrides.{Clashes}
use Rattle.ifj_lineages.specs.declared.lineages.Lineage.{Lineage}
use Rattle.ifj_lineages.specs.declared.lineages.Lineages.{Lineages}

-- a version says of each name the field that the class has or inherits
abbrev pub TellsFields : Table → List (Node Found) → Root → Text → Type 0
TellsFields t nodes root class = (name : ℕ) → name < length (table_names t) → name < 2 ^ 32
    → MatchOption (says nodes root name) (HasNoField t class (name_text t name)) (IsFoundField t class (name_text t name))

abbrev pub TellsMethods : Table → List (Node Found) → Root → Text → Type 0
TellsMethods t nodes root class = (name : ℕ) → name < length (table_names t) → name < 2 ^ 32
    → MatchOption (says nodes root name) (HasNoMethod t class (name_text t name)) (IsFoundMethod t class (name_text t name))

-- a version has the names of the classes above the class
abbrev pub TellsAbove : Table → List (Node (Unit {0})) → Root → Text → Type 0
TellsAbove t nodes root class = (name : ℕ) → name < length (table_names t) → name < 2 ^ 32
    → Decides (is_some (says nodes root name)) (Above (plain_table t) class (name_text t name))

-- a version has the names of which the class has methods with more than one signature, inherited ones among them
abbrev pub TellsClashes : Table → List (Node (Unit {0})) → Root → Text → Type 0
TellsClashes t nodes root class = (name : ℕ) → name < length (table_names t) → name < 2 ^ 32
    → Decides (is_some (says nodes root name)) (Clashes (plain_table t) class (name_text t name))

-- the four versions of a class
pub record Tells (t : Table) (all : Lineages) (class : Text) (lineage : Lineage) : Type 0 where
  pub has_fields : IsVersion all.fields lineage.fields
  pub fields : TellsFields t all.fields lineage.fields class
  pub has_methods : IsVersion all.methods lineage.methods
  pub methods : TellsMethods t all.methods lineage.methods class
  pub has_above : IsVersion all.above lineage.above
  pub above : TellsAbove t all.above lineage.above class
  pub has_clashes : IsVersion all.clashes lineage.clashes
  pub clashes : TellsClashes t all.clashes lineage.clashes class

-- each lineage is that of its class, by the number of the class
pub record AreLineages (t : Table) (all : Lineages) : Type 0 where
  pub count : length all.lineages.items ≡ length (table_classes t)
  pub tells : (number : ℕ) (class : ClassEntry) (lineage : Lineage) → slice_get (table_classes t) number ≡ Some class → slice_get all.lineages.items number ≡ Some (Some lineage)
      → Tells t all (text_at (table_names t) class.spot) lineage
