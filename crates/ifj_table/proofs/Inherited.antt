-- What the calls of a table tell of members that a class has or inherits.
use Rattle.std.proofs.Common.{◌≡◌, ℕ, ◌+◌, ◌<◌, ◌≤◌, List, length, map, slice_get, Option, Some, None, refl, sym, ap, ◌∙◌, subst, arith}
use Rattle.std.specs.Prelude.{IsSome}
use Rattle.std.specs.FinMap.{get}
use Rattle.dj_names.specs.Texts.{Text}
use Rattle.dj_tree.specs.Plain.{plain_spot}
use Rattle.dj_calculus.specs.Subclasses.{Nearest}
use Rattle.dj_calculus.specs.Tables as calculus
use Rattle.ifj_table.specs.Sorted.{AreRising, IsGap, map_of}
use Rattle.ifj_table.specs.Entries.{text_at, plain_class}
use Rattle.ifj_table.specs.Tables.{plain_table, class_keys, name_text}
use Rattle.ifj_table.specs.Held.{IsClassEntry}
use Rattle.ifj_table.specs.Lookups.{IsClassNamed}
use Rattle.ifj_table.specs.declared.entry.ClassEntry.{ClassEntry}
use Rattle.ifj_table.specs.declared.table.Table.{Table}
use Rattle.ifj_table.proofs.EntryMaps.{got_at, missing_in_gap}
use Rattle.ifj_table.proofs.TableLemmas.{all_at}
use Rattle.ifj_table.proofs.Superclasses.{among_keys, as_many_keys}
use Rattle.ifj_table.proofs.Climbing.{Climbed, climbed_more, found_here, none_past, none_at_all}

-- an entry that a look-up gave is one of the table
pub entry_held : (t : Table) (name : Text) (class : ClassEntry) → IsClassNamed t name class → IsClassEntry t.names t.exprs class
entry_held t name class is = all_at (IsClassEntry t.names t.exprs) t.classes.items is.number class t.held.each is.stands

module _ {X : Type 0} (t : Table) (member : calculus.ClassEntry → Option X) (from to : Text) (count : ℕ) (climbed : Climbed (plain_table t) member count from to) where
  pub no_member : get (plain_table t) to ≡ None → (owner : Text) (x : X) → ¬ (Nearest (plain_table t) member from owner x)
  no_member missing = none_past (plain_table t) member count from to climbed missing

  pub no_member_at_all : length t.classes.items ≤ count → (owner : Text) (x : X) → ¬ (Nearest (plain_table t) member from owner x)
  no_member_at_all many = none_at_all (plain_table t) member (class_keys t) (among_keys t) count from to climbed (omega (arith, many, as_many_keys t))

  pub member_here : (class : ClassEntry) (x : X) → get (plain_table t) to ≡ Some (plain_class t.names t.exprs class) → member (plain_class t.names t.exprs class) ≡ Some x → Nearest (plain_table t) member from to x
  member_here class x there has = found_here (plain_table t) member count from to (plain_class t.names t.exprs class) x climbed there has

  pub climbs_past : (class : ClassEntry) → get (plain_table t) to ≡ Some (plain_class t.names t.exprs class) → member (plain_class t.names t.exprs class) ≡ None
      → Climbed (plain_table t) member (count + 1) from (plain_spot t.names class.parent).text
  climbs_past class there lacks = climbed_more (plain_table t) member count from to (plain_class t.names t.exprs class) climbed there lacks
