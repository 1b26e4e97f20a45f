-- In a table whose entries stand at places of a predicate each instance does, and its rule is one of the table of rules.
use Rattle.std.proofs.Common.{◌≡◌, ℕ, ◌≤◌, List, Some, slice_get, Contains, refl, arith}
use Rattle.std.proofs.lemmas.Option.{slice_get_within, get_or_from_slice_get}
use Rattle.dj_names.specs.Texts.{Text}
use Rattle.arena_walk.specs.Tree.{list_of}
use Rattle.dj_tree.specs.Trees.{Expr, Class, adds_class}
use Rattle.dj_calculus.specs.Tables.{Table, ClassEntry}
use Rattle.dj_calculus.specs.Entries.{field_entry, method_entry, class_entry}
use Rattle.dj_calculus.specs.JavaFiles.{table_of}
use Rattle.dj_calculus.specs.Typing.{Home, IsBody, kept}
use Rattle.dj_calculus.specs.BodyRules as body
use Rattle.dj_calculus.specs.BodyRules.{IsWithin, itself, deeper, place_of, NodeRule}
use Rattle.dj_calculus.specs.TableRules as table
use Rattle.dj_calculus.specs.TableRules.{TableRule}
use Rattle.dj_calculus.proofs.Members.{among_others}
use Rattle.dj_calculus.proofs.ProductsKeep.{ClassIs, TableIs, each_of_entries}
use Rattle.dj_instance_laws.proofs.Told.{Told, FieldTold, MethodTold, parent_told, field_told, method_told, class_field, class_method}

-- an element by its number is within
pub got : {X : Type 0} (xs : List X) (k : ℕ) (x : X) → slice_get xs k ≡ Some x → Contains xs x
got xs k x at = (k, slice_get_within xs k x at, get_or_from_slice_get xs k x x at)

within_whole : (e part whole : Expr) → IsWithin e part → IsWithin part whole → IsWithin e whole
within_whole e _ _ inside itself = inside
within_whole e part whole inside (deeper {part = between} deep child) = deeper (within_whole e part between inside deep) child

-- a rule of the table of rules, at a place of the predicate
pub record Numbered (A : ℕ → Type 0) (rule at : ℕ) : Type 0 where
  pub from_one : 1 ≤ rule
  pub to_last : rule ≤ 23
  pub place : A at

pub numbered : (A : ℕ → Type 0) (rule at : ℕ) → 1 ≤ rule → rule ≤ 23 → A at → Numbered A rule at
numbered A rule at low high place = record { from_one = low; to_last = high; place = place }

module _ (A : ℕ → Type 0) where
  abbrev pub EntriesTold : Table → Type 0
  EntriesTold = TableIs (λ k. Unit {0}) (λ p. A p.at) (λ f x. FieldTold A x) (λ m x. MethodTold A x)

  abbrev pub EntryTold : Text → ClassEntry → Type 0
  EntryTold = ClassIs (λ k. Unit {0}) (λ p. A p.at) (λ f x. FieldTold A x) (λ m x. MethodTold A x)

  -- the entry of a class
  pub class_told : (c : Class) → Told A (adds_class c) → EntryTold c.name.text (class_entry c)
  class_told c told =
      record {
        name = tt;
        parent = parent_told A c c.parent refl told;
        fields = each_of_entries (λ k x. FieldTold A x) (λ f. f.name.text) field_entry c.fields (λ f within. field_told A f (class_field A c f told within));
        methods = each_of_entries (λ k x. MethodTold A x) (λ m. m.name.text) method_entry c.methods (λ m within. method_told A m (class_method A c m told within));
      }

  -- and the table of classes
  pub classes_told : (classes : List Class) → ((c : Class) → Contains classes c → Told A (adds_class c)) → EntriesTold (table_of classes)
  classes_told classes told = each_of_entries EntryTold (λ c. c.name.text) class_entry classes (λ c within. class_told c (told c within))

  -- ---- nodes

  node_told : (t : Table) (home : Home) (e : Expr) (rule at : ℕ) → ((n : Expr) → IsWithin n e → A (place_of n)) → NodeRule t home e rule at → Numbered A rule at
  node_told t home _ _ _ all (body.unknown_variable none) = numbered A _ _ (omega arith) (omega arith) (all _ itself)
  node_told t home _ _ _ all (body.unknown_class_new missing) = numbered A _ _ (omega arith) (omega arith) (all _ itself)
  node_told t home _ _ _ all (body.unknown_class_cast typed missing) = numbered A _ _ (omega arith) (omega arith) (all _ itself)
  node_told t home _ _ _ all (body.no_field a typed missing) = numbered A _ _ (omega arith) (omega arith) (all _ itself)
  node_told t home _ _ _ all (body.no_field_assigned a typed value missing) = numbered A _ _ (omega arith) (omega arith) (all _ itself)
  node_told t home _ _ _ all (body.no_method a typed arguments missing) = numbered A _ _ (omega arith) (omega arith) (all _ itself)
  node_told t home _ _ _ all (body.number_of_call a heading typed has wrong) = numbered A _ _ (omega arith) (omega arith) (all _ itself)
  node_told t home _ _ _ all (body.number_of_original wrong) = numbered A _ _ (omega arith) (omega arith) (all _ itself)
  node_told t home _ _ _ all (body.argument_of_call {arguments = arguments} a heading v typed has wrong) =
      numbered A _ _ (omega arith) (omega arith)
      (all v (deeper itself (among_others _ v (list_of arguments) (got (list_of arguments) wrong.number v wrong.argument))))
  node_told t home _ _ _ all (body.argument_of_original {arguments = arguments} v wrong) =
      numbered A _ _ (omega arith) (omega arith) (all v (deeper itself (got (list_of arguments) wrong.number v wrong.argument)))
  node_told t home _ _ _ all (body.assigned_type a kind b typed has value wrong) = numbered A _ _ (omega arith) (omega arith) (all _ itself)
  node_told t home _ _ _ all (body.unrelated_cast a typed there below above) = numbered A _ _ (omega arith) (omega arith) (all _ itself)
  node_told t home _ _ _ all (body.field_of_null null) = numbered A _ _ (omega arith) (omega arith) (all _ itself)
  node_told t home _ _ _ all (body.method_of_null null arguments) = numbered A _ _ (omega arith) (omega arith) (all _ itself)
  node_told t home _ _ _ all (body.assignment_of_null null value) = numbered A _ _ (omega arith) (omega arith) (all _ itself)

  -- ---- tables

  body_told : (t : Table) (home : Home) (e : Expr) → EntriesTold t → IsBody t home e → (n : Expr) → IsWithin n e → A (place_of n)
  body_told t _ _ told (kept {c = c} m {entry = entry} {method = method} {body = b} there has within) = ((told c entry there).methods m method has).bodies b within

  pub table_told : (t : Table) (rule at : ℕ) → EntriesTold t → TableRule t rule at → Numbered A rule at
  table_told t _ _ told (table.unknown_superclass c entry there missing) = numbered A _ _ (omega arith) (omega arith) (told c entry there).parent
  table_told t _ _ told (table.circular_superclasses c entry there endless) = numbered A _ _ (omega arith) (omega arith) (told c entry there).parent
  table_told t _ _ told (table.unknown_field_type c f entry field there has missing) =
      numbered A _ _ (omega arith) (omega arith) ((told c entry there).fields f field has).1
  table_told t _ _ told (table.unknown_method_type c m entry method kind there has named missing) =
      numbered A _ _ (omega arith) (omega arith) (((told c entry there).methods m method has).types kind named)
  table_told t _ _ told (table.hidden_field c d f entry upper field there has above is also) =
      numbered A _ _ (omega arith) (omega arith) ((told c entry there).fields f field has).0
  table_told t _ _ told (table.override_differs c d m entry upper method other there has above is also differs) =
      numbered A _ _ (omega arith) (omega arith) ((told c entry there).methods m method has).name
  table_told t _ _ told (table.of_node home e rule at is breaks) =
      node_told t home breaks.node rule at (λ n within. body_told t home e told is n (within_whole n breaks.node e within breaks.within)) breaks.breaks
  table_told t _ _ told (table.returned_type home e kind is typed wrong) = numbered A _ _ (omega arith) (omega arith) (body_told t home e told is e itself)
