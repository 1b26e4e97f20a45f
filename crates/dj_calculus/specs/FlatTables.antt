-- Flat tables: each version of a method is a method of its own, and `original(..)` is a call of the version before.
use Rattle.std.specs.Prelude.{◌≡◌, ◌⊎◌, ℕ, ◌+◌, ◌-◌, ◌==◌, Bool, List, [], ◌∷◌, ◌++◌, map, length, slice_get, Some, IsFalse, codes, if◌then◌else◌}
use Rattle.std.specs.List.{All, list_any, enumerate_from, flat_map}
use Rattle.std.specs.Fmt.{decimal}
use Rattle.std.specs.FinMap.{entries, from_entries}
use Rattle.dj_names.specs.Texts.{Text}
use Rattle.arena_walk.specs.Tree.{nodes, over, fold_tree}
use Rattle.dj_tree.specs.Trees.{Expr, ExprForm, VariableForm, ThisForm, NullForm, FieldForm, CallForm, NewForm, CastForm, AssignForm, OriginalForm, this_at, call_of}
use Rattle.dj_calculus.specs.Tables.{FieldEntry, Body, MethodEntry, ClassEntry, Table, texts_of}
use Rattle.dj_calculus.specs.Entries.{says_original}
use Rattle.dj_calculus.specs.TableForms.{EachMethod}

-- m$C$k, the name of the version of this number of method m of class C
abbrev pub version_name : Text → Text → ℕ → Text
version_name c m k = m ++ (codes "$" ++ (c ++ (codes "$" ++ decimal k)))

-- `original(..)` as a call of this method of `this`, and any other node as it is
abbrev pub calling_over : Text → ExprForm → List Expr → Expr
calling_over name (OriginalForm at) parts = call_of (this_at at) (record { text = name; at = at }) parts
calling_over name form parts = over form parts

abbrev pub calling : Text → Expr → Expr
calling name e = fold_tree (calling_over name) e

-- The version of this number. The newest keeps the method's name. Version 0 says no `original`, so what it would call is of no account.
abbrev pub version : Text → Text → MethodEntry → ℕ × Body → Text × MethodEntry
version c m method numbered = (
  if numbered.0 + 1 == length method.bodies then m else version_name c m numbered.0,
  record method { bodies = record { names = numbered.1.names; value = calling (version_name c m (numbered.0 - 1)) numbered.1.value } ∷ [] },
)

abbrev pub versions : Text → Text × MethodEntry → List (Text × MethodEntry)
versions c entry = map (version c entry.0 entry.1) (enumerate_from 0 entry.1.bodies)

abbrev pub flat_class : Text × ClassEntry → Text × ClassEntry
flat_class entry = (entry.0, record entry.1 { methods = from_entries (flat_map (versions entry.0) (entries entry.1.methods)) })

abbrev pub flat : Table → Table
flat t = from_entries (map flat_class (entries t))

-- ---- where a flat table is defined

-- the names that a table says anywhere
abbrev pub names_in_form : ExprForm → List Text
names_in_form (VariableForm x) = x.text ∷ []
names_in_form (ThisForm at) = []
names_in_form (NullForm at) = []
names_in_form (FieldForm f) = f.text ∷ []
names_in_form (CallForm m) = m.text ∷ []
names_in_form (NewForm c) = c.text ∷ []
names_in_form (CastForm c) = c.text ∷ []
names_in_form (AssignForm f) = f.text ∷ []
names_in_form (OriginalForm at) = []

abbrev pub names_in_body : Body → List Text
names_in_body body = texts_of body.names ++ flat_map names_in_form (nodes body.value)

abbrev pub names_in_field : Text × FieldEntry → List Text
names_in_field entry = entry.0 ∷ entry.1.kind.text ∷ []

abbrev pub names_in_method : Text × MethodEntry → List Text
names_in_method entry =
    entry.0 ∷ entry.1.signature.result.text ∷ (texts_of entry.1.signature.parameters ++ flat_map names_in_body entry.1.bodies)

abbrev pub names_in_class : Text × ClassEntry → List Text
names_in_class entry =
    entry.0 ∷ entry.1.parent.text ∷ (flat_map names_in_field (entries entry.1.fields) ++ flat_map names_in_method (entries entry.1.methods))

abbrev pub has_dollar : Text → Bool
has_dollar name = list_any (λ byte. byte == 36) name

-- there is an oldest body, and it says no `original`
abbrev pub BeginsPlainly : MethodEntry → Type 0
BeginsPlainly method = (oldest : Body) × (slice_get method.bodies 0 ≡ Some oldest) × IsFalse (says_original oldest.value)

-- there is one body, and it says no `original`
abbrev pub HasOneBody : MethodEntry → Type 0
HasOneBody method = (body : Body) × (method.bodies ≡ body ∷ []) × IsFalse (says_original body.value)

abbrev pub IsFlat : Table → Type 0
IsFlat t = EachMethod t HasOneBody

abbrev pub HasNoDollar : Table → Type 0
HasNoDollar t = All (λ name. IsFalse (has_dollar name)) (flat_map names_in_class (entries t))

-- the tables of which a flat table is defined: those of products, and those that are flat
abbrev pub IsFlattenable : Table → Type 0
IsFlattenable t = (EachMethod t BeginsPlainly × HasNoDollar t) ⊎ IsFlat t
