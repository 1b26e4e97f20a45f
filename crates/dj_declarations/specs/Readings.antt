-- Readings of declarations, one a production of the grammar, given those of expressions and of formulas.
use Rattle.std.specs.Prelude.{ℕ, List, Option, Some, None, codes}
use Rattle.dj_names.specs.Texts.{Text}
use Rattle.dj_lexer.specs.Symbols.{Symbol}
use Rattle.dj_tree.specs.Trees.{Spot, Formula, Expr, Field, Method, Class, MemberOperation, modifies_method, removes_field, removes_method}
use Rattle.dj_tree.specs.Trees.{Operation, adds_class, modifies_class, removes_class, Delta, Item, Part, Source}
use Rattle.dj_tree.specs.ClassGrammar.{Member, field_member, method_member, fields_of, methods_of}
use Rattle.dj_tree.specs.LineGrammar.{adds_member}
use Rattle.dj_reader.specs.Terminals.{is_the_word, is_the_sign}
use Rattle.dj_reader.specs.Reading.{Outcome}
use Rattle.dj_reader.specs.Combining.{a_sign, a_word, a_name, both, mapped, either, until, to_end, optionally, listing}

-- what is read second of two, and a word with a name
abbrev pub second : {X Y : Type 0} → X × Y → Y
second p = p.1

abbrev pub behind : {X Y : Type 0} → (List Symbol → Outcome X) → (List Symbol → Outcome Y) → List Symbol → Outcome Y
behind first read symbols = mapped second (both first read) symbols

abbrev pub word_and_name : Text → List Symbol → Outcome Spot
word_and_name text symbols = behind (a_word text) a_name symbols

-- "{" { piece } "}"
abbrev pub braced : {X : Type 0} → (List Symbol → Outcome X) → List Symbol → Outcome (List X)
braced piece symbols = behind (a_sign (codes "{")) (until (is_the_sign (codes "}")) piece) symbols

-- ---- members

-- NAME NAME
abbrev pub field_from : Spot × Spot → Field
field_from p = record { kind = p.0; name = p.1 }

abbrev pub typed_reading : List Symbol → Outcome Field
typed_reading symbols = mapped field_from (both a_name a_name) symbols

-- "(" [ NAME NAME { "," NAME NAME } ] ")"
abbrev pub parameters_reading : List Symbol → Outcome (List Field)
parameters_reading symbols = behind (a_sign (codes "(")) (listing (codes ")") typed_reading) symbols

-- "{" "return" expr ";" "}"
abbrev pub body_from : ℕ × (ℕ × (Expr × (ℕ × ℕ))) → Expr
body_from p = p.1.1.0

abbrev pub body_reading : (List Symbol → Outcome Expr) → List Symbol → Outcome Expr
body_reading expr symbols = mapped body_from (both (a_sign (codes "{")) (both (a_word (codes "return")) (both expr (both (a_sign (codes ";")) (a_sign (codes "}")))))) symbols

-- method = NAME NAME and the rest
abbrev pub rest_reading : (List Symbol → Outcome Expr) → List Symbol → Outcome (List Field × Expr)
rest_reading expr symbols = both parameters_reading (body_reading expr) symbols

abbrev pub method_of : Field → List Field × Expr → Method
method_of f rest = record { kind = f.kind; name = f.name; parameters = rest.0; body = rest.1 }

abbrev pub method_from : Field × (List Field × Expr) → Method
method_from p = method_of p.0 p.1

abbrev pub method_reading : (List Symbol → Outcome Expr) → List Symbol → Outcome Method
method_reading expr symbols = mapped method_from (both typed_reading (rest_reading expr)) symbols

-- member = NAME NAME ";" | method
abbrev pub member_of : Field → Option (List Field × Expr) → Member
member_of f None = field_member f
member_of f (Some rest) = method_member (method_of f rest)

abbrev pub member_from : Field × Option (List Field × Expr) → Member
member_from p = member_of p.0 p.1

abbrev pub no_rest : ℕ → Option (List Field × Expr)
no_rest at = None

abbrev pub member_reading : (List Symbol → Outcome Expr) → List Symbol → Outcome Member
member_reading expr symbols =
    mapped member_from (both typed_reading (either (is_the_sign (codes ";")) (mapped no_rest (a_sign (codes ";"))) (mapped Some (rest_reading expr)))) symbols

-- ---- classes

-- class = "class" NAME [ "extends" NAME ] "{" { member } "}"
abbrev pub class_from : ℕ × (Spot × (Option Spot × List Member)) → Class
class_from p = record { name = p.1.0; parent = p.1.1.0; fields = fields_of p.1.1.1; methods = methods_of p.1.1.1 }

abbrev pub class_reading : (List Symbol → Outcome Expr) → List Symbol → Outcome Class
class_reading expr symbols =
    mapped class_from (both (a_word (codes "class")) (both a_name (optionally (is_the_word (codes "extends")) (word_and_name (codes "extends")) (braced (member_reading expr))))) symbols

-- java = { class }
abbrev pub java_reading : (List Symbol → Outcome Expr) → List Symbol → Outcome (List Class)
java_reading expr symbols = to_end (class_reading expr) symbols

-- ---- operations

-- "field" NAME ";" and "method" NAME ";"
abbrev pub name_from : ℕ × (Spot × ℕ) → Spot
name_from p = p.1.0

abbrev pub removed_reading : Text → List Symbol → Outcome Spot
removed_reading text symbols = mapped name_from (both (a_word text) (both a_name (a_sign (codes ";")))) symbols

-- memberop = "adds" member | "modifies" method | "removes" "field" NAME ";" | "removes" "method" NAME ";"
abbrev pub member_operation_reading : (List Symbol → Outcome Expr) → List Symbol → Outcome MemberOperation
member_operation_reading expr symbols =
    either (is_the_word (codes "adds")) (mapped adds_member (behind (a_word (codes "adds")) (member_reading expr)))
    (either (is_the_word (codes "modifies")) (mapped modifies_method (behind (a_word (codes "modifies")) (method_reading expr)))
    (behind (a_word (codes "removes")) (either (is_the_word (codes "field")) (mapped removes_field (removed_reading (codes "field"))) (mapped removes_method (removed_reading (codes "method"))))))
    symbols

-- "class" NAME [ "extends" NAME ] "{" { memberop } "}"
abbrev pub change_from : ℕ × (Spot × (Option Spot × List MemberOperation)) → Operation
change_from p = modifies_class (record { name = p.1.0; parent = p.1.1.0; members = p.1.1.1 })

abbrev pub change_reading : (List Symbol → Outcome Expr) → List Symbol → Outcome Operation
change_reading expr symbols =
    mapped change_from
    (both (a_word (codes "class")) (both a_name (optionally (is_the_word (codes "extends")) (word_and_name (codes "extends")) (braced (member_operation_reading expr)))))
    symbols

-- classop = "adds" class | "modifies" and a change | "removes" "class" NAME ";"
abbrev pub operation_reading : (List Symbol → Outcome Expr) → List Symbol → Outcome Operation
operation_reading expr symbols =
    either (is_the_word (codes "adds")) (mapped adds_class (behind (a_word (codes "adds")) (class_reading expr)))
    (either (is_the_word (codes "modifies")) (behind (a_word (codes "modifies")) (change_reading expr))
    (mapped removes_class (behind (a_word (codes "removes")) (removed_reading (codes "class")))))
    symbols

-- delta = "delta" NAME "{" { classop } "}"
abbrev pub delta_from : ℕ × (Spot × List Operation) → Delta
delta_from p = record { name = p.1.0; operations = p.1.1 }

abbrev pub delta_reading : (List Symbol → Outcome Expr) → List Symbol → Outcome Delta
delta_reading expr symbols = mapped delta_from (both (a_word (codes "delta")) (both a_name (braced (operation_reading expr)))) symbols

-- ---- lines

-- NAME [ "when" formula ] ";"
abbrev pub item_from : Spot × (Option Formula × ℕ) → Item
item_from p = record { delta = p.0; condition = p.1.0 }

abbrev pub item_reading : (List Symbol → Outcome Formula) → List Symbol → Outcome Item
item_reading formula symbols =
    mapped item_from (both a_name (optionally (is_the_word (codes "when")) (behind (a_word (codes "when")) formula) (a_sign (codes ";")))) symbols

-- part = "part" NAME [ "after" NAME ] "{" { item } "}"
abbrev pub part_from : ℕ × (Spot × (Option Spot × List Item)) → Part
part_from p = record { name = p.1.0; after = p.1.1.0; items = p.1.1.1 }

abbrev pub part_reading : (List Symbol → Outcome Formula) → List Symbol → Outcome Part
part_reading formula symbols =
    mapped part_from
    (both (a_word (codes "part")) (both a_name (optionally (is_the_word (codes "after")) (word_and_name (codes "after")) (braced (item_reading formula)))))
    symbols

-- "line" NAME "{"
abbrev pub title_from : ℕ × (Spot × ℕ) → Spot
title_from p = p.1.0

abbrev pub title_reading : List Symbol → Outcome Spot
title_reading symbols = mapped title_from (both (a_word (codes "line")) (both a_name (a_sign (codes "{")))) symbols

-- "features" [ NAME { "," NAME } ] ";"
abbrev pub features_reading : List Symbol → Outcome (List Spot)
features_reading symbols = behind (a_word (codes "features")) (listing (codes ";") a_name) symbols

-- "valid" formula ";"
abbrev pub valid_from : ℕ × (Formula × ℕ) → Formula
valid_from p = p.1.0

abbrev pub valid_reading : (List Symbol → Outcome Formula) → List Symbol → Outcome Formula
valid_reading formula symbols = mapped valid_from (both (a_word (codes "valid")) (both formula (a_sign (codes ";")))) symbols

-- source = title, features, valid formula, { part } "}" { delta }
abbrev pub source_from : Spot × (List Spot × (Formula × (List Part × List Delta))) → Source
source_from p = record { title = p.0; features = p.1.0; valid = p.1.1.0; parts = p.1.1.1.0; deltas = p.1.1.1.1 }

abbrev pub source_reading : (List Symbol → Outcome Expr) → (List Symbol → Outcome Formula) → List Symbol → Outcome Source
source_reading expr formula symbols =
    mapped source_from
    (both title_reading (both features_reading (both (valid_reading formula) (both (until (is_the_sign (codes "}")) (part_reading formula)) (to_end (delta_reading expr))))))
    symbols
