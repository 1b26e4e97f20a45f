-- The grammar of product lines: which tokens spell which source. One case a production.
use Rattle.std.specs.Prelude.{ℕ, List, [], ◌∷◌, ◌++◌, Option, Some, None, codes}
use Rattle.dj_lexer.specs.Symbols.{Symbol}
use Rattle.dj_lexer.specs.declared.token.Dialect.TheVariants.{Line}
use Rattle.dj_tree.specs.Words.{word, sign, named, IsName}
use Rattle.dj_tree.specs.Repeats.{Many, Listing}
use Rattle.dj_tree.specs.FormulaGrammar.{SpellsFormula}
use Rattle.dj_tree.specs.ClassGrammar.{Member, field_member, method_member, SpellsMember, SpellsMethod, SpellsOptional, SpellsClass}
use Rattle.dj_tree.specs.Trees.{Spot, Formula, Method, Class, MemberOperation, adds_field, adds_method, modifies_method, removes_field, removes_method}
use Rattle.dj_tree.specs.Trees.{Operation, adds_class, modifies_class, removes_class, Delta, Item, Part, Source}

-- the operation that adds a member
abbrev pub adds_member : Member → MemberOperation
adds_member (field_member f) = adds_field f
adds_member (method_member m) = adds_method m

-- memberop = "adds" member | "modifies" method | "removes" "field" NAME ";" | "removes" "method" NAME ";"
pub data SpellsMemberOperation : List Symbol → MemberOperation → Type 0 where
  adds : {s : List Symbol} {m : Member} (at : ℕ) → SpellsMember Line s m → SpellsMemberOperation (word (codes "adds") at ∷ s) (adds_member m)
  modifies : {s : List Symbol} {m : Method} (at : ℕ) → SpellsMethod Line s m → SpellsMemberOperation (word (codes "modifies") at ∷ s) (modifies_method m)
  field_removed : (a b c : ℕ) (f : Spot) → IsName f
      → SpellsMemberOperation (word (codes "removes") a ∷ word (codes "field") b ∷ named f ∷ sign (codes ";") c ∷ []) (removes_field f)
  method_removed : (a b c : ℕ) (m : Spot) → IsName m
      → SpellsMemberOperation (word (codes "removes") a ∷ word (codes "method") b ∷ named m ∷ sign (codes ";") c ∷ []) (removes_method m)

-- classop = "adds" class | "modifies" "class" NAME [ "extends" NAME ] "{" { memberop } "}" | "removes" "class" NAME ";"
pub data SpellsOperation : List Symbol → Operation → Type 0 where
  class_added : {s : List Symbol} {c : Class} (at : ℕ) → SpellsClass Line s c → SpellsOperation (word (codes "adds") at ∷ s) (adds_class c)
  class_modified : {extension body : List Symbol} {parent : Option Spot} {members : List MemberOperation} (a b opening closing : ℕ) (c : Spot) → IsName c
      → SpellsOptional (codes "extends") extension parent → Many SpellsMemberOperation body members
      → SpellsOperation
      (word (codes "modifies") a ∷ word (codes "class") b ∷ named c ∷ (extension ++ sign (codes "{") opening ∷ (body ++ sign (codes "}") closing ∷ [])))
      (modifies_class (record { name = c; parent = parent; members = members }))
  class_removed : (a b semicolon : ℕ) (c : Spot) → IsName c
      → SpellsOperation (word (codes "removes") a ∷ word (codes "class") b ∷ named c ∷ sign (codes ";") semicolon ∷ []) (removes_class c)

-- delta = "delta" NAME "{" { classop } "}"
pub data SpellsDelta : List Symbol → Delta → Type 0 where
  delta : {body : List Symbol} {operations : List Operation} (at opening closing : ℕ) (d : Spot) → IsName d → Many SpellsOperation body operations
      → SpellsDelta (word (codes "delta") at ∷ named d ∷ sign (codes "{") opening ∷ (body ++ sign (codes "}") closing ∷ []))
      (record { name = d; operations = operations })

-- [ "when" formula ]
pub data SpellsCondition : List Symbol → Option Formula → Type 0 where
  no_condition : SpellsCondition [] None
  when : {s : List Symbol} {a : Formula} (at : ℕ) → SpellsFormula s a → SpellsCondition (word (codes "when") at ∷ s) (Some a)

-- NAME [ "when" formula ] ";"
pub data SpellsItem : List Symbol → Item → Type 0 where
  item : {s : List Symbol} {condition : Option Formula} (semicolon : ℕ) (d : Spot) → IsName d → SpellsCondition s condition
      → SpellsItem (named d ∷ (s ++ sign (codes ";") semicolon ∷ [])) (record { delta = d; condition = condition })

-- part = "part" NAME [ "after" NAME ] "{" { item } "}"
pub data SpellsPart : List Symbol → Part → Type 0 where
  part : {before body : List Symbol} {after : Option Spot} {items : List Item} (at opening closing : ℕ) (p : Spot) → IsName p
      → SpellsOptional (codes "after") before after → Many SpellsItem body items
      → SpellsPart (word (codes "part") at ∷ named p ∷ (before ++ sign (codes "{") opening ∷ (body ++ sign (codes "}") closing ∷ [])))
      (record { name = p; after = after; items = items })

-- NAME
pub data SpellsName : List Symbol → Spot → Type 0 where
  a_name : (x : Spot) → IsName x → SpellsName (named x ∷ []) x

-- source = "line" NAME "{" "features" [ NAME { "," NAME } ] ";" "valid" formula ";" { part } "}" { delta }
pub data SpellsSource : List Symbol → Source → Type 0 where
  source : {listed condition chain modules : List Symbol} {features : List Spot} {valid : Formula} {parts : List Part} {deltas : List Delta}
      (a b c e f g h : ℕ) (title : Spot) → IsName title → Listing SpellsName listed features → SpellsFormula condition valid → Many SpellsPart chain parts
      → Many SpellsDelta modules deltas
      → SpellsSource
      (word (codes "line") a ∷ named title ∷ sign (codes "{") b ∷ word (codes "features") c ∷ (listed ++ sign (codes ";") e ∷ word (codes "valid") f
      ∷ (condition ++ sign (codes ";") g ∷ (chain ++ sign (codes "}") h ∷ modules))))
      (record { title = title; features = features; valid = valid; parts = parts; deltas = deltas })
