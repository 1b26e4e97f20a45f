-- The grammar of classes and their members: which tokens spell which class. One case a production.
use Rattle.std.specs.Prelude.{ℕ, List, [], ◌∷◌, ◌++◌, Option, Some, None, codes}
use Rattle.dj_lexer.specs.Symbols.{Symbol}
use Rattle.dj_lexer.specs.declared.token.Dialect.{Dialect}
use Rattle.dj_tree.specs.Words.{word, sign, named, IsName}
use Rattle.dj_tree.specs.Repeats.{Many, Listing}
use Rattle.dj_tree.specs.ExprGrammar.{SpellsExpr}
use Rattle.dj_tree.specs.Trees.{Spot, Expr, Field, Method, Class}

-- NAME NAME, a type and a name
pub data SpellsTyped : List Symbol → Field → Type 0 where
  typed : (kind x : Spot) → IsName kind → IsName x → SpellsTyped (named kind ∷ named x ∷ []) (record { kind = kind; name = x })

-- method = NAME NAME "(" [ NAME NAME { "," NAME NAME } ] ")" "{" "return" expr ";" "}"
pub data SpellsMethod : Dialect → List Symbol → Method → Type 0 where
  method : {d : Dialect} {head listed value : List Symbol} {declared : Field} {parameters : List Field} {body : Expr} (a b c e f g : ℕ)
      → SpellsTyped head declared → Listing SpellsTyped listed parameters → SpellsExpr d value body
      → SpellsMethod d
      (head ++ sign (codes "(") a ∷ (listed ++ sign (codes ")") b ∷ sign (codes "{") c ∷ word (codes "return") e ∷ (value ++ sign (codes ";") f ∷ sign (codes "}") g ∷ [])))
      (record { kind = declared.kind; name = declared.name; parameters = parameters; body = body })

-- a member of a class
pub data Member : Type 0 where
  field_member : Field → Member
  method_member : Method → Member

-- member = NAME NAME ";" | method
pub data SpellsMember : Dialect → List Symbol → Member → Type 0 where
  field : {d : Dialect} {head : List Symbol} {declared : Field} (semicolon : ℕ) → SpellsTyped head declared
      → SpellsMember d (head ++ sign (codes ";") semicolon ∷ []) (field_member declared)
  a_method : {d : Dialect} {s : List Symbol} {m : Method} → SpellsMethod d s m → SpellsMember d s (method_member m)

-- the fields and the methods among the members
abbrev pub fields_of : List Member → List Field
fields_of [] = []
fields_of (field_member f ∷ rest) = f ∷ fields_of rest
fields_of (method_member m ∷ rest) = fields_of rest

abbrev pub methods_of : List Member → List Method
methods_of [] = []
methods_of (field_member f ∷ rest) = methods_of rest
methods_of (method_member m ∷ rest) = m ∷ methods_of rest

-- [ word NAME ]
pub data SpellsOptional (keyword : List ℕ) : List Symbol → Option Spot → Type 0 where
  omitted : SpellsOptional keyword [] None
  given : (at : ℕ) (x : Spot) → IsName x → SpellsOptional keyword (word keyword at ∷ named x ∷ []) (Some x)

-- class = "class" NAME [ "extends" NAME ] "{" { member } "}"
pub data SpellsClass : Dialect → List Symbol → Class → Type 0 where
  class : {d : Dialect} {extension body : List Symbol} {parent : Option Spot} {members : List Member} (at opening closing : ℕ) (c : Spot) → IsName c
      → SpellsOptional (codes "extends") extension parent → Many (SpellsMember d) body members
      → SpellsClass d (word (codes "class") at ∷ named c ∷ (extension ++ sign (codes "{") opening ∷ (body ++ sign (codes "}") closing ∷ [])))
      (record { name = c; parent = parent; fields = fields_of members; methods = methods_of members })
