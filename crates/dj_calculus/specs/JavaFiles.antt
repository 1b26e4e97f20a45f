-- Which bytes are the Java text of which table, and the faults of a Java file that the grammar accepts.
use Rattle.std.specs.Prelude.{◌≡◌, ℕ, List, map, Contains, codes}
use Rattle.std.specs.FinMap.{from_entries}
use Rattle.dj_names.specs.Texts.{Text}
use Rattle.dj_lexer.specs.Tokens.{TokenList}
use Rattle.dj_lexer.specs.Symbols.{symbols_of}
use Rattle.dj_lexer.specs.declared.token.Token.{Token}
use Rattle.dj_lexer.specs.declared.token.Dialect.TheVariants.{Java}
use Rattle.dj_tree.specs.Spells.{SpellsJava}
use Rattle.dj_tree.specs.Trees.{Method, Class}
use Rattle.dj_calculus.specs.Firsts.{IsFirst}
use Rattle.dj_calculus.specs.FaultPlaces.{Repeats}
use Rattle.dj_calculus.specs.Tables.{Table, SameTable}
use Rattle.dj_calculus.specs.Entries.{class_entry}

-- in the order in which they are looked for
pub data JavaFault : Type 0 where
  RepeatedClass : JavaFault
  RepeatedMember : JavaFault
  RepeatedParameter : JavaFault

abbrev pub java_fault_rank : JavaFault → ℕ
java_fault_rank RepeatedClass = 0
java_fault_rank RepeatedMember = 1
java_fault_rank RepeatedParameter = 2

-- where each fault stands
pub data JavaFaultStands (classes : List Class) : JavaFault → ℕ → Type 0 where
  -- at a class that was declared before, or is `Object`
  repeated_class : (at : ℕ) → Repeats (map (λ c. c.name) classes) at → JavaFaultStands classes RepeatedClass at
  object_class : (class : Class) → Contains classes class → class.name.text ≡ codes "Object" → JavaFaultStands classes RepeatedClass class.name.at
  -- at a field, or a method, that was declared before in its class
  repeated_field : (class : Class) (at : ℕ) → Contains classes class → Repeats (map (λ f. f.name) class.fields) at
      → JavaFaultStands classes RepeatedMember at
  repeated_method : (class : Class) (at : ℕ) → Contains classes class → Repeats (map (λ m. m.name) class.methods) at
      → JavaFaultStands classes RepeatedMember at
  -- at a parameter that was named before in its method
  repeated_parameter : (class : Class) (method : Method) (at : ℕ) → Contains classes class → Contains class.methods method
      → Repeats (map (λ p. p.name) method.parameters) at → JavaFaultStands classes RepeatedParameter at

-- the first of the faults that stands anywhere, at its least place
abbrev pub FirstJavaFault : List Class → JavaFault → ℕ → Type 0
FirstJavaFault classes = IsFirst java_fault_rank (JavaFaultStands classes)

-- the table of the classes, with their places
abbrev pub table_of : List Class → Table
table_of classes = from_entries (map (λ c. (c.name.text, class_entry c)) classes)

-- the bytes spell classes without a fault, and this is their table, with its places in the bytes
pub record ReadsAs (bytes : Text) (t : Table) : Type 0 where
  pub tokens : List Token
  pub lexed : TokenList Java bytes tokens
  pub classes : List Class
  pub spelled : SpellsJava (symbols_of bytes tokens) classes
  pub sound : (fault : JavaFault) (at : ℕ) → ¬ (JavaFaultStands classes fault at)
  pub made : t ≡ table_of classes

-- the bytes are the text of this table, wherever its names stand
abbrev pub IsJava : Text → Table → Type 0
IsJava bytes t = (read : Table) × ReadsAs bytes read × SameTable read t
