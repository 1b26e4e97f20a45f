-- Laws of the definitions.
use Rattle.std.specs.Prelude.{◌≡◌, ◌↔◌, ◌≤◌, ℕ, List, None, Contains}
use Rattle.std.specs.FinMap.{get}
use Rattle.dj_names.specs.Texts.{Text}
use Rattle.dj_tree.specs.Trees.{Expr, Class, Part, Source}
use Rattle.dj_tree.specs.Spells.{Laid, LaidJava}
use Rattle.dj_tree.specs.declared.source.Instance.{Instance}
use Rattle.dj_calculus.specs.Configurations.{Configuration}
use Rattle.dj_calculus.specs.Faults.{Fault, RepeatedPart}
use Rattle.dj_calculus.specs.FaultPlaces.{FaultStands}
use Rattle.dj_calculus.specs.Accepted.{FirstFault, IsAccepted}
use Rattle.dj_calculus.specs.Parts.{IsReached, chain}
use Rattle.dj_calculus.specs.Good.{HasProduct, GoodAt, IsGood, IsVoid}
use Rattle.dj_calculus.specs.Tables.{Table, Heading}
use Rattle.dj_calculus.specs.Products.{IsAllowed, default_order, Product}
use Rattle.dj_calculus.specs.Subclasses.{object, Kind, FieldOf, MethodOf}
use Rattle.dj_calculus.specs.Typing.{Home, Types, WellTyped}
use Rattle.dj_calculus.specs.Expressions.{HasExpressions, HaveExpressions}
use Rattle.dj_calculus.specs.TableForms.{IsTable}
use Rattle.dj_calculus.specs.Instances.{layer, IsLower, IsLeast}
use Rattle.dj_calculus.specs.TableRules.{StandsIn, CountsIn}
use Rattle.dj_calculus.specs.LineRules.{Stands, Counts, BreaksRule}

-- a source has at most one first fault, at one place, and none where it is accepted
pub record OneFirstFault : Type 0 where
  pub same_fault : (source : Source) (f g : Fault) (a b : ℕ) → FirstFault source f a → FirstFault source g b → f ≡ g
  pub same_place : (source : Source) (f : Fault) (a b : ℕ) → FirstFault source f a → FirstFault source f b → a ≡ b
  pub none : (source : Source) (f : Fault) (a : ℕ) → IsAccepted source → ¬ (FirstFault source f a)

-- a void line is good
abbrev pub VoidIsGood : Type 0
VoidIsGood = (source : Source) → IsVoid source → IsGood source

-- a class has at most one field, and one method, of a name
abbrev pub OneField : Type 0
OneField = (t : Table) (c f a b : Text) → FieldOf t c f a → FieldOf t c f b → a ≡ b

abbrev pub OneMethod : Type 0
OneMethod = (t : Table) (c m : Text) (a b : Heading) → MethodOf t c m a → MethodOf t c m b → a ≡ b

-- an expression has at most one type
abbrev pub OneType : Type 0
OneType = (t : Table) (home : Home) (e : Expr) (a b : Kind) → Types t home e a → Types t home e b → a ≡ b

-- the parts on the chain are those that are reached, where no part is repeated
abbrev pub ChainIsReached : Type 0
ChainIsReached = (source : Source) (p : Part) → ((at : ℕ) → ¬ (FaultStands source RepeatedPart at))
    → Contains (chain source) p ↔ IsReached source.parts p

-- the default order is allowed
abbrev pub DefaultIsAllowed : Type 0
DefaultIsAllowed = (source : Source) (c : Configuration) → IsAllowed source c (default_order source c)

-- a configuration has at most one product
abbrev pub OneProduct : Type 0
OneProduct = (source : Source) (c : Configuration) (t u : Table) → Product source c t → Product source c u → t ≡ u

-- An instance counts exactly if it stands and no instance of a lower layer counts, for a line and for a table alone.
abbrev pub LineCountsByLayers : Type 0
LineCountsByLayers = (source : Source) (c : Configuration) (i : Instance)
    → Counts source c i ↔ (Stands source c i × ((lower : Instance) → IsLower lower i → ¬ (Counts source c lower)))

abbrev pub TableCountsByLayers : Type 0
TableCountsByLayers = (t : Table) (i : Instance) → CountsIn t i ↔ (StandsIn t i × ((lower : Instance) → IsLower lower i → ¬ (CountsIn t lower)))

-- of instances at most one is the least
abbrev pub OneLeast : Type 0
OneLeast = (source : Source) (c : Configuration) (i j : Instance) → IsLeast (Counts source c) i → IsLeast (Counts source c) j → i ≡ j

abbrev pub OneLeastInTable : Type 0
OneLeastInTable = (t : Table) (i j : Instance) → IsLeast (CountsIn t) i → IsLeast (CountsIn t) j → i ≡ j

-- No rule is broken in a well typed table, in which `Object` is no class.
abbrev pub WellTypedBreaksNothing : Type 0
WellTypedBreaksNothing = (t : Table) → get t object ≡ None → WellTyped t → (i : Instance) → ¬ (StandsIn t i)

-- No rule is broken in a good configuration of an accepted line.
abbrev pub GoodBreaksNothing : Type 0
GoodBreaksNothing = (source : Source) (c : Configuration) → IsAccepted source → GoodAt source c → (i : Instance) → ¬ (Stands source c i)

-- In a configuration of an accepted line the active deltas of each part are disjoint and there is a product exactly if no instance
-- of layers 1 and 2 counts.
abbrev pub ProductExactlyIf : Type 0
ProductExactlyIf = (source : Source) (c : Configuration) → IsAccepted source
    → HasProduct source c ↔ ((i : Instance) → layer i.rule ≤ 2 → ¬ (Counts source c i))

-- A table is well typed exactly if no instance counts in it.
abbrev pub WellTypedExactlyIf : Type 0
WellTypedExactlyIf = (t : Table) → IsTable t → WellTyped t ↔ ((i : Instance) → ¬ (CountsIn t i))

-- the bodies of a source that tokens spell are expressions, and so are those of classes that tokens of Java spell
abbrev pub LaidHasExpressions : Type 0
LaidHasExpressions = (source : Source) → Laid source → HasExpressions source

abbrev pub LaidHaveExpressions : Type 0
LaidHaveExpressions = (classes : List Class) → LaidJava classes → HaveExpressions classes

-- A configuration of an accepted line whose bodies are expressions is good exactly if no instance counts in it.
abbrev pub GoodExactlyIf : Type 0
GoodExactlyIf = (source : Source) (c : Configuration) → HasExpressions source → IsAccepted source
    → GoodAt source c ↔ ((i : Instance) → ¬ (Counts source c i))

-- It is good exactly if it breaks no rule.
abbrev pub GoodExactlyIfUnbroken : Type 0
GoodExactlyIfUnbroken = (source : Source) (c : Configuration) → HasExpressions source → IsAccepted source
    → GoodAt source c ↔ ((rule : ℕ) → ¬ (BreaksRule source c rule))
