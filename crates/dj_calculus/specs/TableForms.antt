-- What every class table has.
use Rattle.std.specs.Prelude.{◌≡◌, ℕ, ◌<◌, length, None, Some, Contains}
use Rattle.std.specs.FinMap.{get}
use Rattle.dj_names.specs.Texts.{Text}
use Rattle.dj_calculus.specs.Tables.{Signature, Body, MethodEntry, ClassEntry, Table}
use Rattle.dj_calculus.specs.Subclasses.{object}
use Rattle.dj_calculus.specs.Expressions.{IsExpression}
use Rattle.dj_calculus.specs.FaultPlaces.{Repeats}

-- P of each method of each class
abbrev pub EachMethod : Table → (MethodEntry → Type 0) → Type 0
EachMethod t P = (c m : Text) (entry : ClassEntry) (method : MethodEntry) → get t c ≡ Some entry → get entry.methods m ≡ Some method → P method

-- P of each body that a method keeps
abbrev pub EachBody : MethodEntry → (Body → Type 0) → Type 0
EachBody method P = (body : Body) → Contains method.bodies body → P body

-- an expression, with as many names of parameters as the signature has types
pub record HasBody (signature : Signature) (body : Body) : Type 0 where
  pub expression : IsExpression body.value
  pub count : length body.names ≡ length signature.parameters

-- one body at least, and each is one
pub record IsMethod (method : MethodEntry) : Type 0 where
  pub some : 0 < length method.bodies
  pub bodies : EachBody method (HasBody method.signature)

-- `Object` is no class, and each method is one
pub record IsTable (t : Table) : Type 0 where
  pub no_object : get t object ≡ None
  pub methods : EachMethod t IsMethod

-- no body has a parameter twice
abbrev pub HasDistinctParameters : Table → Type 0
HasDistinctParameters t = EachMethod t (λ method. EachBody method (λ body. (at : ℕ) → ¬ (Repeats body.names at)))
