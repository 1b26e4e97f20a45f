-- A method that is declared again, with one more body.
use Rattle.std.specs.Prelude.{◌≡◌, ℕ, List, [], ◌∷◌, ◌++◌, map, slice_get, slice_set, Some}
use Rattle.dj_names.specs.Texts.{Text}
use Rattle.dj_tree.specs.declared.declarations.Spot.{Spot}
use Rattle.ifj_table.specs.Entries.{text_at}
use Rattle.ifj_table.specs.declared.entry.Body.{Body}
use Rattle.ifj_table.specs.declared.entry.MethodEntry.{MethodEntry}

-- the method of this name among others is declared again: it has the names and types of the new declaration, and its body behind the others
pub record IsRedeclaredAmong (before : List MethodEntry) (name : Text) (names : List Text) (result spot : Spot) (types : List Spot) (body : Body) (after : List MethodEntry) : Type 0 where
  pub at : ℕ
  pub old : MethodEntry
  pub new : MethodEntry
  pub stood : slice_get before at ≡ Some old
  pub named : text_at names old.spot ≡ name
  pub result_is : new.result ≡ result
  pub spot_is : new.spot ≡ spot
  pub types_are : new.parameters ≡ types
  pub bodies_are : new.bodies.items ≡ old.bodies.items ++ body ∷ []
  pub stands : after ≡ slice_set before at new

-- nothing of a method has changed
pub record AreSameMethods (before after : List MethodEntry) : Type 0 where
  pub at : ℕ
  pub old : MethodEntry
  pub new : MethodEntry
  pub stood : slice_get before at ≡ Some old
  pub result_is : new.result ≡ old.result
  pub spot_is : new.spot ≡ old.spot
  pub types_are : new.parameters ≡ old.parameters
  pub bodies_are : new.bodies.items ≡ old.bodies.items
  pub stands : after ≡ slice_set before at new
