-- What stands once in an accepted source.
use Rattle.std.specs.Prelude.{◌≢◌, Contains}
use Rattle.std.specs.List.{AllPairs}
use Rattle.dj_tree.specs.Trees.{Class, Delta, Change, Source}
use Rattle.dj_calculus.specs.Accepted.{IsAccepted}
use Rattle.dj_calculus.specs.Contents.{class_name, classes_of, changes_of}
use Rattle.dj_calculus.specs.Things.{steps_of, piece}

-- the operations of a delta are on different classes
abbrev pub ClassesOnce : Type 0
ClassesOnce = (source : Source) (delta : Delta) → IsAccepted source → Contains source.deltas delta
    → AllPairs (λ x y. (class_name x).text ≢ (class_name y).text) delta.operations

-- the steps of a change touch different pieces of the class
abbrev pub StepsTouchDifferent : Type 0
StepsTouchDifferent = (source : Source) (c : Change) → IsAccepted source → Contains (changes_of source) c
    → AllPairs (λ x y. piece x ≢ piece y) (steps_of c)

-- an added class has each field once, and each method
pub record AddedMembersOnce : Type 0 where
  pub fields : (source : Source) (c : Class) → IsAccepted source → Contains (classes_of source) c → AllPairs (λ f g. f.name.text ≢ g.name.text) c.fields
  pub methods : (source : Source) (c : Class) → IsAccepted source → Contains (classes_of source) c → AllPairs (λ m n. m.name.text ≢ n.name.text) c.methods
