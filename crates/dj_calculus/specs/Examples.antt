-- What the definitions say of the samples.
use Rattle.std.specs.Prelude.{◌≡◌, ℕ, true, List, [], ◌∷◌, codes}
use Rattle.dj_tree.specs.Trees.{variable, null_at, field_of, call_of, cast_to, assignment, Class}
use Rattle.dj_calculus.specs.LineRules.{Counts}
use Rattle.dj_calculus.specs.TableRules.{CountsIn}
use Rattle.dj_calculus.specs.Subclasses.{class_kind}
use Rattle.dj_calculus.specs.Typing.{Types}
use Rattle.dj_calculus.specs.Samples.S6
use Rattle.dj_calculus.specs.Samples.S7
use Rattle.dj_calculus.specs.Samples.S8
use Rattle.dj_calculus.specs.Samples.S12
use Rattle.dj_calculus.specs.Samples.S13
use Rattle.dj_calculus.specs.Samples.Rules
use Rattle.dj_calculus.specs.Samples.NullMember
use Rattle.dj_calculus.specs.Samples.NullCast
use Rattle.dj_calculus.specs.FlatTables.{flat}
use Rattle.dj_calculus.specs.JavaText.{expression_text, java_text}
use Rattle.dj_calculus.specs.JavaFiles.{table_of}
use Rattle.dj_calculus.specs.Samples.Builders.{spot}
use Rattle.dj_calculus.specs.Products.{IsAllowed, Product}

-- With both features chosen, two deltas overlap: they modify one method, `m` at 8:41 and at 9:41.
abbrev pub ModifiedTwice : Type 0
ModifiedTwice = Counts S6.sample (true ∷ true ∷ []) (record { rule = 1; at = 197; second = 262 })

-- One delta adds the class that the other changes, `C` at 2:22 and at 3:26.
abbrev pub ChangedWhereAdded : Type 0
ChangedWhereAdded = Counts S7.sample [] (record { rule = 1; at = 71; second = 104 })

-- A field is removed, `f` at 5:44, that went with its class and did not come back.
abbrev pub FieldMissing : Type 0
FieldMissing = Counts S8.sample [] (record { rule = 5; at = 258; second = 258 })

-- Both orders of the second part are allowed, and every allowed order gives this table.
pub record OneTableInEachOrder : Type 0 where
  pub as_written : IsAllowed S13.sample [] (S13.delta_p ∷ S13.delta_q ∷ S13.delta_r ∷ [])
  pub turned : IsAllowed S13.sample [] (S13.delta_p ∷ S13.delta_r ∷ S13.delta_q ∷ [])
  pub product : Product S13.sample [] S13.product

-- The product of the sample S12, and the text of its flat table
pub record VersionsByName : Type 0 where
  pub product : Product S12.sample [] S12.product
  pub text : java_text (flat S12.product) ≡ S12.text

-- A field of null breaks rule 23: `f` at 1:36.
abbrev pub FieldOfNull : Type 0
FieldOfNull = CountsIn (table_of (NullMember.class_a ∷ [])) (record { rule = 23; at = 35; second = 35 })

-- A cast of null has the type that it is cast to.
abbrev pub CastOfNull : Type 0
CastOfNull =
    Types (table_of (NullCast.class_a ∷ []))
    (record { class = codes "A"; heading = record { parameters = []; result = codes "A" }; names = [] })
    (cast_to (spot "A" 26) (null_at 29)) (class_kind (codes "A"))

-- ---- one line of Java for each of the rules 9 to 16 and 18 to 21

-- an instance of the rule counts in the table of the classes, at this place
abbrev pub BreaksAt : List Class → ℕ → ℕ → Type 0
BreaksAt classes rule at = CountsIn (table_of classes) (record { rule = rule; at = at; second = at })

pub record ClassesBreak : Type 0 where
  -- Z at 1:17, A at 1:17, Z at 1:11
  pub unknown_superclass : BreaksAt Rules.unknown_superclass 9 16
  pub circular_superclasses : BreaksAt Rules.circular_superclasses 10 16
  pub unknown_type : BreaksAt Rules.unknown_type 11 10

pub record MembersBreak : Type 0 where
  -- f at 1:40, m at 1:58
  pub hidden_field : BreaksAt Rules.hidden_field 12 39
  pub override_differs : BreaksAt Rules.override_differs 13 57

pub record BodiesBreak : Type 0 where
  -- x at 1:26, Z at 1:30, f at 1:31, m at 1:31, B at 1:40, f at 1:36, this at 1:26
  pub unknown_variable : BreaksAt Rules.unknown_variable 14 25
  pub unknown_class : BreaksAt Rules.unknown_class 15 29
  pub no_field : BreaksAt Rules.no_field 16 30
  pub number_of_arguments : BreaksAt Rules.number_of_arguments 18 30
  pub argument_type : BreaksAt Rules.argument_type 19 39
  pub assigned_type : BreaksAt Rules.assigned_type 20 35
  pub returned_type : BreaksAt Rules.returned_type 21 25

-- Each parenthesis and each comma of the canonical text: a receiver that is a cast or an assignment, a cast of an assignment, and arguments
-- that need none.
pub record TextsOfExpressions : Type 0 where
  pub call : expression_text
      (call_of (cast_to (spot "A" 2) (assignment (variable (spot "x" 6)) (spot "f" 8) (variable (spot "y" 12)))) (spot "m" 16)
      (cast_to (spot "A" 19) (field_of (variable (spot "x" 22)) (spot "f" 24))
      ∷ assignment (variable (spot "x" 27)) (spot "f" 29) (assignment (variable (spot "y" 33)) (spot "f" 35) (null_at 39))
      ∷ []))
      ≡ codes "((A) (x.f = y)).m((A) x.f, x.f = y.f = null)"
  pub chain : expression_text
      (assignment (assignment (variable (spot "x" 1)) (spot "f" 3) (variable (spot "y" 7))) (spot "g" 10) (variable (spot "z" 14)))
      ≡ codes "(x.f = y).g = z"
