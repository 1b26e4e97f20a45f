-- What stands for the parts of a thing makes up what stands for the thing.
use Rattle.std.proofs.Common.{List, [], ◌∷◌, ◌++◌, Option, Some, refl, ap, ◌∙◌}
use Rattle.std.proofs.lemmas.List.{map-append}
use Rattle.std.proofs.lemmas.List.Elements.{All-nil, All-push}
use Rattle.arena_walk.specs.declared.arena.NodeId.{NodeId}
use Rattle.dj_tree.specs.Trees as plain
use Rattle.dj_tree.specs.declared.declarations.Spot.{Spot}
use Rattle.dj_tree.specs.declared.declarations.FieldDecl.{FieldDecl}
use Rattle.dj_tree.specs.declared.declarations.Method.{Method}
use Rattle.dj_tree.specs.declared.declarations.ClassDecl.{ClassDecl}
use Rattle.dj_tree.specs.declared.declarations.MemberOp.{MemberOp}
use Rattle.dj_tree.specs.declared.declarations.MemberOp.TheVariants.{AddsField, AddsMethod, ModifiesMethod, RemovesField, RemovesMethod}
use Rattle.dj_tree.specs.declared.declarations.ClassChange.{ClassChange}
use Rattle.dj_tree.specs.declared.declarations.ClassOp.{ClassOp}
use Rattle.dj_tree.specs.declared.declarations.ClassOp.TheVariants.{Adds, Modifies, Removes}
use Rattle.dj_tree.specs.declared.declarations.DeltaDecl.{DeltaDecl}
use Rattle.dj_tree.specs.declared.declarations.Item.{Item}
use Rattle.dj_tree.specs.declared.declarations.PartDecl.{PartDecl}
use Rattle.dj_tree.specs.Plain.{plain_spot, plain_member, plain_operation, plain_delta, plain_item, plain_part, plain_class, plain_source, plain_java}
use Rattle.dj_tree.specs.WellFormed.{IsKnown, IsMember, IsOperation, IsDelta, IsItem, IsPart, IsClass, IsWellFormed, IsWellFormedJava}
use Rattle.dj_parser.specs.Growth.{AreKnown}
use Rattle.dj_parser.specs.Resolved.{Stands, StandEach, StandsOptional, IsSpotFor, IsOptionalFor, IsExprFor, IsFormulaFor, IsConditionFor, IsFieldFor, AreFieldsFor, IsMethodFor, AreMethodsFor, IsClassFor, IsMemberFor, IsChangeFor, IsOperationFor, IsDeltaFor, IsItemFor, IsPartFor}
use Rattle.dj_parser.specs.declared.tables.Tables.{Tables}

pub some_stands : {A X : Type 0} {plain_of : A → X} {IsWell : A → Type 0} {value : A} {x : X} → Stands plain_of IsWell value x → StandsOptional plain_of IsWell (Some value) (Some x)
some_stands is = record { same = ap Some is.same; well = is.well }

pub none_stand : {A X : Type 0} (plain_of : A → X) (IsWell : A → Type 0) → StandEach plain_of IsWell [] []
none_stand plain_of IsWell = record { same = refl; well = All-nil IsWell }

pub one_more_stands : {A X : Type 0} {plain_of : A → X} {IsWell : A → Type 0} {value : A} {x : X} {values : List A} {xs : List X} → StandEach plain_of IsWell values xs → Stands plain_of IsWell value x
    → StandEach plain_of IsWell (values ++ value ∷ []) (xs ++ x ∷ [])
one_more_stands {X = X} {plain_of = plain_of} {IsWell = IsWell} {value = value} {x = x} {values = values} {xs = xs} are is =
    record {
      same =
          map-append plain_of values (value ∷ [])
          ∙ (ap (λ (ys : List X). ys ++ plain_of value ∷ []) are.same ∙ ap (λ (y : X). xs ++ y ∷ []) is.same);
      well = All-push IsWell values value are.well is.well;
    }

module _ (t : Tables) where
  pub field_stands : {a b : Spot} {k x : plain.Spot} → IsSpotFor t a k → IsSpotFor t b x → IsFieldFor t (record { kind = a; spot = b }) (record { kind = k; name = x })
  field_stands kind spot = let k = kind.same in let s = spot.same in record { same = cc; well = (kind.well, spot.well) }

  pub method_stands : {f : FieldDecl} {ps : List FieldDecl} {body : NodeId} {x : plain.Field} {xs : List plain.Field} {e : plain.Expr} → IsFieldFor t f x → AreFieldsFor t ps xs → IsExprFor t body e
      → IsMethodFor t (record { result = f.kind; spot = f.spot; parameters = ps; body = body }) (record { kind = x.kind; name = x.name; parameters = xs; body = e })
  method_stands declared parameters body =
      let kind = ap (λ (f : plain.Field). f.kind) declared.same in
      let name = ap (λ (f : plain.Field). f.name) declared.same in
      let listed = parameters.same in
      let tree = body.same in
      record { same = cc; well = record { result = declared.well.0; spot = declared.well.1; parameters = parameters.well; body = body.well } }

  pub class_stands : {spot : Spot} {parent : Option Spot} {fields : List FieldDecl} {methods : List Method} {x : plain.Spot} {y : Option plain.Spot} {fs : List plain.Field} {ms : List plain.Method}
      → IsSpotFor t spot x → IsOptionalFor t parent y → AreFieldsFor t fields fs → AreMethodsFor t methods ms
      → IsClassFor t (record { spot = spot; parent = parent; fields = fields; methods = methods }) (record { name = x; parent = y; fields = fs; methods = ms })
  class_stands spot parent fields methods =
      let a = spot.same in
      let b = parent.same in
      let c = fields.same in
      let d = methods.same in
      record { same = cc; well = record { spot = spot.well; parent = parent.well; fields = fields.well; methods = methods.well } }

  pub adds_field_stands : {f : FieldDecl} {x : plain.Field} → IsFieldFor t f x → IsMemberFor t (AddsField f) (plain.adds_field x)
  adds_field_stands is = record { same = ap plain.adds_field is.same; well = is.well }

  pub adds_method_stands : {m : Method} {x : plain.Method} → IsMethodFor t m x → IsMemberFor t (AddsMethod m) (plain.adds_method x)
  adds_method_stands is = record { same = ap plain.adds_method is.same; well = is.well }

  pub modifies_method_stands : {m : Method} {x : plain.Method} → IsMethodFor t m x → IsMemberFor t (ModifiesMethod m) (plain.modifies_method x)
  modifies_method_stands is = record { same = ap plain.modifies_method is.same; well = is.well }

  pub removes_field_stands : {f : Spot} {x : plain.Spot} → IsSpotFor t f x → IsMemberFor t (RemovesField f) (plain.removes_field x)
  removes_field_stands is = record { same = ap plain.removes_field is.same; well = is.well }

  pub removes_method_stands : {m : Spot} {x : plain.Spot} → IsSpotFor t m x → IsMemberFor t (RemovesMethod m) (plain.removes_method x)
  removes_method_stands is = record { same = ap plain.removes_method is.same; well = is.well }

  pub change_stands : {spot : Spot} {parent : Option Spot} {members : List MemberOp} {x : plain.Spot} {y : Option plain.Spot} {ms : List plain.MemberOperation} → IsSpotFor t spot x → IsOptionalFor t parent y
      → StandEach (plain_member t.names t.exprs) (IsMember t.names t.exprs) members ms
      → IsChangeFor t (record { spot = spot; parent = parent; members = members }) (record { name = x; parent = y; members = ms })
  change_stands spot parent members =
      let a = spot.same in
      let b = parent.same in
      let c = members.same in
      record { same = cc; well = record { spot = spot.well; parent = parent.well; members = members.well } }

  pub adds_stands : {c : ClassDecl} {x : plain.Class} → IsClassFor t c x → IsOperationFor t (Adds c) (plain.adds_class x)
  adds_stands is = record { same = ap plain.adds_class is.same; well = is.well }

  pub modifies_stands : {c : ClassChange} {x : plain.Change} → IsChangeFor t c x → IsOperationFor t (Modifies c) (plain.modifies_class x)
  modifies_stands is = record { same = ap plain.modifies_class is.same; well = is.well }

  pub removes_stands : {c : Spot} {x : plain.Spot} → IsSpotFor t c x → IsOperationFor t (Removes c) (plain.removes_class x)
  removes_stands is = record { same = ap plain.removes_class is.same; well = is.well }

  pub delta_stands : {spot : Spot} {ops : List ClassOp} {x : plain.Spot} {xs : List plain.Operation} → IsSpotFor t spot x → StandEach (plain_operation t.names t.exprs) (IsOperation t.names t.exprs) ops xs
      → IsDeltaFor t (record { spot = spot; ops = ops }) (record { name = x; operations = xs })
  delta_stands spot ops = let a = spot.same in let b = ops.same in record { same = cc; well = record { spot = spot.well; ops = ops.well } }

  pub item_stands : {delta : Spot} {when : Option NodeId} {x : plain.Spot} {a : Option plain.Formula} → IsSpotFor t delta x → IsConditionFor t when a
      → IsItemFor t (record { delta = delta; when = when }) (record { delta = x; condition = a })
  item_stands delta when = let a = delta.same in let b = when.same in record { same = cc; well = record { delta = delta.well; when = when.well } }

  pub part_stands : {spot : Spot} {after : Option Spot} {items : List Item} {x : plain.Spot} {y : Option plain.Spot} {xs : List plain.Item} → IsSpotFor t spot x → IsOptionalFor t after y
      → StandEach (plain_item t.names t.formulas) (IsItem t.names t.formulas) items xs
      → IsPartFor t (record { spot = spot; after = after; items = items }) (record { name = x; after = y; items = xs })
  part_stands spot after items =
      let a = spot.same in
      let b = after.same in
      let c = items.same in
      record { same = cc; well = record { spot = spot.well; after = after.well; items = items.well } }

  pub source_stands : {title : Spot} {features : List Spot} {valid : NodeId} {parts : List PartDecl} {deltas : List DeltaDecl} {x : plain.Spot} {xs : List plain.Spot} {a : plain.Formula} {ps : List plain.Part}
      {ds : List plain.Delta} → AreKnown t → IsSpotFor t title x → StandEach (plain_spot t.names) (IsKnown t.names) features xs → IsFormulaFor t valid a
      → StandEach (plain_part t.names t.formulas) (IsPart t.names t.formulas) parts ps → StandEach (plain_delta t.names t.exprs) (IsDelta t.names t.exprs) deltas ds
      → Stands plain_source IsWellFormed
      (record { names = t.names; title = title; features = features; valid = valid; parts = parts; deltas = deltas; formulas = t.formulas; exprs = t.exprs })
      (record { title = x; features = xs; valid = a; parts = ps; deltas = ds })
  source_stands known title features valid parts deltas =
      let a = title.same in
      let b = features.same in
      let c = valid.same in
      let d = parts.same in
      let e = deltas.same in
      record {
        same = cc;
        well =
            record {
              title = title.well;
              features = features.well;
              valid = valid.well;
              parts = parts.well;
              deltas = deltas.well;
              formula_nodes = known.formulas;
              expr_nodes = known.exprs;
            };
      }

  pub java_stands : {classes : List ClassDecl} {xs : List plain.Class} → AreKnown t → StandEach (plain_class t.names t.exprs) (IsClass t.names t.exprs) classes xs
      → Stands plain_java IsWellFormedJava (record { names = t.names; classes = classes; exprs = t.exprs }) xs
  java_stands known classes = record { same = classes.same; well = record { classes = classes.well; expr_nodes = known.exprs } }
