-- The least places of faults, and the first fault.
use Rattle.std.proofs.Common.{◌≡◌, ◌⊎◌, inl, inr, ℕ, List, map, length, Option, Contains, All, sym, ap, ◌∙◌, subst}
use Rattle.std.proofs.lemmas.List.Elements.{All-contains}
use Rattle.std.proofs.lemmas.Simd.{map-map}
use Rattle.dj_names.specs.Texts.{Text, AreDistinct}
use Rattle.dj_tree.specs.Trees.{Class, Method}
use Rattle.dj_tree.specs.Plain.{plain_spot, plain_field, plain_method, plain_class}
use Rattle.dj_tree.specs.WellFormed.{IsKnown}
use Rattle.dj_tree.specs.declared.declarations.Spot.{Spot}
use Rattle.dj_tree.specs.declared.declarations.FieldDecl.{FieldDecl}
use Rattle.dj_tree.specs.declared.declarations.Method as code
use Rattle.dj_tree.specs.declared.declarations.ClassDecl.{ClassDecl}
use Rattle.dj_tree.specs.declared.expression.ExprNode.{ExprNode}
use Rattle.dj_calculus.specs.FaultPlaces.{Repeats}
use Rattle.dj_calculus.specs.JavaFiles.{RepeatedClass, RepeatedMember, RepeatedParameter, JavaFaultStands, repeated_class, object_class, repeated_field, repeated_method, repeated_parameter}
use Rattle.dj_calculus.proofs.Members.{mapped_within, mapped_from, either}
use Rattle.dj_faults.specs.LeastPlace.{IsLeastPlace, Among, first_place}
use Rattle.dj_faults.specs.Numbers.{Again}
use Rattle.dj_faults.proofs.LeastLemmas.{least_same, least_either}
use Rattle.dj_faults.proofs.NameLemmas.{least_repeats}
use Rattle.java_reader.specs.Faults.{IsObject, MemberTwice, ParameterTwice}

-- ---- declared names

pub least_named : {D : Type 0} (names : List Text) (spot : D → Spot) (ds : List D) (spots : List Spot) (o : Option ℕ) → AreDistinct names → All (λ d. IsKnown names (spot d)) ds
    → spots ≡ map spot ds → IsLeastPlace (Again spots (length spots)) o → IsLeastPlace (Repeats (map (λ d. plain_spot names (spot d)) ds)) o
least_named names spot ds spots o distinct known e is =
    subst (λ xs. IsLeastPlace (Repeats xs) o) (map-map (plain_spot names) spot ds)
    (least_repeats names distinct (map spot ds) o (λ x there. let d = mapped_from spot ds x there in subst (IsKnown names) d.2 (All-contains (λ d. IsKnown names (spot d)) ds d.0 known d.1))
    (subst (λ xs. IsLeastPlace (Again xs (length xs)) o) e is))

-- ---- each fault

module _ (names : List Text) (exprs : List ExprNode) where
  pub least_class : (cs : List ClassDecl) (a b : Option ℕ) → IsLeastPlace (Repeats (map (λ c. plain_spot names c.spot) cs)) a → IsLeastPlace (Among (λ c. IsObject (plain_spot names c.spot)) cs) b
      → IsLeastPlace (JavaFaultStands (map (plain_class names exprs) cs) RepeatedClass) (first_place a b)
  least_class cs a b again object =
      least_same (first_place a b) to back (least_either a b (subst (λ xs. IsLeastPlace (Repeats xs) a) (sym (map-map (λ (c : Class). c.name) (plain_class names exprs) cs)) again) object)
    where
      to : (at : ℕ) → Repeats (map (λ c. c.name) (map (plain_class names exprs) cs)) at ⊎ Among (λ c. IsObject (plain_spot names c.spot)) cs at
          → JavaFaultStands (map (plain_class names exprs) cs) RepeatedClass at
      to at (inl r) = repeated_class at r
      to at (inr found) =
          subst (JavaFaultStands (map (plain_class names exprs) cs) RepeatedClass) found.2.1
          (object_class (plain_class names exprs found.0) (mapped_within (plain_class names exprs) cs found.0 found.1) found.2.0)

      back : (at : ℕ) → JavaFaultStands (map (plain_class names exprs) cs) RepeatedClass at
          → Repeats (map (λ c. c.name) (map (plain_class names exprs) cs)) at ⊎ Among (λ c. IsObject (plain_spot names c.spot)) cs at
      back _ (repeated_class at r) = inl r
      back _ (object_class c within is) =
          let d = mapped_from (plain_class names exprs) cs c within in
          inr (d.0, d.1, (ap (λ (x : Class). x.name.text) d.2 ∙ is, ap (λ (x : Class). x.name.at) d.2))

  pub least_members : (c : ClassDecl) (fs : List FieldDecl) (ms : List code.Method) (a b : Option ℕ) → fs ≡ c.fields → ms ≡ c.methods → IsLeastPlace (Repeats (map (λ f. plain_spot names f.spot) fs)) a
      → IsLeastPlace (Repeats (map (λ m. plain_spot names m.spot) ms)) b → IsLeastPlace (MemberTwice (plain_class names exprs c)) (first_place a b)
  least_members c fs ms a b same_fields same_methods fields methods =
      least_either a b (subst (λ xs. IsLeastPlace (Repeats xs) a) (sym (map-map (λ f. f.name) (plain_field names) fs) ∙ ap (λ xs. map (λ f. f.name) (map (plain_field names) xs)) same_fields) fields)
      (subst (λ xs. IsLeastPlace (Repeats xs) b) (sym (map-map (λ m. m.name) (plain_method names exprs) ms) ∙ ap (λ xs. map (λ m. m.name) (map (plain_method names exprs) xs)) same_methods) methods)

  pub least_parameters : (m : code.Method) (ps : List FieldDecl) (o : Option ℕ) → ps ≡ m.parameters → IsLeastPlace (Repeats (map (λ p. plain_spot names p.spot) ps)) o
      → IsLeastPlace (ParameterTwice (plain_method names exprs m)) o
  least_parameters m ps o same is =
      subst (λ xs. IsLeastPlace (Repeats xs) o) (sym (map-map (λ p. p.name) (plain_field names) ps) ∙ ap (λ xs. map (λ p. p.name) (map (plain_field names) xs)) same) is

  pub least_member : (cs : List ClassDecl) (o : Option ℕ) → IsLeastPlace (Among (λ c. MemberTwice (plain_class names exprs c)) cs) o
      → IsLeastPlace (JavaFaultStands (map (plain_class names exprs) cs) RepeatedMember) o
  least_member cs o is = least_same o to back is
    where
      to : (at : ℕ) → Among (λ c. MemberTwice (plain_class names exprs c)) cs at → JavaFaultStands (map (plain_class names exprs) cs) RepeatedMember at
      to at found =
          let within = mapped_within (plain_class names exprs) cs found.0 found.1 in
          either found.2 (λ r. repeated_field (plain_class names exprs found.0) at within r) (λ r. repeated_method (plain_class names exprs found.0) at within r)

      back : (at : ℕ) → JavaFaultStands (map (plain_class names exprs) cs) RepeatedMember at → Among (λ c. MemberTwice (plain_class names exprs c)) cs at
      back _ (repeated_field c at within r) =
          let d = mapped_from (plain_class names exprs) cs c within in (d.0, d.1, inl (subst (λ (x : Class). Repeats (map (λ f. f.name) x.fields) at) (sym d.2) r))
      back _ (repeated_method c at within r) =
          let d = mapped_from (plain_class names exprs) cs c within in (d.0, d.1, inr (subst (λ (x : Class). Repeats (map (λ m. m.name) x.methods) at) (sym d.2) r))

  pub least_parameter : (cs : List ClassDecl) (o : Option ℕ) → IsLeastPlace (Among (λ c. Among (λ m. ParameterTwice (plain_method names exprs m)) c.methods) cs) o
      → IsLeastPlace (JavaFaultStands (map (plain_class names exprs) cs) RepeatedParameter) o
  least_parameter cs o is = least_same o to back is
    where
      to : (at : ℕ) → Among (λ c. Among (λ m. ParameterTwice (plain_method names exprs m)) c.methods) cs at → JavaFaultStands (map (plain_class names exprs) cs) RepeatedParameter at
      to at found =
          let m = found.2 in
          repeated_parameter (plain_class names exprs found.0) (plain_method names exprs m.0) at (mapped_within (plain_class names exprs) cs found.0 found.1)
          (mapped_within (plain_method names exprs) found.0.methods m.0 m.1) m.2

      back : (at : ℕ) → JavaFaultStands (map (plain_class names exprs) cs) RepeatedParameter at → Among (λ c. Among (λ m. ParameterTwice (plain_method names exprs m)) c.methods) cs at
      back _ (repeated_parameter c m at within inside r) =
          let d = mapped_from (plain_class names exprs) cs c within in
          let e = mapped_from (plain_method names exprs) d.0.methods m (subst (λ (x : Class). Contains x.methods m) (sym d.2) inside) in
          (d.0, d.1, (e.0, e.1, subst (λ (x : Method). ParameterTwice x at) (sym e.2) r))
