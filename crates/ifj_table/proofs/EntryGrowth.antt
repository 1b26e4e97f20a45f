-- What the entries of a table stand for stays while its names and its nodes grow.
use Rattle.std.proofs.Common.{◌≡◌, false, ℕ, ◌<◌, List, [], ◌∷◌, map, length, refl, sym, ap, ap₂, ◌∙◌, subst, arith}
use Rattle.std.specs.Prelude.{All}
use Rattle.std.specs.FinMap.{from_entries}
use Rattle.std.specs.Str.{bytes_eq}
use Rattle.std.proofs.lemmas.List.{length-append}
use Rattle.std.proofs.lemmas.List.Elements.{All-weaker, All-tail, All-head}
use Rattle.dj_names.specs.Texts.{Text, Extends}
use Rattle.dj_tree.specs.Plain.{plain_spot, plain_expr}
use Rattle.dj_tree.specs.PostOrder.{KeepsNodes}
use Rattle.dj_tree.specs.WellFormed.{IsKnown, IsExprNode}
use Rattle.dj_tree.specs.declared.declarations.Spot.{Spot}
use Rattle.dj_tree.specs.declared.expression.ExprNode.{ExprNode}
use Rattle.dj_tree.proofs.Growing.{known_later, kept_spot, kept_expr}
use Rattle.dj_calculus.specs.Expressions.{IsExpression}
use Rattle.dj_calculus.specs.Subclasses.{object}
use Rattle.dj_calculus.specs.Tables as calculus
use Rattle.ifj_table.specs.Sorted.{AreRising, pairs_of, map_of}
use Rattle.ifj_table.specs.Entries.{text_at, plain_field, plain_signature, plain_body, plain_method, fields_of, methods_of, plain_class, classes_of}
use Rattle.ifj_table.specs.Held.{IsFieldEntry, IsBody, IsMethodEntry, IsClassEntry, AreClasses}
use Rattle.ifj_table.specs.declared.entry.FieldEntry.{FieldEntry}
use Rattle.ifj_table.specs.declared.entry.Body.{Body}
use Rattle.ifj_table.specs.declared.entry.MethodEntry.{MethodEntry}
use Rattle.ifj_table.specs.declared.entry.ClassEntry.{ClassEntry}

-- two functions that agree on the elements
pub same_on : {X Y : Type 0} (P : X → Type 0) (f g : X → Y) (xs : List X) → ((x : X) → P x → f x ≡ g x) → All P xs → map f xs ≡ map g xs
same_on P f g [] same all = refl
same_on P f g (x ∷ xs) same all = ap₂ (λ y ys. y ∷ ys) (same x (All-head P x xs all)) (same_on P f g xs same (All-tail P x xs all))

module _ (names later : List Text) (exprs more : List ExprNode) (grown : Extends names later) (kept : KeepsNodes exprs more) (nodes : All (IsExprNode names) exprs) where
  same_text : (x : Spot) → IsKnown names x → text_at later x ≡ text_at names x
  same_text x known = ap (λ s. s.text) (kept_spot names later x grown known)

  same_spots : (xs : List Spot) → All (IsKnown names) xs → map (plain_spot later) xs ≡ map (plain_spot names) xs
  same_spots xs all = same_on (IsKnown names) (plain_spot later) (plain_spot names) xs (λ x known. kept_spot names later x grown known) all

  same_field : (f : FieldEntry) → IsFieldEntry names f → plain_field later f ≡ plain_field names f
  same_field f is = ap (λ kind. record { at = f.spot.at; kind = kind }) (kept_spot names later f.kind grown is.kind)

  same_body : (count : ℕ) (b : Body) → IsBody names exprs count b → plain_body later more b ≡ plain_body names exprs b
  same_body count b is =
      ap₂ (λ spots e. record { names = spots; value = e }) (same_spots b.parameters is.parameters) (kept_expr names later exprs more b.root.0 grown kept nodes is.root)

  same_method : (m : MethodEntry) → IsMethodEntry names exprs m → plain_method later more m ≡ plain_method names exprs m
  same_method m is =
      ap₂ (λ signature bodies. record { at = m.spot.at; signature = signature; bodies = bodies })
      (ap₂ (λ spots result. record { parameters = spots; result = result }) (same_spots m.parameters is.parameters) (kept_spot names later m.result grown is.result))
      (same_on (IsBody names exprs (length m.parameters)) (plain_body later more) (plain_body names exprs) m.bodies.items (λ b. same_body (length m.parameters) b) is.bodies)

  same_pairs : {E X : Type 0} (P : E → Type 0) (spot : E → Spot) (read other : E → X) (es : List E) → ((e : E) → P e → IsKnown names (spot e)) → ((e : E) → P e → other e ≡ read e) → All P es
      → pairs_of (λ e. text_at later (spot e)) other es ≡ pairs_of (λ e. text_at names (spot e)) read es
  same_pairs {E = E} P spot read other es known same all =
      same_on P (λ (e : E). (text_at later (spot e), other e)) (λ (e : E). (text_at names (spot e), read e)) es (λ e is. ap₂ (λ k x. (k, x)) (same_text (spot e) (known e is)) (same e is)) all

  same_keys : {E : Type 0} (P : E → Type 0) (spot : E → Spot) (es : List E) → ((e : E) → P e → IsKnown names (spot e)) → All P es
      → map (λ e. text_at later (spot e)) es ≡ map (λ e. text_at names (spot e)) es
  same_keys {E = E} P spot es known all = same_on P (λ (e : E). text_at later (spot e)) (λ (e : E). text_at names (spot e)) es (λ e is. same_text (spot e) (known e is)) all

  same_class : (c : ClassEntry) → IsClassEntry names exprs c → plain_class later more c ≡ plain_class names exprs c
  same_class c is =
      let fields : fields_of later c.fields.items ≡ fields_of names c.fields.items =
      ap from_entries (same_pairs (IsFieldEntry names) (λ f. f.spot) (plain_field names) (plain_field later) c.fields.items (λ f h. h.spot) same_field is.fields) in
      let methods : methods_of later more c.methods.items ≡ methods_of names exprs c.methods.items =
      ap from_entries (same_pairs (IsMethodEntry names exprs) (λ m. m.spot) (plain_method names exprs) (plain_method later more) c.methods.items (λ m h. h.spot) same_method is.methods) in
      ap (λ parent. record { at = c.spot.at; parent = parent; fields = fields_of later c.fields.items; methods = methods_of later more c.methods.items }) (kept_spot names later c.parent grown is.parent)
      ∙ ap₂ (λ fs ms. record { at = c.spot.at; parent = plain_spot names c.parent; fields = fs; methods = ms }) fields methods

  pub same_classes : (classes : List ClassEntry) → All (IsClassEntry names exprs) classes → classes_of later more classes ≡ classes_of names exprs classes
  same_classes classes all = ap from_entries (same_pairs (IsClassEntry names exprs) (λ c. c.spot) (plain_class names exprs) (plain_class later more) classes (λ c h. h.spot) same_class all)

  -- ---- what they are they still are

  body_later : (count : ℕ) (b : Body) → IsBody names exprs count b → IsBody later more count b
  body_later count b is = record {
    parameters = All-weaker (IsKnown names) (IsKnown later) (λ x known. known_later names later x grown known) b.parameters is.parameters;
    count = is.count;
    root = omega (arith, is.root, ap length kept.1, length-append exprs kept.0);
    expression = subst (λ e. IsExpression e) (sym (kept_expr names later exprs more b.root.0 grown kept nodes is.root)) is.expression;
  }

  method_later : (m : MethodEntry) → IsMethodEntry names exprs m → IsMethodEntry later more m
  method_later m is = record {
    spot = known_later names later m.spot grown is.spot;
    result = known_later names later m.result grown is.result;
    parameters = All-weaker (IsKnown names) (IsKnown later) (λ x known. known_later names later x grown known) m.parameters is.parameters;
    some = is.some;
    bodies = All-weaker (IsBody names exprs (length m.parameters)) (IsBody later more (length m.parameters)) (λ b. body_later (length m.parameters) b) m.bodies.items is.bodies;
  }

  field_later : (f : FieldEntry) → IsFieldEntry names f → IsFieldEntry later f
  field_later f is = record { spot = known_later names later f.spot grown is.spot; kind = known_later names later f.kind grown is.kind }

  class_later : (c : ClassEntry) → IsClassEntry names exprs c → IsClassEntry later more c
  class_later c is = record {
    spot = known_later names later c.spot grown is.spot;
    parent = known_later names later c.parent grown is.parent;
    declarable = subst (λ t. bytes_eq t object ≡ false) (sym (same_text c.spot is.spot)) is.declarable;
    fields = All-weaker (IsFieldEntry names) (IsFieldEntry later) field_later c.fields.items is.fields;
    rising_fields = subst AreRising (sym (same_keys (IsFieldEntry names) (λ f. f.spot) c.fields.items (λ f h. h.spot) is.fields)) is.rising_fields;
    methods = All-weaker (IsMethodEntry names exprs) (IsMethodEntry later more) method_later c.methods.items is.methods;
    rising_methods = subst AreRising (sym (same_keys (IsMethodEntry names exprs) (λ m. m.spot) c.methods.items (λ m h. h.spot) is.methods)) is.rising_methods;
  }

  pub classes_later : (classes : List ClassEntry) → All (IsExprNode later) more → AreClasses names exprs classes → AreClasses later more classes
  classes_later classes nodes_are is = record {
    nodes = nodes_are;
    each = All-weaker (IsClassEntry names exprs) (IsClassEntry later more) class_later classes is.each;
    rising = subst AreRising (sym (same_keys (IsClassEntry names exprs) (λ c. c.spot) classes (λ c h. h.spot) is.each)) is.rising;
  }
