-- A class that is added, then its fields, then its methods.
use Rattle.std.proofs.Common.{◌≡◌, List, map, All, Option, Some, slice_get, refl, sym, ap, ◌∙◌, subst}
use Rattle.std.specs.Option.{option_map, IsSomeAnd}
use Rattle.std.specs.List.Sorted.{IsPermutation}
use Rattle.std.specs.FinMap.{get, insert, empty}
use Rattle.std.proofs.lemmas.List.Sorted.{All-permutation, IsPermutation-map}
use Rattle.dj_names.specs.Texts.{Text}
use Rattle.dj_tree.specs.Trees.{Field, Method}
use Rattle.dj_tree.specs.Plain.{plain_spot, plain_field, plain_method, plain_class}
use Rattle.dj_tree.specs.WellFormed.{IsField, IsMethod}
use Rattle.dj_tree.specs.declared.declarations.FieldDecl.{FieldDecl}
use Rattle.dj_tree.specs.declared.declarations.Method as code
use Rattle.dj_tree.specs.declared.declarations.ClassDecl.{ClassDecl}
use Rattle.dj_tree.specs.declared.expression.ExprNode.{ExprNode}
use Rattle.dj_calculus.specs.Entries.{class_entry, superclass_of}
use Rattle.dj_calculus.specs.Expressions.{IsExpression}
use Rattle.dj_calculus.specs.Tables.{ClassEntry, Table}
use Rattle.dj_product_laws.proofs.MemberOrders.{same_entry}
use Rattle.ifj_table.specs.Changes.{changed_at, bare_class}
use Rattle.ifj_table.proofs.Searching.{text_of_name}
use Rattle.java_reader.specs.Making.{StandOnce, with_fields, with_methods, IsReady}
use Rattle.java_reader.proofs.Entering.{got_inserted, changed_inserted}
use Rattle.java_reader.proofs.Orders.{once_reordered}

some_and : {X : Type 0} (P : X → Type 0) (o : Option X) (x : X) → o ≡ Some x → P x → IsSomeAnd o P
some_and P o x is h = subst (λ p. IsSomeAnd p P) (sym is) h

-- ---- members in the order of their names

module _ (names : List Text) (exprs : List ExprNode) (c : ClassDecl) (ready : IsReady names exprs c) where
  module _ (fs : List FieldDecl) (fields_moved : IsPermutation c.fields fs) where
    pub fields_known : All (IsField names) fs
    fields_known = All-permutation (IsField names) c.fields fs fields_moved ready.known.fields

    pub fields_once : StandOnce (map (λ f. f.name) (map (plain_field names) fs))
    fields_once = once_reordered (λ (f : Field). f.name) (map (plain_field names) c.fields) (map (plain_field names) fs) (IsPermutation-map (plain_field names) c.fields fs fields_moved) ready.fields

  module _ (ms : List code.Method) (methods_moved : IsPermutation c.methods ms) where
    pub methods_known : All (IsMethod names exprs) ms
    methods_known = All-permutation (IsMethod names exprs) c.methods ms methods_moved ready.known.methods

    pub methods_expressions : All (λ m. IsExpression (plain_method names exprs m).body) ms
    methods_expressions = All-permutation (λ m. IsExpression (plain_method names exprs m).body) c.methods ms methods_moved ready.bodies

    pub methods_once : StandOnce (map (λ m. m.name) (map (plain_method names exprs) ms))
    methods_once =
        once_reordered (λ (m : Method). m.name) (map (plain_method names exprs) c.methods) (map (plain_method names exprs) ms)
        (IsPermutation-map (plain_method names exprs) c.methods ms methods_moved) ready.methods

  -- ---- the tables after each step

  abbrev pub bare : ClassEntry
  bare = bare_class c.spot.at (superclass_of (plain_spot names c.spot) (option_map (plain_spot names) c.parent))

  module _ (t u : Table) (text : Text) (named : slice_get names c.spot.name.0 ≡ Some text) (first : u ≡ insert t (plain_spot names c.spot).text bare) where
    is_text : (plain_spot names c.spot).text ≡ text
    is_text = text_of_name names c.spot c.spot.name.0 text named refl

    one : u ≡ insert t text bare
    one = first ∙ ap (λ k. insert t k bare) is_text

    pub without_fields : IsSomeAnd (get u text) (λ e. e.fields ≡ empty)
    without_fields = some_and (λ e. e.fields ≡ empty) (get u text) bare (ap (λ w. get w text) one ∙ got_inserted t text bare) refl

    module _ (v : Table) (fs : List FieldDecl) (second : v ≡ changed_at u text (with_fields (map (plain_field names) fs))) where
      two : v ≡ insert t text (with_fields (map (plain_field names) fs) bare)
      two =
          second ∙ ap (λ w. changed_at w text (with_fields (map (plain_field names) fs))) one ∙ changed_inserted t text bare (with_fields (map (plain_field names) fs))

      pub without_methods : IsSomeAnd (get v text) (λ e. e.methods ≡ empty)
      without_methods =
          some_and (λ e. e.methods ≡ empty) (get v text) (with_fields (map (plain_field names) fs) bare)
          (ap (λ w. get w text) two ∙ got_inserted t text (with_fields (map (plain_field names) fs) bare)) refl

      pub class_is : (w : Table) (ms : List code.Method) → w ≡ changed_at v text (with_methods (map (plain_method names exprs) ms)) → IsPermutation c.fields fs → IsPermutation c.methods ms
          → w ≡ insert t (plain_spot names c.spot).text (class_entry (plain_class names exprs c))
      class_is w ms third moved_fields moved_methods =
          third ∙ ap (λ x. changed_at x text (with_methods (map (plain_method names exprs) ms))) two
          ∙ changed_inserted t text (with_fields (map (plain_field names) fs) bare) (with_methods (map (plain_method names exprs) ms))
          ∙ ap (insert t text) (same_entry (plain_spot names c.spot) (option_map (plain_spot names) c.parent) (map (plain_field names) c.fields) (map (plain_field names) fs)
          (map (plain_method names exprs) c.methods) (map (plain_method names exprs) ms) (IsPermutation-map (plain_field names) c.fields fs moved_fields)
          (IsPermutation-map (plain_method names exprs) c.methods ms moved_methods) ready.fields ready.methods)
          ∙ ap (λ k. insert t k (class_entry (plain_class names exprs c))) (sym is_text)
