-- The canonical text says no places.
use Rattle.std.proofs.Common.{◌≡◌, ◌||◌, List, [], ◌∷◌, ◌++◌, map, codes, refl, sym, ap, ap₂, ◌∙◌}
use Rattle.std.specs.Bool.{if◌then◌else◌}
use Rattle.std.specs.List.{flat_map, zip}
use Rattle.std.specs.FinMap.{entries}
use Rattle.dj_names.specs.Texts.{Text}
use Rattle.arena_walk.specs.Tree.{Trees, branch, no_trees, tree_and, trees_of, over, fold_tree, fold_each}
use Rattle.dj_tree.specs.Trees.{Spot, Expr, ExprForm, VariableForm, ThisForm, NullForm, FieldForm, CallForm, NewForm, CastForm, AssignForm, OriginalForm}
use Rattle.dj_calculus.specs.Tables.{FieldEntry, Signature, Body, MethodEntry, ClassEntry, Table, SameTable}
use Rattle.dj_calculus.specs.Tables.{unplaced, unplaced_form, unplaced_expr, unplaced_field, unplaced_signature, unplaced_body, unplaced_method, unplaced_class, unplaced_table}
use Rattle.dj_calculus.specs.JavaText.{Written, is_cast, is_assignment, in_parentheses, receiver, operand, listed, arguments_text, text_over, written_over, expression_text, line, field_text, parameter_text, body_text, method_text, class_text, java_text}
use Rattle.dj_calculus.proofs.MapLemmas.{entries_changed}

-- ---- expressions

abbrev unplaced_written : Written → Written
unplaced_written w = record { form = unplaced_form w.form; text = w.text }

same_cast : (form : ExprForm) → is_cast (unplaced_form form) ≡ is_cast form
same_cast (VariableForm x) = refl
same_cast (ThisForm at) = refl
same_cast (NullForm at) = refl
same_cast (FieldForm f) = refl
same_cast (CallForm m) = refl
same_cast (NewForm c) = refl
same_cast (CastForm c) = refl
same_cast (AssignForm f) = refl
same_cast (OriginalForm at) = refl

same_assignment : (form : ExprForm) → is_assignment (unplaced_form form) ≡ is_assignment form
same_assignment (VariableForm x) = refl
same_assignment (ThisForm at) = refl
same_assignment (NullForm at) = refl
same_assignment (FieldForm f) = refl
same_assignment (CallForm m) = refl
same_assignment (NewForm c) = refl
same_assignment (CastForm c) = refl
same_assignment (AssignForm f) = refl
same_assignment (OriginalForm at) = refl

same_receiver : (e : Written) → receiver (unplaced_written e) ≡ receiver e
same_receiver e = ap₂ (λ a b. if a || b then in_parentheses e.text else e.text) (same_cast e.form) (same_assignment e.form)

same_operand : (e : Written) → operand (unplaced_written e) ≡ operand e
same_operand e = ap (λ b. if b then in_parentheses e.text else e.text) (same_assignment e.form)

same_texts : (es : List Written) → map (λ e. e.text) (map unplaced_written es) ≡ map (λ e. e.text) es
same_texts [] = refl
same_texts (e ∷ es) = ap (λ texts. e.text ∷ texts) (same_texts es)

same_arguments : (es : List Written) → arguments_text (map unplaced_written es) ≡ arguments_text es
same_arguments es = ap (λ texts. in_parentheses (listed texts)) (same_texts es)

same_over : (form : ExprForm) (parts : List Written) → text_over (unplaced_form form) (map unplaced_written parts) ≡ text_over form parts
same_over (VariableForm x) [] = refl
same_over (VariableForm x) (e ∷ es) = refl
same_over (ThisForm at) [] = refl
same_over (ThisForm at) (e ∷ es) = refl
same_over (NullForm at) [] = refl
same_over (NullForm at) (e ∷ es) = refl
same_over (NewForm c) [] = refl
same_over (NewForm c) (e ∷ es) = refl
same_over (FieldForm f) [] = refl
same_over (FieldForm f) (e ∷ []) = ap (λ r. r ++ (codes "." ++ f.text)) (same_receiver e)
same_over (FieldForm f) (e ∷ v ∷ es) = refl
same_over (CastForm c) [] = refl
same_over (CastForm c) (e ∷ []) = ap (λ o. in_parentheses c.text ++ (codes " " ++ o)) (same_operand e)
same_over (CastForm c) (e ∷ v ∷ es) = refl
same_over (AssignForm f) [] = refl
same_over (AssignForm f) (e ∷ []) = refl
same_over (AssignForm f) (e ∷ v ∷ []) = ap (λ r. r ++ (codes "." ++ (f.text ++ (codes " = " ++ v.text)))) (same_receiver e)
same_over (AssignForm f) (e ∷ v ∷ w ∷ es) = refl
same_over (CallForm m) [] = refl
same_over (CallForm m) (e ∷ es) = ap₂ (λ r a. r ++ (codes "." ++ (m.text ++ a))) (same_receiver e) (same_arguments es)
same_over (OriginalForm at) es = ap (λ a. codes "original" ++ a) (same_arguments es)

abbrev without_place : ExprForm → List Expr → Expr
without_place form parts = over (unplaced_form form) parts

mutual
  same_written : (e : Expr) → fold_tree written_over (unplaced_expr e) ≡ unplaced_written (fold_tree written_over e)
  same_written (branch form parts) =
      let each = same_each parts in
      ap (λ ws. written_over (unplaced_form form) ws) each
      ∙ ap (λ text. record { form = unplaced_form form; text = text }) (same_over form (fold_each written_over parts))

  same_each : (es : Trees ExprForm) → fold_each written_over (trees_of (fold_each without_place es)) ≡ map unplaced_written (fold_each written_over es)
  same_each no_trees = refl
  same_each (tree_and e es) = ap₂ (λ w ws. w ∷ ws) (same_written e) (same_each es)

same_expression : (e : Expr) → expression_text (unplaced_expr e) ≡ expression_text e
same_expression e = ap (λ w. w.text) (same_written e)

-- ---- classes

-- what each element gives is the same in another form
same_flat : {X : Type 0} (change : X → X) (f g : X → Text) → ((x : X) → f (change x) ≡ g x) → (xs : List X) → flat_map f (map change xs) ≡ flat_map g xs
same_flat change f g each [] = refl
same_flat change f g each (x ∷ xs) = ap₂ (λ a b. a ++ b) (each x) (same_flat change f g each xs)

same_parameters : (kinds names : List Spot) → map parameter_text (zip (map unplaced kinds) (map unplaced names)) ≡ map parameter_text (zip kinds names)
same_parameters [] names = refl
same_parameters (kind ∷ kinds) [] = refl
same_parameters (kind ∷ kinds) (name ∷ names) = ap (λ texts. parameter_text (kind, name) ∷ texts) (same_parameters kinds names)

same_body : (m : Text) (s : Signature) (body : Body) → body_text m (unplaced_signature s) (unplaced_body body) ≡ body_text m s body
same_body m s body =
    ap₂ (λ parameters text. line (codes "  " ++ (s.result.text ++ (codes " " ++ (m ++ (in_parentheses (listed parameters) ++ codes " {"))))) ++ (line (codes "    return " ++ (text ++ codes ";")) ++ line (codes "  }")))
    (same_parameters s.parameters body.names) (same_expression body.value)

abbrev UnplacedField : Text × FieldEntry → Text × FieldEntry
UnplacedField e = (e.0, unplaced_field e.1)

abbrev UnplacedMethod : Text × MethodEntry → Text × MethodEntry
UnplacedMethod e = (e.0, unplaced_method e.1)

abbrev UnplacedClass : Text × ClassEntry → Text × ClassEntry
UnplacedClass e = (e.0, unplaced_class e.1)

same_method : (e : Text × MethodEntry) → method_text (UnplacedMethod e) ≡ method_text e
same_method e = same_flat unplaced_body (body_text e.0 (unplaced_signature e.1.signature)) (body_text e.0 e.1.signature) (same_body e.0 e.1.signature) e.1.bodies

same_class : (e : Text × ClassEntry) → class_text (UnplacedClass e) ≡ class_text e
same_class e =
    ap₂ (λ fields methods. line (codes "class " ++ (e.0 ++ (codes " extends " ++ (e.1.parent.text ++ codes " {")))) ++ (fields ++ (methods ++ line (codes "}"))))
    (ap (flat_map field_text) (entries_changed unplaced_field e.1.fields) ∙ same_flat UnplacedField field_text field_text (λ f. refl) (entries e.1.fields))
    (ap (flat_map method_text) (entries_changed unplaced_method e.1.methods) ∙ same_flat UnplacedMethod method_text method_text same_method (entries e.1.methods))

unplaced_text : (t : Table) → java_text (unplaced_table t) ≡ java_text t
unplaced_text t = ap (flat_map class_text) (entries_changed unplaced_class t) ∙ same_flat UnplacedClass class_text class_text same_class (entries t)

pub same_text : (t u : Table) → SameTable t u → java_text t ≡ java_text u
same_text t u same = sym (unplaced_text t) ∙ ap java_text same ∙ unplaced_text u
