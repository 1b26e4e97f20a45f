-- What is said, as a list and as a relation; the tokens that say it; and that a place tells it.
use Rattle.std.proofs.Common.{◌≡◌, ℕ, ◌<◌, ◌≤◌, Bool, true, false, ◌&&◌, eqb, List, [], ◌∷◌, ◌++◌, map, Option, Some, None, slice_get, Contains, refl, sym, ap, ◌∙◌, subst, arith}
use Rattle.std.specs.List.{flat_map}
use Rattle.std.specs.List.Sorted.{IsStrictlyIncreasing}
use Rattle.std.specs.Option.{option_map}
use Rattle.std.specs.Str.{bytes_eq}
use Rattle.std.proofs.lemmas.Slice.Eq.{bytes_eq-Decides}
use Rattle.std.proofs.lemmas.Bool.{eqb-true, eq-eqb}
use Rattle.std.proofs.lemmas.Option.{slice_get-map, slice_get_within, get_or_from_slice_get}
use Rattle.std.proofs.lemmas.List.Elements.{Contains-append_left, Contains-append_right}
use Rattle.std.proofs.lemmas.List.Kept.{AllPairs-from_increasing}
use Rattle.arena_walk.specs.Tree.{Trees, branch, no_trees, tree_and, list_of, root_of, children_of}
use Rattle.dj_lexer.specs.Symbols.{Symbol}
use Rattle.dj_lexer.specs.declared.token.TokenKind.{TokenKind}
use Rattle.dj_lexer.specs.declared.token.TokenKind.TheVariants.{Word, Symbol as Sign}
use Rattle.dj_tree.specs.Trees.{ExprForm, VariableForm, ThisForm, NullForm, FieldForm, CallForm, NewForm, CastForm, AssignForm, OriginalForm, Expr, Field, Method, Class, MemberOperation, adds_field, adds_method, modifies_method, removes_field, removes_method}
use Rattle.dj_tree.specs.Trees.{Operation, adds_class, Delta, Item, Part, Source}
use Rattle.dj_tree.specs.Spells.{Spells, SpellsJava, Laid, LaidJava}
use Rattle.dj_calculus.specs.Formulas.{names_in}
use Rattle.dj_calculus.specs.BodyRules.{IsWithin, itself, deeper}
use Rattle.dj_calculus.proofs.Members.{either, no_element, first_or_other, among_others, mapped_within, mapped_from, within_flat, from_flat, in_front_or_behind, only_one}
use Rattle.dj_calculus.proofs.Counting.{number_in, got_within}
use Rattle.dj_source_laws.specs.Subtrees.{subtrees, subtrees_each}
use Rattle.dj_calculus.specs.Accepted.{IsAccepted}
use Rattle.dj_source_laws.specs.Once.{members_in, IsPlaced}
use Rattle.dj_source_laws.specs.Said.{MemberSaid, member_name, member_type, parameter_name, parameter_type, body_node, OperationSaid, its_class, its_parent, in_member}
use Rattle.dj_source_laws.specs.Said.{Said, the_title, a_feature, in_valid, a_part, its_after, an_item, in_condition, a_delta, in_delta, JavaSaid}
use Rattle.dj_source_laws.specs.Said.{optional, said_parameter, said_method, said_member, parent_in, said_operation, said_delta, names_in_condition, said_item, said_part, said, said_class, said_java, method_in}
use Rattle.dj_source_laws.specs.Said.{IsSaidInMember, the_name, the_field_type, the_result, the_parameter, the_parameter_type, the_node, IsSaidIn, the_class, the_parent, the_member}
use Rattle.dj_source_laws.specs.Said.{IsSaid, title_said, feature_said, valid_says, part_said, after_said, item_said, condition_says, delta_said, operation_says}
use Rattle.dj_source_laws.specs.Places.{token_of_form, token_in_member, token_in, token_of, place_of, token_in_java, place_in_java}
use Rattle.dj_source_laws.proofs.Weights.{weigh, bit, weighs_some, weighed, weighs_one, one_place}
use Rattle.dj_source_laws.proofs.OnceLemmas.{order, bit_small, bit_true, true_bit, placed_once}
use Rattle.dj_source_laws.proofs.SpelledWeights.{source_weighs, java_weighs}

-- ---- trees of nodes

front : {X : Type 0} (xs ys : List X) (x : X) → Contains xs x → Contains (xs ++ ys) x
front xs ys x there = Contains-append_left xs ys x there

behind : {X : Type 0} (xs ys : List X) (x : X) → Contains ys x → Contains (xs ++ ys) x
behind xs ys x there = Contains-append_right xs ys x there

at_first_place : {X : Type 0} (x : X) (xs : List X) → Contains (x ∷ xs) x
at_first_place x xs = (0, omega arith, refl)

in_a_child : (e : Expr) (kids : Trees ExprForm) (part : Expr) → Contains (list_of kids) part → Contains (subtrees part) e → Contains (subtrees_each kids) e
in_a_child e no_trees part there within = no_element part there
in_a_child e (tree_and t kids) part there within =
    either (first_or_other t part (list_of kids) there) (λ same. front (subtrees t) (subtrees_each kids) e (subst (λ (u : Expr). Contains (subtrees u) e) (sym same) within))
    (λ later. behind (subtrees t) (subtrees_each kids) e (in_a_child e kids part later within))

itself_listed : (e : Expr) → Contains (subtrees e) e
itself_listed (branch form kids) = behind (subtrees_each kids) (branch form kids ∷ []) (branch form kids) (at_first_place (branch form kids) [])

deeper_listed : (e part whole : Expr) → Contains (subtrees part) e → Contains (children_of whole) part → Contains (subtrees whole) e
deeper_listed e part (branch form kids) within child = front (subtrees_each kids) (branch form kids ∷ []) e (in_a_child e kids part child within)

pub within_listed : (e whole : Expr) → IsWithin e whole → Contains (subtrees whole) e
within_listed e whole itself = itself_listed e
within_listed e whole (deeper {part = part} within child) = deeper_listed e part whole (within_listed e part within) child

mutual
  pub listed_within : (whole e : Expr) → Contains (subtrees whole) e → IsWithin e whole
  listed_within (branch form kids) e there =
      either (in_front_or_behind (subtrees_each kids) (branch form kids ∷ []) e there)
      (λ below. let found = listed_below kids e below in deeper found.1.1 found.1.0)
      (λ here. subst (λ (u : Expr). IsWithin e u) (sym (only_one (branch form kids) e here)) itself)

  listed_below : (kids : Trees ExprForm) (e : Expr) → Contains (subtrees_each kids) e → (part : Expr) × (Contains (list_of kids) part × IsWithin e part)
  listed_below no_trees e there = no_element e there
  listed_below (tree_and t kids) e there =
      either (in_front_or_behind (subtrees t) (subtrees_each kids) e there) (λ here. (t, (at_first_place t (list_of kids), listed_within t e here)))
      (λ later. let found = listed_below kids e later in (found.0, (among_others t found.0 (list_of kids) found.1.0, found.1.1)))

-- ---- members

optional_listed : {X : Type 0} (o : Option X) (x : X) → o ≡ Some x → Contains (optional o) x
optional_listed None x e = absurd cc
optional_listed (Some y) x e = (0, omega arith, cc)

listed_optional : {X : Type 0} (o : Option X) (x : X) → Contains (optional o) x → o ≡ Some x
listed_optional None x there = no_element x there
listed_optional (Some y) x there = ap Some (only_one y x there)

-- what the list of a method says behind its type and its name
abbrev of_method : Method → List MemberSaid
of_method m = flat_map said_parameter m.parameters ++ map body_node (subtrees m.body)

method_listed : (member : MemberOperation) (m : Method) (what : MemberSaid) → method_in member ≡ Some m → Contains (said_method m) what → IsSaidInMember member what
method_listed member m what is there =
    either (first_or_other (member_type m.kind) what (member_name ∷ of_method m) there) (λ same. subst (IsSaidInMember member) same (the_result m is))
    (λ later. either (first_or_other member_name what (of_method m) later) (λ same. subst (IsSaidInMember member) same the_name)
    (λ rest. either (in_front_or_behind (flat_map said_parameter m.parameters) (map body_node (subtrees m.body)) what rest) in_parameters in_body))
  where
    of_parameter : (p : Field) → Contains m.parameters p → Contains (said_parameter p) what → IsSaidInMember member what
    of_parameter p has within =
        either (first_or_other (parameter_type p) what (parameter_name p ∷ []) within) (λ same. subst (IsSaidInMember member) same (the_parameter_type m p is has))
        (λ later. subst (IsSaidInMember member) (only_one (parameter_name p) what later) (the_parameter m p is has))

    in_parameters : Contains (flat_map said_parameter m.parameters) what → IsSaidInMember member what
    in_parameters within = let found = from_flat said_parameter m.parameters what within in of_parameter found.0 found.1 found.2

    in_body : Contains (map body_node (subtrees m.body)) what → IsSaidInMember member what
    in_body within =
        let found = mapped_from body_node (subtrees m.body) what within in
        subst (IsSaidInMember member) found.2 (the_node m found.0 is (listed_within m.body found.0 found.1))

member_listed : (member : MemberOperation) (what : MemberSaid) → Contains (said_member member) what → IsSaidInMember member what
member_listed (adds_field f) what there =
    either (first_or_other (member_type f.kind) what (member_name ∷ []) there) (λ same. subst (IsSaidInMember (adds_field f)) same (the_field_type f refl))
    (λ later. subst (IsSaidInMember (adds_field f)) (only_one member_name what later) the_name)
member_listed (adds_method m) what there = method_listed (adds_method m) m what refl there
member_listed (modifies_method m) what there = method_listed (modifies_method m) m what refl there
member_listed (removes_field f) what there = subst (IsSaidInMember (removes_field f)) (only_one member_name what there) the_name
member_listed (removes_method m) what there = subst (IsSaidInMember (removes_method m)) (only_one member_name what there) the_name

-- and the other way round
said_of_method : (member : MemberOperation) (m : Method) → method_in member ≡ Some m → said_member member ≡ said_method m
said_of_method (adds_field f) m e = absurd cc
said_of_method (adds_method x) m e = let same : x ≡ m = cc in ap said_method same
said_of_method (modifies_method x) m e = let same : x ≡ m = cc in ap said_method same
said_of_method (removes_field f) m e = absurd cc
said_of_method (removes_method x) m e = absurd cc

in_method : (member : MemberOperation) (m : Method) (what : MemberSaid) → method_in member ≡ Some m → Contains (said_method m) what → Contains (said_member member) what
in_method member m what is there = subst (λ list. Contains list what) (sym (said_of_method member m is)) there

in_rest : (m : Method) (what : MemberSaid) → Contains (of_method m) what → Contains (said_method m) what
in_rest m what there = among_others (member_type m.kind) what (member_name ∷ of_method m) (among_others member_name what (of_method m) there)

name_listed : (member : MemberOperation) → Contains (said_member member) member_name
name_listed (adds_field f) = (1, omega arith, refl)
name_listed (adds_method m) = (1, omega arith, refl)
name_listed (modifies_method m) = (1, omega arith, refl)
name_listed (removes_field f) = (0, omega arith, refl)
name_listed (removes_method m) = (0, omega arith, refl)

pub member_said : (member : MemberOperation) (what : MemberSaid) → IsSaidInMember member what → Contains (said_member member) what
member_said member what the_name = name_listed member
member_said member what (the_field_type f is) = subst (λ (m : MemberOperation). Contains (said_member m) (member_type f.kind)) (sym is) (0, omega arith, refl)
member_said member what (the_result m is) = in_method member m (member_type m.kind) is (0, omega arith, refl)
member_said member what (the_parameter m p is there) =
    in_method member m (parameter_name p) is (in_rest m (parameter_name p)
    (front (flat_map said_parameter m.parameters) _ (parameter_name p) (within_flat said_parameter m.parameters p (parameter_name p) there (1, omega arith, refl))))
member_said member what (the_parameter_type m p is there) =
    in_method member m (parameter_type p) is (in_rest m (parameter_type p)
    (front (flat_map said_parameter m.parameters) _ (parameter_type p) (within_flat said_parameter m.parameters p (parameter_type p) there (0, omega arith, refl))))
member_said member what (the_node m e is within) =
    in_method member m (body_node e) is (in_rest m (body_node e)
    (behind (flat_map said_parameter m.parameters) _ (body_node e) (mapped_within body_node (subtrees m.body) e (within_listed e m.body within))))

-- ---- operations

abbrev members_said : MemberOperation → List OperationSaid
members_said m = map (in_member m) (said_member m)

pub operation_listed : (o : Operation) (what : OperationSaid) → Contains (said_operation o) what → IsSaidIn o what
operation_listed o what there =
    either (first_or_other its_class what _ there) (λ same. subst (IsSaidIn o) same the_class)
    (λ later. either (in_front_or_behind (map its_parent (optional (parent_in o))) (flat_map members_said (members_in o)) what later)
    (λ above. let found = mapped_from its_parent (optional (parent_in o)) what above in subst (IsSaidIn o) found.2 (the_parent found.0 (listed_optional (parent_in o) found.0 found.1)))
    (λ within. let m = from_flat members_said (members_in o) what within in let found = mapped_from (in_member m.0) (said_member m.0) what m.2 in
    subst (IsSaidIn o) found.2 (the_member m.0 found.0 m.1 (member_listed m.0 found.0 found.1))))

pub operation_said : (o : Operation) (what : OperationSaid) → IsSaidIn o what → Contains (said_operation o) what
operation_said o what the_class = at_first_place its_class _
operation_said o what (the_parent x is) =
    among_others its_class (its_parent x) _ (front (map its_parent (optional (parent_in o))) _ (its_parent x) (mapped_within its_parent (optional (parent_in o)) x (optional_listed (parent_in o) x is)))
operation_said o what (the_member m it there says) =
    among_others its_class (in_member m it) _ (behind (map its_parent (optional (parent_in o))) _ (in_member m it)
    (within_flat members_said (members_in o) m (in_member m it) there (mapped_within (in_member m) (said_member m) it (member_said m it says))))

-- ---- sources

abbrev operations_said : Delta → Operation → List Said
operations_said d o = map (in_delta d o) (said_operation o)

module _ (source : Source) where
  item_listed : (p : Part) (i : Item) (what : Said) → Contains source.parts p → Contains p.items i → Contains (said_item p i) what → IsSaid source what
  item_listed p i what at_part at_item there =
      either (first_or_other (an_item p i) what _ there) (λ same. subst (IsSaid source) same (item_said p i at_part at_item))
      (λ later. let x = mapped_from (in_condition p i) (names_in_condition i) what later in let a = from_flat names_in (optional i.condition) x.0 x.1 in
      subst (IsSaid source) x.2 (condition_says p i a.0 x.0 at_part at_item (listed_optional i.condition a.0 a.1) a.2))

  part_listed : (p : Part) (what : Said) → Contains source.parts p → Contains (said_part p) what → IsSaid source what
  part_listed p what at_part there =
      either (first_or_other (a_part p) what _ there) (λ same. subst (IsSaid source) same (part_said p at_part))
      (λ later. either (in_front_or_behind (map (its_after p) (optional p.after)) (flat_map (said_item p) p.items) what later)
      (λ after. let x = mapped_from (its_after p) (optional p.after) what after in subst (IsSaid source) x.2 (after_said p x.0 at_part (listed_optional p.after x.0 x.1)))
      (λ within. let i = from_flat (said_item p) p.items what within in item_listed p i.0 what at_part i.1 i.2))

  delta_listed : (d : Delta) (what : Said) → Contains source.deltas d → Contains (said_delta d) what → IsSaid source what
  delta_listed d what at_delta there =
      either (first_or_other (a_delta d) what _ there) (λ same. subst (IsSaid source) same (delta_said d at_delta))
      (λ later. let o = from_flat (operations_said d) d.operations what later in let it = mapped_from (in_delta d o.0) (said_operation o.0) what o.2 in
      subst (IsSaid source) it.2 (operation_says d o.0 it.0 at_delta o.1 (operation_listed o.0 it.0 it.1)))

  abbrev features_said : List Said
  features_said = map a_feature source.features

  abbrev valid_said : List Said
  valid_said = map in_valid (names_in source.valid)

  abbrev parts_said : List Said
  parts_said = flat_map said_part source.parts

  abbrev deltas_said : List Said
  deltas_said = flat_map said_delta source.deltas

  pub listed_said : (what : Said) → Contains (said source) what → IsSaid source what
  listed_said what there =
      either (first_or_other the_title what _ there) (λ same. subst (IsSaid source) same title_said)
      (λ a. either (in_front_or_behind features_said (valid_said ++ (parts_said ++ deltas_said)) what a)
      (λ x. let it = mapped_from a_feature source.features what x in subst (IsSaid source) it.2 (feature_said it.0 it.1))
      (λ b. either (in_front_or_behind valid_said (parts_said ++ deltas_said) what b)
      (λ x. let it = mapped_from in_valid (names_in source.valid) what x in subst (IsSaid source) it.2 (valid_says it.0 it.1))
      (λ c. either (in_front_or_behind parts_said deltas_said what c)
      (λ x. let p = from_flat said_part source.parts what x in part_listed p.0 what p.1 p.2)
      (λ x. let d = from_flat said_delta source.deltas what x in delta_listed d.0 what d.1 d.2))))

  in_parts : (what : Said) → Contains parts_said what → Contains (said source) what
  in_parts what there =
      among_others the_title what _ (behind features_said _ what (behind valid_said _ what (front parts_said deltas_said what there)))

  in_deltas : (what : Said) → Contains deltas_said what → Contains (said source) what
  in_deltas what there =
      among_others the_title what _ (behind features_said _ what (behind valid_said _ what (behind parts_said deltas_said what there)))

  in_items : (p : Part) (i : Item) (what : Said) → Contains source.parts p → Contains p.items i → Contains (said_item p i) what → Contains (said source) what
  in_items p i what at_part at_item there =
      in_parts what (within_flat said_part source.parts p what at_part (among_others (a_part p) what _
      (behind (map (its_after p) (optional p.after)) _ what (within_flat (said_item p) p.items i what at_item there))))

  pub said_listed : (what : Said) → IsSaid source what → Contains (said source) what
  said_listed what title_said = at_first_place the_title _
  said_listed what (feature_said x there) = among_others the_title (a_feature x) _ (front features_said _ (a_feature x) (mapped_within a_feature source.features x there))
  said_listed what (valid_says x there) =
      among_others the_title (in_valid x) _ (behind features_said _ (in_valid x) (front valid_said _ (in_valid x) (mapped_within in_valid (names_in source.valid) x there)))
  said_listed what (part_said p there) = in_parts (a_part p) (within_flat said_part source.parts p (a_part p) there (at_first_place (a_part p) _))
  said_listed what (after_said p x there is) =
      in_parts (its_after p x) (within_flat said_part source.parts p (its_after p x) there (among_others (a_part p) (its_after p x) _
      (front (map (its_after p) (optional p.after)) _ (its_after p x) (mapped_within (its_after p) (optional p.after) x (optional_listed p.after x is)))))
  said_listed what (item_said p i at_part at_item) = in_items p i (an_item p i) at_part at_item (at_first_place (an_item p i) _)
  said_listed what (condition_says p i condition x at_part at_item is there) =
      in_items p i (in_condition p i x) at_part at_item (among_others (an_item p i) (in_condition p i x) _
      (mapped_within (in_condition p i) (names_in_condition i) x (within_flat names_in (optional i.condition) condition x (optional_listed i.condition condition is) there)))
  said_listed what (delta_said d there) = in_deltas (a_delta d) (within_flat said_delta source.deltas d (a_delta d) there (at_first_place (a_delta d) _))
  said_listed what (operation_says d o it at_delta at_operation says) =
      in_deltas (in_delta d o it) (within_flat said_delta source.deltas d (in_delta d o it) at_delta (among_others (a_delta d) (in_delta d o it) _
      (within_flat (operations_said d) d.operations o (in_delta d o it) at_operation (mapped_within (in_delta d o) (said_operation o) it (operation_said o it says)))))

-- ---- Java files

abbrev in_class : Class → OperationSaid → JavaSaid
in_class c what = record { class = c; what = what }

pub java_listed : (classes : List Class) (it : JavaSaid) → Contains (said_java classes) it → Contains classes it.class × IsSaidIn (adds_class it.class) it.what
java_listed classes it there =
    let c = from_flat said_class classes it there in
    let what = mapped_from (in_class c.0) (said_operation (adds_class c.0)) it c.2 in
    subst (λ (x : JavaSaid). Contains classes x.class × IsSaidIn (adds_class x.class) x.what) what.2 (c.1, operation_listed (adds_class c.0) what.0 what.1)

pub java_said : (classes : List Class) (it : JavaSaid) → Contains classes it.class × IsSaidIn (adds_class it.class) it.what → Contains (said_java classes) it
java_said classes it (there, says) =
    within_flat said_class classes it.class it there (mapped_within (in_class it.class) (said_operation (adds_class it.class)) it.what (operation_said (adds_class it.class) it.what says))

-- ---- tokens

abbrev is_word : TokenKind → Bool
is_word Word = true
is_word Sign = false

-- a word of this text at this place
abbrev is_token : Symbol → Symbol → Bool
is_token x s = eqb x.at s.at && (bytes_eq x.text s.text && is_word s.kind)

both : (a b : Bool) → (a && b) ≡ true → (a ≡ true) × (b ≡ true)
both true b e = (refl, e)
both false b e = absurd cc

and_true : (a b : Bool) → a ≡ true → b ≡ true → (a && b) ≡ true
and_true true b e f = f
and_true false b e f = absurd cc

same_kind : (k m : TokenKind) → is_word k ≡ true → is_word m ≡ true → k ≡ m
same_kind Word Word e f = refl
same_kind Word Sign e f = absurd cc
same_kind Sign m e f = absurd cc

same_symbol : (x s : Symbol) → x.kind ≡ s.kind → x.text ≡ s.text → x.at ≡ s.at → s ≡ x
same_symbol x s kind text at =
    let by_kind : s ≡ record s { kind = x.kind } = ap (λ (k : TokenKind). record s { kind = k }) (sym kind) in
    let by_text : (record s { kind = x.kind }) ≡ (record s { kind = x.kind; text = x.text }) = ap (λ (t : List ℕ). record s { kind = x.kind; text = t }) (sym text) in
    let by_place : (record s { kind = x.kind; text = x.text }) ≡ x = ap (λ (a : ℕ). record s { kind = x.kind; text = x.text; at = a }) (sym at) in
    by_kind ∙ by_text ∙ by_place

told : (x s : Symbol) → is_word x.kind ≡ true → is_token x s ≡ true → s ≡ x
told x s word e =
    let parts = both (eqb x.at s.at) (bytes_eq x.text s.text && is_word s.kind) e in
    let rest = both (bytes_eq x.text s.text) (is_word s.kind) parts.1 in
    same_symbol x s (same_kind x.kind s.kind word rest.1) ((bytes_eq-Decides x.text s.text).0 rest.0) (eqb-true x.at s.at parts.0)

itself_told : (x : Symbol) → is_word x.kind ≡ true → is_token x x ≡ true
itself_told x word =
    and_true (eqb x.at x.at) (bytes_eq x.text x.text && is_word x.kind) (eq-eqb x.at x.at refl)
    (and_true (bytes_eq x.text x.text) (is_word x.kind) ((bytes_eq-Decides x.text x.text).1 refl) word)

node_word : (form : ExprForm) → is_word (token_of_form form).kind ≡ true
node_word (VariableForm x) = refl
node_word (ThisForm at) = refl
node_word (NullForm at) = refl
node_word (FieldForm f) = refl
node_word (CallForm m) = refl
node_word (NewForm c) = refl
node_word (CastForm c) = refl
node_word (AssignForm f) = refl
node_word (OriginalForm at) = refl

member_word : (m : MemberOperation) (what : MemberSaid) → is_word (token_in_member m what).kind ≡ true
member_word m member_name = refl
member_word m (member_type kind) = refl
member_word m (parameter_name p) = refl
member_word m (parameter_type p) = refl
member_word m (body_node e) = node_word (root_of e)

operation_word : (o : Operation) (what : OperationSaid) → is_word (token_in o what).kind ≡ true
operation_word o its_class = refl
operation_word o (its_parent x) = refl
operation_word o (in_member m what) = member_word m what

source_word : (source : Source) (what : Said) → is_word (token_of source what).kind ≡ true
source_word source the_title = refl
source_word source (a_feature x) = refl
source_word source (in_valid x) = refl
source_word source (a_part p) = refl
source_word source (its_after p x) = refl
source_word source (an_item p i) = refl
source_word source (in_condition p i x) = refl
source_word source (a_delta d) = refl
source_word source (in_delta d o what) = operation_word o what

-- tokens at rising places weigh 1 at most by one place
rising_weighs : (tokens : List Symbol) → IsStrictlyIncreasing (map (λ (s : Symbol). s.at) tokens) → (p : ℕ) → weigh (λ (s : Symbol). bit (eqb p s.at)) tokens ≤ 1
rising_weighs tokens rising p =
    weighs_one (λ (s : Symbol). bit (eqb p s.at)) tokens (λ s. bit_small (eqb p s.at))
    (λ i j x y at_i at_j some other.
    let x_here = eqb-true p x.at (bit_true (eqb p x.at) some) in
    let y_here = eqb-true p y.at (bit_true (eqb p y.at) other) in
    either (order i j) (λ low. absurd (omega (arith, lower i j x y low at_i at_j, x_here, y_here)))
    (λ rest. either rest (λ same. same) (λ high. absurd (omega (arith, lower j i y x high at_j at_i, x_here, y_here)))))
  where
    placed : (k : ℕ) (s : Symbol) → slice_get tokens k ≡ Some s → slice_get (map (λ (t : Symbol). t.at) tokens) k ≡ Some s.at
    placed k s at = slice_get-map (λ (t : Symbol). t.at) tokens k ∙ ap (option_map (λ (t : Symbol). t.at)) at

    lower : (i j : ℕ) (x y : Symbol) → i < j → slice_get tokens i ≡ Some x → slice_get tokens j ≡ Some y → x.at < y.at
    lower i j x y low at_i at_j =
        let places = map (λ (t : Symbol). t.at) tokens in
        omega (arith, AllPairs-from_increasing places rising i j 0 low (slice_get_within places j y.at (placed j y at_j)), get_or_from_slice_get places i x.at 0 (placed i x at_i), get_or_from_slice_get places j y.at 0 (placed j y at_j))

-- a thing of a list whose tokens weigh no more than these, whatever a token weighs, is told by one of them
module _ {X : Type 0} (token : X → Symbol) (xs : List X) (tokens : List Symbol) (few : (w : Symbol → ℕ) → weigh (λ (x : X). w (token x)) xs ≤ weigh w tokens) where
  by_tokens : (x : X) → is_word (token x).kind ≡ true → Contains xs x → Contains tokens (token x)
  by_tokens x word there =
      let k = number_in xs x there in
      let w = λ (s : Symbol). bit (is_token (token x) s) in
      let own : 1 ≤ bit (is_token (token x) (token x)) = true_bit (is_token (token x) (token x)) (itself_told (token x) word) in
      let found = weighed w tokens (omega (arith, own, weighs_some (λ (y : X). w (token y)) xs k.0 x k.1, few w)) in
      subst (Contains tokens) (told (token x) found.1.0 word (bit_true (is_token (token x) found.1.0) found.1.2)) (got_within tokens found.0 found.1.0 found.1.1)

  -- and where their places rise, its place tells it
  by_place : IsStrictlyIncreasing (map (λ (s : Symbol). s.at) tokens) → (x y : X) → Contains xs x → Contains xs y → (token x).at ≡ (token y).at → x ≡ y
  by_place rising x y at_x at_y same =
      let i = number_in xs x at_x in
      let j = number_in xs y at_y in
      let w = λ (s : Symbol). bit (eqb (token x).at s.at) in
      let one : weigh (λ (z : X). w (token z)) xs ≤ 1 = omega (arith, few w, rising_weighs tokens rising (token x).at) in
      let some : 1 ≤ w (token x) = true_bit (eqb (token x).at (token x).at) (eq-eqb (token x).at (token x).at refl) in
      let other : 1 ≤ w (token y) = true_bit (eqb (token x).at (token y).at) (eq-eqb (token x).at (token y).at same) in
      same_place xs i.0 j.0 x y (one_place (λ (z : X). w (token z)) xs i.0 j.0 x y one i.1 j.1 some other) i.1 j.1
    where
      same_place : {Y : Type 0} (ys : List Y) (k m : ℕ) (a b : Y) → k ≡ m → slice_get ys k ≡ Some a → slice_get ys m ≡ Some b → a ≡ b
      same_place ys k m a b is at_k at_m = cc

-- ---- the laws

pub said_by_tokens : (tokens : List Symbol) (source : Source) (what : Said) → Spells tokens source → IsSaid source what → Contains tokens (token_of source what)
said_by_tokens tokens source what spells says =
    by_tokens (token_of source) (said source) tokens (λ w. source_weighs w tokens source spells) what (source_word source what) (said_listed source what says)

pub java_by_tokens : (tokens : List Symbol) (classes : List Class) (it : JavaSaid) → SpellsJava tokens classes → Contains (said_java classes) it → Contains tokens (token_in_java it)
java_by_tokens tokens classes it spells there =
    by_tokens token_in_java (said_java classes) tokens (λ w. java_weighs w tokens classes spells) it (operation_word (adds_class it.class) it.what) there

pub place_tells : (source : Source) (one other : Said) → Laid source → IsSaid source one → IsSaid source other → place_of source one ≡ place_of source other → one ≡ other
place_tells source one other laid a b same =
    by_place (token_of source) (said source) laid.tokens (λ w. source_weighs w laid.tokens source laid.spelled) laid.are_tokens.rising one other (said_listed source one a) (said_listed source other b) same

pub java_place_tells : (classes : List Class) (one other : JavaSaid) → LaidJava classes → Contains (said_java classes) one → Contains (said_java classes) other
    → place_in_java one ≡ place_in_java other → one ≡ other
java_place_tells classes one other laid a b same =
    by_place token_in_java (said_java classes) laid.tokens (λ w. java_weighs w laid.tokens classes laid.spelled) laid.are_tokens.rising one other a b same

pub place_tells_part : (source : Source) (d e : Delta) (o u : Operation) (one other : OperationSaid) (p q : Part) (i j : Item) → Laid source → IsAccepted source
    → IsSaid source (in_delta d o one) → IsSaid source (in_delta e u other) → place_of source (in_delta d o one) ≡ place_of source (in_delta e u other)
    → IsPlaced source p i d → IsPlaced source q j e → (p ≡ q) × (i ≡ j)
place_tells_part source d e o u one other p q i j laid accepted a b same at_p at_q =
    let is = place_tells source (in_delta d o one) (in_delta e u other) laid a b same in
    let delta : d ≡ e = cc in
    placed_once source accepted p q i j e (subst (IsPlaced source p i) delta at_p) at_q
