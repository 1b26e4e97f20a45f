-- The canonical text of a class says it, and that of a table its classes.
use Rattle.std.proofs.Common.{◌≡◌, ◌+◌, false, List, [], ◌∷◌, ◌++◌, map, length, Some, codes, Contains, refl, sym, ap, ◌∙◌, subst, append_assoc}
use Rattle.std.specs.List.{flat_map}
use Rattle.std.specs.FinMap.{entries}
use Rattle.dj_names.specs.Texts.{Text}
use Rattle.dj_lexer.specs.declared.token.Dialect.TheVariants.{Java}
use Rattle.dj_tree.specs.Words.{word, sign, named}
use Rattle.dj_tree.specs.Trees.{Spot, Field, Method, Class}
use Rattle.dj_tree.specs.Repeats.{Many}
use Rattle.dj_tree.specs.ClassGrammar.{Member, field_member, method_member, SpellsMember, fields_of, methods_of, given, SpellsClass, class}
use Rattle.dj_calculus.specs.Tables.{FieldEntry, Body, MethodEntry, ClassEntry, Table, unplaced_field, unplaced_method}
use Rattle.dj_calculus.specs.Entries.{field_entry, method_entry, superclass_of}
use Rattle.dj_calculus.specs.JavaText.{line, field_text, method_text, class_text, java_text}
use Rattle.java_text_laws.specs.Writable.{IsJavaName}
use Rattle.java_text_laws.proofs.Bits.{Bit, a_word, a_mark, space, feed, left, right, text_of, apart_join, ends_join, text_join, placed_join}
use Rattle.java_text_laws.proofs.Said.{Said, name_is_word, class_is_word, extends_is_word}
use Rattle.java_text_laws.proofs.SaidLines.{SaidLines, many_lines, lines_join}
use Rattle.java_text_laws.proofs.SaidMembers.{BareMember, bare_field, bare_method, bare, says_field, says_method, FieldIsNamed, said_field, MethodIsNamed, said_method}

-- a class but for places, with lists of its fields and of its methods, in which a name may stand twice
pub record BareClass : Type 0 where
  pub name : Text
  pub parent : Text
  pub fields : List (Text × FieldEntry)
  pub methods : List (Text × MethodEntry)

abbrev pub bare_fields : List Field → List (Text × FieldEntry)
bare_fields fields = map (λ f. (f.name.text, unplaced_field (field_entry f))) fields

abbrev pub bare_methods : List Method → List (Text × MethodEntry)
bare_methods methods = map (λ m. (m.name.text, unplaced_method (method_entry m))) methods

abbrev pub bare_class : Class → BareClass
bare_class c = record { name = c.name.text; parent = (superclass_of c.name c.parent).text; fields = bare_fields c.fields; methods = bare_methods c.methods }

abbrev pub unplaced_fields : List (Text × FieldEntry) → List (Text × FieldEntry)
unplaced_fields fields = map (λ e. (e.0, unplaced_field e.1)) fields

abbrev pub unplaced_methods : List (Text × MethodEntry) → List (Text × MethodEntry)
unplaced_methods methods = map (λ e. (e.0, unplaced_method e.1)) methods

abbrev pub says_class : Text × ClassEntry → BareClass
says_class entry =
    record { name = entry.0; parent = entry.1.parent.text; fields = unplaced_fields (entries entry.1.fields); methods = unplaced_methods (entries entry.1.methods) }

-- ---- fields and methods among members

abbrev fields_in : List BareMember → List (Text × FieldEntry)
fields_in [] = []
fields_in (bare_field f ∷ ms) = f ∷ fields_in ms
fields_in (bare_method m ∷ ms) = fields_in ms

abbrev methods_in : List BareMember → List (Text × MethodEntry)
methods_in [] = []
methods_in (bare_field f ∷ ms) = methods_in ms
methods_in (bare_method m ∷ ms) = m ∷ methods_in ms

read_fields : (ms : List Member) → bare_fields (fields_of ms) ≡ fields_in (map bare ms)
read_fields [] = refl
read_fields (field_member f ∷ ms) = ap (λ fs. (f.name.text, unplaced_field (field_entry f)) ∷ fs) (read_fields ms)
read_fields (method_member m ∷ ms) = read_fields ms

read_methods : (ms : List Member) → bare_methods (methods_of ms) ≡ methods_in (map bare ms)
read_methods [] = refl
read_methods (field_member f ∷ ms) = read_methods ms
read_methods (method_member m ∷ ms) = ap (λ xs. (m.name.text, unplaced_method (method_entry m)) ∷ xs) (read_methods ms)

no_fields : (methods : List (Text × MethodEntry)) → fields_in (map says_method methods) ≡ []
no_fields [] = refl
no_fields (m ∷ methods) = no_fields methods

said_fields : (fields : List (Text × FieldEntry)) (methods : List (Text × MethodEntry)) → fields_in (map says_field fields ++ map says_method methods) ≡ unplaced_fields fields
said_fields [] methods = no_fields methods
said_fields (f ∷ fields) methods = ap (λ fs. (f.0, unplaced_field f.1) ∷ fs) (said_fields fields methods)

all_methods : (methods : List (Text × MethodEntry)) → methods_in (map says_method methods) ≡ unplaced_methods methods
all_methods [] = refl
all_methods (m ∷ methods) = ap (λ xs. (m.0, unplaced_method m.1) ∷ xs) (all_methods methods)

said_methods : (fields : List (Text × FieldEntry)) (methods : List (Text × MethodEntry)) → methods_in (map says_field fields ++ map says_method methods) ≡ unplaced_methods methods
said_methods [] methods = all_methods methods
said_methods (f ∷ fields) methods = said_methods fields methods

-- ---- classes

-- what the entry of a class says can be said
pub record ClassIsNamed (entry : Text × ClassEntry) : Type 0 where
  pub name : IsJavaName entry.0
  pub parent : IsJavaName entry.1.parent.text
  pub fields : (f : Text × FieldEntry) → Contains (entries entry.1.fields) f → FieldIsNamed f
  pub methods : (m : Text × MethodEntry) → Contains (entries entry.1.methods) m → (body : Body) × MethodIsNamed m body

abbrev class_bits : Text → Text → List Bit → List Bit
class_bits name parent members =
    a_word (codes "class") ∷ space ∷ a_word name ∷ space ∷ a_word (codes "extends") ∷ space ∷ a_word parent ∷ space ∷ a_mark left ∷ feed ∷ (members ++ a_mark right ∷ feed ∷ [])

class_line : (name parent f m : Text) → codes "class" ++ 32 ∷ (name ++ 32 ∷ (codes "extends" ++ 32 ∷ (parent ++ 32 ∷ 123 ∷ 10 ∷ ((f ++ m) ++ 125 ∷ 10 ∷ []))))
    ≡ line (codes "class " ++ (name ++ (codes " extends " ++ (parent ++ codes " {")))) ++ (f ++ (m ++ line (codes "}")))
class_line name parent f m = simp append_assoc refl

pub said_class : (entry : Text × ClassEntry) → ClassIsNamed entry → SaidLines (SpellsClass Java) bare_class (says_class entry) (class_text entry)
said_class entry is =
    let name = entry.0 in
    let parent = entry.1.parent.text in
    let fields = entries entry.1.fields in
    let methods = entries entry.1.methods in
    let members = (lines_join (SpellsMember Java) bare
    (many_lines (SpellsMember Java) bare field_text says_field fields (λ f has. said_field f (is.fields f has)))
    (many_lines (SpellsMember Java) bare method_text says_method methods (λ m has. let of = is.methods m has in said_method m of.0 of.1))).said in
    record {
      said = record {
        bits = class_bits name parent members.bits;
        writes = ap (λ t. codes "class" ++ 32 ∷ (name ++ 32 ∷ (codes "extends" ++ 32 ∷ (parent ++ 32 ∷ 123 ∷ 10 ∷ t)))) (text_join members.bits (a_mark right ∷ feed ∷ []) ∙ ap (λ t. t ++ 125 ∷ 10 ∷ []) members.writes)
            ∙ class_line name parent (flat_map field_text fields) (flat_map method_text methods);
        apart = (refl, (class_is_word, (refl, (name_is_word name is.name, (refl, (extends_is_word, (refl, (name_is_word parent is.parent, apart_join false members.bits (a_mark right ∷ feed ∷ []) members.apart tt))))))));
        reads = λ at.
            let c : Spot = record { text = name; at = at + length (codes "class") + 1 } in
            let extends_at = at + length (codes "class") + 1 + length name + 1 in
            let p : Spot = record { text = parent; at = extends_at + length (codes "extends") + 1 } in
            let left_at = extends_at + length (codes "extends") + 1 + length parent + 1 in
            let it = members.reads (left_at + 1 + 1) in
            let right_at = left_at + 1 + 1 + length (text_of members.bits) in
            let read : Class = record { name = c; parent = Some p; fields = fields_of it.0; methods = methods_of it.0 } in
            let spelled = class at left_at right_at c is.name.free (given extends_at p is.parent.free) it.1.0 in
            let same_fields : bare_fields (fields_of it.0) ≡ unplaced_fields fields = read_fields it.0 ∙ ap fields_in it.1.1 ∙ said_fields fields methods in
            let same_methods : bare_methods (methods_of it.0) ≡ unplaced_methods methods = read_methods it.0 ∙ ap methods_in it.1.1 ∙ said_methods fields methods in (
              read,
              (
                subst (λ s. SpellsClass Java (word (codes "class") at ∷ named c ∷ word (codes "extends") extends_at ∷ named p ∷ sign (codes "{") left_at ∷ s) read) (sym (placed_join (left_at + 1 + 1) members.bits (a_mark right ∷ feed ∷ []))) spelled,
                ap (λ fs. record { name = name; parent = parent; fields = fs; methods = bare_methods (methods_of it.0) }) same_fields
                    ∙ ap (λ ms. record { name = name; parent = parent; fields = unplaced_fields fields; methods = ms }) same_methods,
              ),
            );
      };
      ends = ends_join false members.bits (a_mark right ∷ feed ∷ []);
    }

-- the canonical text of a table says its classes
pub said_table : (t : Table) → ((entry : Text × ClassEntry) → Contains (entries t) entry → ClassIsNamed entry)
    → Said (Many (SpellsClass Java)) (map bare_class) (map says_class (entries t)) (java_text t)
said_table t named_all = (many_lines (SpellsClass Java) bare_class class_text says_class (entries t) (λ entry has. said_class entry (named_all entry has))).said
