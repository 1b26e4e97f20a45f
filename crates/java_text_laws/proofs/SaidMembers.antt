-- The canonical text of a member says it.
use Rattle.std.proofs.Common.{◌≡◌, ℕ, ◌+◌, Bool, true, false, List, [], ◌∷◌, ◌++◌, map, length, codes, Contains, refl, sym, ap, ◌∙◌, subst, arith, append_assoc}
use Rattle.std.specs.List.{flat_map, zip}
use Rattle.std.proofs.lemmas.List.{append-nil}
use Rattle.std.proofs.lemmas.List.Concat.{flat_map-cons}
use Rattle.std.proofs.lemmas.Slice.Zip.{firsts-zip, seconds-zip}
use Rattle.dj_names.specs.Texts.{Text}
use Rattle.dj_lexer.specs.declared.token.Dialect.TheVariants.{Java}
use Rattle.dj_tree.specs.Words.{word, sign, named}
use Rattle.dj_tree.specs.Trees.{Spot, Expr, Field, Method}
use Rattle.dj_tree.specs.Repeats.{Many, none, more, AfterComma, after_comma, Listing, nothing}
use Rattle.dj_tree.specs.Repeats as repeats
use Rattle.dj_tree.specs.ExprGrammar.{Whole, SpellsAt}
use Rattle.dj_tree.specs.ClassGrammar.{SpellsTyped, typed, method, Member, field_member, method_member, SpellsMember, field, a_method}
use Rattle.dj_calculus.specs.Tables.{FieldEntry, Body, MethodEntry, unplaced, unplaced_expr, unplaced_field, unplaced_signature, unplaced_body, unplaced_method}
use Rattle.dj_calculus.specs.Entries.{field_entry, method_entry}
use Rattle.dj_calculus.specs.Expressions.{IsExpression}
use Rattle.dj_calculus.specs.JavaText.{listed, line, in_parentheses, field_text, parameter_text, body_text, method_text, expression_text}
use Rattle.dj_calculus.proofs.Members.{no_element, among_others, first_or_other, either}
use Rattle.java_text_laws.specs.Writable.{IsJavaName}
use Rattle.java_text_laws.proofs.Bits.{Bit, a_word, a_mark, space, feed, opening, closing, left, right, semicolon, comma, text_of, placed, Apart, apart_join, ends_join, text_join, placed_join}
use Rattle.java_text_laws.proofs.Said.{Said, name_is_word, return_is_word}
use Rattle.java_text_laws.proofs.SaidLines.{SaidLines}
use Rattle.java_text_laws.proofs.SaidExpressions.{IsPlain, said_expression, others_text, listed_first}

-- members but for places, each with its name
pub data BareMember : Type 0 where
  bare_field : Text × FieldEntry → BareMember
  bare_method : Text × MethodEntry → BareMember

abbrev pub bare : Member → BareMember
bare (field_member f) = bare_field (f.name.text, unplaced_field (field_entry f))
bare (method_member m) = bare_method (m.name.text, unplaced_method (method_entry m))

abbrev pub says_field : Text × FieldEntry → BareMember
says_field entry = bare_field (entry.0, unplaced_field entry.1)

abbrev pub says_method : Text × MethodEntry → BareMember
says_method entry = bare_method (entry.0, unplaced_method entry.1)

-- ---- fields

-- names of the entry of a field
pub record FieldIsNamed (entry : Text × FieldEntry) : Type 0 where
  pub name : IsJavaName entry.0
  pub kind : IsJavaName entry.1.kind.text

pub said_field : (entry : Text × FieldEntry) → FieldIsNamed entry → SaidLines (SpellsMember Java) bare (says_field entry) (field_text entry)
said_field entry is =
    let kind = entry.1.kind.text in
    let name = entry.0 in
    record {
      said = record {
        bits = space ∷ space ∷ a_word kind ∷ space ∷ a_word name ∷ a_mark semicolon ∷ feed ∷ [];
        writes = ap (λ t. 32 ∷ 32 ∷ t) (ap (λ t. kind ++ 32 ∷ t) (sym (append_assoc name (59 ∷ []) (10 ∷ []))) ∙ sym (append_assoc kind (32 ∷ (name ++ 59 ∷ [])) (10 ∷ [])));
        apart = (refl, (name_is_word kind is.kind, (refl, (name_is_word name is.name, tt))));
        reads = λ at.
            let of : Spot = record { text = kind; at = at + 1 + 1 } in
            let x : Spot = record { text = name; at = at + 1 + 1 + length kind + 1 } in
            let semicolon_at = at + 1 + 1 + length kind + 1 + length name in
            (field_member (record { kind = of; name = x }), (field semicolon_at (typed of x is.kind.free is.name.free), refl));
      };
      ends = refl;
    }

-- ---- parameters

abbrev bare_parameters : List Field → List (Spot × Spot)
bare_parameters ps = map (λ p. (unplaced p.kind, unplaced p.name)) ps

abbrev says_parameters : List (Spot × Spot) → List (Spot × Spot)
says_parameters pairs = map (λ p. (unplaced p.0, unplaced p.1)) pairs

record PairIsNamed (pair : Spot × Spot) : Type 0 where
  kind : IsJavaName pair.0.text
  name : IsJavaName pair.1.text

-- further parameters, each behind a comma
record SaidOthers (us : List (Spot × Spot)) (text : Text) : Type 0 where
  bits : List Bit
  writes : text_of bits ≡ text
  apart : (after : Bool) → Apart after bits
  reads : (at : ℕ) → (xs : List Field) × (Many (AfterComma SpellsTyped) (placed at bits) xs × (bare_parameters xs ≡ us))

said_others : (pairs : List (Spot × Spot)) → ((p : Spot × Spot) → Contains pairs p → PairIsNamed p) → SaidOthers (says_parameters pairs) (others_text (map parameter_text pairs))
said_others [] named_all = record { bits = []; writes = refl; apart = λ after. tt; reads = λ at. ([], (none, refl)) }
said_others (p ∷ pairs) named_all =
    let is = named_all p (0, omega arith, refl) in
    let rest = said_others pairs (λ q has. named_all q (among_others p q pairs has)) in
    let kind = p.0.text in
    let name = p.1.text in
    record {
      bits = a_mark comma ∷ space ∷ a_word kind ∷ space ∷ a_word name ∷ rest.bits;
      writes = ap (λ t. 44 ∷ 32 ∷ t) (ap (λ t. kind ++ 32 ∷ (name ++ t)) rest.writes ∙ sym (append_assoc kind (32 ∷ name) (others_text (map parameter_text pairs))));
      apart = λ after. (refl, (name_is_word kind is.kind, (refl, (name_is_word name is.name, rest.apart true))));
      reads = λ at.
          let of : Spot = record { text = kind; at = at + 1 + 1 } in
          let x : Spot = record { text = name; at = at + 1 + 1 + length kind + 1 } in
          let it = rest.reads (at + 1 + 1 + length kind + 1 + length name) in
          (record { kind = of; name = x } ∷ it.0, (more (after_comma at (typed of x is.kind.free is.name.free)) it.1.0, ap (λ us. (unplaced p.0, unplaced p.1) ∷ us) it.1.1));
    }

said_parameters : (pairs : List (Spot × Spot)) → ((p : Spot × Spot) → Contains pairs p → PairIsNamed p)
    → Said (Listing SpellsTyped) bare_parameters (says_parameters pairs) (listed (map parameter_text pairs))
said_parameters [] named_all = record { bits = []; writes = refl; apart = tt; reads = λ at. ([], (nothing, refl)) }
said_parameters (p ∷ pairs) named_all =
    let is = named_all p (0, omega arith, refl) in
    let rest = said_others pairs (λ q has. named_all q (among_others p q pairs has)) in
    let kind = p.0.text in
    let name = p.1.text in
    record {
      bits = a_word kind ∷ space ∷ a_word name ∷ rest.bits;
      writes = ap (λ t. kind ++ 32 ∷ (name ++ t)) rest.writes ∙ sym (append_assoc kind (32 ∷ name) (others_text (map parameter_text pairs))) ∙ sym (listed_first (parameter_text p) (map parameter_text pairs));
      apart = (refl, (name_is_word kind is.kind, (refl, (name_is_word name is.name, rest.apart true))));
      reads = λ at.
          let of : Spot = record { text = kind; at = at } in
          let x : Spot = record { text = name; at = at + length kind + 1 } in
          let it = rest.reads (at + length kind + 1 + length name) in
          (record { kind = of; name = x } ∷ it.0, (repeats.listed (typed of x is.kind.free is.name.free) it.1.0, ap (λ us. (unplaced p.0, unplaced p.1) ∷ us) it.1.1));
    }

-- ---- methods

-- a method of one body, of these parts
abbrev made : Spot → List Spot → List Spot → Expr → MethodEntry
made result kinds names value =
    record { at = 0; signature = record { parameters = kinds; result = result }; bodies = record { names = names; value = value } ∷ [] }

kinds_read : (ps : List Field) → map unplaced (map (λ p. p.kind) ps) ≡ map (λ q. q.0) (bare_parameters ps)
kinds_read [] = refl
kinds_read (p ∷ ps) = ap (λ us. unplaced p.kind ∷ us) (kinds_read ps)

names_read : (ps : List Field) → map unplaced (map (λ p. p.name) ps) ≡ map (λ q. q.1) (bare_parameters ps)
names_read [] = refl
names_read (p ∷ ps) = ap (λ us. unplaced p.name ∷ us) (names_read ps)

kinds_said : (pairs : List (Spot × Spot)) → map (λ q. q.0) (says_parameters pairs) ≡ map unplaced (map (λ q. q.0) pairs)
kinds_said [] = refl
kinds_said (p ∷ pairs) = ap (λ us. unplaced p.0 ∷ us) (kinds_said pairs)

names_said : (pairs : List (Spot × Spot)) → map (λ q. q.1) (says_parameters pairs) ≡ map unplaced (map (λ q. q.1) pairs)
names_said [] = refl
names_said (p ∷ pairs) = ap (λ us. unplaced p.1 ∷ us) (names_said pairs)

-- what the entry of a method of one body says can be said
pub record MethodIsNamed (entry : Text × MethodEntry) (body : Body) : Type 0 where
  pub name : IsJavaName entry.0
  pub result : IsJavaName entry.1.signature.result.text
  pub kinds : (k : Spot) → Contains entry.1.signature.parameters k → IsJavaName k.text
  pub names : (n : Spot) → Contains body.names n → IsJavaName n.text
  pub count : length body.names ≡ length entry.1.signature.parameters
  pub expression : IsExpression body.value
  pub plain : IsPlain body.value
  pub bodies : entry.1.bodies ≡ body ∷ []

method_line : (r m p v : Text) → 32 ∷ 32 ∷ (r ++ 32 ∷ (m ++ 40 ∷ (p ++ 41 ∷ 32 ∷ 123 ∷ 10 ∷ 32 ∷ 32 ∷ 32 ∷ 32 ∷ (codes "return" ++ 32 ∷ (v ++ 59 ∷ 10 ∷ 32 ∷ 32 ∷ 125 ∷ 10 ∷ [])))))
    ≡ line (codes "  " ++ (r ++ (codes " " ++ (m ++ (in_parentheses p ++ codes " {"))))) ++ (line (codes "    return " ++ (v ++ codes ";")) ++ line (codes "  }"))
method_line r m p v = simp append_assoc refl

pairs_named : (ks ns : List Spot) → ((k : Spot) → Contains ks k → IsJavaName k.text) → ((n : Spot) → Contains ns n → IsJavaName n.text)
    → (p : Spot × Spot) → Contains (zip ks ns) p → PairIsNamed p
pairs_named [] ns kinds names p has = no_element p has
pairs_named (k ∷ ks) [] kinds names p has = no_element p has
pairs_named (k ∷ ks) (n ∷ ns) kinds names p has =
    either (first_or_other (k, n) p (zip ks ns) has)
    (λ same. subst PairIsNamed same (record { kind = kinds k (0, omega arith, refl); name = names n (0, omega arith, refl) }))
    (λ later. pairs_named ks ns (λ j is. kinds j (among_others k j ks is)) (λ j is. names j (among_others n j ns is)) p later)

-- the read parameters and value make the method
same_method : (entry : Text × MethodEntry) (body : Body) → length body.names ≡ length entry.1.signature.parameters → entry.1.bodies ≡ body ∷ []
    → (ps : List Field) (value : Expr) → bare_parameters ps ≡ says_parameters (zip entry.1.signature.parameters body.names) → unplaced_expr value ≡ unplaced_expr body.value
    → bare_method (entry.0, made (unplaced entry.1.signature.result) (map unplaced (map (λ p. p.kind) ps)) (map unplaced (map (λ p. p.name) ps)) (unplaced_expr value)) ≡ says_method entry
same_method entry body count one ps value same values =
    let pairs = zip entry.1.signature.parameters body.names in
    let result = unplaced entry.1.signature.result in
    let kinds : map unplaced (map (λ p. p.kind) ps) ≡ map unplaced entry.1.signature.parameters =
    kinds_read ps ∙ ap (map (λ q. q.0)) same ∙ kinds_said pairs ∙ ap (map unplaced) (firsts-zip entry.1.signature.parameters body.names count) in
    let names : map unplaced (map (λ p. p.name) ps) ≡ map unplaced body.names =
    names_read ps ∙ ap (map (λ q. q.1)) same ∙ names_said pairs ∙ ap (map unplaced) (seconds-zip entry.1.signature.parameters body.names count) in
    ap (λ ks. bare_method (entry.0, made result ks (map unplaced (map (λ p. p.name) ps)) (unplaced_expr value))) kinds
    ∙ ap (λ ns. bare_method (entry.0, made result (map unplaced entry.1.signature.parameters) ns (unplaced_expr value))) names
    ∙ ap (λ v. bare_method (entry.0, made result (map unplaced entry.1.signature.parameters) (map unplaced body.names) v)) values
    ∙ ap (λ bs. bare_method (entry.0, record { at = 0; signature = unplaced_signature entry.1.signature; bodies = map unplaced_body bs })) (sym one)

-- the text of a method that has one body
one_body_text : (entry : Text × MethodEntry) (body : Body) → entry.1.bodies ≡ body ∷ [] → body_text entry.0 entry.1.signature body ≡ method_text entry
one_body_text entry body one =
    sym (append-nil (body_text entry.0 entry.1.signature body)) ∙ sym (flat_map-cons (body_text entry.0 entry.1.signature) body []) ∙ ap (flat_map (body_text entry.0 entry.1.signature)) (sym one)

-- the bits of a method, around its parameters and its value
abbrev behind_value : List Bit
behind_value = a_mark semicolon ∷ feed ∷ space ∷ space ∷ a_mark right ∷ feed ∷ []

abbrev behind_parameters : List Bit → List Bit
behind_parameters value =
    a_mark closing ∷ space ∷ a_mark left ∷ feed ∷ space ∷ space ∷ space ∷ space ∷ a_word (codes "return") ∷ space ∷ (value ++ behind_value)

abbrev method_bits : Text → Text → List Bit → List Bit → List Bit
method_bits result m parameters value =
    space ∷ space ∷ a_word result ∷ space ∷ a_word m ∷ a_mark opening ∷ (parameters ++ behind_parameters value)

method_writes : (result m : Text) (parameters value : List Bit) (p v : Text) → text_of parameters ≡ p → text_of value ≡ v
    → text_of (method_bits result m parameters value)
    ≡ line (codes "  " ++ (result ++ (codes " " ++ (m ++ (in_parentheses p ++ codes " {"))))) ++ (line (codes "    return " ++ (v ++ codes ";")) ++ line (codes "  }"))
method_writes result m parameters value p v of_p of_v =
    ap (λ t. 32 ∷ 32 ∷ (result ++ 32 ∷ (m ++ 40 ∷ t)))
    (text_join parameters (behind_parameters value) ∙ ap (λ t. t ++ text_of (behind_parameters value)) of_p
    ∙ ap (λ t. p ++ 41 ∷ 32 ∷ 123 ∷ 10 ∷ 32 ∷ 32 ∷ 32 ∷ 32 ∷ (codes "return" ++ 32 ∷ t)) (text_join value behind_value ∙ ap (λ t. t ++ text_of behind_value) of_v))
    ∙ method_line result m p v

-- where the parameters and the value of a method begin that begins at this place
abbrev parameters_at : ℕ → Text → Text → ℕ
parameters_at at result m = at + 1 + 1 + length result + 1 + length m + 1

abbrev value_at : ℕ → Text → Text → List Bit → ℕ
value_at at result m parameters = parameters_at at result m + length (text_of parameters) + 1 + 1 + 1 + 1 + 1 + 1 + 1 + 1 + length (codes "return") + 1

method_spelled : (at : ℕ) (result m : Text) (parameters value : List Bit) (ps : List Field) (v : Expr) → IsJavaName result → IsJavaName m
    → Listing SpellsTyped (placed (parameters_at at result m) parameters) ps → SpellsAt Java Whole (placed (value_at at result m parameters) value) v
    → SpellsMember Java (placed at (method_bits result m parameters value))
    (method_member (record { kind = record { text = result; at = at + 1 + 1 }; name = record { text = m; at = at + 1 + 1 + length result + 1 }; parameters = ps; body = v }))
method_spelled at result m parameters value ps v result_is m_is of_parameters spelled =
    let of : Spot = record { text = result; at = at + 1 + 1 } in
    let x : Spot = record { text = m; at = at + 1 + 1 + length result + 1 } in
    let opening_at = at + 1 + 1 + length result + 1 + length m in
    let p_at = opening_at + 1 in
    let closing_at = p_at + length (text_of parameters) in
    let left_at = closing_at + 1 + 1 in
    let return_at = left_at + 1 + 1 + 1 + 1 + 1 + 1 in
    let v_at = return_at + length (codes "return") + 1 in
    let semicolon_at = v_at + length (text_of value) in
    let right_at = semicolon_at + 1 + 1 + 1 + 1 in
    let whole = a_method (method opening_at closing_at left_at return_at semicolon_at right_at (typed of x result_is.free m_is.free) of_parameters spelled) in
    let symbols : placed p_at (parameters ++ behind_parameters value)
    ≡ placed p_at parameters ++ sign (codes ")") closing_at ∷ sign (codes "{") left_at ∷ word (codes "return") return_at ∷ (placed v_at value ++ sign (codes ";") semicolon_at ∷ sign (codes "}") right_at ∷ []) =
    placed_join p_at parameters (behind_parameters value)
    ∙ ap (λ s. placed p_at parameters ++ sign (codes ")") closing_at ∷ sign (codes "{") left_at ∷ word (codes "return") return_at ∷ s) (placed_join v_at value behind_value) in
    subst (λ s. SpellsMember Java (named of ∷ named x ∷ sign (codes "(") opening_at ∷ s) (method_member (record { kind = of; name = x; parameters = ps; body = v }))) (sym symbols) whole

pub said_method : (entry : Text × MethodEntry) (body : Body) → MethodIsNamed entry body → SaidLines (SpellsMember Java) bare (says_method entry) (method_text entry)
said_method entry body is =
    let pairs = zip entry.1.signature.parameters body.names in
    let result = entry.1.signature.result.text in
    let parameters = said_parameters pairs (pairs_named entry.1.signature.parameters body.names is.kinds is.names) in
    let value = said_expression body.value is.expression is.plain in
    let value_apart = apart_join false value.bits behind_value value.apart tt in
    record {
      said = record {
        bits = method_bits result entry.0 parameters.bits value.bits;
        writes = method_writes result entry.0 parameters.bits value.bits (listed (map parameter_text pairs)) (expression_text body.value) parameters.writes value.writes
            ∙ one_body_text entry body is.bodies;
        apart = (
          refl,
          (
            name_is_word result is.result,
            (
              refl,
              (
                name_is_word entry.0 is.name,
                apart_join false parameters.bits (behind_parameters value.bits) parameters.apart (refl, (return_is_word, value_apart)),
              ),
            ),
          ),
        );
        reads = λ at.
            let ps = parameters.reads (parameters_at at result entry.0) in
            let v = value.reads (value_at at result entry.0 parameters.bits) in
            let it : Method = record { kind = record { text = result; at = at + 1 + 1 }; name = record { text = entry.0; at = at + 1 + 1 + length result + 1 }; parameters = ps.0; body = v.0 } in (
              method_member it,
              (
                method_spelled at result entry.0 parameters.bits value.bits ps.0 v.0 is.result is.name ps.1.0 v.1.0,
                same_method entry body is.count is.bodies ps.0 v.0 ps.1.1 v.1.1,
              ),
            );
      };
      ends = ends_join false parameters.bits (behind_parameters value.bits) ∙ ends_join false value.bits behind_value;
    }
