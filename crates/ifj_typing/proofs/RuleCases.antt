-- What stands in the class table of a table is found in its entries.
use Rattle.std.proofs.Common.{◌≡◌, inl, inr, ℕ, ◌∷◌, map, Some, Contains, refl, sym, ap, ◌∙◌, subst}
use Rattle.std.specs.Prelude.{IsSome}
use Rattle.std.specs.FinMap.{get}
use Rattle.std.proofs.lemmas.Option.{slice_get_within}
use Rattle.dj_names.specs.Texts.{Text}
use Rattle.dj_tree.specs.Plain.{plain_spot}
use Rattle.dj_tree.specs.Trees as plain
use Rattle.dj_tree.specs.Trees.{Expr}
use Rattle.dj_tree.specs.declared.source.Instance.{Instance}
use Rattle.dj_calculus.specs.Tables as calculus
use Rattle.dj_calculus.specs.Subclasses.{Exists, Steps, Above}
use Rattle.dj_calculus.specs.Typing.{Home, home_of, IsBody, kept, types_in}
use Rattle.dj_calculus.specs.BodyRules.{HasField, BreaksWithin}
use Rattle.dj_calculus.specs.TableRules.{TableRule, unknown_superclass, circular_superclasses, unknown_field_type, unknown_method_type, hidden_field, override_differs, of_node, returned_type, IsEndless}
use Rattle.dj_calculus.proofs.Counting.{number_in}
use Rattle.dj_calculus.proofs.Members.{either, same_some, first_or_other, mapped_from}
use Rattle.ifj_table.specs.Entries.{text_at, plain_body, plain_method, plain_signature, plain_class}
use Rattle.ifj_table.specs.Tables.{plain_table}
use Rattle.ifj_table.specs.declared.entry.MethodEntry.{MethodEntry}
use Rattle.ifj_table.specs.declared.entry.ClassEntry.{ClassEntry}
use Rattle.ifj_table.specs.declared.table.Table.{Table}
use Rattle.ifj_table.proofs.MemberLemmas.{some_value}
use Rattle.ifj_table.proofs.TableLemmas.{class_key}
use Rattle.ifj_typing.specs.Bodies.{BreaksBody, BodyRule, within, returned, BreaksBodies}
use Rattle.ifj_typing.specs.Declarations.{UnknownInSignature, BreaksDeclaration, BreaksDeclarations, BreaksMembers, BreaksInheritance}
use Rattle.ifj_typing.proofs.Entries.{Entry, class_from, field_from, method_from}
use Rattle.ifj_lineages.specs.Overrides.{Differs}
use Rattle.ifj_lineages.proofs.Overriding.{has_nearest}

-- an instance of one of the layers
pub data Case (t : Table) (i : Instance) : Type 0 where
  third : BreaksDeclarations t i → Case t i
  fourth : BreaksInheritance t i → Case t i
  fifth : BreaksBodies t i → Case t i

module _ (t : Table) (i : Instance) where
  abbrev ClassOf : Text → calculus.ClassEntry → Type 0
  ClassOf c x = Entry (class_key t.names) (plain_class t.names t.exprs) t.classes.items c x

  in_third : (c : Text) (x : calculus.ClassEntry) (e : ClassOf c x) → BreaksDeclaration t e.entry i → Case t i
  in_third c x e breaks = third (e.number, slice_get_within t.classes.items e.number e.entry e.stands, (e.entry, e.stands, breaks))

  in_fourth : (c : Text) (x : calculus.ClassEntry) (e : ClassOf c x) → BreaksMembers t e.entry i → Case t i
  in_fourth c x e breaks = fourth (e.number, slice_get_within t.classes.items e.number e.entry e.stands, (e.entry, e.stands, breaks))

  module _ (one : i.second ≡ i.at) where
    -- ---- layer 3

    signature_case : (m : MethodEntry) (kind : plain.Spot) → Contains (plain_spot t.names m.result ∷ map (plain_spot t.names) m.parameters) kind → i.rule ≡ 11 → i.at ≡ kind.at
        → ¬ (Exists (plain_table t) kind.text) → UnknownInSignature t m i
    signature_case m kind has r p missing =
        either (first_or_other (plain_spot t.names m.result) kind (map (plain_spot t.names) m.parameters) has)
        (λ same. inl (record {
          rule_is = r;
          place_is = p ∙ sym (ap (λ z. z.at) same);
          one_place = one;
          holds = λ exists. missing (subst (λ (z : plain.Spot). Exists (plain_table t) z.text) same exists);
        }))
        (λ more. let from = mapped_from (plain_spot t.names) m.parameters kind more in
        let number = number_in m.parameters from.0 from.1 in
        inr (
          number.0,
          slice_get_within m.parameters number.0 from.0 number.1,
          (
            from.0,
            number.1,
            record {
              rule_is = r;
              place_is = p ∙ sym (ap (λ z. z.at) from.2);
              one_place = one;
              holds = λ exists. missing (subst (λ (z : plain.Spot). Exists (plain_table t) z.text) from.2 exists);
            },
          ),
        ))

    -- ---- layer 4

    -- a class above is reached from the superclass
    from_parent : (c d : Text) (x : calculus.ClassEntry) (class : ClassEntry) → get (plain_table t) c ≡ Some x → plain_class t.names t.exprs class ≡ x → Above (plain_table t) c d
        → Steps (plain_table t) (text_at t.names class.parent) d
    from_parent c d x class there reads (p, has, steps) =
        let same : x ≡ has.entry = same_some x has.entry (get (plain_table t) c) there has.there in
        let parent : text_at t.names class.parent ≡ p = ap (λ (z : calculus.ClassEntry). z.parent.text) (reads ∙ same) ∙ has.parent in
        subst (λ k. Steps (plain_table t) k d) (sym parent) steps

    has_field : (p d f : Text) (upper : calculus.ClassEntry) → Steps (plain_table t) p d → get (plain_table t) d ≡ Some upper → IsSome (get upper.fields f) → HasField (plain_table t) p f
    has_field p d f upper steps there some =
        let value = some_value (get upper.fields f) some in
        let nearest = has_nearest (plain_table t) (λ (z : calculus.ClassEntry). get z.fields f) p d upper value.0 steps there value.1 in
        (nearest.1.0.kind.text, record { owner = nearest.0; field = nearest.1.0; nearest = nearest.1.1; has = refl })

    -- ---- layer 5

    body_case : (home : Home) (e : Expr) → IsBody (plain_table t) home e → BreaksBody (plain_table t) home e i → Case t i
    body_case home e (kept {c = c} m {entry = x} {method = method} {body = body} there has inside) breaks =
        let k = class_from t c x there in
        let own = method_from t k.number k.entry k.stands x m method k.reads has in
        let from = mapped_from (plain_body t.names t.exprs) own.entry.bodies.items body (subst (λ (z : calculus.MethodEntry). Contains z.bodies body) (sym own.reads) inside) in
        let number = number_in own.entry.bodies.items from.0 from.1 in
        let by_body = subst (λ (z : calculus.Body). BreaksBody (plain_table t) (home_of c method z) z.value i) (sym from.2) breaks in
        let by_method = subst (λ (z : calculus.MethodEntry). BreaksBody (plain_table t) (home_of c z (plain_body t.names t.exprs from.0)) (plain_body t.names t.exprs from.0).value i) (sym own.reads) by_body in
        let by_class = subst (λ z. BreaksBody (plain_table t) (home_of z (plain_method t.names t.exprs own.entry) (plain_body t.names t.exprs from.0)) (plain_body t.names t.exprs from.0).value i) (sym k.named) by_method in
        fifth (
          k.number,
          slice_get_within t.classes.items k.number k.entry k.stands,
          (
            k.entry,
            k.stands,
            (
              own.number,
              slice_get_within k.entry.methods.items own.number own.entry own.stands,
              (
                own.entry,
                own.stands,
                (number.0, slice_get_within own.entry.bodies.items number.0 from.0 number.1, (from.0, number.1, by_class)),
              ),
            ),
          ),
        )

    -- ---- all of them

    pub rule_case : (r p : ℕ) → TableRule (plain_table t) r p → i.rule ≡ r → i.at ≡ p → Case t i
    rule_case r p (unknown_superclass c x there missing) is at =
        let e = class_from t c x there in
        in_third c x e (inl (inl (record {
          rule_is = is;
          place_is = at ∙ sym (ap (λ (z : calculus.ClassEntry). z.parent.at) e.reads);
          one_place = one;
          holds = λ exists. missing (subst (λ (z : calculus.ClassEntry). Exists (plain_table t) z.parent.text) e.reads exists);
        })))
    rule_case r p (circular_superclasses c x there endless) is at =
        let e = class_from t c x there in
        in_third c x e (inl (inr (record {
          rule_is = is;
          place_is = at ∙ sym (ap (λ (z : calculus.ClassEntry). z.parent.at) e.reads);
          one_place = one;
          holds = subst (IsEndless (plain_table t)) (sym e.named) endless;
        })))
    rule_case r p (unknown_field_type c f x field there has missing) is at =
        let e = class_from t c x there in
        let own = field_from t e.number e.entry e.stands x f field e.reads has in
        in_third c x e (inr (inl (
          own.number,
          slice_get_within e.entry.fields.items own.number own.entry own.stands,
          (
            own.entry,
            own.stands,
            record {
              rule_is = is;
              place_is = at ∙ sym (ap (λ (z : calculus.FieldEntry). z.kind.at) own.reads);
              one_place = one;
              holds = λ exists. missing (subst (λ (z : calculus.FieldEntry). Exists (plain_table t) z.kind.text) own.reads exists);
            },
          ),
        )))
    rule_case r p (unknown_method_type c m x method kind there has inside missing) is at =
        let e = class_from t c x there in
        let own = method_from t e.number e.entry e.stands x m method e.reads has in
        let said = subst (λ (z : calculus.MethodEntry). Contains (types_in z.signature) kind) (sym own.reads) inside in
        in_third c x e (inr (inr (own.number, slice_get_within e.entry.methods.items own.number own.entry own.stands, (own.entry, own.stands, signature_case own.entry kind said is at missing))))
    rule_case r p (hidden_field c d f x upper field there has over upper_there some) is at =
        let e = class_from t c x there in
        let own = field_from t e.number e.entry e.stands x f field e.reads has in
        in_fourth c x e (inl (
          own.number,
          slice_get_within e.entry.fields.items own.number own.entry own.stands,
          (
            own.entry,
            own.stands,
            record {
              rule_is = is;
              place_is = at ∙ sym (ap (λ (z : calculus.FieldEntry). z.at) own.reads);
              one_place = one;
              holds = subst (HasField (plain_table t) (text_at t.names e.entry.parent)) (sym own.named) (has_field (text_at t.names e.entry.parent) d f upper (from_parent c d x e.entry there e.reads over) upper_there some);
            },
          ),
        ))
    rule_case r p (override_differs c d m x upper method other there has over upper_there its differs) is at =
        let e = class_from t c x there in
        let own = method_from t e.number e.entry e.stands x m method e.reads has in
        let above : Differs (plain_table t) (text_at t.names e.entry.parent) m method.signature =
        record { upper = d; entry = upper; other = other; steps = from_parent c d x e.entry there e.reads over; there = upper_there; its = its; differs = differs } in
        in_fourth c x e (inr (
          own.number,
          slice_get_within e.entry.methods.items own.number own.entry own.stands,
          (
            own.entry,
            own.stands,
            record {
              rule_is = is;
              place_is = at ∙ sym (ap (λ (z : calculus.MethodEntry). z.at) own.reads);
              one_place = one;
              holds = subst (λ k. Differs (plain_table t) (text_at t.names e.entry.parent) k (plain_signature t.names own.entry)) (sym own.named)
                  (subst (λ (z : calculus.MethodEntry). Differs (plain_table t) (text_at t.names e.entry.parent) m z.signature) (sym own.reads) above);
            },
          ),
        ))
    rule_case r p (of_node home e s q body breaks) is at =
        body_case home e body (record {
          breaks = within (subst (λ k. BreaksWithin (plain_table t) home e k i.at) (sym is) (subst (λ k. BreaksWithin (plain_table t) home e r k) (sym at) breaks));
          one_place = one;
        })
    rule_case r p (returned_type home e kind body types wrong) is at =
        body_case home e body (record {
          breaks = subst (λ k. BodyRule (plain_table t) home e k i.at) (sym is) (subst (λ k. BodyRule (plain_table t) home e 21 k) (sym at) (returned kind types wrong));
          one_place = one;
        })
