-- A table of expressions is well typed exactly if no instance counts in it.
use Rattle.std.proofs.Common.{◌≡◌, ◌⊎◌, inl, inr, ◌↔◌, ℕ, ◌≤◌, Bool, true, false, nat_lt, Option, Some, None, is_some, IsSome, IsTrue, Contains, refl, sym, ap, ◌∙◌, subst, arith}
use Rattle.std.proofs.lemmas.Bool.{false≢true}
use Rattle.std.specs.Bool.{if◌then◌else◌}
use Rattle.std.specs.FinMap.{get}
use Rattle.dj_names.specs.Texts.{Text}
use Rattle.dj_tree.specs.Trees.{Spot, Expr}
use Rattle.dj_tree.specs.declared.source.Instance.{Instance}
use Rattle.dj_calculus.specs.Tables.{FieldEntry, MethodEntry, ClassEntry, Table}
use Rattle.dj_calculus.specs.Entries.{same_signature}
use Rattle.dj_calculus.specs.Subclasses.{object, Exists, Steps, stay, up, Above, class_kind}
use Rattle.dj_calculus.specs.Typing.{Home, IsBody, kept, Returns, types_in, WellTyped}
use Rattle.dj_calculus.specs.Expressions.{IsExpression}
use Rattle.dj_calculus.specs.TableForms.{IsTable}
use Rattle.dj_calculus.specs.BodyRules.{place_of}
use Rattle.dj_calculus.specs.Instances.{layer}
use Rattle.dj_calculus.specs.TableRules.{TableRule, unknown_superclass, circular_superclasses, unknown_field_type, unknown_method_type, hidden_field, override_differs, of_node, returned_type, CountsIn}
use Rattle.dj_calculus.proofs.LayerLemmas.{of_higher_table}
use Rattle.dj_calculus.proofs.Members.{either}
use Rattle.dj_calculus.proofs.Chains.{Ends, none_or_value, ends_or_endless}
use Rattle.dj_calculus.proofs.RuleLemmas.{sound_table}
use Rattle.dj_calculus.proofs.TypingDecided.{TypedOrBroken, exists_decided, holds, typed_or_broken, below_decided}

at_most_five : (b c d e : Bool) → (if b then 1 else (if c then 2 else (if d then 3 else (if e then 4 else 5)))) ≤ 5
at_most_five true c d e = omega arith
at_most_five false true d e = omega arith
at_most_five false false true e = omega arith
at_most_five false false false true = omega arith
at_most_five false false false false = omega arith

layer_most : (rule : ℕ) → layer rule ≤ 5
layer_most rule = at_most_five (nat_lt rule 2) (nat_lt rule 9) (nat_lt rule 12) (nat_lt rule 14)

true_or_false : (b : Bool) → (b ≡ true) ⊎ (b ≡ false)
true_or_false true = inl refl
true_or_false false = inr refl

none_is_some : {X : Type 0} {G : Type 0} (o : Option X) → o ≡ None → IsSome o → G
none_is_some o e is = absurd (false≢true (sym (ap is_some e) ∙ is))

module _ (t : Table) (no_object : get t object ≡ None) (formed : (home : Home) (e : Expr) → IsBody t home e → IsExpression e)
    (clean : (i : Instance) → ¬ (CountsIn t i)) where
  no_third : (rule at : ℕ) → layer rule ≤ 3 → ¬ (TableRule t rule at)
  no_third rule at low breaks =
      clean (record { rule = rule; at = at; second = at })
      (record { stands = record { breaks = breaks; one_place = refl }; clean = λ lower below stands. of_higher_table t lower.rule lower.at stands.breaks (omega arith) })

  no_fourth : (rule at : ℕ) → layer rule ≤ 4 → ¬ (TableRule t rule at)
  no_fourth rule at low breaks =
      clean (record { rule = rule; at = at; second = at })
      (record { stands = record { breaks = breaks; one_place = refl }; clean = λ lower below stands. no_third lower.rule lower.at (omega arith) stands.breaks })

  no_rule : (rule at : ℕ) → ¬ (TableRule t rule at)
  no_rule rule at breaks =
      let most = layer_most rule in
      clean (record { rule = rule; at = at; second = at })
      (record { stands = record { breaks = breaks; one_place = refl }; clean = λ lower below stands. no_fourth lower.rule lower.at (omega arith) stands.breaks })

  superclasses : (c : Text) (entry : ClassEntry) → get t c ≡ Some entry → Exists t entry.parent.text
  superclasses c e is = holds (exists_decided t e.parent.text) (λ missing. no_rule 9 e.parent.at (unknown_superclass c e is missing))

  top_is_object : (c d : Text) → Exists t c → Steps t c d → get t d ≡ None → d ≡ object
  top_is_object c d (inl is) stay none = is
  top_is_object c d (inr there) stay none = none_is_some (get t c) none there
  top_is_object c d exists (up {d = y} has steps) none = top_is_object y d (subst (Exists t) has.parent (superclasses c has.entry has.there)) steps none

  rooted_class : (c : Text) (entry : ClassEntry) → get t c ≡ Some entry → Steps t c object
  rooted_class c e is =
      either (ends_or_endless t c) (λ ends. subst (Steps t c) (top_is_object c ends.0 (inr (ap is_some is)) ends.1 ends.2) ends.1)
      (λ endless. absurd (no_rule 10 e.parent.at (circular_superclasses c e is endless)))

  each_ends : (c : Text) → Ends t c
  each_ends c =
      either (ends_or_endless t c) (λ ends. ends)
      (λ endless. either (none_or_value (get t c)) (λ none. (c, stay, none))
      (λ found. absurd (no_rule 10 found.0.parent.at (circular_superclasses c found.0 found.1 endless))))

  field_types : (c f : Text) (entry : ClassEntry) (field : FieldEntry) → get t c ≡ Some entry → get entry.fields f ≡ Some field → Exists t field.kind.text
  field_types c f e field is has = holds (exists_decided t field.kind.text) (λ missing. no_rule 11 field.kind.at (unknown_field_type c f e field is has missing))

  signatures : (c m : Text) (entry : ClassEntry) (method : MethodEntry) (kind : Spot) → get t c ≡ Some entry → get entry.methods m ≡ Some method
      → Contains (types_in method.signature) kind → Exists t kind.text
  signatures c m e method kind is has within =
      holds (exists_decided t kind.text) (λ missing. no_rule 11 kind.at (unknown_method_type c m e method kind is has within missing))

  no_hidden : (c d f : Text) (entry upper : ClassEntry) (field : FieldEntry) → get t c ≡ Some entry → get entry.fields f ≡ Some field
      → Above t c d → get t d ≡ Some upper → get upper.fields f ≡ None
  no_hidden c d f e upper field is has over upper_is =
      either (none_or_value (get upper.fields f)) (λ none. none)
      (λ found. absurd (no_rule 12 field.at (hidden_field c d f e upper field is has over upper_is (ap is_some found.1))))

  overrides : (c d m : Text) (entry upper : ClassEntry) (method other : MethodEntry) → get t c ≡ Some entry → get entry.methods m ≡ Some method
      → Above t c d → get t d ≡ Some upper → get upper.methods m ≡ Some other → IsTrue (same_signature method.signature other.signature)
  overrides c d m e upper method other is has over upper_is there =
      either (true_or_false (same_signature method.signature other.signature)) (λ yes. yes)
      (λ differs. absurd (no_rule 13 method.at (override_differs c d m e upper method other is has over upper_is there differs)))

  below_result : (home : Home) (e : Expr) → IsBody t home e → TypedOrBroken t home e → Returns t home e
  below_result home e body (inl has) =
      either (below_decided t each_ends has.0 (class_kind home.heading.result)) (λ below. record { kind = has.0; types = has.1; below = below })
      (λ wrong. absurd (no_rule 21 (place_of e) (returned_type home e has.0 body has.1 wrong)))
  below_result home e body (inr broken) = absurd (no_rule broken.0 broken.1.0 (of_node home e broken.0 broken.1.0 body broken.1.1))

  bodies : (home : Home) (e : Expr) → IsBody t home e → Returns t home e
  bodies home e body = below_result home e body (typed_or_broken t each_ends home e (formed home e body))

  pub well_typed : WellTyped t
  well_typed =
      record {
        superclasses = superclasses;
        rooted = rooted_class;
        field_types = field_types;
        signatures = signatures;
        fields = no_hidden;
        methods = overrides;
        bodies = bodies;
      }

-- the bodies of a table are expressions
pub bodies_are_expressions : (t : Table) → IsTable t → (home : Home) (e : Expr) → IsBody t home e → IsExpression e
bodies_are_expressions t is home e (kept {c = c} m {entry = entry} {method = method} {body = body} there has within) =
    ((is.methods c m entry method there has).bodies body within).expression

pub well_typed_exactly_if : (t : Table) → get t object ≡ None → ((home : Home) (e : Expr) → IsBody t home e → IsExpression e)
    → WellTyped t ↔ ((i : Instance) → ¬ (CountsIn t i))
well_typed_exactly_if t no_object formed =
    (λ typed i counts. sound_table t no_object typed i.rule i.at counts.stands.breaks, λ clean. well_typed t no_object formed clean)
