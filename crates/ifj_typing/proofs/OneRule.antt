-- A node whose parts have types breaks one rule, at one place, or has a type. One lemma a form.
use Rattle.std.proofs.Common.{◌≡◌, inr, ℕ, None, refl, sym, subst, arith}
use Rattle.dj_names.specs.Texts.{Text}
use Rattle.arena_walk.specs.Tree.{branch}
use Rattle.dj_tree.specs.Trees.{Spot, Expr, OriginalForm, variable, field_of, new_of, cast_to, assignment}
use Rattle.dj_tree.specs.declared.source.Instance.{Instance}
use Rattle.dj_calculus.specs.Tables.{Table, Heading}
use Rattle.dj_calculus.specs.Subclasses.{Exists, Kind, null_kind, class_kind, Below, FieldOf, MethodOf}
use Rattle.dj_calculus.specs.Typing.{Home, parameter_type, Arguments, call_with, Types}
use Rattle.dj_calculus.specs.BodyRules.{HasType, HaveTypes, HasField, HasMethod, NodeRule}
use Rattle.dj_calculus.specs.BodyRules.{unknown_variable, unknown_class_new, unknown_class_cast, no_field, no_field_assigned, no_method, number_of_call, number_of_original, argument_of_call, argument_of_original, assigned_type, unrelated_cast, field_of_null, method_of_null, assignment_of_null}
use Rattle.dj_calculus.specs.Instances.{IsNotAfter, IsLeast}
use Rattle.dj_calculus.proofs.TypeLemmas.{same_class, not_null, its_method}
use Rattle.ifj_typing.specs.Said.{BreaksAt, ArgumentRule, number, argument, BreaksArguments}
use Rattle.ifj_typing.proofs.Leasts.{same_least}

abbrev pub fault : ℕ → ℕ → Instance
fault rule at = record { rule = rule; at = at; second = at }

module _ (t : Table) (home : Home) where
  -- a node that can break one rule only, at one place
  pub only_one : (e : Expr) (rule at : ℕ) → NodeRule t home e rule at → ((r p : ℕ) → NodeRule t home e r p → (r ≡ rule) × (p ≡ at)) → IsLeast (BreaksAt t home e) (fault rule at)
  only_one e rule at breaks all =
      record {
        is = record { breaks = breaks; one_place = refl };
        least = λ j b. let same = all j.rule j.at b.breaks in not_behind j same.0 same.1 b.one_place;
      }
    where
      not_behind : (j : Instance) → j.rule ≡ rule → j.at ≡ at → j.second ≡ j.at → IsNotAfter (fault rule at) j
      not_behind j r p s = inr (sym r, inr (sym p, omega arith))

  -- ---- variables and objects

  variable_rule : (x : Spot) (r p : ℕ) → NodeRule t home (variable x) r p → (r ≡ 14) × (p ≡ x.at)
  variable_rule x r p (unknown_variable nothing) = (refl, refl)

  pub says_variable : (x : Spot) → parameter_type home x.text ≡ None → IsLeast (BreaksAt t home (variable x)) (fault 14 x.at)
  says_variable x nothing = only_one (variable x) 14 x.at (unknown_variable nothing) (variable_rule x)

  new_rule : (d : Spot) (r p : ℕ) → NodeRule t home (new_of d) r p → (r ≡ 15) × (p ≡ d.at)
  new_rule d r p (unknown_class_new missing) = (refl, refl)

  pub says_new : (d : Spot) → ¬ (Exists t d.text) → IsLeast (BreaksAt t home (new_of d)) (fault 15 d.at)
  says_new d missing = only_one (new_of d) 15 d.at (unknown_class_new missing) (new_rule d)

  -- ---- casts

  unknown_cast : (d : Spot) (e : Expr) (r p : ℕ) → ¬ (Exists t d.text) → NodeRule t home (cast_to d e) r p → (r ≡ 15) × (p ≡ d.at)
  unknown_cast d e r p missing (unknown_class_cast typed also) = (refl, refl)
  unknown_cast d e r p missing (unrelated_cast a types exists not_below not_above) = absurd (missing exists)

  pub says_unknown_cast : (d : Spot) (e : Expr) (a : Kind) → Types t home e a → ¬ (Exists t d.text) → IsLeast (BreaksAt t home (cast_to d e)) (fault 15 d.at)
  says_unknown_cast d e a types missing = only_one (cast_to d e) 15 d.at (unknown_class_cast (a, types) missing) (λ r p. unknown_cast d e r p missing)

  apart_cast : (d : Spot) (e : Expr) (r p : ℕ) → Exists t d.text → NodeRule t home (cast_to d e) r p → (r ≡ 22) × (p ≡ d.at)
  apart_cast d e r p exists (unknown_class_cast typed missing) = absurd (missing exists)
  apart_cast d e r p exists (unrelated_cast a types also not_below not_above) = (refl, refl)

  pub says_unrelated : (d : Spot) (e : Expr) (a : Kind) → Types t home e a → Exists t d.text → ¬ (Below t a (class_kind d.text)) → ¬ (Below t (class_kind d.text) a)
      → IsLeast (BreaksAt t home (cast_to d e)) (fault 22 d.at)
  says_unrelated d e a types exists not_below not_above =
      only_one (cast_to d e) 22 d.at (unrelated_cast a types exists not_below not_above) (λ r p. apart_cast d e r p exists)

  -- ---- fields

  null_field : (e : Expr) (f : Spot) (r p : ℕ) → Types t home e null_kind → NodeRule t home (field_of e f) r p → (r ≡ 23) × (p ≡ f.at)
  null_field e f r p null (no_field a types missing) = absurd (not_null t home e a null types)
  null_field e f r p null (field_of_null also) = (refl, refl)

  pub says_null_field : (e : Expr) (f : Spot) → Types t home e null_kind → IsLeast (BreaksAt t home (field_of e f)) (fault 23 f.at)
  says_null_field e f null = only_one (field_of e f) 23 f.at (field_of_null null) (λ r p. null_field e f r p null)

  missing_field : (e : Expr) (f : Spot) (a : Text) (r p : ℕ) → Types t home e (class_kind a) → NodeRule t home (field_of e f) r p → (r ≡ 16) × (p ≡ f.at)
  missing_field e f a r p types (no_field b its missing) = (refl, refl)
  missing_field e f a r p types (field_of_null null) = absurd (not_null t home e a null types)

  pub says_no_field : (e : Expr) (f : Spot) (a : Text) → Types t home e (class_kind a) → ¬ (HasField t a f.text) → IsLeast (BreaksAt t home (field_of e f)) (fault 16 f.at)
  says_no_field e f a types missing = only_one (field_of e f) 16 f.at (no_field a types missing) (λ r p. missing_field e f a r p types)

  -- ---- assignments

  null_assigned : (e v : Expr) (f : Spot) (r p : ℕ) → Types t home e null_kind → NodeRule t home (assignment e f v) r p → (r ≡ 23) × (p ≡ f.at)
  null_assigned e v f r p null (no_field_assigned a types value missing) = absurd (not_null t home e a null types)
  null_assigned e v f r p null (assigned_type a kind b types has value wrong) = absurd (not_null t home e a null types)
  null_assigned e v f r p null (assignment_of_null also value) = (refl, refl)

  pub says_null_assigned : (e v : Expr) (f : Spot) → Types t home e null_kind → HasType t home v → IsLeast (BreaksAt t home (assignment e f v)) (fault 23 f.at)
  says_null_assigned e v f null value = only_one (assignment e f v) 23 f.at (assignment_of_null null value) (λ r p. null_assigned e v f r p null)

  its_class : (e : Expr) (a b f kind : Text) → Types t home e (class_kind a) → Types t home e (class_kind b) → FieldOf t b f kind → HasField t a f
  its_class e a b f kind types its has = (kind, subst (λ c. FieldOf t c f kind) (same_class t home e b a its types) has)

  missing_assigned : (e v : Expr) (f : Spot) (a : Text) (r p : ℕ) → Types t home e (class_kind a) → ¬ (HasField t a f.text) → NodeRule t home (assignment e f v) r p
      → (r ≡ 16) × (p ≡ f.at)
  missing_assigned e v f a r p types missing (no_field_assigned b its value also) = (refl, refl)
  missing_assigned e v f a r p types missing (assigned_type b kind c its has value wrong) = absurd (missing (its_class e a b f.text kind types its has))
  missing_assigned e v f a r p types missing (assignment_of_null null value) = absurd (not_null t home e a null types)

  pub says_no_field_assigned : (e v : Expr) (f : Spot) (a : Text) → Types t home e (class_kind a) → HasType t home v → ¬ (HasField t a f.text)
      → IsLeast (BreaksAt t home (assignment e f v)) (fault 16 f.at)
  says_no_field_assigned e v f a types value missing =
      only_one (assignment e f v) 16 f.at (no_field_assigned a types value missing) (λ r p. missing_assigned e v f a r p types missing)

  wrong_assigned : (e v : Expr) (f : Spot) (a kind : Text) (r p : ℕ) → Types t home e (class_kind a) → FieldOf t a f.text kind → NodeRule t home (assignment e f v) r p
      → (r ≡ 20) × (p ≡ f.at)
  wrong_assigned e v f a kind r p types has (no_field_assigned b its value missing) = absurd (missing (its_class e b a f.text kind its types has))
  wrong_assigned e v f a kind r p types has (assigned_type b other c its also value wrong) = (refl, refl)
  wrong_assigned e v f a kind r p types has (assignment_of_null null value) = absurd (not_null t home e a null types)

  pub says_assigned_type : (e v : Expr) (f : Spot) (a kind : Text) (b : Kind) → Types t home e (class_kind a) → FieldOf t a f.text kind → Types t home v b
      → ¬ (Below t b (class_kind kind)) → IsLeast (BreaksAt t home (assignment e f v)) (fault 20 f.at)
  says_assigned_type e v f a kind b types has value wrong =
      only_one (assignment e f v) 20 f.at (assigned_type a kind b types has value wrong) (λ r p. wrong_assigned e v f a kind r p types has)

  -- ---- calls

  null_call : (e : Expr) (m : Spot) (arguments : Arguments) (r p : ℕ) → Types t home e null_kind → NodeRule t home (call_with e m arguments) r p → (r ≡ 23) × (p ≡ m.at)
  null_call e m arguments r p null (no_method a types typed missing) = absurd (not_null t home e a null types)
  null_call e m arguments r p null (number_of_call a heading types has wrong) = absurd (not_null t home e a null types)
  null_call e m arguments r p null (argument_of_call a heading v types has wrong) = absurd (not_null t home e a null types)
  null_call e m arguments r p null (method_of_null also typed) = (refl, refl)

  pub says_null_call : (e : Expr) (m : Spot) (arguments : Arguments) → Types t home e null_kind → HaveTypes t home arguments
      → IsLeast (BreaksAt t home (call_with e m arguments)) (fault 23 m.at)
  says_null_call e m arguments null typed = only_one (call_with e m arguments) 23 m.at (method_of_null null typed) (λ r p. null_call e m arguments r p null)

  its_methods : (e : Expr) (a b m : Text) (heading : Heading) → Types t home e (class_kind a) → Types t home e (class_kind b) → MethodOf t b m heading → HasMethod t a m
  its_methods e a b m heading types its has = (heading, subst (λ c. MethodOf t c m heading) (same_class t home e b a its types) has)

  missing_method : (e : Expr) (m : Spot) (arguments : Arguments) (a : Text) (r p : ℕ) → Types t home e (class_kind a) → ¬ (HasMethod t a m.text)
      → NodeRule t home (call_with e m arguments) r p → (r ≡ 17) × (p ≡ m.at)
  missing_method e m arguments a r p types missing (no_method b its typed also) = (refl, refl)
  missing_method e m arguments a r p types missing (number_of_call b heading its has wrong) = absurd (missing (its_methods e a b m.text heading types its has))
  missing_method e m arguments a r p types missing (argument_of_call b heading v its has wrong) = absurd (missing (its_methods e a b m.text heading types its has))
  missing_method e m arguments a r p types missing (method_of_null null typed) = absurd (not_null t home e a null types)

  pub says_no_method : (e : Expr) (m : Spot) (arguments : Arguments) (a : Text) → Types t home e (class_kind a) → HaveTypes t home arguments → ¬ (HasMethod t a m.text)
      → IsLeast (BreaksAt t home (call_with e m arguments)) (fault 17 m.at)
  says_no_method e m arguments a types typed missing =
      only_one (call_with e m arguments) 17 m.at (no_method a types typed missing) (λ r p. missing_method e m arguments a r p types missing)

  module _ (e : Expr) (m : Spot) (arguments : Arguments) (a : Text) (heading : Heading) (types : Types t home e (class_kind a)) (has : MethodOf t a m.text heading) where
    call_rule : (r p : ℕ) → ArgumentRule t home arguments heading.parameters m.at r p → NodeRule t home (call_with e m arguments) r p
    call_rule r p (number wrong) = number_of_call a heading types has wrong
    call_rule r p (argument v wrong) = argument_of_call a heading v types has wrong

    rule_of_call : (r p : ℕ) → NodeRule t home (call_with e m arguments) r p → ArgumentRule t home arguments heading.parameters m.at r p
    rule_of_call r p (no_method b its typed missing) = absurd (missing (its_methods e b a m.text heading its types has))
    rule_of_call r p (number_of_call b other its also wrong) =
        number (rw (its_method t home e a b m.text heading other types its has also) wrong)
    rule_of_call r p (argument_of_call b other v its also wrong) =
        argument v (rw (its_method t home e a b m.text heading other types its has also) wrong)
    rule_of_call r p (method_of_null null typed) = absurd (not_null t home e a null types)

    pub says_call : (i : Instance) → IsLeast (BreaksArguments t home arguments heading.parameters m.at) i → IsLeast (BreaksAt t home (call_with e m arguments)) i
    says_call =
        same_least _ _ (λ j b. record { breaks = call_rule j.rule j.at b.breaks; one_place = b.one_place })
        (λ j b. record { breaks = rule_of_call j.rule j.at b.breaks; one_place = b.one_place })

  module _ (at : ℕ) (arguments : Arguments) where
    original_rule : (r p : ℕ) → ArgumentRule t home arguments home.heading.parameters at r p → NodeRule t home (branch (OriginalForm at) arguments) r p
    original_rule r p (number wrong) = number_of_original wrong
    original_rule r p (argument v wrong) = argument_of_original v wrong

    rule_of_original : (r p : ℕ) → NodeRule t home (branch (OriginalForm at) arguments) r p → ArgumentRule t home arguments home.heading.parameters at r p
    rule_of_original r p (number_of_original wrong) = number wrong
    rule_of_original r p (argument_of_original v wrong) = argument v wrong

    pub says_original : (i : Instance) → IsLeast (BreaksArguments t home arguments home.heading.parameters at) i → IsLeast (BreaksAt t home (branch (OriginalForm at) arguments)) i
    says_original =
        same_least _ _ (λ j b. record { breaks = original_rule j.rule j.at b.breaks; one_place = b.one_place })
        (λ j b. record { breaks = rule_of_original j.rule j.at b.breaks; one_place = b.one_place })
