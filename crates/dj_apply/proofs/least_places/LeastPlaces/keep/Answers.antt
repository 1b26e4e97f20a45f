use Rattle.std.proofs.Common.{nat_eq, refl, ap, subst}
use Rattle.indexmap.specs.IndexMap.{get}
use Rattle.dj_calculus.specs.Things.{mention, whole, only, superclass, field_named, method_named}
use Rattle.ifj_table.proofs.MemberLemmas.{on_ok}
use Rattle.dj_apply.specs.Kept.{Lowers, same_member}
use Rattle.dj_apply.specs.Touched.{text_of, plain_touch, plain_thing, IsTouch}
use Rattle.dj_apply.proofs.KeptLemmas.{any_lowered, touch_lowered, member_lowered, other_touch, no_such_member, one_field, one_method}
use Rattle.dj_apply.proofs.least_places.LeastPlaces.keep.Goals as goal

pub returns-in-Mention : goal.returns-in-Mention
returns-in-Mention c = λ names things distinct known keeps.
    let t = plain_thing names c.args.thing in
    let own = c.args.thing.class.0 in
    let now = c.args.self.now in
    let touch = ap (plain_touch names) c.in-Mention.is in
    record {
      of_any = any_lowered names distinct things t own known.class refl (get nat_eq now.any) (get nat_eq c.lower.new.places) c.in_ok-lower.ensures keeps.of_any;
      of_wholes = other_touch names things t mention whole touch (λ e. absurd cc) (get nat_eq now.wholes) keeps.of_wholes;
      of_superclasses = other_touch names things t mention (only superclass) touch (λ e. absurd cc) (get nat_eq now.superclasses) keeps.of_superclasses;
      of_fields = no_such_member names (λ x. only (field_named x)) things t mention touch (λ x e. absurd cc) (get same_member now.fields) keeps.of_fields;
      of_methods = no_such_member names (λ x. only (method_named x)) things t mention touch (λ x e. absurd cc) (get same_member now.methods) keeps.of_methods;
    }

pub returns-in-Whole : goal.returns-in-Whole
returns-in-Whole c = λ names things distinct known keeps.
    let t = plain_thing names c.args.thing in
    let own = c.args.thing.class.0 in
    let now = c.args.self.now in
    let touch = ap (plain_touch names) c.in-Whole.is in
    on_ok c.lower-in-Whole.result c.lower-in-Whole.ensures
    (λ low. record {
      of_any = any_lowered names distinct things t own known.class refl (get nat_eq now.any) (get nat_eq c.lower.new.places) c.in_ok-lower.ensures keeps.of_any;
      of_wholes = touch_lowered names distinct things t own known.class refl whole touch (get nat_eq now.wholes) (get nat_eq c.lower-in-Whole.new.places) low keeps.of_wholes;
      of_superclasses = other_touch names things t whole (only superclass) touch (λ e. absurd cc) (get nat_eq now.superclasses) keeps.of_superclasses;
      of_fields = no_such_member names (λ x. only (field_named x)) things t whole touch (λ x e. absurd cc) (get same_member now.fields) keeps.of_fields;
      of_methods = no_such_member names (λ x. only (method_named x)) things t whole touch (λ x e. absurd cc) (get same_member now.methods) keeps.of_methods;
    })

pub returns-in-Superclass : goal.returns-in-Superclass
returns-in-Superclass c = λ names things distinct known keeps.
    let t = plain_thing names c.args.thing in
    let own = c.args.thing.class.0 in
    let now = c.args.self.now in
    let touch = ap (plain_touch names) c.in-Superclass.is in
    on_ok c.lower-in-Superclass.result c.lower-in-Superclass.ensures
    (λ low. record {
      of_any = any_lowered names distinct things t own known.class refl (get nat_eq now.any) (get nat_eq c.lower.new.places) c.in_ok-lower.ensures keeps.of_any;
      of_wholes = other_touch names things t (only superclass) whole touch (λ e. absurd cc) (get nat_eq now.wholes) keeps.of_wholes;
      of_superclasses = touch_lowered names distinct things t own known.class refl (only superclass) touch (get nat_eq now.superclasses) (get nat_eq c.lower-in-Superclass.new.places) low keeps.of_superclasses;
      of_fields = no_such_member names (λ x. only (field_named x)) things t (only superclass) touch (λ x e. absurd cc) (get same_member now.fields) keeps.of_fields;
      of_methods = no_such_member names (λ x. only (method_named x)) things t (only superclass) touch (λ x e. absurd cc) (get same_member now.methods) keeps.of_methods;
    })

pub returns-in-Field : goal.returns-in-Field
returns-in-Field c = λ names things distinct known keeps.
    let t = plain_thing names c.args.thing in
    let own = c.args.thing.class.0 in
    let now = c.args.self.now in
    let touch = ap (plain_touch names) c.in-Field.is in
    on_ok c.lower-in-Field.result c.lower-in-Field.ensures
    (λ low. record {
      of_any = any_lowered names distinct things t own known.class refl (get nat_eq now.any) (get nat_eq c.lower.new.places) c.in_ok-lower.ensures keeps.of_any;
      of_wholes = other_touch names things t (only (field_named (text_of names c.in-Field.name.0))) whole touch (λ e. absurd cc) (get nat_eq now.wholes) keeps.of_wholes;
      of_superclasses = other_touch names things t (only (field_named (text_of names c.in-Field.name.0))) (only superclass) touch (λ e. absurd cc) (get nat_eq now.superclasses) keeps.of_superclasses;
      of_fields = member_lowered names distinct things t own known.class refl (λ x. only (field_named x)) one_field c.in-Field.name.0 (subst (IsTouch names) c.in-Field.is known.touch) touch (get same_member now.fields) (get same_member c.lower-in-Field.new.places)
          (subst (λ key. Lowers same_member now.fields c.lower-in-Field.new.places key c.args.thing.at) c.member_of.ensures low) keeps.of_fields;
      of_methods = no_such_member names (λ x. only (method_named x)) things t (only (field_named (text_of names c.in-Field.name.0))) touch (λ x e. absurd cc) (get same_member now.methods) keeps.of_methods;
    })

pub returns-in-Method : goal.returns-in-Method
returns-in-Method c = λ names things distinct known keeps.
    let t = plain_thing names c.args.thing in
    let own = c.args.thing.class.0 in
    let now = c.args.self.now in
    let touch = ap (plain_touch names) c.in-Method.is in
    on_ok c.lower-in-Method.result c.lower-in-Method.ensures
    (λ low. record {
      of_any = any_lowered names distinct things t own known.class refl (get nat_eq now.any) (get nat_eq c.lower.new.places) c.in_ok-lower.ensures keeps.of_any;
      of_wholes = other_touch names things t (only (method_named (text_of names c.in-Method.name.0))) whole touch (λ e. absurd cc) (get nat_eq now.wholes) keeps.of_wholes;
      of_superclasses = other_touch names things t (only (method_named (text_of names c.in-Method.name.0))) (only superclass) touch (λ e. absurd cc) (get nat_eq now.superclasses) keeps.of_superclasses;
      of_fields = no_such_member names (λ x. only (field_named x)) things t (only (method_named (text_of names c.in-Method.name.0))) touch (λ x e. absurd cc) (get same_member now.fields) keeps.of_fields;
      of_methods = member_lowered names distinct things t own known.class refl (λ x. only (method_named x)) one_method c.in-Method.name.0 (subst (IsTouch names) c.in-Method.is known.touch) touch (get same_member now.methods) (get same_member c.lower-in-Method.new.places)
          (subst (λ key. Lowers same_member now.methods c.lower-in-Method.new.places key c.args.thing.at) c.member_of-in-Method.ensures low) keeps.of_methods;
    })
