use Rattle.std.proofs.Common.{◌≡◌, sym, ap, ◌∙◌, subst}
use Rattle.indexmap.specs.IndexMap.{get}
use Rattle.dj_calculus.specs.Things.{whole, mention, only, superclass, field_named, method_named}
use Rattle.dj_apply.specs.Kept.{NoGreater, PlaceOf, Touches, same_member}
use Rattle.dj_apply.specs.Least.{IsLeastBy}
use Rattle.dj_apply.specs.Touched.{text_of, plain_touch, IsTouch}
use Rattle.dj_apply.proofs.KeptLemmas.{against_whole, against_mention, against_piece, told_against}
use Rattle.dj_apply.proofs.least_places.LeastPlaces.place_against.Goals as goal

pub returns-in-Whole : goal.returns-in-Whole
returns-in-Whole c = λ names things known keeps.
    told_against names c.args.thing things c.place_at.result whole (ap (plain_touch names) c.in-Whole.is)
    (against_whole (text_of names c.args.thing.class.0) c.args.thing.at things c.place_at.result
    (subst (IsLeastBy NoGreater (PlaceOf (λ a. a.class ≡ text_of names c.args.thing.class.0) things)) (sym c.place_at.ensures) (keeps.of_any c.args.thing.class.0 known.class)))

pub returns-in-Mention : goal.returns-in-Mention
returns-in-Mention c = λ names things known keeps.
    told_against names c.args.thing things c.place_at-whole.result mention (ap (plain_touch names) c.in-Mention.is)
    (against_mention (text_of names c.args.thing.class.0) c.args.thing.at things c.place_at-whole.result
    (subst (IsLeastBy NoGreater (PlaceOf (Touches (text_of names c.args.thing.class.0) whole) things)) (sym c.place_at-whole.ensures) (keeps.of_wholes c.args.thing.class.0 known.class)))

pub returns-in-Superclass : goal.returns-in-Superclass
returns-in-Superclass c = λ names things known keeps.
    let class = text_of names c.args.thing.class.0 in
    told_against names c.args.thing things c.lesser.result (only superclass) (ap (plain_touch names) c.in-Superclass.is)
    (against_piece class c.args.thing.at things c.lesser.result superclass c.place_at-whole.result c.place_at-in-Superclass.result
    (subst (IsLeastBy NoGreater (PlaceOf (Touches class whole) things)) (sym c.place_at-whole.ensures) (keeps.of_wholes c.args.thing.class.0 known.class))
    (subst (IsLeastBy NoGreater (PlaceOf (Touches class (only superclass)) things)) (sym c.place_at-in-Superclass.ensures) (keeps.of_superclasses c.args.thing.class.0 known.class)) c.lesser.ensures)

pub returns-in-Field : goal.returns-in-Field
returns-in-Field c = λ names things known keeps.
    let class = text_of names c.args.thing.class.0 in
    let name = c.in-Field.name in
    let piece = only (field_named (text_of names name.0)) in
    told_against names c.args.thing things c.lesser-in-Field.result piece (ap (plain_touch names) c.in-Field.is)
    (against_piece class c.args.thing.at things c.lesser-in-Field.result (field_named (text_of names name.0)) c.place_at-whole.result c.place_at-in-Field.result
    (subst (IsLeastBy NoGreater (PlaceOf (Touches class whole) things)) (sym c.place_at-whole.ensures) (keeps.of_wholes c.args.thing.class.0 known.class))
    (subst (IsLeastBy NoGreater (PlaceOf (Touches class piece) things)) (sym (c.place_at-in-Field.ensures ∙ ap (λ m. get same_member c.args.self.now.fields m) c.member_of.ensures))
    (keeps.of_fields (record { class = c.args.thing.class.0; name = name.0 }) (known.class, subst (IsTouch names) c.in-Field.is known.touch))) c.lesser-in-Field.ensures)

pub returns-in-Method : goal.returns-in-Method
returns-in-Method c = λ names things known keeps.
    let class = text_of names c.args.thing.class.0 in
    let name = c.in-Method.name in
    let piece = only (method_named (text_of names name.0)) in
    told_against names c.args.thing things c.lesser-in-Method.result piece (ap (plain_touch names) c.in-Method.is)
    (against_piece class c.args.thing.at things c.lesser-in-Method.result (method_named (text_of names name.0)) c.place_at-whole.result c.place_at-in-Method.result
    (subst (IsLeastBy NoGreater (PlaceOf (Touches class whole) things)) (sym c.place_at-whole.ensures) (keeps.of_wholes c.args.thing.class.0 known.class))
    (subst (IsLeastBy NoGreater (PlaceOf (Touches class piece) things)) (sym (c.place_at-in-Method.ensures ∙ ap (λ m. get same_member c.args.self.now.methods m) c.member_of-in-Method.ensures))
    (keeps.of_methods (record { class = c.args.thing.class.0; name = name.0 }) (known.class, subst (IsTouch names) c.in-Method.is known.touch))) c.lesser-in-Method.ensures)
