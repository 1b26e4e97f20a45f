use Rattle.std.proofs.Common.{refl}
use Rattle.std.proofs.lemmas.Option.{slice_get-get_or}
use Rattle.dj_tree.specs.declared.declarations.FieldDecl.{FieldDecl}
use Rattle.dj_tree.specs.Trees.{adds_field}
use Rattle.dj_tree.specs.Plain.{plain_field}
use Rattle.dj_apply.proofs.MemberLists.{pushed_none, pushed_more, pushed_all}
use Rattle.dj_apply.proofs.members.push_fields.Goals as goal

pub loop-field-init : goal.loop-field-init
loop-field-init c = pushed_none c.args.source.now.names c.args.source.now.exprs (λ (f : FieldDecl). adds_field (plain_field c.args.source.now.names f)) c.args.members.now.items c.requires.known

pub loop-field-preserved : goal.loop-field-preserved
loop-field-preserved c =
    pushed_more c.args.source.now.names c.args.source.now.exprs (λ (f : FieldDecl). adds_field (plain_field c.args.source.now.names f)) c.args.members.now.items c.loop-field.members.items c.push.new.self.items c.args.fields.now c.loop-field.field-index _ _ c.loop-field.invariant
    (slice_get-get_or c.args.fields.now c.loop-field.field-index _ c.loop-field-test.true) c.in_ok-push.ensures.items refl (c.requires.fields_known c.loop-field.field-index _ c.loop-field-test.true)

pub returns-clause-pushed : goal.returns-clause-pushed
returns-clause-pushed c =
    (pushed_all c.args.source.now.names c.args.source.now.exprs (λ (f : FieldDecl). adds_field (plain_field c.args.source.now.names f)) c.args.members.now.items c.loop-field.members.items c.args.fields.now c.loop-field.field-index c.loop-field-test.false c.loop-field.invariant).members

pub returns-clause-known : goal.returns-clause-known
returns-clause-known c = c.loop-field.invariant.known
