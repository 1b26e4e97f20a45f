use Rattle.std.proofs.Common.{List, map, sym, subst}
use Rattle.std.specs.Prelude.{All}
use Rattle.dj_names.specs.Texts.{Text}
use Rattle.dj_tree.specs.Plain.{plain_class}
use Rattle.dj_tree.specs.Trees.{adds_class}
use Rattle.dj_calculus.specs.Things.{does}
use Rattle.dj_source_laws.specs.Once.{members_in}
use Rattle.ifj_table.specs.Tables.{plain_table}
use Rattle.ifj_table.proofs.MemberLemmas.{on_ok}
use Rattle.dj_apply.specs.declared.members.NamedMember.{NamedMember}
use Rattle.dj_apply.specs.Members.{plain_members}
use Rattle.dj_apply.specs.Ready.{HasBody}
use Rattle.dj_apply.specs.Taking.{CanTake, Takes}
use Rattle.dj_apply.proofs.StepLemmas.{text_read}
use Rattle.dj_apply.proofs.Applied.{bodies_of, class_can, class_done}
use Rattle.dj_apply.proofs.apply.apply_class.Goals as goal

pub take_members-requires-clause-bodies : goal.take_members-requires-clause-bodies
take_members-requires-clause-bodies c =
    subst (λ (vs : List NamedMember). All HasBody (plain_members c.args.source.now.names c.args.source.now.exprs vs)) (sym c.deref.ensures.value)
    (bodies_of (members_in (adds_class (plain_class c.args.source.now.names c.args.source.now.exprs c.args.class.now))) (plain_members c.args.source.now.names c.args.source.now.exprs c.in_ok-members.members.items) c.requires.members c.in_ok-members.ensures.members)

pub take_members-requires-clause-can : goal.take_members-requires-clause-can
take_members-requires-clause-can c =
    let t = plain_table c.args.table.now.table in
    let u = plain_table c.add_class.new.self.table in
    let named = text_read c.args.source.now.names c.args.class.now.spot c.text.result.now c.text.ensures in
    subst (λ (vs : List NamedMember). CanTake u c.text.result.now (map does (plain_members c.args.source.now.names c.args.source.now.exprs vs))) (sym c.deref.ensures.value)
    (subst (λ (k : Text). CanTake u k (map does (plain_members c.args.source.now.names c.args.source.now.exprs c.in_ok-members.members.items))) named
    (class_can t u (plain_class c.args.source.now.names c.args.source.now.exprs c.args.class.now) c.requires.members c.in_ok-add_class.ensures (plain_members c.args.source.now.names c.args.source.now.exprs c.in_ok-members.members.items) c.in_ok-members.ensures.members))

pub returns : goal.returns
returns c =
    let t = plain_table c.args.table.now.table in
    let u = plain_table c.add_class.new.self.table in
    let v = plain_table c.take_members.new.table.table in
    let named = text_read c.args.source.now.names c.args.class.now.spot c.text.result.now c.text.ensures in
    on_ok c.take_members.result c.take_members.ensures
    (λ done. class_done t u (plain_class c.args.source.now.names c.args.source.now.exprs c.args.class.now) c.requires.members c.in_ok-add_class.ensures (plain_members c.args.source.now.names c.args.source.now.exprs c.in_ok-members.members.items) c.in_ok-members.ensures.members v c.requires.absent
    (subst (λ (k : Text). Takes u v k (map does (plain_members c.args.source.now.names c.args.source.now.exprs c.in_ok-members.members.items))) (sym named)
    (subst (λ (vs : List NamedMember). Takes u v c.text.result.now (map does (plain_members c.args.source.now.names c.args.source.now.exprs vs))) c.deref.ensures.value done)))
