use Rattle.std.proofs.Common.{List, map, IsSome, sym, subst}
use Rattle.std.specs.Prelude.{All}
use Rattle.std.specs.FinMap.{get}
use Rattle.dj_names.specs.Texts.{Text}
use Rattle.dj_tree.specs.Plain.{plain_change}
use Rattle.dj_tree.specs.Trees.{modifies_class}
use Rattle.dj_calculus.specs.Things.{does, first_steps}
use Rattle.dj_source_laws.specs.Once.{members_in}
use Rattle.ifj_table.specs.Tables.{plain_table}
use Rattle.ifj_table.proofs.MemberLemmas.{on_ok}
use Rattle.dj_apply.specs.declared.members.NamedMember.{NamedMember}
use Rattle.dj_apply.specs.Members.{plain_members}
use Rattle.dj_apply.specs.Ready.{HasBody}
use Rattle.dj_apply.specs.Taking.{CanTake, Takes}
use Rattle.dj_apply.proofs.StepLemmas.{text_read}
use Rattle.dj_apply.proofs.Applied.{bodies_of, change_there, after_parent, change_done}
use Rattle.dj_apply.proofs.apply.apply_change.Goals as goal

pub take_parent-requires-clause-there : goal.take_parent-requires-clause-there
take_parent-requires-clause-there c =
    let named = text_read c.args.source.now.names c.args.change.now.spot c.text-class.result.now c.text-class.ensures in
    subst (λ (k : Text). IsSome (get (plain_table c.args.table.now.table) k)) named (change_there (plain_table c.args.table.now.table) (plain_change c.args.source.now.names c.args.source.now.exprs c.args.change.now) c.requires.members c.requires.unbroken)

pub take_members-requires-clause-bodies : goal.take_members-requires-clause-bodies
take_members-requires-clause-bodies c =
    subst (λ (vs : List NamedMember). All HasBody (plain_members c.args.source.now.names c.args.source.now.exprs vs)) (sym c.deref.ensures.value)
    (bodies_of (members_in (modifies_class (plain_change c.args.source.now.names c.args.source.now.exprs c.args.change.now))) (plain_members c.args.source.now.names c.args.source.now.exprs c.in_ok-members.members.items) c.requires.members c.in_ok-members.ensures.members)

pub take_members-requires-clause-can : goal.take_members-requires-clause-can
take_members-requires-clause-can c =
    let t = plain_table c.args.table.now.table in
    let u = plain_table c.take_parent.new.self.table in
    let named = text_read c.args.source.now.names c.args.change.now.spot c.text-class.result.now c.text-class.ensures in
    subst (λ (vs : List NamedMember). CanTake u c.text-class.result.now (map does (plain_members c.args.source.now.names c.args.source.now.exprs vs))) (sym c.deref.ensures.value)
    (subst (λ (k : Text). CanTake u k (map does (plain_members c.args.source.now.names c.args.source.now.exprs c.in_ok-members.members.items))) named
    (after_parent t (plain_change c.args.source.now.names c.args.source.now.exprs c.args.change.now) c.requires.members c.requires.unbroken (plain_members c.args.source.now.names c.args.source.now.exprs c.in_ok-members.members.items) c.in_ok-members.ensures.members u
    (subst (λ (k : Text). Takes t u k (first_steps (plain_change c.args.source.now.names c.args.source.now.exprs c.args.change.now).parent)) (sym named) c.in_ok-take_parent.ensures)))

pub returns : goal.returns
returns c =
    let t = plain_table c.args.table.now.table in
    let u = plain_table c.take_parent.new.self.table in
    let v = plain_table c.take_members.new.table.table in
    let named = text_read c.args.source.now.names c.args.change.now.spot c.text-class.result.now c.text-class.ensures in
    on_ok c.take_members.result c.take_members.ensures
    (λ done. change_done t (plain_change c.args.source.now.names c.args.source.now.exprs c.args.change.now) c.requires.members c.requires.unbroken (plain_members c.args.source.now.names c.args.source.now.exprs c.in_ok-members.members.items) c.in_ok-members.ensures.members u v
    (subst (λ (k : Text). Takes t u k (first_steps (plain_change c.args.source.now.names c.args.source.now.exprs c.args.change.now).parent)) (sym named) c.in_ok-take_parent.ensures)
    (subst (λ (k : Text). Takes u v k (map does (plain_members c.args.source.now.names c.args.source.now.exprs c.in_ok-members.members.items))) (sym named)
    (subst (λ (vs : List NamedMember). Takes u v c.text-class.result.now (map does (plain_members c.args.source.now.names c.args.source.now.exprs vs))) c.deref.ensures.value done)))
