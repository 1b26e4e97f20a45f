use Rattle.std.proofs.Common.{◌≤◌, map, length, refl, ap, ◌∙◌, arith}
use Rattle.std.specs.Option.{option_map}
use Rattle.std.proofs.lemmas.List.{length-map}
use Rattle.std.proofs.lemmas.Option.{slice_get_read, slice_get-map}
use Rattle.dj_calculus.specs.Things.{does}
use Rattle.ifj_table.specs.Tables.{plain_table}
use Rattle.ifj_table.proofs.TableLemmas.{all_at}
use Rattle.dj_apply.specs.declared.members.NamedMember.{NamedMember}
use Rattle.dj_apply.specs.Members.{plain_taken, plain_members, IsTaken}
use Rattle.dj_apply.specs.Ready.{HasBody}
use Rattle.dj_apply.proofs.Taking.{takes_none}
use Rattle.dj_apply.proofs.Applied.{next_can, next_taken, all_taken}
use Rattle.dj_apply.proofs.apply.take_members.Goals as goal

pub loop-member-init : goal.loop-member-init
loop-member-init c = takes_none (plain_table c.args.table.now.table) c.args.class.now c.requires.can.old c.requires.can.there

pub take_member-requires-clause-known : goal.take_member-requires-clause-known
take_member-requires-clause-known c =
    all_at (λ (m : NamedMember). IsTaken c.args.source.now.names c.args.source.now.exprs m.member) c.args.members.now c.loop-member.member-index c.member-item.result c.requires.known
    (slice_get_read c.args.members.now _ c.loop-member.member-index c.member-item.result refl c.loop-member-test.true c.member-item.is)

pub take_member-requires-clause-body : goal.take_member-requires-clause-body
take_member-requires-clause-body c =
    let here = slice_get_read c.args.members.now _ c.loop-member.member-index c.member-item.result refl c.loop-member-test.true c.member-item.is in
    all_at HasBody (plain_members c.args.source.now.names c.args.source.now.exprs c.args.members.now) c.loop-member.member-index (plain_taken c.args.source.now.names c.args.source.now.exprs c.member-item.result.member) c.requires.bodies
    (slice_get-map (λ (m : NamedMember). plain_taken c.args.source.now.names c.args.source.now.exprs m.member) c.args.members.now c.loop-member.member-index ∙ ap (option_map (λ (m : NamedMember). plain_taken c.args.source.now.names c.args.source.now.exprs m.member)) here)

pub take_member-requires-clause-can : goal.take_member-requires-clause-can
take_member-requires-clause-can c =
    let here = slice_get_read c.args.members.now _ c.loop-member.member-index c.member-item.result refl c.loop-member-test.true c.member-item.is in
    next_can (plain_table c.args.table.now.table) (plain_table c.loop-member.table.table) c.args.class.now (map does (plain_members c.args.source.now.names c.args.source.now.exprs c.args.members.now)) c.loop-member.member-index
    (does (plain_taken c.args.source.now.names c.args.source.now.exprs c.member-item.result.member))
    (slice_get-map does (plain_members c.args.source.now.names c.args.source.now.exprs c.args.members.now) c.loop-member.member-index
    ∙ ap (option_map does) (slice_get-map (λ (m : NamedMember). plain_taken c.args.source.now.names c.args.source.now.exprs m.member) c.args.members.now c.loop-member.member-index ∙ ap (option_map (λ (m : NamedMember). plain_taken c.args.source.now.names c.args.source.now.exprs m.member)) here))
    c.loop-member.invariant c.requires.can

pub loop-member-preserved : goal.loop-member-preserved
loop-member-preserved c =
    let here = slice_get_read c.args.members.now _ c.loop-member.member-index c.member-item.result refl c.loop-member-test.true c.member-item.is in
    next_taken (plain_table c.args.table.now.table) (plain_table c.loop-member.table.table) c.args.class.now (map does (plain_members c.args.source.now.names c.args.source.now.exprs c.args.members.now)) c.loop-member.member-index
    (does (plain_taken c.args.source.now.names c.args.source.now.exprs c.member-item.result.member))
    (slice_get-map does (plain_members c.args.source.now.names c.args.source.now.exprs c.args.members.now) c.loop-member.member-index
    ∙ ap (option_map does) (slice_get-map (λ (m : NamedMember). plain_taken c.args.source.now.names c.args.source.now.exprs m.member) c.args.members.now c.loop-member.member-index ∙ ap (option_map (λ (m : NamedMember). plain_taken c.args.source.now.names c.args.source.now.exprs m.member)) here))
    c.loop-member.invariant (plain_table c.take_member.new.self.table) c.in_ok-take_member.ensures

pub returns : goal.returns
returns c =
    let long : length (map does (plain_members c.args.source.now.names c.args.source.now.exprs c.args.members.now)) ≤ c.loop-member.member-index =
    omega (arith, length-map (plain_members c.args.source.now.names c.args.source.now.exprs c.args.members.now) does, length-map c.args.members.now (λ (m : NamedMember). plain_taken c.args.source.now.names c.args.source.now.exprs m.member), c.loop-member-test.false) in
    all_taken (plain_table c.args.table.now.table) (plain_table c.loop-member.table.table) c.args.class.now (map does (plain_members c.args.source.now.names c.args.source.now.exprs c.args.members.now)) c.loop-member.member-index long c.loop-member.invariant
