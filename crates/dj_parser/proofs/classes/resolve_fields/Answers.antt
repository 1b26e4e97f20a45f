use Rattle.dj_parser.proofs.Growing.{grew_not, grew_then}
use Rattle.dj_parser.proofs.Assembling.{none_stand}
use Rattle.dj_parser.proofs.Picking.{can_next_of, grew_next_of, next_of, all_of}
use Rattle.dj_tree.specs.Plain.{plain_field}
use Rattle.dj_tree.specs.WellFormed.{IsField}
use Rattle.dj_tree.specs.ClassGrammar.{fields_of}
use Rattle.dj_declarations.specs.View.{member_view}
use Rattle.dj_parser.specs.Said.{said_field}
use Rattle.dj_parser.proofs.Picking as picking
use Rattle.dj_parser.proofs.classes.resolve_fields.Goals as goal

pub loop-member-init : goal.loop-member-init
loop-member-init c = record { grew = grew_not c.requires.known; stand = λ later texts grew. rw c.new-fields.ensures.items (none_stand (plain_field later.names) (IsField later.names)) }

pub add_field-requires : goal.add_field-requires
add_field-requires c =
    can_next_of fields_of picking.fields_append said_field (member_view c.args.bytes.now) c.args.members.now c.loop-member.member-index c.member-item.result c.loop-member-test.true c.member-item.is c.requires
    c.loop-member.invariant.grew

pub loop-member-preserved : goal.loop-member-preserved
loop-member-preserved c =
    let members = c.args.members.now in
    let i = c.loop-member.member-index in
    let x = c.member-item.result in
    let next = next_of fields_of picking.fields_append (member_view c.args.bytes.now) members i x c.loop-member-test.true c.member-item.is in
    record {
      grew =
          grew_next_of fields_of picking.fields_append said_field (member_view c.args.bytes.now) members i x c.loop-member-test.true c.member-item.is c.loop-member.invariant.grew c.in_ok-add_field.ensures.grew;
      stand = λ later texts grew.
          rw next (c.in_ok-add_field.ensures.stand later texts grew _ (c.loop-member.invariant.stand later _ (grew_then c.in_ok-add_field.ensures.grew grew)));
    }

pub returns-clause-grew : goal.returns-clause-grew
returns-clause-grew c =
    rw (← all_of fields_of (member_view c.args.bytes.now) c.args.members.now c.loop-member.member-index c.loop-member-test.false) c.loop-member.invariant.grew

pub returns-clause-stand : goal.returns-clause-stand
returns-clause-stand c = λ later texts grew.
    rw (← all_of fields_of (member_view c.args.bytes.now) c.args.members.now c.loop-member.member-index c.loop-member-test.false) (c.loop-member.invariant.stand later texts grew)
