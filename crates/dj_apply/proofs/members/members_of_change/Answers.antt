use Rattle.std.proofs.Common.{◌++◌, map, ap, ◌∙◌}
use Rattle.dj_tree.specs.Plain.{plain_member}
use Rattle.dj_apply.specs.Members.{plain_members}
use Rattle.dj_apply.proofs.MemberLists.{sorted_members, known_sorted}
use Rattle.dj_apply.proofs.members.members_of_change.Goals as goal

pub returns-clause-members : goal.returns-clause-members
returns-clause-members c =
    sorted_members c.args.source.now.names c.args.source.now.exprs _ c.push_members.new.members.items c.sort.new.members.items
    (c.in_ok-push_members.ensures.pushed ∙ ap (λ vs. plain_members c.args.source.now.names c.args.source.now.exprs vs ++ map (plain_member c.args.source.now.names c.args.source.now.exprs) c.as_slice.result.now) c.new-members.ensures.items
    ∙ ap (map (plain_member c.args.source.now.names c.args.source.now.exprs)) c.as_slice.ensures) c.sort.ensures

pub returns-clause-known : goal.returns-clause-known
returns-clause-known c = known_sorted c.args.source.now.names c.args.source.now.exprs c.push_members.new.members.items c.sort.new.members.items c.sort.ensures c.in_ok-push_members.ensures.known
