use Rattle.dj_apply.proofs.members.named_member.Goals as goal

pub text-name-requires : goal.text-name-requires
text-name-requires c = c.name_of.ensures c.args.source.now.names c.args.source.now.exprs c.requires

pub returns-clause-known : goal.returns-clause-known
returns-clause-known c = c.member_of-member.ensures.known c.args.source.now.names c.args.source.now.exprs c.requires
