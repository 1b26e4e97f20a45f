use Rattle.std.proofs.Common.{nat_eq, not}
use Rattle.std.proofs.lemmas.List.Sums.{prefix_len-le-length}
use Rattle.dj_conditions.proofs.Names.{not_found}
use Rattle.dj_conditions.proofs.numbers.number_in.Goals as goal

pub returns-in-None : goal.returns-in-None
returns-in-None c =
    not_found c.len.result _ _ c.len.ensures.len (prefix_len-le-length (λ x. not (nat_eq c.args.name x)) c.args.names.now.keys) c.in-None.ensures.index
