use Rattle.std.proofs.Common.{◌≡◌, take, None, is_none}
use Rattle.std.specs.List.{find}
use Rattle.dj_faults.proofs.parts.first_part.Given as goal

abbrev pub invariant-loop-number : goal.invariant-loop-number
invariant-loop-number l = find (λ p. is_none p.after) (take l.number l.parts) ≡ None
