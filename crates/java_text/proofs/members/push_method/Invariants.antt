use Rattle.std.proofs.Common.{◌≡◌, ◌++◌, map, take}
use Rattle.std.specs.List.{flat_map}
use Rattle.dj_calculus.specs.JavaText.{body_text}
use Rattle.ifj_table.specs.Entries.{text_at, plain_signature, plain_body}
use Rattle.java_text.proofs.members.push_method.Given as goal

abbrev pub invariant-loop-body : goal.invariant-loop-body
invariant-loop-body l =
    l.text.items ≡ l.initial.text.items ++ flat_map (body_text (text_at l.names l.method.spot) (plain_signature l.names l.method)) (map (plain_body l.names l.exprs) (take l.body-index l.bodies))
