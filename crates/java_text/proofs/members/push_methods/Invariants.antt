use Rattle.std.proofs.Common.{◌≡◌, ◌++◌, take}
use Rattle.std.specs.List.{flat_map}
use Rattle.dj_calculus.specs.JavaText.{method_text}
use Rattle.ifj_table.specs.Entries.{text_at, plain_method}
use Rattle.ifj_table.specs.Sorted.{pairs_of}
use Rattle.java_text.proofs.members.push_methods.Given as goal

abbrev pub invariant-loop-method : goal.invariant-loop-method
invariant-loop-method l =
    l.text.items ≡ l.initial.text.items ++ flat_map method_text (pairs_of (λ m. text_at l.names m.spot) (plain_method l.names l.exprs) (take l.method-index l.methods))
