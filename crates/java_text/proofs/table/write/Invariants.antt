use Rattle.std.proofs.Common.{◌≡◌, take}
use Rattle.std.specs.List.{flat_map}
use Rattle.dj_calculus.specs.JavaText.{class_text}
use Rattle.ifj_table.specs.Entries.{text_at, plain_class}
use Rattle.ifj_table.specs.Sorted.{pairs_of}
use Rattle.java_text.proofs.table.write.Given as goal

abbrev pub invariant-loop-class : goal.invariant-loop-class
invariant-loop-class l = l.text.items ≡ flat_map class_text (pairs_of (λ c. text_at l.names c.spot) (plain_class l.names l.exprs) (take l.class-index l.classes))
