use Rattle.std.proofs.Common.{◌≡◌, ◌++◌, take}
use Rattle.std.specs.List.{flat_map}
use Rattle.dj_calculus.specs.JavaText.{field_text}
use Rattle.ifj_table.specs.Entries.{text_at, plain_field}
use Rattle.ifj_table.specs.Sorted.{pairs_of}
use Rattle.java_text.proofs.members.push_fields.Given as goal

abbrev pub invariant-loop-field : goal.invariant-loop-field
invariant-loop-field l =
    l.text.items ≡ l.initial.text.items ++ flat_map field_text (pairs_of (λ f. text_at l.names f.spot) (plain_field l.names) (take l.field-index l.fields))
