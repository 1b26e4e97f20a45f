use Rattle.std.proofs.Common.{take}
use Rattle.dj_tree.specs.declared.declarations.FieldDecl.{FieldDecl}
use Rattle.dj_tree.specs.Trees.{adds_field}
use Rattle.dj_tree.specs.Plain.{plain_field}
use Rattle.dj_apply.proofs.MemberLists.{Pushed}
use Rattle.dj_apply.proofs.members.push_fields.Given as goal

abbrev pub invariant-loop-field : goal.invariant-loop-field
invariant-loop-field l = Pushed l.source.names l.source.exprs (λ (f : FieldDecl). adds_field (plain_field l.source.names f)) l.fn.members.items (take l.field-index l.fields) l.members.items
