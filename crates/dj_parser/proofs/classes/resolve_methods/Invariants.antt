use Rattle.std.proofs.Common.{take, map}
use Rattle.dj_tree.specs.ClassGrammar.{methods_of}
use Rattle.dj_declarations.specs.View.{member_view}
use Rattle.dj_parser.specs.Said.{said_each, said_method}
use Rattle.dj_parser.specs.Growth.{Grew, Lasts}
use Rattle.dj_parser.specs.Resolved.{AreMethodsFor}
use Rattle.dj_parser.proofs.classes.resolve_methods.Given as goal

abbrev pub invariant-loop-member : goal.invariant-loop-member
invariant-loop-member l = record {
  grew : Grew l.initial.tables l.tables (said_each said_method (methods_of (map (member_view l.bytes) (take l.member-index l.members))));
  stand : Lasts l.tables (λ t. AreMethodsFor t l.methods.items (methods_of (map (member_view l.bytes) (take l.member-index l.members))));
}
