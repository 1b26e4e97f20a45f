use Rattle.std.proofs.Common.{take}
use Rattle.std.specs.List.{AllZip}
use Rattle.dj_parser.specs.Said.{said_each}
use Rattle.dj_parser.specs.Growth.{Grew, Lasts}
use Rattle.dj_parser.proofs.resolve.resolve_each.Given as goal

abbrev pub invariant-loop-raw : goal.invariant-loop-raw
invariant-loop-raw g l = record {
  grew : Grew l.initial.tables l.tables (said_each (g.R.Resolve.says l.bytes) (take l.raw-index l.raws));
  stand : Lasts l.tables (λ t. AllZip (g.R.Resolve.stands l.bytes t) (take l.raw-index l.raws) l.outs.items);
}
