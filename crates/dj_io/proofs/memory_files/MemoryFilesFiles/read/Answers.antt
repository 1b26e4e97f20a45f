use Rattle.std.proofs.Common.{◌<◌, length, ap, ◌∙◌, arith}
use Rattle.dj_io.proofs.Counts.{Follows-raised}
use Rattle.dj_io.proofs.Places.{put_back}
use Rattle.dj_io.proofs.memory_files.MemoryFilesFiles.read.Goals as goal
use Rattle.dj_io.proofs.memory_files.MemoryFilesFiles.read.Goals.{then-not-listed+in_default, else-not-listed}

pub returns-clause-counts : goal.returns-clause-counts
returns-clause-counts c each =
    elim c.if-not-listed.branch [
      | then-not-listed+in_default w ↦
          let files = put_back _ _ _ (w.in_default.ensures.unknown.1 ∙ w.deref_mut.ensures.value) (ap length w.in_default.ensures.unknown.1 ∙ w.deref_mut.ensures.len) in
          let now = rw w.self-inside-is at c.index_mut-faults.ensures.value in
          let length_is = rw w.self-inside-is at c.deref-2.ensures.value in
          let inside : c.place-place.result < length c.self.inside.counts.items =
          omega (arith, c.place-place.ensures.within, ap length (length_is ∙ files), c.self.invariant) in
          rw (w.self-inside-is, files, ← c.self.view_is)
          (Follows-raised c.self.inside.counts.items c.place-place.result _ c.index_mut-faults.result.now _ inside now (omega arith) c.saturating_add.ensures)
      | else-not-listed w ↦
          let now = rw w.self-inside-is at c.index_mut-faults.ensures.value in
          let length_is = rw w.self-inside-is at c.deref-2.ensures.value in
          let inside : c.place-place.result < length c.self.inside.counts.items =
          omega (arith, c.place-place.ensures.within, ap length length_is, c.self.invariant) in
          rw (w.self-inside-is, ← c.self.view_is)
          (Follows-raised c.self.inside.counts.items c.place-place.result _ c.index_mut-faults.result.now _ inside now (omega arith) c.saturating_add.ensures)
    ]
