use Rattle.std.proofs.Common.{◌∙◌, sym, arith}
use Rattle.dj_io.proofs.Places.{place_of-passed, place_of-found}
use Rattle.dj_io.proofs.source.place.Goals as goal

pub returns-then-has_path-clause-place : goal.returns-then-has_path-clause-place
returns-then-has_path-clause-place c =
    omega (
      arith,
      place_of-found c.args.files.now c.args.path.now c.loop-i.i c.index-files-i.result (omega arith) c.index-files-i.is
          (sym c.has_path.ensures ∙ c.if-has_path.true),
    )

pub loop-i-preserved : goal.loop-i-preserved
loop-i-preserved c =
    omega (
      arith,
      place_of-passed c.args.files.now c.args.path.now c.loop-i.i c.index-files-i.result (omega arith) c.index-files-i.is
          (sym c.has_path.ensures ∙ c.if-has_path.false),
    )
