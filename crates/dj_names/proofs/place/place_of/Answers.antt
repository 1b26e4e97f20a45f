use Rattle.std.proofs.Common.{◌≡◌, ◌∙◌, ap, ◌+◌, true, false, sym, arith}
use Rattle.dj_names.proofs.Lines.{line_ends-next, column_at, column_at-ends, column_at-next, is_column}
use Rattle.dj_names.proofs.place.place_of.Goals as goal
use Rattle.dj_names.proofs.place.place_of.Goals.{then-ends_line, else-ends_line+then-begins_character, else-ends_line+else-begins_character}

pub loop-at-preserved : goal.loop-at-preserved
loop-at-preserved c =
    let bytes = c.args.bytes.now in
    let at = c.loop-at.at in
    elim c.if-ends_line.branch [
      | then-ends_line w ↦
          let next_line = line_ends-next bytes at true (sym w.if-ends_line.ensures) in
          let next_column = column_at-ends bytes at (sym w.if-ends_line.ensures) in
          record { line = omega (arith, next_line); column = w.column-is ∙ sym next_column; line_fits = omega arith; column_fits = omega arith }
      | else-ends_line+then-begins_character w ↦
          let next_line = line_ends-next bytes at false (sym w.if-ends_line.ensures) in
          let next_column = column_at-next bytes at true (omega arith) (sym w.if-ends_line.ensures) w.if-begins_character.ensures in
          record { line = omega (arith, next_line); column = w.column-is ∙ ap (λ n. n + 1) c.loop-at.invariant.column ∙ sym next_column; line_fits = omega arith; column_fits = omega arith }
      | else-ends_line+else-begins_character w ↦
          let next_line = line_ends-next bytes at false (sym w.if-ends_line.ensures) in
          let next_column = column_at-next bytes at false (omega arith) (sym w.if-ends_line.ensures) w.if-begins_character.ensures in
          record { line = omega (arith, next_line); column = omega (arith, next_column); line_fits = omega arith; column_fits = omega arith }
    ]

pub returns-clause-column : goal.returns-clause-column
returns-clause-column c =
    let end : c.loop-at.at ≡ c.args.offset = omega arith in
    is_column c.args.bytes.now c.args.offset _ (c.loop-at.invariant.column ∙ ap (column_at c.args.bytes.now) end)
