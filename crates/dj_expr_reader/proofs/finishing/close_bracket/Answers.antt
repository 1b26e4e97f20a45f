use Rattle.std.proofs.Common.{rules, refl, sym, ap, ◌∙◌, arith, [], ◌∷◌}
use Rattle.dj_expr_reader.proofs.Counts.{count_below}
use Rattle.dj_expr_reader.proofs.TakenOff.{held}
use Rattle.dj_expr_reader.proofs.finishing.close_bracket.Goals as goal

pub overflow_add-count : goal.overflow_add-count
overflow_add-count c =
    let low = count_below _ c.args.machine.now.frames c.finish_top.new.machine.frames c.pop.new.self c.in-Some-Arguments.callee c.in-Some-Arguments.count c.requires (c.in_ok-finish_top.ensures.frames []) (c.in-Some-Arguments.ensures ∙ ap (λ f. f ∷ c.pop.new.self) c.in-Some-Arguments.field-0-is) in
    omega (arith, low)

pub returns-in-Some-Bracket : goal.returns-in-Some-Bracket
returns-in-Some-Bracket c = λ bytes. rw (sym (c.in_ok-finish_top.ensures.frames bytes), sym (c.in_ok-finish_top.ensures.marks bytes), c.in-Some-Bracket.ensures, c.in-Some-Bracket.field-0-is) refl

pub returns-in-Some-Arguments : goal.returns-in-Some-Arguments
returns-in-Some-Arguments c = λ bytes.
    held bytes c.hold.result c.hold.new.machine c.pop.new.self c.finish_top.new.machine.marks.items c.call_mark.result _ c.hold.ensures.turn c.hold.ensures.mode c.hold.ensures.frames c.hold.ensures.marks
    (rw (sym (c.in_ok-finish_top.ensures.frames bytes), sym (c.in_ok-finish_top.ensures.marks bytes), c.in-Some-Arguments.ensures, c.in-Some-Arguments.field-0-is, c.call_mark.ensures bytes) refl)

pub returns-in_default : goal.returns-in_default
returns-in_default c = λ bytes. let f = c.in_ok-finish_top.ensures.frames bytes in search rules

pub returns-in_default-2 : goal.returns-in_default-2
returns-in_default-2 c = λ bytes. let f = c.in_ok-finish_top.ensures.frames bytes in search rules
