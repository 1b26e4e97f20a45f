use Rattle.std.proofs.Common.{◌≡◌, Contains, [], ◌∷◌, subst, sym, refl, arith, ap, ◌∙◌, length}
use Rattle.sat_links.specs.Queues.{moved_to_end, IsQueue}
use Rattle.sat_solver.proofs.tests.queue_of_three.Goals as goal
use Rattle.sat_solver.proofs.tests.queue_of_three.Goals.{After-move_to_end}

pub move_to_end-requires : goal.move_to_end-requires
move_to_end-requires c = subst (λ q. Contains q 2) (sym c.in_ok-queue.ensures) (1, omega arith, refl)

moved : (c : After-move_to_end) → c.move_to_end.new.self ≡ 1 ∷ 3 ∷ 2 ∷ []
moved c = c.move_to_end.ensures.moved ∙ ap (moved_to_end 2) c.in_ok-queue.ensures

pub move_to_end-requires-2 : goal.move_to_end-requires-2
move_to_end-requires-2 c = subst (λ q. Contains q 1) (sym (moved (goal.at.move_to_end-requires-2 c).After-move_to_end)) (0, omega arith, refl)

pub returns : goal.returns
returns c = subst (λ n. IsQueue n c.move_to_end-2.new.self) (ap length (moved (goal.at.returns c).After-move_to_end)) c.move_to_end-2.ensures.each_once
