use Rattle.std.proofs.Common.{subst, ◌∙◌}
use Rattle.std.specs.List.Sorted.{IsPermutation}
use Rattle.std.proofs.lemmas.List.{take_all}
use Rattle.std.proofs.lemmas.List.Sorted.{IsPermutation-map}
use Rattle.java_reader.specs.Making.{declared}
use Rattle.java_reader.proofs.named.by_name.Goals as goal

pub returns : goal.returns
returns g c =
    subst (λ ds. IsPermutation ds (declared c.sort_by.new.self.items)) (c.loop-declaration.invariant ∙ take_all c.loop-declaration.declaration-index c.args.declarations.now c.loop-declaration-test.false)
    (IsPermutation-map (λ n. n.declaration.now) c.loop-declaration.sorted.items c.sort_by.new.self.items c.sort_by.ensures.permutation)
