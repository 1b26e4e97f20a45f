use Rattle.std.proofs.Common.{◌≡◌, inr, ap, arith}
use Rattle.std.specs.declared.result.Result.{Result}
use Rattle.std.specs.declared.result.Result.TheVariants.{Ok, Err}
use Rattle.dj_tree.specs.declared.source.Instance.{Instance}
use Rattle.dj_calculus.specs.Instances.{IsNotAfter, IsLeast}
use Rattle.ifj_typing.specs.Least.{IsFault}
use Rattle.ifj_typing.specs.declared.kind.Kind.{Kind}
use Rattle.ifj_typing.specs.declared.kind.Typed.{Typed}
use Rattle.ifj_typing.proofs.least.fault_of.Goals as goal

no_fault : (found : Result Kind Instance) (kind : Kind) (i : Instance) → found ≡ Ok kind → ¬ (found ≡ Err i)
no_fault found kind i is also = absurd cc

not_after_itself : (i j : Instance) → i ≡ j → IsNotAfter i j
not_after_itself i j same = inr (ap (λ k. k.rule) same, inr (ap (λ k. k.at) same, omega (arith, ap (λ k. k.second) same)))

one_fault : (out : Typed) (i : Instance) → out.found ≡ Err i → IsLeast (IsFault out) i
one_fault out i is = record { is = is; least = λ j also. not_after_itself i j cc }

pub returns-in-Ok : goal.returns-in-Ok
returns-in-Ok c = λ i. no_fault c.args.out.now.found _ i c.in-Ok.is

pub returns-in-Err : goal.returns-in-Err
returns-in-Err c = one_fault c.args.out.now c.in-Err.instance c.in-Err.is
