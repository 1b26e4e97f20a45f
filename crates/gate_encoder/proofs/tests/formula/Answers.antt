use Rattle.std.proofs.Common.{List, [], ◌∷◌, length, get_or, false, Contains, ap, sym, ◌∙◌, subst, length-append, arith}
use Rattle.std.proofs.Math.Logic.{⊎_elim}
use Rattle.std.proofs.lemmas.List.Elements.{Contains-push_cases}
use Rattle.arena_walk.specs.Forest.{trees}
use Rattle.arena_walk.proofs.Visitors.{trees-nil, length-grow, length-trees-le}
use Rattle.dj_formula.specs.declared.formula.Gate.{Gate}
use Rattle.dj_formula.specs.declared.formula.Gate.TheVariants.{Constant, Feature}
use Rattle.dj_formula.specs.Gates.{operands}
use Rattle.dj_formula.proofs.Trees.{features_below}
use Rattle.gate_encoder.proofs.tests.formula.Goals as goal

pub loop-gate-init : goal.loop-gate-init
loop-gate-init c =
    record {
      all = ap length c.new-nodes.ensures;
      finished = sym (ap (λ ns. length (trees operands ns)) c.new-nodes.ensures ∙ ap length (trees-nil operands));
      root = λ some. some;
      features = λ feature has. let none = ap length c.new-nodes.ensures in absurd (omega (arith, has.1, none));
    }

pub overflow_add-finished : goal.overflow_add-finished
overflow_add-finished c = record { fits = omega (arith, c.loop-gate.invariant.finished, c.loop-gate.invariant.all, length-trees-le operands c.loop-gate.nodes) }

pub loop-gate-preserved : goal.loop-gate-preserved
loop-gate-preserved c =
    let gate = get_or c.args.gates.now c.loop-gate.gate-index (Constant false) in
    let before = c.loop-gate.nodes in
    let pushed = c.in_ok-root.ensures in
    let old = c.loop-gate.invariant in
    record {
      all = ap length pushed.nodes ∙ omega (arith, old.all, length-append before (gate ∷ []));
      finished = omega (arith, old.finished, ap length pushed.trees, length-grow operands (trees operands before) gate, c.arity-arity.ensures);
      root = λ _. omega (arith, pushed.number, old.all);
      features = λ feature has.
          let P : List Gate → Type 0 = λ ns. Contains ns (Feature feature) in
          ⊎_elim (old.features feature) (c.is_below.ensures c.if-not-is_below.false feature) (Contains-push_cases before gate (Feature feature) (subst P pushed.nodes has));
    }

pub returns-clause-known : goal.returns-clause-known
returns-clause-known c = λ tree is. features_below c.args.count c.loop-gate.nodes c.loop-gate.root.0 tree c.loop-gate.invariant.features is
