use Rattle.std.proofs.Common.{◌≡◌, ◌+◌, ◌-◌, List, [], ◌∷◌, ◌++◌, length, fold, take, drop, length-take, length-drop, ap, sym, ◌∙◌, subst, All, arith}
use Rattle.std.specs.List.{flat_map}
use Rattle.std.proofs.lemmas.List.{same_from_push}
use Rattle.arena_walk.proofs.SlotLemmas.{same_first}
use Rattle.dj_formula.specs.Gates.{operands}
use Rattle.sat_clauses.specs.declared.literal.Lit.{Lit}
use Rattle.sat_clauses.specs.Literals.{opposite}
use Rattle.gate_encoder.specs.Writing.{IsNumbered, steps, write, literal, IsCut}
use Rattle.gate_encoder.specs.Formulas.{node_entries, node_literal}
use Rattle.gate_encoder.proofs.Walking.{stand_first, stand_last, stand_enough, stand_below, stand_next, stand_cut, stand_lits, stand_one, to_the_end, last_of, numbered_next, cut_node, cut_on_err}
use Rattle.gate_encoder.proofs.gates.Gates.formula.Goals as goal

pub loop-number-init : goal.loop-number-init
loop-number-init g c =
    let f = c.args.formula.now in
    let first = c.first-first in
    record {
      grown = omega arith;
      numbered = λ k d within. absurd (omega (arith, within, ap length c.new-lits.ensures.items));
      stand = λ t is.
          stand_lits (sym c.new-lits.ensures.items)
          (stand_first g.K.PartialEq.eq f c.args.truth c.args.features.now _ t is c.args.self.now first.result.0 (same_first operands f.nodes f.root.0 first.result.0 t is first.ensures.tree)
          (first.ensures.whole t is) (c.requires.known t is) c.requires.truth c.requires.features);
    }

pub overflow_sub-start : goal.overflow_sub-start
overflow_sub-start g c =
    let f = c.args.formula.now in
    let now = c.loop-number in
    let tree = c.first-first.ensures.tree in
    let some = stand_enough g.K.PartialEq.eq f c.args.truth c.args.features.now _ tree.0 tree.1 c.args.self.now now.self now.number now.lits.items (now.invariant.stand tree.0 tree.1) c.get-gate.result.now c.get-gate.ensures.node c.loop-number-test.true in
    omega (arith, some, c.arity.ensures, c.len.ensures, now.lits.ok.0)

pub node-requires-clause-known : goal.node-requires-clause-known
node-requires-clause-known g c =
    let f = c.args.formula.now in
    let now = c.loop-number in
    let tree = c.first-first.ensures.tree in
    stand_below g.K.PartialEq.eq f c.args.truth c.args.features.now _ tree.0 tree.1 c.args.self.now now.self now.number now.lits.items (now.invariant.stand tree.0 tree.1) c.get-gate.result.now c.get-gate.ensures.node c.loop-number-test.true

pub node-requires-clause-all : goal.node-requires-clause-all
node-requires-clause-all g c =
    let f = c.args.formula.now in
    let now = c.loop-number in
    let tree = c.first-first.ensures.tree in
    let start = c.len.result - c.arity.result in
    let some = stand_enough g.K.PartialEq.eq f c.args.truth c.args.features.now _ tree.0 tree.1 c.args.self.now now.self now.number now.lits.items (now.invariant.stand tree.0 tree.1) c.get-gate.result.now c.get-gate.ensures.node c.loop-number-test.true in
    omega (arith, some, c.arity.ensures, c.len.ensures, now.lits.ok.0, ap length c.deref.ensures.value, length-take (length c.deref.result.now - start) (drop start c.deref.result.now), length-drop start c.deref.result.now)

pub returns-in_err-lit-clause-err : goal.returns-in_err-lit-clause-err
returns-in_err-lit-clause-err g c =
    cut_on_err c.from_residual.result g.K.PartialEq.eq c.args.formula.now c.args.self.now c.node.new.self c.args.truth c.args.features.now _
    (λ names t is are.
    let f = c.args.formula.now in
    let now = c.loop-number in
    let start = c.len.result - c.arity.result in
    let gate = c.get-gate.result.now in
    let slice = to_the_end c.deref.result.now now.lits.items start c.deref.ensures.value in
    let some = stand_enough g.K.PartialEq.eq f c.args.truth c.args.features.now _ t is c.args.self.now now.self now.number now.lits.items (now.invariant.stand t is) gate c.get-gate.ensures.node c.loop-number-test.true in
    stand_cut g.K.PartialEq.eq f c.args.truth c.args.features.now _ t is c.args.self.now now.self now.number now.lits.items (now.invariant.stand t is) gate c.get-gate.ensures.node c.loop-number-test.true
    start (omega (arith, some, c.arity.ensures, c.len.ensures, now.lits.ok.0)) names are c.node.new.self
    (λ name all. subst (λ (ls : List Lit). IsCut g.K.PartialEq.eq now.self (flat_map (steps g.K.PartialEq.eq now.self) (node_entries opposite name gate ls)) c.node.new.self) slice (c.in_err-lit.ensures.err name all)))

pub returns-in_err-push-clause-err : goal.returns-in_err-push-clause-err
returns-in_err-push-clause-err g c =
    cut_on_err c.from_residual-in_err-push.result g.K.PartialEq.eq c.args.formula.now c.args.self.now c.node.new.self c.args.truth c.args.features.now _
    (λ names t is are.
    let f = c.args.formula.now in
    let now = c.loop-number in
    let start = c.len.result - c.arity.result in
    let gate = c.get-gate.result.now in
    let slice = to_the_end c.deref.result.now now.lits.items start c.deref.ensures.value in
    let some = stand_enough g.K.PartialEq.eq f c.args.truth c.args.features.now _ t is c.args.self.now now.self now.number now.lits.items (now.invariant.stand t is) gate c.get-gate.ensures.node c.loop-number-test.true in
    stand_cut g.K.PartialEq.eq f c.args.truth c.args.features.now _ t is c.args.self.now now.self now.number now.lits.items (now.invariant.stand t is) gate c.get-gate.ensures.node c.loop-number-test.true
    start (omega (arith, some, c.arity.ensures, c.len.ensures, now.lits.ok.0)) names are c.node.new.self
    (λ name all. subst (λ (ls : List Lit). IsCut g.K.PartialEq.eq now.self (flat_map (steps g.K.PartialEq.eq now.self) (node_entries opposite name gate ls)) c.node.new.self) slice
    (cut_node g.K.PartialEq.eq now.self c.node.new.self name gate _ (c.in_ok-lit.ensures.written name all))))

pub loop-number-preserved : goal.loop-number-preserved
loop-number-preserved g c =
    let f = c.args.formula.now in
    let eq = g.K.PartialEq.eq in
    let now = c.loop-number in
    let start = c.len.result - c.arity.result in
    let gate = c.get-gate.result.now in
    let slice = to_the_end c.deref.result.now now.lits.items start c.deref.ensures.value in
    let items : c.push.new.self.items ≡ take start now.lits.items ++ c.in_ok-lit.lit ∷ [] = c.in_ok-push.ensures.items ∙ ap (λ xs. xs ++ c.in_ok-lit.lit ∷ []) c.truncate.ensures.items in
    record {
      grown = omega (arith, now.invariant.grown, c.node.ensures.grown);
      numbered = subst (λ (ls : List Lit). All (IsNumbered c.node.new.self) ls) (sym items) (numbered_next now.self c.node.new.self now.lits.items start c.in_ok-lit.lit c.node.ensures.grown now.invariant.numbered c.in_ok-lit.ensures.numbered);
      stand = λ t is.
          let some = stand_enough eq f c.args.truth c.args.features.now _ t is c.args.self.now now.self now.number now.lits.items (now.invariant.stand t is) gate c.get-gate.ensures.node c.loop-number-test.true in
          stand_lits (sym items)
          (stand_next eq f c.args.truth c.args.features.now _ t is c.args.self.now now.self now.number now.lits.items (now.invariant.stand t is) gate c.get-gate.ensures.node c.loop-number-test.true
          g.met.K.Eq.laws c.node.new.self start c.in_ok-lit.lit (omega (arith, some, c.arity.ensures, c.len.ensures, now.lits.ok.0))
          (λ name all. c.in_ok-lit.ensures.written name all ∙ ap (λ ls. fold (write eq) now.self (node_entries opposite name gate ls)) slice)
          (λ name all. c.in_ok-lit.ensures.literal name all ∙ ap (node_literal opposite c.args.truth c.args.features.now (literal eq now.self name) gate) slice));
    }

pub unwrap-requires : goal.unwrap-requires
unwrap-requires g c =
    let f = c.args.formula.now in
    let now = c.loop-number in
    let tree = c.first-first.ensures.tree in
    let one = stand_one (omega (arith, length-take (f.root.0 + 1) f.nodes)) (now.invariant.stand tree.0 tree.1) in
    c.pop.ensures.variant.1 (omega (arith, one, now.lits.ok.0))

pub returns-clause-written : goal.returns-clause-written
returns-clause-written g c = λ names t is are.
    let f = c.args.formula.now in
    let now = c.loop-number in
    (stand_last g.K.PartialEq.eq f c.args.truth c.args.features.now _ t is c.args.self.now now.self now.number now.lits.items (omega (arith, length-take (f.root.0 + 1) f.nodes)) (now.invariant.stand t is) names are).0

pub returns-clause-literal : goal.returns-clause-literal
returns-clause-literal g c = λ names t is are.
    let f = c.args.formula.now in
    let now = c.loop-number in
    let end = stand_last g.K.PartialEq.eq f c.args.truth c.args.features.now _ t is c.args.self.now now.self now.number now.lits.items (omega (arith, length-take (f.root.0 + 1) f.nodes)) (now.invariant.stand t is) names are in
    let popped : now.lits.items ≡ c.pop.new.self.items ++ c.unwrap.result ∷ [] = cc in
    sym (same_from_push [] c.pop.new.self.items _ c.unwrap.result (sym end.1 ∙ popped)).1

pub returns-clause-numbered : goal.returns-clause-numbered
returns-clause-numbered g c =
    let now = c.loop-number in
    let popped : now.lits.items ≡ c.pop.new.self.items ++ c.unwrap.result ∷ [] = cc in
    last_of (IsNumbered now.self) c.pop.new.self.items c.unwrap.result (subst (λ (ls : List Lit). All (IsNumbered now.self) ls) popped now.invariant.numbered)
