use Rattle.std.proofs.Common.{◌≡◌, map, length, Option, Some, slice_get, ap, sym, ◌∙◌, subst, arith}
use Rattle.std.proofs.lemmas.List.{length-map}
use Rattle.dj_calculus.proofs.Counting.{earlier_or_last}
use Rattle.dj_calculus.proofs.Members.{either, same_some}
use Rattle.dj_tree.specs.Plain.{plain_spot}
use Rattle.dj_tree.specs.Trees as plain
use Rattle.ifj_lineages.proofs.Overriding.{types_agree, types_differ, other_count, told_apart, told_same, spelled}
use Rattle.ifj_lineages.proofs.signatures.same_types.Goals as goal

same_texts : {a b : Option plain.Spot} (v w x y : plain.Spot) → a ≡ Some v → b ≡ Some w → a ≡ Some x → b ≡ Some y → v.text ≡ w.text → x.text ≡ y.text
same_texts {a = a} {b = b} v w x y p q r s same = sym (ap (λ z. z.text) (same_some v x a p r)) ∙ same ∙ ap (λ z. z.text) (same_some w y b q s)

pub returns-then-one-other : goal.returns-then-one-other
returns-then-one-other c =
    let form = plain_spot c.args.names.now in
    sym (other_count (map form c.args.one.now) (map form c.args.other.now) (λ same. c.if-one-other.true (sym (length-map c.args.one.now form) ∙ same ∙ length-map c.args.other.now form)))

pub returns-then-ne : goal.returns-then-ne
returns-then-ne c =
    let names = c.args.names.now in
    let n = c.loop-number.number in
    let x = spelled names c.args.one.now n _ c.text.result.now (omega arith) c.text.ensures in
    let y = spelled names c.args.other.now n _ c.text-in-loop-number.result.now (omega arith) c.text-in-loop-number.ensures in
    sym (types_differ (map (plain_spot names) c.args.one.now) (map (plain_spot names) c.args.other.now) n x.0 y.0 x.1 y.1
    (λ same. told_apart c.text.result.now c.text-in-loop-number.result.now c.ne.result c.ne.ensures c.if-ne.true (sym x.2 ∙ same ∙ y.2)))

pub loop-number-preserved : goal.loop-number-preserved
loop-number-preserved c = λ k x y low p q.
    let names = c.args.names.now in
    let n = c.loop-number.number in
    let v = spelled names c.args.one.now n _ c.text.result.now (omega arith) c.text.ensures in
    let w = spelled names c.args.other.now n _ c.text-in-loop-number.result.now (omega arith) c.text-in-loop-number.ensures in
    either (earlier_or_last k n low) (λ before. c.loop-number.invariant k x y before p q)
    (λ is. same_texts _ _ _ _ v.1 w.1 (subst (λ i. slice_get (map (plain_spot names) c.args.one.now) i ≡ Some x) is p) (subst (λ i. slice_get (map (plain_spot names) c.args.other.now) i ≡ Some y) is q)
    (v.2 ∙ told_same c.text.result.now c.text-in-loop-number.result.now c.ne.result c.ne.ensures c.if-ne.false ∙ sym w.2))

pub returns : goal.returns
returns c =
    let form = plain_spot c.args.names.now in
    let count : length (map form c.args.one.now) ≡ length (map form c.args.other.now) = length-map c.args.one.now form ∙ c.if-one-other.false ∙ sym (length-map c.args.other.now form) in
    sym (types_agree (map form c.args.one.now) (map form c.args.other.now) count (λ k x y low p q. c.loop-number.invariant k x y (omega (arith, low, length-map c.args.one.now form)) p q))
