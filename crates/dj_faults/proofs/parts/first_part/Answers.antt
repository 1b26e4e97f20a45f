use Rattle.std.proofs.Common.{◌≡◌, ◌∙◌, true, false, not, Option, None, Some, is_none, is_some, refl, sym, ap}
use Rattle.std.proofs.lemmas.Option.{slice_get_read}
use Rattle.dj_faults.proofs.ChainLemmas.{still_none, found_at}
use Rattle.dj_faults.proofs.parts.first_part.Goals as goal

none_is : {X : Type 0} (o : Option X) → is_some o ≡ false → is_none o ≡ true
none_is None e = refl
none_is (Some x) e = absurd cc

some_is : {X : Type 0} (o : Option X) → is_some o ≡ true → is_none o ≡ false
some_is None e = absurd cc
some_is (Some x) e = refl

pub returns-then-is_none : goal.returns-then-is_none
returns-then-is_none c =
    let x = c.index-parts-number.result in
    let there = slice_get_read c.args.parts.now _ c.loop-number.number x refl c.loop-number-test.true c.index-parts-number.is in
    (found_at (λ p. is_none p.after) c.args.parts.now c.loop-number.number x there c.loop-number.invariant (none_is x.after (c.is_none.ensures ∙ ap not c.if-is_none.true)) ∙ sym there, c.loop-number-test.true)

pub loop-number-preserved : goal.loop-number-preserved
loop-number-preserved c =
    let x = c.index-parts-number.result in
    let there = slice_get_read c.args.parts.now _ c.loop-number.number x refl c.loop-number-test.true c.index-parts-number.is in
    still_none (λ p. is_none p.after) c.args.parts.now c.loop-number.number x there c.loop-number.invariant (some_is x.after (c.is_none.ensures ∙ ap not c.if-is_none.false))
