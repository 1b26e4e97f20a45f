use Rattle.std.proofs.Common.{◌∙◌, sym, refl}
use Rattle.dj_tree.specs.declared.declarations.FieldDecl.{FieldDecl}
use Rattle.dj_tree.specs.Plain.{plain_spot}
use Rattle.dj_apply.proofs.SignatureLemmas.{other_lengths, one_differs, one_more, all_same}
use Rattle.dj_apply.proofs.signatures.same_types_as.Goals as goal

pub returns-then-types-parameters : goal.returns-then-types-parameters
returns-then-types-parameters c = sym (other_lengths (plain_spot c.args.names.now) (λ (p : FieldDecl). plain_spot c.args.others.now p.kind) c.args.types.now c.args.parameters.now c.if-types-parameters.true)

pub loop-at-init : goal.loop-at-init
loop-at-init c = refl

pub returns-then-not-same_text : goal.returns-then-not-same_text
returns-then-not-same_text c =
    one_differs (plain_spot c.args.names.now) (λ (p : FieldDecl). plain_spot c.args.others.now p.kind) c.args.types.now c.args.parameters.now c.loop-at.at _ _ c.if-types-parameters.false c.loop-at.invariant c.loop-at-test.true
    (sym c.same_text.ensures ∙ c.if-not-same_text.true)

pub loop-at-preserved : goal.loop-at-preserved
loop-at-preserved c =
    one_more (plain_spot c.args.names.now) (λ (p : FieldDecl). plain_spot c.args.others.now p.kind) c.args.types.now c.args.parameters.now c.loop-at.at _ _ c.if-types-parameters.false c.loop-at.invariant c.loop-at-test.true
    (sym c.same_text.ensures ∙ c.if-not-same_text.false)

pub returns : goal.returns
returns c =
    all_same (plain_spot c.args.names.now) (λ (p : FieldDecl). plain_spot c.args.others.now p.kind) c.args.types.now c.args.parameters.now c.loop-at.at c.if-types-parameters.false c.loop-at.invariant c.loop-at-test.false
