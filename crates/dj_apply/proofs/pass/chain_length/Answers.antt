use Rattle.std.proofs.Common.{◌≡◌, length, ap, sym, ◌∙◌}
use Rattle.std.proofs.lemmas.List.{length-map}
use Rattle.dj_tree.specs.Trees as plain
use Rattle.dj_tree.specs.Plain.{plain_part}
use Rattle.dj_line.specs.Lines.{plain_line}
use Rattle.dj_line.proofs.AcceptedLines.{length-chain}
use Rattle.dj_apply.proofs.pass.chain_length.Goals as goal

as_many : (c : goal.After-as_slice) → length c.as_slice.result.now ≡ length (plain_line c.args.line.now).parts
as_many c =
    let s = c.source-source.result.now in
    ap length c.as_slice.ensures ∙ sym (length-map s.parts (plain_part s.names s.formulas)) ∙ ap (λ (x : plain.Source). length x.parts) c.source-source.ensures.line

pub returns-clause-parts : goal.returns-clause-parts
returns-clause-parts c = as_many c

pub returns-clause-chain : goal.returns-clause-chain
returns-clause-chain c = as_many c ∙ sym (length-chain (plain_line c.args.line.now) c.source-source.ensures.accepted)
