use Rattle.std.proofs.Common.{map, sym, ap, ap₂, ◌∙◌}
use Rattle.std.specs.Str.{bytes_eq}
use Rattle.dj_tree.specs.declared.declarations.FieldDecl.{FieldDecl}
use Rattle.dj_tree.specs.Plain.{plain_spot, plain_method}
use Rattle.dj_calculus.specs.Entries.{same_types, signature_of}
use Rattle.ifj_table.specs.Entries.{plain_signature}
use Rattle.dj_apply.proofs.SignatureLemmas.{kinds_of, types_differ, types_agree}
use Rattle.dj_apply.proofs.signatures.has_signature.Goals as goal

pub returns-then-not-same_types_as : goal.returns-then-not-same_types_as
returns-then-not-same_types_as c =
    types_differ c.same_types_as.result _ (same_types (plain_signature c.args.table.now.names c.args.old.now).parameters (signature_of (plain_method c.args.source.now.names c.args.source.now.exprs c.args.method.now)).parameters) _
    c.same_types_as.ensures
    (ap₂ same_types (ap₂ (λ names types. map (plain_spot names) types) c.names-names.ensures c.as_slice-types.ensures)
    (ap (map (λ (p : FieldDecl). plain_spot c.args.source.now.names p.kind)) c.as_slice-parameters.ensures ∙ sym (kinds_of c.args.source.now.names c.args.method.now.parameters)))
    c.if-not-same_types_as.true

pub returns : goal.returns
returns c =
    c.same_text.ensures
    ∙ ap (λ names. bytes_eq (plain_spot names c.args.old.now.result).text (plain_spot c.args.source.now.names c.args.method.now.result).text) c.names-names.ensures
    ∙ types_agree c.same_types_as.result _ (same_types (plain_signature c.args.table.now.names c.args.old.now).parameters (signature_of (plain_method c.args.source.now.names c.args.source.now.exprs c.args.method.now)).parameters) _
    c.same_types_as.ensures
    (ap₂ same_types (ap₂ (λ names types. map (plain_spot names) types) c.names-names.ensures c.as_slice-types.ensures)
    (ap (map (λ (p : FieldDecl). plain_spot c.args.source.now.names p.kind)) c.as_slice-parameters.ensures ∙ sym (kinds_of c.args.source.now.names c.args.method.now.parameters)))
    c.if-not-same_types_as.false
