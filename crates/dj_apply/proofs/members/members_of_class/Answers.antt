use Rattle.std.proofs.Common.{◌++◌, map, sym, ap, ap₂, ◌∙◌}
use Rattle.std.proofs.lemmas.Simd.{map-map}
use Rattle.dj_tree.specs.Trees.{adds_field, adds_method}
use Rattle.dj_tree.specs.declared.declarations.FieldDecl.{FieldDecl}
use Rattle.dj_tree.specs.declared.declarations.Method.{Method}
use Rattle.dj_tree.specs.Plain.{plain_field, plain_method}
use Rattle.dj_apply.specs.Members.{plain_members}
use Rattle.dj_apply.proofs.MemberLists.{sorted_members, known_sorted}
use Rattle.dj_apply.proofs.members.members_of_class.Goals as goal

pub returns-clause-members : goal.returns-clause-members
returns-clause-members c =
    sorted_members c.args.source.now.names c.args.source.now.exprs _ c.push_methods.new.members.items c.sort.new.members.items
    (c.in_ok-push_methods.ensures.pushed
    ∙ ap₂ (λ xs ys. xs ++ ys)
    (c.in_ok-push_fields.ensures.pushed ∙ ap (λ vs. plain_members c.args.source.now.names c.args.source.now.exprs vs ++ map (λ (f : FieldDecl). adds_field (plain_field c.args.source.now.names f)) c.as_slice.result.now) c.new-members.ensures.items
    ∙ ap (map (λ (f : FieldDecl). adds_field (plain_field c.args.source.now.names f))) c.as_slice.ensures
    ∙ sym (map-map adds_field (plain_field c.args.source.now.names) c.args.class.now.fields))
    (ap (map (λ (m : Method). adds_method (plain_method c.args.source.now.names c.args.source.now.exprs m))) c.as_slice-2.ensures
    ∙ sym (map-map adds_method (plain_method c.args.source.now.names c.args.source.now.exprs) c.args.class.now.methods)))
    c.sort.ensures

pub returns-clause-known : goal.returns-clause-known
returns-clause-known c = known_sorted c.args.source.now.names c.args.source.now.exprs c.push_methods.new.members.items c.sort.new.members.items c.sort.ensures c.in_ok-push_methods.ensures.known
