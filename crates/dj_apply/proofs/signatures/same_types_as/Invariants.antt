use Rattle.std.proofs.Common.{◌≡◌, map, drop}
use Rattle.dj_tree.specs.declared.declarations.FieldDecl.{FieldDecl}
use Rattle.dj_tree.specs.Plain.{plain_spot}
use Rattle.dj_calculus.specs.Entries.{same_types}
use Rattle.dj_apply.proofs.signatures.same_types_as.Given as goal

-- the types so far are the same, so those that are left decide
abbrev pub invariant-loop-at : goal.invariant-loop-at
invariant-loop-at l =
    same_types (map (plain_spot l.names) l.types) (map (λ (p : FieldDecl). plain_spot l.others p.kind) l.parameters)
    ≡ same_types (drop l.at (map (plain_spot l.names) l.types)) (drop l.at (map (λ (p : FieldDecl). plain_spot l.others p.kind) l.parameters))
