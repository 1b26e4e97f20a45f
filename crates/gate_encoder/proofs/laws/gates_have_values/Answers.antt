use Rattle.std.proofs.Common.{◌∙◌, sym}
use Rattle.std.specs.Bool.{beq}
use Rattle.std.specs.List.{list_all, list_any}
use Rattle.sat_clauses.specs.Literals.{is_true}
use Rattle.sat_clauses.specs.ClauseLists.{holds}
use Rattle.gate_encoder.specs.Writing.{literal}
use Rattle.gate_encoder.proofs.Meaning.{all_holds, any_holds, equal_holds, same_by}
use Rattle.gate_encoder.proofs.laws.gates_have_values.Goals as goal

pub returns-clause-all : goal.returns-clause-all
returns-clause-all g c = λ w k parts values none held.
    let eq = g.K.PartialEq.eq in
    same_by (holds values w.clauses) (is_true values (literal eq w k)) (list_all (is_true values) parts) (sym (all_holds values eq w k parts none) ∙ held)

pub returns-clause-any : goal.returns-clause-any
returns-clause-any g c = λ w k parts values none held.
    let eq = g.K.PartialEq.eq in
    same_by (holds values w.clauses) (is_true values (literal eq w k)) (list_any (is_true values) parts) (sym (any_holds values eq w k parts none) ∙ held)

pub returns-clause-equal : goal.returns-clause-equal
returns-clause-equal g c = λ w k a b values none held.
    let eq = g.K.PartialEq.eq in
    same_by (holds values w.clauses) (is_true values (literal eq w k)) (beq (is_true values a) (is_true values b)) (sym (equal_holds values eq w k a b none) ∙ held)
