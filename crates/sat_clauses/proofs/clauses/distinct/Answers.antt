use Rattle.std.proofs.Common.{◌≡◌, ◌<◌, ◌+◌, [], false, take, get_or, length, ap, sym, ◌∙◌, subst, arith, All}
use Rattle.std.specs.List.{IsDistinct}
use Rattle.std.proofs.lemmas.List.{take_more}
use Rattle.std.proofs.lemmas.Result.{IfOk-weaker}
use Rattle.sat_clauses.specs.declared.literal.Lit.{Lit}
use Rattle.sat_clauses.specs.Literals.{IsLiteral, same_literal}
use Rattle.sat_clauses.specs.ClauseLists.{distinct_literals, IsClause, with_literal}
use Rattle.sat_clauses.proofs.SetLemmas.{joined-push, All-with_literal}
use Rattle.sat_clauses.proofs.clauses.distinct.Goals as goal

pub loop-lit-preserved : goal.loop-lit-preserved
loop-lit-preserved c =
    let none : Lit = record { var = 0; positive = false } in
    let lits = c.args.lits.now in
    let at = c.loop-lit.lit-index in
    let lit : Lit = get_or lits at none in
    let kept : c.insert.new.self.keys ≡ with_literal c.loop-lit.kept.keys lit = c.in_ok-insert.ensures.keys in
    let within : at < length lits = omega arith in
    let more : distinct_literals (take (at + 1) lits) ≡ with_literal (distinct_literals (take at lits)) lit =
    ap distinct_literals (take_more lits at none within) ∙ joined-push [] (take at lits) lit in (
      kept ∙ ap (λ ls. with_literal ls lit) c.loop-lit.invariant.0 ∙ sym more,
      subst (All IsLiteral) (sym kept) (All-with_literal IsLiteral c.loop-lit.kept.keys lit c.loop-lit.invariant.1 (c.requires at none within)),
    )

pub returns-clause-clause : goal.returns-clause-clause
returns-clause-clause c =
    let distinct : IsDistinct same_literal c.loop-lit.kept.keys = c.as_slice.ensures.unique in
    let clause : IsClause c.loop-lit.kept.keys = record { literals = c.loop-lit.invariant.1; distinct = distinct } in
    IfOk-weaker c.from_slice.result (λ v. v.items ≡ c.as_slice.result.now) (λ v. IsClause v.items) (λ v is. subst IsClause (sym c.as_slice.ensures.keys ∙ sym is) clause) c.from_slice.ensures.items
