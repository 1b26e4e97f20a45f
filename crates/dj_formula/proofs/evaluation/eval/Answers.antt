use Rattle.std.proofs.Common.{◌≡◌, ◌∙◌, ap, sym, subst, length, Result, Ok, Err, IfOk}
use Rattle.std.specs.Prelude.{MatchResult, IsErrAnd}
use Rattle.arena_walk.specs.Forest.{first_number}
use Rattle.dj_formula.specs.Value.{HasValue, value_of}
use Rattle.dj_formula.proofs.Trees.{has_value, each_below}
use Rattle.dj_formula.proofs.evaluation.eval.Goals as goal

pub walk-requires-clause-admitted : goal.walk-requires-clause-admitted
walk-requires-clause-admitted c = λ tree is.
    each_below (length c.args.chosen.now) (first_number c.args.formula.now.root.0 tree) tree (c.requires.known tree is)

-- another error for the error
carried : {A E F : Type 0} (P Q : A → Type 0) (R : E → F → Type 0) (given : Result A E) (result : Result A F) → MatchResult given (λ x. result ≡ Ok x) (λ e. IsErrAnd result (R e)) → IfOk given P → ((x : A) → P x → Q x) → IfOk result Q
carried P Q R (Ok x) result same p more = subst (λ r. IfOk r Q) (sym same) (more x p)
carried P Q R (Err e) (Ok y) same p more = absurd same
carried P Q R (Err e) (Err f) same p more = tt

pub returns : goal.returns
returns c =
    record {
      value = carried _ (HasValue c.args.formula.now c.args.chosen.now) _ c.walk.result c.map_err.result c.map_err.ensures.cases c.walk.ensures.ok
          (λ value all. has_value c.args.chosen.now c.args.formula.now.nodes c.args.formula.now.root.0 value c.requires.there
          (λ tree is. all tree is ∙ ap (λ chosen. value_of chosen tree) c.walk.ensures.grew));
    }
