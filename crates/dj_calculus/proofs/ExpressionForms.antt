-- Expressions by the forms of their roots, for recursions over them, in this crate and in its clients: `formed` and `is_formed` say that
-- these are the trees that pass the test.
use Rattle.std.proofs.Common.{◌≡◌, ℕ, Bool, true, false, ◌&&◌, refl}
use Rattle.arena_walk.specs.Tree.{branch, no_trees, tree_and}
use Rattle.dj_tree.specs.Trees.{Spot, Expr, VariableForm, ThisForm, NullForm, FieldForm, CallForm, NewForm, CastForm, AssignForm, OriginalForm, variable, this_at, null_at, field_of, new_of, cast_to, assignment}
use Rattle.dj_calculus.specs.Typing.{Arguments, call_with}
use Rattle.dj_calculus.specs.Expressions.{is_expression, are_expressions, IsExpression}

mutual
  pub data Formed : Expr → Type 0 where
    a_variable : {x : Spot} → Formed (variable x)
    a_this : {at : ℕ} → Formed (this_at at)
    a_null : {at : ℕ} → Formed (null_at at)
    a_new : {d : Spot} → Formed (new_of d)
    a_cast : {d : Spot} {e : Expr} → Formed e → Formed (cast_to d e)
    a_field : {e : Expr} {f : Spot} → Formed e → Formed (field_of e f)
    an_assignment : {e v : Expr} {f : Spot} → Formed e → Formed v → Formed (assignment e f v)
    a_call : {e : Expr} {m : Spot} {arguments : Arguments} → Formed e → EachFormed arguments → Formed (call_with e m arguments)
    an_original : {at : ℕ} {arguments : Arguments} → EachFormed arguments → Formed (branch (OriginalForm at) arguments)

  pub data EachFormed : Arguments → Type 0 where
    none_formed : EachFormed no_trees
    formed_and : {e : Expr} {arguments : Arguments} → Formed e → EachFormed arguments → EachFormed (tree_and e arguments)

pub both_of : (a b : Bool) → a && b ≡ true → (a ≡ true) × (b ≡ true)
both_of true b e = (refl, e)
both_of false b e = absurd cc

first_of_both : (a : Bool) → a && true ≡ true → a ≡ true
first_of_both true e = refl
first_of_both false e = absurd cc

both : (a b : Bool) → a ≡ true → b ≡ true → a && b ≡ true
both a b p q = rw (p, q) refl

mutual
  -- what passes the test is formed so
  pub formed : (e : Expr) → IsExpression e → Formed e
  formed (branch (VariableForm x) no_trees) is = a_variable
  formed (branch (VariableForm x) (tree_and e es)) is = absurd cc
  formed (branch (ThisForm at) no_trees) is = a_this
  formed (branch (ThisForm at) (tree_and e es)) is = absurd cc
  formed (branch (NullForm at) no_trees) is = a_null
  formed (branch (NullForm at) (tree_and e es)) is = absurd cc
  formed (branch (NewForm c) no_trees) is = a_new
  formed (branch (NewForm c) (tree_and e es)) is = absurd cc
  formed (branch (FieldForm f) no_trees) is = absurd cc
  formed (branch (FieldForm f) (tree_and e no_trees)) is = a_field (formed e (first_of_both _ is))
  formed (branch (FieldForm f) (tree_and e (tree_and v es))) is = absurd cc
  formed (branch (CastForm c) no_trees) is = absurd cc
  formed (branch (CastForm c) (tree_and e no_trees)) is = a_cast (formed e (first_of_both _ is))
  formed (branch (CastForm c) (tree_and e (tree_and v es))) is = absurd cc
  formed (branch (AssignForm f) no_trees) is = absurd cc
  formed (branch (AssignForm f) (tree_and e no_trees)) is = absurd cc
  formed (branch (AssignForm f) (tree_and e (tree_and v no_trees))) is =
      let parts = both_of (is_expression e) (is_expression v && true) is in
      an_assignment (formed e parts.0) (formed v (first_of_both _ parts.1))
  formed (branch (AssignForm f) (tree_and e (tree_and v (tree_and w es)))) is = absurd cc
  formed (branch (CallForm m) no_trees) is = absurd cc
  formed (branch (CallForm m) (tree_and e es)) is =
      let parts = both_of (is_expression e) (are_expressions es) is in
      a_call (formed e parts.0) (each_formed es parts.1)
  formed (branch (OriginalForm at) es) is = an_original (each_formed es is)

  each_formed : (es : Arguments) → are_expressions es ≡ true → EachFormed es
  each_formed no_trees is = none_formed
  each_formed (tree_and e es) is =
      let parts = both_of (is_expression e) (are_expressions es) is in
      formed_and (formed e parts.0) (each_formed es parts.1)

mutual
  -- what is formed so passes the test
  pub is_formed : (e : Expr) → Formed e → IsExpression e
  is_formed e a_variable = refl
  is_formed e a_this = refl
  is_formed e a_null = refl
  is_formed e a_new = refl
  is_formed e (a_cast {e = v} is) = both (is_expression v) true (is_formed v is) refl
  is_formed e (a_field {e = v} is) = both (is_expression v) true (is_formed v is) refl
  is_formed e (an_assignment {e = u} {v = v} is its) = both (is_expression u) (is_expression v && true) (is_formed u is) (both (is_expression v) true (is_formed v its) refl)
  is_formed e (a_call {e = v} {arguments = es} is are) = both (is_expression v) (are_expressions es) (is_formed v is) (are_formed es are)
  is_formed e (an_original {arguments = es} are) = are_formed es are

  are_formed : (es : Arguments) → EachFormed es → are_expressions es ≡ true
  are_formed es none_formed = refl
  are_formed es (formed_and {e = e} {arguments = rest} is are) = both (is_expression e) (are_expressions rest) (is_formed e is) (are_formed rest are)
