use Rattle.std.specs.List.{AllZip}
use Rattle.std.proofs.Common.{List, map}
use Rattle.dj_tree.specs.Trees.{Expr}
use Rattle.dj_tree.specs.Plain.{plain_spot}
use Rattle.dj_calculus.specs.Tables.{texts_of}
use Rattle.ifj_typing.specs.Arguments.{FitsAt, WrongAt}
use Rattle.ifj_typing.specs.Least.{Judges, Before, EachBefore}
use Rattle.ifj_typing.specs.Said.{IsRight}
use Rattle.ifj_typing.specs.Scopes.{scope_names, scope_table, scope_home}
use Rattle.ifj_typing.proofs.scope.Scope.misfit.Given as goal

abbrev pub invariant-loop-number : goal.invariant-loop-number
invariant-loop-number l =
    (es : List Expr) → AllZip (IsRight (scope_table l.self) (scope_home l.self) (scope_names l.self)) es l.arguments
    → Judges (EachBefore (FitsAt (scope_table l.self) (scope_home l.self) es (texts_of (map (plain_spot (scope_names l.self)) l.types))) l.number)
    (Before (WrongAt (scope_table l.self) (scope_home l.self) es (texts_of (map (plain_spot (scope_names l.self)) l.types))) l.number) l.least
