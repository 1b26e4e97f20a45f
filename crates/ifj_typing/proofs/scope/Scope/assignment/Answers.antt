use Rattle.std.proofs.Common.{◌≡◌, List, sym, subst}
use Rattle.std.specs.Prelude.{MatchResult}
use Rattle.std.specs.declared.result.Result.{Result}
use Rattle.std.specs.declared.result.Result.TheVariants.{Ok, Err}
use Rattle.dj_names.specs.Texts.{Text}
use Rattle.dj_names.specs.declared.names.Name.{Name}
use Rattle.dj_tree.specs.Plain.{plain_spot}
use Rattle.dj_tree.specs.Trees.{Spot, Expr, assignment}
use Rattle.dj_tree.specs.declared.source.Instance.{Instance}
use Rattle.dj_calculus.specs.Tables.{Table}
use Rattle.dj_calculus.specs.Subclasses.{class_kind, Below, FieldOf}
use Rattle.dj_calculus.specs.Typing.{Home, Types, type_of_assignment}
use Rattle.ifj_typing.specs.Kinds.{text_of, plain_kind}
use Rattle.ifj_typing.specs.Said.{SaysRoot}
use Rattle.ifj_typing.specs.Scopes.{scope_names, scope_table, scope_home}
use Rattle.ifj_typing.specs.declared.kind.Kind.{Kind}
use Rattle.ifj_typing.specs.declared.kind.Kind.TheVariants.{Class}
use Rattle.ifj_typing.proofs.OneRule.{fault, says_null_assigned, says_no_field_assigned, says_assigned_type}
use Rattle.ifj_typing.proofs.scope.Scope.assignment.Goals as goal

pub returns-in-Null-clause-says : goal.returns-in-Null-clause-says
returns-in-Null-clause-says c = λ e v types value.
    let s = c.args.self.now in
    let null = subst (λ (k : Kind). Types (scope_table s) (scope_home s) e (plain_kind (scope_names s) k)) c.in-Null.is types in
    rw c.instance.ensures (says_null_assigned (scope_table s) (scope_home s) e v (plain_spot (scope_names s) c.args.field) null (plain_kind (scope_names s) c.args.value, value))

pub returns-in-None-clause-says : goal.returns-in-None-clause-says
returns-in-None-clause-says c = λ e v types value.
    let s = c.args.self.now in
    let its = subst (λ (k : Kind). Types (scope_table s) (scope_home s) e (plain_kind (scope_names s) k)) c.in-Class.is types in
    rw c.instance-in-None.ensures (says_no_field_assigned (scope_table s) (scope_home s) e v (plain_spot (scope_names s) c.args.field) (text_of (scope_names s) c.in-Class.class) its
    (plain_kind (scope_names s) c.args.value, value) c.in-None.ensures.found)

assigned : (t : Table) (home : Home) (names : List Text) (e v : Expr) (f : Spot) (a : Text) (kind : Name) (value : Kind) (result : Result Kind Instance)
    → Types t home e (class_kind a) → FieldOf t a f.text (text_of names kind) → Types t home v (plain_kind names value)
    → MatchResult result (λ found. (found ≡ Class kind) × Below t (plain_kind names value) (class_kind (text_of names kind)))
    (λ i. (i ≡ fault 20 f.at) × ¬ (Below t (plain_kind names value) (class_kind (text_of names kind))))
    → SaysRoot t home names (assignment e f v) result
assigned t home names e v f a kind value (Ok found) types has its (is, below) =
    subst (λ (k : Kind). Types t home (assignment e f v) (plain_kind names k)) (sym is) (type_of_assignment types has its below)
assigned t home names e v f a kind value (Err i) types has its (is, wrong) = rw is (says_assigned_type t home e v f a (text_of names kind) (plain_kind names value) types has its wrong)

pub returns-in-Some-clause-says : goal.returns-in-Some-clause-says
returns-in-Some-clause-says c = λ e v types value.
    let s = c.args.self.now in
    let its = subst (λ (k : Kind). Types (scope_table s) (scope_home s) e (plain_kind (scope_names s) k)) c.in-Class.is types in
    assigned (scope_table s) (scope_home s) (scope_names s) e v (plain_spot (scope_names s) c.args.field) (text_of (scope_names s) c.in-Class.class) c.in-Some.kind c.args.value c.assigned.result
    its c.in-Some.ensures.found value c.assigned.ensures.fits
