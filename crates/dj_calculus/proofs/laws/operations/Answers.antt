use Rattle.std.proofs.Common.{◌≡◌, Option, Some, None, refl}
use Rattle.std.specs.Option.{option_map}
use Rattle.std.specs.FinMap.{insert}
use Rattle.dj_names.specs.Texts.{Text}
use Rattle.dj_calculus.specs.Maps.{with_at}
use Rattle.dj_calculus.specs.Tables.{ClassEntry, Table}
use Rattle.dj_calculus.specs.Things.{steps_of}
use Rattle.dj_calculus.specs.Operations.{run, take_step}
use Rattle.dj_calculus.proofs.laws.operations.Goals as goal

pub returns-clause-adds_class : goal.returns-clause-adds_class
returns-clause-adds_class c = record { enters = λ d t is. rw is refl; undefined = λ d t old is. rw is refl }

pub returns-clause-removes_class : goal.returns-clause-removes_class
returns-clause-removes_class c = record { takes_out = λ d t old is. rw is refl; undefined = λ d t is. rw is refl }

-- what is changed is put back at its name
put_back : (t : Table) (name : Text) (o : Option ClassEntry) → option_map (with_at t name) (option_map Some o) ≡ option_map (insert t name) o
put_back t name None = refl
put_back t name (Some x) = refl

pub returns-clause-modifies_class : goal.returns-clause-modifies_class
returns-clause-modifies_class c = record { changes = λ d t old is. rw is (put_back t d.name.text (run take_step (steps_of d) old)); undefined = λ d t is. rw is refl }

pub returns-clause-changes_fields : goal.returns-clause-changes_fields
returns-clause-changes_fields c =
    record { adds = λ f d is. rw is refl; adds_undefined = λ f d old is. rw is refl; removes = λ f d old is. rw is refl; removes_undefined = λ f d is. rw is refl }

pub returns-clause-changes_methods : goal.returns-clause-changes_methods
returns-clause-changes_methods c =
    record { adds = λ m d is. rw is refl; adds_undefined = λ m d old is. rw is refl; removes = λ m d old is. rw is refl; removes_undefined = λ m d is. rw is refl }

pub returns-clause-modifies_method : goal.returns-clause-modifies_method
returns-clause-modifies_method c =
    record {
      appends = λ m d old is same says. rw (is, same, says) refl;
      replaces = λ m d old is same says. rw (is, same, says) refl;
      differs = λ m d old is differs. rw (is, differs) refl;
      missing = λ m d is. rw is refl;
    }
