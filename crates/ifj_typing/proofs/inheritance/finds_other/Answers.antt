use Rattle.std.proofs.Common.{◌≤◌, length, refl, sym, ap, ◌∙◌, arith}
use Rattle.std.proofs.lemmas.Bool.{false≢true}
use Rattle.ifj_table.specs.Entries.{text_at, plain_signature, plain_class, plain_method}
use Rattle.ifj_table.specs.Tables.{plain_table, table_names, table_nodes, class_keys}
use Rattle.ifj_table.proofs.Climbing.{climbed_none}
use Rattle.ifj_table.proofs.Inherited.{entry_held}
use Rattle.ifj_table.proofs.Superclasses.{among_keys, as_many_keys}
use Rattle.ifj_typing.specs.Kinds.{text_of}
use Rattle.ifj_lineages.proofs.Overriding.{differing, none_differs, differs_here, none_left, climbs_past_owner}
use Rattle.ifj_lineages.proofs.Owners.{named_there}
use Rattle.ifj_typing.proofs.inheritance.finds_other.Goals as goal

pub up-init : goal.up-init
up-init c =
    let t = c.args.table.now in
    record {
      known = c.requires.class;
      count = 0;
      enough = omega arith;
      climbed = climbed_none (plain_table t) (differing (text_at (table_names t) c.args.method.now.spot) (plain_signature (table_names t) c.args.method.now)) (text_of (table_names t) c.args.class);
    }

pub owned_method-requires-clause-class : goal.owned_method-requires-clause-class
owned_method-requires-clause-class c = c.up.invariant.known

pub returns-in-None : goal.returns-in-None
returns-in-None c =
    let t = c.args.table.now in (
      λ is. absurd (false≢true is),
      λ differs. absurd (none_differs (plain_table t) (text_at (table_names t) c.args.method.now.spot) (plain_signature (table_names t) c.args.method.now) c.up.invariant.count
          (text_of (table_names t) c.args.class) (text_of (table_names t) c.up.at) c.up.invariant.climbed c.in-None.ensures differs),
    )

pub returns-then-not-same_signature : goal.returns-then-not-same_signature
returns-then-not-same_signature c =
    let t = c.args.table.now in
    let owned = c.in-Some.ensures in (
      λ is. differs_here (plain_table t) (text_at (table_names t) c.args.method.now.spot) (plain_signature (table_names t) c.args.method.now) c.up.invariant.count
          (text_of (table_names t) c.args.class) (text_of (table_names t) c.up.at) owned.name (plain_method (table_names t) (table_nodes t) c.in-Some.owned.method.now) c.up.invariant.climbed owned.nearest
          (sym c.same_signature.ensures ∙ c.if-not-same_signature.true),
      λ differs. refl,
    )

pub up-preserved : goal.up-preserved
up-preserved c =
    let t = c.args.table.now in
    let owned = c.in-Some.ensures in
    let owner = c.in-Some.owned.class.now in
    let past = climbs_past_owner (plain_table t) (text_at (table_names t) c.args.method.now.spot) (plain_signature (table_names t) c.args.method.now) c.up.invariant.count
    (text_of (table_names t) c.args.class) (text_of (table_names t) c.up.at) owned.name (plain_method (table_names t) (table_nodes t) c.in-Some.owned.method.now) (plain_class (table_names t) (table_nodes t) owner)
    c.up.invariant.climbed owned.nearest (sym c.same_signature.ensures ∙ c.if-not-same_signature.false) (named_there t owned.name owner owned.owner_named) in
    record { known = (entry_held t owned.name owner owned.owner_named).parent; count = past.0; enough = omega (arith, past.1, c.up.invariant.enough); climbed = past.2 }

pub returns : goal.returns
returns c =
    let t = c.args.table.now in
    let many : length (class_keys t) ≤ c.up.invariant.count = omega (arith, as_many_keys t, ap length c.classes-turn-end.ensures.classes, c.up.invariant.enough) in (
      λ is. absurd (false≢true is),
      λ differs. absurd (none_left (plain_table t) (text_at (table_names t) c.args.method.now.spot) (plain_signature (table_names t) c.args.method.now) (class_keys t) (among_keys t) c.up.invariant.count
          (text_of (table_names t) c.args.class) (text_of (table_names t) c.up.at) c.up.invariant.climbed
          many differs),
    )
