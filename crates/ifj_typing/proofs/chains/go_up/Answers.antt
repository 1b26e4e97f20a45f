use Rattle.std.proofs.Common.{◌≡◌, ◌<◌, false, Some, None, length, slice_get, get_or, sym, ap, ◌∙◌, subst, arith, eq-eqb}
use Rattle.std.proofs.lemmas.Bool.{false≢true}
use Rattle.std.proofs.lemmas.Option.{slice_get-get_or}
use Rattle.ifj_table.specs.Tables.{plain_table, table_classes, table_names, class_keys}
use Rattle.std.specs.FinMap.{get}
use Rattle.ifj_table.specs.declared.entry.ClassEntry.{ClassEntry}
use Rattle.ifj_table.specs.Entries.{text_at}
use Rattle.ifj_table.proofs.TableLemmas.{element_is}
use Rattle.ifj_typing.proofs.Walking.{walk_starts, superclass_at, marked, goes_on, ends_here, meets_itself, meets_other}
use Rattle.ifj_typing.proofs.chains.go_up.Goals as goal

pub up-init : goal.up-init
up-init c = walk_starts c.args.table.now c.args.walks.now.items c.args.start c.requires.start c.requires.walked

pub up-preserved : goal.up-preserved
up-preserved c =
    let t = c.args.table.now in
    let class = c.index-classes-at.result in
    let stands = element_is (table_classes t) c.up.at class c.up.invariant.within (rw c.classes.ensures.classes at c.index-classes-at.is) in
    goes_on t c.up.walks.items c.args.start c.up.at c.up.invariant c.in-Some.next (text_at (table_names t) class.parent) (superclass_at t c.up.at class stands)
    (subst (λ (x : ClassEntry). slice_get (class_keys t) c.in-Some.next ≡ Some (text_at (table_names t) x.parent)) (sym c.index-classes-at.is) c.in-Some.ensures)

pub returns-in-None-clause-walked : goal.returns-in-None-clause-walked
returns-in-None-clause-walked c = marked c.args.table.now c.up.walks.items c.args.start c.up.at c.up.invariant

pub returns-in-None-clause-endless : goal.returns-in-None-clause-endless
returns-in-None-clause-endless c =
    let t = c.args.table.now in
    let class = c.index-classes-at.result in
    let stands = element_is (table_classes t) c.up.at class c.up.invariant.within (rw c.classes.ensures.classes at c.index-classes-at.is) in (
      λ is. absurd (false≢true is),
      λ endless. absurd (ends_here t c.up.walks.items c.args.start c.up.at c.up.invariant (text_at (table_names t) class.parent) (superclass_at t c.up.at class stands)
          (subst (λ (x : ClassEntry). get (plain_table t) (text_at (table_names t) x.parent) ≡ None) (sym c.index-classes-at.is) c.in-None.ensures) endless),
    )

pub bounds-endless-walk : goal.bounds-endless-walk
bounds-endless-walk c =
    let met = element_is c.up.walks.items c.up.at c.index-2.result.now (omega (arith, c.up.invariant.within, c.up.invariant.walked.all)) c.index-2.ensures ∙ ap Some c.in-Some-index.is in
    omega (arith, c.up.invariant.walked.before c.up.at c.in-Some-index.walk met, c.if-walk-start.false, c.requires.count)

pub returns-then-walk-start-clause-endless : goal.returns-then-walk-start-clause-endless
returns-then-walk-start-clause-endless c =
    let met = element_is c.up.walks.items c.up.at c.index-2.result.now (omega (arith, c.up.invariant.within, c.up.invariant.walked.all)) c.index-2.ensures ∙ ap Some c.in-Some-index.is in (
      λ is. meets_itself c.args.table.now c.up.walks.items c.args.start c.up.at c.up.invariant (subst (λ w. slice_get c.up.walks.items c.up.at ≡ Some (Some w)) c.if-walk-start.true met),
      λ endless. eq-eqb c.in-Some-index.walk c.args.start c.if-walk-start.true,
    )

pub returns-else-walk-start-clause-endless : goal.returns-else-walk-start-clause-endless
returns-else-walk-start-clause-endless c =
    let met = element_is c.up.walks.items c.up.at c.index-2.result.now (omega (arith, c.up.invariant.within, c.up.invariant.walked.all)) c.index-2.ensures ∙ ap Some c.in-Some-index.is in
    let low : c.in-Some-index.walk < length c.args.endless.now = omega (arith, c.up.invariant.walked.before c.up.at c.in-Some-index.walk met, c.if-walk-start.false, c.requires.count) in
    meets_other c.args.table.now c.up.walks.items c.args.start c.up.at c.up.invariant c.in-Some-index.walk (get_or c.args.endless.now c.in-Some-index.walk false) met
    (c.requires.told c.in-Some-index.walk (get_or c.args.endless.now c.in-Some-index.walk false) (slice_get-get_or c.args.endless.now c.in-Some-index.walk false low))
