-- Steps that are taken on a class of a table, and the operations that they come to.
use Rattle.std.proofs.Common.{◌≡◌, Bool, true, false, cond, List, [], ◌∷◌, ◌++◌, Option, None, Some, refl, sym, ap, ◌∙◌}
use Rattle.std.specs.Option.{option_map, option_and_then}
use Rattle.std.specs.FinMap.{get, insert, same_map}
use Rattle.std.specs.Ordering.{eq_by_cmp}
use Rattle.dj_names.specs.Texts.{Text}
use Rattle.dj_tree.specs.Trees.{Class, Change, adds_class, modifies_class}
use Rattle.dj_calculus.specs.Maps.{text_cmp, TextMap, with_at}
use Rattle.dj_calculus.specs.Things.{Step, steps_of}
use Rattle.dj_calculus.specs.Tables.{ClassEntry, Table}
use Rattle.dj_calculus.specs.Entries.{class_entry}
use Rattle.dj_calculus.specs.Operations.{run, enter, inside, take_step, apply}
use Rattle.dj_calculus.proofs.MapLemmas.{text_total, text_antisymmetric, text_get-insert, same_key, reinserted}
use Rattle.dj_calculus.proofs.Members.{taken}
use Rattle.dj_calculus.proofs.GoodLemmas.{run_append}
use Rattle.dj_calculus.proofs.Independence.{Reordered, Pairwise, run_reordered}
use Rattle.dj_calculus.proofs.DisjointDeltas.{get_there}
use Rattle.ifj_table.specs.Changes.{changed_at}
use Rattle.dj_apply.specs.Taking.{CanTake, Takes}

-- ---- maps

same_there : {X : Type 0} (b : Bool) (m : TextMap X) (k q : Text) (x : X) → eq_by_cmp text_cmp q k ≡ b → get m k ≡ Some x → cond b (Some x) (get m q) ≡ get m q
same_there true m k q x e there = sym (ap (get m) (same_key q k e) ∙ there)
same_there false m k q x e there = refl

-- what is there may be put in again
pub put_again : {X : Type 0} (m : TextMap X) (k : Text) (x : X) → get m k ≡ Some x → insert m k x ≡ m
put_again {X} m k x there = same_map text_total text_antisymmetric _ _ (λ q. text_get-insert X m k x q ∙ same_there _ m k q x refl there)

-- ---- steps one after the other

pub takes_none : (t : Table) (class : Text) (entry : ClassEntry) → get t class ≡ Some entry → Takes t t class []
takes_none t class entry there = record { old = entry; new = entry; there = there; taken = refl; is = sym (put_again t class entry there) }

module _ (t u : Table) (class : Text) where
  pub now_there : (steps : List Step) (done : Takes t u class steps) → get u class ≡ Some done.new
  now_there steps done = ap (λ w. get w class) done.is ∙ get_there t class (Some done.new)

  pub takes_more : (v : Table) (xs ys : List Step) → Takes t u class xs → Takes u v class ys → Takes t v class (xs ++ ys)
  takes_more v xs ys first then_ =
      let between : first.new ≡ then_.old = same_entry first.new then_.old (get u class) (now_there xs first) then_.there in
      record {
        old = first.old;
        new = then_.new;
        there = first.there;
        taken = run_append take_step xs ys first.old ∙ ap (option_and_then (run take_step ys)) first.taken ∙ ap (run take_step ys) between ∙ then_.taken;
        is = then_.is ∙ ap (λ w. insert w class then_.new) first.is ∙ reinserted ClassEntry t class first.new then_.new;
      }
    where
      same_entry : (a b : ClassEntry) (o : Option ClassEntry) → o ≡ Some a → o ≡ Some b → a ≡ b
      same_entry a b o p q = cc

  -- what is left of steps that can be taken can be taken
  pub can_go_on : (xs ys : List Step) → CanTake t class (xs ++ ys) → Takes t u class xs → CanTake u class ys
  can_go_on xs ys can done =
      let same : done.old ≡ can.old = same_entry done.old can.old (get t class) done.there can.there in
      record {
        old = done.new;
        new = can.new;
        there = now_there xs done;
        taken = sym (run_append take_step xs ys done.old ∙ ap (option_and_then (run take_step ys)) done.taken) ∙ ap (run take_step (xs ++ ys)) same ∙ can.taken;
      }
    where
      same_entry : (a b : ClassEntry) (o : Option ClassEntry) → o ≡ Some a → o ≡ Some b → a ≡ b
      same_entry a b o p q = cc

  -- in another order
  pub takes_reordered : (xs ys : List Step) → Reordered xs ys → Pairwise take_step xs → Takes t u class ys → Takes t u class xs
  takes_reordered xs ys r pairwise done =
      record { old = done.old; new = done.new; there = done.there; taken = sym (run_reordered take_step xs ys done.old r pairwise) ∙ done.taken; is = done.is }

pub can_reordered : (t : Table) (class : Text) (xs ys : List Step) → Reordered xs ys → Pairwise take_step xs → CanTake t class xs → CanTake t class ys
can_reordered t class xs ys r pairwise can =
    record { old = can.old; new = can.new; there = can.there; taken = run_reordered take_step xs ys can.old r pairwise ∙ can.taken }

-- what can be taken first
pub can_first : (t : Table) (class : Text) (x : Step) (ys : List Step) → CanTake t class (x ∷ ys) → CanTake t class (x ∷ [])
can_first t class x ys can =
    let first = taken (run take_step ys) (take_step x can.old) can.new can.taken in
    record { old = can.old; new = first.0; there = can.there; taken = ap (option_and_then Some) first.1 }

-- ---- one step

changed_is : {X : Type 0} (m : TextMap X) (k : Text) (x : X) (change : X → X) → get m k ≡ Some x → changed_at m k change ≡ insert m k (change x)
changed_is m k x change there = ap (λ o. with_at m k (option_map change o)) there

pub step_taken : (t u : Table) (class : Text) (step : Step) (entry : ClassEntry) (change : ClassEntry → ClassEntry) → get t class ≡ Some entry → take_step step entry ≡ Some (change entry)
    → u ≡ changed_at t class change → Takes t u class (step ∷ [])
step_taken t u class step entry change there taken is =
    record { old = entry; new = change entry; there = there; taken = ap (option_and_then Some) taken; is = is ∙ changed_is t class entry change there }

-- ---- operations

pub change_applied : (c : Change) (t u : Table) → Takes t u c.name.text (steps_of c) → apply (modifies_class c) t ≡ Some u
change_applied c t u done =
    ap (λ o. option_map (λ held. with_at t c.name.text held) (inside (run take_step (steps_of c)) o)) done.there
    ∙ ap (λ o. option_map (λ held. with_at t c.name.text held) (option_map Some o)) done.taken ∙ ap Some (sym done.is)

pub class_applied : (c : Class) (t u v : Table) (bare : ClassEntry) (steps : List Step) → get t c.name.text ≡ None → u ≡ insert t c.name.text bare → Takes u v c.name.text steps
    → run take_step steps bare ≡ Some (class_entry c) → apply (adds_class c) t ≡ Some v
class_applied c t u v bare steps none is done whole =
    let there : get u c.name.text ≡ Some bare = ap (λ w. get w c.name.text) is ∙ get_there t c.name.text (Some bare) in
    let old : done.old ≡ bare = same_entry done.old bare (get u c.name.text) done.there there in
    let new : done.new ≡ class_entry c = same_entry done.new (class_entry c) (run take_step steps bare) (ap (run take_step steps) (sym old) ∙ done.taken) whole in
    ap (λ o. option_map (λ held. with_at t c.name.text held) (enter (class_entry c) o)) none
    ∙ ap Some (sym (done.is ∙ ap (λ x. insert u c.name.text x) new ∙ ap (λ w. insert w c.name.text (class_entry c)) is ∙ reinserted ClassEntry t c.name.text bare (class_entry c)))
  where
    same_entry : (a b : ClassEntry) (o : Option ClassEntry) → o ≡ Some a → o ≡ Some b → a ≡ b
    same_entry a b o p q = cc
