-- Walks up chains of superclasses.
use Rattle.std.proofs.Common.{◌≡◌, ◌≢◌, ◌⊎◌, inl, inr, ℕ, zero, suc, ◌+◌, ◌<◌, Bool, List, [], ◌∷◌, Option, Some, None, is_some, length, slice_get, set, replicate, ◌++◌, refl, sym, ap, ◌∙◌, subst, arith}
use Rattle.std.specs.Prelude.{IsSome, unwrap_or, Decides}
use Rattle.std.specs.FinMap.{get}
use Rattle.std.specs.Option.{option_map}
use Rattle.std.proofs.lemmas.Bool.{false≢true}
use Rattle.std.proofs.lemmas.List.{length-map, length-set, length-replicate}
use Rattle.std.proofs.lemmas.Option.{slice_get-map, slice_get_within}
use Rattle.dj_names.specs.Texts.{Text}
use Rattle.dj_calculus.specs.Tables as calculus
use Rattle.dj_calculus.specs.Subclasses.{HasSuperclass, Steps, stay, up, Above}
use Rattle.dj_calculus.specs.TableRules.{IsEndless}
use Rattle.dj_calculus.proofs.Chains.{one_superclass, circle_endless}
use Rattle.dj_calculus.proofs.Members.{either, same_some}
use Rattle.ifj_table.specs.Entries.{text_at, plain_class}
use Rattle.ifj_table.specs.Tables.{plain_table, table_names, table_classes, class_keys}
use Rattle.ifj_table.specs.declared.entry.ClassEntry.{ClassEntry}
use Rattle.ifj_table.specs.declared.table.Table.{Table}
use Rattle.ifj_table.proofs.TableLemmas.{class_key, class_at}
use Rattle.ifj_typing.specs.Chains.{class_text, AreTold, AreWalked, ComesHere}

-- ---- along a chain

module _ (t : calculus.Table) where
  pub joined : (c d e : Text) → Steps t c d → Steps t d e → Steps t c e
  joined c d e stay more = more
  joined c d e (up {d = x} has steps) more = up has (joined x d e steps more)

  pub one_up : (c d e : Text) → Above t c d → HasSuperclass t d e → Above t c e
  one_up c d e (x, has, steps) more = (x, has, joined x d e steps (up more stay))

  pub endless_up : (c d : Text) → Steps t c d → IsEndless t c → IsEndless t d
  endless_up c d steps endless e more = endless e (joined c d e steps more)

  pub endless_down : (c d : Text) → Steps t c d → IsEndless t d → IsEndless t c
  endless_down c d stay endless = endless
  endless_down c d (up {d = x} has steps) endless = from_superclass c x has (endless_down x d steps endless)
    where
      from_superclass : (c x : Text) → HasSuperclass t c x → IsEndless t x → IsEndless t c
      from_superclass c x has endless e stay = ap is_some has.there
      from_superclass c x has endless e (up {d = y} also more) = endless e (subst (λ z. Steps t z e) (one_superclass t c y x also has) more)

  no_class : (o : Option calculus.ClassEntry) → o ≡ None → IsSome o → ⊥
  no_class o is some = false≢true (sym (ap is_some is) ∙ some)

  -- it ends where the superclass is none of the table's
  pub ends_above : (c d e : Text) → Steps t c d → HasSuperclass t d e → get t e ≡ None → ¬ (IsEndless t c)
  ends_above c d e steps has missing endless = no_class (get t e) missing (endless e (joined c d e steps (up has stay)))

  -- two chains that meet
  pub same_end : (b : Bool) (c d e : Text) → Steps t c e → Steps t d e → Decides b (IsEndless t d) → Decides b (IsEndless t c)
  same_end b c d e one other told = (
    λ is. endless_down c e one (endless_up d e other (told.0 is)),
    λ endless. told.1 (endless_down d e other (endless_up c e one endless)),
  )

  pub in_a_circle : (c d : Text) → Steps t c d → Above t d d → IsEndless t c
  in_a_circle c d steps circle = endless_down c d steps (circle_endless t d circle)

-- ---- classes by their numbers

pub slice_get_push : {X : Type 0} (xs : List X) (y : X) (n : ℕ) (z : X) → slice_get (xs ++ y ∷ []) n ≡ Some z → (slice_get xs n ≡ Some z) ⊎ ((n ≡ length xs) × (y ≡ z))
slice_get_push [] y zero z at = inr (refl, cc)
slice_get_push [] y (suc n) z at = absurd cc
slice_get_push (x ∷ xs) y zero z at = inl at
slice_get_push (x ∷ xs) y (suc n) z at = either (slice_get_push xs y n z at) (λ before. inl before) (λ last. inr (ap suc last.0, last.1))

class_here : (t : Table) (n : ℕ) (k : Text) → slice_get (class_keys t) n ≡ Some k → class_text t n ≡ k
class_here t n k here = ap (λ o. unwrap_or o []) here

pub superclass_at : (t : Table) (n : ℕ) (class : ClassEntry) → slice_get (table_classes t) n ≡ Some class
    → HasSuperclass (plain_table t) (class_text t n) (text_at (table_names t) class.parent)
superclass_at t n class stands =
    let key : slice_get (class_keys t) n ≡ Some (text_at t.names class.spot) = slice_get-map (class_key t.names) t.classes.items n ∙ ap (option_map (class_key t.names)) stands in
    let it = class_at t.names t.exprs t.classes.items t.held n (text_at t.names class.spot) key in
    let same : it.0 ≡ class = same_some it.0 class (slice_get t.classes.items n) it.1 stands in
    record {
      entry = plain_class t.names t.exprs class;
      there = ap (get (plain_table t)) (class_here t n (text_at t.names class.spot) key) ∙ it.3 ∙ ap (λ (c : ClassEntry). Some (plain_class t.names t.exprs c)) same;
      parent = refl;
    }

-- in the midst of a walk
pub record Walking (t : Table) (walks : List (Option ℕ)) (walk here : ℕ) : Type 0 where
  pub within : here < length (table_classes t)
  pub walked : AreWalked t walks (walk + 1)
  pub reached : Steps (plain_table t) (class_text t walk) (class_text t here)
  pub comes : ComesHere t walks walk here

pub walk_starts : (t : Table) (walks : List (Option ℕ)) (walk : ℕ) → walk < length (table_classes t) → AreWalked t walks walk → Walking t walks walk walk
walk_starts t walks walk low are =
    record {
      within = low;
      walked = record { all = are.all; before = λ n w here. omega (arith, are.before n w here); leads = are.leads };
      reached = stay;
      comes = λ n here. absurd (omega (arith, are.before n walk here));
    }

set_here : {X : Type 0} (xs : List X) (i : ℕ) (y z : X) → slice_get (set xs i y) i ≡ Some z → y ≡ z
set_here [] zero y z here = absurd cc
set_here [] (suc i) y z here = absurd cc
set_here (x ∷ xs) zero y z here = cc
set_here (x ∷ xs) (suc i) y z here = set_here xs i y z here

set_other : {X : Type 0} (xs : List X) (i k : ℕ) (y : X) → k ≢ i → slice_get (set xs i y) k ≡ slice_get xs k
set_other [] zero k y other = refl
set_other [] (suc i) k y other = refl
set_other (x ∷ xs) zero zero y other = absurd (other refl)
set_other (x ∷ xs) zero (suc k) y other = refl
set_other (x ∷ xs) (suc i) zero y other = refl
set_other (x ∷ xs) (suc i) (suc k) y other = set_other xs i k y (λ same. other (ap suc same))

same_or_other : (n m : ℕ) → (n ≡ m) ⊎ (n ≢ m)
same_or_other n m = grind arith

module _ (t : Table) (walks : List (Option ℕ)) (walk here : ℕ) (is : Walking t walks walk here) where
  put : (n w : ℕ) → slice_get (set walks here (Some walk)) n ≡ Some (Some w) → ((n ≡ here) × (w ≡ walk)) ⊎ ((n ≢ here) × (slice_get walks n ≡ Some (Some w)))
  put n w there = either (same_or_other n here) (λ same. inl (same, its (set_here walks here (Some walk) (Some w) (subst (λ k. slice_get (set walks here (Some walk)) k ≡ Some (Some w)) same there))))
      (λ other. inr (other, sym (set_other walks here n (Some walk) other) ∙ there))
    where
      its : ◌≡◌ {A = Option ℕ} (Some walk) (Some w) → w ≡ walk
      its e = cc

  pub marked : AreWalked t (set walks here (Some walk)) (walk + 1)
  marked =
      record {
        all = length-set walks here (Some walk) ∙ is.walked.all;
        before = λ n w there. either (put n w there) (λ same. omega (arith, same.1)) (λ other. is.walked.before n w other.1);
        leads = λ n w there. either (put n w there)
            (λ same. subst (λ k. Steps (plain_table t) (class_text t k) (class_text t n)) (sym same.1) (subst (λ k. Steps (plain_table t) (class_text t walk) (class_text t k)) (sym same.0) is.reached))
            (λ other. is.walked.leads n w other.1);
      }

  pub goes_on : (next : ℕ) (parent : Text) → HasSuperclass (plain_table t) (class_text t here) parent → slice_get (class_keys t) next ≡ Some parent
      → Walking t (set walks here (Some walk)) walk next
  goes_on next parent has there =
      let has_next = subst (HasSuperclass (plain_table t) (class_text t here)) (sym (class_here t next parent there)) has in
      record {
        within = omega (arith, slice_get_within (class_keys t) next parent there, length-map t.classes.items (class_key t.names));
        walked = marked;
        reached = joined (plain_table t) (class_text t walk) (class_text t here) (class_text t next) is.reached (up has_next stay);
        comes = λ n at. either (put n walk at) (λ same. subst (λ k. Above (plain_table t) (class_text t k) (class_text t next)) (sym same.0) (class_text t next, has_next, stay))
            (λ other. one_up (plain_table t) (class_text t n) (class_text t here) (class_text t next) (is.comes n other.1) has_next);
      }

  -- where it ends
  pub ends_here : (parent : Text) → HasSuperclass (plain_table t) (class_text t here) parent → get (plain_table t) parent ≡ None → ¬ (IsEndless (plain_table t) (class_text t walk))
  ends_here parent has missing = ends_above (plain_table t) (class_text t walk) (class_text t here) parent is.reached has missing

  pub meets_itself : slice_get walks here ≡ Some (Some walk) → IsEndless (plain_table t) (class_text t walk)
  meets_itself at = in_a_circle (plain_table t) (class_text t walk) (class_text t here) is.reached (is.comes here at)

  pub meets_other : (other : ℕ) (b : Bool) → slice_get walks here ≡ Some (Some other) → Decides b (IsEndless (plain_table t) (class_text t other))
      → Decides b (IsEndless (plain_table t) (class_text t walk))
  meets_other other b at told = same_end (plain_table t) b (class_text t walk) (class_text t other) (class_text t here) is.reached (is.walked.leads here other at) told

-- the class of a number, by its name
pub class_named : (t : Table) (n : ℕ) (class : ClassEntry) → slice_get (table_classes t) n ≡ Some class → class_text t n ≡ text_at (table_names t) class.spot
class_named t n class stands =
    class_here t n (text_at t.names class.spot) (slice_get-map (class_key t.names) t.classes.items n ∙ ap (option_map (class_key t.names)) stands)

-- one class more is told of
pub told_more : (t : Table) (endless : List Bool) (b : Bool) → AreTold t endless → Decides b (IsEndless (plain_table t) (class_text t (length endless))) → AreTold t (endless ++ b ∷ [])
told_more t endless b told here n c at = by (slice_get_push endless b n c at)
  where
    by : (slice_get endless n ≡ Some c) ⊎ ((n ≡ length endless) × (b ≡ c)) → Decides c (IsEndless (plain_table t) (class_text t n))
    by (inl before) = told n c before
    by (inr (last, is)) = subst (λ k. Decides c (IsEndless (plain_table t) (class_text t k))) (sym last) (subst (λ d. Decides d (IsEndless (plain_table t) (class_text t (length endless)))) is here)

-- before the first walk
pub none_walked : (t : Table) (count : ℕ) → count ≡ length (table_classes t) → AreWalked t (replicate count None) 0
none_walked t count is =
    record { all = length-replicate count None ∙ is; before = λ n w here. absurd (no_walk count n w here); leads = λ n w here. absurd (no_walk count n w here) }
  where
    no_walk : (count n w : ℕ) → slice_get (replicate {A = Option ℕ} count None) n ≡ Some (Some w) → ⊥
    no_walk zero n w here = absurd cc
    no_walk (suc count) zero w here = absurd cc
    no_walk (suc count) (suc n) w here = no_walk count n w here
