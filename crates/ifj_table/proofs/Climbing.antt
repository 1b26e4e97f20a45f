-- Going up a chain of superclasses, in as many steps as there are classes at most.
use Rattle.std.proofs.Common.{◌≡◌, ◌⊎◌, inl, inr, ℕ, zero, suc, ◌+◌, ◌<◌, ◌≤◌, Bool, true, false, cond, List, [], ◌∷◌, Option, Some, None, is_none, length, map, slice_get, Contains, refl, sym, ap, ◌∙◌, subst, arith}
use Rattle.std.specs.Prelude.{IsSome, is_some}
use Rattle.std.specs.Str.{bytes_eq}
use Rattle.std.specs.FinMap.{get}
use Rattle.std.proofs.lemmas.Slice.Eq.{bytes_eq-Decides}
use Rattle.dj_names.specs.Texts.{Text}
use Rattle.dj_calculus.specs.Tables.{ClassEntry, Table}
use Rattle.dj_calculus.specs.Subclasses.{HasSuperclass, Steps, stay, up, Above, Nearest, own, inherited}
use Rattle.dj_calculus.proofs.Counting.{as_many, got_within}
use Rattle.dj_calculus.proofs.Members.{same_some, not_both}

below_or_at : (a n : ℕ) → a < suc n → (a < n) ⊎ (a ≡ n)
below_or_at a n h = grind arith

module _ {X : Type 0} (t : Table) (member : ClassEntry → Option X) where
  -- the nearest class with a member, so many steps up
  pub data NearestIn : ℕ → Text → Text → X → Type 0 where
    at_own : {c : Text} {entry : ClassEntry} {x : X} → get t c ≡ Some entry → member entry ≡ Some x → NearestIn 0 c c x
    one_up : {k : ℕ} {c d : Text} {entry : ClassEntry} {x : X} → get t c ≡ Some entry → member entry ≡ None → NearestIn k entry.parent.text d x → NearestIn (suc k) c d x

  pub counted : (c d : Text) (x : X) → Nearest t member c d x → (k : ℕ) × NearestIn k c d x
  counted c d x (own there has) = (0, at_own there has)
  counted c d x (inherited {d = e} {entry = entry} there lacks nearest) = let rest = counted entry.parent.text e x nearest in (suc rest.0, one_up there lacks rest.1)

  -- the number of steps is one
  pub one_number : (k j : ℕ) (c d e : Text) (x y : X) → NearestIn k c d x → NearestIn j c e y → k ≡ j
  one_number k j c d e x y (at_own there has) (at_own other also) = refl
  one_number k j c d e x y (at_own {entry = a} there has) (one_up {entry = b} other lacks rest) =
      let same : a ≡ b = same_some a b (get t c) there other in absurd (not_both x (member b) lacks (ap member (sym same) ∙ has))
  one_number k j c d e x y (one_up {entry = a} there lacks rest) (at_own {entry = b} other has) =
      let same : a ≡ b = same_some a b (get t c) there other in absurd (not_both y (member b) (ap member (sym same) ∙ lacks) has)
  one_number k j c d e x y (one_up {k = m} {entry = a} there lacks rest) (one_up {k = n} {entry = b} other also more) =
      let same : a ≡ b = same_some a b (get t c) there other in
      ap suc (one_number m n b.parent.text d e x y (subst (λ (z : ClassEntry). NearestIn m z.parent.text d x) same rest) more)

  -- the classes on the way
  on_the_way : (k : ℕ) (c d : Text) (x : X) → NearestIn k c d x → (i : ℕ) → i < suc k → (e : Text) × NearestIn i e d x × IsSome (get t e)
  on_the_way k c d x (at_own there has) zero low = (c, at_own there has, ap is_some there)
  on_the_way k c d x (at_own there has) (suc i) low = absurd (omega arith)
  on_the_way k c d x (one_up {k = m} {entry = entry} there lacks rest) i low = by (below_or_at i (suc m) low) (λ lower. on_the_way m entry.parent.text d x rest i lower)
    where
      by : (i < suc m) ⊎ (i ≡ suc m) → (i < suc m → (e : Text) × NearestIn i e d x × IsSome (get t e)) → (e : Text) × NearestIn i e d x × IsSome (get t e)
      by (inl lower) deeper = deeper lower
      by (inr same) deeper = (c, subst (λ n. NearestIn n c d x) (sym same) (one_up there lacks rest), ap is_some there)

  -- so there are fewer steps than classes
  pub few_steps : (keys : List Text) → ((e : Text) → IsSome (get t e) → Contains keys e) → (k : ℕ) (c d : Text) (x : X) → NearestIn k c d x → k < length keys
  few_steps keys each k c d x nearest =
      as_many (suc k) keys (λ i e. NearestIn i e d x) (λ i low. let it = on_the_way k c d x nearest i low in (it.0, it.1, each it.0 it.2)) (λ i j e one other. one_number i j e d d x x one other)

  -- ---- the loop

  -- so many steps lead from a class to another, past classes that have no such member
  pub record Climbed (count : ℕ) (from to : Text) : Type 0 where
    pub passes : (k : ℕ) (d : Text) (x : X) → NearestIn k from d x → (j : ℕ) × (k ≡ count + j) × NearestIn j to d x
    pub hands_down : (d : Text) (x : X) → Nearest t member to d x → Nearest t member from d x

  pub climbed_none : (c : Text) → Climbed 0 c c
  climbed_none c = record { passes = λ k d x nearest. (k, omega arith, nearest); hands_down = λ d x nearest. nearest }

  pub climbed_more : (count : ℕ) (from to : Text) (entry : ClassEntry) → Climbed count from to → get t to ≡ Some entry → member entry ≡ None → Climbed (count + 1) from entry.parent.text
  climbed_more count from to entry climbed there lacks = record {
    passes = λ k d x nearest. let it = climbed.passes k d x nearest in next k it.0 d x it.1 it.2;
    hands_down = λ d x nearest. climbed.hands_down d x (inherited there lacks nearest);
  }
    where
      next : (k j : ℕ) (d : Text) (x : X) → k ≡ count + j → NearestIn j to d x → (i : ℕ) × (k ≡ count + 1 + i) × NearestIn i entry.parent.text d x
      next k j d x e (at_own {entry = other} here has) = let same : other ≡ entry = same_some other entry (get t to) here there in absurd (not_both x (member entry) lacks (ap member (sym same) ∙ has))
      next k j d x e (one_up {k = m} {entry = other} here lacks rest) =
          let same : other ≡ entry = same_some other entry (get t to) here there in
          (m, omega arith, subst (λ (z : ClassEntry). NearestIn m z.parent.text d x) same rest)

  no_class_here : (j : ℕ) (c d : Text) (x : X) → get t c ≡ None → NearestIn j c d x → ⊥
  no_class_here j c d x missing (at_own here has) = absurd cc
  no_class_here j c d x missing (one_up here lacks rest) = absurd cc

  -- where it ends
  pub found_here : (count : ℕ) (from to : Text) (entry : ClassEntry) (x : X) → Climbed count from to → get t to ≡ Some entry → member entry ≡ Some x → Nearest t member from to x
  found_here count from to entry x climbed there has = climbed.hands_down to x (own there has)

  pub none_past : (count : ℕ) (from to : Text) → Climbed count from to → get t to ≡ None → (d : Text) (x : X) → ¬ (Nearest t member from d x)
  none_past count from to climbed missing d x nearest =
      let it = counted from d x nearest in
      let there = climbed.passes it.0 d x it.1 in
      no_class_here there.0 to d x missing there.2

  pub none_at_all : (keys : List Text) → ((e : Text) → IsSome (get t e) → Contains keys e) → (count : ℕ) (from to : Text) → Climbed count from to → length keys ≤ count → (d : Text) (x : X) → ¬ (Nearest t member from d x)
  none_at_all keys each count from to climbed many d x nearest =
      let it = counted from d x nearest in
      let there = climbed.passes it.0 d x it.1 in
      absurd (omega (arith, few_steps keys each it.0 from d x it.1, there.1))

-- ---- superclasses

-- a class whose superclass has this name
abbrev pub directly_below : Text → ClassEntry → Option Text
directly_below e entry = cond (bytes_eq entry.parent.text e) (Some e) None

pub below_it : (e : Text) (entry : ClassEntry) → entry.parent.text ≡ e → directly_below e entry ≡ Some e
below_it e entry same = ap (λ b. cond b (Some e) None) ((bytes_eq-Decides entry.parent.text e).1 same)

pub not_below : (e : Text) (entry : ClassEntry) → (entry.parent.text ≡ e → ⊥) → directly_below e entry ≡ None
not_below e entry apart = by (bytes_eq entry.parent.text e) refl
  where
    by : (b : Bool) → bytes_eq entry.parent.text e ≡ b → cond b (Some e) None ≡ None
    by true is = absurd (apart ((bytes_eq-Decides entry.parent.text e).0 is))
    by false is = refl

directly : (e x : Text) (entry : ClassEntry) → directly_below e entry ≡ Some x → entry.parent.text ≡ e
directly e x entry is = by (bytes_eq entry.parent.text e) refl is
  where
    by : (b : Bool) → bytes_eq entry.parent.text e ≡ b → cond b (Some e) None ≡ Some x → entry.parent.text ≡ e
    by true e is = (bytes_eq-Decides entry.parent.text _).0 e
    by false e is = absurd cc

above_by_steps : (t : Table) (c d e : Text) → HasSuperclass t c d → Steps t d e → (o : Text) × Nearest t (directly_below e) c o e
above_by_steps t c d e has stay = (c, own has.there (below_it e has.entry has.parent))
above_by_steps t c d e has (up {d = f} next rest) = by (bytes_eq d e) refl (above_by_steps t d f e next rest)
  where
    by : (b : Bool) → bytes_eq d e ≡ b → (o : Text) × Nearest t (directly_below e) d o e → (o : Text) × Nearest t (directly_below e) c o e
    by true is higher = (c, own has.there (below_it e has.entry (has.parent ∙ (bytes_eq-Decides d e).0 is)))
    by false is higher = (
      higher.0,
      inherited has.there (not_below e has.entry (λ same. apart (sym has.parent ∙ same)))
          (subst (λ p. Nearest t (directly_below e) p higher.0 e) (sym has.parent) higher.1),
    )
      where
        apart : d ≡ e → ⊥
        apart same = let told = (bytes_eq-Decides d e).1 same in absurd cc

-- a class above is one whose name some class from here on up has for its superclass
pub above_nearest : (t : Table) (c e : Text) → Above t c e → (d : Text) × Nearest t (directly_below e) c d e
above_nearest t c e (d, has, steps) = above_by_steps t c d e has steps

pub nearest_above : (t : Table) (e c d x : Text) → Nearest t (directly_below e) c d x → Above t c e
nearest_above t e c d x (own {entry = entry} there has) = (e, record { entry = entry; there = there; parent = directly e x entry has }, stay)
nearest_above t e c d x (inherited {entry = entry} there lacks nearest) =
    let higher = nearest_above t e entry.parent.text d x nearest in
    (entry.parent.text, record { entry = entry; there = there; parent = refl }, up higher.1 higher.2)
