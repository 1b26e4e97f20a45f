-- A chain of superclasses ends, or it never does. For clients too: what is so without one class.
use Rattle.std.proofs.Common.{◌≡◌, ◌⊎◌, inl, inr, ℕ, zero, suc, ◌≤◌, ◌-◌, Bool, true, false, cond, Option, Some, None, is_some, IsSome, refl, sym, ap, ◌∙◌, subst, arith}
use Rattle.std.proofs.lemmas.Bool.{false≢true}
use Rattle.std.specs.Ordering.{eq_by_cmp}
use Rattle.std.specs.FinMap.{get, remove, len, empty_of_len, len-remove}
use Rattle.dj_names.specs.Texts.{Text}
use Rattle.dj_calculus.specs.Maps.{text_cmp}
use Rattle.dj_calculus.specs.Tables.{ClassEntry, Table}
use Rattle.dj_calculus.specs.Subclasses.{HasSuperclass, Steps, stay, up, Above}
use Rattle.dj_calculus.specs.TableRules.{IsEndless}
use Rattle.dj_calculus.proofs.MapLemmas.{text_total, text_antisymmetric, text_get-remove, text_get-empty, is_equal}
use Rattle.dj_calculus.proofs.Members.{either}

some_is : {X : Type 0} (o : Option X) (x : X) → o ≡ Some x → IsSome o
some_is o x e = ap is_some e

pub none_or_value : {X : Type 0} (o : Option X) → (o ≡ None) ⊎ ((x : X) × (o ≡ Some x))
none_or_value None = inl refl
none_or_value (Some x) = inr (x, refl)

pub one_superclass : (t : Table) (c d e : Text) → HasSuperclass t c d → HasSuperclass t c e → d ≡ e
one_superclass t c d e p q = sym p.parent ∙ ap (λ x. x.parent.text) (same_entry p.entry q.entry (sym p.there ∙ q.there)) ∙ q.parent
  where
    same_entry : (x y : ClassEntry) → ◌≡◌ {A = Option ClassEntry} (Some x) (Some y) → x ≡ y
    same_entry x y e = cc

-- ---- circles

pub above_circle : (t : Table) (c x : Text) → Above t c c → Steps t x c → Above t x c
above_circle t c x circle stay = circle
above_circle t c x circle (up has steps) = (_, has, steps)

-- what a class in a circle reaches, reaches it
pub comes_back : (t : Table) (c x d : Text) → Above t c c → Above t x c → Steps t x d → Above t d c
comes_back t c x d circle above stay = above
comes_back t c x d circle above (up {d = y} has steps) =
    let next : Steps t y c = subst (λ z. Steps t z c) (one_superclass t x _ _ above.1 has) above.2 in
    comes_back t c y d circle (above_circle t c y circle next) steps

pub circle_endless : (t : Table) (c : Text) → Above t c c → IsEndless t c
circle_endless t c circle d steps = let back = comes_back t c c d circle circle steps in some_is _ back.1.entry back.1.there

-- ---- without one class

module _ (t : Table) (c : Text) where
  abbrev rest : Table
  rest = remove t c

  found_in_rest : (b : Bool) (o : Option ClassEntry) (e : ClassEntry) → cond b None o ≡ Some e → o ≡ Some e
  found_in_rest true o e p = absurd cc
  found_in_rest false o e p = p

  pub lift : (x y : Text) → HasSuperclass rest x y → HasSuperclass t x y
  lift x y has = record { entry = has.entry; there = found_in_rest _ (get t x) has.entry (sym (text_get-remove ClassEntry t c x) ∙ has.there); parent = has.parent }

  pub lift_steps : (x d : Text) → Steps rest x d → Steps t x d
  lift_steps x d stay = stay
  lift_steps x d (up {d = y} has steps) = up (lift x y has) (lift_steps y d steps)

  still_there : (b : Bool) (o : Option ClassEntry) (e : ClassEntry) → o ≡ Some e → IsSome (cond b None o) → cond b None o ≡ Some e
  still_there true o e p is = absurd (false≢true is)
  still_there false o e p is = p

  lower : (x y : Text) → HasSuperclass t x y → IsSome (get rest x) → HasSuperclass rest x y
  lower x y has is =
      record {
        entry = has.entry;
        there = text_get-remove ClassEntry t c x ∙ still_there _ (get t x) has.entry has.there (subst IsSome (text_get-remove ClassEntry t c x) is);
        parent = has.parent;
      }

  one_more : (p x y : Text) → Steps rest p x → HasSuperclass rest x y → Steps rest p y
  one_more p x y stay has = up has stay
  one_more p x y (up {d = z} first steps) has = up first (one_more z x y steps has)

  -- from an endless chain of the rest no step leads to c
  stays_inside : (p x d : Text) → IsEndless rest p → Steps rest p x → Steps t x d → Steps rest p d
  stays_inside p x d endless before stay = before
  stays_inside p x d endless before (up {d = y} has steps) = stays_inside p y d endless (one_more p x y before (lower x y has (endless x before))) steps

  pub missing_in_rest : (b : Bool) (d : Text) → eq_by_cmp text_cmp d c ≡ b → get rest d ≡ None → (d ≡ c) ⊎ (get t d ≡ None)
  missing_in_rest true d e none = inl (text_antisymmetric d c (is_equal (text_cmp d c) e))
  missing_in_rest false d e none = inr (sym (ap (λ b. cond b None (get t d)) e) ∙ sym (text_get-remove ClassEntry t c d) ∙ none)

-- ---- the two ways

abbrev pub Ends : Table → Text → Type 0
Ends t c = (d : Text) × Steps t c d × (get t d ≡ None)

pub one_fewer : (t : Table) (c : Text) (e : ClassEntry) (n : ℕ) → get t c ≡ Some e → len t ≤ suc n → len (remove t c) ≤ n
one_fewer t c e n there low =
    let less : len (remove t c) ≡ len t - 1 = len-remove text_total t c ∙ ap (λ b. cond b (len t - 1) (len t)) (some_is _ e there) in
    omega arith

pub no_class : (t : Table) (c : Text) → len t ≤ 0 → get t c ≡ None
no_class t c low = ap (λ u. get u c) (empty_of_len t (omega arith)) ∙ text_get-empty ClassEntry c

some_in_all : (b : Bool) (o : Option ClassEntry) → IsSome (cond b None o) → IsSome o
some_in_all true o is = absurd (false≢true is)
some_in_all false o is = is

module _ (t : Table) (c : Text) (e : ClassEntry) (there : get t c ≡ Some e) where
  reached : IsEndless (remove t c) e.parent.text → IsEndless t c
  reached endless d stay = some_is _ e there
  reached endless d (up {d = y} has steps) =
      let same : y ≡ e.parent.text = one_superclass t c y e.parent.text has (record { entry = e; there = there; parent = refl }) in
      let inside = stays_inside t c e.parent.text e.parent.text d endless stay (subst (λ z. Steps t z d) same steps) in
      some_in_all _ (get t d) (subst IsSome (text_get-remove ClassEntry t c d) (endless d inside))

  from_superclass : Ends (remove t c) e.parent.text ⊎ IsEndless (remove t c) e.parent.text → Ends t c ⊎ IsEndless t c
  from_superclass (inl ends) =
      let has : HasSuperclass t c e.parent.text = record { entry = e; there = there; parent = refl } in
      let steps = lift_steps t c e.parent.text ends.0 ends.1 in
      either (missing_in_rest t c _ ends.0 refl ends.2) (λ same. inr (circle_endless t c (e.parent.text, has, subst (λ d. Steps t e.parent.text d) same steps)))
      (λ none. inl (ends.0, up has steps, none))
  from_superclass (inr endless) = inr (reached endless)

ends_or_not : (n : ℕ) (t : Table) (c : Text) → len t ≤ n → Ends t c ⊎ IsEndless t c
ends_or_not zero t c low = inl (c, stay, no_class t c low)
ends_or_not (suc n) t c low =
    either (none_or_value (get t c)) (λ none. inl (c, stay, none))
    (λ there. from_superclass t c there.0 there.1 (ends_or_not n (remove t c) there.0.parent.text (one_fewer t c there.0 n there.1 low)))

pub ends_or_endless : (t : Table) (c : Text) → Ends t c ⊎ IsEndless t c
ends_or_endless t c = ends_or_not (len t) t c (omega arith)

-- ---- an endless chain comes to a circle

comes_to : (n : ℕ) (t : Table) (c : Text) → len t ≤ n → IsEndless t c → (d : Text) × Above t d d
comes_to zero t c low endless = absurd (false≢true (subst IsSome (no_class t c low) (endless c stay)))
comes_to (suc n) t c low endless =
    either (none_or_value (get t c)) (λ none. absurd (false≢true (subst IsSome none (endless c stay))))
    (λ there. either (ends_or_endless (remove t c) there.0.parent.text) (λ ends. ended there.0 there.1 ends)
    (λ more. let found = comes_to n (remove t c) there.0.parent.text (one_fewer t c there.0 n there.1 low) more in
    (found.0, (found.1.0, lift t c found.0 found.1.0 found.1.1, lift_steps t c found.1.0 found.0 found.1.2))))
  where
    ended : (e : ClassEntry) → get t c ≡ Some e → Ends (remove t c) e.parent.text → (d : Text) × Above t d d
    ended e there ends =
        let has : HasSuperclass t c e.parent.text = record { entry = e; there = there; parent = refl } in
        let steps = lift_steps t c e.parent.text ends.0 ends.1 in
        either (missing_in_rest t c _ ends.0 refl ends.2) (λ same. (c, (e.parent.text, has, subst (λ d. Steps t e.parent.text d) same steps)))
        (λ none. absurd (false≢true (subst IsSome none (endless ends.0 (up has steps)))))

pub comes_to_circle : (t : Table) (c : Text) → IsEndless t c → (d : Text) × Above t d d
comes_to_circle t c endless = comes_to (len t) t c (omega arith) endless
