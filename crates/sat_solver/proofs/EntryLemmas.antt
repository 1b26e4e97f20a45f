-- The values of variables in entries.
use Rattle.std.proofs.Common.{◌≡◌, ◌≢◌, ℕ, suc, ◌≤◌, ◌<◌, ◌+◌, ◌-◌, Bool, true, false, cond, eqb, List, [], ◌∷◌, ◌++◌, Option, Some, None, option_map, length, get_or, set, slice_get, All, refl, sym, subst, ap, ◌∙◌, arith, ◌⊎◌, inl, inr}
use Rattle.std.proofs.lemmas.Bool.{eqb-true, eqb-false, eq-eqb, ne_eqb, cases_eq}
use Rattle.std.proofs.lemmas.List.{ext_get_or, get_or-set_same, get_or-set_other, length-set}
use Rattle.std.proofs.lemmas.List.FromFn.{get_or-map-range_with_len, length-map-range_with_len}
use Rattle.std.proofs.lemmas.List.Elements.{All-nil, All-cons}
use Rattle.std.proofs.lemmas.Option.{none-some, same_Some}
use Rattle.sat_solver.specs.declared.entry.Entry.{Entry}
use Rattle.sat_solver.specs.Entries.{entry_of, value_in, values_of}

pub entry_kept : (xs ys : List Entry) (var : ℕ) (entry : Entry) → entry_of xs var ≡ Some entry → entry_of (xs ++ ys) var ≡ Some entry
entry_kept [] ys var entry e = absurd (none-some entry e)
entry_kept (x ∷ xs) ys var entry e = by (eqb x.lit.var var) e (entry_kept xs ys var entry)
  where
    by : (b : Bool) → cond b (Some x) (entry_of xs var) ≡ Some entry → (entry_of xs var ≡ Some entry → entry_of (xs ++ ys) var ≡ Some entry) → cond b (Some x) (entry_of (xs ++ ys) var) ≡ Some entry
    by true h rest = h
    by false h rest = rest h

pub entry_past : (xs ys : List Entry) (var : ℕ) → entry_of xs var ≡ None → entry_of (xs ++ ys) var ≡ entry_of ys var
entry_past [] ys var e = refl
entry_past (x ∷ xs) ys var e = by (eqb x.lit.var var) e (entry_past xs ys var)
  where
    by : (b : Bool) → cond b (Some x) (entry_of xs var) ≡ None → (entry_of xs var ≡ None → entry_of (xs ++ ys) var ≡ entry_of ys var) → cond b (Some x) (entry_of (xs ++ ys) var) ≡ entry_of ys var
    by true h rest = absurd (none-some x (sym h))
    by false h rest = rest h

-- a variable has a value where it has an entry
pub free_entry : (xs : List Entry) (var : ℕ) → value_in xs var ≡ None → entry_of xs var ≡ None
free_entry xs var e = by (entry_of xs var) e
  where
    by : (o : Option Entry) → option_map (λ entry. entry.lit.positive) o ≡ None → o ≡ None
    by None h = refl
    by (Some x) h = absurd (none-some x.lit.positive (sym h))

pub valued_entry : (xs : List Entry) (var : ℕ) (b : Bool) → value_in xs var ≡ Some b → (entry : Entry) × (entry_of xs var ≡ Some entry) × (entry.lit.positive ≡ b)
valued_entry xs var b e = by (entry_of xs var) refl e
  where
    by : (o : Option Entry) → entry_of xs var ≡ o → option_map (λ entry. entry.lit.positive) o ≡ Some b → (entry : Entry) × (entry_of xs var ≡ Some entry) × (entry.lit.positive ≡ b)
    by None f h = absurd (none-some b h)
    by (Some x) f h = (x, f, cc)

pub value_kept : (xs ys : List Entry) (var : ℕ) (b : Bool) → value_in xs var ≡ Some b → value_in (xs ++ ys) var ≡ Some b
value_kept xs ys var b e =
    let found = valued_entry xs var b e in
    ap (option_map (λ (entry : Entry). entry.lit.positive)) (entry_kept xs ys var found.0 found.1) ∙ ap (λ c. Some c) found.2

pub alone : (y : Entry) → entry_of (y ∷ []) y.lit.var ≡ Some y
alone y = ap (λ b. cond b (Some y) None) (eq-eqb y.lit.var y.lit.var refl)

other_alone : (y : Entry) (var : ℕ) → y.lit.var ≢ var → entry_of (y ∷ []) var ≡ None
other_alone y var ne = ap (λ b. cond b (Some y) None) (ne_eqb y.lit.var var ne)

pub value_pushed : (xs : List Entry) (y : Entry) → value_in xs y.lit.var ≡ None → value_in (xs ++ y ∷ []) y.lit.var ≡ Some y.lit.positive
value_pushed xs y e =
    ap (option_map (λ (entry : Entry). entry.lit.positive)) (entry_past xs (y ∷ []) y.lit.var (free_entry xs y.lit.var e) ∙ alone y)

pub value_other : (xs : List Entry) (y : Entry) (var : ℕ) → y.lit.var ≢ var → value_in (xs ++ y ∷ []) var ≡ value_in xs var
value_other xs y var ne = by (entry_of xs var) refl
  where
    by : (o : Option Entry) → entry_of xs var ≡ o → value_in (xs ++ y ∷ []) var ≡ value_in xs var
    by None f = ap (option_map (λ (entry : Entry). entry.lit.positive)) (entry_past xs (y ∷ []) var f ∙ other_alone y var ne ∙ sym f)
    by (Some x) f = ap (option_map (λ (entry : Entry). entry.lit.positive)) (entry_kept xs (y ∷ []) var x f ∙ sym f)

-- a free variable is the variable of no entry
pub free_apart : (xs : List Entry) (var : ℕ) → value_in xs var ≡ None → All (λ entry. entry.lit.var ≢ var) xs
free_apart xs var e = go xs (free_entry xs var e)
  where
    go : (ys : List Entry) → entry_of ys var ≡ None → All (λ entry. entry.lit.var ≢ var) ys
    go [] h = All-nil (λ entry. entry.lit.var ≢ var)
    go (y ∷ ys) h = by (eqb y.lit.var var) refl h (go ys)
      where
        by : (b : Bool) → eqb y.lit.var var ≡ b → cond b (Some y) (entry_of ys var) ≡ None → (entry_of ys var ≡ None → All (λ entry. entry.lit.var ≢ var) ys) → All (λ entry. entry.lit.var ≢ var) (y ∷ ys)
        by true t f rest = absurd (none-some y (sym f))
        by false t f rest = All-cons (λ entry. entry.lit.var ≢ var) y ys (eqb-false y.lit.var var t) (rest f)

-- where the entry of a variable stands
pub entry_place : (xs : List Entry) (var : ℕ) (entry : Entry) → entry_of xs var ≡ Some entry → (k : ℕ) × (slice_get xs k ≡ Some entry) × (entry.lit.var ≡ var)
entry_place [] var entry e = absurd (none-some entry e)
entry_place (x ∷ xs) var entry e = by (eqb x.lit.var var) refl e (entry_place xs var entry)
  where
    by : (b : Bool) → eqb x.lit.var var ≡ b → cond b (Some x) (entry_of xs var) ≡ Some entry → (entry_of xs var ≡ Some entry → (k : ℕ) × (slice_get xs k ≡ Some entry) × (entry.lit.var ≡ var)) → (k : ℕ) × (slice_get (x ∷ xs) k ≡ Some entry) × (entry.lit.var ≡ var)
    by true t h rest = (0, h, subst (λ (y : Entry). y.lit.var ≡ var) (same_Some x entry h) (eqb-true x.lit.var var t))
    by false t h rest = let r = rest h in (suc r.0, r.1, r.2)

-- values by variable
pub length-values_of : (vars : ℕ) (xs : List Entry) → length (values_of vars xs) ≡ vars
length-values_of vars xs = length-map-range_with_len (value_in xs) 1 vars

pub values_at : (vars : ℕ) (xs : List Entry) (var : ℕ) → 1 ≤ var → var ≤ vars → get_or (values_of vars xs) (var - 1) None ≡ value_in xs var
values_at vars xs var low high = get_or-map-range_with_len (value_in xs) 1 vars (var - 1) var None (omega arith) (omega arith)

module _ (vars : ℕ) (xs : List Entry) (y : Entry) (low : 1 ≤ y.lit.var) (high : y.lit.var ≤ vars) (free : value_in xs y.lit.var ≡ None) where
  same_elsewhere : (k : ℕ) → k < vars → k ≢ y.lit.var - 1 → get_or (values_of vars (xs ++ y ∷ [])) k None ≡ get_or (values_of vars xs) k None
  same_elsewhere k h ne =
      let apart : y.lit.var ≢ k + 1 = λ e. ne (omega (arith, e)) in
      get_or-map-range_with_len (value_in (xs ++ y ∷ [])) 1 vars k (k + 1) None h (omega arith)
      ∙ value_other xs y (k + 1) apart
      ∙ sym (get_or-map-range_with_len (value_in xs) 1 vars k (k + 1) None h (omega arith))

  same_with : (from to : List Entry) (o : Option Bool) → value_in to y.lit.var ≡ o → ((k : ℕ) → k < vars → k ≢ y.lit.var - 1 → get_or (values_of vars to) k None ≡ get_or (values_of vars from) k None) → values_of vars to ≡ set (values_of vars from) (y.lit.var - 1) o
  same_with from to o here elsewhere =
      ext_get_or None (values_of vars to) (set (values_of vars from) (y.lit.var - 1) o) (length-values_of vars to ∙ sym (length-values_of vars from) ∙ sym (length-set (values_of vars from) (y.lit.var - 1) o)) (λ k h. by k (subst (λ n. k < n) (length-values_of vars to) h) (cases_eq k (y.lit.var - 1)))
    where
      by : (k : ℕ) → k < vars → (k ≡ y.lit.var - 1) ⊎ (k ≢ y.lit.var - 1) → get_or (values_of vars to) k None ≡ get_or (set (values_of vars from) (y.lit.var - 1) o) k None
      by k h (inl e) =
          let within : y.lit.var - 1 < length (values_of vars from) = subst (λ n. y.lit.var - 1 < n) (sym (length-values_of vars from)) (omega arith) in
          ap (λ i. get_or (values_of vars to) i None) e ∙ values_at vars to y.lit.var low high ∙ here ∙ sym (ap (λ i. get_or (set (values_of vars from) (y.lit.var - 1) o) i None) e ∙ get_or-set_same (values_of vars from) (y.lit.var - 1) o None within)
      by k h (inr ne) = elsewhere k h ne ∙ sym (get_or-set_other (values_of vars from) (y.lit.var - 1) k o None ne)

  pub values-push : values_of vars (xs ++ y ∷ []) ≡ set (values_of vars xs) (y.lit.var - 1) (Some y.lit.positive)
  values-push = same_with xs (xs ++ y ∷ []) (Some y.lit.positive) (value_pushed xs y free) same_elsewhere

  pub values-pop : values_of vars xs ≡ set (values_of vars (xs ++ y ∷ [])) (y.lit.var - 1) None
  values-pop = same_with (xs ++ y ∷ []) xs None free (λ k h ne. sym (same_elsewhere k h ne))
