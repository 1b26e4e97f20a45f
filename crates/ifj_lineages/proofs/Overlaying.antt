-- Members put over others, one by one.
use Rattle.std.proofs.Common.{◌≡◌, ◌==◌, ◌⊎◌, inl, inr, ◌<◌, ◌+◌, ◌^◌, ℕ, Bool, true, false, List, map, slice_get, Option, Some, refl, sym, ap, ◌∙◌, arith}
use Rattle.std.specs.Bool.{if◌then◌else◌}
use Rattle.std.specs.Option.{option_map}
use Rattle.std.proofs.lemmas.Option.{slice_get-map}
use Rattle.std.proofs.lemmas.Bool.{eqb-true, eqb-false}
use Rattle.dj_names.specs.declared.names.Name.{Name}
use Rattle.ifj_table.specs.declared.lookups.Found.{Found}
use Rattle.ifj_lineages.specs.Overlays.{IsOver, Overlays}

pub over_none : (keys : List ℕ) (owner : Name) (before : ℕ → Option Found) → Overlays keys 0 owner before before
over_none keys owner before key low = inr (λ place less. absurd (omega (arith, less)), refl)

last_or_less : (place count : ℕ) → place < count + 1 → (place < count) ⊎ (place ≡ count)
last_or_less place count low = grind arith

pub over_next : (keys : List ℕ) (count new : ℕ) (owner : Name) (before middle after : ℕ → Option Found) → Overlays keys count owner before middle → slice_get keys count ≡ Some new
    → ((key : ℕ) → key < 2 ^ 32 → after key ≡ (if key == new then Some (record { owner = owner; place = count }) else middle key)) → Overlays keys (count + 1) owner before after
over_next keys count new owner before middle after over here changed key low = by (key == new) refl
  where
    other : ◌≡◌ {A = Bool} (key == new) false → (place : ℕ) → place < count + 1 → ((j : ℕ) → j < count → ¬ (slice_get keys j ≡ Some key)) → ¬ (slice_get keys place ≡ Some key)
    other apart place less none there = at (last_or_less place count less)
      where
        at : (place < count) ⊎ (place ≡ count) → ⊥
        at (inl lower) = none place lower there
        at (inr last) =
            let same : ◌≡◌ {A = Option ℕ} (Some new) (Some key) = sym here ∙ ap (slice_get keys) (sym last) ∙ there in
            let one : new ≡ key = cc in
            eqb-false key new apart (sym one)

    by : (b : Bool) → ◌≡◌ {A = Bool} (key == new) b → IsOver keys (count + 1) owner key (before key) (after key)
    by true is =
        let one : key ≡ new = eqb-true key new is in
        inl (count, omega arith, here ∙ ap Some (sym one), changed key low ∙ ap (λ b. if b then Some (record { owner = owner; place = count }) else middle key) is)
    by false is = earlier (over key low)
      where
        after_is : after key ≡ middle key
        after_is = changed key low ∙ ap (λ b. if b then Some (record { owner = owner; place = count }) else middle key) is

        earlier : IsOver keys count owner key (before key) (middle key) → IsOver keys (count + 1) owner key (before key) (after key)
        earlier (inl (place, less, there, told)) = inl (place, omega (arith, less), there, after_is ∙ told)
        earlier (inr (none, told)) = inr (λ place less. other is place less none, after_is ∙ told)

-- the number of an element's name
pub number_at : {E : Type 0} (number : E → ℕ) (es : List E) (n : ℕ) (e : E) → slice_get es n ≡ Some e → slice_get (map number es) n ≡ Some (number e)
number_at number es n e here = slice_get-map number es n ∙ ap (option_map number) here
