-- The names of the methods that override one with another signature.
use Rattle.std.proofs.Common.{◌≡◌, ◌==◌, ◌⊎◌, inl, inr, ◌<◌, ◌+◌, ◌^◌, ℕ, Bool, true, false, not, List, [], ◌∷◌, ◌++◌, length, slice_get, Option, Some, is_some, Contains, refl, sym, ap, ◌∙◌, subst, arith}
use Rattle.std.specs.Prelude.{◌↔◌, Decides, IsSome}
use Rattle.std.specs.Bool.{if◌then◌else◌}
use Rattle.std.proofs.lemmas.Bool.{eqb-true, eqb-false, false≢true}
use Rattle.std.proofs.lemmas.List.Elements.{Contains-push, Contains-push_cases, Contains-append_left}
use Rattle.std.specs.FinMap.{get}
use Rattle.dj_names.specs.Texts.{Text}
use Rattle.dj_calculus.specs.Tables as calculus
use Rattle.dj_calculus.specs.Entries.{same_signature}
use Rattle.dj_calculus.specs.Subclasses.{NearestMethod}
use Rattle.dj_calculus.proofs.Members.{same_some}
use Rattle.dj_calculus.proofs.TypeLemmas.{one_nearest}
use Rattle.dj_calculus.proofs.Counting.{earlier_or_last}
use Rattle.ifj_table.specs.Entries.{text_at, plain_signature}
use Rattle.ifj_table.specs.Tables.{plain_table, table_names}
use Rattle.ifj_table.specs.declared.entry.ClassEntry.{ClassEntry}
use Rattle.ifj_table.specs.declared.entry.MethodEntry.{MethodEntry}
use Rattle.ifj_table.specs.declared.table.Table.{Table}
use Rattle.ifj_lineages.specs.Overrides.{Turns, TurnsAmong}

-- ---- the nearest method

module _ (t : calculus.Table) (m : Text) where
  pub turned : (c d : Text) (s : calculus.Signature) (x : calculus.MethodEntry) → NearestMethod t c m d x → (b : Bool) → b ≡ same_signature s x.signature → Decides (not b) (Turns t c m s)
  turned c d s x nearest true is = (
    λ e. absurd (false≢true e),
    λ turns. absurd (false≢true (sym turns.differs ∙ ap (λ (z : calculus.MethodEntry). same_signature s z.signature) (one_nearest t (λ entry. get entry.methods m) c turns.owner d turns.method x turns.nearest nearest) ∙ sym is)),
  )
  turned c d s x nearest false is = (λ e. record { owner = d; method = x; nearest = nearest; differs = sym is }, λ turns. refl)

  pub never_turned : (c : Text) (s : calculus.Signature) → ((d : Text) (x : calculus.MethodEntry) → ¬ (NearestMethod t c m d x)) → Decides false (Turns t c m s)
  never_turned c s none = (λ e. absurd (false≢true e), λ turns. absurd (none turns.owner turns.method turns.nearest))

-- ---- one method more

module _ (t : Table) (class : ClassEntry) where
  abbrev pub AreNames : List ℕ → ℕ → Type 0
  AreNames names count = (key : ℕ) → Contains names key ↔ TurnsAmong t class count key

  wider : (count key : ℕ) → TurnsAmong t class count key → TurnsAmong t class (count + 1) key
  wider count key turns =
      record {
        place = turns.place;
        before = omega (arith, turns.before);
        method = turns.method;
        stands = turns.stands;
        named = turns.named;
        turns = turns.turns;
      }

  pub no_names : AreNames [] 0
  no_names key = (λ there. absurd (omega (arith, there.1)), λ turns. absurd (omega (arith, turns.before)))

  module _ (names : List ℕ) (count : ℕ) (method : MethodEntry) (stands : slice_get class.methods.items count ≡ Some method) where
    abbrev TurnsHere : Type 0
    TurnsHere = Turns (plain_table t) (text_at (table_names t) class.parent) (text_at (table_names t) method.spot) (plain_signature (table_names t) method)

    earlier : (key : ℕ) → (turns : TurnsAmong t class (count + 1) key) → TurnsAmong t class count key ⊎ (TurnsHere × (method.spot.name.0 ≡ key))
    earlier key turns = by (earlier_or_last turns.place count turns.before)
      where
        by : (turns.place < count) ⊎ (turns.place ≡ count) → TurnsAmong t class count key ⊎ (TurnsHere × (method.spot.name.0 ≡ key))
        by (inl before) = inl (record { place = turns.place; before = before; method = turns.method; stands = turns.stands; named = turns.named; turns = turns.turns })
        by (inr last) =
            let same = same_some turns.method method (slice_get class.methods.items count) (ap (slice_get class.methods.items) (sym last) ∙ turns.stands) stands in
            inr (
              subst (λ (z : MethodEntry). Turns (plain_table t) (text_at (table_names t) class.parent) (text_at (table_names t) z.spot) (plain_signature (table_names t) z)) same turns.turns,
              ap (λ (z : MethodEntry). z.spot.name.0) (sym same) ∙ turns.named,
            )

    pub name_pushed : AreNames names count → TurnsHere → AreNames (names ++ method.spot.name.0 ∷ []) (count + 1)
    name_pushed are here key = (λ there. to (Contains-push_cases names method.spot.name.0 key there), λ turns. from (earlier key turns))
      where
        to : Contains names key ⊎ (method.spot.name.0 ≡ key) → TurnsAmong t class (count + 1) key
        to (inl there) = wider count key ((are key).0 there)
        to (inr is) = record { place = count; before = omega arith; method = method; stands = stands; named = is; turns = here }

        from : TurnsAmong t class count key ⊎ (TurnsHere × (method.spot.name.0 ≡ key)) → Contains (names ++ method.spot.name.0 ∷ []) key
        from (inl turns) = Contains-append_left names (method.spot.name.0 ∷ []) key ((are key).1 turns)
        from (inr (turns, is)) = subst (Contains (names ++ method.spot.name.0 ∷ [])) is (Contains-push names method.spot.name.0)

    pub name_passed : AreNames names count → ¬ TurnsHere → AreNames names (count + 1)
    name_passed are none key = (λ there. wider count key ((are key).0 there), λ turns. from (earlier key turns))
      where
        from : TurnsAmong t class count key ⊎ (TurnsHere × (method.spot.name.0 ≡ key)) → Contains names key
        from (inl turns) = (are key).1 turns
        from (inr (turns, is)) = absurd (none turns)

  -- the names put into a version
  pub over_turning : (names : List ℕ) (before after : ℕ → Option (Unit {0})) → AreNames names (length class.methods.items)
      → ((key : ℕ) → key < 2 ^ 32 → Decides (is_some (after key)) (IsSome (before key) ⊎ Contains names key))
      → (key : ℕ) → key < 2 ^ 32 → Decides (is_some (after key)) (IsSome (before key) ⊎ TurnsAmong t class (length class.methods.items) key)
  over_turning names before after are over key small = (λ some. to ((over key small).0 some), λ said. (over key small).1 (from said))
    where
      to : IsSome (before key) ⊎ Contains names key → IsSome (before key) ⊎ TurnsAmong t class (length class.methods.items) key
      to (inl some) = inl some
      to (inr there) = inr ((are key).0 there)

      from : IsSome (before key) ⊎ TurnsAmong t class (length class.methods.items) key → IsSome (before key) ⊎ Contains names key
      from (inl some) = inl some
      from (inr turns) = inr ((are key).1 turns)

-- ---- names put into a version one by one

-- the first `count` names beside those that were there
abbrev pub AreBeside : List ℕ → (ℕ → Option (Unit {0})) → (ℕ → Option (Unit {0})) → Type 0
AreBeside names before after = (key : ℕ) → key < 2 ^ 32 → Decides (is_some (after key)) (IsSome (before key) ⊎ Contains names key)

pub none_beside : (before : ℕ → Option (Unit {0})) → AreBeside [] before before
none_beside before key small = (λ some. inl some, λ said. by said)
  where
    by : IsSome (before key) ⊎ Contains [] key → is_some (before key) ≡ true
    by (inl some) = some
    by (inr there) = absurd (omega (arith, there.1))

pub one_beside : (names : List ℕ) (name : ℕ) (before middle after : ℕ → Option (Unit {0})) → AreBeside names before middle
    → ((key : ℕ) → key < 2 ^ 32 → after key ≡ (if key == name then Some tt else middle key)) → AreBeside (names ++ name ∷ []) before after
one_beside names name before middle after are changed key small = by (key == name) refl
  where
    by : (b : Bool) → ◌≡◌ {A = Bool} (key == name) b → Decides (is_some (after key)) (IsSome (before key) ⊎ Contains (names ++ name ∷ []) key)
    by true is =
        let told : after key ≡ Some tt = changed key small ∙ ap (λ b. if b then Some tt else middle key) is in
        (λ some. inr (subst (Contains (names ++ name ∷ [])) (sym (eqb-true key name is)) (Contains-push names name)), λ said. ap is_some told)
    by false is =
        let told : after key ≡ middle key = changed key small ∙ ap (λ b. if b then Some tt else middle key) is in
        (λ some. to ((are key small).0 (sym (ap is_some told) ∙ some)), λ said. ap is_some told ∙ (are key small).1 (from said))
      where
        to : IsSome (before key) ⊎ Contains names key → IsSome (before key) ⊎ Contains (names ++ name ∷ []) key
        to (inl some) = inl some
        to (inr there) = inr (Contains-append_left names (name ∷ []) key there)

        at : Contains names key ⊎ (name ≡ key) → IsSome (before key) ⊎ Contains names key
        at (inl there) = inr there
        at (inr same) = absurd (eqb-false key name is (sym same))

        from : IsSome (before key) ⊎ Contains (names ++ name ∷ []) key → IsSome (before key) ⊎ Contains names key
        from (inl some) = inl some
        from (inr there) = at (Contains-push_cases names name key there)
