-- The least places of things: one thing more, and the least place that conflicts with a thing.
use Rattle.std.proofs.Common.{◌≡◌, ◌⊎◌, inl, inr, ℕ, ◌<◌, ◌≤◌, ◌==◌, Bool, true, false, ◌&&◌, List, [], ◌∷◌, ◌++◌, length, Option, None, Some, nat_eq, refl, sym, ap, ◌∙◌, subst, arith}
use Rattle.std.proofs.lemmas.Bool.Decides.{Decides-eqb}
use Rattle.std.proofs.lemmas.List.Elements.{Contains-push, Contains-push_cases, Contains-append_left}
use Rattle.dj_names.specs.Texts.{Text, AreDistinct}
use Rattle.dj_calculus.specs.Things.{Piece, field_named, method_named, Touch, whole, mention, only, Thing}
use Rattle.dj_calculus.proofs.Members.{either}
use Rattle.dj_calculus_laws.proofs.ForProducts.{conflict_turned}
use Rattle.dj_faults.proofs.NameLemmas.{one_number}
use Rattle.dj_product_laws.proofs.OverlapProofs.{things_that_conflict}
use Rattle.dj_apply.specs.Kept.{NoGreater, same_member, PlaceOf, IsPlaceAgainst, TellsLeast, Touches, IsNumber, IsMemberKnown}
use Rattle.dj_apply.specs.Least.{IsLeastBy, IsEarlierOf, Among}
use Rattle.dj_apply.specs.Overlaps.{IsNoLater, Clash}
use Rattle.dj_apply.specs.Touched.{text_of, plain_touch, plain_thing}
use Rattle.dj_apply.specs.declared.things.Touched.{Touched}
use Rattle.dj_apply.specs.declared.least_places.MemberOfClass.{MemberOfClass}
use Rattle.dj_apply.specs.declared.overlaps.Thing.{Thing as Pair}
use Rattle.dj_apply.proofs.LeastLemmas.{least_same, least_either}

pub no_greater_joins : (a b c : ℕ) → NoGreater a b → NoGreater b c → NoGreater a c
no_greater_joins a b c p q = omega (arith, p, q)

-- ---- one thing more

module _ (P : Thing → Type 0) (things : List Thing) (t : Thing) where
  in_front : (at : ℕ) → PlaceOf P things at → PlaceOf P (things ++ t ∷ []) at
  in_front at found = (found.0, Contains-append_left things (t ∷ []) found.0 found.1, found.2)

  pub place_without : ¬ (P t) → (o : Option ℕ) → IsLeastBy NoGreater (PlaceOf P things) o → IsLeastBy NoGreater (PlaceOf P (things ++ t ∷ [])) o
  place_without not_it o is = least_same NoGreater o in_front back is
    where
      back : (at : ℕ) → PlaceOf P (things ++ t ∷ []) at → PlaceOf P things at
      back at found = either (Contains-push_cases things t found.0 found.1) (λ earlier. (found.0, earlier, found.2)) (λ same. absurd (not_it (subst P (sym same) found.2.0)))

  pub place_with : P t → (old new : Option ℕ) → IsLeastBy NoGreater (PlaceOf P things) old → IsEarlierOf NoGreater old (Some t.at) new → IsLeastBy NoGreater (PlaceOf P (things ++ t ∷ [])) new
  place_with it old new is lesser =
      least_same NoGreater new to from
      (least_either NoGreater no_greater_joins (PlaceOf P things) (λ at. at ≡ t.at) old (Some t.at) new is (refl, λ y e. omega (arith, e)) lesser)
    where
      to : (at : ℕ) → PlaceOf P things at ⊎ (at ≡ t.at) → PlaceOf P (things ++ t ∷ []) at
      to at (inl found) = in_front at found
      to at (inr e) = (t, Contains-push things t, (it, e))

      from : (at : ℕ) → PlaceOf P (things ++ t ∷ []) at → PlaceOf P things at ⊎ (at ≡ t.at)
      from at found = either (Contains-push_cases things t found.0 found.1) (λ earlier. inl (found.0, earlier, found.2)) (λ same. inr (found.2.1 ∙ ap (λ (x : Thing). x.at) (sym same)))

module _ {K : Type 0} (Known : K → Type 0) (Is : K → Thing → Type 0) (things : List Thing) (t : Thing) where
  -- it is for no key
  pub tells_without : ((key : K) → Known key → ¬ (Is key t)) → (place : K → Option ℕ) → TellsLeast Known Is things place → TellsLeast Known Is (things ++ t ∷ []) place
  tells_without for_none place tells = λ key known. place_without (Is key) things t (for_none key known) (place key) (tells key known)

  -- it is for one key
  pub tells_with : (eq : K → K → Bool) (one : (a b : K) → eq a b ≡ true → a ≡ b) (own : K) → Is own t → ((key : K) → Known key → Is key t → eq own key ≡ true) → (old new : K → Option ℕ)
      → IsEarlierOf NoGreater (old own) (Some t.at) (new own) × ((other : K) → eq own other ≡ false → new other ≡ old other) → TellsLeast Known Is things old → TellsLeast Known Is (things ++ t ∷ []) new
  tells_with eq one own itself alone old new lowered tells = λ key known. by key known (eq own key) refl
    where
      no_way : false ≡ true → ⊥
      no_way e = absurd cc

      by : (key : K) → Known key → (b : Bool) → eq own key ≡ b → IsLeastBy NoGreater (PlaceOf (Is key) (things ++ t ∷ [])) (new key)
      by key known true e =
          let same = one own key e in
          place_with (Is key) things t (subst (λ k. Is k t) same itself) (old key) (new key) (tells key known) (subst (λ k. IsEarlierOf NoGreater (old k) (Some t.at) (new k)) same lowered.0)
      by key known false e =
          subst (IsLeastBy NoGreater (PlaceOf (Is key) (things ++ t ∷ []))) (sym (lowered.1 key e))
          (place_without (Is key) things t (λ it. no_way (sym e ∙ alone key known it)) (old key) (tells key known))

pub one_nat : (a b : ℕ) → nat_eq a b ≡ true → a ≡ b
one_nat a b e = (Decides-eqb a b).0 e

pub one_member : (a b : MemberOfClass) → same_member a b ≡ true → a ≡ b
one_member a b e = parts (a.class == b.class) refl (a.name == b.name) refl e
  where
    joined : (k l m n : ℕ) → k ≡ m → l ≡ n → ◌≡◌ {A = MemberOfClass} (record { class = k; name = l }) (record { class = m; name = n })
    joined k l m n p q = cc

    parts : (x : Bool) → (a.class == b.class) ≡ x → (y : Bool) → (a.name == b.name) ≡ y → (x && y) ≡ true → a ≡ b
    parts true p true q h = joined a.class a.name b.class b.name (one_nat a.class b.class p) (one_nat a.name b.name q)
    parts true p false q h = absurd cc
    parts false p y q h = absurd cc

module _ (names : List Text) (distinct : AreDistinct names) (things : List Thing) (t : Thing) (own : ℕ) (low : own < length names) (class : t.class ≡ text_of names own) where
  own_class : (key : ℕ) → key < length names → t.class ≡ text_of names key → nat_eq own key ≡ true
  own_class key known is = (Decides-eqb own key).1 (one_number names distinct own key low known (sym class ∙ is))

  pub any_lowered : (old new : ℕ → Option ℕ) → IsEarlierOf NoGreater (old own) (Some t.at) (new own) × ((other : ℕ) → nat_eq own other ≡ false → new other ≡ old other)
      → TellsLeast (IsNumber names) (λ class a. a.class ≡ text_of names class) things old → TellsLeast (IsNumber names) (λ class a. a.class ≡ text_of names class) (things ++ t ∷ []) new
  any_lowered old new lowered tells = tells_with (IsNumber names) (λ class a. a.class ≡ text_of names class) things t nat_eq one_nat own class own_class old new lowered tells

  pub touch_lowered : (u : Touch) → t.touch ≡ u → (old new : ℕ → Option ℕ) → IsEarlierOf NoGreater (old own) (Some t.at) (new own) × ((other : ℕ) → nat_eq own other ≡ false → new other ≡ old other)
      → TellsLeast (IsNumber names) (λ class. Touches (text_of names class) u) things old → TellsLeast (IsNumber names) (λ class. Touches (text_of names class) u) (things ++ t ∷ []) new
  touch_lowered u touch old new lowered tells =
      tells_with (IsNumber names) (λ class. Touches (text_of names class) u) things t nat_eq one_nat own (class, touch) (λ key known is. own_class key known is.0) old new lowered tells

  pub member_lowered : (named : Text → Touch) → ((x y : Text) → named x ≡ named y → x ≡ y) → (name : ℕ) → name < length names → t.touch ≡ named (text_of names name) → (old new : MemberOfClass → Option ℕ)
      → IsEarlierOf NoGreater (old (record { class = own; name = name })) (Some t.at) (new (record { class = own; name = name })) × ((other : MemberOfClass) → same_member (record { class = own; name = name }) other ≡ false → new other ≡ old other)
      → TellsLeast (IsMemberKnown names) (λ m. Touches (text_of names m.class) (named (text_of names m.name))) things old
      → TellsLeast (IsMemberKnown names) (λ m. Touches (text_of names m.class) (named (text_of names m.name))) (things ++ t ∷ []) new
  member_lowered named once name there touch old new lowered tells =
      tells_with (IsMemberKnown names) (λ m. Touches (text_of names m.class) (named (text_of names m.name))) things t same_member one_member (record { class = own; name = name }) (class, touch) alone old new lowered tells
    where
      both : (a b : Bool) → a ≡ true → b ≡ true → (a && b) ≡ true
      both a b p q = rw (p, q) refl

      alone : (m : MemberOfClass) → IsMemberKnown names m → Touches (text_of names m.class) (named (text_of names m.name)) t → same_member (record { class = own; name = name }) m ≡ true
      alone m known is =
          both (nat_eq own m.class) (nat_eq name m.name) (own_class m.class known.0 is.0)
          ((Decides-eqb name m.name).1 (one_number names distinct name m.name there known.1 (once (text_of names name) (text_of names m.name) (sym touch ∙ is.1))))

pub one_field : (x y : Text) → ◌≡◌ {A = Touch} (only (field_named x)) (only (field_named y)) → x ≡ y
one_field x y e = cc

pub one_method : (x y : Text) → ◌≡◌ {A = Touch} (only (method_named x)) (only (method_named y)) → x ≡ y
one_method x y e = cc

-- what touches something else
pub other_touch : (names : List Text) (things : List Thing) (t : Thing) (u v : Touch) → t.touch ≡ u → (¬ (u ≡ v)) → (place : ℕ → Option ℕ)
    → TellsLeast (IsNumber names) (λ class. Touches (text_of names class) v) things place → TellsLeast (IsNumber names) (λ class. Touches (text_of names class) v) (things ++ t ∷ []) place
other_touch names things t u v is differ place tells = tells_without (IsNumber names) (λ class. Touches (text_of names class) v) things t (λ key known at. differ (sym is ∙ at.1)) place tells

pub no_such_member : (names : List Text) (named : Text → Touch) (things : List Thing) (t : Thing) (u : Touch) → t.touch ≡ u → ((x : Text) → u ≡ named x → ⊥) → (place : MemberOfClass → Option ℕ)
    → TellsLeast (IsMemberKnown names) (λ m. Touches (text_of names m.class) (named (text_of names m.name))) things place
    → TellsLeast (IsMemberKnown names) (λ m. Touches (text_of names m.class) (named (text_of names m.name))) (things ++ t ∷ []) place
no_such_member names named things t u is differ place tells =
    tells_without (IsMemberKnown names) (λ m. Touches (text_of names m.class) (named (text_of names m.name))) things t (λ m known at. differ (text_of names m.name) (sym is ∙ at.1)) place tells

-- ---- the least place that conflicts

module _ (class : Text) (at : ℕ) (things : List Thing) (o : Option ℕ) where
  pub against_whole : IsLeastBy NoGreater (PlaceOf (λ a. a.class ≡ class) things) o → IsLeastBy NoGreater (IsPlaceAgainst (record { class = class; touch = whole; at = at }) things) o
  against_whole is =
      let b : Thing = record { class = class; touch = whole; at = at } in
      least_same NoGreater o (λ n found. (found.0, found.1, (conflict_turned b found.0 ((things_that_conflict.of_whole class at found.0).1 (sym found.2.0)), found.2.1)))
      (λ n found. (found.0, found.1, (sym ((things_that_conflict.of_whole class at found.0).0 (conflict_turned found.0 b found.2.0)), found.2.1))) is

  pub against_mention : IsLeastBy NoGreater (PlaceOf (Touches class whole) things) o → IsLeastBy NoGreater (IsPlaceAgainst (record { class = class; touch = mention; at = at }) things) o
  against_mention is =
      let b : Thing = record { class = class; touch = mention; at = at } in
      least_same NoGreater o (λ n found. (found.0, found.1, (conflict_turned b found.0 ((things_that_conflict.of_mention class at found.0).1 (sym found.2.0.0, found.2.0.1)), found.2.1)))
      (λ n found. let is = (things_that_conflict.of_mention class at found.0).0 (conflict_turned found.0 b found.2.0) in (found.0, found.1, ((sym is.0, is.1), found.2.1))) is

  pub against_piece : (p : Piece) (a c : Option ℕ) → IsLeastBy NoGreater (PlaceOf (Touches class whole) things) a → IsLeastBy NoGreater (PlaceOf (Touches class (only p)) things) c → IsEarlierOf NoGreater a c o
      → IsLeastBy NoGreater (IsPlaceAgainst (record { class = class; touch = only p; at = at }) things) o
  against_piece p a c of_wholes of_pieces lesser =
      least_same NoGreater o to from (least_either NoGreater no_greater_joins (PlaceOf (Touches class whole) things) (PlaceOf (Touches class (only p)) things) a c o of_wholes of_pieces lesser)
    where
      b : Thing
      b = record { class = class; touch = only p; at = at }

      to : (n : ℕ) → PlaceOf (Touches class whole) things n ⊎ PlaceOf (Touches class (only p)) things n → IsPlaceAgainst (record { class = class; touch = only p; at = at }) things n
      to n (inl found) = (found.0, found.1, (conflict_turned (record { class = class; touch = only p; at = at }) found.0 ((things_that_conflict.of_piece class p at found.0).1 (sym found.2.0.0, inl found.2.0.1)), found.2.1))
      to n (inr found) = (found.0, found.1, (conflict_turned (record { class = class; touch = only p; at = at }) found.0 ((things_that_conflict.of_piece class p at found.0).1 (sym found.2.0.0, inr found.2.0.1)), found.2.1))

      from : (n : ℕ) → IsPlaceAgainst (record { class = class; touch = only p; at = at }) things n → PlaceOf (Touches class whole) things n ⊎ PlaceOf (Touches class (only p)) things n
      from n found =
          let is = (things_that_conflict.of_piece class p at found.0).0 (conflict_turned found.0 (record { class = class; touch = only p; at = at }) found.2.0) in
          either is.1 (λ all. inl (found.0, found.1, ((sym is.0, all), found.2.1))) (λ piece. inr (found.0, found.1, ((sym is.0, piece), found.2.1)))

pub told_against : (names : List Text) (t : Touched) (things : List Thing) (o : Option ℕ) (u : Touch) → plain_touch names t.touch ≡ u
    → IsLeastBy NoGreater (IsPlaceAgainst (record { class = text_of names t.class.0; touch = u; at = t.at }) things) o → IsLeastBy NoGreater (IsPlaceAgainst (plain_thing names t) things) o
told_against names t things o u is told = subst (λ v. IsLeastBy NoGreater (IsPlaceAgainst (record { class = text_of names t.class.0; touch = v; at = t.at }) things) o) (sym is) told

-- the pair of places, from the least first place
pub pair_against : (b : Thing) (things : List Thing) (o : Option ℕ) (first : ℕ) (pair : Pair) → o ≡ Some first → pair ≡ record { first = first; second = b.at } → IsLeastBy NoGreater (IsPlaceAgainst b things) o
    → IsLeastBy IsNoLater (Among (λ a. Clash a b) things) (Some pair)
pair_against b things o first pair is made least =
    let here = subst (IsLeastBy NoGreater (IsPlaceAgainst b things)) is least in
    let found = here.0 in
    subst (λ x. IsLeastBy IsNoLater (Among (λ a. Clash a b) things) (Some x)) (sym made)
    ((found.0, found.1, (found.2.0, ap (λ n. record { first = n; second = b.at }) found.2.1)), λ other clash. no_later first b.at clash.0.at other clash.2.1 (here.1 clash.0.at (clash.0, clash.1, (clash.2.0, refl))))
  where
    no_later : (first second at : ℕ) (other : Pair) → other ≡ record { first = at; second = second } → first ≤ at → IsNoLater (record { first = first; second = second }) other
    no_later first second at other e low = subst (IsNoLater (record { first = first; second = second })) (sym e) (grind arith)

pub none_against : (b : Thing) (things : List Thing) (o : Option ℕ) → o ≡ None → IsLeastBy NoGreater (IsPlaceAgainst b things) o → IsLeastBy IsNoLater (Among (λ a. Clash a b) things) None
none_against b things o is least = λ pair clash. subst (IsLeastBy NoGreater (IsPlaceAgainst b things)) is least clash.0.at (clash.0, clash.1, (clash.2.0, refl))
