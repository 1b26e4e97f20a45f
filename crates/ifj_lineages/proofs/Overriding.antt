-- Members above a class, and methods with another signature among them.
use Rattle.std.proofs.Common.{◌≡◌, ◌≢◌, ℕ, zero, suc, ◌+◌, ◌<◌, ◌≤◌, Bool, true, false, not, ◌&&◌, map, get_or, List, [], ◌∷◌, Option, Some, None, Contains, length, slice_get, refl, sym, ap, ◌∙◌, subst, arith}
use Rattle.std.specs.Prelude.{IsSome, IsFalse, unwrap_or}
use Rattle.std.specs.Bool.{if◌then◌else◌}
use Rattle.std.specs.Option.{option_and_then, option_map}
use Rattle.std.proofs.lemmas.Option.{slice_get-map, slice_get-get_or}
use Rattle.std.specs.Str.{bytes_eq}
use Rattle.std.specs.FinMap.{get}
use Rattle.std.proofs.lemmas.Slice.Eq.{bytes_eq-Decides}
use Rattle.std.proofs.lemmas.Bool.{false≢true}
use Rattle.dj_names.specs.Texts.{Text}
use Rattle.dj_tree.specs.Plain.{plain_spot}
use Rattle.dj_tree.specs.Trees.{Spot}
use Rattle.dj_tree.specs.declared.declarations.Spot.{Spot as ListedSpot}
use Rattle.dj_calculus.specs.Entries.{same_types, same_signature}
use Rattle.dj_calculus.specs.Subclasses.{Steps, stay, up, Nearest, own, inherited, NearestMethod}
use Rattle.dj_calculus.specs.Tables.{Signature, MethodEntry, ClassEntry, Table}
use Rattle.dj_calculus.proofs.Members.{same_some}
use Rattle.ifj_table.proofs.Climbing.{NearestIn, at_own, one_up, counted, Climbed, climbed_more, none_at_all}
use Rattle.ifj_lineages.specs.Overrides.{Differs}

-- ---- the nearest above

-- a class that is reached and has a member
pub record Reached {X : Type 0} (t : Table) (member : ClassEntry → Option X) (c d : Text) (x : X) : Type 0 where
  pub steps : Steps t c d
  pub entry : ClassEntry
  pub there : get t d ≡ Some entry
  pub has : member entry ≡ Some x

pub nearest_reached : {X : Type 0} (t : Table) (member : ClassEntry → Option X) (c d : Text) (x : X) → Nearest t member c d x → Reached t member c d x
nearest_reached t member c d x (own {entry = entry} there has) = record { steps = stay; entry = entry; there = there; has = has }
nearest_reached t member c d x (inherited {entry = entry} there lacks more) =
    let rest = nearest_reached t member entry.parent.text d x more in
    record { steps = up (record { entry = entry; there = there; parent = refl }) rest.steps; entry = rest.entry; there = rest.there; has = rest.has }

abbrev pub HasNearest : {X : Type 0} → Table → (ClassEntry → Option X) → Text → Type 0
HasNearest {X} t member c = (d : Text) × ((x : X) × Nearest t member c d x)

pub has_nearest : {X : Type 0} (t : Table) (member : ClassEntry → Option X) (c d : Text) (entry : ClassEntry) (x : X) → Steps t c d → get t d ≡ Some entry → member entry ≡ Some x → HasNearest t member c
has_nearest t member c d entry x stay there has = (c, (x, own there has))
has_nearest {X} t member c d entry x (up {d = e} first steps) there has = by (member first.entry) refl (has_nearest t member e d entry x steps there has)
  where
    by : (o : Option X) → member first.entry ≡ o → HasNearest t member e → HasNearest t member c
    by (Some y) is more = (c, (y, own first.there is))
    by None is more = (more.0, (more.1.0, inherited first.there is (subst (λ k. Nearest t member k more.0 more.1.0) (sym first.parent) more.1.1)))

-- ---- another signature

-- the method of an entry, if it has another signature
abbrev pub differing : Text → Signature → ClassEntry → Option MethodEntry
differing m signature entry = option_and_then (λ other. if same_signature signature other.signature then None else Some other) (get entry.methods m)

pub differs_so : (m : Text) (s : Signature) (entry : ClassEntry) (other : MethodEntry) → get entry.methods m ≡ Some other → IsFalse (same_signature s other.signature) → differing m s entry ≡ Some other
differs_so m s entry other is differs =
    ap (option_and_then (λ (x : MethodEntry). if same_signature s x.signature then None else Some x)) is ∙ ap (λ b. if b then None else Some other) differs

same_not : (m : Text) (s : Signature) (entry : ClassEntry) (other : MethodEntry) → get entry.methods m ≡ Some other → same_signature s other.signature ≡ true → differing m s entry ≡ None
same_not m s entry other is same =
    ap (option_and_then (λ (x : MethodEntry). if same_signature s x.signature then None else Some x)) is ∙ ap (λ b. if b then None else Some other) same

none_not : (m : Text) (s : Signature) (entry : ClassEntry) → get entry.methods m ≡ None → differing m s entry ≡ None
none_not m s entry is = ap (option_and_then (λ (x : MethodEntry). if same_signature s x.signature then None else Some x)) is

so_differs : (m : Text) (s : Signature) (entry : ClassEntry) (other : MethodEntry) → differing m s entry ≡ Some other → (get entry.methods m ≡ Some other) × IsFalse (same_signature s other.signature)
so_differs m s entry other is = by (get entry.methods m) refl is
  where
    chosen : (b : Bool) (x y : MethodEntry) → (if b then None else Some x) ≡ Some y → (b ≡ false) × (x ≡ y)
    chosen true x y e = absurd cc
    chosen false x y e = (refl, cc)

    by : (o : Option MethodEntry) → get entry.methods m ≡ o → option_and_then (λ (x : MethodEntry). if same_signature s x.signature then None else Some x) o ≡ Some other
        → (get entry.methods m ≡ Some other) × IsFalse (same_signature s other.signature)
    by None there e = absurd cc
    by (Some x) there e =
        let it = chosen (same_signature s x.signature) x other e in
        (there ∙ ap Some it.1, subst (λ (y : MethodEntry). IsFalse (same_signature s y.signature)) it.1 it.0)

module _ (t : Table) (m : Text) (s : Signature) where
  pub nearest_differs : (c d : Text) (x : MethodEntry) → Nearest t (differing m s) c d x → Differs t c m s
  nearest_differs c d x nearest =
      let at = nearest_reached t (differing m s) c d x nearest in
      let is = so_differs m s at.entry x at.has in
      record { upper = d; entry = at.entry; other = x; steps = at.steps; there = at.there; its = is.0; differs = is.1 }

  pub differs_nearest : (c : Text) → Differs t c m s → HasNearest t (differing m s) c
  differs_nearest c differs = has_nearest t (differing m s) c differs.upper differs.entry differs.other differs.steps differs.there (differs_so m s differs.entry differs.other differs.its differs.differs)

  -- up to the superclass of an owner whose method has the same signature
  pub climbs_past_owner : (count : ℕ) (from at owner : Text) (x : MethodEntry) (entry : ClassEntry) → Climbed t (differing m s) count from at → NearestMethod t at m owner x → same_signature s x.signature ≡ true
      → get t owner ≡ Some entry → (n : ℕ) × (count < n) × Climbed t (differing m s) n from entry.parent.text
  climbs_past_owner count from at owner x entry climbed (own {entry = e} there has) same is =
      let one : e ≡ entry = same_some e entry (get t at) there is in
      (count + 1, omega arith, subst (λ (z : ClassEntry). Climbed t (differing m s) (count + 1) from z.parent.text) one (climbed_more t (differing m s) count from at e climbed there (same_not m s e x has same)))
  climbs_past_owner count from at owner x entry climbed (inherited {entry = e} there lacks more) same is =
      let rest = climbs_past_owner (count + 1) from e.parent.text owner x entry (climbed_more t (differing m s) count from at e climbed there (none_not m s e lacks)) more same is in
      (rest.0, omega (arith, rest.1), rest.2)

  in_nearest : (k : ℕ) (c d : Text) (x : MethodEntry) → NearestIn t (differing m s) k c d x → Nearest t (differing m s) c d x
  in_nearest k c d x (at_own there has) = own there has
  in_nearest k c d x (one_up {k = j} {entry = entry} there lacks more) = inherited there lacks (in_nearest j entry.parent.text d x more)

  -- where no class from here on has the method
  pub none_differs : (count : ℕ) (from at : Text) → Climbed t (differing m s) count from at → ((owner : Text) (x : MethodEntry) → ¬ (NearestMethod t at m owner x)) → ¬ (Differs t from m s)
  none_differs count from at climbed none differs =
      let first = differs_nearest from differs in
      let number = counted t (differing m s) from first.0 first.1.0 first.1.1 in
      let there = climbed.passes number.0 first.0 first.1.0 number.1 in
      let here = nearest_reached t (differing m s) at first.0 first.1.0 (in_nearest there.0 at first.0 first.1.0 there.2) in
      let has = has_nearest t (λ entry. get entry.methods m) at first.0 here.entry first.1.0 here.steps here.there (so_differs m s here.entry first.1.0 here.has).0 in
      none has.0 has.1.0 has.1.1

  -- where the nearest has another signature
  pub differs_here : (count : ℕ) (from at owner : Text) (x : MethodEntry) → Climbed t (differing m s) count from at → NearestMethod t at m owner x → IsFalse (same_signature s x.signature) → Differs t from m s
  differs_here count from at owner x climbed nearest differs =
      let here = nearest_reached t (λ entry. get entry.methods m) at owner x nearest in
      let first = has_nearest t (differing m s) at owner here.entry x here.steps here.there (differs_so m s here.entry x here.has differs) in
      nearest_differs from first.0 first.1.0 (climbed.hands_down first.0 first.1.0 first.1.1)

  -- where as many classes were looked at as there are
  pub none_left : (keys : List Text) → ((e : Text) → IsSome (get t e) → Contains keys e) → (count : ℕ) (from at : Text) → Climbed t (differing m s) count from at → length keys ≤ count → ¬ (Differs t from m s)
  none_left keys each count from at climbed many differs =
      let first = differs_nearest from differs in
      none_at_all t (differing m s) keys each count from at climbed many first.0 first.1.0 first.1.1

-- ---- lists of types

pub types_agree : (xs ys : List Spot) → length xs ≡ length ys → ((k : ℕ) (x y : Spot) → k < length xs → slice_get xs k ≡ Some x → slice_get ys k ≡ Some y → x.text ≡ y.text) → same_types xs ys ≡ true
types_agree [] [] count each = refl
types_agree [] (y ∷ ys) count each = absurd (omega (arith, count))
types_agree (x ∷ xs) [] count each = absurd (omega (arith, count))
types_agree (x ∷ xs) (y ∷ ys) count each =
    ap (λ b. b && same_types xs ys) ((bytes_eq-Decides x.text y.text).1 (each 0 x y (omega arith) refl refl))
    ∙ types_agree xs ys (omega (arith, count)) (λ k a b low p q. each (suc k) a b (omega arith) p q)

false_second : (a : Bool) → (a && false) ≡ false
false_second true = refl
false_second false = refl

not_equal : (a b : Text) → a ≢ b → bytes_eq a b ≡ false
not_equal a b other = by (bytes_eq a b) refl
  where
    by : (c : Bool) → bytes_eq a b ≡ c → c ≡ false
    by true is = absurd (other ((bytes_eq-Decides a b).0 is))
    by false is = refl

pub types_differ : (xs ys : List Spot) (k : ℕ) (x y : Spot) → slice_get xs k ≡ Some x → slice_get ys k ≡ Some y → x.text ≢ y.text → same_types xs ys ≡ false
types_differ [] ys k x y p q other = absurd cc
types_differ (a ∷ xs) [] k x y p q other = absurd cc
types_differ (a ∷ xs) (b ∷ ys) zero x y p q other =
    let first : a ≡ x = cc in
    let second : b ≡ y = cc in
    ap (λ c. c && same_types xs ys) (not_equal a.text b.text (λ same. other (sym (ap (λ z. z.text) first) ∙ same ∙ ap (λ z. z.text) second)))
types_differ (a ∷ xs) (b ∷ ys) (suc k) x y p q other = ap (λ c. bytes_eq a.text b.text && c) (types_differ xs ys k x y p q other) ∙ false_second (bytes_eq a.text b.text)

pub other_count : (xs ys : List Spot) → length xs ≢ length ys → same_types xs ys ≡ false
other_count [] [] other = absurd (other refl)
other_count [] (y ∷ ys) other = refl
other_count (x ∷ xs) [] other = refl
other_count (x ∷ xs) (y ∷ ys) other = ap (λ c. bytes_eq x.text y.text && c) (other_count xs ys (λ same. other (ap suc same))) ∙ false_second (bytes_eq x.text y.text)

-- ---- texts that were compared

pub told_apart : (a b : Text) (r : Bool) → r ≡ not (bytes_eq a b) → r ≡ true → a ≢ b
told_apart a b r is yes_it_is same = false≢true (sym (ap not ((bytes_eq-Decides a b).1 same)) ∙ sym is ∙ yes_it_is)

pub told_same : (a b : Text) (r : Bool) → r ≡ not (bytes_eq a b) → r ≡ false → a ≡ b
told_same a b r is no_it_isnt = by (bytes_eq a b) refl (sym is ∙ no_it_isnt)
  where
    by : (c : Bool) → bytes_eq a b ≡ c → not (bytes_eq a b) ≡ false → a ≡ b
    by true same e = (bytes_eq-Decides a b).0 same
    by false other e = absurd (false≢true (sym e ∙ ap not other))

pub spelled : (names : List Text) (spots : List ListedSpot) (n : ℕ) (d : ListedSpot) (text : Text) → n < length spots → slice_get names (get_or spots n d).name.0 ≡ Some text
    → (x : Spot) × (slice_get (map (plain_spot names) spots) n ≡ Some x) × (x.text ≡ text)
spelled names spots n d text low here =
    (plain_spot names (get_or spots n d), slice_get-map (plain_spot names) spots n ∙ ap (option_map (plain_spot names)) (slice_get-get_or spots n d low), ap (λ o. unwrap_or o []) here)
