-- The last of a method's parameters that has a name.
use Rattle.std.proofs.Common.{◌≡◌, ℕ, zero, suc, ◌+◌, ◌<◌, Bool, true, false, cond, nat_eq, List, [], ◌∷◌, map, take, Option, Some, None, length, slice_get, get_or, add-one, take_all, eq-eqb, refl, sym, ap, ◌∙◌, subst, arith}
use Rattle.std.proofs.lemmas.Bool.{eqb-true}
use Rattle.std.specs.Prelude.{unwrap_or}
use Rattle.std.proofs.lemmas.Slice.Eq.{bytes_eq-Decides}
use Rattle.indexmap.specs.IndexMap.{IndexMap, get}
use Rattle.dj_names.specs.Texts.{AreDistinct}
use Rattle.dj_calculus.proofs.Counting.{there_is}
use Rattle.dj_calculus.proofs.Members.{not_both}
use Rattle.ifj_typing.specs.Parameters.{TellsTypes}
use Rattle.std.specs.Bool.{if◌then◌else◌}
use Rattle.std.specs.Option.{option_or}
use Rattle.std.specs.Str.{bytes_eq}
use Rattle.std.specs.Option.{option_map}
use Rattle.std.proofs.lemmas.Option.{slice_get-map, slice_get-get_or}
use Rattle.dj_names.specs.Texts.{Text}
use Rattle.dj_names.specs.declared.names.Name.{Name}
use Rattle.dj_tree.specs.Trees as plain
use Rattle.dj_tree.specs.Plain.{plain_spot}
use Rattle.dj_tree.specs.declared.declarations.Spot.{Spot}
use Rattle.dj_calculus.specs.Tables.{texts_of}
use Rattle.dj_calculus.specs.Typing.{last_named}
use Rattle.ifj_typing.specs.Kinds.{text_of}

-- the last of so many
abbrev pub last_of : ℕ → List Text → List Text → Text → Option Text
last_of n names kinds x = last_named (take n names) (take n kinds) x

first_or : (o p : Option Text) → option_or (option_or o p) None ≡ option_or o p
first_or None None = refl
first_or None (Some x) = refl
first_or (Some x) p = refl

or_of_or : (o p q : Option Text) → option_or (option_or o p) q ≡ option_or o (option_or p q)
or_of_or None p q = refl
or_of_or (Some x) p q = refl

-- one more
pub last_next : (n : ℕ) (names kinds : List Text) (x name kind : Text) → slice_get names n ≡ Some name → slice_get kinds n ≡ Some kind
    → last_of (suc n) names kinds x ≡ option_or (if bytes_eq name x then Some kind else None) (last_of n names kinds x)
last_next n [] kinds x name kind p q = absurd cc
last_next n (a ∷ names) [] x name kind p q = absurd cc
last_next zero (a ∷ names) (b ∷ kinds) x name kind p q =
    let first : a ≡ name = cc in
    let second : b ≡ kind = cc in
    rw (first, second) (sym (none_or _))
  where
    none_or : (o : Option Text) → option_or o None ≡ o
    none_or None = refl
    none_or (Some y) = refl
last_next (suc n) (a ∷ names) (b ∷ kinds) x name kind p q =
    ap (λ o. option_or o (if bytes_eq a x then Some b else None)) (last_next n names kinds x name kind p q)
    ∙ or_of_or (if bytes_eq name x then Some kind else None) (last_of n names kinds x) (if bytes_eq a x then Some b else None)

-- ---- spots

abbrev pub texts : List Text → List Spot → List Text
texts names spots = texts_of (map (plain_spot names) spots)

pub length_texts : (names : List Text) (spots : List Spot) → length (texts names spots) ≡ length spots
length_texts names [] = refl
length_texts names (x ∷ spots) = ap suc (length_texts names spots)

pub text_here : (names : List Text) (spots : List Spot) (n : ℕ) (d : Spot) → n < length spots → slice_get (texts names spots) n ≡ Some (text_of names (get_or spots n d).name)
text_here names spots n d low =
    slice_get-map (λ (x : plain.Spot). x.text) (map (plain_spot names) spots) n
    ∙ ap (option_map (λ (x : plain.Spot). x.text)) (slice_get-map (plain_spot names) spots n ∙ ap (option_map (plain_spot names)) (slice_get-get_or spots n d low))

-- all of them
pub last_of_all : (n : ℕ) (names kinds : List Text) (x : Text) → n ≡ length names → n ≡ length kinds → last_of n names kinds x ≡ last_named names kinds x
last_of_all n names kinds x p q = ap (λ ns. last_named ns (take n kinds) x) (take_whole n names p) ∙ ap (λ ks. last_named names ks x) (take_whole n kinds q)
  where
    take_whole : (n : ℕ) (xs : List Text) → n ≡ length xs → take n xs ≡ xs
    take_whole n xs p = take_all n xs (omega arith)

-- ---- a map of them

module _ (names : List Text) (distinct : AreDistinct names) where
  -- two names have one text where they have one number
  same_text_number : (a b : Name) → a.0 < length names → b.0 < length names → nat_eq a.0 b.0 ≡ bytes_eq (text_of names a) (text_of names b)
  same_text_number a b low also = by (nat_eq a.0 b.0) refl
    where
      here : (x : Name) → x.0 < length names → slice_get names x.0 ≡ Some (text_of names x)
      here x low = let it = there_is names x.0 low in it.1 ∙ ap Some (sym (ap (λ o. unwrap_or o []) it.1))

      by : (c : Bool) → nat_eq a.0 b.0 ≡ c → c ≡ bytes_eq (text_of names a) (text_of names b)
      by true is = sym ((bytes_eq-Decides (text_of names a) (text_of names b)).1 (ap (λ n. unwrap_or (slice_get names n) []) (eqb-true a.0 b.0 is)))
      by false is = other (bytes_eq (text_of names a) (text_of names b)) refl
        where
          other : (d : Bool) → bytes_eq (text_of names a) (text_of names b) ≡ d → false ≡ d
          other true same =
              let one = distinct a.0 b.0 (text_of names b) (here a low ∙ ap Some ((bytes_eq-Decides (text_of names a) (text_of names b)).0 same)) (here b also) in
              sym is ∙ eq-eqb a.0 b.0 one
          other false apart = refl

module _ {S : Type 0} (names : List Text) (distinct : AreDistinct names) where
  pub no_parameters : (found : IndexMap ℕ Name S) → ((q : ℕ) → get nat_eq found q ≡ None) → TellsTypes names [] [] found
  no_parameters found none = record { tells = λ x low. ap (option_map (text_of names)) (none x.0); known = λ x kind is. absurd (not_both kind (get nat_eq found x) (none x) is) }

  module _ (spots types : List Spot) (n : ℕ) (d e : Spot) (low : n < length spots) (also : n < length types) (old new : IndexMap ℕ Name S)
      (known : (get_or spots n d).name.0 < length names) (kind_known : (get_or types n e).name.0 < length names)
      (updates : (q : ℕ) → get nat_eq new q ≡ cond (nat_eq (get_or spots n d).name.0 q) (Some (get_or types n e).name) (get nat_eq old q)) where
    chosen : (b c : Bool) (k : Name) (o : Option Name) → b ≡ c → option_map (text_of names) (cond b (Some k) o) ≡ option_or (if c then Some (text_of names k) else None) (option_map (text_of names) o)
    chosen true true k o is = refl
    chosen true false k o is = absurd cc
    chosen false true k o is = absurd cc
    chosen false false k o is = refl

    kept_known : (b : Bool) (k kind : Name) (o : Option Name) → cond b (Some k) o ≡ Some kind → k.0 < length names → (o ≡ Some kind → kind.0 < length names) → kind.0 < length names
    kept_known true k kind o is low before = let same : k ≡ kind = cc in subst (λ (z : Name). z.0 < length names) same low
    kept_known false k kind o is low before = before is

    -- one parameter more
    pub parameter_next : TellsTypes names (take n (texts names spots)) (take n (texts names types)) old → TellsTypes names (take (n + 1) (texts names spots)) (take (n + 1) (texts names types)) new
    parameter_next before =
        record {
          tells = λ x within.
              ap (option_map (text_of names)) (updates x.0)
              ∙ chosen (nat_eq (get_or spots n d).name.0 x.0) (bytes_eq (text_of names (get_or spots n d).name) (text_of names x)) (get_or types n e).name (get nat_eq old x.0)
              (same_text_number names distinct (get_or spots n d).name x known within)
              ∙ ap (option_or (if bytes_eq (text_of names (get_or spots n d).name) (text_of names x) then Some (text_of names (get_or types n e).name) else None)) (before.tells x within)
              ∙ sym (ap (λ k. last_of k (texts names spots) (texts names types) (text_of names x)) (add-one n)
              ∙ last_next n (texts names spots) (texts names types) (text_of names x) _ _ (text_here names spots n d low) (text_here names types n e also));
          known = λ x kind is. kept_known (nat_eq (get_or spots n d).name.0 x) (get_or types n e).name kind (get nat_eq old x) (sym (updates x) ∙ is) kind_known (before.known x kind);
        }
