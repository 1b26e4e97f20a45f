-- Keys of a set that are told apart by their texts, seen as the list of these texts.
use Rattle.std.proofs.Common.{◌≡◌, ◌<◌, ◌≢◌, ℕ, Bool, true, false, cond, not, List, [], ◌∷◌, ◌++◌, map, length, get_or, Some, option_map, slice_get, Contains, refl, sym, ap, ◌∙◌, arith}
use Rattle.std.specs.List.{list_any, position, prefix_len, IsDistinct, AllPairs, AllByRecursion}
use Rattle.std.specs.Str.{bytes_eq}
use Rattle.std.proofs.lemmas.List.{map-append, append-nil}
use Rattle.std.proofs.lemmas.List.Quantifiers.{position-Some}
use Rattle.std.proofs.lemmas.Option.{slice_get_within, get_or_from_slice_get, slice_get-get_or, slice_get-map}
use Rattle.std.proofs.lemmas.Slice.Eq.{bytes_eq-Decides}
use Rattle.std.proofs.lemmas.Map.Made.{AllPairs-from_IsDistinct}
use Rattle.std.proofs.lemmas.Map.Views.{list_any-from_Contains}
use Rattle.std.proofs.lemmas.Cmp.{nat_list_eq_equiv}
use Rattle.dj_names.specs.Texts.{Text, AreDistinct, with_text, Extends}

-- distinct texts, by their places
are_distinct : (texts : List Text) → IsDistinct bytes_eq texts → AreDistinct texts
are_distinct texts h i j text at_i at_j =
    let pairs : AllPairs (λ x y. x ≢ y) texts = AllPairs-from_IsDistinct bytes_eq-Decides texts h in
    let is_i = get_or_from_slice_get texts i text [] at_i in
    let is_j = get_or_from_slice_get texts j text [] at_j in
    let in_i = slice_get_within texts i text at_i in
    let in_j = slice_get_within texts j text at_j in
    omega (arith, λ (l : i < j). pairs i j [] l in_j (is_i ∙ sym is_j), λ (l : j < i). pairs j i [] l in_i (is_j ∙ sym is_i))

-- where the text was found
found_at : (text : Text) (texts : List Text) (i : ℕ) → position (bytes_eq text) texts ≡ Some i → slice_get texts i ≡ Some text
found_at text texts i at =
    let found = position-Some (bytes_eq text) texts i [] at in
    slice_get-get_or texts i [] found.0 ∙ ap Some (sym ((bytes_eq-Decides text (get_or texts i [])).0 found.1))

pub contains_at : (text : Text) (texts : List Text) (i : ℕ) → slice_get texts i ≡ Some text → Contains texts text
contains_at text texts i at = (i, slice_get_within texts i text at, get_or_from_slice_get texts i text text at)

contains_not : (text : Text) (texts : List Text) → list_any (bytes_eq text) texts ≡ false → ¬ Contains texts text
contains_not text texts none has =
    let any : list_any (bytes_eq text) texts ≡ true = list_any-from_Contains nat_list_eq_equiv text texts has in
    cc

module _ {K : Type 0} (text_of : K → Text) where
  -- what is tested of the texts is tested of the keys
  list_any-map : (p : Text → Bool) (keys : List K) → list_any p (map text_of keys) ≡ list_any (λ key. p (text_of key)) keys
  list_any-map p [] = refl
  list_any-map p (key ∷ keys) = rw (list_any-map p keys) refl

  prefix_len-map : (p : Text → Bool) (keys : List K) → prefix_len p (map text_of keys) ≡ prefix_len (λ key. p (text_of key)) keys
  prefix_len-map p [] = refl
  prefix_len-map p (key ∷ keys) = rw (prefix_len-map p keys) refl

  length-texts : (keys : List K) → length (map text_of keys) ≡ length keys
  length-texts [] = refl
  length-texts (key ∷ keys) = rw (length-texts keys) refl

  position-map : (p : Text → Bool) (keys : List K) → position p (map text_of keys) ≡ position (λ key. p (text_of key)) keys
  position-map p keys = rw (prefix_len-map (λ text. not (p text)) keys, length-texts keys) refl

  apart : (text : Text) (keys : List K) → AllByRecursion (λ key. bytes_eq text (text_of key) ≡ false) keys → AllByRecursion (λ other. bytes_eq text other ≡ false) (map text_of keys)
  apart text [] h = tt
  apart text (key ∷ keys) h = (h.0, apart text keys h.1)

  all_apart : (keys : List K) → IsDistinct (λ x y. bytes_eq (text_of x) (text_of y)) keys → IsDistinct bytes_eq (map text_of keys)
  unfolding IsDistinct
  all_apart [] h = tt
  all_apart (key ∷ keys) h = (apart (text_of key) keys h.0, all_apart keys h.1)

  map-cond : (test : Bool) (keys : List K) (key : K) → map text_of (cond test keys (keys ++ key ∷ [])) ≡ cond test (map text_of keys) (map text_of keys ++ text_of key ∷ [])
  map-cond true keys key = refl
  map-cond false keys key = map-append text_of keys (key ∷ [])

  -- keys that differ have texts that differ
  pub texts_distinct : (keys : List K) → IsDistinct (λ x y. bytes_eq (text_of x) (text_of y)) keys → AreDistinct (map text_of keys)
  texts_distinct keys h = are_distinct (map text_of keys) (all_apart keys h)

  -- a text that a look-up found, and one that it did not find
  pub found_text : (text : Text) (keys : List K) (i : ℕ) → Some i ≡ position (λ key. bytes_eq text (text_of key)) keys → slice_get (map text_of keys) i ≡ Some text
  found_text text keys i at = found_at text (map text_of keys) i (position-map (bytes_eq text) keys ∙ sym at)

  pub missing_text : (text : Text) (keys : List K) → false ≡ list_any (λ key. bytes_eq text (text_of key)) keys → ¬ Contains (map text_of keys) text
  missing_text text keys none = contains_not text (map text_of keys) (list_any-map (bytes_eq text) keys ∙ sym none)

  -- a text that is there adds nothing
  pub with_text-found : (text : Text) (keys : List K) → true ≡ list_any (λ key. bytes_eq text (text_of key)) keys → map text_of keys ≡ with_text (map text_of keys) text
  with_text-found text keys found = ap (λ test. cond test (map text_of keys) (map text_of keys ++ text ∷ [])) (found ∙ sym (list_any-map (bytes_eq text) keys))

  -- the texts after a key went in
  pub with_text-inserted : (text : Text) (keys after : List K) (key : K) → after ≡ cond (list_any (λ other. bytes_eq (text_of key) (text_of other)) keys) keys (keys ++ key ∷ []) → text_of key ≡ text → map text_of after ≡ with_text (map text_of keys) text
  with_text-inserted text keys after key inserted is =
      ap (map text_of) inserted ∙ map-cond _ keys key ∙ ap (λ test. cond test (map text_of keys) (map text_of keys ++ text_of key ∷ [])) (sym (list_any-map (bytes_eq (text_of key)) keys)) ∙ ap (with_text (map text_of keys)) is

  -- the text at the place of a stored key
  pub stored_text : (text : Text) (keys : List K) (i : ℕ) (key stored : K) → slice_get keys i ≡ Some stored → bytes_eq (text_of key) (text_of stored) ≡ true → text_of key ≡ text → slice_get (map text_of keys) i ≡ Some text
  stored_text text keys i key stored at same is =
      slice_get-map text_of keys i ∙ ap (option_map text_of) at ∙ ap Some (sym ((bytes_eq-Decides (text_of key) (text_of stored)).0 same) ∙ is)

-- one text more keeps the places of the others
pub Extends-with_text : (texts : List Text) (text : Text) → Extends texts (with_text texts text)
Extends-with_text texts text =
    elim (list_any (bytes_eq text) texts) as (λ test. Extends texts (cond test texts (texts ++ text ∷ []))) [ true ↦ ([], sym (append-nil texts)) | false ↦ (text ∷ [], refl) ]
