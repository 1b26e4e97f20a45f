-- Orders from words, by the numbers of deltas.
use Rattle.std.proofs.Common.{◌≡◌, ◌≤◌, ◌<◌, ◌+◌, ℕ, zero, suc, Bool, true, false, cond, ◌||◌, List, [], ◌∷◌, ◌++◌, map, length, take, drop, get_or, slice_get, Option, Some, None, Result, Ok, Err, Contains, All, Vec, Global, refl, sym, ap, subst, ◌∙◌, length-append, add-one, arith}
use Rattle.std.specs.Prelude.{◌↔◌, filter, MatchResult, MatchBool, IsOk, is_some, is_ok, is_err, if◌then◌else◌}
use Rattle.std.specs.List.{filter_map, cons_option, find}
use Rattle.std.specs.Option.{option_map}
use Rattle.std.specs.List.Sorted.{IsPermutation}
use Rattle.std.specs.Str.{bytes_eq}
use Rattle.std.proofs.Math.Seq.{take-append_seam, drop-append_seam}
use Rattle.std.proofs.lemmas.List.{length-map, take-append-drop, map-append}
use Rattle.std.proofs.lemmas.List.Folds.{find_at}
use Rattle.std.proofs.lemmas.List.Sorted.{IsPermutation-map, length_permutation}
use Rattle.std.proofs.lemmas.Option.{slice_get_within, slice_get-get_or, slice_get-map}
use Rattle.dj_names.specs.Texts.{Text}
use Rattle.dj_tree.specs.Trees.{Spot, Delta, Part, Source}
use Rattle.dj_calculus.specs.Accepted.{IsAccepted}
use Rattle.dj_calculus.specs.Configurations.{Configuration, pieces_of, is_named}
use Rattle.dj_calculus.specs.Parts.{chain, active, delta_named}
use Rattle.dj_calculus.specs.Products.{AllowedAlong, no_parts, part_and, IsAllowed, OrderFault, unknown_delta, not_allowed, OrderWord, OrderWordFault, leftmost, disallowed}
use Rattle.dj_calculus.proofs.Members.{among_others, mapped}
use Rattle.dj_line.specs.declared.line.Line.{Line}
use Rattle.dj_line.specs.Lines.{plain_line}
use Rattle.dj_line.specs.Naming.{IsNamedAt}
use Rattle.dj_line.specs.Orders.{plain_order, is_active}
use Rattle.dj_line.specs.Placing.{delta_number, numbers_of, numbers_along}
use Rattle.dj_line.specs.OrderWords.{order_error, IsUnknown, IsPieceOrderError, IsOrderWordError, AreNamed, InOrder, no_lists, list_and, active_along}
use Rattle.dj_line.specs.declared.errors.Order.{Order}
use Rattle.dj_line.specs.declared.errors.OrderError.{OrderError}
use Rattle.dj_line.specs.declared.errors.OrderError.TheVariants.{UnknownDelta, NotAllowed, NoMemory}
use Rattle.dj_line.proofs.AcceptedLines.{numbers_below, number_below, one_named}
use Rattle.dj_line.proofs.ActiveOrders.{active_part, all_append, all_filter}
use Rattle.dj_calculus.proofs.Counting.{got_within, number_in}
use Rattle.dj_line.proofs.DeltaNumbers.{number_of_delta}
use Rattle.dj_line.proofs.Lists.{take_one_more, not_below}
use Rattle.dj_line.proofs.PartItems.{part_items}

-- ---- lists in order

-- where the next list stands in order
pub record InFront (list : List ℕ) (lists : List (List ℕ)) (rest : List ℕ) : Type 0 where
  pub long : length list ≤ length rest
  pub same : IsPermutation list (take (length list) rest)
  pub later : InOrder lists (drop (length list) rest)

pub in_front : (list : List ℕ) (lists : List (List ℕ)) (rest : List ℕ) → InOrder (list ∷ lists) rest → InFront list lists rest
in_front list lists _ (list_and {mine = mine} {later = later} same more) =
    let count : length mine ≡ length list = length_permutation list mine same in
    record {
      long = omega (arith, count, length-append mine later);
      same = rw (sym count, take-append_seam mine later) same;
      later = rw (sym count, drop-append_seam mine later) more;
    }

pub in_order : (list : List ℕ) (lists : List (List ℕ)) (rest : List ℕ) → IsPermutation list (take (length list) rest) → InOrder lists (drop (length list) rest) → InOrder (list ∷ lists) rest
in_order list lists rest same later = subst (InOrder (list ∷ lists)) (take-append-drop (length list) rest) (list_and same later)

-- what is still to be looked at decides about all
pub record Decides (all lists : List (List ℕ)) (deltas rest : List ℕ) : Type 0 where
  pub down : InOrder lists rest → InOrder all deltas
  pub up : InOrder all deltas → InOrder lists rest

-- the lists from this number on
pub from_here : {X : Type 0} (xs : List X) (k : ℕ) (x : X) → slice_get xs k ≡ Some x → drop k xs ≡ x ∷ drop (k + 1) xs
from_here [] k x at = absurd cc
from_here (y ∷ xs) zero x at = let same : y ≡ x = cc in ap (λ z. z ∷ xs) same
from_here (y ∷ xs) (suc k) x at = from_here xs k x at ∙ ap (λ n. x ∷ drop n xs) (add-one k) ∙ ap (λ n. x ∷ drop n (y ∷ xs)) (sym (add-one (suc k)))

module _ (all : List (List ℕ)) (deltas rest : List ℕ) (k : ℕ) (list : List ℕ) (at : slice_get all k ≡ Some list) (decides : Decides all (drop k all) deltas rest) where
  pub front_of : InOrder all deltas → InFront list (drop (k + 1) all) rest
  front_of h = in_front list (drop (k + 1) all) rest (subst (λ lists. InOrder lists rest) (from_here all k list at) (decides.up h))

  pub goes_on : IsPermutation list (take (length list) rest) → Decides all (drop (k + 1) all) deltas (drop (length list) rest)
  goes_on same = record {
    down = λ later. decides.down (subst (λ lists. InOrder lists rest) (sym (from_here all k list at)) (in_order list (drop (k + 1) all) rest same later));
    up = λ h. (front_of h).later;
  }

-- none is left
none_in_order : (rest : List ℕ) → InOrder [] rest → rest ≡ []
none_in_order _ no_lists = refl

drop_past : {X : Type 0} (xs : List X) (k : ℕ) → length xs ≤ k → drop k xs ≡ []
drop_past [] zero past = refl
drop_past [] (suc k) past = refl
drop_past (x ∷ xs) zero past = absurd (omega arith)
drop_past (x ∷ xs) (suc k) past = drop_past xs k (omega arith)

pub at_end : (all : List (List ℕ)) (deltas rest : List ℕ) (k : ℕ) (b : Bool) → length all ≤ k → Decides all (drop k all) deltas rest → (b ≡ true → rest ≡ []) → (rest ≡ [] → b ≡ true) → MatchBool b (InOrder all deltas) (¬ (InOrder all deltas))
at_end all deltas rest k true past decides empty is_empty =
    decides.down (rw (drop_past all k past, empty refl) no_lists)
at_end all deltas rest k false past decides empty is_empty =
    λ h. let e = is_empty (none_in_order rest (subst (λ lists. InOrder lists rest) (drop_past all k past) (decides.up h))) in cc

pub no_elements : {X : Type 0} (xs : List X) → length xs ≡ 0 → xs ≡ []
no_elements [] e = refl
no_elements (x ∷ xs) e = absurd (omega (arith, e))

pub alike : (P : Type 0) (b : Bool) → b ≡ true → MatchBool b P (¬ P) → P
alike P true e h = h
alike P false e h = absurd (cc)

pub unlike : (P : Type 0) (b : Bool) → b ≡ false → MatchBool b P (¬ P) → ¬ P
unlike P true e h = absurd (cc)
unlike P false e h = h

-- ---- numbers and deltas

abbrev nobody : Delta
nobody = record { name = record { text = []; at = 0 }; operations = [] }

no_option : {X : Type 0} (o : Option X) → is_some o ≡ false → o ≡ None
no_option None e = refl
no_option (Some x) e = absurd (cc)

slice_get-take : {X : Type 0} (xs : List X) (k other : ℕ) → other < k → slice_get (take k xs) other ≡ slice_get xs other
slice_get-take xs zero other low = absurd (omega arith)
slice_get-take [] (suc k) other low = refl
slice_get-take (x ∷ xs) (suc k) zero low = refl
slice_get-take (x ∷ xs) (suc k) (suc other) low = slice_get-take xs k other (omega arith)

all_one : (n bound : ℕ) → n < bound → All (λ m. m < bound) (n ∷ [])
all_one n bound low zero d l = low
all_one n bound low (suc j) d l = absurd (omega arith)

none_found : (text : Text) (deltas : List Delta) → is_named (map (λ d. d.name) deltas) text ≡ false → find (λ d. bytes_eq d.name.text text) deltas ≡ None
none_found text [] none = refl
none_found text (d ∷ deltas) none = first_case (bytes_eq d.name.text text) (none_found text deltas) none
  where
    first_case : (b : Bool) → (is_named (map (λ x. x.name) deltas) text ≡ false → find (λ x. bytes_eq x.name.text text) deltas ≡ None) → (b || is_named (map (λ x. x.name) deltas) text) ≡ false
        → cond b (Some d) (find (λ x. bytes_eq x.name.text text) deltas) ≡ None
    first_case true later e = absurd (cc)
    first_case false later e = later e

module _ (source : Source) (accepted : IsAccepted source) where
  abbrev delta_at : ℕ → Delta
  delta_at n = get_or source.deltas n nobody

  abbrev number_of : Delta → ℕ
  number_of d = delta_number source d.name.text

  read_at : (n : ℕ) → n < length source.deltas → slice_get source.deltas n ≡ Some (delta_at n)
  read_at n low = slice_get-get_or source.deltas n nobody low

  -- the first delta of its name is the one that was asked for
  number_at : (n : ℕ) (d : Delta) → slice_get source.deltas n ≡ Some d → number_of d ≡ n
  number_at n d at =
      let named = one_named (λ (x : Delta). x.name) source.deltas d (got_within source.deltas n d at) in
      number_of_delta source accepted n d d.name.text at refl (number_below (λ (x : Delta). x.name) source.deltas d.name.text named)

  below_first : (n : ℕ) (ns : List ℕ) → All (λ k. k < length source.deltas) (n ∷ ns) → n < length source.deltas
  below_first n ns all = all 0 0 (omega arith)

  below_rest : (n : ℕ) (ns : List ℕ) → All (λ k. k < length source.deltas) (n ∷ ns) → All (λ k. k < length source.deltas) ns
  below_rest n ns all j d low = all (suc j) d (omega arith)

  -- an order as a plain list of deltas
  order_map : (ns : List ℕ) → All (λ n. n < length source.deltas) ns → plain_order source ns ≡ map delta_at ns
  order_map [] below = refl
  order_map (n ∷ ns) below = ap (λ o. cons_option o (plain_order source ns)) (read_at n (below_first n ns below)) ∙ ap (λ ds. delta_at n ∷ ds) (order_map ns (below_rest n ns below))

  numbers_back : (ns : List ℕ) → All (λ n. n < length source.deltas) ns → map number_of (map delta_at ns) ≡ ns
  numbers_back [] below = refl
  numbers_back (n ∷ ns) below =
      ap (λ k. k ∷ map number_of (map delta_at ns)) (number_at n (delta_at n) (read_at n (below_first n ns below))) ∙ ap (λ ks. n ∷ ks) (numbers_back ns (below_rest n ns below))

  -- the pieces name the deltas of the numbers
  abbrev kept : {X : Type 0} → List (Option X) → List X
  kept [] = []
  kept (o ∷ os) = cons_option o (kept os)

  kept_map : {X Y : Type 0} (f : X → Option Y) (xs : List X) → filter_map f xs ≡ kept (map f xs)
  kept_map f [] = refl
  kept_map f (x ∷ xs) = ap (cons_option (f x)) (kept_map f xs)

  pub order_named : (pieces : List Text) (ns : List ℕ) → AreNamed source pieces ns → plain_order source ns ≡ filter_map (delta_named source) pieces
  order_named pieces ns named = kept_map (slice_get source.deltas) ns ∙ ap kept (sym named.each) ∙ sym (kept_map (delta_named source) pieces)

  piece_named : (pieces : List Text) (ns : List ℕ) → map (delta_named source) pieces ≡ map (slice_get source.deltas) ns → All (λ n. n < length source.deltas) ns → (k : ℕ) (piece : Text) → slice_get pieces k ≡ Some piece → delta_named source piece ≡ None → ⊥
  piece_named [] ns each below k piece at none = cc
  piece_named (p ∷ pieces) [] each below k piece at none = cc
  piece_named (p ∷ pieces) (n ∷ ns) each below zero piece at none =
      let same : p ≡ piece = cc in
      let first : delta_named source p ≡ slice_get source.deltas n = cc in
      let there = read_at n (below_first n ns below) in
      let missing : delta_named source p ≡ None = ap (delta_named source) same ∙ none in
      cc
  piece_named (p ∷ pieces) (n ∷ ns) each below (suc k) piece at none =
      let later : map (delta_named source) pieces ≡ map (slice_get source.deltas) ns = cc in
      piece_named pieces ns later (below_rest n ns below) k piece at none

  -- the delta of a name is the one whose number was found
  pub named_at : (text : Text) (n : ℕ) → IsNamedAt (map (λ d. d.name) source.deltas) n text → (n < length source.deltas) × (delta_named source text ≡ slice_get source.deltas n)
  named_at text n at =
      let d = mapped (λ (x : Delta). x.name) (slice_get source.deltas n) at.0 (sym (slice_get-map (λ (x : Delta). x.name) source.deltas n) ∙ at.1) in
      let is : d.0.name.text ≡ text = ap (λ (x : Spot). x.text) d.2 ∙ at.2 in
      let named = one_named (λ (x : Delta). x.name) source.deltas d.0 (got_within source.deltas n d.0 d.1) in
      let low = subst (λ t. delta_number source t < length source.deltas) is (number_below (λ (x : Delta). x.name) source.deltas d.0.name.text named) in (
        slice_get_within source.deltas n d.0 d.1,
        find_at (λ (x : Delta). bytes_eq x.name.text text) source.deltas ∙ ap (slice_get source.deltas) (number_of_delta source accepted n d.0 text d.1 is low),
      )

  pub not_named : (text : Text) → is_named (map (λ d. d.name) source.deltas) text ≡ false → delta_named source text ≡ None
  not_named text none = none_found text source.deltas none

  -- ---- allowed orders

  module _ (c : Configuration) where
    active_below : (k : ℕ) (list : List ℕ) → slice_get (numbers_along source) k ≡ Some list → All (λ n. n < length source.deltas) (filter (is_active source c) list)
    active_below k list at = all_filter (length source.deltas) (is_active source c) list (numbers_below source accepted k list at)

    part_below : (part : Part) → Contains (chain source) part → All (λ n. n < length source.deltas) (filter (is_active source c) (numbers_of source part))
    part_below part on =
        let k = number_in (chain source) part on in
        active_below k.0 (numbers_of source part) (slice_get-map (numbers_of source) (chain source) k.0 ∙ ap (option_map (numbers_of source)) k.1)

    -- the active deltas of a part, by their numbers
    active_at : (part : Part) → Contains (chain source) part → map delta_at (filter (is_active source c) (numbers_of source part)) ≡ active source c part
    active_at part on = sym (order_map (filter (is_active source c) (numbers_of source part)) (part_below part on)) ∙ active_part source accepted c part on

    allowed_numbers : (parts : List Part) (order : List Delta) → ((p : Part) → Contains parts p → Contains (chain source) p) → AllowedAlong source c parts order
        → InOrder (map (filter (is_active source c)) (map (numbers_of source) parts)) (map number_of order)
    allowed_numbers _ _ on no_parts = no_lists
    allowed_numbers _ _ on (part_and {part = part} {parts = parts} {mine = mine} {later = later} same more) =
        let here = filter (is_active source c) (numbers_of source part) in
        let on_part = on part (0, omega arith, refl) in
        let numbered : IsPermutation here (map number_of mine) =
        subst (λ list. IsPermutation list (map number_of mine)) (ap (map number_of) (sym (active_at part on_part)) ∙ numbers_back here (part_below part on_part)) (IsPermutation-map number_of (active source c part) mine same) in
        rw (map-append number_of mine later) (list_and numbered (allowed_numbers parts later (λ q has. on q (among_others part q parts has)) more))

    numbers_allowed : (parts : List Part) (ns : List ℕ) → ((p : Part) → Contains parts p → Contains (chain source) p)
        → InOrder (map (filter (is_active source c)) (map (numbers_of source) parts)) ns → AllowedAlong source c parts (map delta_at ns)
    numbers_allowed [] _ on no_lists = no_parts
    numbers_allowed (part ∷ parts) _ on (list_and {mine = mine} {later = later} same more) =
        let here = filter (is_active source c) (numbers_of source part) in
        let on_part = on part (0, omega arith, refl) in
        let there : IsPermutation (active source c part) (map delta_at mine) = subst (λ ds. IsPermutation ds (map delta_at mine)) (active_at part on_part) (IsPermutation-map delta_at here mine same) in
        rw (map-append delta_at mine later) (part_and there (numbers_allowed parts later (λ q has. on q (among_others part q parts has)) more))

    -- the order that these numbers stand for is allowed where the numbers are in order
    module _ (ns : List ℕ) (below : All (λ n. n < length source.deltas) ns) where
      pub allowed_down : InOrder (active_along source c) ns → IsAllowed source c (plain_order source ns)
      allowed_down h = subst (λ ds. AllowedAlong source c (chain source) ds) (sym (order_map ns below)) (numbers_allowed (chain source) ns (λ p has. has) h)

      pub allowed_up : IsAllowed source c (plain_order source ns) → InOrder (active_along source c) ns
      allowed_up h =
          let there = subst (λ ds. AllowedAlong source c (chain source) ds) (order_map ns below) h in
          subst (InOrder (active_along source c)) (numbers_back ns below) (allowed_numbers (chain source) (map delta_at ns) (λ p has. has) there)

-- ---- steps

module _ (source : Source) (accepted : IsAccepted source) (pieces : List Text) (k : ℕ) (ns : List ℕ) (named : AreNamed source (take k pieces) ns) (piece : Text) (at : slice_get pieces k ≡ Some piece) where
  pub unknown_here : is_named (map (λ d. d.name) source.deltas) piece ≡ false → IsUnknown source pieces k × ((other : ℕ) → IsUnknown source pieces other → k ≤ other)
  unknown_here none = (
    record { piece = piece; at = at; none = not_named source accepted piece none },
    (λ other u. not_below k other (λ low.
        piece_named source accepted (take k pieces) ns named.each named.below other u.piece (slice_get-take pieces k other low ∙ u.at) u.none)),
  )

  pub named_next : (n : ℕ) (after : List ℕ) → IsNamedAt (map (λ d. d.name) source.deltas) n piece → after ≡ ns ++ n ∷ [] → AreNamed source (take (k + 1) pieces) after
  named_next n after is pushed =
      let it = named_at source accepted piece n is in
      record {
        each = ap (map (delta_named source)) (take_one_more pieces k piece at) ∙ map-append (delta_named source) (take k pieces) (piece ∷ [])
            ∙ ap (λ ds. ds ++ delta_named source piece ∷ []) named.each ∙ ap (λ d. map (slice_get source.deltas) ns ++ d ∷ []) it.1
            ∙ sym (map-append (slice_get source.deltas) ns (n ∷ [])) ∙ ap (map (slice_get source.deltas)) (sym pushed);
        below = let P : List ℕ → Type 0 = All (λ m. m < length source.deltas) in subst P (sym pushed) (all_append (length source.deltas) ns (n ∷ []) named.below (all_one n (length source.deltas) it.0));
      }

-- a value is pushed where there is no error
pub pushed : {E : Type 0} (result : Result (Unit {0}) E) (xs ys after : List ℕ) → is_err result ≡ false → after ≡ (if is_ok result then xs else ys) → after ≡ xs
pushed (Ok u) xs ys after ok e = e
pushed (Err x) xs ys after ok e = absurd (cc)

-- the active deltas of a part, from the tables of a line
pub active_here : (line : Line) (c : Configuration) (k : ℕ) (read : Vec ℕ Global) (numbers active : List ℕ) → k < length line.items.items → read ≡ get_or line.items.items k read → numbers ≡ read.items
    → active ≡ filter (is_active (plain_line line) c) numbers → slice_get (active_along (plain_line line) c) k ≡ Some active
active_here line c k read numbers active low is are filtered =
    slice_get-map (filter (is_active (plain_line line) c)) (numbers_along (plain_line line)) k
    ∙ ap (option_map (filter (is_active (plain_line line) c))) (part_items line k read numbers low is are) ∙ ap Some (sym filtered)

pub length_along : (line : Line) (c : Configuration) → length (active_along (plain_line line) c) ≡ length line.items.items
length_along line c =
    length-map (numbers_along (plain_line line)) (filter (is_active (plain_line line) c)) ∙ sym (ap length line.tables.items_are) ∙ length-map line.items.items (λ v. v.items)

-- what the pieces say of the word
pub word_order : (source : Source) (accepted : IsAccepted source) (c : Configuration) (word : Text) (pieces : List Text) (ns : List ℕ) → pieces ≡ pieces_of word → AreNamed source pieces ns
    → InOrder (active_along source c) ns → OrderWord source c word (plain_order source ns)
word_order source accepted c word pieces ns are named ordered =
    let P : List Text → Type 0 = λ ps. AreNamed source ps ns in
    let here = subst P are named in
    record {
      known = λ k u. piece_named source accepted (pieces_of word) ns here.each here.below k u.0 u.1 (no_option (delta_named source u.0) u.2);
      names = order_named source accepted (pieces_of word) ns here;
      allowed = allowed_down source accepted c ns here.below ordered;
    }

pub word_disallowed : (source : Source) (accepted : IsAccepted source) (c : Configuration) (word : Text) (pieces : List Text) (ns : List ℕ) → pieces ≡ pieces_of word → AreNamed source pieces ns
    → (InOrder (active_along source c) ns → ⊥) → OrderWordFault source c word not_allowed
word_disallowed source accepted c word pieces ns are named disordered =
    let P : List Text → Type 0 = λ ps. AreNamed source ps ns in
    let here = subst P are named in
    disallowed (λ k u. piece_named source accepted (pieces_of word) ns here.each here.below k u.0 u.1 (no_option (delta_named source u.0) u.2))
    (λ allowed. disordered (allowed_up source accepted c ns here.below (subst (λ ds. IsAllowed source c ds) (sym (order_named source accepted (pieces_of word) ns here)) allowed)))

pub piece_error : (source : Source) (c : Configuration) (word : Text) (pieces : List Text) (error : OrderError) → pieces ≡ pieces_of word → IsPieceOrderError source pieces error → IsOrderWordError source c word error
piece_error source c word pieces (UnknownDelta k) are (here, first) =
    let known : slice_get (pieces_of word) k ≡ Some here.piece = ap (λ ps. slice_get ps k) (sym are) ∙ here.at in
    leftmost k (here.piece, known, ap is_some here.none)
    (λ other u. first other (record { piece = u.0; at = ap (λ ps. slice_get ps other) are ∙ u.1; none = no_option (delta_named source u.0) u.2 }))
piece_error source c word pieces NotAllowed are h = absurd h
piece_error source c word pieces NoMemory are h = tt

-- ---- both ways

abbrev OrderAnswer : Source → Configuration → Text → Result Order OrderError → Type 0
OrderAnswer source c word result = MatchResult result (λ order. OrderWord source c word (plain_order source order.deltas.items)) (IsOrderWordError source c word)

pub no_order_fault : (source : Source) (c : Configuration) (word : Text) (order : List Delta) (fault : OrderFault) → OrderWord source c word order → OrderWordFault source c word fault → ⊥
no_order_fault source c word order _ stands (leftmost k unknown first) = stands.known k unknown
no_order_fault source c word order _ stands (disallowed known none) = none (subst (λ ds. IsAllowed source c ds) stands.names stands.allowed)

pub one_order_fault : (source : Source) (c : Configuration) (word : Text) (f g : OrderFault) → OrderWordFault source c word f → OrderWordFault source c word g → f ≡ g
one_order_fault source c word _ _ (leftmost k unknown first) (leftmost m other least) =
    let same : k ≡ m = omega (arith, first m other, least k unknown) in ap unknown_delta same
one_order_fault source c word _ _ (leftmost k unknown first) (disallowed known none) = absurd (known k unknown)
one_order_fault source c word _ _ (disallowed known none) (leftmost k unknown first) = absurd (known k unknown)
one_order_fault source c word _ _ (disallowed known none) (disallowed _ _) = refl

error_stands : (source : Source) (c : Configuration) (word : Text) (e : OrderError) → IsOrderWordError source c word e → (e ≡ NoMemory → ⊥) → (f : OrderFault) × (e ≡ order_error f) × OrderWordFault source c word f
error_stands source c word (UnknownDelta k) h some = (unknown_delta k, refl, h)
error_stands source c word NotAllowed h some = (not_allowed, refl, h)
error_stands source c word NoMemory h some = absurd (some refl)

stands_error : (source : Source) (c : Configuration) (word : Text) (f : OrderFault) → IsOrderWordError source c word (order_error f) → OrderWordFault source c word f
stands_error source c word (unknown_delta k) h = h
stands_error source c word not_allowed h = h

pub given_exactly : (source : Source) (c : Configuration) (word : Text) (result : Result Order OrderError) → OrderAnswer source c word result → (result ≡ Err NoMemory → ⊥) → IsOk result ↔ ((order : List Delta) × OrderWord source c word order)
given_exactly source c word (Ok order) answer some = ((λ _. (plain_order source order.deltas.items, answer)), (λ _. refl))
given_exactly source c word (Err e) answer some =
    let f = error_stands source c word e answer (λ same. some (ap Err same)) in
    ((λ ok. absurd (cc)), (λ given. absurd (no_order_fault source c word given.0 f.0 given.1 f.2)))

pub refused_exactly : (source : Source) (c : Configuration) (word : Text) (fault : OrderFault) (result : Result Order OrderError) → OrderAnswer source c word result → (result ≡ Err NoMemory → ⊥)
    → (result ≡ Err (order_error fault)) ↔ OrderWordFault source c word fault
refused_exactly source c word fault (Ok order) answer some = ((λ e. absurd (cc)), (λ stands. absurd (no_order_fault source c word (plain_order source order.deltas.items) fault answer stands)))
refused_exactly source c word fault (Err e) answer some = (
  (λ is. let same : e ≡ order_error fault = cc in stands_error source c word fault (subst (IsOrderWordError source c word) same answer)),
  (λ stands.
      let f = error_stands source c word e answer (λ same. some (ap Err same)) in
      ap Err (f.1 ∙ ap order_error (one_order_fault source c word f.0 fault f.2 stands))),
)
