-- Deltas, and parts, are no more than the places that their names stand at.
use Rattle.std.proofs.Common.{◌≡◌, ℕ, zero, suc, ◌+◌, ◌<◌, ◌≤◌, List, [], ◌∷◌, ◌++◌, length, map, slice_get, All, Option, Some, None, refl, sym, ap, ◌∙◌, subst, append_assoc, length-append, arith}
use Rattle.std.specs.Prelude.{codes, slice_index}
use Rattle.std.specs.List.{filter_map, cons_option}
use Rattle.std.specs.List.Sorted.{IsStrictlyIncreasing}
use Rattle.std.proofs.lemmas.List.Elements.{All-head, All-tail}
use Rattle.std.proofs.lemmas.List.{map-append, length-map}
use Rattle.dj_lexer.specs.Symbols.{Symbol}
use Rattle.dj_tree.specs.Repeats.{Many, none, more}
use Rattle.dj_tree.specs.Trees.{Spot, Delta, Part, Source}
use Rattle.dj_tree.specs.Words.{word, sign, named}
use Rattle.dj_tree.specs.LineGrammar.{SpellsDelta, delta, SpellsPart, part, SpellsSource, source}
use Rattle.dj_tree.specs.Spells.{Laid}
use Rattle.dj_calculus.specs.Parts.{first_part, next_part, parts_from, chain}
use Rattle.dj_calculus.proofs.Counting.{there_is}

-- numbers that rise are no less than those of their places
no_less : (xs : List ℕ) → IsStrictlyIncreasing xs → (k : ℕ) → k < length xs → k ≤ slice_index xs k
no_less xs rising zero low = omega arith
no_less xs rising (suc k) low =
    let e : k + 1 ≡ suc k = omega arith in
    let above : slice_index xs k < slice_index xs (suc k) = subst (λ i. slice_index xs k < slice_index xs i) e (rising k (omega arith)) in
    omega (arith, no_less xs rising k (omega arith), above)

behind : (before after : List ℕ) (x : ℕ) → slice_index (before ++ x ∷ after) (length before) ≡ x
behind [] after x = refl
behind (y ∷ before) after x = behind before after x

-- a symbol behind others stands at a place behind as many
pub place_behind : (before after : List Symbol) (s : Symbol) → IsStrictlyIncreasing (map (λ (t : Symbol). t.at) (before ++ s ∷ after)) → length before ≤ s.at
place_behind before after s rising =
    let places : List Symbol → List ℕ = map (λ (t : Symbol). t.at) in
    let joined : places (before ++ s ∷ after) ≡ places before ++ s.at ∷ places after = map-append (λ (t : Symbol). t.at) before (s ∷ after) in
    let number : length (places before) ≡ length before = length-map before (λ (t : Symbol). t.at) in
    let here = no_less (places before ++ s.at ∷ places after) (subst IsStrictlyIncreasing joined rising) (length (places before)) (omega (arith, length-append (places before) (s.at ∷ places after))) in
    omega (arith, number, here, behind (places before) (places after) s.at)

-- pieces that begin with a word, and a name behind it
abbrev BeginsNamed : {X : Type 0} → (List Symbol → X → Type 0) → (X → Spot) → Type 0
BeginsNamed {X} Spells name = (s : List Symbol) (x : X) → Spells s x → (first : Symbol) × ((rest : List Symbol) × (s ≡ first ∷ named (name x) ∷ rest))

-- the name of the k-th piece stands among the tokens, behind more than k of them
record Named {X : Type 0} (tokens : List Symbol) (name : X → Spot) (k : ℕ) (x : X) : Type 0 where
  before : List Symbol
  after : List Symbol
  joined : tokens ≡ before ++ named (name x) ∷ after
  many : k < length before

name_behind : {X : Type 0} (Spells : List Symbol → X → Type 0) (name : X → Spot) → BeginsNamed Spells name → {s : List Symbol} {xs : List X} → Many Spells s xs → (k : ℕ) (x : X) → slice_get xs k ≡ Some x → Named s name k x
name_behind Spells name begins none k x at = absurd cc
name_behind {X} Spells name begins (more {front = front} {rest = rest} {x = y} piece pieces) zero x at =
    let same : y ≡ x = cc in
    let b = begins front y piece in
    record {
      before = b.0 ∷ [];
      after = b.1.0 ++ rest;
      joined = ap (λ l. l ++ rest) b.1.1 ∙ ap (λ (z : X). b.0 ∷ named (name z) ∷ (b.1.0 ++ rest)) same;
      many = omega arith;
    }
name_behind Spells name begins (more {front = front} {rest = rest} {x = y} piece pieces) (suc k) x at =
    let b = begins front y piece in
    let there = name_behind Spells name begins pieces k x at in
    record {
      before = front ++ there.before;
      after = there.after;
      joined = ap (λ l. front ++ l) there.joined ∙ sym (append_assoc front there.before (named (name x) ∷ there.after));
      many = omega (arith, length-append front there.before, ap length b.1.1, there.many);
    }

delta_begins : BeginsNamed SpellsDelta (λ d. d.name)
delta_begins s x (delta at opening closing d is operations) = (word (codes "delta") at, (_, refl))

part_begins : BeginsNamed SpellsPart (λ p. p.name)
part_begins s x (part at opening closing p is before items) = (word (codes "part") at, (_, refl))

module _ {X : Type 0} (name : X → Spot) (k : ℕ) (x : X) where
  named_after : (front tokens : List Symbol) → Named tokens name k x → Named (front ++ tokens) name k x
  named_after front tokens there = record {
    before = front ++ there.before;
    after = there.after;
    joined = ap (λ l. front ++ l) there.joined ∙ sym (append_assoc front there.before (named (name x) ∷ there.after));
    many = omega (arith, length-append front there.before, there.many);
  }

  named_before : (tokens rest : List Symbol) → Named tokens name k x → Named (tokens ++ rest) name k x
  named_before tokens rest there = record {
    before = there.before;
    after = there.after ++ rest;
    joined = ap (λ l. l ++ rest) there.joined ∙ append_assoc there.before (named (name x) ∷ there.after) rest;
    many = there.many;
  }

  -- tokens before a name that stands at a place
  few : (tokens : List Symbol) → IsStrictlyIncreasing (map (λ (t : Symbol). t.at) tokens) → Named tokens name k x → k < (name x).at
  few tokens rising there =
      let along : IsStrictlyIncreasing (map (λ (t : Symbol). t.at) (there.before ++ named (name x) ∷ there.after)) = subst (λ l. IsStrictlyIncreasing (map (λ (t : Symbol). t.at) l)) there.joined rising in
      omega (arith, there.many, place_behind there.before there.after (named (name x)) along)

delta_named_in : (tokens : List Symbol) (s : Source) → SpellsSource tokens s → (k : ℕ) (d : Delta) → slice_get s.deltas k ≡ Some d → Named tokens (λ (e : Delta). e.name) k d
delta_named_in tokens s (source {listed = listed} {condition = condition} {chain = chain} {modules = modules} a b c e f g h title is features valid parts deltas) k d at =
    let after = named_after (λ (e : Delta). e.name) k d in
    let here = name_behind SpellsDelta (λ (e : Delta). e.name) delta_begins deltas k d at in
    let ends = after (sign (codes "}") h ∷ []) modules here in
    let chained = after (sign (codes ";") g ∷ []) (chain ++ sign (codes "}") h ∷ modules) (after chain (sign (codes "}") h ∷ modules) ends) in
    let asked = after (sign (codes ";") e ∷ word (codes "valid") f ∷ []) (condition ++ sign (codes ";") g ∷ (chain ++ sign (codes "}") h ∷ modules)) (after condition _ chained) in
    after (word (codes "line") a ∷ named title ∷ sign (codes "{") b ∷ word (codes "features") c ∷ []) _ (after listed _ asked)

part_named_in : (tokens : List Symbol) (s : Source) → SpellsSource tokens s → (k : ℕ) (p : Part) → slice_get s.parts k ≡ Some p → Named tokens (λ (q : Part). q.name) k p
part_named_in tokens s (source {listed = listed} {condition = condition} {chain = chain} {modules = modules} a b c e f g h title is features valid parts deltas) k p at =
    let after = named_after (λ (q : Part). q.name) k p in
    let here = name_behind SpellsPart (λ (q : Part). q.name) part_begins parts k p at in
    let chained = after (sign (codes ";") g ∷ []) (chain ++ sign (codes "}") h ∷ modules) (named_before (λ (q : Part). q.name) k p chain (sign (codes "}") h ∷ modules) here) in
    let asked = after (sign (codes ";") e ∷ word (codes "valid") f ∷ []) (condition ++ sign (codes ";") g ∷ (chain ++ sign (codes "}") h ∷ modules)) (after condition _ chained) in
    after (word (codes "line") a ∷ named title ∷ sign (codes "{") b ∷ word (codes "features") c ∷ []) _ (after listed _ asked)

-- in a laid source as many deltas stand before one as places before its name
pub deltas_before : (s : Source) → Laid s → (k : ℕ) (d : Delta) → slice_get s.deltas k ≡ Some d → k < d.name.at
deltas_before s laid k d at = few (λ (e : Delta). e.name) k d laid.tokens laid.are_tokens.rising (delta_named_in laid.tokens s laid.spelled k d at)

pub parts_before : (s : Source) → Laid s → (k : ℕ) (p : Part) → slice_get s.parts k ≡ Some p → k < p.name.at
parts_before s laid k p at = few (λ (q : Part). q.name) k p laid.tokens laid.are_tokens.rising (part_named_in laid.tokens s laid.spelled k p at)

-- ---- the chain has no more parts than there are

found_all : {X : Type 0} (xs : List X) (ns : List ℕ) → All (λ k. k < length xs) ns → length (filter_map (slice_get xs) ns) ≡ length ns
found_all xs [] within = refl
found_all xs (k ∷ ns) within =
    let there = there_is xs k (All-head (λ i. i < length xs) k ns within) in
    ap (λ o. length (cons_option o (filter_map (slice_get xs) ns))) there.1 ∙ ap suc (found_all xs ns (All-tail (λ i. i < length xs) k ns within))

steps_at_most : (n : ℕ) (parts : List Part) (o : Option Part) → length (parts_from n parts o) ≤ n
steps_at_most zero parts o = omega arith
steps_at_most (suc n) parts None = omega arith
steps_at_most (suc n) parts (Some p) = omega (arith, steps_at_most n parts (next_part parts p))

pub chain_at_most : (s : Source) (ns : List ℕ) (n : ℕ) → length s.parts ≡ n → All (λ k. k < n) ns → filter_map (slice_get s.parts) ns ≡ chain s → length ns ≤ n
chain_at_most s ns n count within is =
    let below = subst (λ m. All (λ k. k < m) ns) (sym count) within in
    omega (arith, found_all s.parts ns below, ap length is, steps_at_most (length s.parts) s.parts (first_part s.parts), count)
