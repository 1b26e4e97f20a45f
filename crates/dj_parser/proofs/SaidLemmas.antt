-- Texts that symbols say: no more than the symbols, and UTF-8 where theirs are.
use Rattle.std.proofs.Common.{◌≤◌, List, [], ◌∷◌, ◌++◌, length, length-append, arith}
use Rattle.std.specs.Prelude.{All}
use Rattle.std.specs.Str.{IsUtf8}
use Rattle.std.proofs.lemmas.Str.{IsUtf8-nil}
use Rattle.std.proofs.lemmas.List.Elements.{All-nil, All-cons, All-head, All-tail, All-append}
use Rattle.dj_names.specs.Texts.{Text}
use Rattle.dj_lexer.specs.Symbols.{Symbol}

pub All-front : {X : Type 0} (P : X → Type 0) (xs ys : List X) → All P (xs ++ ys) → All P xs
All-front P [] ys all = All-nil P
All-front P (x ∷ xs) ys all = All-cons P x xs (All-head P x (xs ++ ys) all) (All-front P xs ys (All-tail P x (xs ++ ys) all))

pub All-back : {X : Type 0} (P : X → Type 0) (xs ys : List X) → All P (xs ++ ys) → All P ys
All-back P [] ys all = all
All-back P (x ∷ xs) ys all = All-back P xs ys (All-tail P x (xs ++ ys) all)

abbrev pub HasText : Symbol → Type 0
HasText s = IsUtf8 s.text

pub record IsSaid (symbols : List Symbol) (texts : List Text) : Type 0 where
  pub few : length texts ≤ length symbols
  pub utf8 : All HasText symbols → All IsUtf8 texts

pub silence : (symbols : List Symbol) → IsSaid symbols []
silence symbols = record { few = omega arith; utf8 = λ all. All-nil IsUtf8 }

-- a symbol says its text
pub here : (s : Symbol) → IsSaid (s ∷ []) (s.text ∷ [])
here s = record { few = omega arith; utf8 = λ all. All-cons IsUtf8 s.text [] (All-head HasText s [] all) (All-nil IsUtf8) }

-- a symbol stands for a node without a name
pub blank : (s : Symbol) → IsSaid (s ∷ []) ([] ∷ [])
blank s = record { few = omega arith; utf8 = λ all. All-cons IsUtf8 [] [] IsUtf8-nil (All-nil IsUtf8) }

pub both : {s t : List Symbol} {a b : List Text} → IsSaid s a → IsSaid t b → IsSaid (s ++ t) (a ++ b)
both {s = s} {t = t} {a = a} {b = b} p q =
    record {
      few = omega (arith, p.few, q.few, length-append s t, length-append a b);
      utf8 = λ all. All-append IsUtf8 a b (p.utf8 (All-front HasText s t all)) (q.utf8 (All-back HasText s t all));
    }

-- the same, where the texts stand in the other order
pub turned : {s t : List Symbol} {a b : List Text} → IsSaid s a → IsSaid t b → IsSaid (s ++ t) (b ++ a)
turned {s = s} {t = t} {a = a} {b = b} p q =
    record {
      few = omega (arith, p.few, q.few, length-append s t, length-append b a);
      utf8 = λ all. All-append IsUtf8 b a (q.utf8 (All-back HasText s t all)) (p.utf8 (All-front HasText s t all));
    }

-- symbols that say nothing, in front and behind
pub silent : {t : List Symbol} {a : List Text} (s : Symbol) → IsSaid t a → IsSaid (s ∷ t) a
silent s p = both (silence (s ∷ [])) p

pub before : {s : List Symbol} {a : List Text} (t : List Symbol) → IsSaid s a → IsSaid (s ++ t) a
before {s = s} t p =
    record { few = omega (arith, p.few, length-append s t); utf8 = λ all. p.utf8 (All-front HasText s t all) }
