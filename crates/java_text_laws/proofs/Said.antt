-- Texts that say something: as bits, and read from any place on.
use Rattle.std.proofs.Common.{◌≡◌, ℕ, false, List, codes, refl}
use Rattle.std.proofs.Math.Utf8.{encode}
use Rattle.unicode_ident.proofs.Computing.{unicode_ident}
use Rattle.dj_names.specs.Texts.{Text}
use Rattle.dj_lexer.specs.Symbols.{Symbol}
use Rattle.java_text_laws.specs.Writable.{IsJavaName}
use Rattle.java_text_laws.proofs.JavaWords.{IsWord, is_word, name_is_word as spot_is_word}
use Rattle.java_text_laws.proofs.Bits.{Bit, text_of, placed, Apart}

-- The text, in bits, says u: from each place on its symbols spell some x that is u but for places.
pub record Said {X U : Type 0} (Spells : List Symbol → X → Type 0) (bare : X → U) (u : U) (text : Text) : Type 0 where
  pub bits : List Bit
  pub writes : text_of bits ≡ text
  pub apart : Apart false bits
  pub reads : (at : ℕ) → (x : X) × (Spells (placed at bits) x × (bare x ≡ u))

-- the same text in a larger grammar
pub lifted : {X U : Type 0} {S T : List Symbol → X → Type 0} {bare : X → U} {u : U} {text : Text} → ((s : List Symbol) (x : X) → S s x → T s x)
    → Said S bare u text → Said T bare u text
lifted grow said = record {
  bits = said.bits;
  writes = said.writes;
  apart = said.apart;
  reads = λ at. let it = said.reads at in (it.0, (grow (placed at said.bits) it.0 it.1.0, it.1.1));
}

-- ---- words

pub name_is_word : (name : Text) → IsJavaName name → IsWord name
name_is_word name is = spot_is_word (record { text = name; at = 0 }) is.token

pub class_is_word : IsWord (codes "class")
unfolding unicode_ident encode
class_is_word = is_word (codes "class") refl (codes "class") refl

pub extends_is_word : IsWord (codes "extends")
unfolding unicode_ident encode
extends_is_word = is_word (codes "extends") refl (codes "extends") refl

pub return_is_word : IsWord (codes "return")
unfolding unicode_ident encode
return_is_word = is_word (codes "return") refl (codes "return") refl

pub this_is_word : IsWord (codes "this")
unfolding unicode_ident encode
this_is_word = is_word (codes "this") refl (codes "this") refl

pub null_is_word : IsWord (codes "null")
unfolding unicode_ident encode
null_is_word = is_word (codes "null") refl (codes "null") refl

pub new_is_word : IsWord (codes "new")
unfolding unicode_ident encode
new_is_word = is_word (codes "new") refl (codes "new") refl
