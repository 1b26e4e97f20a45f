-- What the tests on a symbol say.
use Rattle.std.proofs.Common.{◌≡◌, ℕ, Bool, true, false, refl, sym, ap, ◌∙◌}
use Rattle.std.specs.Prelude.{◌&&◌, not}
use Rattle.std.specs.Str.{bytes_eq}
use Rattle.std.proofs.lemmas.Slice.Eq.{bytes_eq-Decides}
use Rattle.dj_lexer.specs.declared.token.TokenKind.{TokenKind}
use Rattle.dj_lexer.specs.declared.token.TokenKind.TheVariants.{Word, Symbol as Sign}
use Rattle.dj_names.specs.Texts.{Text}
use Rattle.dj_lexer.specs.Symbols.{Symbol}
use Rattle.dj_tree.specs.Words.{word, sign, named, IsName, is_reserved}
use Rattle.dj_tree.specs.Trees.{Spot}
use Rattle.dj_reader.specs.Terminals.{is_word_kind, is_the_word, is_the_sign, is_a_name, spot_of}

-- ---- a test that holds tells the symbol, and each such symbol passes it

sign_of_parts : (k : TokenKind) (u text : Text) (at : ℕ) → (not (is_word_kind k) && bytes_eq u text) ≡ true → record { kind = k; text = u; at = at } ≡ sign text at
sign_of_parts Word u text at h = absurd (let impossible : false ≡ true = h in cc)
sign_of_parts Sign u text at h = ap (λ t. sign t at) ((bytes_eq-Decides u text).0 h)

pub sign_is : (text : Text) (s : Symbol) → is_the_sign text s ≡ true → s ≡ sign text s.at
sign_is text s h = sign_of_parts s.kind s.text text s.at h

pub is_sign : (text : Text) (at : ℕ) → is_the_sign text (sign text at) ≡ true
is_sign text at = (bytes_eq-Decides text text).1 refl

word_of_parts : (k : TokenKind) (u text : Text) (at : ℕ) → (is_word_kind k && bytes_eq u text) ≡ true → record { kind = k; text = u; at = at } ≡ word text at
word_of_parts Word u text at h = ap (λ t. word t at) ((bytes_eq-Decides u text).0 h)
word_of_parts Sign u text at h = absurd (let impossible : false ≡ true = h in cc)

pub word_is : (text : Text) (s : Symbol) → is_the_word text s ≡ true → s ≡ word text s.at
word_is text s h = word_of_parts s.kind s.text text s.at h

pub is_word : (text : Text) (at : ℕ) → is_the_word text (word text at) ≡ true
is_word text at = (bytes_eq-Decides text text).1 refl

name_of_parts : (k : TokenKind) (u : Text) (at : ℕ) → (is_word_kind k && not (is_reserved u)) ≡ true
    → (record { kind = k; text = u; at = at } ≡ word u at) × (is_reserved u ≡ false)
name_of_parts Word u at h = (refl, not_reserved (is_reserved u) h)
  where
    not_reserved : (b : Bool) → not b ≡ true → b ≡ false
    not_reserved true h = sym h
    not_reserved false h = refl
name_of_parts Sign u at h = absurd (let impossible : false ≡ true = h in cc)

pub name_is : (s : Symbol) → is_a_name s ≡ true → (s ≡ named (spot_of s)) × IsName (spot_of s)
name_is s h = name_of_parts s.kind s.text s.at h

pub is_name : (x : Spot) → IsName x → is_a_name (named x) ≡ true
is_name x i = rw i refl

-- a word is no sign
pub word_no_sign : (s : Symbol) (text other : Text) → is_the_word text s ≡ true → is_the_sign other s ≡ false
word_no_sign s text other h = rw (word_is text s h) refl

-- a word that is a name is none of the reserved ones
pub not_word : (x : Spot) → IsName x → (text : Text) → is_reserved text ≡ true → bytes_eq x.text text ≡ false
not_word x i text r = by_test (bytes_eq x.text text) refl
  where
    by_test : (b : Bool) → bytes_eq x.text text ≡ b → b ≡ false
    by_test true h = let same : x.text ≡ text = (bytes_eq-Decides x.text text).0 h in let clash : true ≡ false = sym r ∙ ap is_reserved (sym same) ∙ i in absurd cc
    by_test false h = refl
