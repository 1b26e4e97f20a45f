-- Words of the Java dialect: their bytes are UTF-8, and in front of what ends them they are one token.
use Rattle.std.proofs.Common.{◌≡◌, ◌⊎◌, ℕ, Bool, true, false, not, ◌||◌, ◌&&◌, ◌==◌, cond, inl, inr, ltb, lt-ltb, le-ltb, le-leb, Option, Some, List, [], ◌∷◌, codes, refl, sym, subst, arith}
use Rattle.std.specs.Prelude.{encode_utf8_all}
use Rattle.std.specs.Prelude.{Decides}
use Rattle.std.specs.List.{list_all}
use Rattle.std.specs.Str.{IsUtf8, is_utf8, bytes_eq, chars}
use Rattle.std.proofs.Math.Utf8.{scalar, scalars, low_scalar}
use Rattle.std.proofs.lemmas.Bool.{cases_lt, lt-leb, and_parts, and_from, eqb-true, false≢true}
use Rattle.std.proofs.lemmas.List.Sums.{AllPass-from_list_all, list_all-from_AllPass}
use Rattle.std.proofs.lemmas.Grind.{not_there}
use Rattle.std.proofs.lemmas.Slice.Eq.{bytes_eq-Decides}
use Rattle.std.proofs.lemmas.Str.{chars-encodes, encodes-chars, chars_from_encodes, IsUtf8-from_is_utf8, is_utf8-from_IsUtf8}
use Rattle.ucd_table.specs.Steps.{Step, step_value}
use Rattle.ucd_table.proofs.Stepped.{Stepped, zip_stepped}
use Rattle.ucd_table.proofs.Facts.{Stepped-everywhere}
use Rattle.ucd_derived.proofs.BinaryLemmas.{is_xid_continue_stepped}
use Rattle.unicode_ident.specs.Ident.{is_xid_start, is_xid_continue}
use Rattle.unicode_ident.proofs.IdentLemmas.{is_xid_start-is_xid_continue}
use Rattle.unicode_ident.proofs.Computing.{unicode_ident}
use Rattle.dj_names.specs.Texts.{Text}
use Rattle.dj_lexer.specs.Alphabet.{starts_word, continues_word}
use Rattle.dj_lexer.specs.Tokens.{FirstFails, Piece, white_space, line_comment, block_comment, word, symbol}
use Rattle.dj_lexer.specs.Symbols.{IsToken}
use Rattle.dj_lexer.specs.declared.token.Dialect.TheVariants.{Java}
use Rattle.dj_lexer.specs.declared.token.TokenKind.{TokenKind}
use Rattle.dj_lexer.specs.declared.token.TokenKind.TheVariants.{Word}
use Rattle.dj_tree.specs.Words.{named}
use Rattle.dj_tree.specs.Trees.{Spot}

-- ---- characters of words are characters

scalar_steps : List (Step Bool)
scalar_steps = (55296, true) ∷ (57344, false) ∷ (1114112, true) ∷ []

last_range : (b : Bool) → (true && b) ≡ cond b true false
last_range true = refl
last_range false = refl

-- the steps of a test that passes up to a number, fails up to another, and passes up to a third
stepped : (c : ℕ) → scalar c ≡ cond (ltb c 55296) true (cond (ltb c 57344) false (cond (ltb c 1114112) true false))
stepped c = elim (cases_lt c 55296) [
  | inl low ↦ rw (lt-ltb c 55296 low) refl
  | inr past ↦ elim (cases_lt c 57344) [
    | inl gap ↦ rw (le-ltb c 55296 past, lt-ltb c 57344 gap, lt-leb 57344 c gap) refl
    | inr high ↦ rw (le-ltb c 55296 past, le-ltb c 57344 high, le-leb 57344 c high) (last_range (ltb c 1114112))
  ]
]

gives_scalar : (c : ℕ) → scalar c ≡ step_value false ((55296, true) ∷ (57344, false) ∷ (1114112, true) ∷ []) c
unfolding step_value
gives_scalar c = stepped c

abbrev scalar_stepped : Stepped scalar
scalar_stepped = record { default = false; steps = (55296, true) ∷ (57344, false) ∷ (1114112, true) ∷ []; gives = gives_scalar }

continuing_is_scalar : (c : ℕ) → is_xid_continue c ≡ true → scalar c ≡ true
unfolding unicode_ident
continuing_is_scalar c continues =
    let both = zip_stepped (λ a b. not a || b) is_xid_continue scalar is_xid_continue_stepped scalar_stepped in
    subst (λ a. (not a || scalar c) ≡ true) continues (Stepped-everywhere _ both refl c)

or_cases : (a b : Bool) → (a || b) ≡ true → (a ≡ true) ⊎ (b ≡ true)
or_cases true b e = inl refl
or_cases false b e = inr e

continues_scalar : (c : ℕ) → continues_word Java c ≡ true → scalar c ≡ true
continues_scalar c e = elim (or_cases (is_xid_continue c) (c == 36) e) [
  | inl x ↦ continuing_is_scalar c x
  | inr dollar ↦ low_scalar c (omega (arith, eqb-true c 36 dollar))
]

starts_scalar : (c : ℕ) → starts_word Java c ≡ true → scalar c ≡ true
starts_scalar c e = elim (or_cases (is_xid_start c || (c == 95)) (c == 36) e) [
  | inl front ↦ elim (or_cases (is_xid_start c) (c == 95) front) [
    | inl x ↦ continuing_is_scalar c (is_xid_start-is_xid_continue c x)
    | inr low ↦ low_scalar c (omega (arith, eqb-true c 95 low))
  ]
  | inr dollar ↦ low_scalar c (omega (arith, eqb-true c 36 dollar))
]

all_scalars : (cs : List ℕ) → list_all (continues_word Java) cs ≡ true → scalars cs ≡ true
all_scalars [] all = refl
all_scalars (c ∷ cs) all =
    let parts = and_parts (continues_word Java c) (list_all (continues_word Java) cs) all in
    and_from (scalar c) (scalars cs) (continues_scalar c parts.0) (all_scalars cs parts.1)

-- ---- words

-- the bytes of a word: in front of what no word goes on with, its characters are one token
pub record IsWord (text : Text) : Type 0 where
  pub utf8 : IsUtf8 text
  pub stands : (rest : List ℕ) → FirstFails (continues_word Java) rest → Piece Java (Some Word) (chars text) rest

-- whether characters make a word
abbrev pub is_java_word : List ℕ → Bool
is_java_word [] = false
is_java_word (first ∷ more) = starts_word Java first && (list_all (continues_word Java) more && not (bytes_eq (first ∷ more) (codes "_")))

unlike_by : {P : Type 0} (b : Bool) → Decides b P → not b ≡ true → ¬ P
unlike_by true is e = absurd (false≢true e)
unlike_by false is e = λ p. false≢true (is.1 p)

pub by_unlike : {P : Type 0} (b : Bool) → Decides b P → ¬ P → not b ≡ true
by_unlike true is other = absurd (other (is.0 refl))
by_unlike false is other = refl

characters_stand : (cs : List ℕ) → is_java_word cs ≡ true → (rest : List ℕ) → FirstFails (continues_word Java) rest → Piece Java (Some Word) cs rest
characters_stand [] is rest fails = absurd (false≢true is)
characters_stand (first ∷ more) is rest fails =
    let parts = and_parts (starts_word Java first) (list_all (continues_word Java) more && not (bytes_eq (first ∷ more) (codes "_"))) is in
    let others = and_parts (list_all (continues_word Java) more) (not (bytes_eq (first ∷ more) (codes "_"))) parts.1 in
    word first more rest parts.0 (AllPass-from_list_all (continues_word Java) more others.0) fails (unlike_by (bytes_eq (first ∷ more) (codes "_")) (bytes_eq-Decides (first ∷ more) (codes "_")) others.1)

word_are_scalars : (cs : List ℕ) → is_java_word cs ≡ true → scalars cs ≡ true
word_are_scalars [] is = refl
word_are_scalars (first ∷ more) is =
    let parts = and_parts (starts_word Java first) (list_all (continues_word Java) more && not (bytes_eq (first ∷ more) (codes "_"))) is in
    let others = and_parts (list_all (continues_word Java) more) (not (bytes_eq (first ∷ more) (codes "_"))) parts.1 in
    and_from (scalar first) (scalars more) (starts_scalar first parts.0) (all_scalars more others.0)

pub is_word : (cs : List ℕ) → is_java_word cs ≡ true → (text : Text) → text ≡ encode_utf8_all cs → IsWord text
is_word cs is text e =
    let are = word_are_scalars cs is in
    subst IsWord (sym e) (record {
      utf8 = (cs, (are, refl));
      stands = λ rest fails. subst (λ ds. Piece Java (Some Word) ds rest) (sym (chars-encodes cs are)) (characters_stand cs is rest fails);
    })

-- a word is a token, and a token of letters a word
pub word_is_token : (cs : List ℕ) → is_java_word cs ≡ true → (x : Spot) → x.text ≡ encode_utf8_all cs → IsToken Java (named x)
word_is_token cs is x e = (cs, ([], (characters_stand cs is [] tt, e)))

word_of_piece : (kind : Option TokenKind) (cs rest : List ℕ) → kind ≡ Some Word → Piece Java kind cs rest → is_java_word cs ≡ true
word_of_piece kind cs rest is (white_space c r white) = absurd cc
word_of_piece kind cs rest is (line_comment body r all fails) = absurd cc
word_of_piece kind cs rest is (block_comment body r none) = absurd cc
word_of_piece kind cs rest is (symbol t r has longest) = absurd cc
word_of_piece kind cs rest is (word first more r starts all fails other) =
    and_from (starts_word Java first) _ starts (and_from (list_all (continues_word Java) more) _ (list_all-from_AllPass (continues_word Java) more all) (by_unlike (bytes_eq (first ∷ more) (codes "_")) (bytes_eq-Decides (first ∷ more) (codes "_")) other))

token_is_test : (x : Spot) → IsToken Java (named x) → IsUtf8 x.text × (is_java_word (chars x.text) ≡ true)
token_is_test x token =
    let is = word_of_piece (Some Word) token.0 token.1.0 refl token.1.1.0 in
    let are = word_are_scalars token.0 is in
    let utf8 : IsUtf8 x.text = (token.0, (are, sym token.1.1.1)) in
    (utf8, subst (λ cs. is_java_word cs ≡ true) (chars_from_encodes token.0 x.text utf8 (sym token.1.1.1)) is)

-- that the name is a token is enough, whichever text has it
pub name_is_test : (x : Spot) → ∥ IsToken Java (named x) ∥₁ → IsUtf8 x.text × (is_java_word (chars x.text) ≡ true)
name_is_test x token = (
  IsUtf8-from_is_utf8 x.text (passes (is_utf8 x.text) (λ t. is_utf8-from_IsUtf8 x.text (token_is_test x t).0)),
  passes (is_java_word (chars x.text)) (λ t. (token_is_test x t).1),
)
  where
    passes : (b : Bool) → (IsToken Java (named x) → b ≡ true) → b ≡ true
    passes true all = refl
    passes false all = absurd (not_there token (λ t. false≢true (all t)))

pub name_is_word : (x : Spot) → ∥ IsToken Java (named x) ∥₁ → IsWord x.text
name_is_word x token =
    let tested = name_is_test x token in
    is_word (chars x.text) tested.1 x.text (sym (encodes-chars x.text tested.0))
