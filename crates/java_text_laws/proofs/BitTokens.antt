-- The tokens of a text that is put together of words, marks and blanks.
use Rattle.std.proofs.Common.{◌≡◌, ℕ, zero, suc, ◌+◌, ◌≤◌, ◌<◌, Bool, true, false, List, [], ◌∷◌, ◌++◌, length, Some, Contains, refl, sym, ap, ◌∙◌, subst, arith, leb-true}
use Rattle.std.specs.Prelude.{encode_utf8_all, nat_le}
use Rattle.std.specs.List.{list_all}
use Rattle.std.specs.Str.{IsUtf8, IsAscii, chars}
use Rattle.std.proofs.lemmas.Bool.{false≢true}
use Rattle.std.proofs.lemmas.List.Elements.{All-contains}
use Rattle.std.proofs.lemmas.List.Sums.{AllPass-from_list_all}
use Rattle.std.proofs.lemmas.Str.{IsUtf8-append, IsUtf8-from_ascii, IsUtf8-nil, chars-append, chars-IsAscii, chars-nil, encodes-chars, encode_ascii}
use Rattle.unicode_ident.proofs.Computing.{unicode_ident}
use Rattle.dj_names.specs.Texts.{Text}
use Rattle.dj_lexer.specs.Alphabet.{byte_len, continues_word, is_white_space, symbols}
use Rattle.dj_lexer.specs.Tokens.{FirstFails, Piece, white_space, symbol, TokensFrom, TokenList}
use Rattle.dj_lexer.specs.Tokens as tokens
use Rattle.dj_lexer.specs.Symbols.{symbols_of}
use Rattle.dj_lexer.specs.declared.token.Dialect.TheVariants.{Java}
use Rattle.dj_lexer.specs.declared.token.TokenKind.TheVariants.{Word, Symbol as Sign}
use Rattle.dj_lexer.specs.declared.token.Token.{Token}
use Rattle.dj_tree.specs.Words.{word, sign}
use Rattle.dj_lexer.proofs.AnswerLemmas.{Placed, placed_after, placed_piece}
use Rattle.java_text_laws.proofs.JavaWords.{IsWord}
use Rattle.java_text_laws.proofs.Bits.{Mark, opening, closing, left, right, semicolon, comma, dot, equals, code_of, Bit, a_word, a_mark, space, feed, text_of, placed, Apart}

-- ---- marks and blanks

mark_is_ascii : (m : Mark) → code_of m < 128
mark_is_ascii opening = omega arith
mark_is_ascii closing = omega arith
mark_is_ascii left = omega arith
mark_is_ascii right = omega arith
mark_is_ascii semicolon = omega arith
mark_is_ascii comma = omega arith
mark_is_ascii dot = omega arith
mark_is_ascii equals = omega arith

mark_stops : (m : Mark) → continues_word Java (code_of m) ≡ false
unfolding unicode_ident
mark_stops opening = refl
mark_stops closing = refl
mark_stops left = refl
mark_stops right = refl
mark_stops semicolon = refl
mark_stops comma = refl
mark_stops dot = refl
mark_stops equals = refl

space_stops : continues_word Java 32 ≡ false
unfolding unicode_ident
space_stops = refl

feed_stops : continues_word Java 10 ≡ false
unfolding unicode_ident
feed_stops = refl

mark_is_symbol : (m : Mark) → Contains (symbols Java) (code_of m ∷ [])
mark_is_symbol left = (0, omega arith, refl)
mark_is_symbol right = (1, omega arith, refl)
mark_is_symbol opening = (2, omega arith, refl)
mark_is_symbol closing = (3, omega arith, refl)
mark_is_symbol semicolon = (4, omega arith, refl)
mark_is_symbol comma = (5, omega arith, refl)
mark_is_symbol dot = (6, omega arith, refl)
mark_is_symbol equals = (7, omega arith, refl)

short_symbols : list_all (λ s. nat_le (length s) 1) (symbols Java) ≡ true
short_symbols = refl

symbol_is_short : (s : List ℕ) → Contains (symbols Java) s → length s ≤ 1
symbol_is_short s has =
    leb-true (length s) 1 (All-contains (λ t. nat_le (length t) 1 ≡ true) (symbols Java) s (AllPass-from_list_all (λ t. nat_le (length t) 1) (symbols Java) short_symbols) has)

mark_piece : (m : Mark) (rest : List ℕ) → Piece Java (Some Sign) (code_of m ∷ []) rest
mark_piece m rest = symbol (code_of m ∷ []) rest (mark_is_symbol m) (λ other after has e. symbol_is_short other has)

-- ---- characters

one_ascii : (c : ℕ) → c < 128 → IsAscii (c ∷ [])
one_ascii c low zero = low
one_ascii c low (suc i) = omega arith

one_utf8 : (c : ℕ) → c < 128 → IsUtf8 (c ∷ [])
one_utf8 c low = IsUtf8-from_ascii (c ∷ []) (one_ascii c low)

encodes_one : (c : ℕ) → c < 128 → encode_utf8_all (c ∷ []) ≡ c ∷ []
encodes_one c low = rw (encode_ascii c low) refl

abbrev characters : List Bit → List ℕ
characters [] = []
characters (a_word w ∷ bits) = chars w ++ characters bits
characters (a_mark m ∷ bits) = code_of m ∷ characters bits
characters (space ∷ bits) = 32 ∷ characters bits
characters (feed ∷ bits) = 10 ∷ characters bits

is_utf8 : (after : Bool) (bits : List Bit) → Apart after bits → IsUtf8 (text_of bits)
is_utf8 after [] apart = IsUtf8-nil
is_utf8 after (a_word w ∷ bits) apart = IsUtf8-append w (text_of bits) apart.1.0.utf8 (is_utf8 true bits apart.1.1)
is_utf8 after (a_mark m ∷ bits) apart = IsUtf8-append (code_of m ∷ []) (text_of bits) (one_utf8 (code_of m) (mark_is_ascii m)) (is_utf8 false bits apart)
is_utf8 after (space ∷ bits) apart = IsUtf8-append (32 ∷ []) (text_of bits) (one_utf8 32 (omega arith)) (is_utf8 false bits apart)
is_utf8 after (feed ∷ bits) apart = IsUtf8-append (10 ∷ []) (text_of bits) (one_utf8 10 (omega arith)) (is_utf8 false bits apart)

chars_one : (c : ℕ) (text : Text) → c < 128 → chars (c ∷ text) ≡ c ∷ chars text
chars_one c text low = chars-append (c ∷ []) text (one_utf8 c low) ∙ ap (λ cs. cs ++ chars text) (chars-IsAscii (c ∷ []) (one_ascii c low))

are_characters : (after : Bool) (bits : List Bit) → Apart after bits → chars (text_of bits) ≡ characters bits
are_characters after [] apart = chars-nil
are_characters after (a_word w ∷ bits) apart = chars-append w (text_of bits) apart.1.0.utf8 ∙ ap (λ cs. chars w ++ cs) (are_characters true bits apart.1.1)
are_characters after (a_mark m ∷ bits) apart = chars_one (code_of m) (text_of bits) (mark_is_ascii m) ∙ ap (λ cs. code_of m ∷ cs) (are_characters false bits apart)
are_characters after (space ∷ bits) apart = chars_one 32 (text_of bits) (omega arith) ∙ ap (λ cs. 32 ∷ cs) (are_characters false bits apart)
are_characters after (feed ∷ bits) apart = chars_one 10 (text_of bits) (omega arith) ∙ ap (λ cs. 10 ∷ cs) (are_characters false bits apart)

-- what stands behind a word goes on with none
no_more : (bits : List Bit) → Apart true bits → FirstFails (continues_word Java) (characters bits)
no_more [] apart = tt
no_more (a_word w ∷ bits) apart = absurd (false≢true (sym apart.0))
no_more (a_mark m ∷ bits) apart = mark_stops m
no_more (space ∷ bits) apart = space_stops
no_more (feed ∷ bits) apart = feed_stops

-- ---- tokens

-- tokens of the characters, which are the symbols
record Lexed (at : ℕ) (bits : List Bit) : Type 0 where
  tokens : List Token
  from : TokensFrom Java at (characters bits) tokens
  symbols : (bytes : List ℕ) → Placed bytes at (characters bits) → symbols_of bytes tokens ≡ placed at bits

word_len : (w : Text) → IsUtf8 w → byte_len (chars w) ≡ length w
word_len w utf8 = ap length (encodes-chars w utf8)

lexed_word : (at : ℕ) (w : Text) (bits : List Bit) → IsWord w → FirstFails (continues_word Java) (characters bits) → Lexed (at + length w) bits → Lexed at (a_word w ∷ bits)
lexed_word at w bits is fails rest =
    let long : byte_len (chars w) ≡ length w = word_len w is.utf8 in
    let later : TokensFrom Java (at + byte_len (chars w)) (characters bits) rest.tokens = subst (λ n. TokensFrom Java (at + n) (characters bits) rest.tokens) (sym long) rest.from in
    record {
      tokens = record { kind = Word; from = at; to = at + byte_len (chars w) } ∷ rest.tokens;
      from = tokens.token at Word (chars w) (characters bits) rest.tokens (is.stands (characters bits) fails) later;
      symbols = λ bytes stands.
          let text = placed_piece bytes at (chars w) (characters bits) stands ∙ encodes-chars w is.utf8 in
          let others = rest.symbols bytes (subst (λ n. Placed bytes (at + n) (characters bits)) long (placed_after bytes at (chars w) (characters bits) stands)) in
          ap (λ t. record { kind = Word; text = t; at = at } ∷ symbols_of bytes rest.tokens) text ∙ ap (λ s. word w at ∷ s) others;
    }

one_byte : (c : ℕ) → c < 128 → byte_len (c ∷ []) ≡ 1
one_byte c low = rw (encode_ascii c low) refl

lexed_mark : (at : ℕ) (m : Mark) (bits : List Bit) → Lexed (at + 1) bits → Lexed at (a_mark m ∷ bits)
lexed_mark at m bits rest =
    let low = mark_is_ascii m in
    let long : byte_len (code_of m ∷ []) ≡ 1 = one_byte (code_of m) low in
    let later : TokensFrom Java (at + byte_len (code_of m ∷ [])) (characters bits) rest.tokens = subst (λ n. TokensFrom Java (at + n) (characters bits) rest.tokens) (sym long) rest.from in
    record {
      tokens = record { kind = Sign; from = at; to = at + byte_len (code_of m ∷ []) } ∷ rest.tokens;
      from = tokens.token at Sign (code_of m ∷ []) (characters bits) rest.tokens (mark_piece m (characters bits)) later;
      symbols = λ bytes stands.
          let text = placed_piece bytes at (code_of m ∷ []) (characters bits) stands ∙ encodes_one (code_of m) low in
          let others = rest.symbols bytes (subst (λ n. Placed bytes (at + n) (characters bits)) long (placed_after bytes at (code_of m ∷ []) (characters bits) stands)) in
          ap (λ t. record { kind = Sign; text = t; at = at } ∷ symbols_of bytes rest.tokens) text ∙ ap (λ s. sign (code_of m ∷ []) at ∷ s) others;
    }

lexed_blank : (at c : ℕ) (bits : List Bit) (blank : Bit) → c < 128 → is_white_space c ≡ true → characters (blank ∷ bits) ≡ c ∷ characters bits
    → placed at (blank ∷ bits) ≡ placed (at + 1) bits → Lexed (at + 1) bits → Lexed at (blank ∷ bits)
lexed_blank at c bits blank low white chars_are placed_are rest =
    let long : byte_len (c ∷ []) ≡ 1 = one_byte c low in
    let later : TokensFrom Java (at + byte_len (c ∷ [])) (characters bits) rest.tokens = subst (λ n. TokensFrom Java (at + n) (characters bits) rest.tokens) (sym long) rest.from in
    record {
      tokens = rest.tokens;
      from = subst (λ cs. TokensFrom Java at cs rest.tokens) (sym chars_are) (tokens.skipped at (c ∷ []) (characters bits) rest.tokens (white_space c (characters bits) white) later);
      symbols = λ bytes stands.
          let behind = placed_after bytes at (c ∷ []) (characters bits) (subst (Placed bytes at) chars_are stands) in
          rest.symbols bytes (subst (λ n. Placed bytes (at + n) (characters bits)) long behind) ∙ sym placed_are;
    }

lexed : (at : ℕ) (after : Bool) (bits : List Bit) → Apart after bits → Lexed at bits
lexed at after [] apart = record { tokens = []; from = tokens.end at; symbols = λ bytes stands. refl }
lexed at after (a_word w ∷ bits) apart = lexed_word at w bits apart.1.0 (no_more bits apart.1.1) (lexed (at + length w) true bits apart.1.1)
lexed at after (a_mark m ∷ bits) apart = lexed_mark at m bits (lexed (at + 1) false bits apart)
lexed at after (space ∷ bits) apart = lexed_blank at 32 bits space (omega arith) refl refl refl (lexed (at + 1) false bits apart)
lexed at after (feed ∷ bits) apart = lexed_blank at 10 bits feed (omega arith) refl refl refl (lexed (at + 1) false bits apart)

-- the text has tokens, and their symbols are those that are placed
pub record HasTokens (bits : List Bit) : Type 0 where
  pub tokens : List Token
  pub list : TokenList Java (text_of bits) tokens
  pub symbols : symbols_of (text_of bits) tokens ≡ placed 0 bits

pub has_tokens : (bits : List Bit) → Apart false bits → HasTokens bits
has_tokens bits apart =
    let are = are_characters false bits apart in
    let utf8 = is_utf8 false bits apart in
    let made = lexed 0 false bits apart in
    record {
      tokens = made.tokens;
      list = (utf8, subst (λ cs. TokensFrom Java 0 cs made.tokens) (sym are) made.from);
      symbols = made.symbols (text_of bits) (record { before = []; splits = sym (encodes-chars (text_of bits) utf8) ∙ ap encode_utf8_all are; len = refl });
    }
