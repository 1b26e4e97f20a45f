-- Names of products are names of Java: words of the line dialect, and the names of versions.
use Rattle.std.proofs.Common.{◌≡◌, ◌≢◌, ◌⊎◌, inl, inr, ℕ, zero, suc, ◌+◌, ◌/◌, ◌%◌, ◌<◌, ◌≤◌, Bool, true, false, cond, not, ◌||◌, ◌&&◌, ◌==◌, nat_lt, lt-ltb, le-ltb, Option, Some, List, [], ◌∷◌, ◌++◌, codes, refl, sym, ap, ◌∙◌, subst, arith}
use Rattle.std.specs.Prelude.{encode_utf8_all, Decides}
use Rattle.std.specs.List.{list_any, list_all}
use Rattle.std.specs.Str.{IsUtf8, IsAscii, bytes_eq, chars}
use Rattle.std.specs.Fmt.{decimal, digits, digits_onto, digit_glyph}
use Rattle.std.proofs.Math.Utf8.{encode}
use Rattle.std.proofs.lemmas.Bool.{and_parts, and_from, false≢true, eqb-true, ltb-true}
use Rattle.std.proofs.lemmas.List.Folds.{list_all-append}
use Rattle.std.proofs.lemmas.List.Sums.{list_all-from_AllPass, AllPass-from_list_all}
use Rattle.std.proofs.lemmas.Slice.Eq.{bytes_eq-Decides}
use Rattle.std.proofs.lemmas.Str.Ascii.{IsAscii-from_all}
use Rattle.std.proofs.lemmas.Str.{encodes-append, encodes-chars, encodes-IsAscii, encode_ascii}
use Rattle.ucd_table.proofs.Facts.{Stepped-below}
use Rattle.ucd_derived.proofs.BinaryLemmas.{is_xid_continue_stepped}
use Rattle.unicode_ident.specs.Ident.{is_xid_start, is_xid_continue}
use Rattle.unicode_ident.proofs.IdentLemmas.{is_xid_start-is_xid_continue}
use Rattle.unicode_ident.proofs.Computing.{unicode_ident}
use Rattle.dj_names.specs.Texts.{Text}
use Rattle.dj_lexer.specs.Alphabet.{starts_word, continues_word}
use Rattle.dj_lexer.specs.Tokens.{Piece, white_space, line_comment, block_comment, word, symbol}
use Rattle.dj_lexer.specs.Symbols.{IsToken}
use Rattle.dj_lexer.specs.declared.token.Dialect.TheVariants.{Line, Java}
use Rattle.dj_lexer.specs.declared.token.TokenKind.{TokenKind}
use Rattle.dj_lexer.specs.declared.token.TokenKind.TheVariants.{Word}
use Rattle.dj_tree.specs.Words.{named, IsName, is_reserved, reserved_words}
use Rattle.dj_tree.specs.Trees.{Spot}
use Rattle.dj_calculus.specs.FlatTables.{version_name, has_dollar}
use Rattle.dj_calculus_laws.proofs.VersionNames.{version_has_dollar}
use Rattle.java_text_laws.specs.Writable.{IsJavaName}
use Rattle.java_text_laws.proofs.JavaWords.{is_java_word, by_unlike, word_is_token, name_is_test}

-- ---- what begins a word may go on with it, and so may a digit

or_cases : (a b : Bool) → (a || b) ≡ true → (a ≡ true) ⊎ (b ≡ true)
or_cases true b e = inl refl
or_cases false b e = inr e

or_first : (a b : Bool) → a ≡ true → (a || b) ≡ true
or_first true b e = refl
or_first false b e = absurd (false≢true e)

or_second : (a b : Bool) → b ≡ true → (a || b) ≡ true
or_second true b e = refl
or_second false b e = e

line_goes_on : continues_word Java 95 ≡ true
unfolding unicode_ident
line_goes_on = refl

dollar_goes_on : continues_word Java 36 ≡ true
unfolding unicode_ident
dollar_goes_on = refl

starts_goes_on : (c : ℕ) → starts_word Java c ≡ true → continues_word Java c ≡ true
starts_goes_on c e = elim (or_cases (is_xid_start c || (c == 95)) (c == 36) e) [
  | inl front ↦ elim (or_cases (is_xid_start c) (c == 95) front) [
    | inl x ↦ or_first (is_xid_continue c) (c == 36) (is_xid_start-is_xid_continue c x)
    | inr low ↦ subst (λ d. continues_word Java d ≡ true) (sym (eqb-true c 95 low)) line_goes_on
  ]
  | inr dollar ↦ or_second (is_xid_continue c) (c == 36) dollar
]

digit_goes_on : (c : ℕ) → 48 ≤ c → c < 58 → continues_word Java c ≡ true
unfolding unicode_ident
digit_goes_on c low high =
    let tested : (nat_lt c 48 || is_xid_continue c) ≡ true = Stepped-below is_xid_continue is_xid_continue_stepped (λ x v. nat_lt x 48 || v) 58 refl c high in
    or_first (is_xid_continue c) (c == 36) (rw (le-ltb c 48 low) at tested)

glyph_goes_on : (d : ℕ) → d < 10 → continues_word Java (digit_glyph false d) ≡ true
glyph_goes_on d low = rw (lt-ltb d 10 low) (digit_goes_on (48 + d) (omega arith) (omega arith))

-- ---- numbers

-- what passes for each digit passes for those of a number
digits_pass : (p : ℕ → Bool) → ((d : ℕ) → d < 10 → p (digit_glyph false d) ≡ true) → (k n : ℕ) (acc : List ℕ) → list_all p acc ≡ true → list_all p (digits_onto k 10 false n acc) ≡ true
digits_pass p each zero n acc all = all
digits_pass p each (suc k) n acc all =
    let digit = n % 10 in
    let more = and_from (p (digit_glyph false digit)) (list_all p acc) (each digit (omega arith)) all in
    by_test (n / 10 == 0) (digit_glyph false digit ∷ acc) (digits_onto k 10 false (n / 10) (digit_glyph false digit ∷ acc)) more (digits_pass p each k (n / 10) (digit_glyph false digit ∷ acc) more)
  where
    by_test : (b : Bool) (xs ys : List ℕ) → list_all p xs ≡ true → list_all p ys ≡ true → list_all p (cond b xs ys) ≡ true
    by_test true xs ys one other = one
    by_test false xs ys one other = other

decimal_goes_on : (n : ℕ) → list_all (continues_word Java) (decimal n) ≡ true
unfolding digits
decimal_goes_on n = digits_pass (continues_word Java) glyph_goes_on 64 n [] refl

low_glyph : (d : ℕ) → d < 10 → nat_lt (digit_glyph false d) 128 ≡ true
low_glyph d low = rw (lt-ltb d 10 low) (lt-ltb (48 + d) 128 (omega arith))

low_decimal : (n : ℕ) → list_all (λ c. nat_lt c 128) (decimal n) ≡ true
unfolding digits
low_decimal n = digits_pass (λ c. nat_lt c 128) low_glyph 64 n [] refl

decimal_is_ascii : (n : ℕ) → IsAscii (decimal n)
decimal_is_ascii n = IsAscii-from_all (decimal n) (λ k d low. ltb-true _ 128 (AllPass-from_list_all (λ c. nat_lt c 128) (decimal n) (low_decimal n) k d low))

-- ---- the names of versions

all_go_on : (cs : List ℕ) → is_java_word cs ≡ true → list_all (continues_word Java) cs ≡ true
all_go_on [] is = refl
all_go_on (first ∷ more) is =
    let parts = and_parts (starts_word Java first) (list_all (continues_word Java) more && not (bytes_eq (first ∷ more) (codes "_"))) is in
    and_from (continues_word Java first) (list_all (continues_word Java) more) (starts_goes_on first parts.0) (and_parts (list_all (continues_word Java) more) (not (bytes_eq (first ∷ more) (codes "_"))) parts.1).0

not_line : (c d : ℕ) (more rest : List ℕ) → c ∷ (more ++ d ∷ rest) ≢ codes "_"
not_line c d [] rest e = absurd cc
not_line c d (x ∷ more) rest e = absurd cc

joined_word : (ms rest : List ℕ) → is_java_word ms ≡ true → list_all (continues_word Java) rest ≡ true → is_java_word (ms ++ 36 ∷ rest) ≡ true
joined_word [] rest is all = absurd (false≢true is)
joined_word (first ∷ more) rest is all =
    let parts = and_parts (starts_word Java first) (list_all (continues_word Java) more && not (bytes_eq (first ∷ more) (codes "_"))) is in
    let others = and_parts (list_all (continues_word Java) more) (not (bytes_eq (first ∷ more) (codes "_"))) parts.1 in
    let behind = list_all-append (continues_word Java) more (36 ∷ rest)
    ∙ and_from (list_all (continues_word Java) more) (list_all (continues_word Java) (36 ∷ rest)) others.0 (and_from (continues_word Java 36) (list_all (continues_word Java) rest) dollar_goes_on all) in
    and_from (starts_word Java first) _ parts.0 (and_from (list_all (continues_word Java) (more ++ 36 ∷ rest)) _ behind
    (by_unlike (bytes_eq (first ∷ (more ++ 36 ∷ rest)) (codes "_")) (bytes_eq-Decides (first ∷ (more ++ 36 ∷ rest)) (codes "_")) (not_line first 36 more rest)))

-- a reserved word has no `$`
none_has_dollar : list_all (λ w. not (has_dollar w)) reserved_words ≡ true
none_has_dollar = refl

not_among : (ws : List Text) (name : Text) → has_dollar name ≡ true → list_all (λ w. not (has_dollar w)) ws ≡ true → list_any (λ w. bytes_eq w name) ws ≡ false
not_among [] name has all = refl
not_among (w ∷ ws) name has all =
    let parts = and_parts (not (has_dollar w)) (list_all (λ v. not (has_dollar v)) ws) all in
    by_test (bytes_eq w name) (bytes_eq-Decides w name) parts.0 (not_among ws name has parts.1)
  where
    by_test : (b : Bool) → Decides b (w ≡ name) → not (has_dollar w) ≡ true → list_any (λ v. bytes_eq v name) ws ≡ false → (b || list_any (λ v. bytes_eq v name) ws) ≡ false
    by_test true is plain rest = absurd (false≢true (ap (λ b. not b) (sym has ∙ ap has_dollar (sym (is.0 refl))) ∙ plain))
    by_test false is plain rest = rest

not_reserved : (name : Text) → has_dollar name ≡ true → is_reserved name ≡ false
unfolding is_reserved
not_reserved name has = not_among reserved_words name has none_has_dollar

pub version_is_name : (c m : Text) (k : ℕ) → IsJavaName c → IsJavaName m → IsJavaName (version_name c m k)
version_is_name c m k of_class of_method =
    let class = name_is_test (record { text = c; at = 0 }) of_class.token in
    let method = name_is_test (record { text = m; at = 0 }) of_method.token in
    let inner = chars c ++ 36 ∷ decimal k in
    let cs = chars m ++ 36 ∷ inner in
    let behind = list_all-append (continues_word Java) (chars c) (36 ∷ decimal k)
    ∙ and_from (list_all (continues_word Java) (chars c)) (list_all (continues_word Java) (36 ∷ decimal k)) (all_go_on (chars c) class.1)
    (and_from (continues_word Java 36) (list_all (continues_word Java) (decimal k)) dollar_goes_on (decimal_goes_on k)) in
    let word = joined_word (chars m) inner method.1 behind in
    let text : version_name c m k ≡ encode_utf8_all cs = sym (encoded m (encode_utf8_all inner) method.0 inner refl ∙ ap (λ t. m ++ 36 ∷ t) (encoded c (decimal k) class.0 (decimal k) (encodes-IsAscii (decimal k) (decimal_is_ascii k)))) in
    record {
      token = ∣ word_is_token cs word (record { text = version_name c m k; at = 0 }) text ∣₁;
      free = not_reserved (version_name c m k) (version_has_dollar c m k);
    }
  where
    encoded : (w rest : Text) → IsUtf8 w → (cs : List ℕ) → encode_utf8_all cs ≡ rest → encode_utf8_all (chars w ++ 36 ∷ cs) ≡ w ++ 36 ∷ rest
    encoded w rest utf8 cs e =
        encodes-append (chars w) (36 ∷ cs) ∙ ap (λ t. t ++ encode_utf8_all (36 ∷ cs)) (encodes-chars w utf8)
        ∙ ap (λ t. w ++ t) (ap (λ t. t ++ encode_utf8_all cs) (encode_ascii 36 (omega arith)) ∙ ap (λ t. 36 ∷ t) e)

-- ---- words of the line dialect

or_none : (a : Bool) → (a || false) ≡ true → a ≡ true
or_none true e = refl
or_none false e = e

line_starts : (c : ℕ) → starts_word Line c ≡ true → starts_word Java c ≡ true
line_starts c e = or_first (is_xid_start c || (c == 95)) (c == 36) (or_none (is_xid_start c || (c == 95)) e)

line_goes_on_too : (cs : List ℕ) → list_all (continues_word Line) cs ≡ true → list_all (continues_word Java) cs ≡ true
line_goes_on_too [] all = refl
line_goes_on_too (c ∷ cs) all =
    let parts = and_parts (continues_word Line c) (list_all (continues_word Line) cs) all in
    and_from (continues_word Java c) (list_all (continues_word Java) cs) (or_first (is_xid_continue c) (c == 36) (or_none (is_xid_continue c) parts.0)) (line_goes_on_too cs parts.1)

line_word : (kind : Option TokenKind) (cs rest : List ℕ) → kind ≡ Some Word → Piece Line kind cs rest → is_java_word cs ≡ true
line_word kind cs rest is (white_space c r white) = absurd cc
line_word kind cs rest is (line_comment body r all fails) = absurd cc
line_word kind cs rest is (block_comment body r none) = absurd cc
line_word kind cs rest is (symbol t r has longest) = absurd cc
line_word kind cs rest is (word first more r starts all fails other) =
    and_from (starts_word Java first) _ (line_starts first starts) (and_from (list_all (continues_word Java) more) _ (line_goes_on_too more (list_all-from_AllPass (continues_word Line) more all))
    (by_unlike (bytes_eq (first ∷ more) (codes "_")) (bytes_eq-Decides (first ∷ more) (codes "_")) other))

-- a name of a line is one of Java
pub line_name : (x : Spot) → IsName x → IsToken Line (named x) → IsJavaName x.text
line_name x free token =
    let word = line_word (Some Word) token.0 token.1.0 refl token.1.1.0 in
    record { token = ∣ word_is_token token.0 word (record { text = x.text; at = 0 }) token.1.1.1 ∣₁; free = free }

pub object_is_name : IsJavaName (codes "Object")
unfolding unicode_ident encode is_reserved
object_is_name = record { token = ∣ word_is_token (codes "Object") refl (record { text = codes "Object"; at = 0 }) refl ∣₁; free = refl }
