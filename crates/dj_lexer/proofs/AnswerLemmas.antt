-- Bytes have one answer: one list of tokens, or one first fault.
use Rattle.std.proofs.Common.{◌≡◌, ℕ, zero, suc, ◌+◌, ◌-◌, ◌≤◌, ◌<◌, Bool, true, false, cond, Option, Some, None, List, [], ◌∷◌, ◌++◌, length, refl, sym, ap, subst, ◌∙◌, arith, append_assoc}
use Rattle.std.specs.Prelude.{slice_range, encode_utf8_all, map}
use Rattle.std.specs.Str.{IsUtf8, chars}
use Rattle.std.specs.Char.{len_utf8}
use Rattle.std.proofs.Common.{ltb, le-ltb, inl, inr, length-append, ◌⊎◌, All}
use Rattle.std.proofs.Math.Utf8.{encode}
use Rattle.std.proofs.Math.Seq.{take-append_seam, drop-append_seam}
use Rattle.std.proofs.lemmas.Bool.{cases_lt}
use Rattle.std.proofs.lemmas.Bool.Decides.{nat_tests}
use Rattle.std.proofs.lemmas.Str.{encode_ascii, length-encode, len_utf8_bounds, length-le-encodes, encodes-append, encodes-chars, utf8_valid_len-IsValidUpTo}
use Rattle.std.proofs.lemmas.List.Elements.{All-from_recursion}
use Rattle.std.specs.List.{AllByRecursion}
use Rattle.std.specs.List.Sorted.{IsStrictlyIncreasing}
use Rattle.std.specs.Str.Lossy.{utf8_valid_len}
use Rattle.dj_lexer.specs.declared.token.TheConstants.{MAX_DEPTH}
use Rattle.dj_lexer.specs.Alphabet.{byte_len}
use Rattle.dj_lexer.specs.Tokens.{HasNoClose, Piece, TokensFrom, TokenList}
use Rattle.dj_lexer.specs.Tokens as tokens
use Rattle.dj_lexer.specs.Symbols.{Symbol, symbols_of, IsToken, depth_after, greatest_depth_from}
use Rattle.dj_lexer.specs.Faults.{BeginsNothing, FaultFrom, FirstFault, HasTokens}
use Rattle.dj_lexer.specs.Faults as faults
use Rattle.dj_lexer.specs.declared.token.Dialect.{Dialect}
use Rattle.dj_lexer.specs.declared.token.TokenKind.{TokenKind}
use Rattle.dj_lexer.specs.declared.token.Token.{Token}
use Rattle.dj_lexer.specs.declared.token.LexFault.{LexFault}
use Rattle.dj_lexer.specs.declared.token.LexFault.TheVariants.{NotUtf8, BadCharacter, OpenComment, TooDeep}
use Rattle.dj_lexer.proofs.PieceLemmas.{piece_unique, open_no_piece, piece_not_empty}

pub piece_not_nil : {dialect : Dialect} {k : Option TokenKind} {p r : List ℕ} → Piece dialect k p r → [] ≡ p ++ r → ⊥
piece_not_nil {r = r} x e =
    let front = piece_not_empty x in
    let nil : [] ≡ front.0 ∷ (front.1 ++ r) = e ∙ ap (λ t. t ++ r) front.2 in
    cc

-- a derivation at an equal place
pub tokens_at : {dialect : Dialect} {at to : ℕ} {text rest : List ℕ} {ts : List Token} → at ≡ to → text ≡ rest
    → TokensFrom dialect at text ts → TokensFrom dialect to rest ts
tokens_at {dialect} {to = to} {text = text} {ts = ts} e f x =
    subst (λ s. TokensFrom dialect to s ts) f (subst (λ n. TokensFrom dialect n text ts) e x)

pub tokens_unique : {dialect : Dialect} {at : ℕ} {text : List ℕ} {ts us : List Token}
    → TokensFrom dialect at text ts → (rest : List ℕ) → text ≡ rest → TokensFrom dialect at rest us → ts ≡ us
tokens_unique (tokens.end at) rest e (tokens.end _) = refl
tokens_unique (tokens.end at) rest e (tokens.skipped _ p r us x y) = absurd (piece_not_nil x e)
tokens_unique (tokens.end at) rest e (tokens.token _ k p r us x y) = absurd (piece_not_nil x e)
tokens_unique (tokens.skipped at p r ts x y) rest e (tokens.end _) = absurd (piece_not_nil x (sym e))
tokens_unique (tokens.skipped at p r ts x y) rest e (tokens.skipped _ q s us z w) =
    let same = piece_unique x z e in
    let place : at + byte_len q ≡ at + byte_len p = ap (λ t. at + byte_len t) (sym same.1) in
    tokens_unique y r refl (tokens_at place (sym same.2) w)
tokens_unique (tokens.skipped at p r ts x y) rest e (tokens.token _ k q s us z w) =
    let same = piece_unique x z e in let kinds : None ≡ Some k = same.0 in cc
tokens_unique (tokens.token at k p r ts x y) rest e (tokens.end _) = absurd (piece_not_nil x (sym e))
tokens_unique (tokens.token at k p r ts x y) rest e (tokens.skipped _ q s us z w) =
    let same = piece_unique x z e in let kinds : Some k ≡ None = same.0 in cc
tokens_unique (tokens.token at k p r ts x y) rest e (tokens.token _ l q s us z w) =
    let same = piece_unique x z e in
    let kinds : Some k ≡ Some l = same.0 in
    let pieces : p ≡ q = same.1 in
    let place : at + byte_len q ≡ at + byte_len p = ap (λ t. at + byte_len t) (sym same.1) in
    let later : ts ≡ us = tokens_unique y r refl (tokens_at place (sym same.2) w) in
    cc

pub fault_at : {dialect : Dialect} {depth now at to : ℕ} {text rest : List ℕ} {f : LexFault} → depth ≡ now → at ≡ to → text ≡ rest
    → FaultFrom dialect depth at text f → FaultFrom dialect now to rest f
fault_at {dialect} {now = now} {at = at} {to = to} {text = text} {f = f} d e g x =
    subst (λ s. FaultFrom dialect now to s f) g
    (subst (λ n. FaultFrom dialect now n text f) e (subst (λ n. FaultFrom dialect n at text f) d x))

pub fault_unique : {dialect : Dialect} {depth at : ℕ} {text : List ℕ} {f g : LexFault}
    → FaultFrom dialect depth at text f → (rest : List ℕ) → text ≡ rest → FaultFrom dialect depth at rest g → f ≡ g
fault_unique (faults.bad_character n at c r none) rest e (faults.bad_character _ _ d s nothing) = refl
fault_unique (faults.bad_character n at c r none) rest e (faults.open_comment _ _ body shut) = absurd (none.no_comment body e)
fault_unique (faults.bad_character n at c r none) rest e (faults.too_deep _ _ k p s x deep) = absurd (none.no_piece _ p s x e)
fault_unique (faults.bad_character n at c r none) rest e (faults.skipped _ _ p s g x y) = absurd (none.no_piece _ p s x e)
fault_unique (faults.bad_character n at c r none) rest e (faults.token _ _ k p s g x low y) = absurd (none.no_piece _ p s x e)
fault_unique (faults.open_comment n at body none) rest e (faults.bad_character _ _ d s nothing) = absurd (nothing.no_comment body (sym e))
fault_unique (faults.open_comment n at body none) rest e (faults.open_comment _ _ other shut) = refl
fault_unique (faults.open_comment n at body none) rest e (faults.too_deep _ _ k p s x deep) = absurd (open_no_piece body none x e)
fault_unique (faults.open_comment n at body none) rest e (faults.skipped _ _ p s g x y) = absurd (open_no_piece body none x e)
fault_unique (faults.open_comment n at body none) rest e (faults.token _ _ k p s g x low y) = absurd (open_no_piece body none x e)
fault_unique (faults.too_deep n at k p r x deep) rest e (faults.bad_character _ _ d s nothing) = absurd (nothing.no_piece _ p r x (sym e))
fault_unique (faults.too_deep n at k p r x deep) rest e (faults.open_comment _ _ body shut) = absurd (open_no_piece body shut x (sym e))
fault_unique (faults.too_deep n at k p r x deep) rest e (faults.too_deep _ _ l q s y far) = refl
fault_unique (faults.too_deep n at k p r x deep) rest e (faults.skipped _ _ q s g y z) =
    let same = piece_unique x y e in let kinds : Some k ≡ None = same.0 in cc
fault_unique (faults.too_deep n at k p r x deep) rest e (faults.token _ _ l q s g y low z) =
    let same = piece_unique x y e in
    let depths : depth_after n p ≡ depth_after n q = ap (depth_after n) same.1 in absurd (omega arith)
fault_unique (faults.skipped n at p r f x y) rest e (faults.bad_character _ _ d s nothing) = absurd (nothing.no_piece _ p r x (sym e))
fault_unique (faults.skipped n at p r f x y) rest e (faults.open_comment _ _ body shut) = absurd (open_no_piece body shut x (sym e))
fault_unique (faults.skipped n at p r f x y) rest e (faults.too_deep _ _ k q s z deep) =
    let same = piece_unique x z e in let kinds : None ≡ Some k = same.0 in cc
fault_unique (faults.skipped n at p r f x y) rest e (faults.skipped _ _ q s g z w) =
    let same = piece_unique x z e in
    let place : at + byte_len q ≡ at + byte_len p = ap (λ t. at + byte_len t) (sym same.1) in
    fault_unique y r refl (fault_at refl place (sym same.2) w)
fault_unique (faults.skipped n at p r f x y) rest e (faults.token _ _ k q s g z low w) =
    let same = piece_unique x z e in let kinds : None ≡ Some k = same.0 in cc
fault_unique (faults.token n at k p r f x low y) rest e (faults.bad_character _ _ d s nothing) = absurd (nothing.no_piece _ p r x (sym e))
fault_unique (faults.token n at k p r f x low y) rest e (faults.open_comment _ _ body shut) = absurd (open_no_piece body shut x (sym e))
fault_unique (faults.token n at k p r f x low y) rest e (faults.too_deep _ _ l q s z deep) =
    let same = piece_unique x z e in
    let depths : depth_after n p ≡ depth_after n q = ap (depth_after n) same.1 in absurd (omega arith)
fault_unique (faults.token n at k p r f x low y) rest e (faults.skipped _ _ q s g z w) =
    let same = piece_unique x z e in let kinds : Some k ≡ None = same.0 in cc
fault_unique (faults.token n at k p r f x low y) rest e (faults.token _ _ l q s g z less w) =
    let same = piece_unique x z e in
    let place : at + byte_len q ≡ at + byte_len p = ap (λ t. at + byte_len t) (sym same.1) in
    let depths : depth_after n q ≡ depth_after n p = ap (depth_after n) (sym same.1) in
    fault_unique y r refl (fault_at depths place (sym same.2) w)

-- ---- depth

pub depth_is_reached : (depth : ℕ) (ss : List Symbol) → depth ≤ greatest_depth_from depth ss
depth_is_reached depth [] = omega arith
depth_is_reached depth (s ∷ ss) = omega arith

two_bytes : (depth : ℕ) (bs : List ℕ) → 2 ≤ length bs → depth_after depth bs ≡ depth
two_bytes depth [] l = absurd (omega arith)
two_bytes depth (c ∷ []) l = absurd (omega arith)
two_bytes depth (c ∷ d ∷ bs) l = refl

not_bracket : (depth c : ℕ) → 128 ≤ c → depth_after depth (c ∷ []) ≡ depth
not_bracket depth c l = grind (arith, nat_tests)

at_least_two : (a b : Bool) → 2 ≤ cond a 2 (cond b 3 4)
at_least_two true b = omega arith
at_least_two false true = omega arith
at_least_two false false = omega arith

one_character : (depth c : ℕ) → depth_after depth (encode c ++ []) ≡ depth_after depth (c ∷ [])
one_character depth c = elim (cases_lt c 128) [
  | inl l ↦ rw (encode_ascii c l) refl
  | inr l ↦ two_bytes depth (encode c ++ []) (long c l) ∙ sym (not_bracket depth c l)
]
  where
    long : (c : ℕ) → 128 ≤ c → 2 ≤ length (encode c ++ [])
    long c l = let e : len_utf8 c ≡ cond (ltb c 0x800) 2 (cond (ltb c 0x1_0000) 3 4) = rw (le-ltb c 128 l) refl in
        omega (arith, length-append (encode c) [], length-encode c, e, at_least_two (ltb c 0x800) (ltb c 0x1_0000))

-- a text and its bytes change the depth alike
pub depth_after-encoded : (depth : ℕ) (text : List ℕ) → depth_after depth (encode_utf8_all text) ≡ depth_after depth text
depth_after-encoded depth [] = refl
depth_after-encoded depth (c ∷ []) = one_character depth c
depth_after-encoded depth (c ∷ d ∷ text) =
    two_bytes depth (encode c ++ (encode d ++ encode_utf8_all text))
    (omega (arith, length-append (encode c) (encode d ++ encode_utf8_all text), length-append (encode d) (encode_utf8_all text), length-encode c, length-encode d, len_utf8_bounds c, len_utf8_bounds d))

-- the bytes of a piece, cut out of the bytes
pub cut_piece : (bytes before : List ℕ) (piece rest : List ℕ) (at : ℕ) → bytes ≡ before ++ (encode_utf8_all piece ++ rest) → at ≡ length before
    → slice_range bytes at (at + byte_len piece) ≡ encode_utf8_all piece
cut_piece bytes before piece rest at e l =
    let n : (at + byte_len piece) - at ≡ byte_len piece = omega arith in
    rw (n, e, l, drop-append_seam before (encode_utf8_all piece ++ rest), take-append_seam (encode_utf8_all piece) rest) refl

-- the characters stand in the bytes at this offset, and end with them
pub record Placed (bytes : List ℕ) (at : ℕ) (text : List ℕ) : Type 0 where
  pub before : List ℕ
  pub splits : bytes ≡ before ++ encode_utf8_all text
  pub len : at ≡ length before

pub byte_len-append : (piece rest : List ℕ) → byte_len (piece ++ rest) ≡ byte_len piece + byte_len rest
byte_len-append piece rest = ap length (encodes-append piece rest) ∙ length-append (encode_utf8_all piece) (encode_utf8_all rest)

pub placed_after : (bytes : List ℕ) (at : ℕ) (piece rest : List ℕ) → Placed bytes at (piece ++ rest) → Placed bytes (at + byte_len piece) rest
placed_after bytes at piece rest p = record {
  before = p.before ++ encode_utf8_all piece;
  splits = p.splits ∙ ap (λ t. p.before ++ t) (encodes-append piece rest) ∙ sym (append_assoc p.before (encode_utf8_all piece) (encode_utf8_all rest));
  len = omega (arith, p.len, length-append p.before (encode_utf8_all piece));
}

pub placed_piece : (bytes : List ℕ) (at : ℕ) (piece rest : List ℕ) → Placed bytes at (piece ++ rest)
    → slice_range bytes at (at + byte_len piece) ≡ encode_utf8_all piece
placed_piece bytes at piece rest p =
    cut_piece bytes p.before piece (encode_utf8_all rest) at (p.splits ∙ ap (λ t. p.before ++ t) (encodes-append piece rest)) p.len

-- what a bound on the greatest depth says of the first token
first_depth : (bytes : List ℕ) (n at : ℕ) (k : TokenKind) (piece rest : List ℕ) (ts : List Token) → Placed bytes at (piece ++ rest)
    → greatest_depth_from n (symbols_of bytes (record { kind = k; from = at; to = at + byte_len piece } ∷ ts)) ≤ MAX_DEPTH
    → (depth_after n piece ≤ MAX_DEPTH) × (greatest_depth_from (depth_after n piece) (symbols_of bytes ts) ≤ MAX_DEPTH)
first_depth bytes n at k piece rest ts p low =
    let same : depth_after n (slice_range bytes at (at + byte_len piece)) ≡ depth_after n piece =
    ap (depth_after n) (placed_piece bytes at piece rest p) ∙ depth_after-encoded n piece in
    let less : greatest_depth_from (depth_after n piece) (symbols_of bytes ts) ≤ MAX_DEPTH =
    subst (λ m. greatest_depth_from m (symbols_of bytes ts) ≤ MAX_DEPTH) same (omega arith) in
    (omega (arith, depth_is_reached (depth_after n piece) (symbols_of bytes ts)), less)

pub no_fault : {dialect : Dialect} {at : ℕ} {text : List ℕ} {ts : List Token} (bytes : List ℕ) (n : ℕ) → TokensFrom dialect at text ts
    → Placed bytes at text → greatest_depth_from n (symbols_of bytes ts) ≤ MAX_DEPTH
    → (rest : List ℕ) {f : LexFault} → text ≡ rest → FaultFrom dialect n at rest f → ⊥
no_fault bytes n (tokens.end at) w low rest e (faults.bad_character _ _ d s nothing) = cc
no_fault bytes n (tokens.end at) w low rest e (faults.open_comment _ _ body shut) = cc
no_fault bytes n (tokens.end at) w low rest e (faults.too_deep _ _ k q s z deep) = piece_not_nil z e
no_fault bytes n (tokens.end at) w low rest e (faults.skipped _ _ q s f z y) = piece_not_nil z e
no_fault bytes n (tokens.end at) w low rest e (faults.token _ _ k q s f z less y) = piece_not_nil z e
no_fault bytes n (tokens.skipped at p r ts x y) w low rest e (faults.bad_character _ _ d s nothing) = nothing.no_piece _ p r x (sym e)
no_fault bytes n (tokens.skipped at p r ts x y) w low rest e (faults.open_comment _ _ body shut) = open_no_piece body shut x (sym e)
no_fault bytes n (tokens.skipped at p r ts x y) w low rest e (faults.too_deep _ _ k q s z deep) =
    let same = piece_unique x z e in let kinds : None ≡ Some k = same.0 in cc
no_fault bytes n (tokens.skipped at p r ts x y) w low rest e (faults.skipped _ _ q s f z v) =
    let same = piece_unique x z e in
    let place : at + byte_len q ≡ at + byte_len p = ap (λ t. at + byte_len t) (sym same.1) in
    no_fault bytes n y (placed_after bytes at p r w) low r refl (fault_at refl place (sym same.2) v)
no_fault bytes n (tokens.skipped at p r ts x y) w low rest e (faults.token _ _ k q s f z less v) =
    let same = piece_unique x z e in let kinds : None ≡ Some k = same.0 in cc
no_fault bytes n (tokens.token at k p r ts x y) w low rest e (faults.bad_character _ _ d s nothing) = nothing.no_piece _ p r x (sym e)
no_fault bytes n (tokens.token at k p r ts x y) w low rest e (faults.open_comment _ _ body shut) = open_no_piece body shut x (sym e)
no_fault bytes n (tokens.token at k p r ts x y) w low rest e (faults.too_deep _ _ l q s z deep) =
    let same = piece_unique x z e in
    let depths : depth_after n p ≡ depth_after n q = ap (depth_after n) same.1 in
    omega (arith, (first_depth bytes n at k p r ts w low).0)
no_fault bytes n (tokens.token at k p r ts x y) w low rest e (faults.skipped _ _ q s f z v) =
    let same = piece_unique x z e in let kinds : Some k ≡ None = same.0 in cc
no_fault bytes n (tokens.token at k p r ts x y) w low rest e (faults.token _ _ l q s f z less v) =
    let same = piece_unique x z e in
    let place : at + byte_len q ≡ at + byte_len p = ap (λ t. at + byte_len t) (sym same.1) in
    let depths : depth_after n q ≡ depth_after n p = ap (depth_after n) (sym same.1) in
    no_fault bytes (depth_after n p) y (placed_after bytes at p r w) (first_depth bytes n at k p r ts w low).1 r refl
    (fault_at depths place (sym same.2) v)

-- ---- bytes

pub placed_start : (bytes : List ℕ) → IsUtf8 bytes → Placed bytes 0 (chars bytes)
placed_start bytes u = record { before = []; splits = sym (encodes-chars bytes u); len = refl }

pub fault_not_in_tokens : (dialect : Dialect) (bytes : List ℕ) (fault : LexFault) → HasTokens dialect bytes → FirstFault dialect bytes fault → ⊥
fault_not_in_tokens dialect bytes (NotUtf8 at) (ts, t, low) x = x.0 t.0
fault_not_in_tokens dialect bytes (BadCharacter at) (ts, t, low) x = no_fault bytes 0 t.1 (placed_start bytes t.0) low _ refl x.1
fault_not_in_tokens dialect bytes (OpenComment at) (ts, t, low) x = no_fault bytes 0 t.1 (placed_start bytes t.0) low _ refl x.1
fault_not_in_tokens dialect bytes (TooDeep at) (ts, t, low) x = no_fault bytes 0 t.1 (placed_start bytes t.0) low _ refl x.1

-- a fault of text: what follows its characters
fault_of_text : (dialect : Dialect) (bytes : List ℕ) (a : LexFault) → FirstFault dialect bytes a
    → ((at : ℕ) × (a ≡ NotUtf8 at) × (at ≡ utf8_valid_len bytes) × ¬ (IsUtf8 bytes)) ⊎ (IsUtf8 bytes × FaultFrom dialect 0 0 (chars bytes) a)
fault_of_text dialect bytes (NotUtf8 at) x = inl (at, refl, sym (utf8_valid_len-IsValidUpTo bytes at x.1), x.0)
fault_of_text dialect bytes (BadCharacter at) x = inr x
fault_of_text dialect bytes (OpenComment at) x = inr x
fault_of_text dialect bytes (TooDeep at) x = inr x

pub first_fault_unique : (dialect : Dialect) (bytes : List ℕ) (a b : LexFault) → FirstFault dialect bytes a → FirstFault dialect bytes b → a ≡ b
first_fault_unique dialect bytes a b x y = elim (fault_of_text dialect bytes a x) [
  | inl (m, e, f, bad) ↦ elim (fault_of_text dialect bytes b y) [
    | inl (n, g, h, _) ↦ let ends : m ≡ n = omega arith in e ∙ ap (λ k. NotUtf8 k) ends ∙ sym g
    | inr v ↦ absurd (bad v.0)
  ]
  | inr u ↦ elim (fault_of_text dialect bytes b y) [
    | inl (n, g, h, none) ↦ absurd (none u.0)
    | inr v ↦ fault_unique u.1 _ refl v.1
  ]
]

-- ---- spans

-- the tokens stand between two offsets, one after the other
abbrev InOrder : ℕ → List Token → ℕ → Type 0
InOrder low [] high = Unit {0}
InOrder low (t ∷ ts) high = (low ≤ t.from) × (t.from < t.to) × (t.to ≤ high) × InOrder t.to ts high

in_order : {dialect : Dialect} {at : ℕ} {text : List ℕ} {ts : List Token} → TokensFrom dialect at text ts → (high : ℕ) → high ≡ at + byte_len text → InOrder at ts high
in_order (tokens.end at) high e = tt
in_order (tokens.skipped at p r ts x y) high e =
    in_order_from (at + byte_len p) at ts high (omega arith) (in_order y high (omega (arith, byte_len-append p r)))
  where
    in_order_from : (low lower : ℕ) (ts : List Token) (high : ℕ) → lower ≤ low → InOrder low ts high → InOrder lower ts high
    in_order_from low lower [] high l o = tt
    in_order_from low lower (t ∷ ts) high l (a, b, c, d) = (omega arith, b, c, d)
in_order (tokens.token at k p r ts x y) high e =
    let front = piece_not_empty x in
    let some : length p ≡ suc (length front.1) = ap length front.2 in
    (omega arith, omega (arith, length-le-encodes p), omega (arith, byte_len-append p r), in_order y high (omega (arith, byte_len-append p r)))

spans_in_order : (low : ℕ) (ts : List Token) (high : ℕ) → InOrder low ts high → AllByRecursion (λ (s : Token). (s.from < s.to) × (s.to ≤ high)) ts
spans_in_order low [] high o = tt
spans_in_order low (t ∷ ts) high (a, b, c, d) = ((b, c), spans_in_order t.to ts high d)

rises_in_order : (low : ℕ) (ts : List Token) (high : ℕ) → InOrder low ts high → IsStrictlyIncreasing (map (λ (s : Token). s.from) ts)
rises_in_order low [] high o k h = absurd (omega arith)
rises_in_order low (t ∷ []) high o k h = absurd (omega arith)
rises_in_order low (t ∷ u ∷ ts) high (a, b, c, d) zero h = omega (arith, d.0)
rises_in_order low (t ∷ u ∷ ts) high (a, b, c, d) (suc k) h =
    let e : suc k + 1 ≡ suc (k + 1) = omega arith in
    rw e (rises_in_order t.to (u ∷ ts) high d k (omega arith))

pub tokens_are_spans : (dialect : Dialect) (bytes : List ℕ) (ts : List Token) → TokenList dialect bytes ts
    → All (λ (s : Token). (s.from < s.to) × (s.to ≤ length bytes)) ts
tokens_are_spans dialect bytes ts t =
    All-from_recursion (λ (s : Token). (s.from < s.to) × (s.to ≤ length bytes)) ts
    (spans_in_order 0 ts (length bytes) (in_order t.1 (length bytes) (omega (arith, sym (ap length (encodes-chars bytes t.0))))))

pub tokens_rise : (dialect : Dialect) (bytes : List ℕ) (ts : List Token) → TokenList dialect bytes ts → IsStrictlyIncreasing (map (λ (s : Token). s.from) ts)
tokens_rise dialect bytes ts t = rises_in_order 0 ts _ (in_order t.1 _ refl)

few_in_order : (low : ℕ) (ts : List Token) (high : ℕ) → low ≤ high → InOrder low ts high → low + length ts ≤ high
few_in_order low [] high l o = omega arith
few_in_order low (t ∷ ts) high l (a, b, c, d) = omega (arith, few_in_order t.to ts high c d)

pub tokens_are_few : (dialect : Dialect) (bytes : List ℕ) (ts : List Token) → TokenList dialect bytes ts → length ts ≤ length bytes
tokens_are_few dialect bytes ts t =
    omega (arith, few_in_order 0 ts (length bytes) (omega arith) (in_order t.1 (length bytes) (omega (arith, sym (ap length (encodes-chars bytes t.0))))))

each_of_dialect : {dialect : Dialect} {at : ℕ} {text : List ℕ} {ts : List Token} (bytes : List ℕ) → TokensFrom dialect at text ts → Placed bytes at text
    → AllByRecursion (IsToken dialect) (symbols_of bytes ts)
each_of_dialect bytes (tokens.end at) w = tt
each_of_dialect bytes (tokens.skipped at p r ts x y) w = each_of_dialect bytes y (placed_after bytes at p r w)
each_of_dialect bytes (tokens.token at k p r ts x y) w =
    ((p, (r, (x, placed_piece bytes at p r w))), each_of_dialect bytes y (placed_after bytes at p r w))

pub tokens_are_of_dialect : (dialect : Dialect) (bytes : List ℕ) (ts : List Token) → TokenList dialect bytes ts → All (IsToken dialect) (symbols_of bytes ts)
tokens_are_of_dialect dialect bytes ts t =
    All-from_recursion (IsToken dialect) (symbols_of bytes ts)
    (each_of_dialect bytes t.1 (record { before = []; splits = sym (encodes-chars bytes t.0); len = refl }))
