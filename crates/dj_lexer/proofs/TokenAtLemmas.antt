-- The token at a place is the same in both dialects.
use Rattle.std.proofs.Common.{eq-eqb, ◌≡◌, ℕ, zero, suc, ◌+◌, ◌-◌, ◌≤◌, Bool, true, false, not, ◌||◌, ◌==◌, Option, Some, None, Result, Ok, Err, IsOk, MatchResult, List, [], ◌∷◌, ◌++◌, length, take, drop, get_or, refl, sym, ap, subst, ◌∙◌, arith, append_assoc, length-append}
use Rattle.std.specs.Prelude.{slice_range, encode_utf8_all, Contains}
use Rattle.std.specs.List.{AllPass, list_all}
use Rattle.std.specs.Str.{IsUtf8, chars}
use Rattle.std.proofs.Math.Utf8.{scalars, encode}
use Rattle.std.proofs.Math.Seq.{take-append_seam, drop-append_seam}
use Rattle.std.proofs.lemmas.Bool.{and_parts, eqb-true, false≢true}
use Rattle.std.proofs.lemmas.List.Sums.{AllPass-from_list_all}
use Rattle.std.proofs.lemmas.List.Elements.{All-contains}
use Rattle.std.proofs.lemmas.Grind.{common_steps}
use Rattle.std.proofs.lemmas.Str.{chars-nil, chars-encodes, scalars-chars, encodes-chars, encodes-append, length-le-encodes}
use Rattle.unicode_ident.specs.Ident.{is_xid_start, is_xid_continue}
use Rattle.unicode_ident.proofs.Computing.{unicode_ident}
use Rattle.dj_lexer.specs.Alphabet.{byte_len, continues_word, symbols}
use Rattle.dj_lexer.specs.Tokens.{FirstFails, Piece, word, symbol, TokensFrom}
use Rattle.dj_lexer.specs.Tokens as tokens
use Rattle.dj_lexer.specs.TokensAt.{IsTokenAt, BeginsWithToken, BeginsNoToken}
use Rattle.dj_lexer.specs.Pieces.{HasPiece, HasBadCharacter, HasOpenComment}
use Rattle.dj_lexer.specs.declared.token.Dialect.{Dialect}
use Rattle.dj_lexer.specs.declared.token.Dialect.TheVariants.{Line, Java}
use Rattle.dj_lexer.specs.declared.token.TokenKind.{TokenKind}
use Rattle.dj_lexer.specs.declared.token.Token.{Token}
use Rattle.dj_lexer.proofs.PieceLemmas.{class, piece_class, class_is, symbol_class, begins_symbol, symbol_begins, run_unique, cut_same, piece_unique, open_no_piece}
use Rattle.dj_lexer.proofs.AnswerLemmas.{cut_piece, byte_len-append, piece_not_nil}
use Rattle.dj_lexer.proofs.LexerLemmas.{piece_bytes}

-- ---- words of both dialects

or_false : (a b : Bool) → (a || false) ≡ false → b ≡ false → (a || b) ≡ false
or_false true b h k = absurd (false≢true (sym h))
or_false false b h k = k

or_true : (a b : Bool) → (a || false) ≡ true → (a || b) ≡ true
or_true true b h = refl
or_true false b h = absurd (false≢true h)

or_true_2 : (a u b : Bool) → ((a || u) || false) ≡ true → ((a || u) || b) ≡ true
or_true_2 true u b h = refl
or_true_2 false true b h = refl
or_true_2 false false b h = absurd (false≢true h)

continue_too : (run : List ℕ) → AllPass (continues_word Line) run → AllPass (continues_word Java) run
continue_too run all = λ i d low. or_true (is_xid_continue (get_or run i d)) (get_or run i d == 36) (all i d low)

-- `$` begins no piece of a line
abbrev begins_otherwise : List ℕ → Bool
begins_otherwise [] = true
begins_otherwise (c ∷ text) = not (c == 36)

no_dollar_symbols : list_all begins_otherwise (symbols Line) ≡ true
no_dollar_symbols = refl

dollar_class : (rest : List ℕ) → class Line (36 ∷ rest) ≡ 4
unfolding unicode_ident
dollar_class rest = refl

not_dollar : {kind : Option TokenKind} {piece rest : List ℕ} → Piece Line kind piece rest → (c : ℕ) (text : List ℕ) → c ∷ text ≡ piece ++ rest → (c == 36) ≡ false
not_dollar {kind} {piece} {rest} p c text e = of_test (c == 36) refl
  where
    of_symbol : {k : Option TokenKind} {q s : List ℕ} → Piece Line k q s → 36 ∷ text ≡ q ++ s → ⊥
    of_symbol {q = q} (symbol _ s m long) f = clash q (All-contains (λ t. begins_otherwise t ≡ true) (symbols Line) q (AllPass-from_list_all begins_otherwise (symbols Line) no_dollar_symbols) m) (symbol_begins Line q m) f
      where
        clash : (q : List ℕ) → begins_otherwise q ≡ true → begins_symbol Line q ≡ true → 36 ∷ text ≡ q ++ s → ⊥
        clash [] h some f = absurd (false≢true some)
        clash (d ∷ q) h some f = let same : d ≡ 36 = cc in absurd (let impossible : begins_otherwise (36 ∷ q) ≡ true = subst (λ (x : ℕ). begins_otherwise (x ∷ q) ≡ true) same h in false≢true impossible)
    of_symbol x f = let h : 4 ≡ piece_class x = sym (dollar_class text) ∙ ap (class Line) f ∙ class_is x in absurd (omega (arith, h))

    of_test : (b : Bool) → (c == 36) ≡ b → b ≡ false
    of_test false h = refl
    of_test true h = let same : c ≡ 36 = eqb-true c 36 h in absurd (of_symbol p (ap (λ (x : ℕ). x ∷ text) (sym same) ∙ e))

-- what ends a word of a line, with tokens of a line behind it, ends it in Java too
ends_too : {n : ℕ} {text : List ℕ} {ts : List Token} → TokensFrom Line n text ts → FirstFails (continues_word Line) text → FirstFails (continues_word Java) text
ends_too {text = text} x fails = of_text text x refl fails
  where
    first : (text : List ℕ) (c : ℕ) (rest : List ℕ) {n : ℕ} {ts : List Token} → TokensFrom Line n text ts → text ≡ c ∷ rest → (c == 36) ≡ false
    first _ c rest (tokens.end at) e = absurd (let impossible : [] ≡ c ∷ rest = e in cc)
    first _ c rest (tokens.skipped at piece more ts p later) e = not_dollar p c rest (sym e)
    first _ c rest (tokens.token at kind piece more ts p later) e = not_dollar p c rest (sym e)

    of_text : (text : List ℕ) {n : ℕ} {full : List ℕ} {ts : List Token} → TokensFrom Line n full ts → full ≡ text → FirstFails (continues_word Line) text → FirstFails (continues_word Java) text
    of_text [] x e fails = tt
    of_text (c ∷ rest) x e fails = or_false (is_xid_continue c) (c == 36) fails (first _ c rest x e)

-- ---- symbols of both dialects

-- symbols that begin with one character have one length
abbrev fits : List ℕ → List ℕ → Bool
fits [] other = true
fits (c ∷ text) [] = true
fits (c ∷ text) (d ∷ other) = not (c == d) || (length text == length other)

all_fit : list_all (λ p. list_all (fits p) (symbols Java)) (symbols Line) ≡ true
all_fit = refl

line_symbols_begin_in_java : list_all (begins_symbol Java) (symbols Line) ≡ true
unfolding unicode_ident
line_symbols_begin_in_java = refl

begins_in_java : (p : List ℕ) → Contains (symbols Line) p → begins_symbol Java p ≡ true
begins_in_java p m =
    All-contains (λ t. begins_symbol Java t ≡ true) (symbols Line) p (AllPass-from_list_all (begins_symbol Java) (symbols Line) line_symbols_begin_in_java) m

symbols_fit : (p q : List ℕ) → Contains (symbols Line) p → Contains (symbols Java) q → fits p q ≡ true
symbols_fit p q m n =
    All-contains (λ t. fits p t ≡ true) (symbols Java) q (AllPass-from_list_all (fits p) (symbols Java)
    (All-contains (λ t. list_all (fits t) (symbols Java) ≡ true) (symbols Line) p (AllPass-from_list_all (λ t. list_all (fits t) (symbols Java)) (symbols Line) all_fit) m)) n

same_length : (p q r s : List ℕ) → fits p q ≡ true → begins_symbol Line p ≡ true → begins_symbol Java q ≡ true → p ++ r ≡ q ++ s → length p ≡ length q
same_length [] q r s f a b e = absurd (false≢true a)
same_length (c ∷ p) [] r s f a b e = absurd (false≢true b)
same_length (c ∷ p) (d ∷ q) r s f a b e =
    let same : c ≡ d = cc in
    let tested : (not (d == d) || (length p == length q)) ≡ true = subst (λ (x : ℕ). (not (x == d) || (length p == length q)) ≡ true) same f in
    let long : (length p == length q) ≡ true = of_test d tested in
    ap suc (eqb-true (length p) (length q) long)
  where
    itself : (d : ℕ) → (d == d) ≡ true
    itself d = eq-eqb d d refl

    of_test : (d : ℕ) → (not (d == d) || (length p == length q)) ≡ true → (length p == length q) ≡ true
    of_test d h = rw (itself d) at h

-- ---- one piece in both

-- where a token of a line stands with tokens of the line behind it, a token of Java is the same
same_piece : {k l : TokenKind} {p r q s : List ℕ} {n : ℕ} {ts : List Token} (x : Piece Line (Some k) p r) (y : Piece Java (Some l) q s)
    → TokensFrom Line n r ts → p ++ r ≡ q ++ s → (p ≡ q) × (r ≡ s)
same_piece (word c a r starts pa fa na) (word d b s begins pb fb nb) later e =
    let tails : a ++ r ≡ b ++ s = cc in
    let both = run_unique (continues_word Java) a b r s (continue_too a pa) (ends_too later fa) pb fb tails in
    let more : a ≡ b = both.0 in
    ((cc), both.1)
same_piece (word c a r starts pa fa na) (symbol q s m long) later e =
    let zero_class : class Java (c ∷ (a ++ r)) ≡ 0 = rw (or_true_2 (is_xid_start c) (c == 95) (c == 36) starts) refl in
    let four : class Java (q ++ s) ≡ 4 = symbol_class Java q s (symbol_begins Java q m) in
    let h : 0 ≡ 4 = sym zero_class ∙ ap (class Java) e ∙ four in
    absurd (omega (arith, h))
same_piece (symbol p r m long) (word d b s begins pb fb nb) later e =
    let four : class Java (p ++ r) ≡ 4 = symbol_class Java p r (begins_in_java p m) in
    let zero_class : class Java (d ∷ (b ++ s)) ≡ 0 = rw begins refl in
    let h : 4 ≡ 0 = sym four ∙ ap (class Java) e ∙ zero_class in
    absurd (omega (arith, h))
same_piece (symbol p r m long) (symbol q s n far) later e =
    cut_same p q r s (same_length p q r s (symbols_fit p q m n) (symbol_begins Line p m) (symbol_begins Java q n) e) e

pub either_piece : (d e : Dialect) {k l : TokenKind} {p r q s : List ℕ} {n : ℕ} {ts : List Token} (x : Piece d (Some k) p r) (y : Piece e (Some l) q s)
    → TokensFrom d n r ts → (d ≡ Java → e ≡ Java) → p ++ r ≡ q ++ s → (p ≡ q) × (r ≡ s)
either_piece Line Line x y later which same = let one = piece_unique x y same in (one.1, one.2)
either_piece Line Java x y later which same = same_piece x y later same
either_piece Java Java x y later which same = let one = piece_unique x y same in (one.1, one.2)
either_piece Java Line x y later which same = absurd (let impossible : Line ≡ Java = which refl in cc)

-- ---- tokens and what stands behind them

-- a token of the dialect stands between two offsets of the characters, with tokens behind it
pub record Standing (dialect : Dialect) (all : List ℕ) (from to : ℕ) : Type 0 where
  pub front : List ℕ
  pub kind : TokenKind
  pub piece : List ℕ
  pub rest : List ℕ
  pub next : ℕ
  pub more : List Token
  pub splits : all ≡ front ++ (piece ++ rest)
  pub begins : from ≡ byte_len front
  pub ends : to ≡ from + byte_len piece
  pub stands : Piece dialect (Some kind) piece rest
  pub tokens : TokensFrom dialect next rest more

standing : {d : Dialect} {at : ℕ} {text : List ℕ} {ts : List Token} → TokensFrom d at text ts → (all front : List ℕ) → all ≡ front ++ text → at ≡ byte_len front
    → (t : Token) → Contains ts t → Standing d all t.from t.to
standing (tokens.end at) all front e l t (k, low, is) = absurd (omega arith)
standing (tokens.skipped at p r ts x y) all front e l t m =
    standing y all (front ++ p) (e ∙ sym (append_assoc front p r)) (omega (arith, l, byte_len-append front p)) t m
standing {d} (tokens.token at kind p r ts x y) all front e l t (zero, low, is) =
    let here : Standing d all at (at + byte_len p) =
    record { front = front; kind = kind; piece = p; rest = r; next = at + byte_len p; more = ts; splits = e; begins = l; ends = refl; stands = x; tokens = y } in
    subst (λ (u : Token). Standing d all u.from u.to) is here
standing (tokens.token at kind p r ts x y) all front e l t (suc k, low, is) =
    standing y all (front ++ p) (e ∙ sym (append_assoc front p r)) (omega (arith, l, byte_len-append front p)) t (k, omega arith, is)

pub named : (bytes : List ℕ) (at : ℕ) (text : List ℕ) (x : IsTokenAt bytes at text) → Standing x.dialect (chars bytes) x.token.from x.token.to
named bytes at text x = standing x.are_tokens.1 (chars bytes) [] refl refl x.token x.among

-- the bytes of the text, cut at the token
parts_of : {d : Dialect} {from to : ℕ} (bytes : List ℕ) → IsUtf8 bytes → (s : Standing d (chars bytes) from to)
    → bytes ≡ encode_utf8_all s.front ++ (encode_utf8_all s.piece ++ encode_utf8_all s.rest)
parts_of bytes u s =
    sym (encodes-chars bytes u) ∙ ap encode_utf8_all s.splits ∙ encodes-append s.front (s.piece ++ s.rest)
    ∙ ap (λ t. encode_utf8_all s.front ++ t) (encodes-append s.piece s.rest)

pub standing_text : {d : Dialect} (from to : ℕ) (bytes : List ℕ) → IsUtf8 bytes → (s : Standing d (chars bytes) from to) → slice_range bytes from to ≡ encode_utf8_all s.piece
standing_text from to bytes u s =
    ap (slice_range bytes from) s.ends ∙ cut_piece bytes (encode_utf8_all s.front) s.piece (encode_utf8_all s.rest) from (parts_of bytes u s) s.begins

same_front : (f g x y : List ℕ) → f ++ x ≡ g ++ y → byte_len f ≡ byte_len g → x ≡ y
same_front [] [] x y e l = e
same_front [] (c ∷ g) x y e l = absurd (omega (arith, length-le-encodes (c ∷ g)))
same_front (c ∷ f) [] x y e l = absurd (omega (arith, length-le-encodes (c ∷ f)))
same_front (c ∷ f) (d ∷ g) x y e l =
    let first : c ≡ d = cc in
    let tails : f ++ x ≡ g ++ y = cc in
    let short : byte_len f ≡ byte_len g =
    omega (arith, length-append (encode c) (encode_utf8_all f), length-append (encode d) (encode_utf8_all g), ap (λ k. length (encode k)) first) in
    same_front f g x y tails short

not_line : (P : Type 0) → ◌≡◌ {A = Dialect} Line Java → P
not_line P e = absurd cc

same_standing : (d e : Dialect) (all : List ℕ) (from to start end : ℕ) (s : Standing d all from to) (t : Standing e all start end) → from ≡ start → s.piece ≡ t.piece
same_standing Line e all from to start end s t same =
    (either_piece Line e s.stands t.stands s.tokens (not_line _) (same_front s.front t.front _ _ (sym s.splits ∙ t.splits) (sym s.begins ∙ same ∙ t.begins))).0
same_standing Java Java all from to start end s t same =
    (either_piece Java Java s.stands t.stands s.tokens (λ h. refl) (same_front s.front t.front _ _ (sym s.splits ∙ t.splits) (sym s.begins ∙ same ∙ t.begins))).0
same_standing Java Line all from to start end s t same =
    sym (either_piece Line Java t.stands s.stands t.tokens (not_line _) (same_front t.front s.front _ _ (sym t.splits ∙ s.splits) (sym t.begins ∙ sym same ∙ s.begins))).0

pub one_text_at : (bytes : List ℕ) (at : ℕ) (a b : List ℕ) → IsTokenAt bytes at a → IsTokenAt bytes at b → a ≡ b
one_text_at bytes at a b x y =
    let s = named bytes at a x in
    let t = named bytes at b y in
    let pieces = same_standing x.dialect y.dialect (chars bytes) x.token.from x.token.to y.token.from y.token.to s t (x.begins ∙ sym y.begins) in
    x.says ∙ standing_text x.token.from x.token.to bytes x.are_tokens.0 s ∙ ap encode_utf8_all pieces
    ∙ sym (standing_text y.token.from y.token.to bytes y.are_tokens.0 t) ∙ sym y.says

-- ---- from the place on

scalars_behind : (front text : List ℕ) → scalars (front ++ text) ≡ true → scalars text ≡ true
scalars_behind [] text h = h
scalars_behind (c ∷ front) text h = scalars_behind front text (and_parts _ _ h).1

-- the bytes from a token on
pub record FromToken (bytes : List ℕ) (at : ℕ) (text : List ℕ) : Type 0 where
  pub within : at ≤ length bytes
  pub utf8 : IsUtf8 (drop at bytes)
  pub begins : BeginsWithToken (drop at bytes)
  pub says : text ≡ encode_utf8_all begins.piece

pub from_token : (bytes : List ℕ) (at : ℕ) (text : List ℕ) → IsTokenAt bytes at text → FromToken bytes at text
from_token bytes at text x =
    let s = named bytes at text x in
    let u = x.are_tokens.0 in
    let tail : List ℕ = encode_utf8_all (s.piece ++ s.rest) in
    let split : bytes ≡ encode_utf8_all s.front ++ tail = sym (encodes-chars bytes u) ∙ ap encode_utf8_all s.splits ∙ encodes-append s.front (s.piece ++ s.rest) in
    let place : at ≡ length (encode_utf8_all s.front) = sym x.begins ∙ s.begins in
    let left : drop at bytes ≡ tail = ap (drop at) split ∙ ap (λ k. drop k (encode_utf8_all s.front ++ tail)) place ∙ drop-append_seam (encode_utf8_all s.front) tail in
    let good : scalars (s.piece ++ s.rest) ≡ true = scalars_behind s.front (s.piece ++ s.rest) (ap scalars (sym s.splits) ∙ scalars-chars bytes u) in
    record {
      within = omega (arith, place, ap length split, length-append (encode_utf8_all s.front) tail);
      utf8 = subst IsUtf8 (sym left) (s.piece ++ s.rest, (good, refl));
      begins = record {
        dialect = x.dialect;
        kind = s.kind;
        piece = s.piece;
        rest = s.rest;
        next = s.next;
        more = s.more;
        splits = ap chars left ∙ chars-encodes (s.piece ++ s.rest) good;
        stands = s.stands;
        tokens = s.tokens;
      };
      says = x.says ∙ standing_text x.token.from x.token.to bytes u s;
    }

-- ---- what stands at the front

pub no_token_skipped : (d : Dialect) (text after : List ℕ) → HasPiece d None text after → BeginsNoToken d (chars text)
no_token_skipped d text after h kind piece rest x e = let kinds : None ≡ Some kind = (piece_unique h.stands x (sym h.splits ∙ e)).0 in cc

pub no_token_bad : (d : Dialect) (text : List ℕ) → HasBadCharacter d text → BeginsNoToken d (chars text)
no_token_bad d text h kind piece rest x e = h.nothing.no_piece (Some kind) piece rest x (sym h.splits ∙ e)

pub no_token_open : (d : Dialect) (text : List ℕ) → HasOpenComment text → BeginsNoToken d (chars text)
no_token_open d text h kind piece rest x e = open_no_piece h.body h.open_ x (sym h.splits ∙ e)

pub no_token_end : (d : Dialect) (text : List ℕ) → text ≡ [] → BeginsNoToken d (chars text)
no_token_end d text none kind piece rest x e = piece_not_nil x (sym chars-nil ∙ ap chars (sym none) ∙ e)

-- the text after what was found
pub reads_token : (d : Dialect) (text rest : List ℕ) → IsUtf8 text → (t : BeginsWithToken text) → (t.dialect ≡ Java → d ≡ Java) → (found : (kind : TokenKind) × HasPiece d (Some kind) text rest)
    → text ≡ encode_utf8_all t.piece ++ rest
reads_token d text rest u t which (kind, found) =
    let same = either_piece t.dialect d t.stands found.stands t.tokens which (sym t.splits ∙ found.splits) in
    piece_bytes text rest u found ∙ ap (λ p. encode_utf8_all p ++ rest) (sym same.0)

none_here : (d e : Dialect) {kind : TokenKind} {piece rest : List ℕ} (text : List ℕ) → d ≡ e → Piece d (Some kind) piece rest → text ≡ piece ++ rest → BeginsNoToken e text → ⊥
none_here d e {kind} {piece} {rest} text same x is none = none kind piece rest (subst (λ f. Piece f (Some kind) piece rest) same x) is

pub not_in_java : (text : List ℕ) (P : Type 0) → BeginsNoToken Java (chars text) → (t : BeginsWithToken text) → t.dialect ≡ Java → P
not_in_java text P none t e = absurd (none_here t.dialect Java (chars text) e t.stands t.splits none)

pub in_one : (text : List ℕ) → BeginsNoToken Java (chars text) → BeginsNoToken Line (chars text) → BeginsWithToken text → ⊥
in_one text java line t = of_dialect t.dialect refl
  where
    of_dialect : (d : Dialect) → t.dialect ≡ d → ⊥
    of_dialect Java e = none_here t.dialect Java (chars text) e t.stands t.splits java
    of_dialect Line e = none_here t.dialect Line (chars text) e t.stands t.splits line

-- the front of the text before what follows the token
pub front_text : (text piece rest : List ℕ) → text ≡ piece ++ rest → take (length text - length rest) text ≡ piece
front_text text piece rest e =
    let n : length text - length rest ≡ length piece = omega (arith, ap length e, length-append piece rest) in
    rw (n, e) (take-append_seam piece rest)

-- a test of UTF-8 that succeeds
pub is_text : {T E : Type 0} (r : Result T E) (P : T → Type 0) (Q : E → Type 0) (U : Type 0) → MatchResult r P (λ e. ¬ U × Q e) → U → IsOk r
is_text (Ok x) P Q U h u = refl
is_text (Err e) P Q U h u = absurd (h.0 u)

pub token_text : (bytes : List ℕ) (at : ℕ) (text : List ℕ) → IsTokenAt bytes at text → (here rest : List ℕ) → here ≡ drop at bytes
    → ((b : BeginsWithToken here) → here ≡ encode_utf8_all b.piece ++ rest) → take (length here - length rest) here ≡ text
token_text bytes at text x here rest e after =
    let from = from_token bytes at text x in
    let P : List ℕ → Type 0 = λ u. (b : BeginsWithToken u) → u ≡ encode_utf8_all b.piece ++ rest in
    ap (λ u. take (length u - length rest) u) e ∙ front_text (drop at bytes) (encode_utf8_all from.begins.piece) rest (subst P e after from.begins) ∙ sym from.says

pub token_fits : (bytes : List ℕ) (at : ℕ) (text : List ℕ) → IsTokenAt bytes at text → (here rest : List ℕ) → here ≡ drop at bytes
    → ((b : BeginsWithToken here) → here ≡ encode_utf8_all b.piece ++ rest) → length rest ≤ length here
token_fits bytes at text x here rest e after =
    let from = from_token bytes at text x in
    let P : List ℕ → Type 0 = λ u. (b : BeginsWithToken u) → u ≡ encode_utf8_all b.piece ++ rest in
    omega (arith, ap length e, ap length (subst P e after from.begins), length-append (encode_utf8_all from.begins.piece) rest)

-- the bytes from the token on, as they are cut
pub cut_from : (bytes : List ℕ) (at : ℕ) → take (length bytes - at) (drop at bytes) ≡ drop at bytes
cut_from bytes at = grind (arith, common_steps)

pub at_ok : {T E : Type 0} (r : Result T E) (P : T → Type 0) (Q : E → Type 0) (x : T) → MatchResult r P Q → r ≡ Ok x → P x
at_ok (Ok y) P Q x h e = let same : y ≡ x = cc in subst P same h
at_ok (Err y) P Q x h e = absurd cc
