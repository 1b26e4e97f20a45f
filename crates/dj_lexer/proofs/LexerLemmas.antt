-- The loop over the pieces of a text.
use Rattle.std.proofs.Common.{◌≡◌, ℕ, suc, ◌+◌, ◌-◌, ◌≤◌, ◌<◌, ◌↔◌, Option, Some, None, Result, Ok, Err, List, [], ◌∷◌, ◌++◌, length, refl, sym, ap, subst, ◌∙◌, arith, append_assoc, length-append}
use Rattle.std.specs.Prelude.{◌≢◌, slice_range, encode_utf8_all, IsOk}
use Rattle.std.specs.Str.{IsUtf8, IsValidUpTo, chars}
use Rattle.std.proofs.lemmas.Bool.{false≢true}
use Rattle.std.proofs.lemmas.List.{append-nil, map-append}
use Rattle.std.proofs.lemmas.Str.{encodes-append, encodes-chars, length-le-encodes, chars-nil}
use Rattle.dj_lexer.specs.Alphabet.{byte_len}
use Rattle.dj_lexer.specs.Lexed.{Lexed}
use Rattle.dj_lexer.specs.Tokens.{Piece, TokensFrom, TokenList}
use Rattle.dj_lexer.specs.Tokens as tokens
use Rattle.dj_lexer.specs.Symbols.{Symbol, symbol_of, symbols_of, depth_after, greatest_depth, greatest_depth_from}
use Rattle.dj_lexer.specs.Faults.{FaultFrom, FirstFault, HasTokens, IsRefusedBy, error_of}
use Rattle.dj_lexer.specs.Faults as faults
use Rattle.dj_lexer.specs.Pieces.{IsFront, HasPiece, HasBadCharacter, HasOpenComment}
use Rattle.dj_lexer.specs.declared.front.Front.{Front}
use Rattle.dj_lexer.specs.declared.front.Front.TheVariants as fronts
use Rattle.std.specs.Borrow.{Bor}
use Rattle.dj_lexer.specs.declared.token.Dialect.{Dialect}
use Rattle.dj_lexer.specs.declared.token.TokenKind.{TokenKind}
use Rattle.dj_lexer.specs.declared.token.Token.{Token}
use Rattle.dj_lexer.specs.declared.token.LexFault.{LexFault}
use Rattle.dj_lexer.specs.declared.token.LexFault.TheVariants.{NotUtf8, BadCharacter, OpenComment, TooDeep}
use Rattle.dj_lexer.specs.declared.token.LexError.{LexError}
use Rattle.dj_lexer.specs.declared.token.LexError.TheVariants as errors
use Rattle.dj_lexer.specs.declared.token.TheConstants.{MAX_DEPTH}
use Rattle.dj_lexer.proofs.PieceLemmas.{piece_not_empty}
use Rattle.dj_lexer.proofs.AnswerLemmas.{tokens_at, fault_at, cut_piece, depth_after-encoded, first_fault_unique, fault_not_in_tokens}

-- the tokens before the rest of the text are these, and this many brackets are open there
pub record Reached (dialect : Dialect) (text rest : List ℕ) (depth : ℕ) (list : List Token) : Type 0 where
  pub before : List ℕ
  pub splits : text ≡ before ++ rest
  pub tokens : (more : List Token) → TokensFrom dialect (length before) (chars rest) more → TokensFrom dialect 0 (chars text) (list ++ more)
  pub faults : (f : LexFault) → FaultFrom dialect depth (length before) (chars rest) f → FaultFrom dialect 0 0 (chars text) f
  pub depths : (ss : List Symbol) → greatest_depth_from depth ss ≤ MAX_DEPTH → greatest_depth_from 0 (symbols_of text list ++ ss) ≤ MAX_DEPTH
  pub low : depth ≤ MAX_DEPTH

pub reached_start : (dialect : Dialect) (text : List ℕ) (list : List Token) → list ≡ [] → Reached dialect text text 0 list
reached_start dialect text list e =
    let start : Reached dialect text text 0 [] = record { before = []; splits = refl; tokens = λ more x. x; faults = λ f x. x; depths = λ ss l. l; low = omega arith } in
    subst (λ ts. Reached dialect text text 0 ts) (sym e) start

-- the bytes of a piece
pub piece_bytes : {dialect : Dialect} {kind : Option TokenKind} (rest after : List ℕ) → IsUtf8 rest → (p : HasPiece dialect kind rest after)
    → rest ≡ encode_utf8_all p.piece ++ after
piece_bytes rest after u p =
    sym (encodes-chars rest u) ∙ ap encode_utf8_all p.splits ∙ encodes-append p.piece (chars after)
    ∙ ap (λ t. encode_utf8_all p.piece ++ t) (encodes-chars after p.utf8)

-- a piece is at least one byte
pub piece_shortens : {dialect : Dialect} {kind : Option TokenKind} (rest after : List ℕ) → IsUtf8 rest → HasPiece dialect kind rest after → length after < length rest
piece_shortens rest after u p =
    let bytes = piece_bytes rest after u p in
    let front = piece_not_empty p.stands in
    let some : length p.piece ≡ suc (length front.1) = ap length front.2 in
    omega (arith, ap length bytes, length-append (encode_utf8_all p.piece) after, length-le-encodes p.piece)

module _ (dialect : Dialect) (text rest : List ℕ) (depth : ℕ) (list : List Token) (u : IsUtf8 rest) (x : Reached dialect text rest depth list) where
  pub offset : length text - length rest ≡ length x.before
  offset = omega (arith, ap length x.splits, length-append x.before rest)

  pub reached_skip : (after : List ℕ) → HasPiece dialect None rest after → Reached dialect text after depth list
  reached_skip after p =
      let place : length (x.before ++ encode_utf8_all p.piece) ≡ length x.before + byte_len p.piece = length-append x.before (encode_utf8_all p.piece) in
      record {
        before = x.before ++ encode_utf8_all p.piece;
        splits = x.splits ∙ ap (λ t. x.before ++ t) (piece_bytes rest after u p) ∙ sym (append_assoc x.before (encode_utf8_all p.piece) after);
        tokens = λ more y. x.tokens more (tokens_at refl (sym p.splits) (tokens.skipped (length x.before) p.piece (chars after) more p.stands (tokens_at place refl y)));
        faults = λ f y. x.faults f (fault_at refl refl (sym p.splits) (faults.skipped depth (length x.before) p.piece (chars after) f p.stands (fault_at refl place refl y)));
        depths = x.depths;
        low = x.low;
      }

  pub reached_bad : HasBadCharacter dialect rest → FaultFrom dialect 0 0 (chars text) (BadCharacter (length text - length rest))
  reached_bad b =
      subst (λ n. FaultFrom dialect 0 0 (chars text) (BadCharacter n)) (sym offset)
      (x.faults _ (fault_at refl refl (sym b.splits) (faults.bad_character depth (length x.before) b.first b.rest b.nothing)))

  pub reached_open : HasOpenComment rest → FaultFrom dialect 0 0 (chars text) (OpenComment (length text - length rest))
  reached_open b =
      subst (λ n. FaultFrom dialect 0 0 (chars text) (OpenComment n)) (sym offset)
      (x.faults _ (fault_at refl refl (sym b.splits) (faults.open_comment depth (length x.before) b.body b.open_)))

  module _ (kind : TokenKind) (after : List ℕ) (p : HasPiece dialect (Some kind) rest after) where
    end : length text - length after ≡ length x.before + byte_len p.piece
    end = omega (arith, ap length x.splits, length-append x.before rest, ap length (piece_bytes rest after u p), length-append (encode_utf8_all p.piece) after)

    piece_text : slice_range text (length text - length rest) (length text - length after) ≡ encode_utf8_all p.piece
    piece_text = rw (offset, end) (cut_piece text x.before p.piece after (length x.before) (x.splits ∙ ap (λ t. x.before ++ t) (piece_bytes rest after u p)) refl)

    depth_at : depth_after depth (slice_range text (length text - length rest) (length text - length after)) ≡ depth_after depth p.piece
    depth_at = ap (depth_after depth) piece_text ∙ depth_after-encoded depth p.piece

    pub reached_deep : MAX_DEPTH < depth_after depth (slice_range text (length text - length rest) (length text - length after))
        → FaultFrom dialect 0 0 (chars text) (TooDeep (length text - length rest))
    reached_deep deep =
        subst (λ n. FaultFrom dialect 0 0 (chars text) (TooDeep n)) (sym offset)
        (x.faults _ (fault_at refl refl (sym p.splits) (faults.too_deep depth (length x.before) kind p.piece (chars after) p.stands (omega (arith, depth_at)))))

    pub reached_token : (now : ℕ) (ts : List Token) → now ≡ depth_after depth (slice_range text (length text - length rest) (length text - length after)) → now ≤ MAX_DEPTH
        → ts ≡ list ++ record { kind = kind; from = length text - length rest; to = length text - length after } ∷ []
        → Reached dialect text after now ts
    reached_token now ts is low e =
        let place : length (x.before ++ encode_utf8_all p.piece) ≡ length x.before + byte_len p.piece = length-append x.before (encode_utf8_all p.piece) in
        let same : now ≡ depth_after depth p.piece = is ∙ depth_at in
        let t : Token = record { kind = kind; from = length text - length rest; to = length text - length after } in
        let spelled : Token = record { kind = kind; from = length x.before; to = length x.before + byte_len p.piece } in
        let same_token : spelled ≡ t = ap (λ n. record { kind = kind; from = n; to = length x.before + byte_len p.piece }) (sym offset)
        ∙ ap (λ n. record { kind = kind; from = length text - length rest; to = n }) (sym end) in
        let all : Reached dialect text after now (list ++ t ∷ []) = record {
          before = x.before ++ encode_utf8_all p.piece;
          splits = x.splits ∙ ap (λ t. x.before ++ t) (piece_bytes rest after u p) ∙ sym (append_assoc x.before (encode_utf8_all p.piece) after);
          tokens = λ more y.
              subst (λ us. TokensFrom dialect 0 (chars text) us) (ap (λ v. list ++ v ∷ more) same_token ∙ sym (append_assoc list (t ∷ []) more))
              (x.tokens (spelled ∷ more) (tokens_at refl (sym p.splits) (tokens.token (length x.before) kind p.piece (chars after) more p.stands (tokens_at place refl y))));
          faults = λ f y.
              x.faults f (fault_at refl refl (sym p.splits)
              (faults.token depth (length x.before) kind p.piece (chars after) f p.stands (omega arith) (fault_at same place refl y)));
          depths = λ ss l.
              subst (λ us. greatest_depth_from 0 us ≤ MAX_DEPTH) (sym (ap (λ us. us ++ ss) (map-append (symbol_of text) list (t ∷ [])) ∙ append_assoc (symbols_of text list) (symbol_of text t ∷ []) ss))
              (x.depths (symbol_of text t ∷ ss) (deeper ss (subst (λ n. greatest_depth_from n ss ≤ MAX_DEPTH) is l)));
          low = low;
        } in
        subst (λ us. Reached dialect text after now us) (sym e) all
      where
        deeper : (ss : List Symbol)
            → greatest_depth_from (depth_after depth (slice_range text (length text - length rest) (length text - length after))) ss ≤ MAX_DEPTH
            → greatest_depth_from depth (symbol_of text (record { kind = kind; from = length text - length rest; to = length text - length after }) ∷ ss) ≤ MAX_DEPTH
        deeper ss l = omega (arith, x.low)

-- the end of the text
pub reached_end : (dialect : Dialect) (text rest : List ℕ) (depth : ℕ) (list : List Token) → IsUtf8 text → rest ≡ [] → Reached dialect text rest depth list
    → TokenList dialect text list × (greatest_depth (symbols_of text list) ≤ MAX_DEPTH)
reached_end dialect text rest depth list u e x =
    let none : [] ≡ chars rest = sym chars-nil ∙ ap chars (sym e) in
    let all = x.tokens [] (tokens_at refl none (tokens.end (length x.before))) in
    let low = x.depths [] x.low in (
      (u, subst (λ ts. TokensFrom dialect 0 (chars text) ts) (append-nil list) all),
      subst (λ ss. greatest_depth_from 0 ss ≤ MAX_DEPTH) (append-nil (symbols_of text list)) low,
    )

-- what `front_of` found, by its variant
pub skipped_at : (dialect : Dialect) (rest : List ℕ) (found : Front) (after : Bor (List ℕ)) → IsFront dialect rest found → found ≡ fronts.Skipped after
    → HasPiece dialect None rest after.now
skipped_at dialect rest found after h e = subst (IsFront dialect rest) e h

pub token_at : (dialect : Dialect) (rest : List ℕ) (found : Front) (kind : TokenKind) (after : Bor (List ℕ)) → IsFront dialect rest found → found ≡ fronts.Token kind after
    → HasPiece dialect (Some kind) rest after.now
token_at dialect rest found kind after h e = subst (IsFront dialect rest) e h

-- the offsets of a piece
pub piece_fits : (dialect : Dialect) (text rest after : List ℕ) (depth : ℕ) (list : List Token) (kind : Option TokenKind) → IsUtf8 rest
    → Reached dialect text rest depth list → HasPiece dialect kind rest after → (length after < length rest) × (length rest ≤ length text)
piece_fits dialect text rest after depth list kind u x p = (piece_shortens rest after u p, omega (arith, ap length x.splits, length-append x.before rest))

pub same_depth : (d r : ℕ) (bytes text : List ℕ) (i j : ℕ) → r ≡ depth_after d (slice_range bytes i j) → bytes ≡ text → r ≡ depth_after d (slice_range text i j)
same_depth d r bytes text i j e f = e ∙ ap (λ t. depth_after d (slice_range t i j)) f

-- ---- what `lex` answers, where it says why there are no tokens

-- a fault, unless memory ran out
fault_of : (dialect : Dialect) (bytes : List ℕ) (e : LexError) → IsRefusedBy dialect bytes e → e ≢ errors.NoMemory
    → (f : LexFault) × (e ≡ error_of f) × FirstFault dialect bytes f
fault_of dialect bytes (errors.NotUtf8 at) h other = (NotUtf8 at, refl, h)
fault_of dialect bytes (errors.BadCharacter at) h other = (BadCharacter at, refl, h)
fault_of dialect bytes (errors.OpenComment at) h other = (OpenComment at, refl, h)
fault_of dialect bytes (errors.TooDeep at) h other = (TooDeep at, refl, h)
fault_of dialect bytes errors.NoMemory h other = absurd (other refl)

refused_by_fault : (dialect : Dialect) (bytes : List ℕ) (f : LexFault) → IsRefusedBy dialect bytes (error_of f) → FirstFault dialect bytes f
refused_by_fault dialect bytes (NotUtf8 at) h = h
refused_by_fault dialect bytes (BadCharacter at) h = h
refused_by_fault dialect bytes (OpenComment at) h = h
refused_by_fault dialect bytes (TooDeep at) h = h

module _ (dialect : Dialect) (bytes : List ℕ) where
  pub given_err : (e : LexError) → IsRefusedBy dialect bytes e → ◌≢◌ {A = Result Lexed LexError} (Err e) (Err errors.NoMemory)
      → IsOk {T = Lexed} {E = LexError} (Err e) ↔ HasTokens dialect bytes
  given_err e h other =
      let (f, is, first) = fault_of dialect bytes e h (λ same. other (ap (λ x. Err x) same)) in
      (λ no. absurd (false≢true no), λ has. absurd (fault_not_in_tokens dialect bytes f has first))

  pub refused_ok : (t : Lexed) → HasTokens dialect bytes → (f : LexFault) → ◌≡◌ {A = Result Lexed LexError} (Ok t) (Err (error_of f)) ↔ FirstFault dialect bytes f
  refused_ok t has f = (λ no. cc, λ first. absurd (fault_not_in_tokens dialect bytes f has first))

  pub refused_err : (e : LexError) → IsRefusedBy dialect bytes e → (f : LexFault) → ◌≢◌ {A = Result Lexed LexError} (Err e) (Err errors.NoMemory)
      → ◌≡◌ {A = Result Lexed LexError} (Err e) (Err (error_of f)) ↔ FirstFault dialect bytes f
  refused_err e h f other = (
    λ same. let is : e ≡ error_of f = cc in refused_by_fault dialect bytes f (subst (IsRefusedBy dialect bytes) is h),
    λ first. let (g, is, mine) = fault_of dialect bytes e h (λ same. other (ap (λ x. Err x) same)) in
        ap (λ x. Err x) (is ∙ ap error_of (first_fault_unique dialect bytes g f mine first)),
  )

-- what was found in a text holds of the bytes that it was made from
pub found_list : (dialect : Dialect) (text bytes : List ℕ) (list : List Token) → text ≡ bytes → TokenList dialect text list → TokenList dialect bytes list
found_list dialect text bytes list e t = subst (λ b. TokenList dialect b list) e t

pub found_tokens : (dialect : Dialect) (text bytes : List ℕ) (list : List Token) → text ≡ bytes → TokenList dialect text list
    → greatest_depth (symbols_of text list) ≤ MAX_DEPTH → HasTokens dialect bytes
found_tokens dialect text bytes list e t low =
    (list, found_list dialect text bytes list e t, subst (λ b. greatest_depth (symbols_of b list) ≤ MAX_DEPTH) e low)

pub found_fault : (dialect : Dialect) (text bytes : List ℕ) (e : LexError) → text ≡ bytes → IsRefusedBy dialect text e → IsRefusedBy dialect bytes e
found_fault dialect text bytes e same h = subst (λ b. IsRefusedBy dialect b e) same h

pub found_not_utf8 : (dialect : Dialect) (bytes : List ℕ) (n at : ℕ) → ¬ (IsUtf8 bytes) → IsValidUpTo bytes n → at ≡ n → IsRefusedBy dialect bytes (errors.NotUtf8 at)
found_not_utf8 dialect bytes n at bad upto e = (bad, subst (IsValidUpTo bytes) (sym e) upto)
