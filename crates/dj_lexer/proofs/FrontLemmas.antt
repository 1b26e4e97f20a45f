-- From what the calls on a text say of its bytes to its characters.
use Rattle.std.proofs.Common.{◌≡◌, ℕ, zero, suc, add-zero, ◌+◌, ◌≤◌, ◌<◌, ◌⊎◌, inl, inr, Bool, true, false, not, ltb, Option, Some, None, List, [], ◌∷◌, ◌++◌, length, take, drop, get_or, refl, sym, ap, subst, ◌∙◌, arith, append_assoc, length-append}
use Rattle.std.specs.Prelude.{codes, map, encode_utf8_all, encode_utf8, Contains}
use Rattle.std.specs.Borrow.{Bor}
use Rattle.std.specs.Option.{IfSome}
use Rattle.std.proofs.Math.Utf8.{scalars}
use Rattle.std.specs.List.{AllPass, list_all}
use Rattle.std.specs.Str.{IsUtf8, IsAscii, chars}
use Rattle.std.specs.Str.Iter.{HasSubslice}
use Rattle.std.specs.Str.Pattern.{FindsPrefixBy, FindsText, FindsTextPrefix, StripsPrefix, CutsPrefixes, IsTrimStartMatches, LacksTextAt}
use Rattle.std.proofs.Math.Seq.{drop-append_seam}
use Rattle.std.proofs.lemmas.Bool.{and_parts, ltb-true, cases_lt, false≢true}
use Rattle.std.proofs.lemmas.List.{append_cancel_left, take-append-drop, drop-append-le, length-take, length-map}
use Rattle.std.proofs.lemmas.List.Sums.{AllPass-from_list_all}
use Rattle.std.proofs.lemmas.List.Prefix.{at_reads}
use Rattle.std.proofs.lemmas.List.Elements.{All-push, All-nil, All-head, All-contains}
use Rattle.std.proofs.lemmas.Str.{chars_past_char, IsUtf8-past_char, encodes-chars, encodes-append, encodes-IsAscii, chars-append, chars-IsAscii, IsUtf8-from_ascii, scalars-chars, len_utf8_bounds, length-le-encodes, IsUtf8-take, IsUtf8-drop, IsCharBoundary-before_ascii}
use Rattle.dj_lexer.specs.Alphabet.{ends_line, is_white_space, starts_word, continues_word, symbols}
use Rattle.dj_lexer.specs.Tokens.{FirstFails, HasNoClose, Piece, white_space, line_comment, block_comment, word, symbol}
use Rattle.dj_lexer.specs.Faults.{BeginsNothing}
use Rattle.dj_lexer.specs.Pieces.{SplitsAfterRun, HasPiece, HasBadCharacter, HasOpenComment, BeginsNoComment, BeginsNoSymbol}
use Rattle.dj_lexer.specs.declared.token.Dialect.{Dialect}
use Rattle.dj_lexer.specs.declared.token.Dialect.TheVariants.{Line, Java}
use Rattle.dj_lexer.specs.declared.token.TokenKind.{TokenKind}
use Rattle.dj_lexer.specs.declared.token.TokenKind.TheVariants.{Word, Symbol}
use Rattle.dj_lexer.proofs.PieceLemmas.{class, piece_class, class_is, underscore_starts, begins_symbol, symbol_begins}

-- ---- runs

record Cut (test : ℕ → Bool) (s r : List ℕ) : Type 0 where
  pub run : List ℕ
  pub passes : AllPass test run
  pub splits : chars s ≡ run ++ chars r
  pub utf8 : IsUtf8 r

module _ (R : List ℕ → Option ℕ → Type 0) (test : ℕ → Bool) (finds : (w : List ℕ) (o : Option ℕ) → R w o → FindsPrefixBy test w o) where
  cut : (s : List ℕ) (ns : List ℕ) (r : List ℕ) → IsUtf8 s → CutsPrefixes R s ns r → Cut test s r
  cut s [] r u e = record { run = []; passes = All-nil (λ c. test c ≡ true); splits = ap chars (sym e); utf8 = subst IsUtf8 (sym e) u }
  cut s (n ∷ ns) r u (m, before, hit, e) =
      let front = cut s ns m u before in
      let (c, passes, at) = finds m (Some n) hit in
      let split : m ≡ encode_utf8 c ++ r = at.split ∙ ap (λ t. encode_utf8 c ++ t) (sym e) in
      record {
        run = front.run ++ c ∷ [];
        passes = All-push (λ c. test c ≡ true) front.run c front.passes passes;
        splits = front.splits ∙ ap (λ t. front.run ++ t) (chars_past_char m r c front.utf8 split) ∙ sym (append_assoc front.run (c ∷ []) (chars r));
        utf8 = IsUtf8-past_char m r c front.utf8 split;
      }

  stops : (r : List ℕ) → IsUtf8 r → (cs : List ℕ) → chars r ≡ cs → (o : Option ℕ) → R r o → IfSome o (λ n. n ≡ 0) → FirstFails test cs
  stops r u [] e o h z = tt
  stops r u (c ∷ cs) e None h z =
      let scalar = and_parts _ _ (ap scalars (sym e) ∙ scalars-chars r u) in
      finds r None h c (encode_utf8_all cs) scalar.0 (sym (encodes-chars r u) ∙ ap encode_utf8_all e)
  stops r u (c ∷ cs) e (Some n) h z =
      let (d, passes, at) = finds r (Some n) h in
      absurd (omega (arith, at.ends, len_utf8_bounds d))

  -- what `trim_start_matches` leaves
  trimmed : (s r : List ℕ) → IsUtf8 s → IsTrimStartMatches R s r → SplitsAfterRun test s r
  trimmed s r u (cuts, (o, h, z)) =
      let front = cut s cuts.0 r u cuts.1 in
      record { run = front.run; passes = front.passes; stops = stops r front.utf8 (chars r) refl o h z; splits = front.splits; utf8 = front.utf8 }

-- the same at a closure that answers as the test
pub trimmed_by : (M : (ℕ → Bool) → Type 0) (test : ℕ → Bool) (s r : List ℕ) → IsUtf8 s
    → IsTrimStartMatches (λ w o. (k : ℕ → Bool) → M k → FindsPrefixBy k w o) s r → M test → SplitsAfterRun test s r
trimmed_by M test s r u h m = trimmed (λ w o. (k : ℕ → Bool) → M k → FindsPrefixBy k w o) test (λ w o g. g test m) s r u h

-- ---- ASCII texts

pub has_chars : (bs p rest : List ℕ) → IsAscii p → bs ≡ p ++ rest → chars bs ≡ p ++ chars rest
has_chars bs p rest a e =
    ap chars e ∙ chars-append p rest (IsUtf8-from_ascii p a) ∙ ap (λ t. t ++ chars rest) (chars-IsAscii p a)

-- the bytes after the characters of an ASCII text
pub bytes_after : (bs p rest : List ℕ) → IsUtf8 bs → IsAscii p → chars bs ≡ p ++ rest → bs ≡ p ++ encode_utf8_all rest
bytes_after bs p rest u a e =
    sym (encodes-chars bs u) ∙ ap encode_utf8_all e ∙ encodes-append p rest ∙ ap (λ t. t ++ encode_utf8_all rest) (encodes-IsAscii p a)

pub lacks_chars : (bs p : List ℕ) → IsUtf8 bs → IsAscii p → LacksTextAt p bs 0 → (rest : List ℕ) → chars bs ≡ p ++ rest → ⊥
lacks_chars bs p u a none rest e = none (encode_utf8_all rest) (bytes_after bs p rest u a e)

-- bytes below 128, by a test that computes
pub ascii_text : (p : List ℕ) → list_all (λ c. ltb c 128) p ≡ true → IsAscii p
ascii_text [] h i = omega arith
ascii_text (c ∷ p) h zero = let parts = and_parts (ltb c 128) (list_all (λ c. ltb c 128) p) h in omega (arith, ltb-true c 128 parts.0)
ascii_text (c ∷ p) h (suc i) = let parts = and_parts (ltb c 128) (list_all (λ c. ltb c 128) p) h in ascii_text p parts.1 i

-- ---- comments

-- a line comment, from its two slashes on
pub line_piece : (dialect : Dialect) (text line rest : List ℕ) → text ≡ codes "//" ++ line
    → SplitsAfterRun (λ c. not (ends_line c)) line rest → HasPiece dialect None text rest
line_piece dialect text line rest e s = record {
  piece = codes "//" ++ s.run;
  stands = line_comment s.run (chars rest) s.passes s.stops;
  splits = has_chars text (codes "//") line (ascii_text (codes "//") refl) e ∙ ap (λ t. codes "//" ++ t) s.splits;
  utf8 = s.utf8;
}

-- a `*/` among the characters is one among the bytes
close_bytes : (bs : List ℕ) → IsUtf8 bs → HasSubslice (chars bs) (codes "*/") → HasSubslice bs (codes "*/")
close_bytes bs u (a, b, e) = (
  encode_utf8_all a,
  encode_utf8_all b,
  sym (encodes-chars bs u) ∙ ap encode_utf8_all e ∙ encodes-append a (codes "*/" ++ b)
      ∙ ap (λ t. encode_utf8_all a ++ t) (encodes-append (codes "*/") b ∙ ap (λ t. t ++ encode_utf8_all b) (encodes-IsAscii (codes "*/") (ascii_text (codes "*/") refl))),
)

no_close : (bs : List ℕ) (end : ℕ) → IsUtf8 bs → ((i : ℕ) → i + 2 ≤ length bs → LacksTextAt (codes "*/") bs i) → HasNoClose (chars bs)
no_close bs end u lacks x =
    let (a, b, e) = close_bytes bs u x in
    let long : length bs ≡ length a + suc (suc (length b)) = ap length e ∙ length-append a (42 ∷ 47 ∷ b) in
    lacks (length a) (omega arith) b (ap (λ t. drop (length a) t) e ∙ drop-append_seam a (42 ∷ 47 ∷ b))

pub open_body : (text body : List ℕ) → IsUtf8 body → text ≡ codes "/*" ++ body → FindsText (codes "*/") body None → HasOpenComment text
open_body text body u e none = record {
  body = chars body;
  splits = has_chars text (codes "/*") body (ascii_text (codes "/*") refl) e;
  open_ = no_close body 0 u (λ i l. none i (omega arith));
}

pub block_piece : (dialect : Dialect) (text body rest : List ℕ) (i j : ℕ) → IsUtf8 body → text ≡ codes "/*" ++ body
    → FindsText (codes "*/") body (Some (i, j)) → rest ≡ drop j body → HasPiece dialect None text rest
block_piece dialect text body rest i j u e (lacks, at) r =
    let within : i + 2 ≤ length body = at.after.0 in
    let star : get_or body i 0 ≡ 42 = rw add-zero at (at_reads 0 body (codes "*/") i (drop j body) at.split 0 (omega arith)) in
    let inside : IsUtf8 (take i body) = IsUtf8-take body i u (IsCharBoundary-before_ascii body i (omega arith) (omega arith)) in
    let after : IsUtf8 rest = subst IsUtf8 (sym r) (subst (λ k. IsUtf8 (drop k body)) (sym at.ends) (IsUtf8-drop body (i + 2) u at.after)) in
    let parts : body ≡ take i body ++ (codes "*/" ++ rest) =
    sym (take-append-drop i body) ∙ ap (λ t. take i body ++ t) (at.split ∙ ap (λ t. codes "*/" ++ t) (sym r)) in
    let none : HasNoClose (chars (take i body)) = no_close (take i body) 0 inside (λ k l tail f. lacks k (omega (arith, length-take i body)) (tail ++ (codes "*/" ++ rest)) (rest_of k l tail f parts)) in
    record {
      piece = codes "/*" ++ (chars (take i body) ++ codes "*/");
      stands = block_comment (chars (take i body)) (chars rest) none;
      splits = has_chars text (codes "/*") body (ascii_text (codes "/*") refl) e
          ∙ ap (λ t. codes "/*" ++ t) (ap chars parts ∙ chars-append (take i body) (codes "*/" ++ rest) inside
          ∙ ap (λ t. chars (take i body) ++ t) (has_chars (codes "*/" ++ rest) (codes "*/") rest (ascii_text (codes "*/") refl) refl)
          ∙ sym (append_assoc (chars (take i body)) (codes "*/") (chars rest)));
      utf8 = after;
    }
  where
    rest_of : (k : ℕ) → k + 2 ≤ length (take i body) → (tail : List ℕ) → drop k (take i body) ≡ codes "*/" ++ tail → body ≡ take i body ++ (codes "*/" ++ rest)
        → drop k body ≡ codes "*/" ++ (tail ++ (codes "*/" ++ rest))
    rest_of k l tail f p =
        ap (drop k) p ∙ drop-append-le k (take i body) (codes "*/" ++ rest) (omega arith) ∙ ap (λ t. t ++ (codes "*/" ++ rest)) f

pub no_comment : (text : List ℕ) → IsUtf8 text → LacksTextAt (codes "//") text 0 → LacksTextAt (codes "/*") text 0 → BeginsNoComment (chars text)
no_comment text u line block rest =
    (lacks_chars text (codes "//") u (ascii_text (codes "//") refl) line rest, lacks_chars text (codes "/*") u (ascii_text (codes "/*") refl) block rest)

-- ---- what `strip_prefix` leaves

pub stripped : (p s x : List ℕ) → StripsPrefix (FindsTextPrefix p) s x → s ≡ p ++ x
stripped p s x (n, (len, splits, cut), is, fits) = splits ∙ ap (λ t. p ++ t) (sym is)

pub stripped_utf8 : (p s x : List ℕ) → IsUtf8 s → StripsPrefix (FindsTextPrefix p) s x → IsUtf8 x
stripped_utf8 p s x u (n, (len, splits, cut), is, fits) =
    subst IsUtf8 (sym is) (subst (λ k. IsUtf8 (drop k s)) (sym len) (IsUtf8-drop s (length p) u cut))

-- ---- words

-- a `_` that no character of a word follows begins nothing
pub underscore_begins_nothing : (dialect : Dialect) (rest : List ℕ) → FirstFails (continues_word dialect) rest → BeginsNothing dialect (95 ∷ rest)
underscore_begins_nothing dialect rest f = record { no_piece = λ k p r x e. only_words p r x e; no_comment = λ body e. clash body e }
  where
    clash : (body : List ℕ) → 95 ∷ rest ≡ codes "/*" ++ body → ⊥
    clash body e = let two : ◌≡◌ {A = ℕ} 95 47 = cc in absurd (omega (arith, two))

    starts : class dialect (95 ∷ rest) ≡ 0
    starts = rw (underscore_starts dialect) refl

    only_words : {k : Option TokenKind} (p r : List ℕ) → Piece dialect k p r → 95 ∷ rest ≡ p ++ r → ⊥
    only_words _ _ (word c [] s b pb fb nb) e = let same : c ≡ 95 = cc in nb (ap (λ d. d ∷ []) same)
    only_words _ _ (word c (d ∷ a) s b pb fb nb) e =
        let tail : rest ≡ d ∷ (a ++ s) = cc in
        let fails : continues_word dialect d ≡ false = subst (FirstFails (continues_word dialect)) tail f in
        let passes : continues_word dialect d ≡ true = All-head (λ c. continues_word dialect c ≡ true) d a pb in
        cc
    only_words p r x e =
        let h : piece_class x ≡ 0 = sym (class_is x) ∙ sym (ap (class dialect) e) ∙ starts in
        absurd (omega (arith, h))

-- a run of no bytes has no characters
no_run : (test : ℕ → Bool) (s r : List ℕ) → IsUtf8 s → (x : SplitsAfterRun test s r) → length r ≡ length s → x.run ≡ []
no_run test s r u x e =
    let bytes : s ≡ encode_utf8_all x.run ++ r =
    sym (encodes-chars s u) ∙ ap encode_utf8_all x.splits ∙ encodes-append x.run (chars r) ∙ ap (λ t. encode_utf8_all x.run ++ t) (encodes-chars r x.utf8) in
    let long : length s ≡ length (encode_utf8_all x.run) + length r = ap length bytes ∙ length-append (encode_utf8_all x.run) r in
    nil_of x.run (omega (arith, length-le-encodes x.run))
  where
    nil_of : (cs : List ℕ) → length cs ≡ 0 → cs ≡ []
    nil_of [] l = refl
    nil_of (c ∷ cs) l = absurd (omega arith)

pub lone_underscore : (dialect : Dialect) (text : List ℕ) (first : ℕ) (more rest : List ℕ) → IsUtf8 more → chars text ≡ first ∷ chars more → first ≡ 95
    → SplitsAfterRun (continues_word dialect) more rest → length rest ≡ length more → HasBadCharacter dialect text
lone_underscore dialect text first more rest u e f x l =
    let none : x.run ≡ [] = no_run (continues_word dialect) more rest u x l in
    let same : chars more ≡ chars rest = x.splits ∙ ap (λ t. t ++ chars rest) none in
    record {
      first = 95;
      rest = chars more;
      splits = e ∙ ap (λ c. c ∷ chars more) f;
      nothing = underscore_begins_nothing dialect (chars more) (subst (FirstFails (continues_word dialect)) (sym same) x.stops);
    }

pub word_piece : (dialect : Dialect) (text : List ℕ) (first : ℕ) (more rest : List ℕ) → IsUtf8 more → chars text ≡ first ∷ chars more
    → starts_word dialect first ≡ true → SplitsAfterRun (continues_word dialect) more rest → (first ≡ 95 → length rest ≡ length more → ⊥)
    → HasPiece dialect (Some Word) text rest
word_piece dialect text first more rest u e s x other = record {
  piece = first ∷ x.run;
  stands = word first x.run (chars rest) s x.passes x.stops (λ one. other (head_of one) (empty_run (tail_of one)));
  splits = e ∙ ap (λ t. first ∷ t) x.splits;
  utf8 = x.utf8;
}
  where
    head_of : first ∷ x.run ≡ 95 ∷ [] → first ≡ 95
    head_of one = cc

    tail_of : first ∷ x.run ≡ 95 ∷ [] → x.run ≡ []
    tail_of one = cc

    empty_run : x.run ≡ [] → length rest ≡ length more
    empty_run none =
        ap length (sym (encodes-chars rest x.utf8) ∙ ap encode_utf8_all (sym (x.splits ∙ ap (λ t. t ++ chars rest) none)) ∙ encodes-chars more u)

-- ---- a character that begins nothing

pub begins_nothing : (dialect : Dialect) (text : List ℕ) (first : ℕ) (rest : List ℕ) → chars text ≡ first ∷ rest → is_white_space first ≡ false
    → starts_word dialect first ≡ false → BeginsNoComment (chars text) → BeginsNoSymbol dialect (chars text) → HasBadCharacter dialect text
begins_nothing dialect text first rest e white starts comments signs = record {
  first = first;
  rest = rest;
  splits = e;
  nothing = record { no_piece = λ k p r x f. no_piece p r x (e ∙ f); no_comment = λ body f. (comments body).1 (e ∙ f) };
}
  where
    no_piece : {k : Option TokenKind} (p r : List ℕ) → Piece dialect k p r → chars text ≡ p ++ r → ⊥
    no_piece _ _ (white_space c s w) f = let same : first ≡ c = cc in let is : is_white_space first ≡ true = ap is_white_space same ∙ w in cc
    no_piece _ _ (line_comment a s p g) f = (comments (a ++ s)).0 f
    no_piece _ _ (block_comment a s n) f = (comments ((a ++ codes "*/") ++ s)).1 f
    no_piece _ _ (word c a s b p g n) f = let same : first ≡ c = cc in let is : starts_word dialect first ≡ true = ap (starts_word dialect) same ∙ b in cc
    no_piece _ _ (symbol p s m l) f = signs p s m f

-- ---- symbols

symbols_are_ascii : (dialect : Dialect) → list_all (λ s. list_all (λ c. ltb c 128) s) (symbols dialect) ≡ true
symbols_are_ascii Line = refl
symbols_are_ascii Java = refl

symbol_is_ascii : (dialect : Dialect) (s : List ℕ) → Contains (symbols dialect) s → IsAscii s
symbol_is_ascii dialect s m =
    let test : List ℕ → Bool = λ s. list_all (λ c. ltb c 128) s in
    ascii_text s (All-contains (λ s. test s ≡ true) (symbols dialect) s (AllPass-from_list_all test (symbols dialect) (symbols_are_ascii dialect)) m)

-- of the first `seen` symbols with which the text begins, the longest leaves `shortest`; where there is none, that is the text
pub record Shortest (dialect : Dialect) (text : List ℕ) (seen : ℕ) (shortest : List ℕ) : Type 0 where
  pub left : (shortest ≡ text) ⊎ ((s : List ℕ) × Contains (symbols dialect) s × (text ≡ s ++ shortest))
  pub least : (k : ℕ) → k < seen → (d rest : List ℕ) → text ≡ get_or (symbols dialect) k d ++ rest → length shortest ≤ length rest

pub shortest_at_first : (dialect : Dialect) (text : List ℕ) → Shortest dialect text 0 text
shortest_at_first dialect text = record { left = inl refl; least = λ k l d rest e. absurd (omega arith) }

-- the next symbol leaves less
pub shortest_found : (dialect : Dialect) (text : List ℕ) (seen : ℕ) (shortest sign rest : List ℕ) → Shortest dialect text seen shortest
    → seen < length (symbols dialect) → ((d : List ℕ) → get_or (symbols dialect) seen d ≡ sign) → text ≡ sign ++ rest → length rest < length shortest
    → Shortest dialect text (seen + 1) rest
shortest_found dialect text seen shortest sign rest x l at e less = record {
  left = inr (sign, (seen, l, at sign), e);
  least = λ k m d other f. elim (cases_lt k seen) [
    | inl below ↦ omega (arith, x.least k below d other f)
    | inr above ↦
        let same : k ≡ seen = omega arith in
        let here : text ≡ sign ++ other = f ∙ ap (λ s. s ++ other) (ap (λ n. get_or (symbols dialect) n d) same ∙ at d) in
        omega (arith, ap length (append_cancel_left sign rest other (sym e ∙ here)))
  ];
}

-- the next symbol leaves no less, or doesn't begin the text
pub shortest_kept : (dialect : Dialect) (text : List ℕ) (seen : ℕ) (shortest sign : List ℕ) → Shortest dialect text seen shortest
    → ((d : List ℕ) → get_or (symbols dialect) seen d ≡ sign) → ((rest : List ℕ) → text ≡ sign ++ rest → length shortest ≤ length rest)
    → Shortest dialect text (seen + 1) shortest
shortest_kept dialect text seen shortest sign x at more = record {
  left = x.left;
  least = λ k m d other f. elim (cases_lt k seen) [
    | inl below ↦ x.least k below d other f
    | inr above ↦
        let same : k ≡ seen = omega arith in
        more other (f ∙ ap (λ s. s ++ other) (ap (λ n. get_or (symbols dialect) n d) same ∙ at d))
  ];
}

pub symbol_piece : (dialect : Dialect) (text rest : List ℕ) → IsUtf8 text → IsUtf8 rest → Shortest dialect text (length (symbols dialect)) rest → length rest < length text
    → HasPiece dialect (Some Symbol) text rest
symbol_piece dialect text rest u v x less = elim x.left [
  | inl same ↦ absurd (omega (arith, ap length same))
  | inr (s, m, e) ↦ record {
    piece = s;
    stands = symbol s (chars rest) m (λ other after n f.
        longest other after n (has_chars text s rest (symbol_is_ascii dialect s m) e ∙ f) s e);
    splits = has_chars text s rest (symbol_is_ascii dialect s m) e;
    utf8 = v;
  }
]
  where
    longest : (other after : List ℕ) → Contains (symbols dialect) other → chars text ≡ other ++ after → (s : List ℕ) → text ≡ s ++ rest → length other ≤ length s
    longest other after (k, l, at) f s e =
        let bytes : text ≡ other ++ encode_utf8_all after = bytes_after text other after u (symbol_is_ascii dialect other (k, l, at)) f in
        let no_less : length rest ≤ length (encode_utf8_all after) =
        x.least k l other (encode_utf8_all after) (bytes ∙ ap (λ t. t ++ encode_utf8_all after) (sym at)) in
        let one : length text ≡ length s + length rest = ap length e ∙ length-append s rest in
        let two : length text ≡ length other + length (encode_utf8_all after) = ap length bytes ∙ length-append other (encode_utf8_all after) in
        omega arith

pub no_symbol : (dialect : Dialect) (text rest : List ℕ) → IsUtf8 text → Shortest dialect text (length (symbols dialect)) rest → length text ≤ length rest
    → BeginsNoSymbol dialect (chars text)
no_symbol dialect text rest u x more other after (k, l, at) f =
    let bytes : text ≡ other ++ encode_utf8_all after = bytes_after text other after u (symbol_is_ascii dialect other (k, l, at)) f in
    let no_less : length rest ≤ length (encode_utf8_all after) =
    x.least k l other (encode_utf8_all after) (bytes ∙ ap (λ t. t ++ encode_utf8_all after) (sym at)) in
    let two : length text ≡ length other + length (encode_utf8_all after) = ap length bytes ∙ length-append other (encode_utf8_all after) in
    absurd (some dialect other (symbol_begins dialect other (k, l, at)) (omega arith))
  where
    some : (dialect : Dialect) (s : List ℕ) → begins_symbol dialect s ≡ true → length s ≡ 0 → ⊥
    some dialect [] h l = false≢true h
    some dialect (c ∷ s) h l = absurd (omega arith)

-- the item at a place, of a slice of texts
pub item_at : (xs : List (Bor (List ℕ))) (ys : List (List ℕ)) (i : ℕ) (e : Bor (List ℕ)) → map (λ s. s.now) xs ≡ ys → i < length xs
    → (d : List ℕ) → get_or ys i d ≡ (get_or xs i e).now
item_at [] ys i e f l d = absurd (omega arith)
item_at (x ∷ xs) [] i e f l d = cc
item_at (x ∷ xs) (y ∷ ys) zero e f l d = cc
item_at (x ∷ xs) (y ∷ ys) (suc i) e f l d = let tails : map (λ (s : Bor (List ℕ)). s.now) xs ≡ ys = cc in item_at xs ys i e tails (omega arith) d

-- the loop over the symbols, at the symbol at a place
module _ (dialect : Dialect) (text : List ℕ) (xs : List (Bor (List ℕ))) (i : ℕ) (e : Bor (List ℕ)) (shortest : List ℕ)
    (same : map (λ s. s.now) xs ≡ symbols dialect) (l : i < length xs) (x : Shortest dialect text i shortest) where
  many : length xs ≡ length (symbols dialect)
  many = sym (length-map xs (λ s. s.now)) ∙ ap length same

  pub shorter_found : (rest new : List ℕ) → IsUtf8 text → StripsPrefix (FindsTextPrefix (get_or xs i e).now) text rest → length rest < length shortest → new ≡ rest
      → IsUtf8 new × Shortest dialect text (i + 1) new
  shorter_found rest new u h less is =
      let all : IsUtf8 rest × Shortest dialect text (i + 1) rest = (
        stripped_utf8 _ text rest u h,
        shortest_found dialect text i shortest (get_or xs i e).now rest x (omega (arith, many)) (item_at xs (symbols dialect) i e same l) (stripped _ text rest h) less,
      ) in
      subst (λ n. IsUtf8 n × Shortest dialect text (i + 1) n) (sym is) all

  pub longer_found : (rest new : List ℕ) → IsUtf8 shortest → StripsPrefix (FindsTextPrefix (get_or xs i e).now) text rest → length shortest ≤ length rest → new ≡ shortest
      → IsUtf8 new × Shortest dialect text (i + 1) new
  longer_found rest new u h less is =
      let p : List ℕ = (get_or xs i e).now in
      let split : text ≡ p ++ rest = stripped p text rest h in
      let all : IsUtf8 shortest × Shortest dialect text (i + 1) shortest = (
        u,
        shortest_kept dialect text i shortest p x (item_at xs (symbols dialect) i e same l)
            (λ other f. omega (arith, ap length (append_cancel_left p rest other (sym split ∙ f)))),
      ) in
      subst (λ n. IsUtf8 n × Shortest dialect text (i + 1) n) (sym is) all

  pub none_found : (new : List ℕ) → IsUtf8 shortest → LacksTextAt (get_or xs i e).now text 0 → new ≡ shortest → IsUtf8 new × Shortest dialect text (i + 1) new
  none_found new u none is =
      let all : IsUtf8 shortest × Shortest dialect text (i + 1) shortest =
      (u, shortest_kept dialect text i shortest (get_or xs i e).now x (item_at xs (symbols dialect) i e same l) (λ other f. absurd (none other f))) in
      subst (λ n. IsUtf8 n × Shortest dialect text (i + 1) n) (sym is) all

-- after the loop
pub all_seen : (dialect : Dialect) (text : List ℕ) (xs : List (Bor (List ℕ))) (i : ℕ) (shortest : List ℕ) → map (λ s. s.now) xs ≡ symbols dialect
    → length xs ≤ i → i ≤ length xs → Shortest dialect text i shortest → Shortest dialect text (length (symbols dialect)) shortest
all_seen dialect text xs i shortest same past within x =
    let many : length xs ≡ length (symbols dialect) = sym (length-map xs (λ s. s.now)) ∙ ap length same in
    let end : i ≡ length (symbols dialect) = omega arith in
    subst (λ n. Shortest dialect text n shortest) end x

-- ---- the first character

pub first_character : (text before rest : List ℕ) (c : ℕ) → IsUtf8 text → before ≡ text → before ≡ encode_utf8 c ++ rest → chars text ≡ c ∷ chars rest
first_character text before rest c u same e = chars_past_char text rest c u (sym same ∙ e)

pub white_piece : (dialect : Dialect) (text rest : List ℕ) (c : ℕ) → chars text ≡ c ∷ chars rest → is_white_space c ≡ true → IsUtf8 rest
    → HasPiece dialect None text rest
white_piece dialect text rest c e w u = record { piece = c ∷ []; stands = white_space c (chars rest) w; splits = e; utf8 = u }
