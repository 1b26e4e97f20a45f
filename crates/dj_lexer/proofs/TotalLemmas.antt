-- Bytes have tokens, or a first fault.
use Rattle.std.proofs.Common.{◌≡◌, ℕ, zero, suc, ◌-◌, ◌≤◌, ◌<◌, ◌⊎◌, inl, inr, Bool, true, false, not, Option, Some, None, List, [], ◌∷◌, ◌++◌, length, take, refl, sym, ap, subst, ◌∙◌, arith, append_assoc}
use Rattle.std.specs.Prelude.{codes, slice_range, encode_utf8_all, Contains}
use Rattle.std.specs.List.{AllPass}
use Rattle.std.specs.Str.{IsUtf8, IsValidUpTo, is_utf8, chars}
use Rattle.std.specs.Str.Lossy.{valid_len_up_to}
use Rattle.std.proofs.Math.Utf8.{scalar, scalars}
use Rattle.std.proofs.lemmas.Bool.{and_parts, cases_lt, false≢true}
use Rattle.std.proofs.lemmas.Bool.Decides.{eqb_tells}
use Rattle.std.proofs.lemmas.List.{take_all}
use Rattle.std.proofs.lemmas.List.Elements.{All-nil, All-cons}
use Rattle.std.proofs.lemmas.Str.{chars-encodes, encodes-chars, scalars-chars, IsUtf8-nil, IsUtf8-from_is_utf8, is_utf8-from_IsUtf8}
use Rattle.dj_lexer.specs.Alphabet.{ends_line, is_white_space, starts_word, continues_word, symbols}
use Rattle.dj_lexer.specs.Tokens.{FirstFails, HasNoClose, Piece, white_space, line_comment, block_comment, word, symbol}
use Rattle.dj_lexer.specs.Symbols.{depth_after}
use Rattle.dj_lexer.specs.Faults.{FirstFault, HasTokens}
use Rattle.dj_lexer.specs.Pieces.{HasPiece, HasBadCharacter, HasOpenComment, BeginsNoComment}
use Rattle.dj_lexer.specs.declared.token.Dialect.{Dialect}
use Rattle.dj_lexer.specs.declared.token.TokenKind.{TokenKind}
use Rattle.dj_lexer.specs.declared.token.TokenKind.TheVariants.{Word, Symbol}
use Rattle.dj_lexer.specs.declared.token.Token.{Token}
use Rattle.dj_lexer.specs.declared.token.LexFault.{LexFault}
use Rattle.dj_lexer.specs.declared.token.LexFault.TheVariants.{NotUtf8, BadCharacter, OpenComment, TooDeep}
use Rattle.dj_lexer.specs.declared.token.TheConstants.{MAX_DEPTH}
use Rattle.dj_lexer.proofs.FrontLemmas.{underscore_begins_nothing, begins_nothing}
use Rattle.dj_lexer.proofs.LexerLemmas.{Reached, reached_start, piece_shortens, reached_skip, reached_bad, reached_open, reached_deep, reached_token, reached_end}

bool_cases : (b : Bool) → (b ≡ true) ⊎ (b ≡ false)
bool_cases true = inl refl
bool_cases false = inr refl

-- ---- runs

record Run (test : ℕ → Bool) (text : List ℕ) : Type 0 where
  pub run : List ℕ
  pub rest : List ℕ
  pub passes : AllPass test run
  pub stops : FirstFails test rest
  pub splits : text ≡ run ++ rest

run_more : (test : ℕ → Bool) (c : ℕ) (text : List ℕ) → (test c ≡ true) ⊎ (test c ≡ false) → Run test text → Run test (c ∷ text)
run_more test c text (inl e) r = record {
  run = c ∷ r.run;
  rest = r.rest;
  passes = All-cons (λ d. test d ≡ true) c r.run e r.passes;
  stops = r.stops;
  splits = ap (λ t. c ∷ t) r.splits;
}
run_more test c text (inr e) r = record { run = []; rest = c ∷ text; passes = All-nil (λ d. test d ≡ true); stops = e; splits = refl }

run_of : (test : ℕ → Bool) (text : List ℕ) → Run test text
run_of test [] = record { run = []; rest = []; passes = All-nil (λ d. test d ≡ true); stops = tt; splits = refl }
run_of test (c ∷ text) = run_more test c text (bool_cases (test c)) (run_of test text)

-- ---- block comments

record Close (text : List ℕ) : Type 0 where
  pub inside : List ℕ
  pub rest : List ℕ
  pub none : HasNoClose inside
  pub splits : text ≡ inside ++ (42 ∷ 47 ∷ rest)

no_close_nil : HasNoClose []
no_close_nil ([], b, e) = cc
no_close_nil (c ∷ a, b, e) = cc

no_close_cons : (c : ℕ) (text : List ℕ) → ((rest : List ℕ) → c ∷ text ≡ 42 ∷ 47 ∷ rest → ⊥) → HasNoClose text → HasNoClose (c ∷ text)
no_close_cons c text here none ([], b, e) = here b e
no_close_cons c text here none (d ∷ a, b, e) = none (a, b, (cc))

close_here : (c : ℕ) (text : List ℕ) → ((rest : List ℕ) × (c ∷ text ≡ 42 ∷ 47 ∷ rest)) ⊎ ((rest : List ℕ) → c ∷ text ≡ 42 ∷ 47 ∷ rest → ⊥)
close_here c [] = inr (λ rest e. cc)
close_here c (d ∷ text) = elim (eqb_tells c 42) [
  | inl (t, e) ↦ elim (eqb_tells d 47) [
    | inl (v, f) ↦ inl (text, (cc))
    | inr (v, f) ↦ inr (λ rest g. f (cc))
  ]
  | inr (t, e) ↦ inr (λ rest g. e (cc))
]

close_more : (c : ℕ) (text : List ℕ) → ((rest : List ℕ) × (c ∷ text ≡ 42 ∷ 47 ∷ rest)) ⊎ ((rest : List ℕ) → c ∷ text ≡ 42 ∷ 47 ∷ rest → ⊥)
    → HasNoClose text ⊎ Close text → HasNoClose (c ∷ text) ⊎ Close (c ∷ text)
close_more c text (inl (rest, e)) later = inr (record { inside = []; rest = rest; none = no_close_nil; splits = e })
close_more c text (inr here) (inl none) = inl (no_close_cons c text here none)
close_more c text (inr here) (inr k) = inr (record {
  inside = c ∷ k.inside;
  rest = k.rest;
  none = no_close_cons c k.inside (λ r e. here (r ++ (42 ∷ 47 ∷ k.rest)) (ap (λ t. c ∷ t) k.splits ∙ ap (λ t. t ++ (42 ∷ 47 ∷ k.rest)) e)) k.none;
  splits = ap (λ t. c ∷ t) k.splits;
})

close_of : (text : List ℕ) → HasNoClose text ⊎ Close text
close_of [] = inl no_close_nil
close_of (c ∷ text) = close_more c text (close_here c text) (close_of text)

-- ---- symbols

prefix_of : (s text : List ℕ) → ((rest : List ℕ) × (text ≡ s ++ rest)) ⊎ ((rest : List ℕ) → text ≡ s ++ rest → ⊥)
prefix_of [] text = inl (text, refl)
prefix_of (c ∷ s) [] = inr (λ r e. cc)
prefix_of (c ∷ s) (d ∷ text) = elim (eqb_tells c d) [
  | inl (t, e) ↦ elim (prefix_of s text) [
    | inl (r, f) ↦ inl (r, (cc))
    | inr n ↦ inr (λ r g. n r (cc))
  ]
  | inr (t, e) ↦ inr (λ r g. e (cc))
]

record Longest (xs : List (List ℕ)) (text : List ℕ) : Type 0 where
  pub sign : List ℕ
  pub rest : List ℕ
  pub member : Contains xs sign
  pub splits : text ≡ sign ++ rest
  pub longest : (other after : List ℕ) → Contains xs other → text ≡ other ++ after → length other ≤ length sign

abbrev NoPrefix : List (List ℕ) → List ℕ → Type 0
NoPrefix xs text = (s rest : List ℕ) → Contains xs s → text ≡ s ++ rest → ⊥

contains_later : (x : List ℕ) (xs : List (List ℕ)) (s : List ℕ) → Contains xs s → Contains (x ∷ xs) s
contains_later x xs s (k, l, at) = (suc k, omega arith, at)

contains_cases : (x : List ℕ) (xs : List (List ℕ)) (s : List ℕ) → Contains (x ∷ xs) s → (x ≡ s) ⊎ Contains xs s
contains_cases x xs s (zero, l, at) = inl at
contains_cases x xs s (suc k, l, at) = inr (k, omega arith, at)

longest_more : (x : List ℕ) (xs : List (List ℕ)) (text : List ℕ) → ((rest : List ℕ) × (text ≡ x ++ rest)) ⊎ ((rest : List ℕ) → text ≡ x ++ rest → ⊥)
    → Longest xs text ⊎ NoPrefix xs text → Longest (x ∷ xs) text ⊎ NoPrefix (x ∷ xs) text
longest_more x xs text (inl (r, e)) (inl k) = elim (cases_lt (length x) (length k.sign)) [
  | inl less ↦ inl (record {
    sign = k.sign;
    rest = k.rest;
    member = contains_later x xs k.sign k.member;
    splits = k.splits;
    longest = λ other after m f. elim (contains_cases x xs other m) [ inl same ↦ omega (arith, ap length same) | inr later ↦ k.longest other after later f ];
  })
  | inr more ↦ inl (record {
    sign = x;
    rest = r;
    member = (0, omega arith, refl);
    splits = e;
    longest = λ other after m f. elim (contains_cases x xs other m) [ inl same ↦ omega (arith, ap length same) | inr later ↦ omega (arith, k.longest other after later f) ];
  })
]
longest_more x xs text (inl (r, e)) (inr none) = inl (record {
  sign = x;
  rest = r;
  member = (0, omega arith, refl);
  splits = e;
  longest = λ other after m f. elim (contains_cases x xs other m) [ inl same ↦ omega (arith, ap length same) | inr later ↦ absurd (none other after later f) ];
})
longest_more x xs text (inr n) (inl k) = inl (record {
  sign = k.sign;
  rest = k.rest;
  member = contains_later x xs k.sign k.member;
  splits = k.splits;
  longest = λ other after m f. elim (contains_cases x xs other m) [ inl same ↦ absurd (n after (f ∙ ap (λ t. t ++ after) (sym same))) | inr later ↦ k.longest other after later f ];
})
longest_more x xs text (inr n) (inr none) = inr (λ s r m f. elim (contains_cases x xs s m) [ inl same ↦ n r (f ∙ ap (λ t. t ++ r) (sym same)) | inr later ↦ none s r later f ])

longest_of : (xs : List (List ℕ)) (text : List ℕ) → Longest xs text ⊎ NoPrefix xs text
longest_of [] text = inr (λ s r (k, l, at) e. absurd (omega arith))
longest_of (x ∷ xs) text = longest_more x xs text (prefix_of x text) (longest_of xs text)

-- ---- what stands at the front of a text

data Found (dialect : Dialect) (text : List ℕ) : Type 0 where
  at_end : text ≡ [] → Found dialect text
  piece : (k : Option TokenKind) (after : List ℕ) → HasPiece dialect k text after → Found dialect text
  bad : HasBadCharacter dialect text → Found dialect text
  open_ : HasOpenComment text → Found dialect text

scalars_after : (p r : List ℕ) → scalars (p ++ r) ≡ true → scalars r ≡ true
scalars_after [] r h = h
scalars_after (c ∷ p) r h = scalars_after p r (and_parts (scalar c) (scalars (p ++ r)) h).1

piece_at : (dialect : Dialect) (text : List ℕ) (k : Option TokenKind) (p r : List ℕ) → IsUtf8 text → chars text ≡ p ++ r → Piece dialect k p r → Found dialect text
piece_at dialect text k p r u e x =
    let s : scalars r ≡ true = scalars_after p r (ap scalars (sym e) ∙ scalars-chars text u) in
    let same : r ≡ chars (encode_utf8_all r) = sym (chars-encodes r s) in
    piece k (encode_utf8_all r) (record {
      piece = p;
      stands = subst (Piece dialect k p) same x;
      splits = e ∙ ap (λ t. p ++ t) same;
      utf8 = (r, (s, refl));
    })

-- a word, or a `_` alone
found_word : (dialect : Dialect) (text : List ℕ) (c : ℕ) (cs : List ℕ) → IsUtf8 text → chars text ≡ c ∷ cs → starts_word dialect c ≡ true
    → Run (continues_word dialect) cs → Found dialect text
found_word dialect text c cs u e s r = by_run r.run refl
  where
    by_run : (run : List ℕ) → r.run ≡ run → Found dialect text
    by_run (d ∷ run) same = piece_at dialect text (Some Word) (c ∷ r.run) r.rest u (e ∙ ap (λ t. c ∷ t) r.splits)
        (word c r.run r.rest s r.passes r.stops (λ one. let nil : r.run ≡ [] = cc in let two : ◌≡◌ {A = List ℕ} [] (d ∷ run) = sym nil ∙ same in cc))
    by_run [] same = elim (eqb_tells c 95) [
      | inl (t, f) ↦ bad (record {
        first = 95;
        rest = cs;
        splits = e ∙ ap (λ x. x ∷ cs) f;
        nothing = underscore_begins_nothing dialect cs (subst (FirstFails (continues_word dialect)) (sym (r.splits ∙ ap (λ t. t ++ r.rest) same)) r.stops);
      })
      | inr (t, f) ↦ piece_at dialect text (Some Word) (c ∷ r.run) r.rest u (e ∙ ap (λ t. c ∷ t) r.splits)
          (word c r.run r.rest s r.passes r.stops (λ one. f (cc)))
    ]

-- a comment, or none
found_comment : (dialect : Dialect) (text : List ℕ) (c : ℕ) (cs : List ℕ) → IsUtf8 text → chars text ≡ c ∷ cs → Found dialect text ⊎ BeginsNoComment (chars text)
found_comment dialect text c [] u e = inr (λ rest. ((λ f. let g : c ∷ [] ≡ 47 ∷ 47 ∷ rest = sym e ∙ f in cc), (λ f. let g : c ∷ [] ≡ 47 ∷ 42 ∷ rest = sym e ∙ f in cc)))
found_comment dialect text c (d ∷ cs) u e = elim (eqb_tells c 47) [
  | inr (t, f) ↦ inr (λ rest. ((λ g. let h : c ∷ d ∷ cs ≡ 47 ∷ 47 ∷ rest = sym e ∙ g in f (cc)), (λ g. let h : c ∷ d ∷ cs ≡ 47 ∷ 42 ∷ rest = sym e ∙ g in f (cc))))
  | inl (t, f) ↦ elim (eqb_tells d 47) [
    | inl (v, g) ↦
        let r = run_of (λ x. not (ends_line x)) cs in
        let front : chars text ≡ codes "//" ++ cs = e ∙ (let h : c ∷ d ∷ cs ≡ 47 ∷ 47 ∷ cs = cc in h) in
        inl (piece_at dialect text None (codes "//" ++ r.run) r.rest u (front ∙ ap (λ t. codes "//" ++ t) r.splits) (line_comment r.run r.rest r.passes r.stops))
    | inr (v, g) ↦ elim (eqb_tells d 42) [
      | inl (w, h) ↦
          let front : chars text ≡ codes "/*" ++ cs = e ∙ (let i : c ∷ d ∷ cs ≡ 47 ∷ 42 ∷ cs = cc in i) in
          inl (elim (close_of cs) [
            | inl none ↦ open_ (record { body = cs; splits = front; open_ = none })
            | inr k ↦ piece_at dialect text None (codes "/*" ++ (k.inside ++ codes "*/")) k.rest u
                (front ∙ ap (λ t. codes "/*" ++ t) (k.splits ∙ sym (append_assoc k.inside (codes "*/") k.rest))) (block_comment k.inside k.rest k.none)
          ])
      | inr (w, h) ↦ inr (λ rest. ((λ i. let j : c ∷ d ∷ cs ≡ 47 ∷ 47 ∷ rest = sym e ∙ i in g (cc)), (λ i. let j : c ∷ d ∷ cs ≡ 47 ∷ 42 ∷ rest = sym e ∙ i in h (cc))))
    ]
  ]
]

found : (dialect : Dialect) (text : List ℕ) → IsUtf8 text → (cs : List ℕ) → chars text ≡ cs → Found dialect text
found dialect text u [] e = at_end (sym (encodes-chars text u) ∙ ap encode_utf8_all e)
found dialect text u (c ∷ cs) e = elim (bool_cases (is_white_space c)) [
  | inl w ↦ piece_at dialect text None (c ∷ []) cs u e (white_space c cs w)
  | inr w ↦ elim (bool_cases (starts_word dialect c)) [
    | inl s ↦ found_word dialect text c cs u e s (run_of (continues_word dialect) cs)
    | inr s ↦ elim (found_comment dialect text c cs u e) [
      | inl f ↦ f
      | inr n ↦ elim (longest_of (symbols dialect) (chars text)) [
        | inl k ↦ piece_at dialect text (Some Symbol) k.sign k.rest u k.splits
            (symbol k.sign k.rest k.member (λ other after m f. k.longest other after m (k.splits ∙ f)))
        | inr none ↦ bad (begins_nothing dialect text c cs e w s n (λ s r m f. none s r m f))
      ]
    ]
  ]
]

-- ---- a whole text

abbrev Answer : Dialect → List ℕ → Type 0
Answer dialect bytes = HasTokens dialect bytes ⊎ ((fault : LexFault) × FirstFault dialect bytes fault)

answer : (n : ℕ) (dialect : Dialect) (text rest : List ℕ) (depth : ℕ) (list : List Token) → length rest ≤ n → IsUtf8 text → IsUtf8 rest
    → Reached dialect text rest depth list → Answer dialect text
answer zero dialect text rest depth list l u v x = ends dialect text rest depth list u (nil_of rest (omega arith)) x
  where
    nil_of : (r : List ℕ) → length r ≡ 0 → r ≡ []
    nil_of [] e = refl
    nil_of (c ∷ r) e = absurd (omega arith)

    ends : (dialect : Dialect) (text rest : List ℕ) (depth : ℕ) (list : List Token) → IsUtf8 text → rest ≡ [] → Reached dialect text rest depth list → Answer dialect text
    ends dialect text rest depth list u e x = let all = reached_end dialect text rest depth list u e x in inl (list, all.0, all.1)
answer (suc n) dialect text rest depth list l u v x = elim (found dialect rest v (chars rest) refl) [
  | at_end e ↦ let all = reached_end dialect text rest depth list u e x in inl (list, all.0, all.1)
  | bad b ↦ inr (BadCharacter (length text - length rest), (u, reached_bad dialect text rest depth list v x b))
  | open_ b ↦ inr (OpenComment (length text - length rest), (u, reached_open dialect text rest depth list v x b))
  | piece None after p ↦
      answer n dialect text after depth list (omega (arith, piece_shortens rest after v p)) u p.utf8 (reached_skip dialect text rest depth list v x after p)
  | piece (Some k) after p ↦
      let now : ℕ = depth_after depth (slice_range text (length text - length rest) (length text - length after)) in
      elim (cases_lt MAX_DEPTH now) [
        | inl deep ↦ inr (TooDeep (length text - length rest), (u, reached_deep dialect text rest depth list v x k after p deep))
        | inr low ↦ answer n dialect text after now (list ++ record { kind = k; from = length text - length rest; to = length text - length after } ∷ [])
            (omega (arith, piece_shortens rest after v p)) u p.utf8
            (reached_token dialect text rest depth list v x k after p now _ refl low refl)
      ]
]

-- ---- bytes that aren't UTF-8

valid_front : (bs : List ℕ) (n : ℕ) → IsUtf8 (take (valid_len_up_to bs n) bs)
valid_front bs zero = IsUtf8-nil
valid_front bs (suc n) = elim (bool_cases (is_utf8 (take (suc n) bs))) [
  | inl e ↦ rw e (IsUtf8-from_is_utf8 (take (suc n) bs) e)
  | inr e ↦ rw e (valid_front bs n)
]

valid_longest : (bs : List ℕ) (n m : ℕ) → valid_len_up_to bs n < m → m ≤ n → ¬ (IsUtf8 (take m bs))
valid_longest bs zero m more l = absurd (omega arith)
valid_longest bs (suc n) m more l = elim (bool_cases (is_utf8 (take (suc n) bs))) [
  | inl e ↦ let top : valid_len_up_to bs (suc n) ≡ suc n = rw e refl in absurd (omega arith)
  | inr e ↦ elim (cases_lt n m) [
    | inl over ↦ λ u. let same : m ≡ suc n = omega arith in
        false≢true (sym e ∙ is_utf8-from_IsUtf8 (take (suc n) bs) (subst (λ k. IsUtf8 (take k bs)) same u))
    | inr under ↦ let down : valid_len_up_to bs (suc n) ≡ valid_len_up_to bs n = rw e refl in valid_longest bs n m (omega arith) under
  ]
]

not_utf8 : (bs : List ℕ) → ¬ (IsUtf8 bs) → IsValidUpTo bs (valid_len_up_to bs (length bs))
not_utf8 bs broken = record {
  short = elim (cases_lt (valid_len_up_to bs (length bs)) (length bs)) [
    | inl less ↦ less
    | inr all ↦ absurd (broken (subst IsUtf8 (take_all (valid_len_up_to bs (length bs)) bs all) (valid_front bs (length bs))))
  ];
  front = valid_front bs (length bs);
  longest = λ m more. elim (cases_lt (length bs) m) [
    | inl past ↦ λ u. broken (subst IsUtf8 (take_all m bs (omega arith)) u)
    | inr within ↦ valid_longest bs (length bs) m more within
  ];
}

pub tokens_or_fault : (dialect : Dialect) (bytes : List ℕ) → HasTokens dialect bytes ⊎ ((fault : LexFault) × FirstFault dialect bytes fault)
tokens_or_fault dialect bytes = elim (bool_cases (is_utf8 bytes)) [
  | inl e ↦ let u = IsUtf8-from_is_utf8 bytes e in answer (length bytes) dialect bytes bytes 0 [] (omega arith) u u (reached_start dialect bytes [] refl)
  | inr e ↦ let no : ¬ (IsUtf8 bytes) = λ u. false≢true (sym e ∙ is_utf8-from_IsUtf8 bytes u) in
      inr (NotUtf8 (valid_len_up_to bytes (length bytes)), (no, not_utf8 bytes no))
]
