-- At most one piece stands at the front of a text.
use Rattle.std.proofs.Common.{◌≡◌, ℕ, ◌≤◌, inl, inr, Bool, true, false, not, cond, ◌&&◌, ◌==◌, Option, List, [], ◌∷◌, ◌++◌, length, refl, sym, ap, subst, ◌∙◌, arith, append_assoc}
use Rattle.std.specs.Prelude.{codes, Contains}
use Rattle.std.specs.List.{AllPass, list_all}
use Rattle.std.proofs.lemmas.Bool.{or_cases, and_parts, eqb-true, false≢true}
use Rattle.std.proofs.lemmas.List.Sums.{AllPass-from_list_all}
use Rattle.std.proofs.lemmas.List.Elements.{All-contains, All-head, All-tail}
use Rattle.unicode_ident.proofs.Computing.{unicode_ident}
use Rattle.dj_lexer.specs.Alphabet.{ends_line, is_white_space, starts_word, continues_word, symbols}
use Rattle.dj_lexer.specs.Tokens.{FirstFails, HasNoClose, Piece, white_space, line_comment, block_comment, word, symbol}
use Rattle.dj_lexer.specs.declared.token.Dialect.{Dialect}
use Rattle.dj_lexer.specs.declared.token.Dialect.TheVariants.{Line, Java}
use Rattle.dj_lexer.specs.declared.token.TokenKind.{TokenKind}

-- ---- runs

pub run_unique : (test : ℕ → Bool) (a b x y : List ℕ) → AllPass test a → FirstFails test x → AllPass test b → FirstFails test y
    → a ++ x ≡ b ++ y → (a ≡ b) × (x ≡ y)
run_unique test [] [] x y pa fx pb fy e = (refl, e)
run_unique test [] (d ∷ b) x y pa fx pb fy e =
    let fails : test d ≡ false = subst (FirstFails test) e fx in
    let passes : test d ≡ true = All-head (λ c. test c ≡ true) d b pb in
    cc
run_unique test (c ∷ a) [] x y pa fx pb fy e =
    let fails : test c ≡ false = subst (FirstFails test) (sym e) fy in
    let passes : test c ≡ true = All-head (λ c. test c ≡ true) c a pa in
    cc
run_unique test (c ∷ a) (d ∷ b) x y pa fx pb fy e =
    let tails : a ++ x ≡ b ++ y = cc in
    let rest : (a ≡ b) × (x ≡ y) = run_unique test a b x y (All-tail (λ c. test c ≡ true) c a pa) fx (All-tail (λ c. test c ≡ true) d b pb) fy tails in
    ((cc), rest.1)

-- ---- block comments

no_close_tail : (c : ℕ) (text : List ℕ) → HasNoClose (c ∷ text) → HasNoClose text
no_close_tail c text none (a, b, e) = none (c ∷ a, b, ap (λ s. c ∷ s) e)

close_unique : (a b x y : List ℕ) → HasNoClose a → HasNoClose b → a ++ (42 ∷ 47 ∷ x) ≡ b ++ (42 ∷ 47 ∷ y) → (a ≡ b) × (x ≡ y)
close_unique [] [] x y na nb e = (refl, (cc))
close_unique [] (d ∷ []) x y na nb e = let two : ◌≡◌ {A = ℕ} 47 42 = cc in absurd (omega (arith, two))
close_unique [] (d ∷ f ∷ b) x y na nb e =
    let first : d ≡ 42 = cc in
    let second : f ≡ 47 = cc in
    absurd (nb ([], b, rw (first, second) refl))
close_unique (c ∷ []) [] x y na nb e = let two : ◌≡◌ {A = ℕ} 42 47 = cc in absurd (omega (arith, two))
close_unique (c ∷ f ∷ a) [] x y na nb e =
    let first : c ≡ 42 = cc in
    let second : f ≡ 47 = cc in
    absurd (na ([], a, rw (first, second) refl))
close_unique (c ∷ a) (d ∷ b) x y na nb e =
    let tails : a ++ (42 ∷ 47 ∷ x) ≡ b ++ (42 ∷ 47 ∷ y) = cc in
    let rest : (a ≡ b) × (x ≡ y) = close_unique a b x y (no_close_tail c a na) (no_close_tail d b nb) tails in
    ((cc), rest.1)

-- ---- symbols

pub cut_same : (a b x y : List ℕ) → length a ≡ length b → a ++ x ≡ b ++ y → (a ≡ b) × (x ≡ y)
cut_same [] [] x y l e = (refl, e)
cut_same [] (d ∷ b) x y l e = absurd (omega arith)
cut_same (c ∷ a) [] x y l e = absurd (omega arith)
cut_same (c ∷ a) (d ∷ b) x y l e =
    let shorter : length a ≡ length b = omega arith in
    let tails : a ++ x ≡ b ++ y = cc in
    let rest : (a ≡ b) × (x ≡ y) = cut_same a b x y shorter tails in
    ((cc), rest.1)

-- ---- which piece it is, by its first characters

abbrev pub comment_class : List ℕ → ℕ
comment_class [] = 5
comment_class (c ∷ rest) = cond (c == 47) 2 (cond (c == 42) 3 5)

abbrev pub class : Dialect → List ℕ → ℕ
class dialect [] = 5
class dialect (c ∷ rest) = cond (starts_word dialect c) 0 (cond (is_white_space c) 1 (cond (c == 47) (comment_class rest) 4))

abbrev pub piece_class : {dialect : Dialect} {kind : Option TokenKind} {piece rest : List ℕ} → Piece dialect kind piece rest → ℕ
piece_class (white_space c rest w) = 1
piece_class (line_comment body rest p f) = 2
piece_class (block_comment body rest n) = 3
piece_class (word first more rest s p f n) = 0
piece_class (symbol text rest m l) = 4

-- white space and `/` begin no word
no_words : (dialect : Dialect) → (starts_word dialect 32 ≡ false) × (starts_word dialect 9 ≡ false) × (starts_word dialect 12 ≡ false)
    × (starts_word dialect 10 ≡ false) × (starts_word dialect 13 ≡ false) × (starts_word dialect 47 ≡ false)
unfolding unicode_ident
no_words Line = (refl, refl, refl, refl, refl, refl)
no_words Java = (refl, refl, refl, refl, refl, refl)

pub underscore_starts : (dialect : Dialect) → starts_word dialect 95 ≡ true
unfolding unicode_ident
underscore_starts Line = refl
underscore_starts Java = refl

white_codes : (c : ℕ) → is_white_space c ≡ true → (P : ℕ → Type 0) → P 32 → P 9 → P 12 → P 10 → P 13 → P c
white_codes c w P a b d e f =
    elim (or_cases _ _ w) [
      | inl x ↦ elim (or_cases _ _ x) [
        | inl y ↦ elim (or_cases _ _ y) [ inl z ↦ subst P (sym (eqb-true c 32 z)) a | inr z ↦ subst P (sym (eqb-true c 9 z)) b ]
        | inr y ↦ subst P (sym (eqb-true c 12 y)) d
      ]
      | inr x ↦ elim (or_cases _ _ x) [ inl y ↦ subst P (sym (eqb-true c 10 y)) e | inr y ↦ subst P (sym (eqb-true c 13 y)) f ]
    ]

white_starts_no_word : (dialect : Dialect) (c : ℕ) → is_white_space c ≡ true → starts_word dialect c ≡ false
white_starts_no_word dialect c w =
    let no = no_words dialect in white_codes c w (λ x. starts_word dialect x ≡ false) no.0 no.1 no.2 no.3 no.4

-- a symbol is at least one character, and the first begins nothing else
abbrev pub begins_symbol : Dialect → List ℕ → Bool
begins_symbol dialect [] = false
begins_symbol dialect (c ∷ rest) = not (starts_word dialect c) && not (is_white_space c) && not (c == 47)

symbols_begin : (dialect : Dialect) → list_all (begins_symbol dialect) (symbols dialect) ≡ true
unfolding unicode_ident
symbols_begin Line = refl
symbols_begin Java = refl

pub symbol_begins : (dialect : Dialect) (text : List ℕ) → Contains (symbols dialect) text → begins_symbol dialect text ≡ true
symbol_begins dialect text m = All-contains (λ s. begins_symbol dialect s ≡ true) (symbols dialect) text (AllPass-from_list_all (begins_symbol dialect) (symbols dialect) (symbols_begin dialect)) m

not_true : (b : Bool) → not b ≡ true → b ≡ false
not_true true h = absurd (false≢true h)
not_true false h = refl

pub symbol_first : (dialect : Dialect) (c : ℕ) (text : List ℕ) → begins_symbol dialect (c ∷ text) ≡ true
    → (starts_word dialect c ≡ false) × (is_white_space c ≡ false) × ((c == 47) ≡ false)
symbol_first dialect c text h =
    let parts = and_parts (not (starts_word dialect c) && not (is_white_space c)) (not (c == 47)) h in
    let two = and_parts (not (starts_word dialect c)) (not (is_white_space c)) parts.0 in
    (not_true _ two.0, not_true _ two.1, not_true _ parts.1)

pub symbol_class : (dialect : Dialect) (text rest : List ℕ) → begins_symbol dialect text ≡ true → class dialect (text ++ rest) ≡ 4
symbol_class dialect [] rest h = absurd (false≢true h)
symbol_class dialect (c ∷ text) rest h =
    let parts = symbol_first dialect c text h in rw (parts.0, parts.1, parts.2) refl

pub class_is : {dialect : Dialect} {kind : Option TokenKind} {piece rest : List ℕ} (p : Piece dialect kind piece rest)
    → class dialect (piece ++ rest) ≡ piece_class p
class_is {dialect} (white_space c rest w) = rw (white_starts_no_word dialect c w, w) refl
class_is {dialect} (line_comment body rest p f) = rw (no_words dialect).5 refl
class_is {dialect} (block_comment body rest n) = rw (no_words dialect).5 refl
class_is {dialect} (word first more rest s p f n) = rw s refl
class_is {dialect} (symbol text rest m l) = symbol_class dialect text rest (symbol_begins dialect text m)

block_text : (body rest : List ℕ) → (codes "/*" ++ (body ++ codes "*/")) ++ rest ≡ 47 ∷ 42 ∷ (body ++ (42 ∷ 47 ∷ rest))
block_text body rest = ap (λ t. 47 ∷ 42 ∷ t) (append_assoc body (codes "*/") rest)

-- the first piece of a text is determined, and so is what follows it
pub piece_unique : {dialect : Dialect} {k l : Option TokenKind} {p r q s : List ℕ} (x : Piece dialect k p r) (y : Piece dialect l q s)
    → p ++ r ≡ q ++ s → (k ≡ l) × (p ≡ q) × (r ≡ s)
piece_unique (white_space c r w) (white_space d s v) e = (refl, (cc), (cc))
piece_unique (line_comment a r pa fa) (line_comment b s pb fb) e =
    let tails : a ++ r ≡ b ++ s = cc in
    let both = run_unique (λ c. not (ends_line c)) a b r s pa fa pb fb tails in
    (refl, ap (λ t. codes "//" ++ t) both.0, both.1)
piece_unique (block_comment a r na) (block_comment b s nb) e =
    let long : 47 ∷ 42 ∷ (a ++ (42 ∷ 47 ∷ r)) ≡ 47 ∷ 42 ∷ (b ++ (42 ∷ 47 ∷ s)) = sym (block_text a r) ∙ e ∙ block_text b s in
    let tails : a ++ (42 ∷ 47 ∷ r) ≡ b ++ (42 ∷ 47 ∷ s) = cc in
    let both = close_unique a b r s na nb tails in
    (refl, ap (λ t. codes "/*" ++ (t ++ codes "*/")) both.0, both.1)
piece_unique {dialect} (word c a r sa pa fa na) (word d b s sb pb fb nb) e =
    let tails : a ++ r ≡ b ++ s = cc in
    let both = run_unique (continues_word dialect) a b r s pa fa pb fb tails in
    let more : a ≡ b = both.0 in
    (refl, (cc), both.1)
piece_unique (symbol p r m long) (symbol q s n far) e =
    let one : length q ≤ length p = long q s n e in
    let two : length p ≤ length q = far p r m (sym e) in
    let same : length p ≡ length q = omega arith in
    let both = cut_same p q r s same e in
    (refl, both.0, both.1)
piece_unique {dialect} x y e =
    let h : piece_class x ≡ piece_class y = sym (class_is x) ∙ ap (class dialect) e ∙ class_is y in
    absurd (omega (arith, h))

-- a piece is at least one character
pub piece_not_empty : {dialect : Dialect} {k : Option TokenKind} {p r : List ℕ} → Piece dialect k p r → (c : ℕ) × (text : List ℕ) × (p ≡ c ∷ text)
piece_not_empty (white_space c r w) = (c, [], refl)
piece_not_empty (line_comment a r pa fa) = (47, 47 ∷ a, refl)
piece_not_empty (block_comment a r na) = (47, 42 ∷ (a ++ codes "*/"), refl)
piece_not_empty (word c a r sa pa fa na) = (c, a, refl)
piece_not_empty {dialect} (symbol p r m long) = first dialect p (symbol_begins dialect p m)
  where
    first : (dialect : Dialect) (p : List ℕ) → begins_symbol dialect p ≡ true → (c : ℕ) × (text : List ℕ) × (p ≡ c ∷ text)
    first dialect [] h = absurd (false≢true h)
    first dialect (c ∷ text) h = (c, text, refl)

-- an open comment is no piece
pub open_no_piece : {dialect : Dialect} {k : Option TokenKind} {p r : List ℕ} (body : List ℕ) → HasNoClose body → (x : Piece dialect k p r)
    → codes "/*" ++ body ≡ p ++ r → ⊥
open_no_piece {dialect} {p = p} {r = r} body none (block_comment a s na) e =
    let long : 47 ∷ 42 ∷ body ≡ 47 ∷ 42 ∷ (a ++ (42 ∷ 47 ∷ s)) = e ∙ block_text a s in
    let tails : body ≡ a ++ (42 ∷ 47 ∷ s) = cc in
    none (a, s, tails)
open_no_piece {dialect} body none x e =
    let h : class dialect (47 ∷ 42 ∷ body) ≡ piece_class x = ap (class dialect) e ∙ class_is x in
    let three : class dialect (47 ∷ 42 ∷ body) ≡ 3 = rw (no_words dialect).5 refl in
    absurd (omega (arith, sym three ∙ h))
