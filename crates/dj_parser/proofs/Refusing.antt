-- Symbols are refused at one place, and only where they are no whole.
use Rattle.std.proofs.Common.{◌≡◌, ℕ, List, [], ◌∷◌, ◌++◌, ◌⊎◌, inl, inr, refl, sym, ap, subst, ◌∙◌, append_assoc}
use Rattle.std.specs.Prelude.{◌↔◌, ◌≢◌, Result, Ok, Err, IfOk, IfErr, IsOk}
use Rattle.std.proofs.lemmas.List.{append-nil}
use Rattle.dj_lexer.specs.Symbols.{Symbol, symbol_of, symbols_of}
use Rattle.dj_lexer.specs.declared.token.Token.{Token}
use Rattle.dj_reader.specs.Reading.{Outcome, got, fault, next, IsReader, IsFault, Begins, End}
use Rattle.dj_parser.specs.declared.error.ParseError.{ParseError}
use Rattle.dj_parser.specs.declared.error.ParseError.TheVariants.{Syntax, NoMemory}
use Rattle.dj_parser.specs.Refusals.{IsRefusedAt, at_symbol, at_end, HasCause, place_of}

-- two ways to take a symbol out of a list: the same, or one behind the other
abbrev IsBehind : List Symbol → List Symbol → Symbol → Type 0
IsBehind later front s = (more : List Symbol) × (later ≡ (front ++ s ∷ []) ++ more)

behind_one : (z w s : Symbol) (front later : List Symbol) → z ≡ w → IsBehind later front s → IsBehind (w ∷ later) (z ∷ front) s
behind_one z w s front later e (more, is) = (more, ap (λ (x : Symbol). x ∷ later) (sym e) ∙ ap (λ xs. z ∷ xs) is)

places : (a b c d : List Symbol) (x y : Symbol) → a ++ x ∷ c ≡ b ++ y ∷ d → (x ≡ y) ⊎ (IsBehind b a x ⊎ IsBehind a b y)
places [] [] c d x y e = inl cc
places [] (w ∷ b) c d x y e = let same : x ≡ w = cc in inr (inl (b, ap (λ (s : Symbol). s ∷ b) (sym same)))
places (z ∷ a) [] c d x y e = let same : z ≡ y = cc in inr (inr (a, ap (λ (s : Symbol). s ∷ a) same))
places (z ∷ a) (w ∷ b) c d x y e =
    let first : z ≡ w = cc in
    let rest : a ++ x ∷ c ≡ b ++ y ∷ d = cc in
    deeper z w a b x y first (places a b c d x y rest)
  where
    deeper : (z w : Symbol) (a b : List Symbol) (x y : Symbol) → z ≡ w → (x ≡ y) ⊎ (IsBehind b a x ⊎ IsBehind a b y)
        → (x ≡ y) ⊎ (IsBehind (w ∷ b) (z ∷ a) x ⊎ IsBehind (z ∷ a) (w ∷ b) y)
    deeper z w a b x y first (inl same) = inl same
    deeper z w a b x y first (inr (inl behind)) = inr (inl (behind_one z w x a b first behind))
    deeper z w a b x y first (inr (inr behind)) = inr (inr (behind_one w z y b a (sym first) behind))

module _ {X : Type 0} (Spells : List Symbol → X → Type 0) (IsViable : List Symbol → Type 0) (opens : (front more : List Symbol) (x : X) → Spells (front ++ more) x → IsViable front)
    (closes : (front : List Symbol) → IsViable front → (more : List Symbol) × ((x : X) × Spells (front ++ more) x)) where
  abbrev pub IsWhole : List Symbol → Type 0
  IsWhole symbols = (x : X) × Spells symbols x

  -- beginnings of viable symbols are viable
  viable_front : (front more : List Symbol) → IsViable (front ++ more) → IsViable front
  viable_front front more viable =
      let whole = closes (front ++ more) viable in
      opens front (more ++ whole.0) whole.1.0 (subst (λ symbols. Spells symbols whole.1.0) (append_assoc front more whole.0) whole.1.1)

  -- up to a symbol of viable symbols
  viable_with : (symbols front rest : List Symbol) (s : Symbol) → symbols ≡ front ++ s ∷ rest → IsViable symbols → IsViable (front ++ s ∷ [])
  viable_with symbols front rest s e viable = viable_front (front ++ s ∷ []) rest (subst IsViable (e ∙ sym (append_assoc front (s ∷ []) rest)) viable)

  viable_whole : (symbols : List Symbol) → IsWhole symbols → IsViable symbols
  viable_whole symbols (x, spelled) = opens symbols [] x (subst (λ l. Spells l x) (sym (append-nil symbols)) spelled)

  pub not_whole : (symbols : List Symbol) (end at : ℕ) → IsRefusedAt IsViable IsWhole symbols end at → IsWhole symbols → ⊥
  not_whole symbols end at (at_symbol front rest s e viable wrong) whole = wrong (viable_with symbols front rest s e (viable_whole symbols whole))
  not_whole symbols end at (at_end viable wrong) whole = wrong whole

  pub one_place : (symbols : List Symbol) (end a b : ℕ) → IsRefusedAt IsViable IsWhole symbols end a → IsRefusedAt IsViable IsWhole symbols end b → a ≡ b
  one_place symbols end a b (at_symbol front rest s e viable wrong) (at_symbol front' rest' s' e' viable' wrong') =
      compare (places front front' rest rest' s s' (sym e ∙ e'))
    where
      compare : (s ≡ s') ⊎ (IsBehind front' front s ⊎ IsBehind front front' s') → s.at ≡ s'.at
      compare (inl same) = ap (λ (x : Symbol). x.at) same
      compare (inr (inl (more, behind))) = absurd (wrong (viable_front (front ++ s ∷ []) more (subst IsViable behind viable')))
      compare (inr (inr (more, behind))) = absurd (wrong' (viable_front (front' ++ s' ∷ []) more (subst IsViable behind viable)))
  one_place symbols end a b (at_symbol front rest s e viable wrong) (at_end viable' wrong') = absurd (wrong (viable_with symbols front rest s e viable'))
  one_place symbols end a b (at_end viable wrong) (at_symbol front rest s e viable' wrong') = absurd (wrong' (viable_with symbols front rest s e viable))
  one_place symbols end a b (at_end viable wrong) (at_end viable' wrong') = refl

  -- ---- what a reading finds

  at_the_end : (symbols rest : List Symbol) → End (next rest) → rest ≡ []
  at_the_end symbols [] e = refl
  at_the_end symbols (s ∷ rest) e = absurd e

  pub read_whole : {read : List Symbol → Outcome X} → IsReader Spells End read → (symbols rest : List Symbol) (x : X) → read symbols ≡ got x rest → Spells symbols x
  read_whole is symbols rest x e =
      let taken = is.sound symbols rest x e in
      let all : taken.front ≡ symbols = sym (taken.joined ∙ ap (λ l. taken.front ++ l) (at_the_end symbols rest taken.follows) ∙ append-nil taken.front) in
      subst (λ l. Spells l x) all taken.spelled

  whole_begins : (symbols : List Symbol) → IsWhole symbols → Begins Spells End symbols
  whole_begins symbols (x, spelled) = ([], (x, record { front = symbols; joined = sym (append-nil symbols); spelled = spelled; follows = tt }))

  found : (bytes : List ℕ) (end : ℕ) (symbols : List Symbol) (tokens : List Token) → IsFault Spells End symbols (symbols_of bytes tokens) → IsRefusedAt IsViable IsWhole symbols end (place_of tokens end)
  found bytes end symbols [] f =
      let all : f.front ≡ symbols = sym (f.joined ∙ append-nil f.front) in
      at_end (subst IsViable all (opens f.front f.beginning.more f.beginning.value f.beginning.spelled)) (λ whole. f.wrong (whole_begins f.front (subst IsWhole (sym all) whole)))
  found bytes end symbols (t ∷ tokens) f =
      at_symbol f.front (symbols_of bytes tokens) (symbol_of bytes t) f.joined (opens f.front f.beginning.more f.beginning.value f.beginning.spelled)
      (λ viable.
      let whole = closes (f.front ++ symbol_of bytes t ∷ []) viable in
      f.wrong whole.0 (whole_begins (f.front ++ symbol_of bytes t ∷ whole.0) (whole.1.0, subst (λ l. Spells l whole.1.0) (append_assoc f.front (symbol_of bytes t ∷ []) whole.0) whole.1.1)))

  pub refused_at_fault : {read : List Symbol → Outcome X} → IsReader Spells End read → (bytes : List ℕ) (end : ℕ) (symbols : List Symbol) (tokens : List Token) → read symbols ≡ fault (symbols_of bytes tokens)
      → IsRefusedAt IsViable IsWhole symbols end (place_of tokens end)
  refused_at_fault is bytes end symbols tokens e = found bytes end symbols tokens (is.faulty symbols (symbols_of bytes tokens) e)

  -- ---- answers

  pub given : {Y : Type 0} (symbols : List Symbol) (end : ℕ) (result : Result Y ParseError) → IfOk result (λ _. IsWhole symbols) → IfErr result (HasCause (IsRefusedAt IsViable IsWhole symbols end))
      → result ≢ Err NoMemory → IsOk result ↔ IsWhole symbols
  given symbols end (Ok y) whole cause memory = (λ _. whole, λ _. refl)
  given symbols end (Err (Syntax at)) whole cause memory = (λ is. absurd cc, λ is. absurd (not_whole symbols end at cause is))
  given symbols end (Err NoMemory) whole cause memory = absurd (memory refl)

  pub refused : {Y : Type 0} (symbols : List Symbol) (end : ℕ) (result : Result Y ParseError) → IfOk result (λ _. IsWhole symbols) → IfErr result (HasCause (IsRefusedAt IsViable IsWhole symbols end))
      → (at : ℕ) → result ≢ Err NoMemory → (result ≡ Err (Syntax at)) ↔ IsRefusedAt IsViable IsWhole symbols end at
  refused symbols end (Ok y) whole cause at memory = (λ is. absurd cc, λ is. absurd (not_whole symbols end at is whole))
  refused {Y = Y} symbols end (Err (Syntax place)) whole cause at memory = (
    λ is. let same : place ≡ at = cc in subst (IsRefusedAt IsViable IsWhole symbols end) same cause,
    λ is. ap (λ p. Err (Syntax p)) (one_place symbols end place at cause is),
  )
  refused symbols end (Err NoMemory) whole cause at memory = absurd (memory refl)
