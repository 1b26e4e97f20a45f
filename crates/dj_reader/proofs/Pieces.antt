-- Readers of signs, words and names, of what may be left out, and of lists with commas.
use Rattle.std.proofs.Common.{◌≡◌, ℕ, Bool, true, false, List, [], ◌∷◌, ◌++◌, Option, Some, None, refl, sym, ap, subst, ◌∙◌, append_assoc}
use Rattle.std.specs.Prelude.{codes}
use Rattle.dj_names.specs.Texts.{Text}
use Rattle.dj_lexer.specs.Symbols.{Symbol}
use Rattle.dj_tree.specs.Words.{word, sign, named, IsName, is_reserved}
use Rattle.dj_tree.specs.Trees.{Spot}
use Rattle.dj_tree.specs.Repeats as repeats
use Rattle.dj_tree.specs.Repeats.{Many, AfterComma, Listing}
use Rattle.dj_reader.specs.Terminals.{is_the_word, is_the_sign, is_a_name, spot_of}
use Rattle.dj_reader.specs.Reading.{Outcome, next, IsReader, Anything}
use Rattle.dj_reader.specs.Combining.{SpellsOne, one_symbol, at_of, a_sign, a_word, a_name, SpellsSign, the_sign, SpellsWord, the_word, SpellsName, the_name}
use Rattle.dj_reader.specs.Combining.{SpellsBoth, one_and_other, SpellsMapped, changed, passes, SpellsEither, this_way, other_way, SpellsUntil, closed}
use Rattle.dj_reader.specs.Combining.{optionally, SpellsOptionally, left_out, given, comma_and, listing, SpellsListing, closed_list}
use Rattle.dj_reader.proofs.Symbols.{sign_is, is_sign, word_is, is_word, name_is, is_name}
use Rattle.dj_reader.proofs.Laws.{one_reads, both_reads, Joins, mapped_reads, same_reads, Chosen, either_reads}
use Rattle.dj_reader.proofs.Repeating.{Pieces, until_reads}

-- ---- single symbols

pub sign_reads : (text : Text) → IsReader (SpellsSign text) Anything (a_sign text)
sign_reads text = same_reads (record { to = to; from = from }) (one_reads (is_the_sign text) at_of (sign text 0) (is_sign text 0))
  where
    to : (s : List Symbol) (at : ℕ) → SpellsOne (is_the_sign text) at_of s at → SpellsSign text s at
    to s at (one_symbol x h) = let P : Symbol → Type 0 = λ y. SpellsSign text (y ∷ []) x.at in subst P (sym (sign_is text x h)) (the_sign x.at)

    from : (s : List Symbol) (at : ℕ) → SpellsSign text s at → SpellsOne (is_the_sign text) at_of s at
    from s at (the_sign k) = one_symbol (sign text k) (is_sign text k)

pub word_reads : (text : Text) → IsReader (SpellsWord text) Anything (a_word text)
word_reads text = same_reads (record { to = to; from = from }) (one_reads (is_the_word text) at_of (word text 0) (is_word text 0))
  where
    to : (s : List Symbol) (at : ℕ) → SpellsOne (is_the_word text) at_of s at → SpellsWord text s at
    to s at (one_symbol x h) = let P : Symbol → Type 0 = λ y. SpellsWord text (y ∷ []) x.at in subst P (sym (word_is text x h)) (the_word x.at)

    from : (s : List Symbol) (at : ℕ) → SpellsWord text s at → SpellsOne (is_the_word text) at_of s at
    from s at (the_word k) = one_symbol (word text k) (is_word text k)

abbrev pub some_name : Spot
some_name = record { text = codes "x"; at = 0 }

pub some_name_is : IsName some_name
unfolding is_reserved
some_name_is = refl

pub name_reads : IsReader SpellsName Anything a_name
name_reads = same_reads (record { to = to; from = from }) (one_reads is_a_name spot_of (named some_name) (is_name some_name some_name_is))
  where
    to : (s : List Symbol) (x : Spot) → SpellsOne is_a_name spot_of s x → SpellsName s x
    to s x (one_symbol y h) =
        let n = name_is y h in
        let P : Symbol → Type 0 = λ z. SpellsName (z ∷ []) (spot_of y) in
        subst P (sym n.0) (the_name (spot_of y) n.1)

    from : (s : List Symbol) (x : Spot) → SpellsName s x → SpellsOne is_a_name spot_of s x
    from s x (the_name y i) = one_symbol (named y) (is_name y i)

-- ---- what may be left out

pub record Options {X Y : Type 0} (test : Symbol → Bool) (One : List Symbol → X → Type 0) (Body : List Symbol → Y → Type 0) : Type 0 where
  pub one_begins : (s rest : List Symbol) (x : X) → One s x → passes test (next (s ++ rest)) ≡ true
  pub body_begins : (s rest : List Symbol) (y : Y) → Body s y → passes test (next (s ++ rest)) ≡ false

pub optionally_reads : {X Y : Type 0} {One : List Symbol → X → Type 0} {After : Option Symbol → Type 0} {Body : List Symbol → Y → Type 0} {Follows : Option Symbol → Type 0} {test : Symbol → Bool}
    {read : List Symbol → Outcome X} {body : List Symbol → Outcome Y} → Options test One Body → Joins One After Body Follows → IsReader One After read → IsReader Body Follows body
    → IsReader (SpellsOptionally One Body) Follows (optionally test read body)
optionally_reads {X = X} {Y = Y} {One = One} {After = After} {Body = Body} {Follows = Follows} {test = test} {read = read} {body = body} options joins one_is body_is =
    same_reads (record { to = to; from = from }) (either_reads chosen (both_reads joined (mapped_reads Some one_is) body_is) (mapped_reads without body_is))
  where
    without : Y → Option X × Y
    without y = (None, y)

    joined : Joins (SpellsMapped Some One) After Body Follows
    joined = record { leads = joins.leads; symbols = joins.symbols; value = joins.value; spelled = joins.spelled }

    to : (s : List Symbol) (v : Option X × Y) → SpellsEither (SpellsBoth (SpellsMapped Some One) Body) (SpellsMapped without Body) s v → SpellsOptionally One Body s v
    to s v (this_way (one_and_other (changed p) q)) = given p q
    to s v (other_way (changed q)) = left_out q

    from : (s : List Symbol) (v : Option X × Y) → SpellsOptionally One Body s v → SpellsEither (SpellsBoth (SpellsMapped Some One) Body) (SpellsMapped without Body) s v
    from s v (left_out q) = other_way (changed q)
    from s v (given p q) = this_way (one_and_other (changed p) q)

    chosen : Chosen test (SpellsBoth (SpellsMapped Some One) Body) (SpellsMapped without Body) Follows
    chosen = record { of_one = of_one; of_other = of_other }
      where
        of_one : (s rest : List Symbol) (v : Option X × Y) → SpellsBoth (SpellsMapped Some One) Body s v → passes test (next (s ++ rest)) ≡ true
        of_one s rest v (one_and_other {s = s1} {t = t} (changed {x = x} p) q) =
            ap (λ l. passes test (next l)) (append_assoc s1 t rest) ∙ options.one_begins s1 (t ++ rest) x p

        of_other : (s rest : List Symbol) (v : Option X × Y) → SpellsMapped without Body s v → Follows (next rest) → passes test (next (s ++ rest)) ≡ false
        of_other s rest v (changed {x = y} q) follows = options.body_begins s rest y q

-- ---- lists with commas

-- Pieces begin with a symbol that doesn't close the list, nor does a comma; and there is a piece.
pub record Listed {X : Type 0} (close : Text) (Spells : List Symbol → X → Type 0) : Type 0 where
  pub begins : (s : List Symbol) (x : X) → Spells s x → (first : Symbol) × ((rest : List Symbol) × (s ≡ first ∷ rest) × (is_the_sign close first ≡ false))
  pub no_comma : (at : ℕ) → is_the_sign close (sign (codes ",") at) ≡ false
  pub symbols : List Symbol
  pub value : X
  pub spelled : Spells symbols value

module _ {X : Type 0} {Spells : List Symbol → X → Type 0} {close : Text} {piece : List Symbol → Outcome X} (is_listed : Listed close Spells) (is : IsReader Spells Anything piece) where
  comma_reads : IsReader (AfterComma Spells) Anything (comma_and piece)
  comma_reads =
      same_reads (record { to = to; from = from })
      (mapped_reads (λ p. p.1) (both_reads (record { leads = λ t rest y p f. tt; symbols = is_listed.symbols; value = is_listed.value; spelled = is_listed.spelled }) (sign_reads (codes ",")) is))
    where
      to : (s : List Symbol) (x : X) → SpellsMapped (λ (p : ℕ × X). p.1) (SpellsBoth (SpellsSign (codes ",")) Spells) s x → AfterComma Spells s x
      to s x (changed (one_and_other (the_sign at) q)) = repeats.after_comma at q

      from : (s : List Symbol) (x : X) → AfterComma Spells s x → SpellsMapped (λ (p : ℕ × X). p.1) (SpellsBoth (SpellsSign (codes ",")) Spells) s x
      from s x (repeats.after_comma at q) = changed (one_and_other (the_sign at) q)

  comma_pieces : Pieces (is_the_sign close) (AfterComma Spells)
  comma_pieces = record { begins = begins; close = sign close 0; closing = is_sign close 0 }
    where
      begins : (s : List Symbol) (x : X) → AfterComma Spells s x → (first : Symbol) × ((rest : List Symbol) × (s ≡ first ∷ rest) × (is_the_sign close first ≡ false))
      begins s x (repeats.after_comma {piece = t} at q) = (sign (codes ",") at, (t, refl, is_listed.no_comma at))

  pub listing_reads : IsReader (SpellsListing close Spells) Anything (listing close piece)
  listing_reads =
      same_reads (record { to = to; from = from })
      (either_reads (record { of_one = of_one; of_other = of_other }) (mapped_reads (λ at. []) (sign_reads close))
      (mapped_reads (λ p. p.0 ∷ p.1)
      (both_reads (record { leads = λ t rest y p f. tt; symbols = sign close 0 ∷ []; value = []; spelled = closed (sign close 0) repeats.none (is_sign close 0) }) is
      (until_reads comma_pieces comma_reads))))
    where
      of_one : (s rest : List Symbol) (xs : List X) → SpellsMapped (λ (at : ℕ). []) (SpellsSign close) s xs → passes (is_the_sign close) (next (s ++ rest)) ≡ true
      of_one s rest xs (changed (the_sign at)) = is_sign close at

      of_other : (s rest : List Symbol) (xs : List X) → SpellsMapped (λ (p : X × List X). p.0 ∷ p.1) (SpellsBoth Spells (SpellsUntil (is_the_sign close) (AfterComma Spells))) s xs → Anything (next rest)
          → passes (is_the_sign close) (next (s ++ rest)) ≡ false
      of_other s rest xs (changed (one_and_other {s = s1} {t = t} {x = x} p q)) follows =
          let b = is_listed.begins s1 x p in
          ap (λ l. passes (is_the_sign close) (next ((l ++ t) ++ rest))) b.1.1 ∙ b.1.2

      to : (s : List Symbol) (xs : List X)
          → SpellsEither (SpellsMapped (λ (at : ℕ). []) (SpellsSign close)) (SpellsMapped (λ (p : X × List X). p.0 ∷ p.1) (SpellsBoth Spells (SpellsUntil (is_the_sign close) (AfterComma Spells)))) s xs
          → SpellsListing close Spells s xs
      to s xs (this_way (changed (the_sign at))) = closed_list at repeats.nothing
      to s xs (other_way (changed (one_and_other {s = s1} {x = x} p (closed {s = body} {xs = ys} c many h)))) =
          let P : Symbol → Type 0 = λ y. SpellsListing close Spells (s1 ++ (body ++ y ∷ [])) (x ∷ ys) in
          let Q : List Symbol → Type 0 = λ l. SpellsListing close Spells l (x ∷ ys) in
          subst P (sym (sign_is close c h)) (subst Q (append_assoc s1 body (sign close c.at ∷ [])) (closed_list c.at (repeats.listed p many)))

      from : (s : List Symbol) (xs : List X) → SpellsListing close Spells s xs
          → SpellsEither (SpellsMapped (λ (at : ℕ). []) (SpellsSign close)) (SpellsMapped (λ (p : X × List X). p.0 ∷ p.1) (SpellsBoth Spells (SpellsUntil (is_the_sign close) (AfterComma Spells)))) s xs
      from s xs (closed_list at repeats.nothing) = this_way (changed (the_sign at))
      from s xs (closed_list at (repeats.listed {first = s1} {others = body} {x = x} {xs = ys} p many)) =
          let Q : List Symbol → Type 0 = λ l.
          SpellsEither (SpellsMapped (λ (at : ℕ). []) (SpellsSign close)) (SpellsMapped (λ (p : X × List X). p.0 ∷ p.1) (SpellsBoth Spells (SpellsUntil (is_the_sign close) (AfterComma Spells)))) l (x ∷ ys) in
          subst Q (sym (append_assoc s1 body (sign close at ∷ []))) (other_way (changed (one_and_other p (closed (sign close at) many (is_sign close at)))))
