-- Words of the line dialect have no `$`. So products of laid, accepted sources have a flat table.
use Rattle.std.proofs.Common.{◌≡◌, inl, inr, ℕ, ◌<◌, Bool, true, false, ◌==◌, List, [], ◌∷◌, get_or, slice_index_or, Option, Some, Contains, refl, sym, ◌∙◌, subst, arith}
use Rattle.std.specs.Prelude.{encode_utf8_all, encode_utf8}
use Rattle.std.specs.List.{flat_map}
use Rattle.std.specs.FinMap.{entries}
use Rattle.std.proofs.lemmas.Bool.{eqb-true, false≢true, cases_Bool}
use Rattle.std.proofs.lemmas.Grind.{not_there}
use Rattle.std.proofs.lemmas.List.{append-nil}
use Rattle.std.proofs.lemmas.List.Elements.{All-contains}
use Rattle.std.proofs.lemmas.Str.{inside_one}
use Rattle.unicode_ident.proofs.Computing.{unicode_ident}
use Rattle.dj_lexer.specs.Alphabet.{starts_word, continues_word}
use Rattle.dj_lexer.specs.Tokens.{Piece, white_space, line_comment, block_comment, word, symbol}
use Rattle.dj_lexer.specs.Symbols.{IsToken}
use Rattle.dj_lexer.specs.declared.token.Dialect.TheVariants.{Line}
use Rattle.dj_lexer.specs.declared.token.TokenKind.{TokenKind}
use Rattle.dj_lexer.specs.declared.token.TokenKind.TheVariants.{Word}
use Rattle.dj_tree.specs.Trees.{Spot, Source}
use Rattle.dj_tree.specs.Spells.{Laid}
use Rattle.dj_tree.specs.Words.{named}
use Rattle.dj_calculus.specs.Configurations.{Configuration}
use Rattle.dj_calculus.specs.Accepted.{IsAccepted}
use Rattle.dj_calculus.specs.Tables.{Table}
use Rattle.dj_calculus.specs.Products.{Product}
use Rattle.dj_calculus.specs.FlatTables.{names_in_class, has_dollar, HasNoDollar, IsFlattenable}
use Rattle.dj_calculus.specs.TableForms.{IsTable}
use Rattle.dj_calculus.proofs.SpelledExpressions.{laid_expressions}
use Rattle.dj_calculus.proofs.Members.{no_element, first_or_other, among_others, either, in_front_or_behind}
use Rattle.dj_calculus_laws.proofs.OnceProofs.{same_default}
use Rattle.dj_calculus_laws.proofs.TableProofs.{any_found, product_is_table, product_begins_plainly}
use Rattle.dj_calculus_laws.proofs.SpelledNames.{source_says, product_says}

-- a byte of ASCII in an encoded text is a character of it
in_one : (c byte : ℕ) → byte < 128 → Contains (encode_utf8 c) byte → c ≡ byte
in_one c byte low (k, within, is) =
    let at : get_or (encode_utf8 c) k 0 ≡ byte = same_default (encode_utf8 c) k 0 byte within ∙ is in
    inside_one c [] (encode_utf8 c) k (sym (append-nil (encode_utf8 c))) within (omega (arith, at, low)) ∙ at

encoded_byte : (cs : List ℕ) (byte : ℕ) → byte < 128 → Contains (encode_utf8_all cs) byte → Contains cs byte
encoded_byte [] byte low has = no_element byte has
encoded_byte (c ∷ cs) byte low has =
    either (in_front_or_behind (encode_utf8 c) (encode_utf8_all cs) byte has) (λ here. (0, omega arith, in_one c byte low here))
    (λ behind. among_others c byte cs (encoded_byte cs byte low behind))

no_start : starts_word Line 36 ≡ false
unfolding unicode_ident
no_start = refl

no_continue : continues_word Line 36 ≡ false
unfolding unicode_ident
no_continue = refl

has_no_dollar : (kind : Option TokenKind) (text rest : List ℕ) → kind ≡ Some Word → Piece Line kind text rest → Contains text 36 → ⊥
has_no_dollar kind text rest is (white_space c r white) has = absurd cc
has_no_dollar kind text rest is (line_comment body r all fails) has = absurd cc
has_no_dollar kind text rest is (block_comment body r none) has = absurd cc
has_no_dollar kind text rest is (symbol t r has_it longest) has = absurd cc
has_no_dollar kind text rest is (word first more r starts all fails other) has =
    either (first_or_other first 36 more has) (λ same. false≢true (sym no_start ∙ subst (λ c. starts_word Line c ≡ true) same starts))
    (λ later. false≢true (sym no_continue ∙ subst (λ c. continues_word Line c ≡ true) later.2 (all later.0 36 later.1)))

pub word_is_plain : (x : Spot) → IsToken Line (named x) → has_dollar x.text ≡ false
word_is_plain x token = by_test (has_dollar x.text) refl
  where
    by_test : (b : Bool) → has_dollar x.text ≡ b → b ≡ false
    by_test true says =
        let found = any_found (λ byte. byte == 36) x.text says in
        let byte : Contains x.text 36 = subst (Contains x.text) (eqb-true found.0 36 found.2) found.1 in
        absurd (has_no_dollar (Some Word) token.0 token.1.0 refl token.1.1.0 (encoded_byte token.0 36 (omega arith) (subst (λ t. Contains t 36) token.1.1.1 byte)))
    by_test false says = refl

laid_has_no_dollar : (source : Source) (c : Configuration) (t : Table) → Laid source → IsAccepted source → Product source c t → HasNoDollar t
laid_has_no_dollar source c t laid accepted product =
    product_says (λ x. has_dollar x ≡ false) source
    (source_says (λ x. has_dollar x ≡ false) laid.tokens (λ x name has. word_is_plain x (All-contains (IsToken Line) laid.tokens (named x) laid.are_tokens.each has)) source laid.spelled)
    refl accepted c t product

-- that some tokens spell the source is enough, whichever they are
pub product_has_no_dollar : (source : Source) (c : Configuration) (t : Table) → ∥ Laid source ∥₁ → IsAccepted source → Product source c t → HasNoDollar t
product_has_no_dollar source c t laid accepted product k d low =
    elim (cases_Bool (has_dollar (slice_index_or (flat_map names_in_class (entries t)) k d))) [
      | inl is ↦ absurd (not_there laid (λ it. false≢true (sym (laid_has_no_dollar source c t it accepted product k d low) ∙ is)))
      | inr not ↦ not
    ]

pub product_is_flattenable : (source : Source) (c : Configuration) (t : Table) → ∥ Laid source ∥₁ → IsAccepted source → Product source c t → IsTable t × IsFlattenable t
product_is_flattenable source c t laid accepted product = (
  product_is_table source c t accepted (laid_expressions source laid) product,
  inl (product_begins_plainly source c t accepted product, product_has_no_dollar source c t laid accepted product),
)
