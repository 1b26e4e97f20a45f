-- The places of the symbols of a file: a token begins there, in its bytes.
use Rattle.std.proofs.Common.{◌≡◌, ℕ, ◌<◌, ◌≤◌, List, map, length, Contains, refl, sym, ap, ◌∙◌, subst, arith}
use Rattle.std.proofs.lemmas.List.Elements.{All-contains}
use Rattle.dj_lexer.specs.Tokens.{TokenList}
use Rattle.dj_lexer.specs.Symbols.{Symbol, symbol_of, symbols_of}
use Rattle.dj_lexer.specs.TokensAt.{IsTokenAt}
use Rattle.dj_lexer.specs.declared.token.Dialect.{Dialect}
use Rattle.dj_lexer.specs.declared.token.Dialect.TheVariants.{Line, Java}
use Rattle.dj_lexer.specs.declared.token.Token.{Token}
use Rattle.dj_lexer.proofs.AnswerLemmas.{tokens_are_spans}
use Rattle.dj_tree.specs.Spells.{Spells, SpellsJava}
use Rattle.dj_tree.specs.Trees.{Spot, Class, Operation, adds_class, Source}
use Rattle.dj_tree.specs.declared.source.Instance.{Instance}
use Rattle.dj_calculus.specs.Accepted.{IsAccepted}
use Rattle.dj_calculus.specs.Configurations.{Configuration}
use Rattle.dj_calculus.specs.Contents.{operations_of}
use Rattle.dj_calculus.specs.FaultPlaces.{Repeats}
use Rattle.dj_calculus.specs.JavaFiles as java
use Rattle.dj_calculus.specs.JavaFiles.{JavaFaultStands, table_of}
use Rattle.dj_calculus.specs.LineRules.{Stands}
use Rattle.dj_calculus.specs.TableRules.{StandsIn}
use Rattle.dj_calculus.proofs.Members.{from_flat, mapped_from}
use Rattle.dj_source_laws.specs.Said.{in_delta, operation_says, its_class, the_class, member_name, the_name}
use Rattle.dj_source_laws.proofs.PlaceLaws.{said_by_tokens, java_by_tokens, java_said}
use Rattle.dj_refusals.specs.Sayable.{CanBeSaid}
use Rattle.dj_instance_laws.specs.Files.{SaysLine, SaysClasses}
use Rattle.dj_instance_laws.proofs.Told.{Told, parameters_told, class_field, class_method}
use Rattle.dj_instance_laws.proofs.TableTold.{classes_told, table_told, got}
use Rattle.dj_instance_laws.proofs.LineTold.{InstanceTold, line_told}

-- one of the symbols stands at the place
abbrev pub HasSymbol : List Symbol → ℕ → Type 0
HasSymbol symbols at = (s : Symbol) × Contains symbols s × (s.at ≡ at)

module _ (dialect : Dialect) (bytes : List ℕ) (tokens : List Token) (lexed : TokenList dialect bytes tokens) where
  pub symbol_within : (at : ℕ) → HasSymbol (symbols_of bytes tokens) at → at ≤ length bytes
  symbol_within at (s, among, here) =
      let found = mapped_from (symbol_of bytes) tokens s among in
      let place : found.0.from ≡ at = ap (λ x. x.at) found.2 ∙ here in
      let span = All-contains (λ t. (t.from < t.to) × (t.to ≤ length bytes)) tokens found.0 (tokens_are_spans dialect bytes tokens lexed) found.1 in
      omega (arith, place, span.0, span.1)

  pub symbol_said : (at : ℕ) → HasSymbol (symbols_of bytes tokens) at → (name : List ℕ) × IsTokenAt bytes at name
  symbol_said at (s, among, here) =
      let found = mapped_from (symbol_of bytes) tokens s among in (
        s.text,
        record {
          dialect = dialect;
          tokens = tokens;
          are_tokens = lexed;
          token = found.0;
          among = found.1;
          begins = ap (λ x. x.at) found.2 ∙ here;
          says = sym (ap (λ x. x.text) found.2);
        },
      )

  pub can_be_said : (i : Instance) → InstanceTold (HasSymbol (symbols_of bytes tokens)) i.rule i.at i.second → CanBeSaid bytes i
  can_be_said i told =
      let name = symbol_said i.at told.first.place in
      record {
        from_one = told.first.from_one;
        to_last = told.first.to_last;
        within = symbol_within i.at told.first.place;
        second_within = λ first. symbol_within i.second told.also;
        name = name.0;
        named = name.1;
      }

-- ---- lines

operation_spelled : (symbols : List Symbol) (source : Source) → Spells symbols source → (o : Operation) → Contains (operations_of source) o → Told (HasSymbol symbols) o
operation_spelled symbols source spelled o of what said =
    let delta = from_flat (λ d. d.operations) source.deltas o of in
    (_, said_by_tokens symbols source (in_delta delta.0 o what) spelled (operation_says delta.0 o what delta.1 delta.2 said), refl)

pub line_said : (bytes : List ℕ) (source : Source) (c : Configuration) (i : Instance) → SaysLine bytes source → IsAccepted source → Stands source c i → CanBeSaid bytes i
line_said bytes source c i says accepted stands =
    let symbols = symbols_of bytes says.tokens in
    can_be_said Line bytes says.tokens says.lexed i
    (line_told (HasSymbol symbols) source (operation_spelled symbols source says.spelled) accepted c i.rule i.at i.second stands)

-- ---- Java files

class_spelled : (symbols : List Symbol) (classes : List Class) → SpellsJava symbols classes → (c : Class) → Contains classes c → Told (HasSymbol symbols) (adds_class c)
class_spelled symbols classes spelled c of what said =
    (_, java_by_tokens symbols classes (record { class = c; what = what }) spelled (java_said classes (record { class = c; what = what }) (of, said)), refl)

pub java_instance_said : (bytes : List ℕ) (classes : List Class) (i : Instance) → SaysClasses bytes classes → StandsIn (table_of classes) i → CanBeSaid bytes i
java_instance_said bytes classes i says stands =
    let symbols = symbols_of bytes says.tokens in
    let A = HasSymbol symbols in
    let told = table_told A (table_of classes) i.rule i.at (classes_told A classes (class_spelled symbols classes says.spelled)) stands.breaks in
    can_be_said Java bytes says.tokens says.lexed i (record { first = told; also = subst A (sym stands.one_place) told.place })

-- a name that is repeated is one of the list
repeated_of : {X : Type 0} (A : ℕ → Type 0) (name : X → Spot) (xs : List X) (at : ℕ) → ((x : X) → Contains xs x → A (name x).at) → Repeats (map name xs) at → A at
repeated_of A name xs at each repeats =
    let found = mapped_from name xs repeats.y (got (map name xs) repeats.number repeats.y repeats.at_number) in
    subst A (ap (λ y. y.at) found.2 ∙ repeats.here) (each found.0 found.1)

module _ (A : ℕ → Type 0) (classes : List Class) (each : (c : Class) → Contains classes c → Told A (adds_class c)) where
  fault_told : (fault : java.JavaFault) (at : ℕ) → JavaFaultStands classes fault at → A at
  fault_told _ _ (java.repeated_class at repeats) = repeated_of A (λ c. c.name) classes at (λ c of. each c of its_class the_class) repeats
  fault_told _ _ (java.object_class c of is) = each c of its_class the_class
  fault_told _ _ (java.repeated_field c at of repeats) =
      repeated_of A (λ f. f.name) c.fields at (λ f within. class_field A c f (each c of) within member_name the_name) repeats
  fault_told _ _ (java.repeated_method c at of repeats) =
      repeated_of A (λ m. m.name) c.methods at (λ m within. class_method A c m (each c of) within member_name the_name) repeats
  fault_told _ _ (java.repeated_parameter c m at of within repeats) =
      repeated_of A (λ p. p.name) m.parameters at (parameters_told A m (class_method A c m (each c of) within)) repeats

pub java_fault_said : (bytes : List ℕ) (classes : List Class) (fault : java.JavaFault) (at : ℕ) → SaysClasses bytes classes → JavaFaultStands classes fault at
    → (at ≤ length bytes) × ((name : List ℕ) × IsTokenAt bytes at name)
java_fault_said bytes classes fault at says stands =
    let symbols = symbols_of bytes says.tokens in
    let place = fault_told (HasSymbol symbols) classes (class_spelled symbols classes says.spelled) fault at stands in
    (symbol_within Java bytes says.tokens says.lexed at place, symbol_said Java bytes says.tokens says.lexed at place)
