-- Laws of accepted and of laid sources.
use Rattle.std.specs.Prelude.{◌≡◌, ◌↔◌, List, Contains}
use Rattle.dj_lexer.specs.Symbols.{Symbol}
use Rattle.dj_tree.specs.Trees.{Class, Operation, adds_class, Delta, Item, Part, Source}
use Rattle.dj_tree.specs.Spells.{Spells, SpellsJava, Laid, LaidJava}
use Rattle.dj_calculus.specs.Accepted.{IsAccepted}
use Rattle.dj_calculus.specs.Parts.{chain}
use Rattle.dj_source_laws.specs.Once.{StandOnce, IsPlaced}
use Rattle.dj_source_laws.specs.Chains.{IsChain}
use Rattle.dj_source_laws.specs.Said.{Said, OperationSaid, IsSaid, IsSaidIn, said, JavaSaid, said_java}
use Rattle.dj_source_laws.specs.Said.{in_delta}
use Rattle.dj_source_laws.specs.Places.{token_of, place_of, token_in_java, place_in_java}

-- ---- each thing once

abbrev pub AcceptedStandOnce : Type 0
AcceptedStandOnce = (source : Source) → IsAccepted source → StandOnce source

-- each delta of an accepted source is placed by an item
abbrev pub EachIsPlaced : Type 0
EachIsPlaced = (source : Source) (delta : Delta) → IsAccepted source → Contains source.deltas delta → (part : Part) × ((item : Item) × IsPlaced source part item delta)

-- by one item, of one part
abbrev pub PlacedOnce : Type 0
PlacedOnce = (source : Source) (p q : Part) (i j : Item) (delta : Delta) → IsAccepted source → IsPlaced source p i delta → IsPlaced source q j delta
    → (p ≡ q) × (i ≡ j)

-- ---- the chain

abbrev pub AcceptedHasChain : Type 0
AcceptedHasChain = (source : Source) → IsAccepted source → IsChain source.parts (chain source)

abbrev pub OneChain : Type 0
OneChain = (parts one other : List Part) → IsChain parts one → IsChain parts other → one ≡ other

-- ---- places

-- the list of what is said has just the things that are said
abbrev pub SaidIsListed : Type 0
SaidIsListed = (source : Source) (what : Said) → Contains (said source) what ↔ IsSaid source what

abbrev pub JavaSaidIsListed : Type 0
JavaSaidIsListed = (classes : List Class) (it : JavaSaid) → Contains (said_java classes) it ↔ (Contains classes it.class × IsSaidIn (adds_class it.class) it.what)

-- what tokens spell is said by these tokens
abbrev pub SaidByTokens : Type 0
SaidByTokens = (tokens : List Symbol) (source : Source) (what : Said) → Spells tokens source → IsSaid source what → Contains tokens (token_of source what)

abbrev pub JavaSaidByTokens : Type 0
JavaSaidByTokens = (tokens : List Symbol) (classes : List Class) (it : JavaSaid) → SpellsJava tokens classes → Contains (said_java classes) it
    → Contains tokens (token_in_java it)

-- In a laid source a place tells what is said there.
abbrev pub PlaceTells : Type 0
PlaceTells = (source : Source) (one other : Said) → Laid source → IsSaid source one → IsSaid source other
    → place_of source one ≡ place_of source other → one ≡ other

abbrev pub JavaPlaceTells : Type 0
JavaPlaceTells = (classes : List Class) (one other : JavaSaid) → LaidJava classes → Contains (said_java classes) one → Contains (said_java classes) other
    → place_in_java one ≡ place_in_java other → one ≡ other

-- Where it is accepted too, a place within a delta tells the item and the part by which the delta is placed.
abbrev pub PlaceTellsPart : Type 0
PlaceTellsPart = (source : Source) (d e : Delta) (o u : Operation) (one other : OperationSaid) (p q : Part) (i j : Item) → Laid source → IsAccepted source
    → IsSaid source (in_delta d o one) → IsSaid source (in_delta e u other)
    → place_of source (in_delta d o one) ≡ place_of source (in_delta e u other)
    → IsPlaced source p i d → IsPlaced source q j e → (p ≡ q) × (i ≡ j)
