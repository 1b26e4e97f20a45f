-- What is read is read once.
use Rattle.std.proofs.Common.{◌≡◌, List, [], sym, ◌∙◌}
use Rattle.dj_lexer.specs.Symbols.{Symbol}
use Rattle.dj_reader.specs.Reading.{Outcome, IsReader, End}
use Rattle.dj_reader.proofs.Laws.{got_value}

pub one_value : {X : Type 0} {Spells : List Symbol → X → Type 0} {read : List Symbol → Outcome X} → IsReader Spells End read → (symbols : List Symbol) (a b : X) → Spells symbols a → Spells symbols b
    → a ≡ b
one_value is symbols a b p q = got_value (sym (is.complete symbols [] a p tt) ∙ is.complete symbols [] b q tt)
