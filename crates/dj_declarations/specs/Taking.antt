-- A reader that takes no memory answers what a reading of symbols gives, always.
use Rattle.std.specs.Prelude.{◌≡◌, ℕ, List, Result, Ok, Err}
use Rattle.std.specs.Borrow.{Bor}
use Rattle.dj_lexer.specs.Symbols.{symbols_of}
use Rattle.dj_lexer.specs.declared.token.Token.{Token}
use Rattle.dj_reader.specs.Reading.{Outcome, got, fault}
use Rattle.dj_declarations.specs.declared.terminals.Unexpected.{Unexpected}

-- `view` is what contracts see of the value
abbrev pub Takes : {X Y : Type 0} → List ℕ → (X → Y) → Result (X × Bor (List Token)) Unexpected → Outcome Y → Type 0
Takes bytes view (Ok x) outcome = outcome ≡ got (view x.0) (symbols_of bytes x.1.now)
Takes bytes view (Err unexpected) outcome = outcome ≡ fault (symbols_of bytes unexpected.rest.now)
