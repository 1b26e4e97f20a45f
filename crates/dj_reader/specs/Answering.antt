-- A reader of the code answers what a reading of symbols gives, unless there is no memory.
use Rattle.std.specs.Prelude.{◌≡◌, ℕ, List, Result, Ok, Err}
use Rattle.std.specs.Borrow.{Bor}
use Rattle.dj_lexer.specs.Symbols.{symbols_of}
use Rattle.dj_lexer.specs.declared.token.Token.{Token}
use Rattle.dj_reader.specs.Reading.{Outcome, got, fault}
use Rattle.dj_reader.specs.declared.reading.ReadError.{ReadError}
use Rattle.dj_reader.specs.declared.reading.ReadError.TheVariants.{Syntax, NoMemory}

abbrev pub Refuses : {Y : Type 0} → List ℕ → ReadError → Outcome Y → Type 0
Refuses bytes (Syntax rest) outcome = outcome ≡ fault (symbols_of bytes rest.now)
Refuses bytes NoMemory outcome = Unit {0}

-- `view` is what contracts see of the value
abbrev pub Answers : {X Y : Type 0} → List ℕ → (X → Y) → Result (X × Bor (List Token)) ReadError → Outcome Y → Type 0
Answers bytes view (Ok x) outcome = outcome ≡ got (view x.0) (symbols_of bytes x.1.now)
Answers bytes view (Err error) outcome = Refuses bytes error outcome
