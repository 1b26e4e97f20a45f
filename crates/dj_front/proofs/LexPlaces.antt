-- The first fault of bytes stands within them.
use Rattle.std.proofs.Common.{◌≤◌, ◌+◌, ℕ, List, length, ap, arith}
use Rattle.dj_lexer.specs.Alphabet.{byte_len}
use Rattle.dj_lexer.specs.Faults.{FaultFrom, bad_character, open_comment, too_deep, skipped, token, FirstFault}
use Rattle.dj_lexer.specs.declared.token.Dialect.{Dialect}
use Rattle.dj_lexer.specs.declared.token.LexFault.{LexFault}
use Rattle.dj_lexer.specs.declared.token.LexFault.TheVariants.{NotUtf8, BadCharacter, OpenComment, TooDeep}
use Rattle.dj_lexer.proofs.AnswerLemmas.{byte_len-append}
use Rattle.std.proofs.lemmas.Str.{encodes-chars}
use Rattle.dj_refusals.specs.Refusals.{lex_place}

within : {dialect : Dialect} {depth at : ℕ} {text : List ℕ} {fault : LexFault} → FaultFrom dialect depth at text fault → lex_place fault ≤ at + byte_len text
within (bad_character depth at c rest no_piece) = omega arith
within (open_comment depth at body no_close) = omega arith
within (too_deep depth at kind piece rest is deep) = omega arith
within (skipped depth at piece rest fault is later) = omega (arith, within later, byte_len-append piece rest)
within (token depth at kind piece rest fault is shallow later) = omega (arith, within later, byte_len-append piece rest)

pub fault_within : (dialect : Dialect) (bytes : List ℕ) (fault : LexFault) → FirstFault dialect bytes fault → lex_place fault ≤ length bytes
fault_within dialect bytes (NotUtf8 at) (not_text, upto) = omega (arith, upto.short)
fault_within dialect bytes (BadCharacter at) (text, first) = omega (arith, within first, ap length (encodes-chars bytes text))
fault_within dialect bytes (OpenComment at) (text, first) = omega (arith, within first, ap length (encodes-chars bytes text))
fault_within dialect bytes (TooDeep at) (text, first) = omega (arith, within first, ap length (encodes-chars bytes text))
