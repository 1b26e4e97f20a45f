-- What a Java file is refused for can be said of its bytes.
use Rattle.std.proofs.Common.{ℕ, List}
use Rattle.dj_lexer.specs.Laws.{TokensAreSpans}
use Rattle.dj_lexer.specs.declared.token.Dialect.TheVariants.{Java}
use Rattle.dj_tree.specs.Spells.{ViableJava}
use Rattle.dj_parser.specs.Refusals.{IsJava}
use Rattle.dj_refusals.specs.Refusals.{IsWithin, IsNamed}
use Rattle.dj_refusals.specs.declared.refusal.Refusal.{Refusal}
use Rattle.dj_instance_laws.specs.Laws.{JavaFaultsAreSaid}
use Rattle.dj_front.proofs.LexPlaces.{fault_within}
use Rattle.dj_front.proofs.Sayable.{refused_within}
use Rattle.java_reader.specs.Files as file
use Rattle.dj_run.specs.JavaFiles.{IsRefusedAsJava, too_long, no_tokens, no_classes, repeated}

pub java_sayable : TokensAreSpans → JavaFaultsAreSaid → (bytes : List ℕ) (refusal : Refusal) → IsRefusedAsJava bytes refusal
    → IsWithin bytes refusal × IsNamed bytes refusal
java_sayable spans faults bytes _ (too_long long) = (tt, tt)
java_sayable spans faults bytes _ (no_tokens fault short (file.no_tokens _ first)) = (fault_within Java bytes fault first, tt)
java_sayable spans faults bytes _ (no_classes at short (file.no_classes tokens _ has refused)) =
    (refused_within spans Java bytes tokens has.lexed ViableJava IsJava at refused, tt)
java_sayable spans faults bytes _ (repeated fault at short (file.at_fault tokens classes _ _ has spelled first)) =
    faults bytes classes fault at (record { tokens = tokens; lexed = has.lexed; spelled = spelled }) first.stands
