use Rattle.dj_calculus_laws.proofs.SameTexts.{same_text}
use Rattle.dj_calculus_laws.proofs.SameTables.{typed_together, table_in_other, distinct_in_other, same_headings}
use Rattle.dj_calculus_laws.proofs.laws.places_never_matter.Goals as goal

pub returns-clause-text : goal.returns-clause-text
returns-clause-text c = same_text

pub returns-clause-typing : goal.returns-clause-typing
returns-clause-typing c = typed_together

pub returns-clause-signatures : goal.returns-clause-signatures
returns-clause-signatures c = same_headings

pub returns-clause-tables : goal.returns-clause-tables
returns-clause-tables c = table_in_other

pub returns-clause-parameters : goal.returns-clause-parameters
returns-clause-parameters c = distinct_in_other
