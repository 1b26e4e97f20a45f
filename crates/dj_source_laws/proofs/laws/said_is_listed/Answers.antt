use Rattle.dj_source_laws.proofs.PlaceLaws.{listed_said, said_listed, java_listed, java_said, said_by_tokens, java_by_tokens}
use Rattle.dj_source_laws.proofs.laws.said_is_listed.Goals as goal

pub returns-clause-listed : goal.returns-clause-listed
returns-clause-listed c = λ source what. (listed_said source what, said_listed source what)

pub returns-clause-java_listed : goal.returns-clause-java_listed
returns-clause-java_listed c = λ classes it. (java_listed classes it, java_said classes it)

pub returns-clause-by_tokens : goal.returns-clause-by_tokens
returns-clause-by_tokens c = said_by_tokens

pub returns-clause-java_by_tokens : goal.returns-clause-java_by_tokens
returns-clause-java_by_tokens c = java_by_tokens
