use Rattle.std.proofs.Common.{sym, ◌∙◌}
use Rattle.dj_calculus.specs.JavaText.{java_text}
use Rattle.java_text_laws.proofs.ReadBack.{is_its_text}
use Rattle.java_text_laws.proofs.laws.texts_read_back.Goals as goal

pub returns : goal.returns
returns c = λ t u writable. (
  λ java. c.one_java_table.ensures (java_text t) u t java (is_its_text t writable),
  λ same. let own = is_its_text t writable in (own.0, own.1, own.2 ∙ sym same),
)
