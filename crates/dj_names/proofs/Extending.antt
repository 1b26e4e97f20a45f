-- Lists of texts that grow at their end, in no step and in two.
use Rattle.std.proofs.Common.{◌++◌, [], List, sym, ap, ◌∙◌, append_assoc}
use Rattle.std.proofs.lemmas.List.{append-nil}
use Rattle.dj_names.specs.Texts.{Text, Extends}

pub extends_reflexive : (names : List Text) → Extends names names
extends_reflexive names = ([], sym (append-nil names))

pub extends_transitive : (names between later : List Text) → Extends names between → Extends between later → Extends names later
extends_transitive names between later e h = (e.0 ++ h.0, h.1 ∙ ap (λ xs. xs ++ h.0) e.1 ∙ append_assoc names e.0 h.0)
