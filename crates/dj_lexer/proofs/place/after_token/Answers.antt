use Rattle.std.proofs.Common.{refl}
use Rattle.dj_lexer.specs.declared.token.Dialect.TheVariants.{Line, Java}
use Rattle.dj_lexer.proofs.TokenAtLemmas.{reads_token, not_in_java}
use Rattle.dj_lexer.proofs.place.after_token.Goals as goal

pub returns-in-Some : goal.returns-in-Some
returns-in-Some c = λ t. reads_token Java c.args.text.now _ c.utf8.text t (λ h. refl) c.in-Some.ensures

pub returns : goal.returns
returns c = λ t.
    reads_token Line c.args.text.now _ c.utf8.text t (λ h. not_in_java c.args.text.now _ c.in_default.ensures t h) c.in-Some-after_token_of.ensures
