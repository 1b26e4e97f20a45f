use Rattle.dj_calculus.proofs.KeptVersions.{every_order, text}
use Rattle.dj_calculus.proofs.examples.kept_versions.Goals as goal

pub returns : goal.returns
returns c = record { product = record { each = every_order }; text = text }
