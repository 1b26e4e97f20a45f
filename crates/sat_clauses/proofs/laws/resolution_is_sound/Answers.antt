use Rattle.sat_clauses.proofs.SoundLemmas.{sound}
use Rattle.sat_clauses.proofs.laws.resolution_is_sound.Goals as goal

pub returns : goal.returns
returns c = sound
