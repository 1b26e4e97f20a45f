use Rattle.std.proofs.Common.{map}
use Rattle.ifj_table.specs.Entries.{text_at}
use Rattle.ifj_table.proofs.MapLists.{gap_excludes}
use Rattle.ifj_table.proofs.keyed.place.Goals as goal

pub returns-in-Err : goal.returns-in-Err
returns-in-Err g c =
    gap_excludes (map (λ (e : g.row.E.Denot). text_at c.args.names.now (g.E.Keyed.key_of e)) c.args.entries.now) c.args.text.now c.in-Err.at c.requires.there.0 c.in-Err.ensures c.requires.there.1
