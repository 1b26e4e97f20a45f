use Rattle.std.proofs.Common.{◌<◌, None, length, get_or, slice_get, ap, ◌∙◌, arith}
use Rattle.std.proofs.lemmas.List.{get_or_read}
use Rattle.sat_links.specs.Watches.{place_of, watches_of}
use Rattle.sat_links.proofs.WatchLemmas.{lists_count}
use Rattle.sat_links.proofs.MoveLemmas.{first_is}
use Rattle.sat_links.proofs.watches.WatchLists.first.Goals as goal

pub returns : goal.returns
returns c =
    let links = c.self.inside.links in
    let within : c.place.result < length links.heads.items =
    omega (arith, c.requires.1, c.place.ensures, ap length c.self.view_is, lists_count links.heads.items links.next.items) in
    get_or_read links.heads.items c.place.result c.index.result.now within c.index.ensures None
    ∙ ap (λ place. get_or links.heads.items place None) c.place.ensures
    ∙ first_is links.next.items _ _ (c.self.invariant.lead (place_of c.args.lit))
    ∙ ap (λ lists. slice_get (watches_of lists c.args.lit) 0) c.self.view_is
