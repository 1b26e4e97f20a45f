use Rattle.std.proofs.Common.{◌≡◌, ℕ, zero, suc, ◌≤◌, List, [], ◌∷◌, slice_get, None, sym, ◌∙◌, refl, arith}
use Rattle.sat_links.specs.Watches.{place_of, watches_of}
use Rattle.sat_links.proofs.Facts.{joined_has}
use Rattle.sat_links.proofs.tests.watches.watch_at.Goals as goal

none_later : {X : Type 0} (xs : List X) (k n : ℕ) → slice_get xs k ≡ None → k ≤ n → slice_get xs n ≡ None
none_later [] k n none after = refl
none_later (x ∷ xs) zero n none after = cc
none_later (x ∷ xs) (suc k) zero none after = absurd (omega arith)
none_later (x ∷ xs) (suc k) (suc n) none after = none_later xs k n none (omega arith)

pub next-watch-requires : goal.next-watch-requires
next-watch-requires c = joined_has c.args.lists.now (place_of c.args.lit) c.loop.counter c.in-Some.before (sym c.loop.invariant ∙ c.in-Some.is)

pub returns-in_default : goal.returns-in_default
returns-in_default c =
    let none : c.loop.watch ≡ None = c.in_default.is in
    none ∙ sym (none_later (watches_of c.args.lists.now c.args.lit) c.loop.counter c.args.place (sym c.loop.invariant ∙ none) (omega arith))
