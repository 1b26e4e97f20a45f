use Rattle.std.proofs.Common.{◌≡◌, ◌++◌, ◌-◌, ◌+◌, ◌<◌, ℕ, List, length, slice_get, is_none, All, sym, subst}
use Rattle.std.specs.List.{find, filter_map}
use Rattle.std.specs.Option.{option_and_then}
use Rattle.std.proofs.lemmas.List.Elements.{All-nil}
use Rattle.dj_tree.specs.Plain.{plain_source}
use Rattle.dj_tree.specs.declared.declarations.PartDecl.{PartDecl}
use Rattle.dj_calculus.specs.Parts.{chain, parts_from}
use Rattle.dj_faults.specs.Numbers.{IsSound}
use Rattle.dj_faults.specs.Chains.{comes_after_name, IsNumberOf}
use Rattle.dj_faults.proofs.ChainLemmas.{chain_first, chain_next, within_next}
use Rattle.dj_faults.proofs.parts.chain_of.Goals as goal

pub loop-step-init : goal.loop-step-init
loop-step-init c =
    let s = c.args.source.now in
    let o = c.first_part-next.result in
    let sound : IsSound s = record { formed = c.requires.well_formed; distinct = c.names_are_distinct.ensures } in
    let first : IsNumberOf s.parts (length s.parts) (find (λ p. is_none p.after) s.parts) o =
    subst (λ (ps : List PartDecl). IsNumberOf ps (length ps) (find (λ p. is_none p.after) ps) o) c.as_slice-parts.ensures c.first_part-next.ensures in
    record {
      within = subst (All (λ k. k < length s.parts)) (sym c.new-numbers.ensures.items) (All-nil (λ k. k < length s.parts));
      next = first.1;
      chain = chain_first s sound c.new-numbers.result.items o c.new-numbers.ensures.items first;
    }

pub loop-step-preserved : goal.loop-step-preserved
loop-step-preserved c =
    let s = c.args.source.now in
    let now = c.loop-step in
    let o = c.next_part-next.result in
    let sound : IsSound s = record { formed = c.requires.well_formed; distinct = c.names_are_distinct.ensures } in
    let pushed = c.in_ok-push_some.ensures in
    let low : now._step < length s.parts = subst (λ (ps : List PartDecl). now._step < length ps) c.as_slice-parts.ensures c.loop-step-test.true in
    let more : IsNumberOf s.parts (length s.parts) (option_and_then (λ p. find (comes_after_name p.spot.name.0) s.parts) (option_and_then (slice_get s.parts) now.next)) o =
    subst (λ (ps : List PartDecl). IsNumberOf ps (length ps) (option_and_then (λ p. find (comes_after_name p.spot.name.0) ps) (option_and_then (slice_get ps) now.next)) o) c.as_slice-parts.ensures c.next_part-next.ensures in
    record {
      within = subst (All (λ k. k < length s.parts)) (sym pushed) (within_next s sound now.numbers.items now.next now.invariant.within now.invariant.next);
      next = more.1;
      chain = subst (λ (xs : List ℕ). filter_map (slice_get (plain_source s).parts) xs ++ parts_from (length s.parts - (now._step + 1)) (plain_source s).parts (option_and_then (slice_get (plain_source s).parts) o) ≡ chain (plain_source s)) (sym pushed)
          (chain_next s sound now.numbers.items now._step now.next o low now.invariant.next more now.invariant.chain);
    }
