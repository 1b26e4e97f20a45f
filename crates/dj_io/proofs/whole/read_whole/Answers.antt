use Rattle.std.proofs.Common.{◌≡◌, ◌+◌, ◌<◌, ◌≤◌, length, take, drop, vec_len, ap, ◌∙◌, arith}
use Rattle.std.specs.Option.{option_map}
use Rattle.std.proofs.lemmas.List.{length-drop, length-take}
use Rattle.dj_io.proofs.Left.{option_map-drop, whole-of_rest, front-of_more, length-taken}
use Rattle.dj_io.proofs.whole.read_whole.Goals as goal

pub returns-then-count-eq0-clause-whole : goal.returns-then-count-eq0-clause-whole
returns-then-count-eq0-clause-whole g c all told =
    let asked : 0 < length (take c.min-wanted.result c.chunks.buffer) = omega (arith, length-take c.min-wanted.result c.chunks.buffer) in
    let now = c.chunks.invariant.rest ∙ ap (option_map (drop (vec_len c.chunks.bytes))) told in
    let ended = c.in_ok-count.ensures.ended c.if-count-eq0.true asked (drop (vec_len c.chunks.bytes) all) now in
    whole-of_rest (vec_len c.chunks.bytes) all c.chunks.bytes.items (c.chunks.invariant.front all told) ended

pub returns-in_err-extend_from_slice-clause-taken :
    goal.returns-in_err-extend_from_slice-clause-taken
returns-in_err-extend_from_slice-clause-taken g c = (
  vec_len c.chunks.bytes + c.in_ok-count.count,
  omega (arith, c.in_ok-count.ensures.count, length-take c.min-wanted.result c.chunks.buffer),
  c.in_ok-count.ensures.rest ∙ ap (option_map (drop c.in_ok-count.count)) c.chunks.invariant.rest ∙ option_map-drop _ _ _,
)

pub chunks-preserved : goal.chunks-preserved
chunks-preserved g c =
    let taken = vec_len c.chunks.bytes in
    let count = c.in_ok-count.count in
    let into = c.read.new.into in
    let after = drop c.min-wanted.result c.chunks.buffer in
    let fits : count ≤ length into = omega (arith, c.in_ok-count.ensures.count, c.read.auto.into) in
    let grown : vec_len c.extend_from_slice.new.self ≡ taken + count =
    omega (arith, c.in_ok-extend_from_slice.ensures.len, length-taken count into after fits) in
    record {
      within = omega arith;
      enough = λ all told.
          let now = c.chunks.invariant.rest ∙ ap (option_map (drop taken)) told in
          omega (arith, c.in_ok-count.ensures.enough (drop taken all) now, length-drop taken all, c.chunks.invariant.enough all told);
      front = λ all told.
          let now = c.chunks.invariant.rest ∙ ap (option_map (drop taken)) told in
          rw (c.in_ok-extend_from_slice.ensures.items, grown)
          (front-of_more taken count all c.chunks.bytes.items into after fits (c.chunks.invariant.front all told)
          (c.in_ok-count.ensures.moved (drop taken all) now));
      rest = rw grown (c.in_ok-count.ensures.rest ∙ ap (option_map (drop count)) c.chunks.invariant.rest ∙ option_map-drop taken count _);
      others = λ other apart. c.in_ok-count.ensures.others other apart ∙ c.chunks.invariant.others other apart;
      counts = λ each. c.in_ok-count.ensures.no_fault each ∙ c.chunks.invariant.counts each;
    }
