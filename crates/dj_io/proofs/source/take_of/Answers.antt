use Rattle.std.proofs.Common.{◌≡◌, ◌<◌, min, take, drop, length, get_or, refl, ap, ◌∙◌, arith}
use Rattle.std.proofs.lemmas.Bool.Decides.{nat_tests}
use Rattle.dj_io.specs.Contents.{place_of, left_of}
use Rattle.dj_io.proofs.Places.{file_at, place_of-set, paths-set, left_of-unknown, left_of-set_same, left_of-set_other}
use Rattle.dj_io.proofs.source.take_of.Goals as goal

pub returns-then-place-files-clause-unknown : goal.returns-then-place-files-clause-unknown
returns-then-place-files-clause-unknown c = (left_of-unknown c.args.files.now c.args.path.now (omega arith), refl)

-- the file at the place, before and after
before : (c : goal.After-slice_known-2-1) →
    get_or c.args.files.now c.place-place.result c.index-files-place.result ≡ (c.args.path.now, left_of c.args.files.now c.args.path.now)
before c = file_at c.args.files.now c.args.path.now c.place-place.result c.index-files-place.result
    c.place-place.ensures.place (omega arith) c.index-files-place.is

after : (c : goal.After-slice_known-2-1) →
    c.take.new.self ≡ (c.args.path.now, drop c.take.result (left_of c.args.files.now c.args.path.now))
after c = c.take.ensures.rest ∙ ap (λ file. (file.0, drop c.take.result file.1)) (before c)

pub returns-clause-found : goal.returns-clause-found
returns-clause-found c =
    let inside : place_of c.args.files.now c.args.path.now < length c.args.files.now = omega arith in
    grind (arith, nat_tests)

pub returns-clause-count : goal.returns-clause-count
returns-clause-count c = c.take.ensures.count ∙ ap (λ file. min (length c.args.into.now) (length file.1)) (before c)

pub returns-clause-moved : goal.returns-clause-moved
returns-clause-moved c = c.take.ensures.moved ∙ ap (λ file. take c.take.result file.1) (before c)

pub returns-clause-rest : goal.returns-clause-rest
returns-clause-rest c =
    let inside : place_of c.args.files.now c.args.path.now < length c.args.files.now = omega arith in
    rw (c.place-place.ensures.place, after c) (left_of-set_same _ _ _ inside)

pub returns-clause-others : goal.returns-clause-others
returns-clause-others c = λ other apart. rw (c.place-place.ensures.place, after c) (left_of-set_other _ _ _ other apart)

pub returns-clause-places : goal.returns-clause-places
returns-clause-places c = λ each. rw (c.place-place.ensures.place, after c) (place_of-set _ _ _ each)

pub returns-clause-paths : goal.returns-clause-paths
returns-clause-paths c = rw (after c) (paths-set c.args.files.now c.args.path.now _ c.place-place.result _ (before c))
