-- Files in memory: where a path stands, and what is left after a write at that place.
use Rattle.std.proofs.Common.{◌≡◌, ◌≢◌, ℕ, ◌+◌, ◌<◌, suc, List, [], ◌∷◌, length, drop, map, Bool, true, false, refl, ap, sym, ◌∙◌, arith, get_or, ◌++◌, take, append-nil, add-one, drop-cons}
use Rattle.std.specs.Str.{bytes_eq}
use Rattle.std.proofs.Math.ListN.{set}
use Rattle.std.proofs.Math.Seq.{drop-length, map-set_same}
use Rattle.std.proofs.lemmas.List.{take_all}
use Rattle.std.proofs.lemmas.Slice.Eq.{bytes_eq-Decides}
use Rattle.dj_io.specs.Contents.{place_of, left_of}

-- a file of another path is passed over
pub place_of-passed : (files : List (List ℕ × List ℕ)) (path : List ℕ) (i : ℕ) (file : List ℕ × List ℕ) →
    i < length files → file ≡ get_or files i file → bytes_eq file.0 path ≡ false →
    place_of (drop i files) path ≡ suc (place_of (drop (i + 1) files) path)
place_of-passed files path i file inside here other =
    rw (drop-cons files i file inside, ← here, other, add-one) refl

-- a file of the path is its place
pub place_of-found : (files : List (List ℕ × List ℕ)) (path : List ℕ) (i : ℕ) (file : List ℕ × List ℕ) →
    i < length files → file ≡ get_or files i file → bytes_eq file.0 path ≡ true → place_of (drop i files) path ≡ 0
place_of-found files path i file inside here same =
    rw (drop-cons files i file inside, ← here, same) refl

-- a test by its two answers
by_test : (test : Bool) (P : Type 0) → (test ≡ true → P) → (test ≡ false → P) → P
by_test true P at_true at_false = at_true refl
by_test false P at_true at_false = at_false refl

-- two texts that differ
differs : (this other : List ℕ) → this ≢ other → bytes_eq this other ≡ false
differs this other apart = by_test (bytes_eq this other) (bytes_eq this other ≡ false)
    (λ same. absurd (apart ((bytes_eq-Decides this other).0 same))) (λ no. no)

-- the file at the place of a path has it, and what is left of the one is left of the other
pub at_place : (files : List (List ℕ × List ℕ)) (path : List ℕ) (file : List ℕ × List ℕ) →
    place_of files path < length files → file ≡ get_or files (place_of files path) file → (file.0 ≡ path) × (file.1 ≡ left_of files path)
at_place [] path file inside here = absurd (omega arith)
at_place (first ∷ files) path file inside here = by_test (bytes_eq first.0 path) _
    (λ same.
    let at : file ≡ first = rw same at here in
    rw (same, at) ((bytes_eq-Decides first.0 path).0 same, refl))
    (λ other.
    let within : place_of files path < length files = let more = rw other at inside in omega arith in
    let at : file ≡ get_or files (place_of files path) file = rw other at here in
    rw other (at_place files path file within at))

-- nothing is left where no file has the path
pub left_of-unknown : (files : List (List ℕ × List ℕ)) (path : List ℕ) → place_of files path ≡ length files → left_of files path ≡ []
left_of-unknown [] path none = refl
left_of-unknown (file ∷ files) path none = by_test (bytes_eq file.0 path) _
    (λ same. absurd (let impossible = rw same at none in omega arith))
    (λ other. let rest = rw other at none in rw other (left_of-unknown files path (omega arith)))

-- a write to what is left at the place of a path keeps every place
pub place_of-set : (files : List (List ℕ × List ℕ)) (path bytes each : List ℕ) →
    place_of (set files (place_of files path) (path, bytes)) each ≡ place_of files each
place_of-set [] path bytes each = refl
place_of-set (file ∷ files) path bytes each = by_test (bytes_eq file.0 path) _
    (λ same. rw (same, (bytes_eq-Decides file.0 path).0 same) refl)
    (λ other. rw (other, place_of-set files path bytes each) refl)

-- it is what is left of the path
pub left_of-set_same : (files : List (List ℕ × List ℕ)) (path bytes : List ℕ) → place_of files path < length files →
    left_of (set files (place_of files path) (path, bytes)) path ≡ bytes
left_of-set_same [] path bytes inside = absurd (omega arith)
left_of-set_same (file ∷ files) path bytes inside = by_test (bytes_eq file.0 path) _
    (λ same. let itself : bytes_eq path path ≡ true = (bytes_eq-Decides path path).1 refl in rw (same, itself) refl)
    (λ other.
    let within : place_of files path < length files = let more = rw other at inside in omega arith in
    rw (other, other) (left_of-set_same files path bytes within))

-- and the other paths keep what is left of them
pub left_of-set_other : (files : List (List ℕ × List ℕ)) (path bytes other : List ℕ) → other ≢ path →
    left_of (set files (place_of files path) (path, bytes)) other ≡ left_of files other
left_of-set_other [] path bytes other apart = refl
left_of-set_other (file ∷ files) path bytes other apart = by_test (bytes_eq file.0 path) _
    (λ same.
    let away : bytes_eq path other ≡ false = differs path other (λ equal. apart (sym equal)) in
    rw (same, (bytes_eq-Decides file.0 path).0 same, away) refl)
    (λ passed. rw (passed, left_of-set_other files path bytes other apart) refl)

-- the file at the place of a path is the path with what is left of it
pub file_at : (files : List (List ℕ × List ℕ)) (path : List ℕ) (place : ℕ) (file : List ℕ × List ℕ) →
    place ≡ place_of files path → place < length files → file ≡ get_or files place file → get_or files place file ≡ (path, left_of files path)
file_at files path place file here inside is =
    let within : place_of files path < length files = omega arith in
    let at : file ≡ get_or files (place_of files path) file = rw here at is in
    let parts : (file.0 ≡ path) × (file.1 ≡ left_of files path) = at_place files path file within at in
    rw (← is) (ap (λ text. (text, file.1)) parts.0 ∙ ap (λ bytes. (path, bytes)) parts.1)

-- every path stays
pub paths-set : (files : List (List ℕ × List ℕ)) (path bytes : List ℕ) (place : ℕ) (file : List ℕ × List ℕ) →
    get_or files place file ≡ (path, left_of files path) → map (λ (file : List ℕ × List ℕ). file.0) (set files place (path, bytes)) ≡ map (λ file. file.0) files
paths-set files path bytes place file here = map-set_same (λ (file : List ℕ × List ℕ). file.0) files place (path, bytes) file (ap (λ file. file.0) (sym here))

-- files that were lent and came back as they were
pub put_back : (count : ℕ) (files back : List (List ℕ × List ℕ)) → back ≡ files → length back ≡ count →
    take count (back ++ drop (length back) files) ≡ files
put_back count files back same here =
    rw (same, drop-length files, append-nil) (take_all count files (omega (arith, ap length same)))
