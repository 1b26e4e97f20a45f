-- Finishing operators one by one.
use Rattle.std.proofs.Common.{◌≡◌, ℕ, ◌<◌, List, [], ◌∷◌, ◌++◌, length, Some, sym, ap, ◌∙◌, append_assoc, arith}
use Rattle.std.proofs.lemmas.List.{map_push}
use Rattle.dj_formula_reader.specs.declared.machine.Frame.{Frame}
use Rattle.dj_formula_reader.specs.declared.machine.FormulaMark.{FormulaMark}
use Rattle.dj_formula_reader.specs.Machine.{kept, passed}
use Rattle.dj_formula_reader.specs.View.{form_of, forms_of, Finishes}

-- what is still to be finished, with what is finished, is what was to be finished at first
pub record Finishing (bytes : List ℕ) (rank : ℕ) (first : List Frame) (first_marks : List FormulaMark) (frames : List Frame) (marks : List FormulaMark) : Type 0 where
  pub still : kept rank frames ≡ kept rank first
  pub made : forms_of bytes marks ++ passed rank frames ≡ forms_of bytes first_marks ++ passed rank first

pub one_finished : (bytes : List ℕ) (rank : ℕ) (first : List Frame) (first_marks : List FormulaMark) (frames later : List Frame) (marks more : List FormulaMark) (mark : FormulaMark)
    → Finishing bytes rank first first_marks frames marks → Finishes bytes rank frames (Some mark) later → more ≡ marks ++ mark ∷ [] → Finishing bytes rank first first_marks later more
one_finished bytes rank first first_marks frames later marks more mark f e new =
    record {
      still = sym e.1 ∙ f.still;
      made =
          ap (λ ms. forms_of bytes ms ++ passed rank later) new ∙ ap (λ l. l ++ passed rank later) (map_push (form_of bytes) marks mark)
          ∙ append_assoc (forms_of bytes marks) (form_of bytes mark ∷ []) (passed rank later) ∙ ap (λ l. forms_of bytes marks ++ l) (sym e.2) ∙ f.made;
    }

pub fewer : (bytes : List ℕ) (rank : ℕ) (frames later : List Frame) (mark : FormulaMark) → Finishes bytes rank frames (Some mark) later → length later < length frames
fewer bytes rank frames later mark e = let size : length frames ≡ length (e.0.0 ∷ later) = ap length e.0.1 in omega (arith, size)
