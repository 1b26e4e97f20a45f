-- Texts that end with a line, and any number of them.
use Rattle.std.proofs.Common.{◌≡◌, ◌+◌, false, List, [], ◌∷◌, ◌++◌, map, length, Contains, refl, sym, ap, ◌∙◌, subst, arith, append_assoc}
use Rattle.std.specs.List.{flat_map}
use Rattle.std.proofs.lemmas.List.{append-nil, map-append}
use Rattle.std.proofs.lemmas.List.Concat.{flat_map-cons}
use Rattle.dj_names.specs.Texts.{Text}
use Rattle.dj_lexer.specs.Symbols.{Symbol}
use Rattle.dj_tree.specs.Repeats.{Many, none, more}
use Rattle.dj_calculus.proofs.Members.{among_others}
use Rattle.java_text_laws.proofs.Bits.{text_of, placed, Apart, ends_word, apart_join, ends_join, text_join, placed_join}
use Rattle.java_text_laws.proofs.Said.{Said}

-- The text says u, and any text may follow it.
pub record SaidLines {X U : Type 0} (Spells : List Symbol → X → Type 0) (bare : X → U) (u : U) (text : Text) : Type 0 where
  pub said : Said Spells bare u text
  pub ends : ends_word false said.bits ≡ false

module _ {X U : Type 0} (Spells : List Symbol → X → Type 0) (bare : X → U) where
  no_lines : SaidLines (Many Spells) (map bare) [] []
  no_lines = record { said = record { bits = []; writes = refl; apart = tt; reads = λ at. ([], (none, refl)) }; ends = refl }

  one_line : {u : U} {text : Text} → SaidLines Spells bare u text → SaidLines (Many Spells) (map bare) (u ∷ []) text
  one_line first = record {
    said = record {
      bits = first.said.bits;
      writes = first.said.writes;
      apart = first.said.apart;
      reads = λ at.
          let it = first.said.reads at in
          (it.0 ∷ [], (subst (λ s. Many Spells s (it.0 ∷ [])) (append-nil (placed at first.said.bits)) (more it.1.0 none), ap (λ v. v ∷ []) it.1.1));
    };
    ends = first.ends;
  }

  many_join : {s t : List Symbol} {xs ys : List X} → Many Spells s xs → Many Spells t ys → Many Spells (s ++ t) (xs ++ ys)
  many_join none back = back
  many_join {t = t} {ys = ys} (more {front} {rest} {x} {xs} first others) back =
      subst (λ s. Many Spells s (x ∷ (xs ++ ys))) (sym (append_assoc front rest t)) (more first (many_join others back))

  -- two lists of them, the one behind the other
  pub lines_join : {us vs : List U} {text others : Text} → SaidLines (Many Spells) (map bare) us text → SaidLines (Many Spells) (map bare) vs others
      → SaidLines (Many Spells) (map bare) (us ++ vs) (text ++ others)
  lines_join {us} {vs} {text} {others} front back =
      let a = front.said in
      let b = back.said in
      record {
        said = record {
          bits = a.bits ++ b.bits;
          writes = text_join a.bits b.bits ∙ ap (λ t. t ++ text_of b.bits) a.writes ∙ ap (λ t. text ++ t) b.writes;
          apart = apart_join false a.bits b.bits a.apart (subst (λ after. Apart after b.bits) (sym front.ends) b.apart);
          reads = λ at.
              let it = a.reads at in
              let later = b.reads (at + length (text_of a.bits)) in (
                it.0 ++ later.0,
                (
                  subst (λ s. Many Spells s (it.0 ++ later.0)) (sym (placed_join at a.bits b.bits)) (many_join it.1.0 later.1.0),
                  map-append bare it.0 later.0 ∙ ap (λ ws. ws ++ map bare later.0) it.1.1 ∙ ap (λ ws. us ++ ws) later.1.1,
                ),
              );
        };
        ends = ends_join false a.bits b.bits ∙ ap (λ after. ends_word after b.bits) front.ends ∙ back.ends;
      }

  -- a list of things, each in lines of its own
  pub many_lines : {A : Type 0} (write : A → Text) (says : A → U) (things : List A) → ((a : A) → Contains things a → SaidLines Spells bare (says a) (write a))
      → SaidLines (Many Spells) (map bare) (map says things) (flat_map write things)
  many_lines write says [] each = no_lines
  many_lines write says (a ∷ things) each =
      subst (SaidLines (Many Spells) (map bare) (says a ∷ map says things)) (sym (flat_map-cons write a things))
      (lines_join (one_line (each a (0, omega arith, refl))) (many_lines write says things (λ b has. each b (among_others a b things has))))
