use Rattle.std.proofs.Common.{inl, inr, [], ◌∷◌, List, codes, refl, arith}
use Rattle.dj_tree.specs.Trees.{Class, null_at, field_of}
use Rattle.dj_calculus.specs.Tables.{MethodEntry, ClassEntry}
use Rattle.dj_calculus.specs.Entries.{method_entry}
use Rattle.dj_calculus.specs.Subclasses.{null_below}
use Rattle.dj_calculus.specs.Typing.{kept, type_of_null, type_of_cast}
use Rattle.dj_calculus.specs.BodyRules.{itself, field_of_null}
use Rattle.dj_calculus.specs.TableRules.{of_node}
use Rattle.dj_calculus.specs.Samples.Builders.{spot, method}
use Rattle.dj_calculus.specs.Samples.NullMember
use Rattle.dj_calculus.proofs.MapLemmas.{text_get-insert}
use Rattle.dj_calculus.proofs.SmallTables.{found, nothing_fourth}
use Rattle.dj_calculus.proofs.examples.null_values.Goals as goal

pub returns-clause-field_of_null : goal.returns-clause-field_of_null
returns-clause-field_of_null c =
    let classes : List Class = NullMember.class_a ∷ [] in
    record {
      stands = record {
        breaks =
            of_node _ _ 23 35
            (kept (codes "d") {method = method_entry (method "A" 15 "d" 17 [] (field_of (null_at 30) (spot "f" 35)))} (found classes (codes "A") _ refl)
            (simp (text_get-insert MethodEntry) refl) (0, omega arith, refl))
            (record { node = _; within = itself; breaks = field_of_null type_of_null });
        one_place = refl;
      };
      clean = λ lower below stands. nothing_fourth classes refl refl lower.rule lower.at stands.breaks below;
    }

pub returns-clause-cast_of_null : goal.returns-clause-cast_of_null
returns-clause-cast_of_null c = type_of_cast (inr (simp (text_get-insert ClassEntry) refl)) type_of_null (inl (null_below _))
