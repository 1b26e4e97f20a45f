use Rattle.std.proofs.Common.{zero, suc, [], ◌∷◌, codes, refl, arith}
use Rattle.std.specs.List.{All}
use Rattle.std.specs.FinMap.{get}
use Rattle.dj_tree.specs.Trees.{Expr, variable, this_at, field_of, call_of, new_of, assignment}
use Rattle.dj_calculus.specs.Tables.{FieldEntry, MethodEntry, Table, heading_of}
use Rattle.dj_calculus.specs.Entries.{method_entry}
use Rattle.dj_calculus.specs.Subclasses.{stay, class_kind, own}
use Rattle.dj_calculus.specs.Typing.{Home, kept, type_of_this, type_of_new}
use Rattle.dj_calculus.specs.BodyRules.{itself, HasType, unknown_variable, unknown_class_new, no_field, number_of_call, argument_of_call, assigned_type}
use Rattle.dj_calculus.specs.TableRules.{unknown_superclass, circular_superclasses, unknown_field_type, hidden_field, override_differs, of_node, returned_type}
use Rattle.dj_calculus.specs.Samples.Builders.{spot, field, method}
use Rattle.dj_calculus.specs.Samples.Rules as rules
use Rattle.dj_calculus.proofs.MapLemmas.{text_get-insert, text_get-empty}
use Rattle.dj_calculus.proofs.Chains.{circle_endless}
use Rattle.dj_calculus.proofs.LayerLemmas.{of_higher_table}
use Rattle.dj_calculus.proofs.SmallTables.{found, missing_by, exists_by, nothing_third, nothing_fourth, not_below, lacks}
use Rattle.dj_calculus.proofs.examples.one_line_files.Goals as goal

pub returns-clause-classes : goal.returns-clause-classes
returns-clause-classes c =
    record {
      unknown_superclass = record {
        stands = record {
          breaks = unknown_superclass (codes "A") _ (found rules.unknown_superclass (codes "A") _ refl) (missing_by rules.unknown_superclass (codes "Z") refl);
          one_place = refl;
        };
        clean = λ lower below stands. of_higher_table _ lower.rule lower.at stands.breaks below;
      };
      circular_superclasses = record {
        stands = record {
          breaks =
              let there = found rules.circular_superclasses (codes "A") _ refl in
              circular_superclasses (codes "A") _ there (circle_endless _ (codes "A") (codes "A", record { entry = _; there = there; parent = refl }, stay));
          one_place = refl;
        };
        clean = λ lower below stands. of_higher_table _ lower.rule lower.at stands.breaks below;
      };
      unknown_type = record {
        stands = record {
          breaks =
              unknown_field_type (codes "A") (codes "f") _ (record { at = 12; kind = spot "Z" 10 }) (found rules.unknown_type (codes "A") _ refl) (simp (text_get-insert FieldEntry) refl)
              (missing_by rules.unknown_type (codes "Z") refl);
          one_place = refl;
        };
        clean = λ lower below stands. of_higher_table _ lower.rule lower.at stands.breaks below;
      };
    }

pub returns-clause-members : goal.returns-clause-members
returns-clause-members c =
    record {
      hidden_field = record {
        stands = record {
          breaks =
              let there = found rules.hidden_field (codes "B") _ refl in
              hidden_field (codes "B") (codes "A") (codes "f") _ _ (record { at = 39; kind = spot "A" 37 }) there (simp (text_get-insert FieldEntry) refl)
              (codes "A", record { entry = _; there = there; parent = refl }, stay) (found rules.hidden_field (codes "A") _ refl) (simp (text_get-insert FieldEntry) refl);
          one_place = refl;
        };
        clean = λ lower below stands. nothing_third rules.hidden_field refl lower.rule lower.at stands.breaks below;
      };
      override_differs = record {
        stands = record {
          breaks =
              let there = found rules.override_differs (codes "B") _ refl in
              override_differs (codes "B") (codes "A") (codes "m") _ _ (method_entry (method "B" 55 "m" 57 [] (this_at 70))) (method_entry (method "A" 10 "m" 12 [] (this_at 25))) there (simp (text_get-insert MethodEntry) refl)
              (codes "A", record { entry = _; there = there; parent = refl }, stay) (found rules.override_differs (codes "A") _ refl) (simp (text_get-insert MethodEntry) refl) refl;
          one_place = refl;
        };
        clean = λ lower below stands. nothing_third rules.override_differs refl lower.rule lower.at stands.breaks below;
      };
    }

-- ---- bodies

all_of_one : (t : Table) (home : Home) (e : Expr) → HasType t home e → All (HasType t home) (e ∷ [])
all_of_one t home e has zero d low = has
all_of_one t home e has (suc k) d low = absurd (omega arith)

pub returns-clause-bodies : goal.returns-clause-bodies
returns-clause-bodies c =
    record {
      unknown_variable = record {
        stands = record {
          breaks =
              of_node _ _ 14 25
              (kept (codes "m") {method = method_entry (method "A" 10 "m" 12 [] (variable (spot "x" 25)))} (found rules.unknown_variable (codes "A") _ refl)
              (simp (text_get-insert MethodEntry) refl) (0, omega arith, refl))
              (record { node = _; within = itself; breaks = unknown_variable refl });
          one_place = refl;
        };
        clean = λ lower below stands. nothing_fourth rules.unknown_variable refl refl lower.rule lower.at stands.breaks below;
      };
      unknown_class = record {
        stands = record {
          breaks =
              of_node _ _ 15 29
              (kept (codes "m") {method = method_entry (method "A" 10 "m" 12 [] (new_of (spot "Z" 29)))} (found rules.unknown_class (codes "A") _ refl)
              (simp (text_get-insert MethodEntry) refl) (0, omega arith, refl))
              (record { node = _; within = itself; breaks = unknown_class_new (missing_by rules.unknown_class (codes "Z") refl) });
          one_place = refl;
        };
        clean = λ lower below stands. nothing_fourth rules.unknown_class refl refl lower.rule lower.at stands.breaks below;
      };
      no_field = record {
        stands = record {
          breaks =
              let there = found rules.no_field (codes "A") _ refl in
              of_node _ _ 16 30
              (kept (codes "m") {method = method_entry (method "A" 10 "m" 12 [] (field_of (this_at 25) (spot "f" 30)))} there (simp (text_get-insert MethodEntry) refl) (0, omega arith, refl))
              (record {
                node = _;
                within = itself;
                breaks = no_field (codes "A") type_of_this
                    (λ has. lacks rules.no_field refl refl (λ e. get e.fields (codes "f")) (codes "A") has.1.owner _ has.1.field there refl (text_get-empty FieldEntry (codes "f")) has.1.nearest);
              });
          one_place = refl;
        };
        clean = λ lower below stands. nothing_fourth rules.no_field refl refl lower.rule lower.at stands.breaks below;
      };
      number_of_arguments = record {
        stands = record {
          breaks =
              let there = found rules.number_of_arguments (codes "A") _ refl in
              let its : MethodEntry = method_entry (method "A" 10 "m" 12 [] (call_of (this_at 25) (spot "m" 30) (this_at 32 ∷ []))) in
              of_node _ _ 18 30 (kept (codes "m") {method = its} there (simp (text_get-insert MethodEntry) refl) (0, omega arith, refl))
              (record {
                node = _;
                within = itself;
                breaks = number_of_call (codes "A") (heading_of its.signature) type_of_this
                    (record { owner = codes "A"; method = its; nearest = own there (simp (text_get-insert MethodEntry) refl); has = refl })
                    (record { typed = all_of_one _ _ (this_at 32) (class_kind (codes "A"), type_of_this); count = λ e. absurd cc });
              });
          one_place = refl;
        };
        clean = λ lower below stands. nothing_fourth rules.number_of_arguments refl refl lower.rule lower.at stands.breaks below;
      };
      argument_type = record {
        stands = record {
          breaks =
              let there = found rules.argument_type (codes "A") _ refl in
              let its : MethodEntry = method_entry (method "A" 10 "m" 12 (field "A" 14 "x" 16 ∷ []) (call_of (this_at 28) (spot "m" 33) (new_of (spot "B" 39) ∷ []))) in
              let new_b = type_of_new (exists_by rules.argument_type (codes "B") refl) in
              of_node _ _ 19 39 (kept (codes "m") {method = its} there (simp (text_get-insert MethodEntry) refl) (0, omega arith, refl))
              (record {
                node = _;
                within = itself;
                breaks = argument_of_call (codes "A") (heading_of its.signature) (new_of (spot "B" 39)) type_of_this
                    (record { owner = codes "A"; method = its; nearest = own there (simp (text_get-insert MethodEntry) refl); has = refl })
                    (record {
                      typed = all_of_one _ _ (new_of (spot "B" 39)) (class_kind (codes "B"), new_b);
                      count = refl;
                      number = 0;
                      argument = refl;
                      parameter = codes "A";
                      its = refl;
                      kind = class_kind (codes "B");
                      types = new_b;
                      wrong = not_below rules.argument_type refl refl (codes "B") (codes "A") _ refl refl there;
                    });
              });
          one_place = refl;
        };
        clean = λ lower below stands. nothing_fourth rules.argument_type refl refl lower.rule lower.at stands.breaks below;
      };
      assigned_type = record {
        stands = record {
          breaks =
              let there = found rules.assigned_type (codes "A") _ refl in
              of_node _ _ 20 35
              (kept (codes "m") {method = method_entry (method "A" 15 "m" 17 [] (assignment (this_at 30) (spot "f" 35) (this_at 39)))} there (simp (text_get-insert MethodEntry) refl) (0, omega arith, refl))
              (record {
                node = _;
                within = itself;
                breaks = assigned_type (codes "A") (codes "B") (class_kind (codes "A")) type_of_this
                    (record { owner = codes "A"; field = record { at = 12; kind = spot "B" 10 }; nearest = own there (simp (text_get-insert FieldEntry) refl); has = refl }) type_of_this
                    (not_below rules.assigned_type refl refl (codes "A") (codes "B") _ refl refl (found rules.assigned_type (codes "B") _ refl));
              });
          one_place = refl;
        };
        clean = λ lower below stands. nothing_fourth rules.assigned_type refl refl lower.rule lower.at stands.breaks below;
      };
      returned_type = record {
        stands = record {
          breaks =
              returned_type _ (this_at 25) (class_kind (codes "A"))
              (kept (codes "m") {method = method_entry (method "B" 10 "m" 12 [] (this_at 25))} (found rules.returned_type (codes "A") _ refl) (simp (text_get-insert MethodEntry) refl) (0, omega arith, refl))
              type_of_this (not_below rules.returned_type refl refl (codes "A") (codes "B") _ refl refl (found rules.returned_type (codes "B") _ refl));
          one_place = refl;
        };
        clean = λ lower below stands. nothing_fourth rules.returned_type refl refl lower.rule lower.at stands.breaks below;
      };
    }
