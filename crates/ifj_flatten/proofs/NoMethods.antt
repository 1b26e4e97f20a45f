-- A table whose classes have no methods is flat, for tests.
use Rattle.std.proofs.Common.{◌≡◌, List, [], ◌∷◌, length, Some, refl, sym, ap, ◌∙◌, subst, arith}
use Rattle.std.specs.Prelude.{All}
use Rattle.std.specs.FinMap.{get}
use Rattle.dj_names.specs.Texts.{Text}
use Rattle.dj_tree.specs.declared.expression.ExprNode.{ExprNode}
use Rattle.dj_calculus.specs.Tables as calculus
use Rattle.dj_calculus.specs.FlatTables.{IsFlat}
use Rattle.dj_calculus.proofs.MapLemmas.{text_get-empty}
use Rattle.dj_calculus.proofs.Members.{same_some, not_both}
use Rattle.ifj_table.specs.Entries.{text_at, methods_of, plain_class, classes_of}
use Rattle.ifj_table.specs.Held.{AreClasses}
use Rattle.ifj_table.specs.declared.entry.ClassEntry.{ClassEntry}
use Rattle.ifj_table.proofs.EntryMaps.{got, some_there, element_at}
use Rattle.ifj_table.proofs.TableLemmas.{all_at}

abbrev pub HasNone : ClassEntry → Type 0
HasNone c = c.methods.items ≡ []

pub no_length : {X : Type 0} (xs : List X) → length xs ≡ 0 → xs ≡ []
no_length [] e = refl
no_length (x ∷ xs) e = absurd (omega arith)

pub no_methods : (names : List Text) (exprs : List ExprNode) (classes : List ClassEntry) → AreClasses names exprs classes → All HasNone classes → IsFlat (classes_of names exprs classes)
no_methods names exprs classes held all c m entry method there has =
    let key : ClassEntry → Text = λ k. text_at names k.spot in
    let place = some_there key (plain_class names exprs) classes c entry there in
    let e = element_at key classes place.0 c place.1 in
    let its = got key (plain_class names exprs) classes place.0 e.0 held.rising e.1 in
    let same = same_some (plain_class names exprs e.0) entry (get (classes_of names exprs classes) c) (subst (λ k. get (classes_of names exprs classes) k ≡ Some (plain_class names exprs e.0)) e.2 its) there in
    let none = ap (λ ms. get (methods_of names exprs ms) m) (all_at HasNone classes place.0 e.0 all e.1) ∙ text_get-empty calculus.MethodEntry m in
    absurd (not_both method (get entry.methods m) (ap (λ (k : calculus.ClassEntry). get k.methods m) (sym same) ∙ none) has)
