-- Readers of operations and deltas.
use Rattle.std.proofs.Common.{◌≡◌, ℕ, true, false, List, [], ◌∷◌, ◌++◌, None, refl}
use Rattle.std.specs.Prelude.{codes}
use Rattle.dj_names.specs.Texts.{Text}
use Rattle.dj_lexer.specs.Symbols.{Symbol}
use Rattle.dj_lexer.specs.declared.token.Dialect.TheVariants.{Line}
use Rattle.dj_tree.specs.Words.{word, sign, named, IsName}
use Rattle.dj_tree.specs.Trees.{Spot, Expr, MemberOperation, modifies_method, removes_field, removes_method, Operation, adds_class, modifies_class, removes_class, Delta}
use Rattle.dj_tree.specs.Repeats as repeats
use Rattle.dj_tree.specs.Repeats.{Many}
use Rattle.dj_tree.specs.ExprGrammar.{SpellsExpr}
use Rattle.dj_tree.specs.ClassGrammar as classes
use Rattle.dj_tree.specs.ClassGrammar.{SpellsTyped, SpellsMethod, Member, SpellsMember, SpellsClass}
use Rattle.dj_tree.specs.LineGrammar as lines
use Rattle.dj_tree.specs.LineGrammar.{adds_member, SpellsMemberOperation, SpellsOperation, SpellsDelta}
use Rattle.dj_reader.specs.Terminals.{is_the_word}
use Rattle.dj_reader.specs.Reading.{Outcome, next, IsReader, Anything, IsSign}
use Rattle.dj_reader.specs.Combining.{a_word, SpellsSign, the_sign, SpellsWord, the_word, SpellsName, the_name, SpellsBoth, one_and_other, mapped, SpellsMapped, changed}
use Rattle.dj_reader.specs.Combining.{passes, either, SpellsEither, this_way, other_way}
use Rattle.dj_reader.proofs.Laws.{both_reads, mapped_reads, same_reads, either_reads}
use Rattle.dj_reader.proofs.Pieces.{sign_reads, word_reads, name_reads, some_name, some_name_is}
use Rattle.dj_declarations.specs.Readings.{second, behind, name_from, removed_reading, member_operation_reading, change_from, change_reading, operation_reading, delta_from, delta_reading}
use Rattle.dj_declarations.proofs.Pieces.{joins_any, behind_reads, BeginsOpen, SpellsBraced, in_braces, no_pieces, braced_reads, SpellsHead, head, head_reads, some_head}
use Rattle.dj_declarations.proofs.MemberReaders.{some_typed, some_rest, whole_method, method_reads, member_reads, class_reads}

-- ---- what is removed

-- word NAME ";"
pub data SpellsRemoved (text : Text) : List Symbol → Spot → Type 0 where
  removed : (a b : ℕ) (x : Spot) → IsName x → SpellsRemoved text (word text a ∷ named x ∷ sign (codes ";") b ∷ []) x

some_removed : (text : Text) → SpellsRemoved text (word text 0 ∷ named some_name ∷ sign (codes ";") 0 ∷ []) some_name
some_removed text = removed 0 0 some_name some_name_is

pub removed_reads : (text : Text) → IsReader (SpellsRemoved text) Anything (removed_reading text)
removed_reads text =
    same_reads (record { to = to; from = from })
    (mapped_reads name_from (both_reads (joins_any _ _ (one_and_other (the_name some_name some_name_is) (the_sign 0))) (word_reads text)
    (both_reads (joins_any _ _ (the_sign 0)) name_reads (sign_reads (codes ";")))))
  where
    to : (s : List Symbol) (x : Spot) → SpellsMapped name_from (SpellsBoth (SpellsWord text) (SpellsBoth SpellsName (SpellsSign (codes ";")))) s x → SpellsRemoved text s x
    to s x (changed (one_and_other (the_word a) (one_and_other (the_name y i) (the_sign b)))) = removed a b y i

    from : (s : List Symbol) (x : Spot) → SpellsRemoved text s x → SpellsMapped name_from (SpellsBoth (SpellsWord text) (SpellsBoth SpellsName (SpellsSign (codes ";")))) s x
    from s x (removed a b y i) = changed (one_and_other (the_word a) (one_and_other (the_name y i) (the_sign b)))

-- ---- a word and what is behind it

-- the word, and then what the grammar spells
pub data SpellsBehind {X : Type 0} (text : Text) (Spells : List Symbol → X → Type 0) : List Symbol → X → Type 0 where
  word_and : {s : List Symbol} {x : X} (at : ℕ) → Spells s x → SpellsBehind text Spells (word text at ∷ s) x

pub word_and_reads : {X : Type 0} {Spells : List Symbol → X → Type 0} {read : List Symbol → Outcome X} (text : Text) (s : List Symbol) (x : X) → Spells s x → IsReader Spells Anything read
    → IsReader (SpellsBehind text Spells) Anything (behind (a_word text) read)
word_and_reads {X = X} {Spells = Spells} text s x p is = same_reads (record { to = to; from = from }) (behind_reads (joins_any s x p) (word_reads text) is)
  where
    to : (s : List Symbol) (x : X) → SpellsMapped second (SpellsBoth (SpellsWord text) Spells) s x → SpellsBehind text Spells s x
    to s x (changed (one_and_other (the_word at) q)) = word_and at q

    from : (s : List Symbol) (x : X) → SpellsBehind text Spells s x → SpellsMapped second (SpellsBoth (SpellsWord text) Spells) s x
    from s x (word_and at q) = changed (one_and_other (the_word at) q)

module _ (expr : List Symbol → Outcome Expr) (is : IsReader (SpellsExpr Line) (IsSign (codes ";")) expr) where
  -- ---- operations on members

  abbrev Added : List Symbol → MemberOperation → Type 0
  Added = SpellsMapped adds_member (SpellsBehind (codes "adds") (SpellsMember Line))

  abbrev Modified : List Symbol → MemberOperation → Type 0
  Modified = SpellsMapped modifies_method (SpellsBehind (codes "modifies") (SpellsMethod Line))

  abbrev OneRemoved : List Symbol → MemberOperation → Type 0
  OneRemoved = SpellsEither (SpellsMapped removes_field (SpellsRemoved (codes "field"))) (SpellsMapped removes_method (SpellsRemoved (codes "method")))

  abbrev Removed : List Symbol → MemberOperation → Type 0
  Removed = SpellsBehind (codes "removes") OneRemoved

  one_removed_reads : IsReader OneRemoved Anything
      (either (is_the_word (codes "field")) (mapped removes_field (removed_reading (codes "field"))) (mapped removes_method (removed_reading (codes "method"))))
  one_removed_reads =
      either_reads (record { of_one = of_one; of_other = of_other }) (mapped_reads removes_field (removed_reads (codes "field"))) (mapped_reads removes_method (removed_reads (codes "method")))
    where
      of_one : (s rest : List Symbol) (o : MemberOperation) → SpellsMapped removes_field (SpellsRemoved (codes "field")) s o → passes (is_the_word (codes "field")) (next (s ++ rest)) ≡ true
      of_one s rest o (changed (removed a b x i)) = refl

      of_other : (s rest : List Symbol) (o : MemberOperation) → SpellsMapped removes_method (SpellsRemoved (codes "method")) s o → Anything (next rest)
          → passes (is_the_word (codes "field")) (next (s ++ rest)) ≡ false
      of_other s rest o (changed (removed a b x i)) follows = refl

  pub member_operation_reads : IsReader SpellsMemberOperation Anything (member_operation_reading expr)
  member_operation_reads =
      same_reads (record { to = to; from = from })
      (either_reads (record { of_one = adds_first; of_other = adds_not }) (mapped_reads adds_member (word_and_reads (codes "adds") _ _ (classes.field 0 some_typed) (member_reads Line expr is)))
      (either_reads (record { of_one = modifies_first; of_other = modifies_not })
      (mapped_reads modifies_method (word_and_reads (codes "modifies") _ _ (whole_method Line expr is some_typed (some_rest Line expr is)) (method_reads Line expr is)))
      (word_and_reads (codes "removes") _ _ (this_way (changed (some_removed (codes "field")))) one_removed_reads)))
    where
      adds_first : (s rest : List Symbol) (o : MemberOperation) → Added s o → passes (is_the_word (codes "adds")) (next (s ++ rest)) ≡ true
      adds_first s rest o (changed (word_and at p)) = refl

      adds_not : (s rest : List Symbol) (o : MemberOperation) → SpellsEither Modified Removed s o → Anything (next rest) → passes (is_the_word (codes "adds")) (next (s ++ rest)) ≡ false
      adds_not s rest o (this_way (changed (word_and at p))) follows = refl
      adds_not s rest o (other_way (word_and at p)) follows = refl

      modifies_first : (s rest : List Symbol) (o : MemberOperation) → Modified s o → passes (is_the_word (codes "modifies")) (next (s ++ rest)) ≡ true
      modifies_first s rest o (changed (word_and at p)) = refl

      modifies_not : (s rest : List Symbol) (o : MemberOperation) → Removed s o → Anything (next rest) → passes (is_the_word (codes "modifies")) (next (s ++ rest)) ≡ false
      modifies_not s rest o (word_and at p) follows = refl

      to : (s : List Symbol) (o : MemberOperation) → SpellsEither Added (SpellsEither Modified Removed) s o → SpellsMemberOperation s o
      to s o (this_way (changed (word_and at p))) = lines.adds at p
      to s o (other_way (this_way (changed (word_and at p)))) = lines.modifies at p
      to s o (other_way (other_way (word_and at (this_way (changed (removed a b x i)))))) = lines.field_removed at a b x i
      to s o (other_way (other_way (word_and at (other_way (changed (removed a b x i)))))) = lines.method_removed at a b x i

      from : (s : List Symbol) (o : MemberOperation) → SpellsMemberOperation s o → SpellsEither Added (SpellsEither Modified Removed) s o
      from s o (lines.adds at p) = this_way (changed (word_and at p))
      from s o (lines.modifies at p) = other_way (this_way (changed (word_and at p)))
      from s o (lines.field_removed at a b x i) = other_way (other_way (word_and at (this_way (changed (removed a b x i)))))
      from s o (lines.method_removed at a b x i) = other_way (other_way (word_and at (other_way (changed (removed a b x i)))))

  member_operation_opens : BeginsOpen SpellsMemberOperation
  member_operation_opens s o (lines.adds at p) = (word (codes "adds") at, (_, refl, refl))
  member_operation_opens s o (lines.modifies at p) = (word (codes "modifies") at, (_, refl, refl))
  member_operation_opens s o (lines.field_removed at a b x i) = (word (codes "removes") at, (_, refl, refl))
  member_operation_opens s o (lines.method_removed at a b x i) = (word (codes "removes") at, (_, refl, refl))

  -- ---- operations on classes

  -- "class" NAME [ "extends" NAME ] "{" { memberop } "}"
  abbrev Changed : List Symbol → Operation → Type 0
  Changed = SpellsMapped change_from (SpellsBoth (SpellsWord (codes "class")) (SpellsBoth SpellsName (SpellsHead (codes "extends") SpellsMemberOperation)))

  some_change : Changed (word (codes "class") 0 ∷ named some_name ∷ sign (codes "{") 0 ∷ sign (codes "}") 0 ∷ []) (modifies_class (record { name = some_name; parent = None; members = [] }))
  some_change = changed (one_and_other (the_word 0) (one_and_other (the_name some_name some_name_is) (some_head SpellsMemberOperation (codes "extends"))))

  change_reads : IsReader Changed Anything (change_reading expr)
  change_reads =
      mapped_reads change_from
      (both_reads (joins_any _ _ (one_and_other (the_name some_name some_name_is) (some_head SpellsMemberOperation (codes "extends")))) (word_reads (codes "class"))
      (both_reads (joins_any _ _ (some_head SpellsMemberOperation (codes "extends"))) name_reads (head_reads (codes "extends") member_operation_opens member_operation_reads)))

  abbrev ClassAdded : List Symbol → Operation → Type 0
  ClassAdded = SpellsMapped adds_class (SpellsBehind (codes "adds") (SpellsClass Line))

  abbrev ClassModified : List Symbol → Operation → Type 0
  ClassModified = SpellsBehind (codes "modifies") Changed

  abbrev ClassRemoved : List Symbol → Operation → Type 0
  ClassRemoved = SpellsMapped removes_class (SpellsBehind (codes "removes") (SpellsRemoved (codes "class")))

  some_class : SpellsClass Line (word (codes "class") 0 ∷ named some_name ∷ sign (codes "{") 0 ∷ sign (codes "}") 0 ∷ []) (record { name = some_name; parent = None; fields = []; methods = [] })
  some_class = classes.class 0 0 0 some_name some_name_is classes.omitted repeats.none

  pub operation_reads : IsReader SpellsOperation Anything (operation_reading expr)
  operation_reads =
      same_reads (record { to = to; from = from })
      (either_reads (record { of_one = adds_first; of_other = adds_not }) (mapped_reads adds_class (word_and_reads (codes "adds") _ _ some_class (class_reads Line expr is)))
      (either_reads (record { of_one = modifies_first; of_other = modifies_not }) (word_and_reads (codes "modifies") _ _ some_change change_reads)
      (mapped_reads removes_class (word_and_reads (codes "removes") _ _ (some_removed (codes "class")) (removed_reads (codes "class"))))))
    where
      adds_first : (s rest : List Symbol) (o : Operation) → ClassAdded s o → passes (is_the_word (codes "adds")) (next (s ++ rest)) ≡ true
      adds_first s rest o (changed (word_and at p)) = refl

      adds_not : (s rest : List Symbol) (o : Operation) → SpellsEither ClassModified ClassRemoved s o → Anything (next rest) → passes (is_the_word (codes "adds")) (next (s ++ rest)) ≡ false
      adds_not s rest o (this_way (word_and at p)) follows = refl
      adds_not s rest o (other_way (changed (word_and at p))) follows = refl

      modifies_first : (s rest : List Symbol) (o : Operation) → ClassModified s o → passes (is_the_word (codes "modifies")) (next (s ++ rest)) ≡ true
      modifies_first s rest o (word_and at p) = refl

      modifies_not : (s rest : List Symbol) (o : Operation) → ClassRemoved s o → Anything (next rest) → passes (is_the_word (codes "modifies")) (next (s ++ rest)) ≡ false
      modifies_not s rest o (changed (word_and at p)) follows = refl

      to : (s : List Symbol) (o : Operation) → SpellsEither ClassAdded (SpellsEither ClassModified ClassRemoved) s o → SpellsOperation s o
      to s o (this_way (changed (word_and at p))) = lines.class_added at p
      to s o (other_way (this_way (word_and at (changed (one_and_other (the_word k) (one_and_other (the_name x i) (head a b o2 many))))))) = lines.class_modified at k a b x i o2 many
      to s o (other_way (other_way (changed (word_and at (removed a b x i))))) = lines.class_removed at a b x i

      from : (s : List Symbol) (o : Operation) → SpellsOperation s o → SpellsEither ClassAdded (SpellsEither ClassModified ClassRemoved) s o
      from s o (lines.class_added at p) = this_way (changed (word_and at p))
      from s o (lines.class_modified at k a b x i o2 many) = other_way (this_way (word_and at (changed (one_and_other (the_word k) (one_and_other (the_name x i) (head a b o2 many))))))
      from s o (lines.class_removed at a b x i) = other_way (other_way (changed (word_and at (removed a b x i))))

  operation_opens : BeginsOpen SpellsOperation
  operation_opens s o (lines.class_added at p) = (word (codes "adds") at, (_, refl, refl))
  operation_opens s o (lines.class_modified at k a b x i o2 many) = (word (codes "modifies") at, (_, refl, refl))
  operation_opens s o (lines.class_removed at a b x i) = (word (codes "removes") at, (_, refl, refl))

  -- ---- deltas

  pub delta_reads : IsReader SpellsDelta Anything (delta_reading expr)
  delta_reads =
      same_reads (record { to = to; from = from })
      (mapped_reads delta_from
      (both_reads (joins_any _ _ (one_and_other (the_name some_name some_name_is) (no_pieces {Spells = SpellsOperation}))) (word_reads (codes "delta"))
      (both_reads (joins_any _ _ (no_pieces {Spells = SpellsOperation})) name_reads (braced_reads operation_opens operation_reads))))
    where
      to : (s : List Symbol) (x : Delta) → SpellsMapped delta_from (SpellsBoth (SpellsWord (codes "delta")) (SpellsBoth SpellsName (SpellsBraced SpellsOperation))) s x → SpellsDelta s x
      to s x (changed (one_and_other (the_word at) (one_and_other (the_name y i) (in_braces a b many)))) = lines.delta at a b y i many

      from : (s : List Symbol) (x : Delta) → SpellsDelta s x → SpellsMapped delta_from (SpellsBoth (SpellsWord (codes "delta")) (SpellsBoth SpellsName (SpellsBraced SpellsOperation))) s x
      from s x (lines.delta at a b y i many) = changed (one_and_other (the_word at) (one_and_other (the_name y i) (in_braces a b many)))
