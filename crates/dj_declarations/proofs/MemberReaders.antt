-- Readers of members and classes.
use Rattle.std.proofs.Common.{◌≡◌, ℕ, true, false, List, [], ◌∷◌, ◌++◌, Option, Some, refl, sym, ap, append_assoc}
use Rattle.std.specs.Prelude.{codes}
use Rattle.dj_lexer.specs.Symbols.{Symbol}
use Rattle.dj_lexer.specs.declared.token.Dialect.{Dialect}
use Rattle.dj_tree.specs.Words.{word, sign, named}
use Rattle.dj_tree.specs.Trees.{Expr, null_at, Field, Method, Class}
use Rattle.dj_tree.specs.Repeats as repeats
use Rattle.dj_tree.specs.Repeats.{Many, Listing}
use Rattle.dj_tree.specs.ExprGrammar as exprs
use Rattle.dj_tree.specs.ExprGrammar.{SpellsExpr}
use Rattle.dj_tree.specs.ClassGrammar as classes
use Rattle.dj_tree.specs.ClassGrammar.{SpellsTyped, SpellsMethod, Member, SpellsMember, SpellsClass}
use Rattle.dj_reader.specs.Terminals.{is_the_sign}
use Rattle.dj_reader.specs.Reading.{Outcome, next, IsReader, Anything, IsSign}
use Rattle.dj_reader.specs.Combining.{SpellsSign, the_sign, SpellsWord, the_word, SpellsName, the_name, SpellsBoth, one_and_other, SpellsMapped, changed}
use Rattle.dj_reader.specs.Combining.{passes, SpellsEither, this_way, other_way, SpellsListing, closed_list}
use Rattle.dj_reader.proofs.Laws.{both_reads, Joins, mapped_reads, same_reads, either_reads}
use Rattle.dj_reader.proofs.Pieces.{sign_reads, word_reads, name_reads, some_name, some_name_is, Listed, listing_reads}
use Rattle.dj_declarations.specs.Readings.{second, field_from, typed_reading, parameters_reading, body_from, body_reading, rest_reading, method_of, method_from, method_reading, member_from, no_rest, member_reading, class_from, class_reading}
use Rattle.dj_declarations.proofs.Pieces.{moved, joins_any, behind_reads, BeginsOpen, SpellsHead, head, head_reads, some_head}

-- ---- a type and a name

abbrev pub some_field : Field
some_field = record { kind = some_name; name = some_name }

pub some_typed : SpellsTyped (named some_name ∷ named some_name ∷ []) some_field
some_typed = classes.typed some_name some_name some_name_is some_name_is

pub typed_reads : IsReader SpellsTyped Anything typed_reading
typed_reads =
    same_reads (record { to = to; from = from }) (mapped_reads field_from (both_reads (joins_any (named some_name ∷ []) some_name (the_name some_name some_name_is)) name_reads name_reads))
  where
    to : (s : List Symbol) (f : Field) → SpellsMapped field_from (SpellsBoth SpellsName SpellsName) s f → SpellsTyped s f
    to s f (changed (one_and_other (the_name k i) (the_name x j))) = classes.typed k x i j

    from : (s : List Symbol) (f : Field) → SpellsTyped s f → SpellsMapped field_from (SpellsBoth SpellsName SpellsName) s f
    from s f (classes.typed k x i j) = changed (one_and_other (the_name k i) (the_name x j))

-- ---- parameters

pub data SpellsParameters : List Symbol → List Field → Type 0 where
  parameters : {s : List Symbol} {ps : List Field} (a b : ℕ) → Listing SpellsTyped s ps → SpellsParameters (sign (codes "(") a ∷ (s ++ sign (codes ")") b ∷ [])) ps

typed_listed : Listed (codes ")") SpellsTyped
typed_listed = record { begins = begins; no_comma = λ at. refl; symbols = named some_name ∷ named some_name ∷ []; value = some_field; spelled = some_typed }
  where
    begins : (s : List Symbol) (f : Field) → SpellsTyped s f → (first : Symbol) × ((rest : List Symbol) × (s ≡ first ∷ rest) × (is_the_sign (codes ")") first ≡ false))
    begins s f (classes.typed k x i j) = (named k, (named x ∷ [], refl, refl))

no_parameters : SpellsListing (codes ")") SpellsTyped (sign (codes ")") 0 ∷ []) []
no_parameters = closed_list 0 repeats.nothing

pub parameters_reads : IsReader SpellsParameters Anything parameters_reading
parameters_reads =
    same_reads (record { to = to; from = from }) (behind_reads (joins_any (sign (codes ")") 0 ∷ []) [] no_parameters) (sign_reads (codes "(")) (listing_reads typed_listed typed_reads))
  where
    to : (s : List Symbol) (ps : List Field) → SpellsMapped second (SpellsBoth (SpellsSign (codes "(")) (SpellsListing (codes ")") SpellsTyped)) s ps → SpellsParameters s ps
    to s ps (changed (one_and_other (the_sign a) (closed_list b l))) = parameters a b l

    from : (s : List Symbol) (ps : List Field) → SpellsParameters s ps → SpellsMapped second (SpellsBoth (SpellsSign (codes "(")) (SpellsListing (codes ")") SpellsTyped)) s ps
    from s ps (parameters a b l) = changed (one_and_other (the_sign a) (closed_list b l))

-- ---- bodies, given expressions

pub data SpellsBody (d : Dialect) : List Symbol → Expr → Type 0 where
  a_body : {s : List Symbol} {e : Expr} (a b f g : ℕ) → SpellsExpr d s e
      → SpellsBody d (sign (codes "{") a ∷ word (codes "return") b ∷ (s ++ sign (codes ";") f ∷ sign (codes "}") g ∷ [])) e

some_expr : (d : Dialect) → SpellsExpr d (word (codes "null") 0 ∷ []) (null_at 0)
some_expr d = exprs.one_unary (exprs.one_postfix (exprs.one_primary (exprs.null_word 0)))

module _ (d : Dialect) (expr : List Symbol → Outcome Expr) (is : IsReader (SpellsExpr d) (IsSign (codes ";")) expr) where
  body_reads : IsReader (SpellsBody d) Anything (body_reading expr)
  body_reads =
      same_reads (record { to = to; from = from })
      (mapped_reads body_from
      (both_reads (joins_any _ _ (one_and_other (the_word 0) (one_and_other (some_expr d) (one_and_other (the_sign 0) (the_sign 0))))) (sign_reads (codes "{"))
      (both_reads (joins_any _ _ (one_and_other (some_expr d) (one_and_other (the_sign 0) (the_sign 0)))) (word_reads (codes "return"))
      (both_reads ends is (both_reads (joins_any _ _ (the_sign 0)) (sign_reads (codes ";")) (sign_reads (codes "}")))))))
    where
      leads : (t rest : List Symbol) (v : ℕ × ℕ) → SpellsBoth (SpellsSign (codes ";")) (SpellsSign (codes "}")) t v → Anything (next rest) → IsSign (codes ";") (next (t ++ rest))
      leads t rest v (one_and_other (the_sign f) q) follows = refl

      ends : Joins (SpellsExpr d) (IsSign (codes ";")) (SpellsBoth (SpellsSign (codes ";")) (SpellsSign (codes "}"))) Anything
      ends = record { leads = leads; symbols = sign (codes ";") 0 ∷ sign (codes "}") 0 ∷ []; value = (0, 0); spelled = one_and_other (the_sign 0) (the_sign 0) }

      to : (s : List Symbol) (e : Expr)
          → SpellsMapped body_from
          (SpellsBoth (SpellsSign (codes "{")) (SpellsBoth (SpellsWord (codes "return")) (SpellsBoth (SpellsExpr d) (SpellsBoth (SpellsSign (codes ";")) (SpellsSign (codes "}")))))) s e
          → SpellsBody d s e
      to s e (changed (one_and_other (the_sign a) (one_and_other (the_word b) (one_and_other x (one_and_other (the_sign f) (the_sign g)))))) = a_body a b f g x

      from : (s : List Symbol) (e : Expr) → SpellsBody d s e
          → SpellsMapped body_from
          (SpellsBoth (SpellsSign (codes "{")) (SpellsBoth (SpellsWord (codes "return")) (SpellsBoth (SpellsExpr d) (SpellsBoth (SpellsSign (codes ";")) (SpellsSign (codes "}")))))) s e
      from s e (a_body a b f g x) = changed (one_and_other (the_sign a) (one_and_other (the_word b) (one_and_other x (one_and_other (the_sign f) (the_sign g)))))

  -- ---- methods

  pub some_body : SpellsBody d (sign (codes "{") 0 ∷ word (codes "return") 0 ∷ word (codes "null") 0 ∷ sign (codes ";") 0 ∷ sign (codes "}") 0 ∷ []) (null_at 0)
  some_body = a_body 0 0 0 0 (some_expr d)

  pub some_rest : SpellsBoth SpellsParameters (SpellsBody d)
      (sign (codes "(") 0 ∷ sign (codes ")") 0 ∷ sign (codes "{") 0 ∷ word (codes "return") 0 ∷ word (codes "null") 0 ∷ sign (codes ";") 0 ∷ sign (codes "}") 0 ∷ []) ([], null_at 0)
  some_rest = one_and_other (parameters 0 0 repeats.nothing) some_body

  rest_reads : IsReader (SpellsBoth SpellsParameters (SpellsBody d)) Anything (rest_reading expr)
  rest_reads = both_reads (joins_any _ _ some_body) parameters_reads body_reads

  pub whole_method : {s : List Symbol} {f : Field} {rest : List Symbol} {v : List Field × Expr} → SpellsTyped s f → SpellsBoth SpellsParameters (SpellsBody d) rest v
      → SpellsMethod d (s ++ rest) (method_of f v)
  whole_method {s = s} {f = f} p (one_and_other (parameters {s = listed} {ps = ps} a b l) (a_body {s = value} {e = e} c g h k x)) =
      let behind = sign (codes "{") c ∷ word (codes "return") g ∷ (value ++ sign (codes ";") h ∷ sign (codes "}") k ∷ []) in
      moved (SpellsMethod d) (method_of f (ps, e)) (ap (λ l. s ++ sign (codes "(") a ∷ l) (sym (append_assoc listed (sign (codes ")") b ∷ []) behind)))
      (classes.method a b c g h k p l x)

  method_parts : {s : List Symbol} {m : Method} → SpellsMethod d s m → SpellsMapped method_from (SpellsBoth SpellsTyped (SpellsBoth SpellsParameters (SpellsBody d))) s m
  method_parts (classes.method {head = s} {listed = listed} {value = value} {declared = f} {parameters = ps} {body = e} a b c g h k p l x) =
      let behind = sign (codes "{") c ∷ word (codes "return") g ∷ (value ++ sign (codes ";") h ∷ sign (codes "}") k ∷ []) in
      moved (SpellsMapped method_from (SpellsBoth SpellsTyped (SpellsBoth SpellsParameters (SpellsBody d)))) (method_of f (ps, e))
      (ap (λ l. s ++ sign (codes "(") a ∷ l) (append_assoc listed (sign (codes ")") b ∷ []) behind))
      (changed (one_and_other p (one_and_other (parameters a b l) (a_body c g h k x))))

  pub method_reads : IsReader (SpellsMethod d) Anything (method_reading expr)
  method_reads =
      same_reads (record { to = to; from = λ s m p. method_parts p }) (mapped_reads method_from (both_reads (joins_any _ _ some_rest) typed_reads rest_reads))
    where
      to : (s : List Symbol) (m : Method) → SpellsMapped method_from (SpellsBoth SpellsTyped (SpellsBoth SpellsParameters (SpellsBody d))) s m → SpellsMethod d s m
      to s m (changed (one_and_other p q)) = whole_method p q

  -- ---- members

  pub member_reads : IsReader (SpellsMember d) Anything (member_reading expr)
  member_reads =
      same_reads (record { to = to; from = from })
      (mapped_reads member_from
      (both_reads (joins_any _ _ (this_way (changed (the_sign 0)))) typed_reads
      (either_reads (record { of_one = of_one; of_other = of_other }) (mapped_reads no_rest (sign_reads (codes ";"))) (mapped_reads Some rest_reads))))
    where
      of_one : (s rest : List Symbol) (v : Option (List Field × Expr)) → SpellsMapped no_rest (SpellsSign (codes ";")) s v → passes (is_the_sign (codes ";")) (next (s ++ rest)) ≡ true
      of_one s rest v (changed (the_sign at)) = refl

      of_other : (s rest : List Symbol) (v : Option (List Field × Expr)) → SpellsMapped Some (SpellsBoth SpellsParameters (SpellsBody d)) s v → Anything (next rest)
          → passes (is_the_sign (codes ";")) (next (s ++ rest)) ≡ false
      of_other s rest v (changed (one_and_other (parameters a b l) q)) follows = refl

      to : (s : List Symbol) (m : Member)
          → SpellsMapped member_from (SpellsBoth SpellsTyped (SpellsEither (SpellsMapped no_rest (SpellsSign (codes ";"))) (SpellsMapped Some (SpellsBoth SpellsParameters (SpellsBody d))))) s m
          → SpellsMember d s m
      to s m (changed (one_and_other p (this_way (changed (the_sign at))))) = classes.field at p
      to s m (changed (one_and_other p (other_way (changed q)))) = classes.a_method (whole_method p q)

      of_method : {s : List Symbol} {m : Method} → SpellsMapped method_from (SpellsBoth SpellsTyped (SpellsBoth SpellsParameters (SpellsBody d))) s m
          → SpellsMapped member_from (SpellsBoth SpellsTyped (SpellsEither (SpellsMapped no_rest (SpellsSign (codes ";"))) (SpellsMapped Some (SpellsBoth SpellsParameters (SpellsBody d))))) s (classes.method_member m)
      of_method (changed (one_and_other p q)) = changed (one_and_other p (other_way (changed q)))

      from : (s : List Symbol) (m : Member) → SpellsMember d s m
          → SpellsMapped member_from (SpellsBoth SpellsTyped (SpellsEither (SpellsMapped no_rest (SpellsSign (codes ";"))) (SpellsMapped Some (SpellsBoth SpellsParameters (SpellsBody d))))) s m
      from s m (classes.field at p) = changed (one_and_other p (this_way (changed (the_sign at))))
      from s m (classes.a_method p) = of_method (method_parts p)

  typed_opens : {s : List Symbol} {f : Field} → SpellsTyped s f → (t : List Symbol) → (first : Symbol) × ((rest : List Symbol) × (s ++ t ≡ first ∷ rest) × (is_the_sign (codes "}") first ≡ false))
  typed_opens (classes.typed k x i j) t = (named k, (named x ∷ t, refl, refl))

  pub member_opens : BeginsOpen (SpellsMember d)
  member_opens s m (classes.field at p) = typed_opens p (sign (codes ";") at ∷ [])
  member_opens s m (classes.a_method (classes.method a b c g h k p l x)) = typed_opens p _

  -- ---- classes

  pub class_reads : IsReader (SpellsClass d) Anything (class_reading expr)
  class_reads =
      same_reads (record { to = to; from = from })
      (mapped_reads class_from
      (both_reads (joins_any _ _ (one_and_other (the_name some_name some_name_is) (some_head (SpellsMember d) (codes "extends")))) (word_reads (codes "class"))
      (both_reads (joins_any _ _ (some_head (SpellsMember d) (codes "extends"))) name_reads (head_reads (codes "extends") member_opens member_reads))))
    where
      to : (s : List Symbol) (c : Class) → SpellsMapped class_from (SpellsBoth (SpellsWord (codes "class")) (SpellsBoth SpellsName (SpellsHead (codes "extends") (SpellsMember d)))) s c → SpellsClass d s c
      to s c (changed (one_and_other (the_word at) (one_and_other (the_name x i) (head a b o many)))) = classes.class at a b x i o many

      from : (s : List Symbol) (c : Class) → SpellsClass d s c → SpellsMapped class_from (SpellsBoth (SpellsWord (codes "class")) (SpellsBoth SpellsName (SpellsHead (codes "extends") (SpellsMember d)))) s c
      from s c (classes.class at a b x i o many) = changed (one_and_other (the_word at) (one_and_other (the_name x i) (head a b o many)))

  pub class_opens : BeginsOpen (SpellsClass d)
  class_opens s c (classes.class at a b x i o many) = (word (codes "class") at, (_, refl, refl))
