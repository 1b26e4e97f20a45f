-- What is written about keys, entry by entry, and when values of the keys agree with it.
use Rattle.std.specs.Prelude.{Bool, true, not, List, map}
use Rattle.std.specs.Bool.{beq}
use Rattle.std.specs.List.{list_any, list_all}

-- a key, or its negation
pub record Literal (K : Type 0) : Type 0 where
  pub key : K
  pub positive : Bool

abbrev pub negated : {K : Type 0} → Literal K → Literal K
negated l = record { key = l.key; positive = not l.positive }

-- one entry, over literals of some type: a key gets its number; a clause is stated; a key gets a gate, which is the AND or the
-- OR of literals, or the equality of two
pub data Entry (K L : Type 0) : Type 0 where
  numbered : K → Entry K L
  stated : List L → Entry K L
  all_of : K → List L → Entry K L
  any_of : K → List L → Entry K L
  equal_of : K → L → L → Entry K L

-- the entry over other literals
abbrev pub map_literals : {K L M : Type 0} → (L → M) → Entry K L → Entry K M
map_literals f (numbered k) = numbered k
map_literals f (stated ls) = stated (map f ls)
map_literals f (all_of k ls) = all_of k (map f ls)
map_literals f (any_of k ls) = any_of k (map f ls)
map_literals f (equal_of k a b) = equal_of k (f a) (f b)

-- values of keys and of literals agree with an entry: a stated clause has a true literal, and the key of a gate has the value
-- that the gate's literals give
abbrev pub agrees : {K L : Type 0} → (K → Bool) → (L → Bool) → Entry K L → Bool
agrees v value (numbered k) = true
agrees v value (stated ls) = list_any value ls
agrees v value (all_of k ls) = beq (v k) (list_all value ls)
agrees v value (any_of k ls) = beq (v k) (list_any value ls)
agrees v value (equal_of k a b) = beq (v k) (beq (value a) (value b))

-- the value of a literal, by the value of its key
abbrev pub value_of : {K : Type 0} → (K → Bool) → Literal K → Bool
value_of v l = beq (v l.key) l.positive

-- values of keys agree with each entry
abbrev pub agree : {K : Type 0} → (K → Bool) → List (Entry K (Literal K)) → Bool
agree v es = list_all (agrees v (value_of v)) es
