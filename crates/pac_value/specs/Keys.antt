-- The order of keys.
use Rattle.std.specs.Prelude.{◌≡◌, refl, ℕ, List, [], ◌∷◌, IsTrue}
use Rattle.std.specs.declared.cmp.Ordering.{Ordering}
use Rattle.std.specs.declared.cmp.Ordering.TheVariants.{Less, Equal, Greater}
use Rattle.std.specs.Ordering.{nat_cmp, int_cmp, is_eq, ordering_reverse}
use Rattle.std.specs.Cmp.{IsTotalOrder, int_cmp_total, signed_Decides}
use Rattle.std.specs.Cmp.Lexicographic.{slice_cmp, nat_list_cmp_total, texts_ties, bytes_decides}
use Rattle.std.specs.Hash as fed
use Rattle.std.specs.FinMap.{IsAntisymmetric, int_cmp-IsAntisymmetric, nat_cmp-IsAntisymmetric, slice_cmp-IsAntisymmetric}
use Rattle.std.proofs.Common.{ap}
use Rattle.pac_value.specs.declared.values.Key.{Key}
use Rattle.pac_value.specs.declared.values.Key.TheVariants.{Int, Text}
use Rattle.pac_value.specs.contracts.values.KeyPartialEq.TheImpl.{ghosts}

-- ints by value and before texts, texts by their bytes with a proper prefix first
abbrev pub key_cmp : Key → Key → Ordering
key_cmp (Int a) (Int b) = int_cmp a b
key_cmp (Int a) (Text b) = Less
key_cmp (Text a) (Int b) = Greater
key_cmp (Text a) (Text b) = slice_cmp nat_cmp a b

antisymm : (x y : Key) → key_cmp x y ≡ ordering_reverse (key_cmp y x)
antisymm (Int a) (Int b) = int_cmp_total.antisymm a b
antisymm (Int a) (Text b) = refl
antisymm (Text a) (Int b) = refl
antisymm (Text a) (Text b) = nat_list_cmp_total.antisymm a b

trans : (x y z : Key) → key_cmp x y ≡ Less → key_cmp y z ≡ Less → key_cmp x z ≡ Less
trans (Int a) (Int b) (Int c) p q = int_cmp_total.trans a b c p q
trans (Int a) (Int b) (Text c) p q = refl
trans (Int a) (Text b) (Int c) p q = cc
trans (Int a) (Text b) (Text c) p q = refl
trans (Text a) (Int b) (Int c) p q = cc
trans (Text a) (Int b) (Text c) p q = cc
trans (Text a) (Text b) (Int c) p q = cc
trans (Text a) (Text b) (Text c) p q = nat_list_cmp_total.trans a b c p q

congr : (x y z : Key) → key_cmp x y ≡ Equal → key_cmp x z ≡ key_cmp y z
congr (Int a) (Int b) (Int c) p = int_cmp_total.congr a b c p
congr (Int a) (Int b) (Text c) p = refl
congr (Int a) (Text b) z p = cc
congr (Text a) (Int b) z p = cc
congr (Text a) (Text b) (Int c) p = refl
congr (Text a) (Text b) (Text c) p = nat_list_cmp_total.congr a b c p

-- the order is total
pub keys_total : IsTotalOrder key_cmp
keys_total = record { antisymm = antisymm; trans = trans; congr = congr }

-- keys that tie are equal
pub keys_antisymmetric : IsAntisymmetric key_cmp
keys_antisymmetric (Int a) (Int b) h = ap Int (int_cmp-IsAntisymmetric a b h)
keys_antisymmetric (Int a) (Text b) h = cc
keys_antisymmetric (Text a) (Int b) h = cc
keys_antisymmetric (Text a) (Text b) h = ap Text (slice_cmp-IsAntisymmetric nat_cmp-IsAntisymmetric a b h)

-- keys are `==` exactly where they tie
pub key_ties : (a b : Key) → (ghosts).eq a b ≡ is_eq (key_cmp a b)
key_ties (Int a) (Int b) = refl
key_ties (Int a) (Text b) = refl
key_ties (Text a) (Int b) = refl
key_ties (Text a) (Text b) = texts_ties a b

-- what a key is hashed by: its value alone, since the keys of a table have one type
abbrev pub key_fed : Key → List (List ℕ)
key_fed (Int number) = fed.i64 number
key_fed (Text bytes) = bytes ∷ []

-- keys that are `==` are hashed by the same
pub key_feeds : (a b : Key) → IsTrue ((ghosts).eq a b) → key_fed a ≡ key_fed b
key_feeds (Int a) (Int b) same = ap fed.i64 ((signed_Decides a b).0 same)
key_feeds (Int a) (Text b) same = cc
key_feeds (Text a) (Int b) same = cc
key_feeds (Text a) (Text b) same = ap (λ bytes. bytes ∷ []) ((bytes_decides a b).0 same)
