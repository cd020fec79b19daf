-- Blocks with the check that their other bytes ask for: there is one for each place before the end block.
-- Assumes nothing.
use mathlib.Core.Path.{◌≡◌, sym, ap, subst, ◌∙◌}
use mathlib.Core.Bool.{true}
use mathlib.Core.List.{List, [], ◌∷◌, ◌++◌}
use Prim.Native.Nat.{ℕ, zero, suc, ◌+◌, ◌*◌, ◌-◌, ◌/◌, ◌%◌, ◌≤◌, ◌<◌}
use native.Mathlib.Nat.{add-sub_of_le}
use native.Mathlib.Omega.{arith}
use lib.Dec.{ltb, lit<}
use lib.Pow.{are_bytes}
use lib.ListN.{length, replicate, length-append, length-replicate, get_or-replicate, get_or-append}
use lib.Seq.{get_or-append-add}
use borrow.Author.Tests.{eq-eqb, ltb-true}
use Rattle.base.proofs.Search.{both}
use Rattle.trace.specs.Bytes.{byte, AreBytes, big_endian}
use Rattle.trace.specs.Check.{weighed, check_value, check_holds}
use Rattle.trace.proofs.Sums.{sum_ext}

-- the bytes of `head`, zeros up to byte 509, and the check
abbrev unsealed : List ℕ → List ℕ
unsealed head = head ++ replicate (510 - length head) 0

unfoldable pub sealed : List ℕ → List ℕ
sealed head = unsealed head ++ (check_value (unsealed head) / 256 ∷ check_value (unsealed head) % 256 ∷ [])

module _ (head : List ℕ) (fits : length head ≤ 510) where
  long : length (unsealed head) ≡ 510
  long = length-append head (replicate (510 - length head) 0) ∙ ap (λ (n : ℕ). length head + n) (length-replicate (510 - length head) 0)
      ∙ add-sub_of_le fits

  pub length_sealed : length (sealed head) ≡ 512
  unfolding sealed
  length_sealed = length-append (unsealed head) (check_value (unsealed head) / 256 ∷ check_value (unsealed head) % 256 ∷ [])
      ∙ ap (λ (n : ℕ). n + 2) long

  before : (i : ℕ) → i < 510 → byte (sealed head) i ≡ byte (unsealed head) i
  unfolding sealed
  before i h = get_or-append (unsealed head) (check_value (unsealed head) / 256 ∷ check_value (unsealed head) % 256 ∷ []) 0 i
      (subst (λ (n : ℕ). i < n) (sym long) h)

  stored : (i : ℕ) → byte (sealed head) (510 + i) ≡ byte (check_value (unsealed head) / 256 ∷ check_value (unsealed head) % 256 ∷ []) i
  unfolding sealed
  stored i =
      ap (λ (n : ℕ). byte (sealed head) (n + i)) (sym long)
      ∙ get_or-append-add (unsealed head) (check_value (unsealed head) / 256 ∷ check_value (unsealed head) % 256 ∷ []) i 0

  sealed_check : check_value (sealed head) ≡ check_value (unsealed head)
  unfolding check_value
  sealed_check =
      ap (λ (s : ℕ). s % 65521)
      (sum_ext 510 (weighed (sealed head)) (weighed (unsealed head)) (λ i h. ap (λ (v : ℕ). (i + 1) * v) (before i h)))

  -- its check holds
  pub sealed_holds : check_holds (sealed head) ≡ true
  unfolding check_holds big_endian
  sealed_holds =
      let high : byte (sealed head) 510 ≡ check_value (unsealed head) / 256 = stored 0 in
      let low : byte (sealed head) 511 ≡ check_value (unsealed head) % 256 = stored 1 in
      eq-eqb (check_value (sealed head)) (big_endian (sealed head) 510 2) (sealed_check ∙ omega arith)

  -- its bytes are those of the head, and zero after them
  pub sealed_head : (i : ℕ) → i < length head → byte (sealed head) i ≡ byte head i
  sealed_head i h = before i (omega arith) ∙ get_or-append head (replicate (510 - length head) 0) 0 i h

  pub sealed_blank : (i : ℕ) → length head ≤ i → i < 510 → byte (sealed head) i ≡ 0
  sealed_blank i h g =
      before i g
      ∙ ap (byte (unsealed head)) (sym (add-sub_of_le h))
      ∙ get_or-append-add head (replicate (510 - length head) 0) (i - length head) 0
      ∙ get_or-replicate (510 - length head) (i - length head) 0 0 (omega arith)

-- ---- bytes

none_bytes : AreBytes []
none_bytes i = lit< tt

pub more_bytes : (a : ℕ) (l : List ℕ) → a < 256 → AreBytes l → AreBytes (a ∷ l)
more_bytes a l h t zero = h
more_bytes a l h t (suc i) = t i

join_bytes : (l r : List ℕ) → AreBytes l → AreBytes r → AreBytes (l ++ r)
join_bytes [] r h t = t
join_bytes (a ∷ l) r h t = more_bytes a (l ++ r) (h zero) (join_bytes l r (λ i. h (suc i)) t)

zero_bytes : (n : ℕ) → AreBytes (replicate n 0)
zero_bytes zero = none_bytes
zero_bytes (suc n) = more_bytes 0 (replicate n 0) (lit< tt) (zero_bytes n)

-- of numerals this is a computation
pub known_bytes : (l : List ℕ) → are_bytes l ≡ true → AreBytes l
known_bytes [] e = none_bytes
known_bytes (a ∷ l) e = let q = both (ltb a 256) (are_bytes l) e in more_bytes a l (ltb-true a 256 q.0) (known_bytes l q.1)

-- a sealed block is one of bytes
pub sealed_bytes : (head : List ℕ) → AreBytes head → AreBytes (sealed head)
unfolding sealed check_value
sealed_bytes head h =
    join_bytes (unsealed head) (check_value (unsealed head) / 256 ∷ check_value (unsealed head) % 256 ∷ [])
    (join_bytes head (replicate (510 - length head) 0) h (zero_bytes (510 - length head)))
    (more_bytes (check_value (unsealed head) / 256) (check_value (unsealed head) % 256 ∷ []) (omega arith)
    (more_bytes (check_value (unsealed head) % 256) [] (omega arith) none_bytes))

-- ---- a number of four bytes

-- n spelled big-endian, before the rest
unfoldable pub spelt : ℕ → List ℕ → List ℕ
spelt n rest = n / 256 / 256 / 256 ∷ n / 256 / 256 % 256 ∷ n / 256 % 256 ∷ n % 256 ∷ rest

pub spelt_bytes : (n : ℕ) (rest : List ℕ) → n < 4294967296 → AreBytes rest → AreBytes (spelt n rest)
unfolding spelt
spelt_bytes n rest h t =
    more_bytes (n / 256 / 256 / 256) (n / 256 / 256 % 256 ∷ n / 256 % 256 ∷ n % 256 ∷ rest) (omega arith)
    (more_bytes (n / 256 / 256 % 256) (n / 256 % 256 ∷ n % 256 ∷ rest) (omega arith)
    (more_bytes (n / 256 % 256) (n % 256 ∷ rest) (omega arith) (more_bytes (n % 256) rest (omega arith) t)))

pub spelt_number : (n : ℕ) → 256 * (256 * (256 * (256 * 0 + n / 256 / 256 / 256) + n / 256 / 256 % 256) + n / 256 % 256) + n % 256 ≡ n
spelt_number n = omega arith
