-- Which numbers of a list are zero: the `|` of those passed is 0 just when each of them is.
-- Assumes nothing.
use mathlib.Core.Path.{◌≡◌, refl, sym, ap, ap₂, ◌∙◌}
use mathlib.Core.Bool.{Bool, true, ◌&&◌, and-true, and_assoc}
use mathlib.Core.List.{List, [], ◌∷◌}
use Prim.Native.Nat.{ℕ, zero, suc, ◌+◌, ◌-◌, ◌≤◌, ◌<◌}
use native.Mathlib.Omega.{arith}
use lib.Bits.{bit_or}
use lib.Dec.{eqb}
use lib.ListN.{length, get_or, take, drop}
use lib.Seq.{take-length}
use Rattle.std.specs.List.{list_all}
use Rattle.std.proofs.lemmas.List.{get_or-drop, length-drop}
use borrow.Author.Tests.{eqb-true, eq-eqb}
use Rattle.base.specs.Search.{every}
use Rattle.base.proofs.Bits.{or_zero}
use Rattle.base.proofs.Search.{every_at, all_every, every_ext}

-- k places after `from` there is a zero
abbrev pub zero_after : ℕ → List ℕ → ℕ → Bool
zero_after from l k = eqb (get_or l (from + k) 0) 0

-- the numbers from `from` on, and before `to`, are zero
abbrev pub blank : ℕ → ℕ → List ℕ → Bool
blank from to l = every (to - from) (zero_after from l)

-- nothing is passed yet
pub blank_none : (from : ℕ) (l : List ℕ) → true ≡ blank from from l
unfolding every
blank_none from l = let none : from - from ≡ 0 = omega arith in ap (λ (n : ℕ). every n (zero_after from l)) (sym none)

-- one number more
pub blank_more : (from i any : ℕ) (l : List ℕ) → from ≤ i → eqb any 0 ≡ blank from i l
    → eqb (bit_or any (get_or l i 0)) 0 ≡ blank from (i + 1) l
unfolding every
blank_more from i any l h e =
    let there : i ≡ from + (i - from) = omega arith in
    let more : suc (i - from) ≡ i + 1 - from = omega arith in
    or_zero any (get_or l i 0) ∙ ap₂ ◌&&◌ e (ap (λ (k : ℕ). eqb (get_or l k 0) 0) there)
    ∙ ap (λ (n : ℕ). every n (zero_after from l)) more

-- each of them is zero
pub blank_at : (from to : ℕ) (l : List ℕ) → blank from to l ≡ true → (i : ℕ) → from ≤ i → i < to → get_or l i 0 ≡ 0
blank_at from to l e i h g =
    let there : i ≡ from + (i - from) = omega arith in
    ap (λ (k : ℕ). get_or l k 0) there
    ∙ eqb-true (get_or l (from + (i - from)) 0) 0 (every_at (to - from) (zero_after from l) e (i - from) (omega arith))

pub all_blank : (from to : ℕ) (l : List ℕ) → ((i : ℕ) → from ≤ i → i < to → get_or l i 0 ≡ 0) → blank from to l ≡ true
all_blank from to l all =
    all_every (to - from) (zero_after from l) (λ k g. eq-eqb (get_or l (from + k) 0) 0 (all (from + k) (omega arith) (omega arith)))

-- an iterator's `all` over a list is every place's test
first_every : (n : ℕ) (test : ℕ → Bool) → every (suc n) test ≡ (test 0 && every n (λ k. test (suc k)))
unfolding every
first_every zero test = sym (and-true (test 0))
first_every (suc n) test =
    ap (λ (b : Bool). b && test (suc n)) (first_every n test) ∙ and_assoc (test 0) (every n (λ k. test (suc k))) (test (suc n))

pub list_all_every : {A : Type 0} (test : A → Bool) (l : List A) (d : A) → list_all test l ≡ every (length l) (λ k. test (get_or l k d))
unfolding every
list_all_every test [] d = refl
list_all_every test (x ∷ l) d =
    ap (λ (b : Bool). test x && b) (list_all_every test l d) ∙ sym (first_every (length l) (λ k. test (get_or (x ∷ l) k d)))

-- and over the zeros from a place on
pub all_after : (from : ℕ) (l : List ℕ) → list_all (λ x. eqb x 0) (drop from l) ≡ blank from (length l) l
all_after from l =
    list_all_every (λ x. eqb x 0) (drop from l) 0
    ∙ ap (λ (n : ℕ). every n (λ k. eqb (get_or (drop from l) k 0) 0)) (length-drop from l)
    ∙ every_ext (length l - from) _ _ (λ k h. ap (λ (x : ℕ). eqb x 0) (get_or-drop from l k 0))

-- the same as `&l[from..]` has it
pub all_in_rest : (from : ℕ) (l : List ℕ) → list_all (λ x. eqb x 0) (take (length l - from) (drop from l)) ≡ blank from (length l) l
all_in_rest from l =
    ap (λ (n : ℕ). list_all (λ x. eqb x 0) (take n (drop from l))) (sym (length-drop from l))
    ∙ ap (list_all (λ x. eqb x 0)) (take-length (drop from l)) ∙ all_after from l
