-- Laws of `every`, `any` and `first_from`, and that the trailing zeros of a word are the first of its bits.
-- Assumes nothing.
use mathlib.Core.Path.{◌≡◌, refl, sym, ap, subst, ◌∙◌}
use mathlib.Core.Logic.{◌⊎◌, inl, inr}
use mathlib.Core.Bool.{Bool, true, false, cond, beq, ◌&&◌, ◌||◌, true≢false, false≢true}
use Rattle.std.specs.Prelude.{Some, None}
use Rattle.std.proofs.lemmas.Option.{same_Some, none-some}
use Prim.Native.Nat.{ℕ, zero, suc, ◌+◌, ◌-◌, ◌/◌, ◌%◌, ◌^◌, ◌≤◌, ◌<◌}
use native.Mathlib.Nat.{le_refl, not-suc-le-zero, pow-suc}
use native.Mathlib.Omega.{arith}
use lib.Arith.{lt_of_le-ne}
use lib.Count.{count_trailing_zeros, under}
use lib.Dec.{eqb}
use borrow.Author.Tests.{eqb-true, eqb-false}
use Rattle.base.specs.Bits.{bit}
use Rattle.base.specs.Search.{first_from, every, any}
use Rattle.base.proofs.Bits.{digit, bit_first, bit_half}

-- both halves of an `&&`
pub both : (a b : Bool) → (a && b) ≡ true → (a ≡ true) × (b ≡ true)
both true b e = (refl, e)
both false b e = absurd (false≢true e)

-- neither half of an `||`
pub neither : (a b : Bool) → (a || b) ≡ false → (a ≡ false) × (b ≡ false)
neither true b e = absurd (true≢false e)
neither false b e = (refl, e)

-- two tests that agree
pub beq_same : (a b : Bool) → beq a b ≡ true → a ≡ b
beq_same true true e = refl
beq_same true false e = absurd (false≢true e)
beq_same false true e = absurd (false≢true e)
beq_same false false e = refl

-- a number that is not 0
pub some_number : (n : ℕ) → (n ≡ 0 → ⊥) → 0 < n
some_number zero e = absurd (e refl)
some_number (suc n) e = omega arith

pub one_less : (n : ℕ) → (n ≡ 0 → ⊥) → n - 1 + 1 ≡ n
one_less zero e = absurd (e refl)
one_less (suc n) e = omega arith

pub every_at : (n : ℕ) (test : ℕ → Bool) → every n test ≡ true → (i : ℕ) → i < n → test i ≡ true
unfolding every
every_at zero test e i h = absurd (not-suc-le-zero h)
every_at (suc n) test e i h = go (eqb i n) refl (both (every n test) (test n) e) (λ p. every_at n test p i)
  where
    go : (b : Bool) → eqb i n ≡ b → (every n test ≡ true) × (test n ≡ true) → (every n test ≡ true → i < n → test i ≡ true) → test i ≡ true
    go true q p rest = ap test (eqb-true i n q) ∙ p.1
    go false q p rest = rest p.0 (lt_of_le-ne (omega arith) (eqb-false i n q))

pub all_every : (n : ℕ) (test : ℕ → Bool) → ((i : ℕ) → i < n → test i ≡ true) → every n test ≡ true
unfolding every
all_every zero test f = refl
all_every (suc n) test f =
    ap (λ (b : Bool). b && test n) (all_every n test (λ i h. f i (omega arith))) ∙ f n (le_refl (suc n))

pub every_ext : (n : ℕ) (f g : ℕ → Bool) → ((i : ℕ) → i < n → f i ≡ g i) → every n f ≡ every n g
unfolding every
every_ext zero f g same = refl
every_ext (suc n) f g same =
    ap (λ (b : Bool). b && f n) (every_ext n f g (λ i h. same i (omega arith)))
    ∙ ap (λ (b : Bool). every n g && b) (same n (le_refl (suc n)))

-- a test that fails somewhere is not passed by all
pub not_every : (n : ℕ) (test : ℕ → Bool) (i : ℕ) → i < n → test i ≡ false → every n test ≡ false
not_every n test i h e = go (every n test) refl
  where
    go : (b : Bool) → every n test ≡ b → b ≡ false
    go true q = absurd (true≢false (sym (every_at n test q i h) ∙ e))
    go false q = refl

-- of two tests the second suffices
pub or_else : (a : Bool) {b : Bool} → b ≡ true → (a || b) ≡ true
or_else true e = refl
or_else false e = e

-- one that passes is enough
pub any_at : (n : ℕ) (test : ℕ → Bool) (i : ℕ) → i < n → test i ≡ true → any n test ≡ true
unfolding any
any_at zero test i h e = absurd (not-suc-le-zero h)
any_at (suc n) test i h e = go (eqb i n) refl (λ l. any_at n test i l e)
  where
    go : (b : Bool) → eqb i n ≡ b → (i < n → any n test ≡ true) → (any n test || test n) ≡ true
    go true q rest = or_else (any n test) (ap test (sym (eqb-true i n q)) ∙ e)
    go false q rest = ap (λ (b : Bool). b || test n) (rest (lt_of_le-ne (omega arith) (eqb-false i n q)))

pub any_none : (n : ℕ) (test : ℕ → Bool) → ((i : ℕ) → i < n → test i ≡ false) → any n test ≡ false
unfolding any
any_none zero test f = refl
any_none (suc n) test f = ap (λ (b : Bool). b || test n) (any_none n test (λ i h. f i (omega arith))) ∙ f n (le_refl (suc n))

-- what a search that found w says: w is in the range and passes, and nothing before it does
pub record First (test : ℕ → Bool) (k i w : ℕ) : Type 0 where
  pub from : i ≤ w
  pub below : w < i + k
  pub passes : test w ≡ true
  pub before : (j : ℕ) → i ≤ j → j < w → test j ≡ false

first_here : (test : ℕ → Bool) (k i : ℕ) → test i ≡ true → First test (suc k) i i
first_here test k i q = record { from = le_refl i; below = omega arith; passes = q; before = λ j h g. absurd (omega arith) }

first_later : (test : ℕ → Bool) (k i w : ℕ) → test i ≡ false → First test k (suc i) w → First test (suc k) i w
first_later test k i w q f =
    record {
      from = let h = f.from in omega arith;
      below = let h = f.below in omega arith;
      passes = f.passes;
      before = λ j h g. go j h g (eqb i j) refl;
    }
  where
    go : (j : ℕ) → i ≤ j → j < w → (b : Bool) → eqb i j ≡ b → test j ≡ false
    go j h g true e = ap test (sym (eqb-true i j e)) ∙ q
    go j h g false e = f.before j (lt_of_le-ne h (eqb-false i j e)) g

pub first_found : (test : ℕ → Bool) (k i w : ℕ) → first_from test k i ≡ Some w → First test k i w
unfolding first_from
first_found test zero i w e = absurd (none-some w e)
first_found test (suc k) i w e = go (test i) refl e (λ q. first_found test k (suc i) w q)
  where
    go : (b : Bool) → test i ≡ b → cond b (Some i) (first_from test k (suc i)) ≡ Some w
        → (first_from test k (suc i) ≡ Some w → First test k (suc i) w) → First test (suc k) i w
    go true q f rest = subst (First test (suc k) i) (same_Some i w f) (first_here test k i q)
    go false q f rest = first_later test k i w q (rest f)

pub first_at : (test : ℕ → Bool) (k i w : ℕ) → First test k i w → first_from test k i ≡ Some w
unfolding first_from
first_at test zero i w f = absurd (let p = f.from in let q = f.below in omega arith)
first_at test (suc k) i w f = go (test i) refl (first_at test k (suc i) w)
  where
    later : test i ≡ false → i < w
    later q = lt_of_le-ne f.from (λ e. true≢false (sym f.passes ∙ ap test (sym e) ∙ q))

    go : (b : Bool) → test i ≡ b → (First test k (suc i) w → first_from test k (suc i) ≡ Some w)
        → cond b (Some i) (first_from test k (suc i)) ≡ Some w
    go true q rest = ap Some (reached (eqb i w) refl)
      where
        reached : (b : Bool) → eqb i w ≡ b → i ≡ w
        reached true e = eqb-true i w e
        reached false e = absurd (true≢false (sym q ∙ f.before i (le_refl i) (lt_of_le-ne f.from (eqb-false i w e))))
    go false q rest =
        rest (record {
          from = later q;
          below = let p = f.below in omega arith;
          passes = f.passes;
          before = λ j h g. f.before j (omega arith) g;
        })

pub first_none : (test : ℕ → Bool) (k i : ℕ) → ((j : ℕ) → i ≤ j → j < i + k → test j ≡ false) → first_from test k i ≡ None
unfolding first_from
first_none test zero i f = refl
first_none test (suc k) i f =
    ap (λ (b : Bool). cond b (Some i) (first_from test k (suc i))) (f i (le_refl i) (omega arith))
    ∙ first_none test k (suc i) (λ j h g. f j (omega arith) (omega arith))

pub first_missing : (test : ℕ → Bool) (k i : ℕ) → first_from test k i ≡ None → (j : ℕ) → i ≤ j → j < i + k → test j ≡ false
unfolding first_from
first_missing test zero i e j h g = absurd (omega arith)
first_missing test (suc k) i e j h g = go (test i) refl e (λ q. first_missing test k (suc i) q j)
  where
    go : (b : Bool) → test i ≡ b → cond b (Some i) (first_from test k (suc i)) ≡ None
        → (first_from test k (suc i) ≡ None → suc i ≤ j → j < suc i + k → test j ≡ false) → test j ≡ false
    go true q f rest = absurd (none-some i (sym f))
    go false q f rest = at (eqb i j) refl
      where
        at : (b : Bool) → eqb i j ≡ b → test j ≡ false
        at true e = ap test (sym (eqb-true i j e)) ∙ q
        at false e = let l : i < j = lt_of_le-ne h (eqb-false i j e) in rest f l (omega arith)

pub first_ext : (f g : ℕ → Bool) (k i : ℕ) → ((j : ℕ) → i ≤ j → j < i + k → f j ≡ g j) → first_from f k i ≡ first_from g k i
unfolding first_from
first_ext f g zero i same = refl
first_ext f g (suc k) i same =
    ap (λ (b : Bool). cond b (Some i) (first_from f k (suc i))) (same i (le_refl i) (omega arith))
    ∙ ap (cond (g i) (Some i)) (first_ext f g k (suc i) (λ j h l. same j (omega arith) (omega arith)))

-- `trailing_zeros` of a word that is not 0: its first bit
pub trailing_first : (k x : ℕ) → x < 2 ^ k → 0 < x → First (bit x) k 0 (count_trailing_zeros k x)
unfolding count_trailing_zeros
trailing_first zero x h p = absurd (omega arith)
trailing_first (suc k) x h p = go (digit x) (trailing_first k (x / 2))
  where
    go : (x % 2 ≡ 0) ⊎ (x % 2 ≡ 1) → (x / 2 < 2 ^ k → 0 < x / 2 → First (bit (x / 2)) k 0 (count_trailing_zeros k (x / 2)))
        → First (bit x) (suc k) 0 (under (x % 2) (count_trailing_zeros k (x / 2)))
    go (inl e) rest =
        subst (λ (d : ℕ). First (bit x) (suc k) 0 (under d (count_trailing_zeros k (x / 2)))) (sym e)
        (shifted (count_trailing_zeros k (x / 2)) (rest (omega (arith, pow-suc 2 k)) (omega arith)))
      where
        shifted : (t : ℕ) → First (bit (x / 2)) k 0 t → First (bit x) (suc k) 0 (suc t)
        shifted t f =
            record {
              from = omega arith;
              below = let q = f.below in omega arith;
              passes = sym (bit_half x t) ∙ f.passes;
              before = below;
            }
          where
            below : (j : ℕ) → 0 ≤ j → j < suc t → bit x j ≡ false
            below zero l g = bit_first x ∙ ap (λ (d : ℕ). eqb d 1) e
            below (suc j) l g = sym (bit_half x j) ∙ f.before j (omega arith) (omega arith)
    go (inr e) rest =
        subst (λ (d : ℕ). First (bit x) (suc k) 0 (under d (count_trailing_zeros k (x / 2)))) (sym e)
        (first_here (bit x) k 0 (bit_first x ∙ ap (λ (d : ℕ). eqb d 1) e))
