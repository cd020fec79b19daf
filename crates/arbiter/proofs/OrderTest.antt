-- What the test by ranks answers is what the definition asks: a rank without its link, or a number that is never named, is no total order.
-- Assumes nothing.
use mathlib.Core.Path.{◌≡◌, refl, sym, ap, ap₂, subst, ◌∙◌}
use mathlib.Core.Bool.{Bool, true, false, ◌&&◌}
use mathlib.Core.List.{List}
use Prim.Native.Nat.{ℕ, ◌+◌, ◌-◌, ◌^◌, ◌≤◌, ◌<◌, zero-le}
use native.Mathlib.Numerals.{add-one}
use native.Mathlib.Omega.{arith}
use lib.Arith.{lt_of_le-ne}
use lib.Bits.{bit_and, bit_or}
use lib.Dec.{eqb, ltb}
use lib.ListN.{get_or}
use lib.Pow.{ones_lt}
use borrow.Author.Tests.{eqb-true, eqb-false, ltb-true, lt-ltb}
use Rattle.base.specs.Bits.{bit, with_bit}
use Rattle.base.proofs.Bits.{bit_ext, bit_all, and_clear, clear_and, or_with}
use Rattle.base.proofs.Search.{both, every_at, all_every}
use Rattle.arbiter.specs.Matrix.{total_order, within}
use Rattle.arbiter.proofs.Ranks.{rank_of}
use Rattle.arbiter.proofs.RankTest.{Link, ranks_below, ranks_lt, links_order, links_within, order_links, order_full}
use Rattle.arbiter.proofs.TotalOrder.{order_of, order_holds}

pub within_at : (n : ℕ) (rows : List ℕ) → within n rows ≡ true → (i : ℕ) → i < n → get_or rows i 0 < 2 ^ n
unfolding within
within_at n rows e i h = ltb-true (get_or rows i 0) (2 ^ n) (every_at n (λ (i : ℕ). ltb (get_or rows i 0) (2 ^ n)) e i h)

pub all_within : (n : ℕ) (rows : List ℕ) → ((i : ℕ) → i < n → get_or rows i 0 < 2 ^ n) → within n rows ≡ true
unfolding within
all_within n rows all = all_every n (λ (i : ℕ). ltb (get_or rows i 0) (2 ^ n)) (λ i h. lt-ltb (get_or rows i 0) (2 ^ n) (all i h))

-- the table as a function of the rank
abbrev pub entry : List ℕ → ℕ → ℕ
entry at k = get_or at k 0

-- the ranks before `rank` have been passed, and `word` names their requesters
pub record Passed (n : ℕ) (rows : List ℕ) (at : ℕ → ℕ) (word rank : ℕ) : Type 0 where
  pub low : rank ≤ n
  pub named : word ≡ ranks_below at rank
  pub links : (k : ℕ) → k < rank → Link rows at k

pub passed_none : (n : ℕ) (rows : List ℕ) (at : ℕ → ℕ) → Passed n rows at 0 0
unfolding ranks_below
passed_none n rows at = record { low = zero-le; named = refl; links = λ k h. absurd (omega arith) }

-- the tests of one turn say that the rank has its link
pub link_here : (n : ℕ) (rows : List ℕ) (at : ℕ → ℕ) (word rank : ℕ) → Passed n rows at word rank → get_or rows (at rank) 0 ≡ word
    → bit_and word (2 ^ at rank) ≡ 0 → Link rows at rank
link_here n rows at word rank p e f =
    record { row = e ∙ p.named; new = ap (λ (x : ℕ). bit x (at rank)) (sym p.named) ∙ clear_and word (at rank) f }

-- and a rank that has its link passes them
pub here_link : (n : ℕ) (rows : List ℕ) (at : ℕ → ℕ) (word rank : ℕ) → Passed n rows at word rank → Link rows at rank
    → (get_or rows (at rank) 0 ≡ word) × (bit_and word (2 ^ at rank) ≡ 0)
here_link n rows at word rank p l =
    (l.row ∙ sym p.named, and_clear word (at rank) (ap (λ (x : ℕ). bit x (at rank)) p.named ∙ l.new))

pub passed_more : (n : ℕ) (rows : List ℕ) (at : ℕ → ℕ) (word rank : ℕ) → rank < n → Passed n rows at word rank → Link rows at rank
    → Passed n rows at (bit_or word (2 ^ at rank)) (rank + 1)
unfolding ranks_below
passed_more n rows at word rank h p l =
    record {
      low = omega arith;
      named = or_with word (at rank) ∙ ap (with_bit (at rank)) p.named ∙ ap (ranks_below at) (sym (add-one rank));
      links = λ k g. at_rank k g (eqb k rank) refl;
    }
  where
    at_rank : (k : ℕ) → k < rank + 1 → (b : Bool) → eqb k rank ≡ b → Link rows at k
    at_rank k g true e = subst (Link rows at) (sym (eqb-true k rank e)) l
    at_rank k g false e = p.links k (lt_of_le-ne (omega arith) (eqb-false k rank e))

module _ (n : ℕ) (rows : List ℕ) (at : ℕ → ℕ) (inside : (k : ℕ) → at k < n)
    (ranked : (i : ℕ) → i < n → rank_of rows (at (rank_of rows i)) ≡ rank_of rows i) where
  abbrev asked : Bool
  asked = total_order n rows && within n rows

  -- a rank without its link
  pub test_fails : (k : ℕ) → k < n → (Link rows at k → ⊥) → false ≡ asked
  test_fails k h broken = sym (go asked refl)
    where
      go : (b : Bool) → asked ≡ b → b ≡ false
      go true e =
          let p = both (total_order n rows) (within n rows) e in
          absurd (broken (order_links n rows at (order_of n rows p.0) (within_at n rows p.1) inside ranked k h))
      go false e = refl

  -- a link at every rank: whether all n are named decides
  pub test_ends : ((k : ℕ) → k < n → Link rows at k) → eqb (ranks_below at n) (2 ^ n - 1) ≡ asked
  test_ends links = go (eqb (ranks_below at n) (2 ^ n - 1)) refl
    where
      named : asked ≡ true → ranks_below at n ≡ 2 ^ n - 1
      named e =
          let p = both (total_order n rows) (within n rows) e in
          bit_ext n (ranks_below at n) (2 ^ n - 1) (ranks_lt n at inside n) (ones_lt n)
          (λ i h. order_full n rows at (order_of n rows p.0) (within_at n rows p.1) inside ranked i h ∙ sym (bit_all n i h))

      go : (b : Bool) → eqb (ranks_below at n) (2 ^ n - 1) ≡ b → b ≡ asked
      go true e =
          let full : (i : ℕ) → i < n → bit (ranks_below at n) i ≡ true =
          λ i h. ap (λ (x : ℕ). bit x i) (eqb-true (ranks_below at n) (2 ^ n - 1) e) ∙ bit_all n i h in
          sym
          (ap₂ ◌&&◌ (order_holds n rows (links_order n rows at inside links full))
          (all_within n rows (links_within n rows at inside links full)))
      go false e = sym (unnamed asked refl)
        where
          unnamed : (b : Bool) → asked ≡ b → b ≡ false
          unnamed true f = absurd (eqb-false (ranks_below at n) (2 ^ n - 1) e (named f))
          unnamed false f = refl

  -- the end of the loop
  pub test_passed : (word rank : ℕ) → n ≤ rank → Passed n rows at word rank → eqb word (2 ^ n - 1) ≡ asked
  test_passed word rank g p =
      let end : rank ≡ n = let l = p.low in omega arith in
      ap (λ (x : ℕ). eqb x (2 ^ n - 1)) (p.named ∙ ap (ranks_below at) end) ∙ test_ends (λ k h. p.links k (omega arith))
