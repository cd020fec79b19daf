-- The table of ranks: where a requester beats so many, the table names one that beats as many.
-- Assumes nothing.
use mathlib.Core.Path.{◌≡◌, refl, sym, ap, subst, ◌∙◌}
use mathlib.Core.Bool.{Bool, true, false}
use mathlib.Core.List.{List}
use Prim.Native.Nat.{ℕ, ◌+◌, ◌≤◌, ◌<◌}
use native.Mathlib.Omega.{arith}
use lib.Arith.{lt_of_le-ne}
use lib.Count.{ones}
use lib.Dec.{eqb}
use lib.ListN.{length, get_or, set, replicate, length-set}
use lib.Seq.{get_or-set_same, get_or-set_other}
use borrow.Author.Tests.{eqb-true, eqb-false}
use Rattle.base.proofs.Lists.{get_d_zeros}

abbrev pub rank_of : List ℕ → ℕ → ℕ
rank_of rows i = ones (get_or rows i 0)

-- the table after the first i rows
pub record Ranked (n : ℕ) (rows at : List ℕ) (i : ℕ) : Type 0 where
  pub room : length at ≡ 33
  pub inside : (k : ℕ) → get_or at k 0 < n
  pub same : (k : ℕ) → k < i → rank_of rows (get_or at (rank_of rows k) 0) ≡ rank_of rows k

pub ranked_none : (n : ℕ) (rows : List ℕ) → 1 ≤ n → Ranked n rows (replicate 33 0) 0
ranked_none n rows h =
    record { room = refl; inside = λ k. subst (λ (x : ℕ). x < n) (sym (get_d_zeros 33 k)) h; same = λ k l. absurd (omega arith) }

-- one row more
pub ranked_more : (n : ℕ) (rows at : List ℕ) (i : ℕ) → n ≤ 32 → i < n → rank_of rows i < 33 → Ranked n rows at i
    → Ranked n rows (set at (rank_of rows i) i) (i + 1)
ranked_more n rows at i w h r t =
    record {
      room = length-set at (rank_of rows i) i ∙ t.room;
      inside = λ k. inside k (eqb k (rank_of rows i)) refl;
      same = λ k l. same k l (eqb (rank_of rows k) (rank_of rows i)) refl (eqb k i) refl;
    }
  where
    fits : rank_of rows i < length at
    fits = let e = t.room in omega arith

    here : get_or (set at (rank_of rows i) i) (rank_of rows i) 0 ≡ i
    here = get_or-set_same at (rank_of rows i) i 0 fits

    inside : (k : ℕ) (b : Bool) → eqb k (rank_of rows i) ≡ b → get_or (set at (rank_of rows i) i) k 0 < n
    inside k true e =
        subst (λ (x : ℕ). x < n) (sym (ap (λ (m : ℕ). get_or (set at (rank_of rows i) i) m 0) (eqb-true k (rank_of rows i) e) ∙ here)) h
    inside k false e =
        subst (λ (x : ℕ). x < n) (sym (get_or-set_other at (rank_of rows i) k i 0 (eqb-false k (rank_of rows i) e))) (t.inside k)

    same : (k : ℕ) → k < i + 1 → (b : Bool) → eqb (rank_of rows k) (rank_of rows i) ≡ b → (d : Bool) → eqb k i ≡ d
        → rank_of rows (get_or (set at (rank_of rows i) i) (rank_of rows k) 0) ≡ rank_of rows k
    same k l true e d f =
        let q : rank_of rows k ≡ rank_of rows i = eqb-true (rank_of rows k) (rank_of rows i) e in
        ap (rank_of rows) (ap (λ (m : ℕ). get_or (set at (rank_of rows i) i) m 0) q ∙ here) ∙ sym q
    same k l false e true f = absurd (eqb-false (rank_of rows k) (rank_of rows i) e (ap (rank_of rows) (eqb-true k i f)))
    same k l false e false f =
        ap (rank_of rows) (get_or-set_other at (rank_of rows i) (rank_of rows k) i 0 (eqb-false (rank_of rows k) (rank_of rows i) e))
        ∙ t.same k (lt_of_le-ne (omega arith) (eqb-false k i f))
