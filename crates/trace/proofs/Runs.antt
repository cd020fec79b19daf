-- A block judged by one walk along its unused bytes.
-- Assumes nothing.
use mathlib.Core.Path.{◌≡◌, refl, sym, ap, ◌∙◌}
use mathlib.Core.Bool.{Bool, true, false, ◌&&◌, ◌||◌}
use mathlib.Core.List.{List, [], ◌∷◌}
use Prim.Native.Nat.{ℕ, zero, suc, ◌+◌, ◌-◌, ◌≤◌, ◌<◌}
use native.Mathlib.Nat.{not-suc-le-zero}
use native.Mathlib.Omega.{arith}
use lib.Dec.{eqb}
use lib.ListN.{length, drop}
use lib.Seq.{get_or-drop}
use borrow.Author.Tests.{eqb-true}
use Rattle.base.proofs.Search.{both}
use Rattle.base.proofs.Zeros.{all_blank}
use Rattle.trace.specs.declared.place.Place.{Place}
use Rattle.trace.specs.Bytes.{byte, zeros}
use Rattle.trace.specs.Blocks.{end_of_body}
use Rattle.trace.specs.Check.{check_holds}
use Rattle.trace.specs.Place.{good_place}
use Rattle.trace.specs.Rules.{has_wrong_kind, has_wrong_number, has_wrong_count, has_wrong_unused, has_wrong_order, has_wrong_total, form_wrong, field_wrong}
use Rattle.trace.specs.Judged.{judged_by_field, judged}
use Rattle.trace.proofs.Order.{judged_read}

-- ---- the unused bytes

-- the first n bytes are zero
abbrev pub blank : ℕ → List ℕ → Bool
blank zero l = true
blank (suc n) [] = true
blank (suc n) (a ∷ l) = eqb a 0 && blank n l

blank_byte : (n : ℕ) (l : List ℕ) → blank n l ≡ true → (i : ℕ) → i < n → byte l i ≡ 0
blank_byte zero l e i h = absurd (not-suc-le-zero h)
blank_byte (suc n) [] e i h = refl
blank_byte (suc n) (a ∷ l) e zero h = eqb-true a 0 (both (eqb a 0) (blank n l) e).0
blank_byte (suc n) (a ∷ l) e (suc i) h = blank_byte n l (both (eqb a 0) (blank n l) e).1 i (omega arith)

blank_zeros : (l : List ℕ) (from n to : ℕ) → from + n ≡ to → blank n (drop from l) ≡ true → zeros l from to ≡ true
unfolding zeros
blank_zeros l from n to t e =
    all_blank from to l
    (λ i h g. let d : from + (i - from) ≡ i = omega arith in ap (byte l) (sym d) ∙ sym (get_or-drop from l (i - from) 0)
    ∙ blank_byte n (drop from l) e (i - from) (omega arith))

-- ---- a block before the end block whose check holds, and whose clauses do

clauses_right : (p : Place) (c : ℕ) (l : List ℕ) → zeros l 6 8 ≡ true → zeros l (end_of_body l) 510 ≡ true
    → (has_wrong_kind l || (has_wrong_number p l || (has_wrong_count l || (has_wrong_order p l || has_wrong_total c l)))) ≡ false → form_wrong p c l ≡ false
unfolding form_wrong has_wrong_unused
clauses_right p c l u v f = rw (u, v) f

pub judged_run : (p : Place) (c : ℕ) (l : List ℕ) (n : ℕ) → good_place p c ≡ true → p.ended ≡ false → 512 ≤ length l → check_holds l ≡ true
    → blank 2 (drop 6 l) ≡ true → end_of_body l + n ≡ 510 → blank n (drop (end_of_body l) l) ≡ true
    → (has_wrong_kind l || (has_wrong_number p l || (has_wrong_count l || (has_wrong_order p l || has_wrong_total c l)))) ≡ false
    → judged p c l ≡ judged_by_field (field_wrong p l) p l
judged_run p c l n g e h k u b v f =
    judged_read p c l g e h k (clauses_right p c l (blank_zeros l 6 2 8 refl u) (blank_zeros l (end_of_body l) n 510 b v) f)
