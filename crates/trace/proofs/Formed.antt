-- A block that the rule of 8 lets through before the end block, byte by byte: exactly what the document says of each.
-- Assumes nothing.
use mathlib.Core.Path.{◌≡◌, refl, ap}
use mathlib.Core.Logic.{◌↔◌}
use mathlib.Core.Bool.{Bool, true, false, cond, not, ◌&&◌, ◌||◌}
use mathlib.Core.List.{List}
use Prim.Native.Nat.{ℕ, ◌≤◌, ◌<◌}
use lib.Dec.{eqb, leb}
use borrow.Author.Tests.{eqb-true, eqb-false, eq-eqb, ne_eqb, leb-true, le-leb, not-false}
use Rattle.base.proofs.Search.{both, neither}
use Rattle.base.proofs.Zeros.{blank_at, all_blank}
use Rattle.trace.specs.declared.place.Place.{Place}
use Rattle.trace.specs.Bytes.{byte, zeros}
use Rattle.trace.specs.Blocks.{kind_of, held_of, number_of, total_of, end_of_body}
use Rattle.trace.specs.Rules.{has_wrong_kind, has_wrong_number, has_wrong_count, has_wrong_unused, has_wrong_order, has_wrong_total, form_wrong}

pub record Formed (p : Place) (c : ℕ) (l : List ℕ) : Type 0 where
  pub kind_from : 1 ≤ kind_of l
  pub kind_to : kind_of l ≤ 3
  pub number : number_of l ≡ p.number
  pub held_from : kind_of l ≡ 2 → 1 ≤ held_of l
  pub held_to : kind_of l ≡ 2 → held_of l ≤ 7
  pub none_held : (kind_of l ≡ 2 → ⊥) → held_of l ≡ 0
  pub head_blank : (i : ℕ) → 6 ≤ i → i < 8 → byte l i ≡ 0
  pub rest_blank : (i : ℕ) → end_of_body l ≤ i → i < 510 → byte l i ≡ 0
  pub opens : kind_of l ≡ 1 → p.configured ≡ false
  pub follows : (kind_of l ≡ 1 → ⊥) → p.configured ≡ true
  pub total : kind_of l ≡ 3 → total_of l ≡ c

zeros_at : (l : List ℕ) (from to : ℕ) → zeros l from to ≡ true → (i : ℕ) → from ≤ i → i < to → byte l i ≡ 0
unfolding zeros
zeros_at l from to e = blank_at from to l e

all_zeros : (l : List ℕ) (from to : ℕ) → ((i : ℕ) → from ≤ i → i < to → byte l i ≡ 0) → zeros l from to ≡ true
unfolding zeros
all_zeros l from to all = all_blank from to l all

module _ (p : Place) (c : ℕ) (l : List ℕ) where
  -- the six clauses, each of which is not wrong
  record Six : Type 0 where
    kind : has_wrong_kind l ≡ false
    number : has_wrong_number p l ≡ false
    count : has_wrong_count l ≡ false
    unused : has_wrong_unused l ≡ false
    order : has_wrong_order p l ≡ false
    total : has_wrong_total c l ≡ false

  six : form_wrong p c l ≡ false → Six
  unfolding form_wrong
  six e =
      let a = neither (has_wrong_kind l) (has_wrong_number p l || (has_wrong_count l || (has_wrong_unused l || (has_wrong_order p l || has_wrong_total c l)))) e in
      let b = neither (has_wrong_number p l) (has_wrong_count l || (has_wrong_unused l || (has_wrong_order p l || has_wrong_total c l))) a.1 in
      let d = neither (has_wrong_count l) (has_wrong_unused l || (has_wrong_order p l || has_wrong_total c l)) b.1 in
      let f = neither (has_wrong_unused l) (has_wrong_order p l || has_wrong_total c l) d.1 in
      let g = neither (has_wrong_order p l) (has_wrong_total c l) f.1 in
      record { kind = a.0; number = b.0; count = d.0; unused = f.0; order = g.0; total = g.1 }

  kind_ok : has_wrong_kind l ≡ false → (leb 1 (kind_of l) ≡ true) × (leb (kind_of l) 3 ≡ true)
  unfolding has_wrong_kind
  kind_ok e = both (leb 1 (kind_of l)) (leb (kind_of l) 3) (not-false (leb 1 (kind_of l) && leb (kind_of l) 3) e)

  number_ok : has_wrong_number p l ≡ false → number_of l ≡ p.number
  unfolding has_wrong_number
  number_ok e = eqb-true (number_of l) p.number (not-false (eqb (number_of l) p.number) e)

  held_ok : has_wrong_count l ≡ false → kind_of l ≡ 2 → (leb 1 (held_of l) ≡ true) × (leb (held_of l) 7 ≡ true)
  unfolding has_wrong_count
  held_ok e k = both (leb 1 (held_of l)) (leb (held_of l) 7) (not-false (leb 1 (held_of l) && leb (held_of l) 7)
      (rw (eq-eqb (kind_of l) 2 k) at e))

  none_ok : has_wrong_count l ≡ false → (kind_of l ≡ 2 → ⊥) → held_of l ≡ 0
  unfolding has_wrong_count
  none_ok e k = eqb-true (held_of l) 0 (not-false (eqb (held_of l) 0) (rw (ne_eqb (kind_of l) 2 k) at e))

  unused_ok : has_wrong_unused l ≡ false → (zeros l 6 8 ≡ true) × (zeros l (end_of_body l) 510 ≡ true)
  unfolding has_wrong_unused
  unused_ok e = both (zeros l 6 8) (zeros l (end_of_body l) 510) (not-false (zeros l 6 8 && zeros l (end_of_body l) 510) e)

  opens_ok : has_wrong_order p l ≡ false → kind_of l ≡ 1 → p.configured ≡ false
  unfolding has_wrong_order
  opens_ok e k = rw (eq-eqb (kind_of l) 1 k) at e

  follows_ok : has_wrong_order p l ≡ false → (kind_of l ≡ 1 → ⊥) → p.configured ≡ true
  unfolding has_wrong_order
  follows_ok e k = not-false p.configured (rw (ne_eqb (kind_of l) 1 k) at e)

  total_ok : has_wrong_total c l ≡ false → kind_of l ≡ 3 → total_of l ≡ c
  unfolding has_wrong_total
  total_ok e k = eqb-true (total_of l) c (not-false (eqb (total_of l) c) (rw (eq-eqb (kind_of l) 3 k) at e))

  pub formed_is : form_wrong p c l ≡ false → Formed p c l
  formed_is e =
      let s = six e in
      let k = kind_ok s.kind in
      let z = unused_ok s.unused in
      record {
        kind_from = leb-true 1 (kind_of l) k.0;
        kind_to = leb-true (kind_of l) 3 k.1;
        number = number_ok s.number;
        held_from = λ q. leb-true 1 (held_of l) (held_ok s.count q).0;
        held_to = λ q. leb-true (held_of l) 7 (held_ok s.count q).1;
        none_held = none_ok s.count;
        head_blank = zeros_at l 6 8 z.0;
        rest_blank = zeros_at l (end_of_body l) 510 z.1;
        opens = opens_ok s.order;
        follows = follows_ok s.order;
        total = total_ok s.total;
      }

  kind_right : Formed p c l → has_wrong_kind l ≡ false
  unfolding has_wrong_kind
  kind_right f = rw (le-leb 1 (kind_of l) f.kind_from, le-leb (kind_of l) 3 f.kind_to)

  number_right : Formed p c l → has_wrong_number p l ≡ false
  unfolding has_wrong_number
  number_right f = rw (eq-eqb (number_of l) p.number f.number)

  count_right : Formed p c l → has_wrong_count l ≡ false
  unfolding has_wrong_count
  count_right f = go (eqb (kind_of l) 2) refl
    where
      go : (b : Bool) → eqb (kind_of l) 2 ≡ b → cond b (not (leb 1 (held_of l) && leb (held_of l) 7)) (not (eqb (held_of l) 0)) ≡ false
      go true e =
          let k = eqb-true (kind_of l) 2 e in
          rw (le-leb 1 (held_of l) (f.held_from k), le-leb (held_of l) 7 (f.held_to k))
      go false e = rw (eq-eqb (held_of l) 0 (f.none_held (eqb-false (kind_of l) 2 e)))

  unused_right : Formed p c l → has_wrong_unused l ≡ false
  unfolding has_wrong_unused
  unused_right f = rw (all_zeros l 6 8 f.head_blank, all_zeros l (end_of_body l) 510 f.rest_blank)

  order_right : Formed p c l → has_wrong_order p l ≡ false
  unfolding has_wrong_order
  order_right f = go (eqb (kind_of l) 1) refl
    where
      go : (b : Bool) → eqb (kind_of l) 1 ≡ b → cond b p.configured (not p.configured) ≡ false
      go true e = f.opens (eqb-true (kind_of l) 1 e)
      go false e = ap not (f.follows (eqb-false (kind_of l) 1 e))

  total_right : Formed p c l → has_wrong_total c l ≡ false
  unfolding has_wrong_total
  total_right f = go (eqb (kind_of l) 3) refl
    where
      go : (b : Bool) → eqb (kind_of l) 3 ≡ b → (b && not (eqb (total_of l) c)) ≡ false
      go true e = ap not (eq-eqb (total_of l) c (f.total (eqb-true (kind_of l) 3 e)))
      go false e = refl

  pub formed_holds : Formed p c l → form_wrong p c l ≡ false
  unfolding form_wrong
  formed_holds f = rw (kind_right f, number_right f, count_right f, unused_right f, order_right f, total_right f)

  -- before the end block 8's rule fails exactly for the blocks that are formed so
  pub formed_exactly : (form_wrong p c l ≡ false) ↔ Formed p c l
  formed_exactly = (formed_is, formed_holds)
