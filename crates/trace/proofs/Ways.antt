-- An accepted block leads from a good place to a good place, so that 2 never comes on a file's way.
-- Assumes nothing.
use mathlib.Core.Path.{◌≡◌, refl, sym, ap, subst, ◌∙◌}
use mathlib.Core.Bool.{Bool, true, false, cond, not, true≢false}
use mathlib.Core.List.{List}
use Prim.Native.Nat.{ℕ, ◌+◌, ◌≤◌, ◌<◌}
use native.Mathlib.Omega.{arith}
use lib.Arith.{lt_of_le-ne}
use lib.Dec.{eqb}
use borrow.Author.Tests.{eqb-true, eqb-false, eq-eqb, ne_eqb}
use Rattle.base.specs.Numbers as numbers
use Rattle.base.specs.Refusal.{number_of}
use Rattle.base.specs.Sizes.{cycle_limit}
use Rattle.trace.specs.declared.place.Place.{Place}
use Rattle.trace.specs.Bytes.{AreBytes}
use Rattle.trace.specs.Blocks.{kind_of, held_of, config_of, block_numbers}
use Rattle.trace.specs.Place.{start, without_cycles, cycle_blocks, good_place}
use Rattle.trace.specs.Rules.{place_unsound, bytes_follow, block_wrong, form_wrong}
use Rattle.trace.specs.declared.judging.Answer.{Answer}
use Rattle.trace.specs.declared.judging.Found.TheVariants as found
use Rattle.trace.specs.Judged.{accepted, next_place, read_of, taken, judged}
use Rattle.trace.specs.Way.{cycles_in, Brought, Way, begins, goes_on}
use Rattle.trace.proofs.Exactness.{two_exactly, accepted_exactly, accepted_taken}
use Rattle.trace.proofs.Formed.{Formed, formed_is}
use Rattle.trace.proofs.Places.{Good, nothing, after, good_is, good_holds}
use Rattle.trace.proofs.Spelling.{four_lt}

pub start_good : good_place start 0 ≡ true
unfolding good_place
start_good = refl

-- where none are skipped each cycle block brought at least one accepted cycle
abbrev pub OneEach : Bool → Place → ℕ → Type 0
OneEach skips p c = skips ≡ false → cycle_blocks p ≤ c

-- where a way can be
pub record MayStand (skips : Bool) (p : Place) (c : ℕ) : Type 0 where
  pub good : good_place p c ≡ true
  pub each : OneEach skips p c

-- the outcome leads on, with as many of its cycles as were accepted
abbrev LeadsOn : Bool → ℕ → Answer → Type 0
LeadsOn skips c o = (brought : ℕ) → Brought skips (cycles_in o.found) brought → c + brought ≤ cycle_limit
    → MayStand skips o.place (c + brought)

-- before the end block the rule of 8 is the one on its form
pub form_right : (p : Place) (c : ℕ) (l : List ℕ) → p.ended ≡ false → block_wrong p c l ≡ false → form_wrong p c l ≡ false
unfolding block_wrong
form_right p c l e f = ap (λ (b : Bool). cond b (bytes_follow l) (form_wrong p c l)) (sym e) ∙ f

abbrev others_at : Bool → ℕ
others_at b = cond b 2 1

module _ (skips : Bool) (p : Place) (c : ℕ) (l : List ℕ) (bytes : AreBytes l) (e : p.ended ≡ false) (f : Formed p c l)
    (each : OneEach skips p c) where
  others : without_cycles p ≡ 1
  others = ap others_at e

  -- the block had a number, so that there is one more
  room : p.number + 1 ≤ block_numbers
  room = let n = f.number in omega (arith, four_lt l 2 bytes)

  after_configuration : kind_of l ≡ 1 → Good p c → LeadsOn skips c (accepted (found.Configuration (config_of l)) (next_place p l))
  after_configuration k (nothing a b n z) brought many limit =
      let most = many.most in
      let one : ◌≡◌ {A = ℕ} (cond (eqb (kind_of l) 3) 2 1) 1 = ap others_at (ne_eqb (kind_of l) 3 (λ q. absurd (omega arith))) in
      record {
        good = good_holds (next_place p l) (c + brought) (after 0 refl (omega arith) room (record { most = omega arith; limit = limit }));
        each = λ q. omega arith;
      }
  after_configuration k (after n a d m h) brought many limit = absurd (true≢false (sym a ∙ f.opens k))

  after_cycles : kind_of l ≡ 2 → Good p c → LeadsOn skips c (accepted (found.Cycles (held_of l)) (next_place p l))
  after_cycles k (nothing a b n z) brought many limit = absurd (true≢false (sym (f.follows (λ q. absurd (omega arith))) ∙ a))
  after_cycles k (after n a d m h) brought many limit =
      let held-most = h.most in
      let most = many.most in
      let from = f.held_from k in
      let to = f.held_to k in
      let one : ◌≡◌ {A = ℕ} (cond (eqb (kind_of l) 3) 2 1) 1 = ap others_at (ne_eqb (kind_of l) 3 (λ q. absurd (omega arith))) in
      record {
        good = good_holds (next_place p l) (c + brought)
            (after (n + 1) refl (omega (arith, others)) room (record { most = omega arith; limit = limit }));
        each = λ q. let least = each q in let all = many.all q in omega (arith, others);
      }

  after_end : kind_of l ≡ 3 → Good p c → LeadsOn skips c (accepted found.End (next_place p l))
  after_end k (nothing a b n z) brought many limit = absurd (true≢false (sym (f.follows (λ q. absurd (omega arith))) ∙ a))
  after_end k (after n a d m h) brought many limit =
      let held-most = h.most in
      let most = many.most in
      let two : ◌≡◌ {A = ℕ} (cond (eqb (kind_of l) 3) 2 1) 2 = ap others_at (eq-eqb (kind_of l) 3 k) in
      record {
        good = good_holds (next_place p l) (c + brought)
            (after n refl (omega (arith, others)) room (record { most = omega arith; limit = limit }));
        each = λ q. let least = each q in omega (arith, others);
      }

  after_block : Good p c → LeadsOn skips c (accepted (read_of l) (next_place p l))
  unfolding read_of
  after_block g = first (eqb (kind_of l) 1) refl
    where
      second : (kind_of l ≡ 1 → ⊥) → (b : Bool) → eqb (kind_of l) 2 ≡ b
          → LeadsOn skips c (accepted (cond b (found.Cycles (held_of l)) found.End) (next_place p l))
      second n true q = after_cycles (eqb-true (kind_of l) 2 q) g
      second n false q = after_end (last f.kind_from f.kind_to n (eqb-false (kind_of l) 2 q)) g
        where
          last : 1 ≤ kind_of l → kind_of l ≤ 3 → (kind_of l ≡ 1 → ⊥) → (kind_of l ≡ 2 → ⊥) → kind_of l ≡ 3
          last a b d h =
              let x : 1 < kind_of l = lt_of_le-ne a (λ q. d (sym q)) in
              let y : 2 < kind_of l = lt_of_le-ne x (λ q. h (sym q)) in
              omega arith

      first : (b : Bool) → eqb (kind_of l) 1 ≡ b
          → LeadsOn skips c (accepted
          (cond b (found.Configuration (config_of l)) (cond (eqb (kind_of l) 2) (found.Cycles (held_of l)) found.End)) (next_place p l))
      first true q = after_configuration (eqb-true (kind_of l) 1 q) g
      first false q = second (eqb-false (kind_of l) 1 q) (eqb (kind_of l) 2) refl

-- what is taken leads on
taken_leads_on : (skips : Bool) (p : Place) (c : ℕ) (l : List ℕ) → AreBytes l → MayStand skips p c → block_wrong p c l ≡ false
    → LeadsOn skips c (taken p l)
unfolding taken
taken_leads_on skips p c l bytes s f = go p.ended refl
  where
    go : (b : Bool) → p.ended ≡ b → LeadsOn skips c (cond b (accepted found.Done p) (accepted (read_of l) (next_place p l)))
    go true e = λ brought many limit.
        let most = many.most in
        subst (MayStand skips p) (omega arith) s
    go false e = after_block skips p c l bytes e (formed_is p c l (form_right p c l e f)) s.each (good_is p c s.good)

-- an accepted block leads from a good place to a good place, with those of its cycles added that were accepted
pub accepted_leads_on : (skips : Bool) (p : Place) (c : ℕ) (l : List ℕ) → AreBytes l → MayStand skips p c
    → number_of (judged p c l).found ≡ numbers.done → (brought : ℕ) → Brought skips (cycles_in (judged p c l).found) brought
    → c + brought ≤ cycle_limit → MayStand skips (judged p c l).place (c + brought)
accepted_leads_on skips p c l bytes s e =
    subst (LeadsOn skips c) (sym (accepted_taken p c l e)) (taken_leads_on skips p c l bytes s ((accepted_exactly p c l).0 e).0.formed)

-- every place on a file's way is good
pub way_stands : (skips : Bool) (p : Place) (c : ℕ) → Way skips p c → MayStand skips p c
way_stands skips _ _ begins = record { good = start_good; each = λ q. omega arith }
way_stands skips _ _ (goes_on p c l brought w b s k f n many limit) =
    taken_leads_on skips p c l b (way_stands skips p c w) f brought many limit

-- so that 2 never comes there
pub way_never_2 : (skips : Bool) (p : Place) (c : ℕ) (l : List ℕ) → Way skips p c → number_of (judged p c l).found ≡ numbers.not_sound → ⊥
unfolding place_unsound
way_never_2 skips p c l w e = true≢false (sym ((two_exactly p c l).0 e) ∙ ap not (way_stands skips p c w).good)

-- a block that the judge accepts goes on
pub way_judged : (skips : Bool) (p : Place) (c : ℕ) (l : List ℕ) → Way skips p c → AreBytes l
    → number_of (judged p c l).found ≡ numbers.done → (brought : ℕ) → Brought skips (cycles_in (judged p c l).found) brought
    → c + brought ≤ cycle_limit → Way skips (judged p c l).place (c + brought)
way_judged skips p c l w b e brought many limit =
    let r = (accepted_exactly p c l).0 e in
    let same = accepted_taken p c l e in
    subst (λ (o : Answer). Way skips o.place (c + brought)) (sym same)
    (goes_on p c l brought w b r.0.whole r.0.checked r.0.formed r.1
    (subst (λ (o : Answer). Brought skips (cycles_in o.found) brought) same many) limit)
