-- "Of a lent block longer than 512 bytes the first 512 count." (01, blocks)
-- Assumes nothing.
use mathlib.Core.Path.{◌≡◌, refl, sym, ap, ap₂, ◌∙◌}
use mathlib.Core.Bool.{Bool, true, false, cond, not, ◌&&◌, ◌||◌}
use mathlib.Core.List.{List}
use Rattle.std.specs.Prelude.{Option, Some, None}
use Prim.Native.Nat.{ℕ, ◌+◌, ◌-◌, ◌*◌, ◌%◌, ◌≤◌, ◌<◌}
use native.Mathlib.Nat.{le_refl}
use native.Mathlib.Omega.{arith}
use lib.Dec.{eqb, leb, ltb, lit<}
use lib.ListN.{length, take, drop}
use lib.Seq.{length-take-le, get_or-take}
use borrow.Author.Tests.{lt-ltb, le-ltb, le-leb}
use Rattle.base.specs.Sizes.{illegal_field, sized}
use Rattle.base.specs.Numbers as numbers
use Rattle.base.proofs.Lists.{take_inside}
use Rattle.base.proofs.Search.{every_ext}
use Rattle.trace.specs.declared.place.Place.{Place}
use Rattle.trace.specs.Bytes.{byte, big_endian, zeros}
use Rattle.trace.specs.Blocks.{kind_of, held_of, config_of, cycle_start, end_of_body}
use Rattle.trace.specs.Cycles.{Slice, part, shows, part_of_cycle}
use Rattle.trace.specs.Check.{weighed, check_value, check_holds}
use Rattle.trace.specs.Rules.{place_unsound, block_short, check_wrong, has_wrong_kind, has_wrong_number, has_wrong_count, has_wrong_unused, has_wrong_order}
use Rattle.trace.specs.Rules.{has_wrong_total, bytes_follow, form_wrong, block_wrong, field_wrong}
use Rattle.trace.specs.declared.judging.Found.TheVariants as found
use Rattle.trace.specs.Judged.{accepted, refused, read_of, taken, judged_by_field, judged}
use Rattle.trace.proofs.Parts.{shown_below_7}
use Rattle.trace.proofs.Spelling.{spell_ext}
use Rattle.trace.proofs.Sums.{sum_ext}

-- two blocks that agree in their first 512 bytes
module _ (x y : List ℕ) (same : (i : ℕ) → i < 512 → byte x i ≡ byte y i) where
  kind : kind_of x ≡ kind_of y
  kind = same 0 (lit< tt)

  held : held_of x ≡ held_of y
  held = same 1 (lit< tt)

  config : config_of x ≡ config_of y
  config =
      λ i.
      sized (same 8 (lit< tt) i) (same 9 (lit< tt) i) (same 10 (lit< tt) i) (same 11 (lit< tt) i) (same 12 (lit< tt) i)
      (same 13 (lit< tt) i) (same 14 (lit< tt) i)

  spelled : (from n : ℕ) → from + n ≤ 512 → big_endian x from n ≡ big_endian y from n
  spelled from n h = spell_ext x y from n (λ i g. same (from + i) (omega arith))

  blank : (from to : ℕ) → to ≤ 512 → zeros x from to ≡ zeros y from to
  unfolding zeros
  blank from to h =
      every_ext (to - from) (λ (k : ℕ). eqb (byte x (from + k)) 0) (λ (k : ℕ). eqb (byte y (from + k)) 0)
      (λ k g. ap (λ (v : ℕ). eqb v 0) (same (from + k) (omega arith)))

  check : check_holds x ≡ check_holds y
  unfolding check_holds check_value
  check =
      ap₂ (λ (s v : ℕ). eqb (s % 65521) v) (sum_ext 510 (weighed x) (weighed y) (λ i g. ap (λ (v : ℕ). (i + 1) * v) (same i (omega arith))))
      (spelled 510 2 (le_refl 512))

  ends : end_of_body x ≡ end_of_body y
  unfolding end_of_body
  ends = ap₂ (λ (k h : ℕ). cond (eqb k 1) 15 (cond (eqb k 2) (cycle_start h) 12)) kind held

  unused : has_wrong_unused x ≡ has_wrong_unused y
  unfolding has_wrong_unused
  unused = ap₂ (λ (a b : Bool). not (a && b)) (blank 6 8 (omega arith))
      (ap (λ (n : ℕ). zeros x n 510) ends ∙ blank (end_of_body y) 510 (omega arith))

  form : (p : Place) (c : ℕ) → form_wrong p c x ≡ form_wrong p c y
  unfolding form_wrong has_wrong_kind has_wrong_number has_wrong_count has_wrong_order has_wrong_total
  form p c =
      λ i.
      not (leb 1 (kind i) && leb (kind i) 3)
      || (not (eqb (spelled 2 4 (omega arith) i) p.number)
      || (cond (eqb (kind i) 2) (not (leb 1 (held i) && leb (held i) 7)) (not (eqb (held i) 0))
      || (unused i || (cond (eqb (kind i) 1) p.configured (not p.configured) || eqb (kind i) 3
      && not (eqb (spelled 8 4 (omega arith) i) c)))))

  field : (p : Place) → field_wrong p x ≡ field_wrong p y
  unfolding field_wrong
  field p = λ i. cond (not p.ended && eqb (kind i) 1) (illegal_field (config i)) None

  read : (p : Place) → taken p x ≡ taken p y
  unfolding taken read_of
  read p =
      λ i.
      cond p.ended (accepted found.Done p)
      (accepted (cond (eqb (kind i) 1) (found.Configuration (config i)) (cond (eqb (kind i) 2) (found.Cycles (held i)) found.End))
      (record { number = p.number + 1; configured = true; ended = eqb (kind i) 3 }))

  by_field : (p : Place) (f : Option ℕ) → judged_by_field f p x ≡ judged_by_field f p y
  unfolding judged_by_field
  by_field p (Some k) = refl
  by_field p None = read p

  -- are judged alike, where both are whole
  pub judged_alike : (p : Place) (c : ℕ) → 512 ≤ length x → 512 ≤ length y → judged p c x ≡ judged p c y
  unfolding judged block_short check_wrong block_wrong bytes_follow
  judged_alike p c h g =
      λ i.
      cond (place_unsound p c) (refused numbers.not_sound 0 p)
      (cond (not p.ended && short i) (refused numbers.block_short 0 p)
      (cond (not p.ended && not (check i)) (refused numbers.check_wrong 0 p)
      (cond (cond p.ended (some_follow i) (form p c i)) (refused numbers.block_wrong 0 p) (by_fields i))))
    where
      short : ltb (length x) 512 ≡ ltb (length y) 512
      short = le-ltb (length x) 512 h ∙ sym (le-ltb (length y) 512 g)

      some_follow : ltb 0 (length x) ≡ ltb 0 (length y)
      some_follow = lt-ltb 0 (length x) (omega arith) ∙ sym (lt-ltb 0 (length y) (omega arith))

      by_fields : judged_by_field (field_wrong p x) p x ≡ judged_by_field (field_wrong p y) p y
      by_fields = ap (λ (f : Option ℕ). judged_by_field f p x) (field p) ∙ by_field p (field_wrong p y)

-- a longer block is judged as its first 512 bytes are
pub first_512_count : (p : Place) (c : ℕ) (l : List ℕ) → 512 ≤ length l → judged p c l ≡ judged p c (take 512 l)
first_512_count p c l h =
    judged_alike l (take 512 l) (λ i g. sym (get_or-take 512 l i 0 g)) p c h (let e = length-take-le 512 l h in omega arith)

-- ---- the cycles shown

module _ (l : List ℕ) (h : 512 ≤ length l) where
  held_512 : held_of (take 512 l) ≡ held_of l
  held_512 = get_or-take 512 l 1 0 (lit< tt)

  shows_512 : (k : ℕ) → shows (take 512 l) k ≡ shows l k
  unfolding shows
  shows_512 k =
      ap₂ (λ (a : Bool) (n : ℕ). a && leb n 7 && ltb k n)
      (le-leb 512 (length (take 512 l)) (let e = length-take-le 512 l h in omega arith) ∙ sym (le-leb 512 (length l) h)) held_512

  part_512 : (k : ℕ) → k < 7 → take 64 (drop (8 + 64 * k) (take 512 l)) ≡ take 64 (drop (8 + 64 * k) l)
  part_512 k b = take_inside 64 (8 + 64 * k) 512 l (omega (arith, b))

-- so does a reader show its cycles: those of a longer block are those of its first 512 bytes, where they lie
pub first_512_shown : (s : Slice) (k : ℕ) → 512 ≤ length s.bytes
    → part_of_cycle s k ≡ part_of_cycle (record { memory = s.memory; start = s.start; bytes = take 512 s.bytes }) k
unfolding part_of_cycle
first_512_shown s k h = go (shows s.bytes k) refl
  where
    l : List ℕ
    l = s.bytes

    cut : Slice
    cut = record { memory = s.memory; start = s.start; bytes = take 512 l }

    shown : List ℕ → Slice
    shown bytes = record { memory = s.memory; start = 8 + 64 * k + s.start; bytes = bytes }

    go : (b : Bool) → shows l k ≡ b → cond (shows l k) (part s (8 + 64 * k) 64) (part s 0 0)
        ≡ cond (shows (take 512 l) k) (part cut (8 + 64 * k) 64) (part cut 0 0)
    go true e = rw (e, shows_512 l h k ∙ e) (ap shown (sym (part_512 l h k (shown_below_7 l k e))))
    go false e = rw (e, shows_512 l h k ∙ e)
