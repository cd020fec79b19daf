-- Each number of a write comes exactly when its rule says, and what a write leaves as it was.
-- Assumes nothing.
use mathlib.Core.Path.{◌≡◌, refl, sym, ap, ◌∙◌}
use mathlib.Core.Bool.{Bool, true, false, cond, ◌&&◌, ◌||◌, and-false, true≢false, false≢true}
use mathlib.Core.List.Memᴰ
use mathlib.Core.List.{List, [], ◌∷◌, ◌++◌, append_assoc, Memᴰ}
use mathlib.Core.Logic.{◌⊎◌, inl, inr, ◌↔◌}
use Prim.Native.Nat.{ℕ, ◌+◌, ◌-◌, ◌≤◌, ◌<◌}
use native.Mathlib.Omega.{arith}
use lib.Dec.{leb, ltb}
use lib.ListN.{length, take, drop, length-append}
use lib.Seq.{take_at, drop_at, length-take-le}
use borrow.Author.Tests.{leb-false, lt-leb, ltb-true, ltb-false}
use Rattle.base.specs.Numbers.{done, no_room, out_of_range, room}
use Rattle.base.specs.Sizes.{Field, in_range}
use Rattle.listing.specs.Lines.{Line, values_of, all_in_range, text, printable}
use Rattle.listing.specs.Writing.{WriteOutcome, put, lacks_room, refused_with, written, Outside}

-- one value out of its range
field_out : (f : Field) → in_range f ≡ false → (f.value < f.least) ⊎ (f.most < f.value)
unfolding in_range
field_out f e = go (leb f.least f.value) refl (leb f.value f.most) refl e
  where
    go : (a : Bool) → leb f.least f.value ≡ a → (b : Bool) → leb f.value f.most ≡ b → (a && b) ≡ false
        → (f.value < f.least) ⊎ (f.most < f.value)
    go true ea true eb e = absurd (true≢false e)
    go true ea false eb e = inr (leb-false f.value f.most eb)
    go false ea b eb e = inl (leb-false f.least f.value ea)

out_field : (f : Field) → (f.value < f.least) ⊎ (f.most < f.value) → in_range f ≡ false
unfolding in_range
out_field f (inl h) = ap (λ (a : Bool). a && leb f.value f.most) (lt-leb f.least f.value h)
out_field f (inr h) = ap (λ (b : Bool). leb f.least f.value && b) (lt-leb f.value f.most h)
    ∙ and-false (leb f.least f.value)

-- among some values
pub record OutAmong (fs : List Field) : Type 0 where
  pub value : Field
  pub held : Memᴰ value fs
  pub out : (value.value < value.least) ⊎ (value.most < value.value)

values_out : (fs : List Field) → all_in_range fs ≡ false → OutAmong fs
unfolding all_in_range
values_out [] e = absurd (true≢false e)
values_out (f ∷ fs) e = go (in_range f) refl e (λ (g : all_in_range fs ≡ false). values_out fs g)
  where
    go : (b : Bool) → in_range f ≡ b → (b && all_in_range fs) ≡ false → (all_in_range fs ≡ false → OutAmong fs) → OutAmong (f ∷ fs)
    go true eb e more = let x = more e in record { value = x.value; held = Memᴰ.tail x.held; out = x.out }
    go false eb e more = record { value = f; held = Memᴰ.head refl; out = field_out f eb }

out_values : (fs : List Field) (f : Field) → Memᴰ f fs → in_range f ≡ false → all_in_range fs ≡ false
unfolding all_in_range
out_values [] f m e = absurd (Memᴰ.not-nil m)
out_values (g ∷ fs) f m e = go (Memᴰ.cases_cons m) (λ (n : Memᴰ f fs). out_values fs f n e)
  where
    go : (f ≡ g) ⊎ Memᴰ f fs → (Memᴰ f fs → all_in_range fs ≡ false) → (in_range g && all_in_range fs) ≡ false
    go (inl same) more = ap (λ (b : Bool). b && all_in_range fs) (ap in_range (sym same) ∙ e)
    go (inr n) more = ap (λ (b : Bool). in_range g && b) (more n) ∙ and-false (in_range g)

lines_out : (ls : List Line) → printable ls ≡ false → Outside ls
unfolding printable
lines_out [] e = absurd (true≢false e)
lines_out (l ∷ ls) e = go (all_in_range (values_of l)) refl e (λ (g : printable ls ≡ false). lines_out ls g)
  where
    go : (b : Bool) → all_in_range (values_of l) ≡ b → (b && printable ls) ≡ false → (printable ls ≡ false → Outside ls) → Outside (l ∷ ls)
    go true eb e more =
        let x = more e in
        record { line = x.line; among = Memᴰ.tail x.among; value = x.value; held = x.held; out = x.out }
    go false eb e more =
        let x = values_out (values_of l) eb in
        record { line = l; among = Memᴰ.head refl; value = x.value; held = x.held; out = x.out }

out_lines : (ls : List Line) (l : Line) → Memᴰ l ls → all_in_range (values_of l) ≡ false → printable ls ≡ false
unfolding printable
out_lines [] l m e = absurd (Memᴰ.not-nil m)
out_lines (k ∷ ls) l m e = go (Memᴰ.cases_cons m) (λ (n : Memᴰ l ls). out_lines ls l n e)
  where
    go : (l ≡ k) ⊎ Memᴰ l ls → (Memᴰ l ls → printable ls ≡ false) → (all_in_range (values_of k) && printable ls) ≡ false
    go (inl same) more = ap (λ (b : Bool). b && printable ls) (ap (λ (x : Line). all_in_range (values_of x)) (sym same) ∙ e)
    go (inr n) more = ap (λ (b : Bool). all_in_range (values_of k) && b) (more n) ∙ and-false (all_in_range (values_of k))

-- lines are not printable exactly when some value of theirs is outside its range
pub outside_is : (ls : List Line) → (printable ls ≡ false) ↔ Outside ls
outside_is ls = (
  lines_out ls,
  λ x. out_lines ls x.line x.among (out_values (values_of x.line) x.value x.held
      (out_field x.value x.out)),
)

-- room is lacking exactly when fewer than 376 bytes lie from the place on, as of every place past the end
pub lacks_is : (l : List ℕ) (p : ℕ) → (lacks_room l p ≡ true) ↔ (length l < p + room)
unfolding lacks_room
lacks_is l p = (to (ltb (length l) p) refl (ltb (length l - p) room) refl, from (ltb (length l) p) refl (ltb (length l - p) room) refl)
  where
    to : (a : Bool) → ltb (length l) p ≡ a → (b : Bool) → ltb (length l - p) room ≡ b → (a || b) ≡ true → length l < p + room
    to true ea b eb e = omega (arith, ltb-true (length l) p ea)
    to false ea true eb e = omega (arith, ltb-true (length l - p) room eb, ltb-false (length l) p ea)
    to false ea false eb e = absurd (false≢true e)

    from : (a : Bool) → ltb (length l) p ≡ a → (b : Bool) → ltb (length l - p) room ≡ b → length l < p + room → (a || b) ≡ true
    from true ea b eb h = refl
    from false ea true eb h = refl
    from false ea false eb h = absurd (omega (arith, ltb-false (length l) p ea, ltb-false (length l - p) room eb))

module _ (l : List ℕ) (p : ℕ) (ls : List Line) where
  -- what a write comes to, by its two tests
  by_tests : (P : WriteOutcome → Type 0) → (Outside ls → P (refused_with out_of_range l))
      → ((Outside ls → ⊥) → length l < p + room → P (refused_with no_room l))
      → ((Outside ls → ⊥) → p + room ≤ length l → P (record { number = done; bytes = length (text ls); buffer = put l p (text ls) }))
      → P (written l p ls)
  unfolding written
  by_tests P out full good = go (printable ls) refl (lacks_room l p) refl
    where
      fine : printable ls ≡ true → Outside ls → ⊥
      fine e x = true≢false (sym e ∙ (outside_is ls).1 x)

      go : (a : Bool) → printable ls ≡ a → (b : Bool) → lacks_room l p ≡ b
          → P (cond a (cond b (refused_with no_room l) (record { number = done; bytes = length (text ls); buffer = put l p (text ls) }))
          (refused_with out_of_range l))
      go false ea b eb = out ((outside_is ls).0 ea)
      go true ea true eb = full (fine ea) ((lacks_is l p).0 eb)
      go true ea false eb = good (fine ea) (room_of (ltb (length l) (p + room)) refl)
        where
          room_of : (t : Bool) → ltb (length l) (p + room) ≡ t → p + room ≤ length l
          room_of true et = absurd (true≢false (sym ((lacks_is l p).1 (ltb-true (length l) (p + room) et)) ∙ eb))
          room_of false et = ltb-false (length l) (p + room) et

  -- 12 comes exactly when some value of the lines is outside its range
  pub twelve_exactly : ((written l p ls).number ≡ out_of_range) ↔ Outside ls
  twelve_exactly =
      by_tests (λ (o : WriteOutcome). (o.number ≡ out_of_range) ↔ Outside ls) (λ x. (λ e. x, λ y. refl))
      (λ fine h. (λ e. absurd (omega arith), λ x. absurd (fine x)))
      (λ fine h. (λ e. absurd (omega arith), λ x. absurd (fine x)))

  -- 11 exactly when none is and fewer than 376 bytes lie from the place on
  pub eleven_exactly : ((written l p ls).number ≡ no_room) ↔ ((Outside ls → ⊥) × (length l < p + room))
  eleven_exactly =
      by_tests (λ (o : WriteOutcome). (o.number ≡ no_room) ↔ ((Outside ls → ⊥) × (length l < p + room)))
      (λ x. (λ e. absurd (omega arith), λ y. absurd (y.0 x)))
      (λ fine h. (λ e. (fine, h), λ y. refl))
      (λ fine h. (λ e. absurd (omega arith), λ y. absurd (omega (arith, y.1))))

  -- a refused write reports 0 bytes and leaves the buffer
  pub refused_leaves : ((written l p ls).number ≡ done → ⊥) → ((written l p ls).bytes ≡ 0) × ((written l p ls).buffer ≡ l)
  refused_leaves =
      by_tests (λ (o : WriteOutcome). (o.number ≡ done → ⊥) → (o.bytes ≡ 0) × (o.buffer ≡ l)) (λ x failed. (refl, refl))
      (λ fine h failed. (refl, refl)) (λ fine h failed. absurd (failed refl))

-- what is put stands from the place on; what lies before it and after it is as it was
module _ (l bs : List ℕ) (p : ℕ) (fits : p + length bs ≤ length l) where
  front : length (take p l) ≡ p
  front = length-take-le p l (omega arith)

  pub put_before : take p (put l p bs) ≡ take p l
  unfolding put
  put_before = ap (take p) (append_assoc (take p l) bs (drop (p + length bs) l)) ∙ take_at (take p l) (bs ++ drop (p + length bs) l) p front

  pub put_there : take (length bs) (drop p (put l p bs)) ≡ bs
  unfolding put
  put_there =
      ap (λ (k : List ℕ). take (length bs) (drop p k)) (append_assoc (take p l) bs (drop (p + length bs) l))
      ∙ ap (take (length bs)) (drop_at (take p l) (bs ++ drop (p + length bs) l) p front)
      ∙ take_at bs (drop (p + length bs) l) (length bs) refl

  pub put_after : drop (p + length bs) (put l p bs) ≡ drop (p + length bs) l
  unfolding put
  put_after = drop_at (take p l ++ bs) (drop (p + length bs) l) (p + length bs)
      (length-append (take p l) bs ∙ ap (λ (k : ℕ). k + length bs) front)
