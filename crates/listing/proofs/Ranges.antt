-- Values in their ranges: from the test of a line to the bounds of its values.
-- Assumes nothing.
use mathlib.Core.Path.{◌≡◌}
use mathlib.Core.Bool.{true, ◌&&◌}
use mathlib.Core.List.{List, [], ◌∷◌}
use Prim.Native.Nat.{ℕ, ◌≤◌, ◌<◌}
use native.Mathlib.Omega.{arith}
use lib.Dec.{leb}
use borrow.Author.Tests.{leb-true}
use Rattle.base.specs.declared.reply.Departure.{Departure}
use Rattle.base.specs.Sizes.{Field, in_range}
use Rattle.base.proofs.Search.{both}
use Rattle.listing.specs.Lines.{Line, credit, flit, finish, refusal, values_of, all_in_range, printable}

-- the first value is in its range, and so are the others
pub first_in : (f : Field) (fs : List Field) → all_in_range (f ∷ fs) ≡ true → (f.least ≤ f.value) × (f.value ≤ f.most)
    × (all_in_range fs ≡ true)
unfolding all_in_range in_range
first_in f fs e =
    let here = both (leb f.least f.value && leb f.value f.most) (all_in_range fs) e in
    let ends = both (leb f.least f.value) (leb f.value f.most) here.0 in
    (leb-true f.least f.value ends.0, leb-true f.value f.most ends.1, here.1)

-- a line by itself
pub line_in : (l : Line) → printable (l ∷ []) ≡ true → all_in_range (values_of l) ≡ true
unfolding printable
line_in l e = (both (all_in_range (values_of l)) true e).0

-- what a printable line of each kind says of its values
pub credit_in : (cycle input vc : ℕ) → printable (credit cycle input vc ∷ []) ≡ true → (cycle < 1000000000) × (input < 8) × (vc < 4)
unfolding values_of
credit_in cycle input vc e =
    let a = first_in _ _ (line_in (credit cycle input vc) e) in
    let b = first_in _ _ a.2 in
    let c = first_in _ _ b.2 in
    (omega arith, omega arith, omega arith)

pub record FlitIn (cycle output : ℕ) (d : Departure) : Type 0 where
  pub cycle_in : cycle < 1000000000
  pub output_in : output < 8
  pub out_vc_in : d.out_vc < 4
  pub input_in : d.input < 8
  pub vc_in : d.vc < 4
  pub kind_least : 1 ≤ d.kind
  pub kind_most : d.kind ≤ 4

pub flit_in : (cycle output : ℕ) (d : Departure) → printable (flit cycle output d ∷ []) ≡ true → FlitIn cycle output d
unfolding values_of
flit_in cycle output d e =
    let a = first_in _ _ (line_in (flit cycle output d) e) in
    let b = first_in _ _ a.2 in
    let c = first_in _ _ b.2 in
    let f = first_in _ _ c.2 in
    let g = first_in _ _ f.2 in
    let h = first_in _ _ g.2 in
    record {
      cycle_in = omega arith;
      output_in = omega arith;
      out_vc_in = omega arith;
      input_in = omega arith;
      vc_in = omega arith;
      kind_least = h.0;
      kind_most = h.1;
    }

pub finish_in : (cycles flits : ℕ) → printable (finish cycles flits ∷ []) ≡ true → (cycles ≤ 1000000000) × (flits ≤ 8000000000)
unfolding values_of
finish_in cycles flits e =
    let a = first_in _ _ (line_in (finish cycles flits) e) in
    let b = first_in _ _ a.2 in
    (a.1, b.1)

pub refusal_in : (number cycle place : ℕ) → printable (refusal number cycle place ∷ []) ≡ true → (number ≤ 10) × (cycle ≤ 1000000000)
    × (place ≤ 7)
unfolding values_of
refusal_in number cycle place e =
    let a = first_in _ _ (line_in (refusal number cycle place) e) in
    let b = first_in _ _ a.2 in
    let c = first_in _ _ b.2 in
    (a.1, b.1, c.1)
