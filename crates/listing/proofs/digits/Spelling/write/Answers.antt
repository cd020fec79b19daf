-- The digits after the leading zeros are the number as text.
-- Assumes nothing.
use Rattle.std.proofs.Common.{◌≡◌, ◌∙◌, ◌-◌, drop, take_all, arith, length-drop}
use borrow.Rule.Slice.PartMut.{mid_of}
use Rattle.listing.specs.Digits.{decimal}
use Rattle.listing.proofs.Stores.{laid_as, laid_copy}
use Rattle.listing.proofs.digits.Spelling.write.Goals as goal

pub returns : goal.returns
returns c =
    let s = c.args.self.now in
    let shown : mid_of s.zeros (10 - s.zeros) s.digits ≡ decimal s.number =
    take_all (10 - s.zeros) (drop s.zeros s.digits) (omega (arith, s.spelled.ten, length-drop s.zeros s.digits))
    ∙ s.spelled.stands c.requires.0 in
    laid_as (laid_copy c.args.out.now c.args.at _ c.copy_from_slice.new.self c.copy_from_slice.ensures.after (rw shown c.requires.1)) shown
