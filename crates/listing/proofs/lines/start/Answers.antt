-- The letter and the space, then the digits.
-- Assumes nothing.
use Rattle.std.proofs.Common.{[], ◌∷◌, arith, length-set}
use Rattle.listing.proofs.Decimals.{decimal_length}
use Rattle.listing.proofs.Stores.{laid_more, laid_stores}
use Rattle.listing.proofs.lines.start.Goals as goal

pub write-requires : goal.write-requires
write-requires c =
    let short = decimal_length 8 c.args.cycle.now.number c.requires.0 in
    (omega arith, simp length-set (omega arith))

pub returns : goal.returns
returns c =
    let a = c.args in (
      laid_more (laid_stores a.out.now a.at a.letter (32 ∷ [])) c.write.ensures,
      omega (arith, c.write.ensures.ahead, decimal_length 8 a.cycle.now.number c.requires.0),
    )
