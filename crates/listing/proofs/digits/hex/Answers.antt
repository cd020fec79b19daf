-- The eight digits, stored one by one.
-- Assumes nothing.
use Rattle.listing.proofs.Decimals.{hex_laid}
use Rattle.listing.proofs.digits.hex.Goals as goal

pub returns : goal.returns
returns c =
    hex_laid c.args.out.now c.args.at c.args.n _ _ _ _ _ _ _ _ c.glyph.ensures c.glyph-2.ensures c.glyph-3.ensures c.glyph-4.ensures
    c.glyph-5.ensures c.glyph-6.ensures c.glyph-7.ensures c.glyph-8.ensures
