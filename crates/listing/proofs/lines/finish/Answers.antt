-- The letter, the numbers, what stands between and after them.
-- Assumes nothing.
use Rattle.std.proofs.Common.{[], ◌∷◌, arith, length-set}
use Rattle.listing.proofs.Bytes.{finish_bytes}
use Rattle.listing.proofs.Ranges.{finish_in}
use Rattle.listing.proofs.Stores.{laid_as, laid_more, laid_stores}
use Rattle.listing.proofs.lines.finish.Goals as goal

pub decimal-q-requires : goal.decimal-q-requires
decimal-q-requires c = let b = finish_in _ _ c.requires.0 in (omega arith, simp length-set (omega arith))

pub decimal-e-requires : goal.decimal-e-requires
decimal-e-requires c =
    let b = finish_in _ _ c.requires.0 in
    (omega arith, simp (length-set, c.decimal-q.auto.out) (omega arith))

pub returns : goal.returns
returns c =
    laid_as
    (laid_more (laid_stores c.args.out.now 0 69 (32 ∷ []))
    (laid_more c.decimal-q.ensures.0
    (laid_more (laid_stores _ _ 32 []) (laid_more c.decimal-e.ensures.0 (laid_stores _ _ 10 [])))))
    (finish_bytes _ _)
