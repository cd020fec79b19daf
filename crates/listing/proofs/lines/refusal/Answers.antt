-- The letter, the numbers, what stands between and after them.
-- Assumes nothing.
use Rattle.std.proofs.Common.{[], ◌∷◌, ◌+◌, arith, length-set}
use Rattle.listing.proofs.Bytes.{refusal_bytes}
use Rattle.listing.proofs.Ranges.{refusal_in}
use Rattle.listing.proofs.Stores.{laid_as, laid_more, laid_stores}
use Rattle.listing.proofs.lines.refusal.Goals as goal

pub decimal-q-requires : goal.decimal-q-requires
decimal-q-requires c =
    let b = refusal_in _ _ _ c.requires.0 in
    (omega arith, simp (length-set, c.decimal-p.auto.out) (omega arith))

pub overflow_add-out : goal.overflow_add-out
overflow_add-out c = let b = refusal_in _ _ _ c.requires.0 in record { fits = omega arith }

pub returns : goal.returns
returns c =
    laid_as
    (laid_more (laid_stores c.args.out.now 0 82 (32 ∷ []))
    (laid_more c.decimal-p.ensures.0
    (laid_more (laid_stores _ _ 32 []) (laid_more c.decimal-q.ensures.0 (laid_stores _ _ 32 ((48 + c.args.place) ∷ 10 ∷ []))))))
    (refusal_bytes _ _ _ (refusal_in _ _ _ c.requires.0).2)
