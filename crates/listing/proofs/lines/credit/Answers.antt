-- The start, then five bytes.
-- Assumes nothing.
use Rattle.std.proofs.Common.{[], ◌∷◌, ◌+◌, arith}
use Rattle.listing.proofs.Bytes.{credit_bytes}
use Rattle.listing.proofs.Ranges.{credit_in}
use Rattle.listing.proofs.Stores.{laid_as, laid_more, laid_stores}
use Rattle.listing.proofs.lines.credit.Goals as goal

pub start-q-requires : goal.start-q-requires
start-q-requires c = let b = credit_in _ _ _ c.requires.0 in (omega arith, omega arith)

pub overflow_add-out : goal.overflow_add-out
overflow_add-out c = let b = credit_in _ _ _ c.requires.0 in record { fits = omega arith }

pub overflow_add-out-4 : goal.overflow_add-out-4
overflow_add-out-4 c = let b = credit_in _ _ _ c.requires.0 in record { fits = omega arith }

pub returns : goal.returns
returns c =
    let a = c.args in
    let b = credit_in _ _ _ c.requires.0 in (
      laid_as (laid_more c.start-q.ensures.0 (laid_stores _ _ 32 ((48 + a.input) ∷ 32 ∷ (48 + a.vc) ∷ 10 ∷ [])))
          (credit_bytes _ _ _ b.1 b.2),
      omega arith,
    )
