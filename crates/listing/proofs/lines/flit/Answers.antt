-- The start, eleven bytes, the payload, the newline.
-- Assumes nothing.
use Rattle.std.proofs.Common.{[], ◌∷◌, ◌+◌, arith, length-set}
use Rattle.listing.proofs.Bytes.{flit_bytes}
use Rattle.listing.proofs.Decimals.{hex_length}
use Rattle.listing.proofs.Ranges.{flit_in}
use Rattle.listing.proofs.Stores.{laid_as, laid_more, laid_stores}
use Rattle.listing.proofs.lines.flit.Goals as goal

pub start-q-requires : goal.start-q-requires
start-q-requires c = let b = flit_in _ _ _ c.requires.0 in (omega arith, omega arith)

pub overflow_add-out : goal.overflow_add-out
overflow_add-out c = let b = flit_in _ _ _ c.requires.0 in record { fits = omega arith }

pub overflow_add-out-4 : goal.overflow_add-out-4
overflow_add-out-4 c = let b = flit_in _ _ _ c.requires.0 in record { fits = omega arith }

pub overflow_add-out-7 : goal.overflow_add-out-7
overflow_add-out-7 c = let b = flit_in _ _ _ c.requires.0 in record { fits = omega arith }

pub overflow_add-out-10 : goal.overflow_add-out-10
overflow_add-out-10 c = let b = flit_in _ _ _ c.requires.0 in record { fits = omega arith }

pub bounds-out-e : goal.bounds-out-e
bounds-out-e c = rw c.hex-e.auto.out (simp length-set (omega (arith, c.hex-e.ensures.ahead, hex_length c.args.d.payload)))

pub returns : goal.returns
returns c =
    let a = c.args in
    let d = a.d in
    let bytes = (48 + a.output) ∷ 32 ∷ (48 + d.out_vc) ∷ 32 ∷ (48 + d.input) ∷ 32 ∷ (48 + d.vc) ∷ 32 ∷ c.letter-kind.result ∷ 32 ∷ [] in (
      laid_as (laid_more c.start-q.ensures.0 (laid_more (laid_stores _ _ 32 bytes)
          (laid_more c.hex-e.ensures (laid_stores _ _ 10 []))))
          (flit_bytes _ _ _ d (flit_in _ _ _ c.requires.0) c.letter-kind.ensures),
      omega (arith, c.hex-e.ensures.ahead, hex_length d.payload),
    )
