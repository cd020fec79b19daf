-- listing: no second outcome satisfies the contract of a public function, of the answer or of the buffer.
-- Assumes nothing.
use mathlib.Core.Path.{◌≡◌, refl, sym, ap, ◌∙◌}
use mathlib.Core.Bool.{cond}
use mathlib.Core.List.{List}
use Prim.Native.Nat.{ℕ}
use lib.Dec.{eqb}
use Rattle.base.specs.Numbers.{done, no_room}
use Rattle.std.specs.Prelude.{Result, Ok, Err}
use Rattle.listing.specs.declared.Unwritten.{Unwritten}
use Rattle.listing.specs.declared.Unwritten.TheVariants.{NoRoom, OutOfRange}
use Rattle.listing.specs.Writing.{WriteOutcome, write_outcome}
use Rattle.listing.proofs.has_room as room
use Rattle.listing.specs.contracts.has_room as room_contract
use Rattle.listing.proofs.write_cycle as cycle
use Rattle.listing.specs.contracts.write_cycle as cycle_contract
use Rattle.listing.proofs.write_end as end
use Rattle.listing.specs.contracts.write_end as end_contract
use Rattle.listing.proofs.write_refusal as refusal
use Rattle.listing.specs.contracts.write_refusal as refusal_contract
use Rattle.outcomes.specs.Once.{Once}
use Rattle.outcomes.proofs.Seen.{seen_once}

-- an answer beside the buffer
abbrev said_by : Result ℕ Unwritten × List ℕ → WriteOutcome
said_by x = write_outcome x.0 x.1

-- the answer that a number and its bytes stand for
abbrev written_of : WriteOutcome → Result ℕ Unwritten × List ℕ
written_of o = (cond (eqb o.number done) (Ok o.bytes) (Err (cond (eqb o.number no_room) NoRoom OutOfRange)), o.buffer)

written_back : (x : Result ℕ Unwritten × List ℕ) → written_of (said_by x) ≡ x
written_back (Ok n, b) = refl
written_back (Err NoRoom, b) = refl
written_back (Err OutOfRange, b) = refl

write_once : {o : WriteOutcome} (r s : Result ℕ Unwritten) (b d : List ℕ) → write_outcome r b ≡ o → write_outcome s d ≡ o → (r ≡ s) × (b ≡ d)
write_once r s b d p q =
    let e = seen_once said_by written_of written_back (r, b) (s, d) p q in
    (ap (λ (x : Result ℕ Unwritten × List ℕ). x.0) e, ap (λ (x : Result ℕ Unwritten × List ℕ). x.1) e)

pub write_cycle_once : Once cycle_contract.ended cycle.Reads.Asked cycle.Reads.Learnt
write_cycle_once κs a = (tt, λ r s u v p q. let e = write_once r s u.0 v.0 p q in (e.0, λ i. (e.1 i, v.1)))

pub write_end_once : Once end_contract.ended end.Reads.Asked end.Reads.Learnt
write_end_once κs a = (tt, λ r s u v p q. let e = write_once r s u.0 v.0 p q in (e.0, λ i. (e.1 i, v.1)))

pub write_refusal_once : Once refusal_contract.ended refusal.Reads.Asked refusal.Reads.Learnt
write_refusal_once κs a = (tt, λ r s u v p q. let e = write_once r s u.0 v.0 p q in (e.0, λ i. (e.1 i, v.1)))

pub has_room_once : Once room_contract.ended room.Reads.Asked room.Reads.Learnt
has_room_once κs a = (tt, λ r s u v p q. (p ∙ sym q, refl))
