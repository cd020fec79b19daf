-- trace: no second outcome satisfies the contract of a public function.
-- Assumes nothing.
use mathlib.Core.Path.{refl, sym, ◌∙◌}
use mathlib.Core.List.{List}
use Prim.Native.Nat.{ℕ}
use contract.Lifetimes.{Lfts}
use denote.Ref.{Bor}
use denote.Triple.Entry.{Args}
use denote.Triple.Clauses.{Lasts, at_exit}
use Rattle.trace.specs.Cycles.{slice_of}
use Rattle.trace.proofs.judge as judge
use Rattle.trace.specs.contracts.judge as judge_contract
use Rattle.trace.proofs.cycle_part as part
use Rattle.trace.specs.contracts.cycle_part as part_contract
use Rattle.trace.proofs.place.Place.start as start
use Rattle.trace.specs.contracts.place.Place.start as start_contract
use Rattle.trace.proofs.is_good as good
use Rattle.trace.specs.contracts.is_good as good_contract
use Rattle.outcomes.specs.Once.{Once, OnceSeen}
use Rattle.outcomes.proofs.Seen.{slice_whole}

pub judge_once : Once judge_contract.ended judge.Reads.Asked judge.Reads.Learnt
judge_once κs a = (tt, λ r s u v p q. (p ∙ sym q, refl))

-- Of the slice handed back the contract determines memory, start and bytes, all that a program has of it, ..
pub cycle_part_once : OnceSeen part_contract.ended (λ κs. slice_of) part.Reads.Asked part.Reads.Learnt
cycle_part_once κs a = (tt, λ r s u v p q. (p ∙ sym q, refl))

-- .. and all that it is,
pub cycle_part_whole_once : Once part_contract.ended part.Reads.Asked part.Reads.Learnt
cycle_part_whole_once κs a = (tt, λ r s u v p q. (slice_whole r s (p ∙ sym q), refl))

-- since a slice that is only read has no name under which the proofs follow it. With the older kit it had one, which was free: any other
-- did as well.
pub cycle_part_name_free : (κs : Lfts 1) (a : Args part_contract.signature κs) (r : Bor (List ℕ)) (u : Lasts part_contract.ended κs a) (other : ℕ)
    → part.Reads.Learnt κs a r (at_exit part_contract.ended κs a u)
    → part.Reads.Learnt κs a (record { ref_ptr = r.ref_ptr; now = r.now }) (at_exit part_contract.ended κs a u)
cycle_part_name_free κs a r u other p = p

pub start_once : Once start_contract.ended start.Reads.Asked start.Reads.Learnt
start_once κs a = (tt, λ r s u v p q. (p ∙ sym q, refl))

pub is_good_once : Once good_contract.ended good.Reads.Asked good.Reads.Learnt
is_good_once κs a = (tt, λ r s u v p q. (p ∙ sym q, refl))
