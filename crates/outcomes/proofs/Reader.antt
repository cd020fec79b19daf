-- reader: no second outcome satisfies the contract of a public function; of a slice handed back what `slice_of` shows, which is all (Trace).
-- With the older kit `over`, `shown` and `moved` were not covered, and Rattle drew no `Reads` for them: what their contracts tell stands
-- here, and `.._says` shows that the written clauses ask for nothing and tell just that.
-- Assumes nothing.
use mathlib.Core.Path.{◌≡◌, refl, sym, ◌∙◌}
use Rattle.trace.specs.Cycles.{slice_of, part_of_cycle}
use Rattle.reader.specs.Reader.{following_cycle}
use Rattle.reader.proofs.next_cycle as next
use Rattle.reader.specs.contracts.next_cycle as next_contract
use Rattle.reader.specs.contracts.over as over
use Rattle.reader.specs.contracts.shown as shown
use Rattle.reader.specs.contracts.moved as moved
use Rattle.reader.proofs.shown_at as shown_at
use Rattle.reader.specs.contracts.shown_at as shown_at_contract
use Rattle.outcomes.specs.Once.{Tells, Once, OnceSeen, Says}
use Rattle.outcomes.proofs.Seen.{slice_whole}

pub next_cycle_once : Once next_contract.ended next.Reads.Asked next.Reads.Learnt
next_cycle_once κs a = (tt, λ r s u v p q. (p ∙ sym q, refl))

pub shown_at_once : OnceSeen shown_at_contract.ended (λ κs. slice_of) shown_at.Reads.Asked shown_at.Reads.Learnt
shown_at_once κs a = (tt, λ r s u v p q. (p ∙ sym q, refl))

-- memory, start and bytes are all that a slice is
pub shown_at_whole_once : Once shown_at_contract.ended shown_at.Reads.Asked shown_at.Reads.Learnt
shown_at_whole_once κs a = (tt, λ r s u v p q. (slice_whole r s (p ∙ sym q), refl))

-- ---- the three over the struct

abbrev over_tells : Tells over.ended
over_tells κs a r u = (r.block ≡ a.0) × (r.cycle ≡ 0)

pub over_says : {M : Type 1} → Says over.ended M (λ 𝓤. over.clauses) over_tells
over_says 𝓤 𝓛 mem run κs a g = (refl, λ r u. refl)

pub over_once : Once over.ended (λ κs a. Unit {0}) over_tells
over_once κs a = (tt, λ r s u v p q. (λ i. record { block = (p.0 ∙ sym q.0) i; cycle = (p.1 ∙ sym q.1) i }, refl))

abbrev shown_tells : Tells shown.ended
shown_tells κs a r u = slice_of r ≡ part_of_cycle (slice_of a.0.block) a.0.cycle

pub shown_says : {M : Type 1} → Says shown.ended M (λ 𝓤. shown.clauses) shown_tells
shown_says 𝓤 𝓛 mem run κs a g = (refl, λ r u. refl)

pub shown_once : OnceSeen shown.ended (λ κs. slice_of) (λ κs a. Unit {0}) shown_tells
shown_once κs a = (tt, λ r s u v p q. (p ∙ sym q, refl))

pub shown_whole_once : Once shown.ended (λ κs a. Unit {0}) shown_tells
shown_whole_once κs a = (tt, λ r s u v p q. (slice_whole r s (p ∙ sym q), refl))

abbrev moved_tells : Tells moved.ended
moved_tells κs a r u = (r.block ≡ a.0.block) × (r.cycle ≡ following_cycle a.0.block.now a.0.cycle)

pub moved_says : {M : Type 1} → Says moved.ended M (λ 𝓤. moved.clauses) moved_tells
moved_says 𝓤 𝓛 mem run κs a g = (refl, λ r u. refl)

pub moved_once : Once moved.ended (λ κs a. Unit {0}) moved_tells
moved_once κs a = (tt, λ r s u v p q. (λ i. record { block = (p.0 ∙ sym q.0) i; cycle = (p.1 ∙ sym q.1) i }, refl))
