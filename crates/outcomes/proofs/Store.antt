-- store: no second outcome satisfies the contract of a public function, of the result or of the store.
-- Assumes nothing.
use mathlib.Core.Path.{refl, sym, ◌∙◌}
use Rattle.store.proofs.front as front
use Rattle.store.specs.contracts.front as front_contract
use Rattle.store.proofs.push as push
use Rattle.store.specs.contracts.push as push_contract
use Rattle.store.proofs.pop as pop
use Rattle.store.specs.contracts.pop as pop_contract
use Rattle.outcomes.specs.Once.{Once}

pub front_once : Once front_contract.ended front.Reads.Asked front.Reads.Learnt
front_once κs a = (tt, λ r s u v p q. (p ∙ sym q, refl))

pub push_once : Once push_contract.ended push.Reads.Asked push.Reads.Learnt
push_once κs a = (tt, λ r s u v p q. (refl, λ i. (tt, (tt, (tt, ((p ∙ sym q) i, tt))))))

pub pop_once : Once pop_contract.ended pop.Reads.Asked pop.Reads.Learnt
pop_once κs a = (tt, λ r s u v p q. (refl, λ i. (tt, ((p ∙ sym q) i, tt))))
