-- router: no second outcome satisfies the contract of a public function, of the result or of the buffer.
-- Assumes nothing.
use mathlib.Core.Path.{refl, sym, ◌∙◌}
use Rattle.router.proofs.step as step
use Rattle.router.specs.contracts.step as step_contract
use Rattle.router.proofs.run as run
use Rattle.router.specs.contracts.run as run_contract
use Rattle.outcomes.specs.Once.{Once}

pub step_once : Once step_contract.ended step.Reads.Asked step.Reads.Learnt
step_once κs a = (tt, λ r s u v p q. (p ∙ sym q, refl))

pub run_once : Once run_contract.ended run.Reads.Asked run.Reads.Learnt
run_once κs a = (tt, λ r s u v p q. (λ i. ((p ∙ sym q) i).ran, λ i. (tt, (tt, (((p ∙ sym q) i).buffer, (tt, tt))))))
