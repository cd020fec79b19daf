-- What the inner functions are handed: counts that one cycle cannot take past a byte. A sound router has them.
-- Assumes nothing.
use Rattle.std.specs.Prelude.{List, ℕ, ◌≤◌, get_or}
use Rattle.state.specs.declared.InputVc.{InputVc}
use Rattle.state.specs.declared.OutputVc.{OutputVc}
use Rattle.state.specs.Fresh.{fresh_input, fresh_output}

-- each sender credit is at most n
abbrev pub CreditsFit : ℕ → List InputVc → Type 0
CreditsFit n inputs = (x : ℕ) → (get_or inputs x (fresh_input 0)).credit ≤ n

-- each queue has at most n flits
abbrev pub QueuesFit : ℕ → List InputVc → Type 0
QueuesFit n inputs = (x : ℕ) → (get_or inputs x (fresh_input 0)).queued ≤ n

-- each output credit is at most n
abbrev pub OutputCreditsFit : ℕ → List OutputVc → Type 0
OutputCreditsFit n outputs = (y : ℕ) → (get_or outputs y (fresh_output 0)).credit ≤ n
