-- A refusal: a number of the table, and its place: "the port for 3 to 6, the field for 1, else 0" (01, numbers given back).
-- Assumes nothing.
use Rattle.std.specs.Prelude.{ℕ, Result, Ok, Err}
use Rattle.base.specs.Numbers as numbers
use Rattle.base.specs.declared.refusal.Refusal.{Refusal}

-- what a judgement gives back: nothing, or why it refuses
abbrev pub Verdict : Type 0
Verdict = Result Unit Refusal

abbrev pub refusing : {A : Type 0} → ℕ → ℕ → Result A Refusal
refusing number place = Err (record { number = number; place = place })

-- the number and the place that an answer stands for: 0, "done", where nothing is refused
abbrev pub number_of : {A : Type 0} → Result A Refusal → ℕ
number_of (Ok _) = numbers.done
number_of (Err r) = r.number

abbrev pub place_of : {A : Type 0} → Result A Refusal → ℕ
place_of (Ok _) = 0
place_of (Err r) = r.place
