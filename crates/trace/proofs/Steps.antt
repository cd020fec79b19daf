-- What the proofs of the judge and of its form take: the kinds that there are, and what each test comes to.
-- Assumes nothing.
use Rattle.std.specs.Prelude.{◌≡◌, true, false, List, ℕ, Some, None}
use Rattle.std.proofs.Common.{arith}
use Rattle.std.proofs.lemmas.Grind.{common_steps}
use Rattle.trace.specs.declared.form.Kind.{Kind}
use Rattle.trace.specs.declared.place.Place.{Place}
use Rattle.trace.specs.Blocks.{kind_of}
use Rattle.trace.specs.Kind.{kind_named}
use Rattle.trace.specs.Rules.{has_wrong_kind, form_wrong}
use Rattle.trace.proofs.Order.{judged_unsound, judged_follows, judged_done, judged_short, judged_check, judged_form, judged_read}
use Rattle.trace.proofs.Reading.{read_illegal, read_configuration, read_cycles, read_end}

-- a block of no kind is refused by 8
pub no_kind_wrong : (p : Place) (c : ℕ) (l : List ℕ) → kind_named (kind_of l) ≡ None → form_wrong p c l ≡ true
unfolding kind_named form_wrong has_wrong_kind
no_kind_wrong p c l e = grind (arith, common_steps)

pub some_kind_right : (l : List ℕ) (k : Kind) → kind_named (kind_of l) ≡ Some k → has_wrong_kind l ≡ false
unfolding kind_named has_wrong_kind
some_kind_right l k e = grind (arith, common_steps)

pub ruleset kinds = (no_kind_wrong, some_kind_right)

pub ruleset steps = (
  no_kind_wrong,
  judged_unsound,
  judged_follows,
  judged_done,
  judged_short,
  judged_check,
  judged_form,
  judged_read,
  read_illegal,
  read_configuration,
  read_cycles,
  read_end,
)
