-- One cycle (01): judged, and either refused whole or stepped through the seven phases.
-- Assumes nothing.
use Rattle.std.specs.Prelude.{Ok, Err}
use Rattle.std.specs.Prelude.{List, ℕ, ◌+◌}
use Rattle.base.specs.declared.reply.Reply.{Reply}
use Rattle.base.specs.Reply.{empty_reply}
use Rattle.state.specs.declared.Router.{Router}
use Rattle.state.specs.Setters.{with_cycle, with_inputs, with_outputs, with_store, with_home, with_arbiters}
use Rattle.base.specs.Refusal.{Verdict}
use Rattle.rules.specs.declared.Stepped.{Stepped}
use Rattle.rules.specs.Intake.{reported, credits_reached, credits_returned, landed, offers_taken}
use Rattle.rules.specs.Allocation.{allocated, switched}
use Rattle.rules.specs.Departures.{leaving_of}
use Rattle.rules.specs.Numbers.{judged}

-- phases 1 to 4
unfoldable pub taken_in : List ℕ → Router → Router
taken_in part s = offers_taken part (landed (credits_returned part (credits_reached s)))

-- phases 6 and 7, and one cycle more
unfoldable pub sent_out : Router → Router
sent_out s =
    with_cycle (s.cycle + 1) (with_arbiters (switched s)
    (with_inputs (leaving_of s).inputs (with_outputs (leaving_of s).outputs
    (with_store (leaving_of s).store (with_home (leaving_of s).home s)))))

-- the router after an accepted cycle, and its reply
unfoldable pub router_after : List ℕ → Router → Router
router_after part s = sent_out (allocated (taken_in part s))

unfoldable pub reply_of : List ℕ → Router → Reply
reply_of part s = record { senders = reported s.config s.home; outputs = (leaving_of (allocated (taken_in part s))).left }

-- "a refused cycle gives the state as before and an empty reply"
abbrev pub step_by : Verdict → List ℕ → Router → Stepped
step_by (Ok _) part s = record { verdict = Ok tt; router = router_after part s; reply = reply_of part s }
step_by (Err r) part s = record { verdict = Err r; router = s; reply = empty_reply }

unfoldable pub step_of : Router → List ℕ → Stepped
step_of s part = step_by (judged s part) part s
