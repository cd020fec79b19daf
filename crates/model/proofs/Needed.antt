-- Each limit is needed: for each fact of `Legal` cycles by value that break it alone, and what then goes wrong. Two ports, two VCs, D =
-- 2, E = F = B = 1.
-- Assumes nothing.
use mathlib.Core.Path.{◌≡◌, refl}
use mathlib.Core.Bool.{not}
use Rattle.std.specs.Prelude.{None, Some}
use mathlib.Core.List.{List, [], ◌∷◌, ◌++◌, map}
use Prim.Native.Nat.{ℕ, ◌+◌}
use native.Mathlib.Omega.{arith}
use lib.Dec.{T, eqb}
use lib.ListN.{length}
use Rattle.model.specs.Lists.{keep, All}
use Rattle.model.specs.Sizes.{Config}
use Rattle.model.specs.Channel.{Channel, stored, on_wire, going_home}
use Rattle.model.specs.Router.{Router, fresh}
use Rattle.model.specs.History.{Entry, History, Departure, after, gather, accepted, left_from, left_on}
use Rattle.model.specs.Limits.{NamesInRange, credits_on}
use Rattle.model.specs.Demand3.{LeftByDestination}
use Rattle.model.proofs.Given.{Given, router_after, history_after}
use Rattle.model.proofs.Test.{tests, legals?}
use Rattle.model.proofs.Sample.{Flit, looks, head, body, tail, single, offer, credit, bind, from, left, cycle}

abbrev pub config : Config
config = record { ports = 2; vcs = 2; depth = 2; downstream = 1; forward = 1; back = 1 }

abbrev pub router : List (Given Flit) → Router Flit
router gs = router_after looks config (fresh config) gs

abbrev pub history : List (Given Flit) → History Flit
history gs = history_after looks config (fresh config) [] gs

-- the four numbers of a channel together
abbrev pub sum : Channel Flit → ℕ
sum ch = stored config ch + length (on_wire ch) + length ch.queue + going_home ch

-- The cycles `before` are within the limits, the next breaks the n-th fact of `Legal` and no other, the cycles `behind` are within them
-- again. Of the router and
-- the history after them all `Wrong` holds.
pub record Breaks (n : ℕ) (before : List (Given Flit)) (bad : Given Flit) (behind : List (Given Flit))
    (Wrong : Router Flit → History Flit → Type 0) : Type 0
  where
    pub fine : T (legals? looks config (fresh config) before)
    pub alone : tests looks config (router before) bad ≡ map (λ m. not (eqb m n))
        (0 ∷ 1 ∷ 2 ∷ 3 ∷ 4 ∷ 5 ∷ 6 ∷ 7 ∷ 8 ∷ 9 ∷ 10 ∷ 11 ∷ 12 ∷ 13 ∷ 14 ∷ 15 ∷ [])
    pub fine_again : T (legals? looks config (router (before ++ (bad ∷ []))) behind)
    pub wrong : Wrong (router (before ++ (bad ∷ behind))) (history (before ++ (bad ∷ behind)))

-- offer_port: an offer at port 2 of 0 and 1 takes a slot where there is no channel, and the history does not show it (nothing_beyond).
pub port_beyond : Breaks 0 [] (cycle (offer 2 0 (single 1 7) ∷ []) [] [] []) [] (λ s h. ((s.channel 2 0).taken ≡ 1) × (accepted 2 0 h ≡ []))
port_beyond = record { fine = tt; alone = refl; fine_again = tt; wrong = (refl, refl) }

-- offer_vc: an offer on VC 2 of 0 and 1 takes a slot where there is no channel, and the history names it (demand 3).
pub vc_beyond : Breaks 1 [] (cycle (offer 0 2 (single 1 7) ∷ []) [] [] []) [] (λ s h. ((s.channel 0 2).taken ≡ 1)
    × ¬ All (NamesInRange config) h)
vc_beyond = record { fine = tt; alone = refl; fine_again = tt; wrong = (refl, λ names. absurd (omega (arith, names.0.offers.0.1))) }

-- offer_destination: a head for port 5 leaves by an output that does not exist (demand 3).
pub destination_beyond : Breaks 2 [] (cycle (offer 0 0 (single 5 7) ∷ []) [] [] []) (cycle [] [] (bind 0 0 5 0 ∷ []) (from 0 0 ∷ []) ∷ [])
    (λ s h. (left_on 5 0 h ≡ left 5 0 0 0 (single 5 7) ∷ []) × ¬ All (NamesInRange config) h)
destination_beyond =
    record { fine = tt; alone = refl; fine_again = tt; wrong = (refl, λ names. absurd (omega (arith, names.0.outputs.0.0))) }

-- room: a credit from downstream where the output VC has E (output_credits-law).
pub credit_past_e : Breaks 3 [] (cycle [] (credit 1 0 ∷ []) [] []) [] (λ s h. s.out_credit 1 0 ≡ 2)
credit_past_e = record { fine = tt; alone = refl; fine_again = tt; wrong = refl }

-- kinds: a head inside an open packet. On the output VC a head follows a head (demand 3).
pub head_inside : Breaks 4 (cycle (offer 0 0 (head 1 7) ∷ []) [] [] [] ∷ [])
    (cycle (offer 0 0 (head 1 8) ∷ []) [] (bind 0 0 1 0 ∷ []) (from 0 0 ∷ []))
    (cycle [] (credit 1 0 ∷ []) [] (from 0 0 ∷ []) ∷ []) (λ s h. left_on 1 0 h ≡ left 1 0 0 0 (head 1 7) ∷ left 1 0 0 0 (head 1 8) ∷ [])
head_inside = record { fine = tt; alone = refl; fine_again = tt; wrong = refl }

-- kinds: a body with no packet open stands in front of an unbound input VC, for ever (front_starts).
pub body_outside : Breaks 4 [] (cycle (offer 0 0 (body 7) ∷ []) [] [] []) (cycle [] [] [] [] ∷ [])
    (λ s h. (s.bound 0 0 ≡ None) × ((s.channel 0 0).queue ≡ body 7 ∷ []))
body_outside = record { fine = tt; alone = refl; fine_again = tt; wrong = (refl, refl) }

-- paid: a third flit where two slots are. The four numbers make three (demand 3).
pub not_paid : Breaks 5 (cycle (offer 0 0 (single 1 7) ∷ []) [] [] [] ∷ cycle (offer 0 0 (single 1 7) ∷ []) [] [] [] ∷ [])
    (cycle (offer 0 0 (single 1 7) ∷ []) [] [] []) [] (λ s h. sum (s.channel 0 0) ≡ 3)
not_paid = record { fine = tt; alone = refl; fine_again = tt; wrong = refl }

-- binds_unbound: an input VC that is bound is bound to another output VC, though nothing left (stays_bound).
pub bound_again : Breaks 6 (cycle (offer 0 0 (head 1 7) ∷ []) [] [] [] ∷ cycle [] [] (bind 0 0 1 0 ∷ []) [] ∷ [])
    (cycle [] [] (bind 0 0 1 1 ∷ []) []) []
    (λ s h. (s.bound 0 0 ≡ Some (record { output = 1; vc = 1 })) × (left_from 0 0 h ≡ []))
bound_again = record { fine = tt; alone = refl; fine_again = tt; wrong = (refl, refl) }

-- binds_front: an input VC is bound to output 1 with an empty queue. The flit that comes is for output 0 and leaves by 1 (demand 3).
pub empty_bound : Breaks 7 [] (cycle (offer 0 0 (single 0 7) ∷ []) [] (bind 0 0 1 0 ∷ []) []) (cycle [] [] [] (from 0 0 ∷ []) ∷ [])
    (λ s h. (left_from 0 0 h ≡ left 1 0 0 0 (single 0 7) ∷ []) × ¬ LeftByDestination looks (left_from 0 0 h) (accepted 0 0 h))
empty_bound = record { fine = tt; alone = refl; fine_again = tt; wrong = (refl, λ left. absurd (omega (arith, left.0 refl))) }

-- binds_front: a head for output 0 is bound to output 1 and leaves by it (demand 3).
pub other_output : Breaks 7 (cycle (offer 0 0 (single 0 7) ∷ []) [] [] [] ∷ []) (cycle [] [] (bind 0 0 1 0 ∷ []) (from 0 0 ∷ [])) []
    (λ s h. (left_from 0 0 h ≡ left 1 0 0 0 (single 0 7) ∷ []) × ¬ LeftByDestination looks (left_from 0 0 h) (accepted 0 0 h))
other_output = record { fine = tt; alone = refl; fine_again = tt; wrong = (refl, λ left. absurd (omega (arith, left.0 refl))) }

-- binds_free: an output VC that one input VC holds is given to another. A packet holds flits of two sources (demand 3).
pub in_use : Breaks 8 (cycle (offer 0 0 (head 1 7) ∷ offer 1 0 (head 1 8) ∷ []) [] [] [] ∷ cycle [] [] (bind 0 0 1 0 ∷ [])
    (from 0 0 ∷ []) ∷ [])
    (cycle [] (credit 1 0 ∷ []) (bind 1 0 1 0 ∷ []) (from 1 0 ∷ [])) []
    (λ s h. left_on 1 0 h ≡ left 1 0 0 0 (head 1 7) ∷ left 1 0 1 0 (head 1 8) ∷ [])
in_use = record { fine = tt; alone = refl; fine_again = tt; wrong = refl }

-- binds_free: an output VC is given out in the cycle in which a single of another input VC leaves on it (one_holder).
pub freed_now : Breaks 8 (cycle (offer 0 0 (single 1 7) ∷ offer 1 0 (single 1 8) ∷ []) [] [] [] ∷ cycle [] [] (bind 0 0 1 0 ∷ []) [] ∷ [])
    (cycle [] [] (bind 1 0 1 0 ∷ []) (from 0 0 ∷ [])) []
    (λ s h. (s.bound 1 0 ≡ Some (record { output = 1; vc = 0 })) × (left_on 1 0 (after 2 1 h) ≡ left 1 0 0 0 (single 1 7) ∷ []))
freed_now = record { fine = tt; alone = refl; fine_again = tt; wrong = (refl, refl) }

-- binds_vc: a flit leaves on VC 2 of 0 and 1 (demand 3).
pub output_vc_beyond : Breaks 9 (cycle (offer 0 0 (single 1 7) ∷ []) [] [] [] ∷ []) (cycle [] [] (bind 0 0 1 2 ∷ []) (from 0 0 ∷ [])) []
    (λ s h. (left_on 1 2 h ≡ left 1 2 0 0 (single 1 7) ∷ []) × ¬ All (NamesInRange config) h)
output_vc_beyond =
    record { fine = tt; alone = refl; fine_again = tt; wrong = (refl, λ names. absurd (omega (arith, names.0.outputs.0.1))) }

-- binds_once: two input VCs are bound to one output VC in one cycle. A packet holds flits of two sources (demand 3).
pub same_output_vc : Breaks 10 (cycle (offer 0 0 (head 1 7) ∷ offer 1 0 (head 1 8) ∷ []) [] [] [] ∷ [])
    (cycle [] [] (bind 0 0 1 0 ∷ bind 1 0 1 0 ∷ []) (from 0 0 ∷ [])) (cycle [] (credit 1 0 ∷ []) [] (from 1 0 ∷ []) ∷ [])
    (λ s h. left_on 1 0 h ≡ left 1 0 0 0 (head 1 7) ∷ left 1 0 1 0 (head 1 8) ∷ [])
same_output_vc = record { fine = tt; alone = refl; fine_again = tt; wrong = refl }

-- binds_once: one output binds two in one cycle, to two of its VCs (binds_once-law).
pub same_output : Breaks 10 (cycle (offer 0 0 (single 1 7) ∷ offer 1 0 (single 1 7) ∷ []) [] [] [] ∷ [])
    (cycle [] [] (bind 0 0 1 0 ∷ bind 1 0 1 1 ∷ []) [])
    [] (λ s h. (s.bound 0 0 ≡ Some (record { output = 1; vc = 0 })) × (s.bound 1 0 ≡ Some (record { output = 1; vc = 1 })))
same_output = record { fine = tt; alone = refl; fine_again = tt; wrong = (refl, refl) }

-- leaves_bound: a flit of an unbound input VC goes, and goes nowhere (demand 3).
pub unbound_leaves : Breaks 11 (cycle (offer 0 0 (single 1 7) ∷ []) [] [] [] ∷ []) (cycle [] [] [] (from 0 0 ∷ [])) []
    (λ s h. (left_from 0 0 h ≡ []) × ((s.channel 0 0).queue ≡ []) × (accepted 0 0 h ≡ single 1 7 ∷ []))
unbound_leaves = record { fine = tt; alone = refl; fine_again = tt; wrong = (refl, refl, refl) }

-- leaves_flit: a bound input VC with an empty queue is to leave, and a credit without a flit goes home (demand 3).
pub nothing_leaves : Breaks 12 (cycle (offer 0 0 (head 1 7) ∷ []) [] [] [] ∷ cycle [] [] (bind 0 0 1 0 ∷ []) (from 0 0 ∷ []) ∷ [])
    (cycle [] (credit 1 0 ∷ []) [] (from 0 0 ∷ [])) [] (λ s h. (going_home (s.channel 0 0) ≡ 1) × (left_from 0 0 (after 2 1 h) ≡ []))
nothing_leaves = record { fine = tt; alone = refl; fine_again = tt; wrong = (refl, refl) }

-- leaves_credit: a flit leaves without an output credit, and one credit is short for ever (output_credits-law).
pub unpaid_output : Breaks 13 (cycle (offer 0 0 (head 1 7) ∷ []) [] [] [] ∷ cycle (offer 0 0 (tail 8) ∷ []) [] (bind 0 0 1 0 ∷ [])
    (from 0 0 ∷ []) ∷ [])
    (cycle [] [] [] (from 0 0 ∷ [])) [] (λ s h. (s.out_credit 1 0 + length (left_on 1 0 h) ≡ 2)
    × (config.downstream + length (credits_on 1 0 h) ≡ 1))
unpaid_output = record { fine = tt; alone = refl; fine_again = tt; wrong = (refl, refl) }

-- input_once: two VCs of input 0 leave together (once_per_port).
pub one_input : Breaks 14 (cycle (offer 0 0 (single 0 7) ∷ []) [] [] [] ∷ cycle (offer 0 1 (single 1 7) ∷ []) [] [] [] ∷ [])
    (cycle [] [] (bind 0 0 0 0 ∷ bind 0 1 1 0 ∷ []) (from 0 0 ∷ from 0 1 ∷ [])) []
    (λ s h. length (keep (λ (d : Departure Flit). eqb d.input 0) (gather (λ (e : Entry Flit). e.departures) (after 2 1 h))) ≡ 2)
one_input = record { fine = tt; alone = refl; fine_again = tt; wrong = refl }

-- output_once: two inputs leave by output 1 together (once_per_port).
pub one_output : Breaks 15 (cycle (offer 0 0 (single 1 7) ∷ offer 1 0 (single 1 7) ∷ []) [] [] [] ∷ cycle [] [] (bind 0 0 1 0 ∷ []) [] ∷ [])
    (cycle [] [] (bind 1 0 1 1 ∷ []) (from 0 0 ∷ from 1 0 ∷ [])) []
    (λ s h. length (keep (λ (d : Departure Flit). eqb d.output 1) (gather (λ (e : Entry Flit). e.departures) (after 2 1 h))) ≡ 2)
one_output = record { fine = tt; alone = refl; fine_again = tt; wrong = refl }
