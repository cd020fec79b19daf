-- The examples that document 01 marks with a star, as one table, through the definitions that the contracts cite.
-- Assumes nothing.
use Rattle.std.specs.Prelude.{Ok}
use Rattle.std.specs.Prelude.{◌≡◌, List, [], ◌∷◌, ◌++◌, ℕ, length, replicate}
use Rattle.std.specs.Prelude.{Option, Some}
use Rattle.base.specs.declared.config.Config.{Config}
use Rattle.base.specs.Bits.{bit}
use Rattle.base.specs.Flit.{single}
use Rattle.base.specs.Sizes.{sized}
use Rattle.arbiter.specs.declared.Arbiter.{Arbiter}
use Rattle.arbiter.specs.Arbiter.{round_robin, matrix, choice, after, fresh, arbiter_of}
use Rattle.trace.specs.Check.{check_value}
use Rattle.state.specs.declared.Router.{Router}
use Rattle.state.specs.Fresh.{fresh_router}
use Rattle.base.specs.Refusal.{Verdict}
use Rattle.base.specs.Refusal.{refusing}
use Rattle.rules.specs.Step.{step_of}
use Rattle.history.specs.Run.{run_of}
use Rattle.history.specs.Demand3.{stored_credits, buffered, on_wire, going_home}
use Rattle.runs.specs.Run.{started}
use Rattle.night.specs.Calls.{Hands}
use Rattle.night.specs.File.{list_of}
use Rattle.examples.specs.Listing.{config, cycle0, cycle1, cycle2, cycle3, cycle4, cycle5, block0, block2, file, printed}

-- of VC 0 of input 0 after these cycles: credit, wire, queue, home
abbrev counts_in : Router → List ℕ
counts_in s = stored_credits config s 0 0 ∷ length (on_wire config s 0 0) ∷ buffered config s 0 0 ∷ going_home config s 0 0 ∷ []

abbrev counts_after : List (List ℕ) → List ℕ
counts_after parts = counts_in (run_of config parts).router

-- who wins a call, and the arbiter after its pick is kept; who asks is a word, bit i for requester i
abbrev wins : ℕ → ℕ → ℕ → Arbiter 8 → Option ℕ
wins code n asking a = choice 8 code n (bit asking) a

abbrev next : ℕ → ℕ → ℕ → Arbiter 8 → Arbiter 8
next code n asking a = after 8 code n (wins code n asking a) a

-- "Round robin, n=4, pointer 2", "Fresh matrix, n=3"
abbrev turned : Arbiter 8
turned = arbiter_of 2 (replicate 8 0)

abbrev ordered : Arbiter 8
ordered = fresh 8 matrix 3

-- "P=V=1, F=B=3, E=16, S offered each cycle": under either arbiter
abbrev link : ℕ → ℕ → Config
link depth arbiter = sized 1 1 depth 16 3 3 arbiter

abbrev offer : List ℕ
offer = single ∷ replicate 63 0

abbrev empty : List ℕ
empty = replicate 64 0

-- what a router says to these cycles, one after another
unfoldable pub verdicts : Router → List (List ℕ) → List Verdict
verdicts s [] = []
verdicts s (part ∷ parts) = (step_of s part).verdict ∷ verdicts (step_of s part).router parts

abbrev takes12 : ℕ → List Verdict
takes12 arbiter = verdicts (fresh_router (link 6 arbiter)) (replicate 12 offer)

abbrev refuses1 : ℕ → List Verdict
refuses1 arbiter = verdicts (fresh_router (link 5 arbiter)) (replicate 6 offer ++ empty ∷ offer ∷ [])

pub record Starred : Type 0 where
  -- "Listing": the list of the file; and whatever calls of the run entry the file is handed over in, they write that, and some do
  pub list_printed : list_of file ≡ printed
  pub written_always : (out : List ℕ) → Hands started file out → out ≡ printed
  pub written_by_some : Hands started file printed
  -- "After cycle 3, input 0 has credit 0, wire 0, queue 2, home 0; after cycle 5, 1, 0, 0, 1."
  pub after3 : counts_after (cycle0 ∷ cycle1 ∷ cycle2 ∷ cycle3 ∷ []) ≡ 0 ∷ 0 ∷ 2 ∷ 0 ∷ []
  pub after5 : counts_after (cycle0 ∷ cycle1 ∷ cycle2 ∷ cycle3 ∷ cycle4 ∷ cycle5 ∷ []) ≡ 1 ∷ 0 ∷ 0 ∷ 1 ∷ []
  -- "That configuration block's check is 126; its end block's is 87; 510 bytes of 255 give 8,628."
  pub configuration_check : check_value block0 ≡ 126
  pub end_check : check_value block2 ≡ 87
  pub all_255 : check_value (replicate 510 255) ≡ 8628
  -- "{0,1,3} gives 3, pointer 0; {0,1} gives 0, pointer 1."
  pub winner_after_pointer : wins round_robin 4 0b1011 turned ≡ Some 3
  pub pointer_wraps : (next round_robin 4 0b1011 turned).pointer ≡ 0
  pub winner_before_pointer : wins round_robin 4 0b0011 turned ≡ Some 0
  pub pointer_moves : (next round_robin 4 0b0011 turned).pointer ≡ 1
  -- "{0,2} gives 0, {0,2} gives 2, {0,1,2} gives 1."
  pub lowest_first : wins matrix 3 0b101 ordered ≡ Some 0
  pub winner_now_loses : wins matrix 3 0b101 (next matrix 3 0b101 ordered) ≡ Some 2
  pub both_now_lose : wins matrix 3 0b111 (next matrix 3 0b101 (next matrix 3 0b101 ordered)) ≡ Some 1
  -- "D=6 takes cycles 0..11"
  pub six_take : (takes12 round_robin ≡ replicate 12 (Ok tt)) × (takes12 matrix ≡ replicate 12 (Ok tt))
  -- "D=5 refuses cycle 5 with 5, and the next offer after one empty cycle is taken"
  pub five_refuse : (refuses1 round_robin ≡ replicate 5 (Ok tt) ++ refusing 5 0 ∷ (Ok tt) ∷ (Ok tt) ∷ [])
      × (refuses1 matrix ≡ replicate 5 (Ok tt) ++ refusing 5 0 ∷ (Ok tt) ∷ (Ok tt) ∷ [])
