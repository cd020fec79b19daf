-- "Numbers given back" (01) for a cycle: the rule of each number, and their order.
-- Assumes nothing.
use Rattle.std.specs.Prelude.{Ok}
use Rattle.std.specs.Prelude.{Bool, cond, not, ◌&&◌, List, [], ◌∷◌, ℕ, ◌-◌, eqb, leb, ltb, length}
use Rattle.std.specs.Bool.{beq}
use Rattle.std.specs.Prelude.{Option, Some, None}
use Rattle.base.specs.declared.config.Config.{Config}
use Rattle.base.specs.Flit.{starts_kind}
use Rattle.base.specs.Numbers as numbers
use Rattle.base.specs.Search.{first_from}
use Rattle.base.specs.Sizes.{cycle_limit, most_ports}
use Rattle.state.specs.declared.InputVc.{InputVc}
use Rattle.state.specs.declared.OutputVc.{OutputVc}
use Rattle.state.specs.declared.Router.{Router}
use Rattle.state.specs.Sound.{sound}
use Rattle.state.specs.Views.{input_at, output_at}
use Rattle.trace.specs.Blocks.{cycle_length}
use Rattle.base.specs.Refusal.{Verdict, refusing}
use Rattle.rules.specs.Rows.{row_zero, row_legal, kind_at, vc_at, credit_at, brings}
use Rattle.rules.specs.Intake.{senders_paid}

-- 10, "the run already has 1,000,000,000 cycles"
unfoldable pub run_full : ℕ → Bool
run_full cycle = leb cycle_limit cycle

-- "A cycle part that isn't 64 bytes long gives 3 with port 0, before the other tests of 3"
unfoldable pub part_wrong : List ℕ → Bool
part_wrong part = not (eqb (length part) cycle_length)

-- 3, "row breaks the byte rules above, or VC, destination or credit too large"; ByteRules says the same rule by rule
unfoldable pub row_wrong : Config → List ℕ → ℕ → Bool
row_wrong c part i = not (cond (ltb i c.ports) (row_legal c part i) (row_zero part i))

-- 6, "downstream credit where that output VC already has E"
unfoldable pub credit_past_room : Config → List OutputVc → List ℕ → ℕ → Bool
credit_past_room c outputs part o = not (eqb (credit_at part o) 0) && eqb (output_at c outputs o (credit_at part o - 1)).credit c.downstream

-- 4, "B or T with no packet open at that sender VC, or H or S with one open"
unfoldable pub out_of_turn : Config → List InputVc → List ℕ → ℕ → Bool
out_of_turn c inputs part i = brings part i && beq (starts_kind (kind_at part i)) (input_at c inputs i (vc_at part i)).opened

-- 5, "no sender credit, after phase 1": the input VCs are those after phase 1
unfoldable pub no_sender_credit : Config → List InputVc → List ℕ → ℕ → Bool
no_sender_credit c paid part i = brings part i && eqb (input_at c paid i (vc_at part i)).credit 0

-- a number, how many ports it is tested at (one where it has no port), and whether its rule holds at a port
pub record Rule : Type 0 where
  pub number : ℕ
  pub ports : ℕ
  pub holds : ℕ → Bool

abbrev pub rule : ℕ → ℕ → (ℕ → Bool) → Rule
rule number ports holds = record { number = number; ports = ports; holds = holds }

abbrev pub rule2 : Router → Rule
rule2 s = rule numbers.not_sound 1 (λ (p : ℕ). not (sound s))

abbrev pub rule10 : ℕ → Rule
rule10 cycle = rule numbers.run_full 1 (λ (p : ℕ). run_full cycle)

abbrev pub rule_part : List ℕ → Rule
rule_part part = rule numbers.row_wrong 1 (λ (p : ℕ). part_wrong part)

abbrev pub rule3 : Config → List ℕ → Rule
rule3 c part = rule numbers.row_wrong most_ports (row_wrong c part)

abbrev pub rule6 : Config → List OutputVc → List ℕ → Rule
rule6 c outputs part = rule numbers.credit_past_room c.ports (credit_past_room c outputs part)

abbrev pub rule4 : Config → List InputVc → List ℕ → Rule
rule4 c inputs part = rule numbers.out_of_turn c.ports (out_of_turn c inputs part)

abbrev pub rule5 : Config → List InputVc → List ℕ → Rule
rule5 c paid part = rule numbers.no_sender_credit c.ports (no_sender_credit c paid part)

-- "10, then 3, 6, 4, 5", and of 3 the part's length first
abbrev pub rules_for : Config → ℕ → List InputVc → List InputVc → List OutputVc → List ℕ → List Rule
rules_for c cycle inputs paid outputs part =
    rule10 cycle ∷ rule_part part ∷ rule3 c part ∷ rule6 c outputs part ∷ rule4 c inputs part ∷ rule5 c paid part ∷ []

-- "Cycle: 2, 10, then 3, 6, 4, 5"
abbrev pub rules_of : Router → List ℕ → List Rule
rules_of s part =
    rule2 s ∷ rules_for s.config s.cycle s.inputs (senders_paid s.config s.home s.inputs) s.outputs part

abbrev pub refused_at : ℕ → Option ℕ → Verdict → Verdict
refused_at n (Some p) later = refusing n p
refused_at n None later = later

-- "each over all ports in rising order before the next number"
unfoldable pub first_of : List Rule → Verdict
first_of [] = Ok tt
first_of (r ∷ rs) = refused_at r.number (first_from r.holds r.ports 0) (first_of rs)

unfoldable pub judged : Router → List ℕ → Verdict
judged s part = first_of (rules_of s part)
