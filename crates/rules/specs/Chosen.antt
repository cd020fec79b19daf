-- Phases 5 and 6 a second time (01): who is bound and who leaves, of the router in crates/model's words, VC by VC. An output VC is free
-- when no input VC is bound to it; no holder, no set and no table occurs here.
-- Assumes nothing.
use Rattle.arbiter.specs.declared.Arbiter.{Arbiter}
use Rattle.std.specs.Prelude.{Bool, true, false, cond, not, ◌&&◌, List, [], ◌∷◌, ℕ, ◌*◌, ◌/◌, ◌%◌, eqb, ltb}
use Rattle.std.specs.Prelude.{Option, Some, None}
use Rattle.base.specs.declared.config.Config.{Config}
use Rattle.base.specs.declared.flit.Flit.{Flit}
use Rattle.base.specs.Flit.{destination_of}
use Rattle.base.specs.Search.{every, first_from}
use Rattle.arbiter.specs.Arbiter.{choice, after}
use Rattle.model.specs.Channel.{queue_now}
use Rattle.model.specs.Router.{Router, OutVc}
use Rattle.model.specs.Cycle.{Event, Choice}
use Rattle.model.specs.Phases.{out_credit_now, granted}
use Rattle.state.specs.declared.Arbiters.{Arbiters}
use Rattle.state.specs.Sound.{front_is_for}
use Rattle.state.specs.Views.{channel_number, vc_arbiter, input_arbiter, output_arbiter}

abbrev pub is_bound_to : ℕ → ℕ → Option OutVc → Bool
is_bound_to o w None = false
is_bound_to o w (Some b) = eqb b.output o && eqb b.vc w

abbrev pub is_unbound : Option OutVc → Bool
is_unbound None = true
is_unbound (Some b) = false

-- an option that names this number
abbrev pub names : ℕ → Option ℕ → Bool
names n None = false
names n (Some m) = eqb m n

abbrev pub is_empty : List Flit → Bool
is_empty [] = true
is_empty (f ∷ fs) = false

module _ (c : Config) (a : Arbiters) (s : Router Flit) (e : Event Flit) where
  -- "An unbound one whose front flit is H or S asks at its destination", here output o
  unfoldable pub asks_at : ℕ → ℕ → ℕ → Bool
  asks_at o i v = is_unbound (s.bound i v) && front_is_for o (queue_now (s.channel i v))

  -- nobody is bound to VC w of output o
  unfoldable pub is_vc_free : ℕ → ℕ → Bool
  is_vc_free o w = every c.ports (λ (i : ℕ). every c.vcs (λ (v : ℕ). not (is_bound_to o w (s.bound i v))))

  -- "the lowest-numbered free VC", "if some VC of that output is free"
  unfoldable pub least_free : ℕ → Option ℕ
  least_free o = first_from (is_vc_free o) c.vcs 0

  abbrev pub if_free : Option ℕ → Option ℕ → Option ℕ
  if_free None winner = None
  if_free (Some w) winner = winner

  -- "One arbiter per output, P·V wide, requester number i·V+v, picks one"
  unfoldable pub binds_at : ℕ → Option ℕ
  binds_at o =
      if_free (least_free o)
      (choice 32 c.arbiter (c.ports * c.vcs) (λ (x : ℕ). asks_at o (x / c.vcs) (x % c.vcs)) (vc_arbiter a o))

  abbrev pub to_vc : ℕ → Option ℕ → Option OutVc
  to_vc o None = None
  to_vc o (Some w) = Some (record { output = o; vc = w })

  -- what VC v of input i is bound to in this cycle: by the output that its front names, if that output picks it
  abbrev pub grant_by : ℕ → ℕ → List Flit → Option OutVc
  grant_by i v [] = None
  grant_by i v (f ∷ q) = cond (names (channel_number c i v) (binds_at (destination_of f)))
      (to_vc (destination_of f) (least_free (destination_of f))) None

  unfoldable pub grant : ℕ → ℕ → Option OutVc
  grant i v = cond (ltb i c.ports && ltb v c.vcs) (grant_by i v (queue_now (s.channel i v))) None

  -- "A bound input VC (also one bound just now)"
  unfoldable pub bound_now : ℕ → ℕ → Option OutVc
  bound_now i v = granted (grant i v) (s.bound i v)

  abbrev pub paid : Option OutVc → Bool
  paid None = false
  paid (Some b) = not (eqb (out_credit_now s e b.output b.vc) 0)

  -- ".. is ready when its queue is not empty and its output VC has credit"
  unfoldable pub is_ready : ℕ → ℕ → Bool
  is_ready i v = paid (bound_now i v) && not (is_empty (queue_now (s.channel i v)))

  -- "Each input's V-wide arbiter picks one ready VC."
  unfoldable pub input_winner : ℕ → Option ℕ
  input_winner i = choice 8 c.arbiter c.vcs (is_ready i) (input_arbiter a i)

  abbrev pub is_for : ℕ → Option OutVc → Bool
  is_for o None = false
  is_for o (Some b) = eqb b.output o

  abbrev pub asks_for : ℕ → ℕ → Option ℕ → Bool
  asks_for o i None = false
  asks_for o i (Some v) = is_for o (bound_now i v)

  -- "each output's P-wide arbiter picks one row": among the inputs whose pick is bound to it
  unfoldable pub output_winner : ℕ → Option ℕ
  output_winner o = choice 8 c.arbiter c.ports (λ (i : ℕ). asks_for o i (input_winner i)) (output_arbiter a o)

  abbrev pub wins_at : ℕ → Option OutVc → Bool
  wins_at i None = false
  wins_at i (Some b) = names i (output_winner b.output)

  -- it leaves exactly if it is its input's winner, and its input is its output's winner
  unfoldable pub leaves : ℕ → ℕ → Bool
  leaves i v = ltb i c.ports && ltb v c.vcs && names v (input_winner i) && wins_at i (bound_now i v)

  -- THE choice of the arbiters
  unfoldable pub chosen : Choice
  chosen = record { grant = grant; leaves = leaves }

  -- each arbiter of a port that there is, afterwards
  unfoldable pub vc_arbiter_after : ℕ → Arbiter 32
  vc_arbiter_after o = after 32 c.arbiter (c.ports * c.vcs) (binds_at o) (vc_arbiter a o)

  unfoldable pub input_arbiter_after : ℕ → Arbiter 8
  input_arbiter_after i = after 8 c.arbiter c.vcs (input_winner i) (input_arbiter a i)

  unfoldable pub output_arbiter_after : ℕ → Arbiter 8
  output_arbiter_after o = after 8 c.arbiter c.ports (output_winner o) (output_arbiter a o)
