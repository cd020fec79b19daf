-- Phase 7, channel by channel: what a flit that leaves does to its input VC, its output VC, the home line and the reply; all else stays.
-- Assumes nothing.
use Rattle.base.specs.declared.reply.Departure.{Departure}
use mathlib.Core.Path.{◌≡◌, refl, ap, ◌∙◌}
use mathlib.Core.Bool.{Bool}
use mathlib.Core.List.{List}
use Rattle.std.specs.Prelude.{Option, Some, None}
use Prim.Native.Nat.{ℕ, ◌+◌, ◌-◌, ◌<◌}
use native.Mathlib.Omega.{arith}
use lib.ListN.{length, get_or, replicate}
use Rattle.base.specs.Flit.{kind_of, ends_kind}
use Rattle.state.specs.declared.InputVc.{InputVc}
use Rattle.state.specs.declared.OutputVc.{OutputVc}
use Rattle.state.specs.declared.Router.{Router}
use Rattle.state.specs.Fresh.{fresh_input, fresh_output}
use Rattle.state.specs.Views.{channel_number, input_at, output_at, home_place}
use Rattle.rules.specs.Ports.{over_ports}
use Rattle.rules.specs.Intake.{newest}
use Rattle.rules.specs.Departures.{Leaving, input_left, output_left, departure, leaving_of}
use Rattle.rules.proofs.Turns.{over_seen}
use Rattle.rules.proofs.Acts.{Untouched, acted, deeds, deeds_length, untouched_stays, touched_changes}
use Rattle.rules.proofs.Channels.{channel_apart}
use Rattle.rules.proofs.Exits.{Exit, exit, exits_differ, exits_apart, exits, at_first, leaving_exits}

-- "T or S" ends a packet
abbrev pub ends : Exit → Bool
ends e = ends_kind (kind_of e.flit)

module _ (s : Router) where
  -- where a flit that leaves by output o acts: its input VC, its output VC, the home line's newest place of its input, the reply's place
  abbrev pub from_place : ℕ → Exit → ℕ
  from_place o e = channel_number s.config e.input e.vc

  abbrev pub by_place : ℕ → Exit → ℕ
  by_place o e = channel_number s.config o e.by

  abbrev pub homeward : ℕ → Exit → ℕ
  homeward o e = newest s.config.back e.input

  abbrev pub replied : ℕ → Exit → ℕ
  replied o e = o

  -- and what it does there
  abbrev out_of : ℕ → Exit → InputVc → InputVc
  out_of o e x = input_left (ends e) x

  abbrev through : ℕ → Exit → OutputVc → OutputVc
  through o e y = output_left (ends e) y

  abbrev send_home : ℕ → Exit → ℕ → ℕ
  send_home o e place = e.vc + 1

  abbrev report_of : ℕ → Exit → Option Departure → Option Departure
  report_of o e before = departure e.by e.input e.vc e.flit

  -- a part of what phase 7 changes that each exit changes in one place
  part_fold : {A : Type 0} (part : Leaving → List A) (d : A) (place : ℕ → Exit → ℕ) (change : ℕ → Exit → A → A)
      → ((l : Leaving) (o : ℕ) (m : Option Exit) → part (exits s o m l) ≡ acted d (place o) (change o) m (part l))
      → part (leaving_of s) ≡ over_ports s.config.ports (deeds d (exit s) place change) (part (at_first s))
  part_fold part d place change same =
      ap part (leaving_exits s)
      ∙ over_seen part s.config.ports (λ l o. exits s o (exit s o) l) (deeds d (exit s) place change) (at_first s)
      (λ l o h. same l o (exit s o))

  inputs_fold : (leaving_of s).inputs ≡ over_ports s.config.ports (deeds (fresh_input 0) (exit s) from_place out_of) s.inputs
  inputs_fold = part_fold (λ (l : Leaving). l.inputs) (fresh_input 0) from_place out_of same
    where
      same : (l : Leaving) (o : ℕ) (m : Option Exit) → (exits s o m l).inputs ≡ acted (fresh_input 0) (from_place o) (out_of o) m l.inputs
      same l o None = refl
      same l o (Some e) = refl

  outputs_fold : (leaving_of s).outputs ≡ over_ports s.config.ports (deeds (fresh_output 0) (exit s) by_place through) s.outputs
  outputs_fold = part_fold (λ (l : Leaving). l.outputs) (fresh_output 0) by_place through same
    where
      same : (l : Leaving) (o : ℕ) (m : Option Exit) → (exits s o m l).outputs ≡ acted (fresh_output 0) (by_place o) (through o) m l.outputs
      same l o None = refl
      same l o (Some e) = refl

  home_fold : (leaving_of s).home ≡ over_ports s.config.ports (deeds 0 (exit s) homeward send_home) s.home
  home_fold = part_fold (λ (l : Leaving). l.home) 0 homeward send_home same
    where
      same : (l : Leaving) (o : ℕ) (m : Option Exit) → (exits s o m l).home ≡ acted 0 (homeward o) (send_home o) m l.home
      same l o None = refl
      same l o (Some e) = refl

  left_fold : (leaving_of s).left ≡ over_ports s.config.ports (deeds None (exit s) replied report_of) (replicate 8 None)
  left_fold = part_fold (λ (l : Leaving). l.left) None replied report_of same
    where
      same : (l : Leaving) (o : ℕ) (m : Option Exit) → (exits s o m l).left ≡ acted None (replied o) (report_of o) m l.left
      same l o None = refl
      same l o (Some e) = refl

  -- the lists keep their lengths
  pub left_inputs_length : length (leaving_of s).inputs ≡ length s.inputs
  left_inputs_length = ap length inputs_fold ∙ deeds_length (fresh_input 0) (exit s) from_place out_of s.config.ports s.inputs

  pub left_outputs_length : length (leaving_of s).outputs ≡ length s.outputs
  left_outputs_length = ap length outputs_fold ∙ deeds_length (fresh_output 0) (exit s) by_place through s.config.ports s.outputs

  pub left_home_length : length (leaving_of s).home ≡ length s.home
  left_home_length = ap length home_fold ∙ deeds_length 0 (exit s) homeward send_home s.config.ports s.home

  -- the input VC that a flit leaves: one less is queued, and it is unbound if that ends a packet
  pub exit_unqueues : (o : ℕ) (e : Exit) → o < s.config.ports → exit s o ≡ Some e
      → channel_number s.config e.input e.vc < length s.inputs
      → input_at s.config (leaving_of s).inputs e.input e.vc
      ≡ input_left (ends e) (input_at s.config s.inputs e.input e.vc)
  exit_unqueues o e l q m =
      ap (λ (xs : List InputVc). get_or xs (from_place o e) (fresh_input 0)) inputs_fold
      ∙ touched_changes (fresh_input 0) (exit s) from_place out_of s.config.ports s.inputs o e l q m
      (λ p f h r same. exits_apart s p o f e r q same)

  pub others_stay : (x : ℕ) → Untouched (exit s) from_place s.config.ports x
      → get_or (leaving_of s).inputs x (fresh_input 0) ≡ get_or s.inputs x (fresh_input 0)
  others_stay x off =
      ap (λ (xs : List InputVc). get_or xs x (fresh_input 0)) inputs_fold
      ∙ untouched_stays (fresh_input 0) (exit s) from_place out_of s.config.ports s.inputs x off

  -- the output VC that it leaves by: one credit less, and it is free if that ends a packet
  pub exit_pays : ((o : ℕ) (e : Exit) → exit s o ≡ Some e → e.by < s.config.vcs)
      → (o : ℕ) (e : Exit) → o < s.config.ports → exit s o ≡ Some e → channel_number s.config o e.by < length s.outputs
      → output_at s.config (leaving_of s).outputs o e.by ≡ output_left (ends e) (output_at s.config s.outputs o e.by)
  exit_pays near o e l q m =
      ap (λ (ys : List OutputVc). get_or ys (by_place o e) (fresh_output 0)) outputs_fold
      ∙ touched_changes (fresh_output 0) (exit s) by_place through s.config.ports s.outputs o e l q m
      (λ p f h r same. (channel_apart s.config p f.by o e.by (near p f r) (near o e q) same).0)

  pub unused_outputs_stay : (x : ℕ) → Untouched (exit s) by_place s.config.ports x
      → get_or (leaving_of s).outputs x (fresh_output 0) ≡ get_or s.outputs x (fresh_output 0)
  unused_outputs_stay x off =
      ap (λ (ys : List OutputVc). get_or ys x (fresh_output 0)) outputs_fold
      ∙ untouched_stays (fresh_output 0) (exit s) by_place through s.config.ports s.outputs x off

  -- the home line's newest place of its input: 1 + VC
  pub exit_sends_home : (o : ℕ) (e : Exit) → o < s.config.ports → exit s o ≡ Some e
      → newest s.config.back e.input < length s.home
      → home_place (leaving_of s).home (s.config.back - 1) e.input ≡ e.vc + 1
  exit_sends_home o e l q m =
      ap (λ (ps : List ℕ). get_or ps (homeward o e) 0) home_fold
      ∙ touched_changes 0 (exit s) homeward send_home s.config.ports s.home o e l q m
      (λ p f h r same. exits_differ s p o f e r q (omega arith))

  pub home_stays : (x : ℕ) → Untouched (exit s) homeward s.config.ports x → get_or (leaving_of s).home x 0 ≡ get_or s.home x 0
  home_stays x off =
      ap (λ (ps : List ℕ). get_or ps x 0) home_fold ∙ untouched_stays 0 (exit s) homeward send_home s.config.ports s.home x off

  -- the reply's place of its output
  pub exit_reported : (o : ℕ) (e : Exit) → o < s.config.ports → o < 8 → exit s o ≡ Some e
      → get_or (leaving_of s).left o None ≡ departure e.by e.input e.vc e.flit
  exit_reported o e l m q =
      ap (λ (rs : List (Option Departure)). get_or rs o None) left_fold
      ∙ touched_changes None (exit s) replied report_of s.config.ports (replicate 8 None) o e l q m (λ p f h r same. same)

  pub unreported : (o : ℕ) → Untouched (exit s) replied s.config.ports o → get_or (leaving_of s).left o None
      ≡ get_or (replicate 8 None) o None
  unreported o off =
      ap (λ (rs : List (Option Departure)). get_or rs o None) left_fold
      ∙ untouched_stays None (exit s) replied report_of s.config.ports (replicate 8 None) o off
