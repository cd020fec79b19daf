-- "A fresh router is sound", for every legal configuration.
-- Assumes nothing.
use mathlib.Core.Path.{◌≡◌, refl, sym, ap, ap₂, subst, ◌∙◌}
use mathlib.Core.Bool.{Bool, true, false, cond, ◌&&◌, ◌||◌, or-true}
use mathlib.Core.List.{List, [], ◌∷◌, ◌++◌, map, cons-ne-nil}
use mathlib.Core.Logic.{◌⊎◌, inl, inr}
use Prim.Native.Nat.{ℕ, zero, suc, ◌+◌, ◌-◌, ◌*◌, ◌≤◌, ◌<◌, zero-le}
use native.Mathlib.Nat.{le_refl, le_antisymm, mul-le-mul}
use native.Mathlib.Omega.{arith}
use Rattle.std.proofs.Common.{lit≤}
use lib.Arith.{digits_lt, lt_of_le-ne}
use lib.Dec.{eqb, ltb}
use lib.ListN.{length, get_or, take, drop, replicate, length-append, length-replicate, get_or-replicate, get_or-append, get_or-eq_default}
use lib.Seq.{get_or-append-add}
use borrow.Author.Tests.{le-leb, eq-eqb, ne_eqb, eqb-true, eqb-false, ltb-true, ltb-false}
use Rattle.base.specs.declared.config.Config.{Config}
use Rattle.base.specs.Search.{every}
use Rattle.base.proofs.Search.{all_every}
use Rattle.base.proofs.Configurations.{Legal, legal_exact}
use Rattle.arbiter.specs.Arbiter as arbiter
use Rattle.arbiter.specs.Matrix.{blank_from}
use Rattle.arbiter.proofs.ByKind.{Known}
use Rattle.arbiter.proofs.Soundness.{fresh_sound, sound_holds}
use Rattle.state.specs.Fresh.{filled, fresh_input, fresh_output, no_arbiter, past_arbiter, fresh_router}
use Rattle.state.specs.Views.{channel_number, input_at, output_at, queue_of, wire_place, wire_of, home_of, home_place, on_vc, queue_at}
use Rattle.state.specs.Views.{slot_flit}
use Rattle.state.specs.Views.{wire_flit, wire_vc, places, flat, total, vc_arbiter, input_arbiter, output_arbiter}
use Rattle.state.specs.Sound
use Rattle.state.proofs.Exact.{sound_passes}
use Rattle.state.proofs.Made.{channels_fit}

-- a filled array: the places below n, and those from n on
filled_below : {A : Type 0} (n size : ℕ) (x z d : A) (k : ℕ) → k < n → get_or (filled n size x z) k d ≡ x
filled_below n size x z d k h =
    get_or-append (replicate n x) (replicate (size - n) z) d k (subst (λ m. k < m) (sym (length-replicate n x)) h)
    ∙ get_or-replicate n k x d h

-- an array of one value has it everywhere, and past its end it is the default
same_at : {A : Type 0} (m : ℕ) (z : A) (k : ℕ) → get_or (replicate m z) k z ≡ z
same_at m z k = go (ltb k m) refl
  where
    go : (b : Bool) → ltb k m ≡ b → get_or (replicate m z) k z ≡ z
    go true e = get_or-replicate m k z z (ltb-true k m e)
    go false e = get_or-eq_default (replicate m z) z (subst (λ l. l ≤ k) (sym (length-replicate m z)) (ltb-false k m e))

filled_from : {A : Type 0} (n size : ℕ) (x z : A) (k : ℕ) → n ≤ k → get_or (filled n size x z) k z ≡ z
filled_from n size x z k h =
    let e : k ≡ length (replicate n x) + (k - n) = omega (arith, length-replicate n x) in
    ap (λ m. get_or (filled n size x z) m z) e ∙ get_or-append-add (replicate n x) (replicate (size - n) z) (k - n) z
    ∙ same_at (size - n) z (k - n)

filled_at : {A : Type 0} (n size : ℕ) (x z d : A) (k : ℕ) → n ≤ k → k < size → get_or (filled n size x z) k d ≡ z
filled_at n size x z d k h g =
    let e : k ≡ length (replicate n x) + (k - n) = omega (arith, length-replicate n x) in
    ap (λ m. get_or (filled n size x z) m d) e ∙ get_or-append-add (replicate n x) (replicate (size - n) z) (k - n) d
    ∙ get_or-replicate (size - n) (k - n) z d (omega arith)

-- a line of nothing holds nothing
flat_more : {A : Type 0} (xs : List (List A)) → flat xs ≡ [] → flat (xs ++ ([] ∷ [])) ≡ []
unfolding flat
flat_more [] e = refl
flat_more ([] ∷ xs) e = flat_more xs e
flat_more ((x ∷ ys) ∷ xs) e = absurd (cons-ne-nil x (ys ++ flat xs) e)

flat_none : {A : Type 0} (n : ℕ) (f : ℕ → List A) → ((k : ℕ) → f k ≡ []) → flat (places n f) ≡ []
unfolding places flat
flat_none zero f off = refl
flat_none (suc n) f off = ap (λ x. flat (places n f ++ (x ∷ []))) (off n) ∙ flat_more (places n f) (flat_none n f off)

total_none : (n : ℕ) (f : ℕ → ℕ) → ((k : ℕ) → f k ≡ 0) → total (places n f) ≡ 0
unfolding places total
total_none zero f off = refl
total_none (suc n) f off = ap (λ x. total (places n f ++ (x ∷ []))) (off n) ∙ total_more (places n f) (total_none n f off)
  where
    total_more : (xs : List ℕ) → total xs ≡ 0 → total (xs ++ (0 ∷ [])) ≡ 0
    total_more [] e = refl
    total_more (x ∷ xs) e = let r = total_more xs (omega arith) in omega arith

length_filled : {A : Type 0} (n size : ℕ) (x z : A) → n ≤ size → length (filled n size x z) ≡ size
length_filled n size x z h =
    let a = length-append (replicate n x) (replicate (size - n) z) in
    let b = length-replicate n x in
    let d = length-replicate (size - n) z in
    omega arith

module _ (c : Config) (legal : Legal c) where
  channels : c.ports * c.vcs ≤ 32
  channels = channels_fit c.ports c.vcs legal.ports.1 legal.vcs.1

  -- what stands at a channel that there is
  pub input_is : (i v : ℕ) → i < c.ports → v < c.vcs → input_at c (fresh_router c).inputs i v ≡ fresh_input c.depth
  unfolding fresh_router
  input_is i v h g = filled_below (c.ports * c.vcs) 32 (fresh_input c.depth) (fresh_input 0) (fresh_input 0) (i * c.vcs + v)
      (digits_lt h g)

  pub output_is : (o w : ℕ) → o < c.ports → w < c.vcs → output_at c (fresh_router c).outputs o w ≡ fresh_output c.downstream
  unfolding fresh_router
  output_is o w h g = filled_below (c.ports * c.vcs) 32 (fresh_output c.downstream) (fresh_output 0) (fresh_output 0) (o * c.vcs + w)
      (digits_lt h g)

  -- nothing is on the wire or on its way home
  pub wire_is : (k i : ℕ) → wire_place (fresh_router c).wire k i ≡ 0
  unfolding fresh_router
  wire_is k i = same_at 64 0 (8 * k + i)

  pub home_is : (k i : ℕ) → home_place (fresh_router c).home k i ≡ 0
  unfolding fresh_router
  home_is k i = same_at 64 0 (8 * k + i)

  -- every channel passes a test that its fresh parts pass
  channels_pass : (test : ℕ → ℕ → Bool) → ((i v : ℕ) → i < c.ports → v < c.vcs → test i v ≡ true) → Sound.every_channel c test ≡ true
  unfolding fresh_router
  channels_pass test all = all_every c.ports (λ i. every c.vcs (test i)) (λ i h. all_every c.vcs (test i) (λ v g. all i v h g))

  configuration : Sound.configuration_legal (fresh_router c).config ≡ true
  unfolding Sound.configuration_legal Sound.is_none fresh_router
  configuration = ap Sound.is_none ((legal_exact c).1 legal)

  cycles : Sound.cycles_fit (fresh_router c).cycle ≡ true
  unfolding Sound.cycles_fit fresh_router
  cycles = refl

  -- "sender credit + wire + queue + credits going home = D": all of it is stored credit
  no_wire : (i v : ℕ) → flat (wire_of c (fresh_router c).wire i v) ≡ []
  unfolding wire_of
  no_wire i v = flat_none c.forward (λ k. on_vc v (wire_place (fresh_router c).wire k i)) (λ k. ap (on_vc v) (wire_is k i))

  no_home : (i v : ℕ) → total (home_of c (fresh_router c).home i v) ≡ 0
  unfolding home_of
  no_home i v = total_none c.back (λ k. cond (eqb (home_place (fresh_router c).home k i) (v + 1)) 1 0)
      (λ k. ap (λ b. cond b 1 0) (ap (λ x. eqb x (v + 1)) (home_is k i) ∙ ne_eqb 0 (v + 1) (λ e. omega arith)))

  credits : Sound.credits_add_up (fresh_router c).config (fresh_router c).inputs (fresh_router c).wire (fresh_router c).home ≡ true
  unfolding Sound.credits_add_up Sound.credits_whole fresh_router
  credits =
      channels_pass _ (λ i v h g.
      sum_is (input_at c (fresh_router c).inputs i v).credit (length (flat (wire_of c (fresh_router c).wire i v))) (input_at c
      (fresh_router c).inputs i v).queued
      (total (home_of c (fresh_router c).home i v)) c.depth
      (ap (λ x. x.credit) (input_is i v h g)) (ap length (no_wire i v)) (ap (λ x. x.queued) (input_is i v h g)) (no_home i v))
    where
      sum_is : (x w q r d : ℕ) → x ≡ d → w ≡ 0 → q ≡ 0 → r ≡ 0 → eqb (x + w + q + r) d ≡ true
      sum_is x w q r d a e f b = eq-eqb (x + w + q + r) d (omega arith)

  wire : Sound.wire_legal (fresh_router c).config (fresh_router c).wire ≡ true
  unfolding Sound.wire_legal Sound.wire_place_legal fresh_router
  wire =
      all_every c.forward _ (λ k h.
      all_every c.ports _ (λ i g. ap (λ b. b || (Sound.legal_flit c (wire_flit (wire_place (fresh_router c).wire k i))
      && ltb (wire_vc (wire_place
      (fresh_router c).wire k i)) c.vcs)) (eq-eqb (wire_place (fresh_router c).wire k i) 0 (wire_is k i))))

  home : Sound.home_legal (fresh_router c).config (fresh_router c).home ≡ true
  unfolding Sound.home_legal fresh_router
  home = all_every c.back _ (λ k h. all_every c.ports _
      (λ i g. le-leb (home_place (fresh_router c).home k i) c.vcs (subst (λ x. x ≤ c.vcs)
      (sym (home_is k i)) zero-le)))

  pub no_queue : (i v : ℕ) → i < c.ports → v < c.vcs → queue_of c (fresh_router c).store i v
      (input_at c (fresh_router c).inputs i v).queued ≡ []
  unfolding queue_at
  no_queue i v h g =
      ap (λ n. map slot_flit (take n (take 16 (drop (16 * channel_number c i v) (fresh_router c).store))))
      (ap (λ x. x.queued) (input_is i v h g))

  queues : Sound.queues_legal (fresh_router c).config (fresh_router c).inputs (fresh_router c).store ≡ true
  unfolding Sound.queues_legal Sound.all fresh_router
  queues = channels_pass _ (λ i v h g. ap (Sound.all (Sound.legal_flit c)) (no_queue i v h g))

  output_credits-law : Sound.output_credits_fit (fresh_router c).config (fresh_router c).outputs ≡ true
  unfolding Sound.output_credits_fit fresh_router
  output_credits-law =
      channels_pass _ (λ o w h g.
      le-leb (output_at c (fresh_router c).outputs o w).credit c.downstream
      (subst (λ x. x.credit ≤ c.downstream) (sym (output_is o w h g))
      (le_refl c.downstream)))

  names : Sound.names_agree (fresh_router c).config (fresh_router c).inputs (fresh_router c).outputs ≡ true
  unfolding Sound.names_agree fresh_router
  names =
      ap₂ ◌&&◌ (channels_pass _ (λ i v h g. ap (λ x. Sound.input_named c (fresh_router c).outputs i v x.binding) (input_is i v h g)))
      (channels_pass _ (λ o w h g. ap (λ x. Sound.output_named c (fresh_router c).inputs o w x.holder) (output_is o w h g)))

  kind : (c.arbiter ≡ 1) ⊎ (c.arbiter ≡ 2)
  kind = go (eqb c.arbiter 1) refl
    where
      go : (b : Bool) → eqb c.arbiter 1 ≡ b → (c.arbiter ≡ 1) ⊎ (c.arbiter ≡ 2)
      go true e = inl (eqb-true c.arbiter 1 e)
      go false e =
          let d = eqb-false c.arbiter 1 e in
          let l = legal.arbiter.0 in
          let m = legal.arbiter.1 in
          inr (le_antisymm m (lt_of_le-ne l (λ q. d (sym q))))

  -- an arbiter of a width within its room
  arbiter_sound : (places n : ℕ) → 1 ≤ n → n ≤ places → arbiter.sound places c.arbiter n (arbiter.fresh places c.arbiter n) ≡ true
  arbiter_sound places n h g =
      let k : Known places c.arbiter n = record { some = h; room = g; kind = kind } in
      sound_holds places c.arbiter n (arbiter.fresh places c.arbiter n) (fresh_sound places c.arbiter n k)

  some_channels : 1 ≤ c.ports * c.vcs
  some_channels = mul-le-mul legal.ports.0 legal.vcs.0

  arbiters : Sound.arbiters_sound (fresh_router c).config (fresh_router c).arbiters ≡ true
  unfolding Sound.arbiters_sound fresh_router
  arbiters =
      all_every c.ports _ (λ i h.
      ap₂ ◌&&◌
      (ap₂ ◌&&◌
      (ap (λ a. arbiter.sound 32 c.arbiter (c.ports * c.vcs) a) (filled_below c.ports 8 _ (no_arbiter 32) past_arbiter i h)
      ∙ arbiter_sound 32 (c.ports * c.vcs) some_channels channels)
      (ap (λ a. arbiter.sound 8 c.arbiter c.vcs a) (filled_below c.ports 8 _ (no_arbiter 8) past_arbiter i h)
      ∙ arbiter_sound 8 c.vcs legal.vcs.0 (let l = legal.vcs.1 in omega arith)))
      (ap (λ a. arbiter.sound 8 c.arbiter c.ports a) (filled_below c.ports 8 _ (no_arbiter 8) past_arbiter i h)
      ∙ arbiter_sound 8 c.ports legal.ports.0 legal.ports.1))

  packets : Sound.packets_read (fresh_router c).config (fresh_router c).inputs (fresh_router c).store (fresh_router c).wire ≡ true
  unfolding Sound.packets_read Sound.reads Sound.reading fresh_router
  packets =
      channels_pass _ (λ i v h g.
      ap₂ (λ x q. Sound.ends_as x.opened (Sound.reading (Sound.begins_inside q x.binding)
      (q ++ flat (wire_of c (fresh_router c).wire i v))))
      (input_is i v h g) (no_queue i v h g)
      ∙ ap (λ w. Sound.ends_as false (Sound.reading false w)) (no_wire i v))

  channels_unused-law : Sound.channels_unused (fresh_router c).config (fresh_router c).inputs (fresh_router c).outputs ≡ true
  unfolding Sound.channels_unused fresh_router
  channels_unused-law = all_every 32 _ (λ x h. go x (ltb x (c.ports * c.vcs)) refl)
    where
      go : (x : ℕ) (b : Bool) → ltb x (c.ports * c.vcs) ≡ b
          → (b || (Sound.input_unused (get_or (fresh_router c).inputs x (fresh_input 0)) && Sound.output_unused (get_or (fresh_router c).outputs x
          (fresh_output 0)))) ≡ true
      go x true e = refl
      go x false e =
          let l = ltb-false x (c.ports * c.vcs) e in
          ap₂ (λ a b. Sound.input_unused a && Sound.output_unused b)
          (filled_from (c.ports * c.vcs) 32 (fresh_input c.depth) (fresh_input 0) x l)
          (filled_from (c.ports * c.vcs) 32 (fresh_output c.downstream) (fresh_output 0) x l)

  slots : Sound.slots_empty (fresh_router c).inputs (fresh_router c).store ≡ true
  unfolding Sound.slots_empty fresh_router
  slots =
      all_every 32 _ (λ x h.
      all_every 16 _ (λ k g.
      ap (λ b. ltb k (get_or (fresh_router c).inputs x (fresh_input 0)).queued || b)
      (eq-eqb (get_or (replicate 512 0) (16 * x + k) 0) 0 (same_at 512 0
      (16 * x + k)))
      ∙ or-true (ltb k (get_or (fresh_router c).inputs x (fresh_input 0)).queued)))

  rest : (delay : ℕ) → Sound.line_unused delay c.ports (replicate 64 0) ≡ true
  unfolding Sound.line_unused
  rest delay =
      all_every 8 _ (λ k h.
      all_every 8 _ (λ i g.
      ap (λ b. (ltb k delay && ltb i c.ports) || b) (eq-eqb (get_or (replicate 64 0) (8 * k + i) 0) 0 (same_at 64 0 (8 * k + i)))
      ∙ or-true (ltb k delay && ltb i c.ports)))

  wire_rest-law : Sound.line_unused (fresh_router c).config.forward (fresh_router c).config.ports (fresh_router c).wire ≡ true
  unfolding fresh_router
  wire_rest-law = rest c.forward

  home_rest-law : Sound.line_unused (fresh_router c).config.back (fresh_router c).config.ports (fresh_router c).home ≡ true
  unfolding fresh_router
  home_rest-law = rest c.back

  others : Sound.arbiters_unused (fresh_router c).config (fresh_router c).arbiters ≡ true
  unfolding Sound.arbiters_unused fresh_router blank_from every
  others = all_every 8 _ (λ i h. go i h (ltb i c.ports) refl)
    where
      go : (i : ℕ) → i < 8 → (b : Bool) → ltb i c.ports ≡ b
          → (b || (Sound.arbiter_unused 32 (vc_arbiter (fresh_router c).arbiters i) && Sound.arbiter_unused 8 ((input_arbiter
          (fresh_router c).arbiters i))
          && Sound.arbiter_unused 8 (output_arbiter (fresh_router c).arbiters i))) ≡ true
      go i h true e = refl
      go i h false e =
          let l = ltb-false i c.ports e in
          ap₂ ◌&&◌
          (ap₂ ◌&&◌ (ap (λ a. Sound.arbiter_unused 32 a) (filled_at c.ports 8 _ (no_arbiter 32) past_arbiter i l h))
          (ap (λ a. Sound.arbiter_unused 8 a) (filled_at c.ports 8 _ (no_arbiter 8) past_arbiter i l h)))
          (ap (λ a. Sound.arbiter_unused 8 a) (filled_at c.ports 8 _ (no_arbiter 8) past_arbiter i l h))

  shape : Sound.shaped (fresh_router c) ≡ true
  unfolding Sound.shaped fresh_router
  shape =
      ap₂ (λ a b. a && b && true && true && true)
      (eq-eqb _ 32 (length_filled (c.ports * c.vcs) 32 (fresh_input c.depth) (fresh_input 0) channels))
      (eq-eqb _ 32 (length_filled (c.ports * c.vcs) 32 (fresh_output c.downstream) (fresh_output 0) channels))

  pub fresh_is_sound : Sound.Sound (fresh_router c)
  fresh_is_sound =
      record {
        sizes =
            record {
              configuration = configuration;
              cycles = cycles;
              wire = wire;
              home = home;
              wire_rest = wire_rest-law;
              home_rest = home_rest-law;
              shape = shape;
            };
        flow =
            record {
              credits = credits;
              queues = queues;
              output_credits = output_credits-law;
              channels = channels_unused-law;
              slots = slots;
            };
        naming =
            record {
              names = names;
              packets = packets;
            };
        arbitration =
            record {
              arbiters = arbiters;
              others = others;
            };
      }

  -- the same of the test
  pub fresh_passes : Sound.sound (fresh_router c) ≡ true
  fresh_passes = sound_passes (fresh_router c) fresh_is_sound
