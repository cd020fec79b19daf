-- What a call answers, and exactly when: 2, 11, or done; and then the run is over, or all of the part is used, or the room is asked for
-- that the next block needs.
-- Assumes nothing.
use mathlib.Core.Path.{◌≡◌, refl, sym, ap, ◌∙◌}
use mathlib.Core.Logic.{◌⊎◌, inl, ◌↔◌}
use mathlib.Core.Bool.{Bool, true, false, cond, not, true≢false}
use mathlib.Core.List.{List, []}
use Prim.Native.Nat.{ℕ, zero, suc, ◌+◌, ◌-◌, ◌*◌, ◌≤◌, ◌<◌, min}
use native.Mathlib.Omega.{arith}
use lib.ListN.{length, drop, length-take, length-drop}
use Rattle.base.specs.Numbers as numbers
use Rattle.trace.specs.Bytes.{AreBytes}
use Rattle.listing.specs.Writing.{lacks_room}
use Rattle.listing.proofs.Exactness.{lacks_is}
use Rattle.runs.specs.declared.Run.{Run}
use Rattle.runs.specs.Run.{run_sound}
use Rattle.router.specs.Running.{room_of_block, blocks_in, block_at, lacks_block_room, Call, begins, takes, stops, going_on, CallOutcome}
use Rattle.router.specs.Running.{refused_with}
use Rattle.router.specs.Running.{answered, ran_of}
use Rattle.router.proofs.Onward.{block_on, used_inside}
use Rattle.router.proofs.RunLaws.{run_asks}
use Rattle.night.proofs.Kept.{led_is}
use Rattle.night.proofs.Moves.{call_moves}
use Rattle.night.proofs.Used.{goes_cut}

module _ (n : Run) (part buffer : List ℕ) (at : ℕ) where
  abbrev o : CallOutcome
  o = ran_of n part buffer at

  abbrev blocks : Call
  blocks = going_on part (blocks_in part) (begins (record { run = n; at = at; buffer = buffer }))

  -- by the two tests
  by_tests : (P : CallOutcome → Type 0) → (run_sound n ≡ false → P (refused_with numbers.not_sound n buffer))
      → (run_sound n ≡ true → lacks_room buffer at ≡ true → P (refused_with numbers.no_room n buffer))
      → (run_sound n ≡ true → lacks_room buffer at ≡ false → P (answered at blocks)) → P o
  unfolding ran_of
  by_tests P two eleven fine = go (run_sound n) refl (lacks_room buffer at) refl
    where
      go : (s : Bool) → run_sound n ≡ s → (f : Bool) → lacks_room buffer at ≡ f
          → P (cond (not s) (refused_with numbers.not_sound n buffer)
          (cond f (refused_with numbers.no_room n buffer) (answered at blocks)))
      go false e f g = two e
      go true e true g = eleven e g
      go true e false g = fine e g

  -- 2, "state not sound"
  pub two_exactly : (o.ran.number ≡ numbers.not_sound) ↔ (run_sound n ≡ false)
  two_exactly =
      by_tests (λ (x : CallOutcome). (x.ran.number ≡ numbers.not_sound) ↔ (run_sound n ≡ false)) (λ e. (λ q. e, λ q. refl))
      (λ e g. (λ q. absurd (omega (arith, q)), λ f. absurd (true≢false (sym e ∙ f))))
      (λ e g. (λ q. absurd (omega (arith, q)), λ f. absurd (true≢false (sym e ∙ f))))

  -- 11, "fewer than 376 bytes from the named place, or place past the end"
  pub eleven_exactly : (o.ran.number ≡ numbers.no_room) ↔ ((run_sound n ≡ true) × (length buffer < at + numbers.room))
  eleven_exactly =
      by_tests (λ (x : CallOutcome). (x.ran.number ≡ numbers.no_room) ↔ ((run_sound n ≡ true) × (length buffer < at + numbers.room)))
      (λ e. (λ q. absurd (omega (arith, q)), λ f. absurd (true≢false (sym f.0 ∙ e))))
      (λ e g. (λ q. (e, (lacks_is buffer at).0 g), λ f. refl))
      (λ e g. (λ q. absurd (omega (arith, q)), λ f. absurd (true≢false (sym ((lacks_is buffer at).1 f.1) ∙ g))))

  -- 0 else
  pub done_room : o.ran.number ≡ numbers.done → (run_sound n ≡ true) × (lacks_room buffer at ≡ false)
  done_room =
      by_tests (λ (x : CallOutcome). x.ran.number ≡ numbers.done → (run_sound n ≡ true) × (lacks_room buffer at ≡ false))
      (λ e q. absurd (omega (arith, q))) (λ e g q. absurd (omega (arith, q))) (λ e g q. (e, g))

  -- no more is used than there is
  pub used_most : o.ran.used ≤ length part
  used_most =
      by_tests (λ (x : CallOutcome). x.ran.used ≤ length part) (λ e. omega arith) (λ e g. omega arith)
      (λ e g. used_inside part (blocks_in part) (begins (record { run = n; at = at; buffer = buffer })) (omega arith))

-- How a call that is done stopped. Only where the room for the next block's lines is too little does it ask for it.
pub data Stopped (part buffer : List ℕ) (at : ℕ) (o : CallOutcome) : Type 0 where
  over : o.ran.run.over ≡ true → o.ran.asks ≡ 0 → Stopped part buffer at o
  used_up : o.ran.run.over ≡ false → o.ran.asks ≡ 0 → o.ran.used ≡ length part → Stopped part buffer at o
  no_room : o.ran.run.over ≡ false → o.ran.asks ≡ room_of_block → lacks_block_room o.buffer (at + o.ran.written) ≡ true
      → (1 ≤ length part → o.ran.used < length part) → Stopped part buffer at o

module _ (part buffer : List ℕ) (at : ℕ) where
  goes_stopped : (n : ℕ) (c : Call) → c.asks ≡ 0 → c.used ≤ length part → length part ≤ c.used + n * 512
      → (1 ≤ length part → c.used + n * 512 < length part + 512) → at ≤ c.writing.at
      → Stopped part buffer at (answered at (going_on part n c))
  unfolding going_on
  goes_stopped zero c none inside enough some from = go c.writing.run.over refl
    where
      go : (b : Bool) → c.writing.run.over ≡ b → Stopped part buffer at (answered at c)
      go true e = over e none
      go false e = used_up e none (omega (arith, inside, enough))
  goes_stopped (suc n) c none inside enough some from =
      go c.writing.run.over refl (lacks_block_room c.writing.buffer c.writing.at) refl (λ i m l f.
      goes_stopped n (takes part c) refl i m l f)
    where
      long : length (block_at part c.used) ≡ min 512 (length part - c.used)
      long = length-take 512 (drop c.used part) ∙ ap (min 512) (length-drop c.used part)

      go : (b : Bool) → c.writing.run.over ≡ b → (f : Bool) → lacks_block_room c.writing.buffer c.writing.at ≡ f
          → ((takes part c).used ≤ length part → length part ≤ (takes part c).used + n * 512
          → (1 ≤ length part → (takes part c).used + n * 512 < length part + 512) → at ≤ (takes part c).writing.at
          → Stopped part buffer at (answered at (going_on part n (takes part c))))
          → Stopped part buffer at (answered at (cond b c (cond f (stops c) (going_on part n (takes part c)))))
      go true e f g more = over e none
      go false e true g more =
          let same : at + (c.writing.at - at) ≡ c.writing.at = omega (arith, from) in
          no_room e refl (ap (lacks_block_room c.writing.buffer) same ∙ g) (λ l. let b = some l in omega (arith, b))
      go false e false g more = more (omega (arith, inside, long)) (omega (arith, inside, enough, long))
          (λ l. let b = some l in omega (arith, inside, b, long))
          (let on = block_on (block_at part c.used) c.writing in omega (arith, from, on))

-- So a caller can tell no progress from the end.
pub call_stopped : (n : Run) (part buffer : List ℕ) (at : ℕ) → (ran_of n part buffer at).ran.number ≡ numbers.done
    → Stopped part buffer at (ran_of n part buffer at)
call_stopped n part buffer at =
    by_tests n part buffer at (λ (x : CallOutcome). x.ran.number ≡ numbers.done → Stopped part buffer at x)
    (λ e q. absurd (omega (arith, q))) (λ e g q. absurd (omega (arith, q)))
    (λ e g q. goes_stopped part buffer at (blocks_in part) (begins (record { run = n; at = at; buffer = buffer })) refl (omega arith)
    (omega arith) (λ l. omega arith) (omega arith))

-- what a call used are whole blocks, or all of its part, and then the run is over
pub call_cut : (n : Run) (part buffer : List ℕ) (at : ℕ) → AreBytes part → run_sound n ≡ true
    → (ran_of n part buffer at).ran.number ≡ numbers.done
    → ((j : ℕ) × ((ran_of n part buffer at).ran.used ≡ 512 * j))
    ⊎ (((ran_of n part buffer at).ran.used ≡ length part) × ((ran_of n part buffer at).ran.run.over ≡ true))
call_cut n part buffer at bytes sound =
    by_tests n part buffer at (λ (x : CallOutcome). x.ran.number ≡ numbers.done → ((j : ℕ) × (x.ran.used ≡ 512 * j))
    ⊎ ((x.ran.used ≡ length part) × (x.ran.run.over ≡ true)))
    (λ e q. absurd (omega (arith, q))) (λ e g q. absurd (omega (arith, q)))
    (λ e g q. goes_cut part bytes (blocks_in part) (begins (record { run = n; at = at; buffer = buffer })) (led_is n sound) (omega arith)
    (inl (0, refl)))

-- and at the end of the input a run that is not asked for room is over
pub end_over : (n : Run) (buffer : List ℕ) (at : ℕ) → run_sound n ≡ true → n.over ≡ false →
    (ran_of n [] buffer at).ran.number ≡ numbers.done
    → (ran_of n [] buffer at).ran.asks ≡ 0 → (ran_of n [] buffer at).ran.run.over ≡ true
end_over n buffer at sound going fine none = go (lacks_block_room buffer at) refl
  where
    go : (f : Bool) → lacks_block_room buffer at ≡ f → (ran_of n [] buffer at).ran.run.over ≡ true
    go true f =
        let asks = ap (λ (o : CallOutcome). o.ran.asks) (run_asks n [] buffer at sound (done_room n [] buffer at fine).1 going f) in
        absurd (omega (arith, asks, none))
    go false f = (call_moves n buffer at sound going f [] (λ i. omega arith)).over refl
