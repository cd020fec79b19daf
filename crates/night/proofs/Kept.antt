-- A call of the run entry hands a run that a file can lead to back as one, so that 2 never comes between calls.
-- Assumes nothing.
use Rattle.base.specs.Refusal.{number_of}
use Rattle.std.specs.Prelude.{Result, Ok, Err}
use mathlib.Core.Path.{◌≡◌, refl, sym, ap, ap₂, subst, ◌∙◌}
use mathlib.Core.Bool.{Bool, true, false, cond, not, ◌&&◌, true≢false}
use mathlib.Core.List.{List}
use Prim.Native.Nat.{ℕ, zero, suc, ◌+◌, ◌-◌, ◌*◌, ◌≤◌}
use native.Mathlib.Nat.{add-zero, zero-add, le_refl}
use native.Mathlib.Omega.{arith}
use lib.Dec.{eqb, leb}
use borrow.Author.Tests.{le-leb, leb-true, eqb-true, ne_eqb}
use Rattle.base.specs.Numbers as numbers
use Rattle.base.specs.Sizes.{cycle_limit, no_config}
use Rattle.base.proofs.Configurations.{legal_exact}
use Rattle.base.proofs.Search.{both, or_else, any_at}
use Rattle.state.specs.Blank.{blank}
use Rattle.state.specs.Fresh.{fresh_router}
use Rattle.state.specs.Sound.{sound}
use Rattle.state.proofs.Blank.{blank_exactly}
use Rattle.state.proofs.Exact.{sound_passes, passed_sound}
use Rattle.state.proofs.FreshIsSound.{fresh_is_sound}
use Rattle.trace.specs.Bytes.{AreBytes}
use Rattle.trace.specs.declared.place.Place.{Place}
use Rattle.trace.specs.Blocks.{kind_of, held_of, config_of, block_length}
use Rattle.trace.specs.Place.{cycle_blocks, good_place}
use Rattle.trace.specs.declared.judging.Answer.{Answer}
use Rattle.trace.specs.declared.judging.Found.{Found}
use Rattle.base.specs.declared.refusal.Refusal.{Refusal}
use Rattle.trace.specs.declared.judging.Found.TheVariants as found
use Rattle.trace.specs.Judged.{accepted, next_place, read_of, taken, judged}
use Rattle.trace.specs.Way.{cycles_in}
use Rattle.trace.proofs.Exactness.{accepted_taken}
use Rattle.trace.proofs.Findings.{FoundAs, refuses, configures, holds, ends, is_over, found_as}
use Rattle.trace.proofs.Places.{Good, nothing, after, good_is}
use Rattle.trace.proofs.Ways.{accepted_leads_on}
use Rattle.listing.specs.Writing.{lacks_room}
use Rattle.runs.specs.declared.Run.{Run}
use Rattle.runs.specs.Run.{started, between_blocks, before, stopped_inside, place_right, run_sound}
use Rattle.runs.proofs.Places.{between_is, between_holds, between_right, right_between, going_good}
use Rattle.router.specs.Running.{Writing, wrote, on_run, with_place, with_router, finished, ended_by, cycles_from, by_found, block_taken}
use Rattle.router.specs.Running.{blocks_in, block_at, lacks_block_room, Call, begins, takes, stops, going_on, refused_with, answered, ran_of}
use Rattle.state.proofs.Legal.{sound_cycle}
use Rattle.router.proofs.Going.{piece_bytes}
use Rattle.night.proofs.Standing.{Stands, Ran, through, stopped, cycles_ran}

-- before the first block of a file
pub started_sound : run_sound started ≡ true
unfolding run_sound started place_right between_blocks good_place fresh_router
started_sound = ap₂ ◌&&◌ ((blank_exactly (fresh_router no_config)).1 refl) refl

-- the clauses behind the place, after the configuration block and before it
abbrev pub behind : Bool → Run → Bool
behind configured n = cond configured (sound n.router && leb n.flits (n.router.config.ports * n.router.cycle))
    (blank n.router && eqb n.flits 0)

pub record Led (n : Run) : Type 0 where
  pub right : place_right n.place n.router.cycle n.over ≡ true
  pub rest : behind n.place.configured n ≡ true

pub led_is : (n : Run) → run_sound n ≡ true → Led n
unfolding run_sound
led_is n e = let b = both (place_right n.place n.router.cycle n.over) (behind n.place.configured n) e in
    record { right = b.0; rest = b.1 }

led_holds : (n : Run) → Led n → run_sound n ≡ true
unfolding run_sound
led_holds n l = ap₂ ◌&&◌ l.right l.rest

-- before the configuration block one run goes on: the one that a file starts with
pub unconfigured_started : (n : Run) → run_sound n ≡ true → n.place.configured ≡ false → n.over ≡ false → n ≡ started
unfolding started
unconfigured_started n e k o = go (good_is n.place n.router.cycle (going_good n e o))
  where
    l : Led n
    l = led_is n e

    rest : (blank n.router ≡ true) × (eqb n.flits 0 ≡ true)
    rest = both (blank n.router) (eqb n.flits 0) (ap (λ (b : Bool). behind b n) (sym k) ∙ l.rest)

    go : Good n.place n.router.cycle → n ≡ started
    go (nothing a b d z) =
        λ t.
        record {
          router = (blank_exactly n.router).0 rest.0 t;
          place = record { number = d t; configured = a t; ended = b t };
          flits = eqb-true n.flits 0 rest.1 t;
          over = o t;
        }
    go (after m a d r h) = absurd (true≢false (sym a ∙ k))

-- after it the test says where the run stands, and no more
stands_led : (q : Place) (c : ℕ) (n : Run) → Stands q c n → q.configured ≡ true → place_right q c n.over ≡ true → Led n
stands_led q c n s k r =
    record {
      right = ap₂ (λ (p : Place) (m : ℕ). place_right p m n.over) s.place s.cycle ∙ r;
      rest =
          ap (λ (p : Place). behind p.configured n) s.place ∙ ap (λ (b : Bool). behind b n) k
          ∙ ap₂ ◌&&◌ (sound_passes n.router s.sound) (le-leb n.flits (n.router.config.ports * n.router.cycle) s.few);
    }

led_stands : (n : Run) → Led n → n.place.configured ≡ true → Stands n.place n.router.cycle n
led_stands n l k =
    let b = both (sound n.router) (leb n.flits (n.router.config.ports * n.router.cycle))
    (ap (λ (b : Bool). behind b n) (sym k) ∙ l.rest) in
    record {
      place = refl;
      sound = passed_sound n.router b.0;
      few = leb-true n.flits (n.router.config.ports * n.router.cycle) b.1;
      cycle = refl;
    }

abbrev holds_cycles : Result Found Refusal → Bool
holds_cycles (Err r) = false
holds_cycles (Ok (found.Configuration k)) = false
holds_cycles (Ok (found.Cycles h)) = true
holds_cycles (Ok found.End) = false
holds_cycles (Ok found.Done) = false

-- a block that holds cycles
module _ (p : Place) (l : List ℕ) where
  cycles_kind : holds_cycles (taken p l).found ≡ true → (p.ended ≡ false) × (kind_of l ≡ 2)
  unfolding taken read_of
  cycles_kind e = go p.ended refl (eqb (kind_of l) 1) (eqb (kind_of l) 2) refl e
    where
      go : (b : Bool) → p.ended ≡ b → (x y : Bool) → eqb (kind_of l) 2 ≡ y
          → holds_cycles (cond b (accepted found.Done p) (accepted
          (cond x (found.Configuration (config_of l)) (cond y (found.Cycles (held_of l)) found.End)) (next_place p l))).found ≡ true
          → (p.ended ≡ false) × (kind_of l ≡ 2)
      go true f x y g e = absurd (true≢false (sym e))
      go false f true y g e = absurd (true≢false (sym e))
      go false f false true g e = (f, eqb-true (kind_of l) 2 g)
      go false f false false g e = absurd (true≢false (sym e))

  module _ (k : p.configured ≡ true) (e : p.ended ≡ false) (f : kind_of l ≡ 2) where
    goes_on : eqb (kind_of l) 3 ≡ false
    goes_on = ne_eqb (kind_of l) 3 (λ g. absurd (omega arith))

    -- the place before the next one is the one where it was taken
    before_next : before (next_place p l) ≡ p
    before_next =
        let number : p.number + 1 - 1 ≡ p.number = omega arith in
        λ t. record { number = number t; configured = sym k t; ended = (goes_on ∙ sym e) t }

    -- so that a run which stopped in the block is at a right place
    stopped_right : (c j : ℕ) → between_blocks p c ≡ true → j ≤ 6 → place_right (next_place p l) (c + j) true ≡ true
    unfolding place_right stopped_inside
    stopped_right c j b m =
        let less : c + j - j ≡ c = omega arith in
        or_else (between_blocks (next_place p l) (c + j))
        (ap₂ ◌&&◌ (le-leb 1 (p.number + 1) (omega arith))
        (ap₂ ◌&&◌ (ap not goes_on)
        (any_at 7 (λ (k : ℕ). leb k (c + j) && between_blocks (before (next_place p l)) (c + j - k)) j (omega arith)
        (ap₂ ◌&&◌ (le-leb j (c + j) (omega arith)) (ap₂ between_blocks before_next less ∙ b)))))

-- a block of a run that is not over
module _ (block : List ℕ) (bytes : AreBytes block) (w : Writing) (o : w.run.over ≡ false) (led : Led w.run) where
  abbrev n : Run
  n = w.run

  abbrev p : Place
  p = w.run.place

  abbrev c : ℕ
  c = w.run.router.cycle

  between : between_blocks p c ≡ true
  between = right_between p c n.over o led.right

  finished_led : Led (finished n)
  finished_led = record { right = between_right p c true between; rest = led.rest }

  -- the place after an accepted block, with the cycles that it holds added
  leads : (r : Answer) → judged p c block ≡ r → (number_of r.found) ≡ numbers.done → c + cycles_in r.found ≤ cycle_limit
      → between_blocks r.place (c + cycles_in r.found) ≡ true
  leads r e d =
      subst (λ (r : Answer). c + cycles_in r.found ≤ cycle_limit → between_blocks r.place (c + cycles_in r.found) ≡ true) e
      (λ limit.
      let b = between_is p c between in
      let s = accepted_leads_on false p c block bytes (record { good = b.0; each = λ q. b.1 })
      (ap (λ (r : Answer). (number_of r.found)) e ∙ d)
      (cycles_in (judged p c block).found) (record { most = le_refl (cycles_in (judged p c block).found); all = λ q. refl }) limit in
      between_holds (judged p c block).place (c + cycles_in (judged p c block).found) s.good (s.each refl))

  -- before the configuration block
  none_yet : p.configured ≡ false → (c ≡ 0) × (n.flits ≡ 0)
  none_yet k = (
    go (good_is p c (between_is p c between).0),
    eqb-true n.flits 0 (both (blank n.router) (eqb n.flits 0)
        (ap (λ (b : Bool). behind b n) (sym k) ∙ led.rest)).1,
  )
    where
      go : Good p c → c ≡ 0
      go (nothing a b d z) = z
      go (after m a d r h) = absurd (true≢false (sym a ∙ k))

  abbrev q : Place
  q = next_place p block

  -- a block with cycles, whether all were accepted or one was refused
  module _ (h : ℕ) (k : p.configured ≡ true) (e : judged p c block ≡ accepted (found.Cycles h) q) where
    ran_led : (m : Run) → Ran q c h m → Led m
    ran_led m (through f s) =
        let y = sound_cycle s.sound in
        let x = s.cycle in
        stands_led q (c + h) m s refl (between_right q (c + h) m.over (leads (accepted (found.Cycles h) q) e refl (omega (arith, x, y))))
    ran_led m (stopped j l f s) =
        let is = ap (λ (r : Answer). (number_of r.found)) e in
        let kind = cycles_kind p block (ap (λ (r : Answer). holds_cycles r.found) (sym (accepted_taken p c block is) ∙ e)) in
        stands_led q (c + j) m s refl
        (ap (λ (b : Bool). place_right q (c + j) b) f ∙ stopped_right p block k kind.0 kind.1 c j between l)

    held_led : h ≤ 7 → Led (cycles_from block 0 h (on_run (with_place q) w)).run
    held_led most =
        let s = led_stands n led k in
        ran_led (cycles_from block 0 h (on_run (with_place q) w)).run
        (subst (λ (m : ℕ). Ran q c m (cycles_from block 0 h (on_run (with_place q) w)).run) (zero-add h)
        (cycles_ran block bytes q c h 0 (on_run (with_place q) w) (omega arith) o
        (record { place = refl; sound = s.sound; few = s.few; cycle = sym (add-zero c) })))

  found_led : (r : Answer) → judged p c block ≡ r → FoundAs p c block r → Led (by_found r.found r.place block w).run
  unfolding ended_by wrote fresh_router
  found_led _ e (refuses m k) = finished_led
  found_led _ e (configures a b _) =
      let z = none_yet a in
      let limit : c + 0 ≤ cycle_limit = let y = z.0 in omega (arith, y) in
      let same : c + 0 ≡ 0 = let y = z.0 in omega (arith, y) in
      stands_led q 0 (with_router (fresh_router (config_of block)) (with_place q n))
      (record {
        place = refl;
        sound = fresh_is_sound (config_of block) ((legal_exact (config_of block)).0 b);
        few = let y = z.1 in
            omega (arith, y);
        cycle = refl;
      }) refl
      (between_right q 0 n.over (ap (between_blocks q) (sym same) ∙ leads (accepted (found.Configuration (config_of block)) q) e refl limit))
  found_led _ e (holds a l h _) = held_led (held_of block) a e h
  found_led _ e (ends a _) =
      let s = led_stands n led a in
      let limit : c + 0 ≤ cycle_limit = let y = sound_cycle s.sound in omega (arith, y) in
      stands_led q (c + 0) (with_place q n)
      (record { place = refl; sound = s.sound; few = s.few; cycle = sym (add-zero c) }) refl
      (between_right q (c + 0) n.over (leads (accepted found.End q) e refl limit))
  found_led _ e (is_over a) = finished_led

  pub block_led : Led (block_taken block w).run
  unfolding block_taken
  block_led = found_led (judged p c block) refl (found_as p c block)

-- block after block
goes_led : (part : List ℕ) → AreBytes part → (n : ℕ) (c : Call) → Led c.writing.run → Led (going_on part n c).writing.run
unfolding going_on
goes_led part bytes zero c led = led
goes_led part bytes (suc n) c led = either c.writing.run.over refl (lacks_block_room c.writing.buffer c.writing.at) (λ o.
    goes_led part bytes n (takes part c)
    (block_led (block_at part c.used) (piece_bytes block_length c.used part bytes) c.writing o led))
  where
    either : (b : Bool) → c.writing.run.over ≡ b → (full : Bool)
        → (c.writing.run.over ≡ false → Led (going_on part n (takes part c)).writing.run)
        → Led (cond b c (cond full (stops c) (going_on part n (takes part c)))).writing.run
    either true o full rest = led
    either false o true rest = led
    either false o false rest = rest o

-- 2, 11 or block after block: the run stays one that a file can lead to
pub run_kept : (n : Run) (part buffer : List ℕ) (at : ℕ) → AreBytes part → run_sound n ≡ true
    → run_sound (ran_of n part buffer at).ran.run ≡ true
unfolding ran_of
run_kept n part buffer at bytes e = go (run_sound n) (lacks_room buffer at)
  where
    call : Call
    call = going_on part (blocks_in part) (begins (record { run = n; at = at; buffer = buffer }))

    go : (right full : Bool) → run_sound (cond (not right) (refused_with numbers.not_sound n buffer)
        (cond full (refused_with numbers.no_room n buffer) (answered at call))).ran.run ≡ true
    go false full = e
    go true true = e
    go true false = led_holds call.writing.run (goes_led part bytes (blocks_in part) _ (led_is n e))

-- a run that goes on has read no more than the configuration block, a block for each accepted cycle, and the end block
pub place_early : (n : Run) → run_sound n ≡ true → n.over ≡ false → n.place.number ≤ cycle_limit + 2
place_early n e o = go (good_is p c stands.0)
  where
    p : Place
    p = n.place

    c : ℕ
    c = n.router.cycle

    stands : (good_place n.place n.router.cycle ≡ true) × (cycle_blocks n.place ≤ n.router.cycle)
    stands = between_is n.place n.router.cycle
        (right_between n.place n.router.cycle n.over o (led_is n e).right)

    without : (b : Bool) → cond b 2 1 ≤ 2
    without true = omega arith
    without false = omega arith

    go : Good n.place n.router.cycle → n.place.number ≤ cycle_limit + 2
    go (nothing a b d z) = omega (arith, d)
    go (after m a d f h) = omega (arith, d, without n.place.ended, stands.1, h.limit)
