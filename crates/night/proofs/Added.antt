-- What a write, or many, add to a buffer: some lines, from the place on, and nothing else changes.
-- Assumes nothing.
use mathlib.Core.Path.{◌≡◌, refl, sym, ap, ap₂, ◌∙◌}
use mathlib.Core.Bool.{true, false, ◌&&◌, ◌||◌}
use mathlib.Core.List.{List, [], ◌++◌, append_assoc}
use Prim.Native.Nat.{ℕ, ◌+◌, ◌-◌, ◌≤◌}
use native.Mathlib.Nat.{add-zero}
use native.Mathlib.Omega.{arith}
use lib.ListN.{length, take, drop, length-append}
use lib.Seq.{sets, sets-eq}
use borrow.Author.Tests.{le-ltb}
use Rattle.base.specs.Numbers.{done, room}
use Rattle.listing.specs.Lines.{Line, text, printable}
use Rattle.listing.specs.Writing.{WriteOutcome, put, lacks_room, written}
use Rattle.listing.proofs.Exactness.{put_before, put_there, put_after}
use Rattle.listing.proofs.Ports.{text_append, printable_append}
use Rattle.listing.proofs.Stores.{sets_append, put_length}
use Rattle.runs.specs.declared.Run.{Run}
use Rattle.router.specs.Running.{Writing, wrote, on_run}

-- what is put is what is stored byte by byte
put_sets : (b : List ℕ) (at : ℕ) (x : List ℕ) → at + length x ≤ length b → put b at x ≡ sets b at x
unfolding put
put_sets b at x h = sym (sets-eq x b at h)

-- bytes put behind bytes
pub put_both : (b : List ℕ) (at : ℕ) (x y : List ℕ) → at + length x + length y ≤ length b → put (put b at x) (at + length x) y
    ≡ put b at (x ++ y)
put_both b at x y h =
    let whole : at + length (x ++ y) ≤ length b = omega (arith, length-append x y, h) in
    let front : at + length x ≤ length b = omega (arith, h) in
    let rest : at + length x + length y ≤ length (put b at x) = omega (arith, put_length b x at front, h) in
    put_sets (put b at x) (at + length x) y rest ∙ ap (λ (l : List ℕ). sets l (at + length x) y) (put_sets b at x front)
    ∙ sym (sets_append b at x y) ∙ sym (put_sets b at (x ++ y) whole)

-- from one place in a buffer to another: these lines, and nothing else
pub record Adds (w v : Writing) (lines : List Line) : Type 0 where
  pub ahead : v.at ≡ w.at + length (text lines)
  pub stands : v.buffer ≡ put w.buffer w.at (text lines)
  pub inside : w.at + length (text lines) ≤ length w.buffer

-- the buffer keeps its length
pub adds_length : {w v : Writing} {lines : List Line} → Adds w v lines → length v.buffer ≡ length w.buffer
adds_length {w} {v} {lines} a = ap length a.stands ∙ put_length w.buffer (text lines) w.at a.inside

-- and the place stays inside it
pub adds_within : {w v : Writing} {lines : List Line} → Adds w v lines → v.at ≤ length v.buffer
adds_within a = omega (arith, a.ahead, a.inside, adds_length a)

-- nothing is added where place and buffer stay
pub adds_none : (w v : Writing) → v.at ≡ w.at → v.buffer ≡ w.buffer → w.at ≤ length w.buffer → Adds w v []
unfolding text
adds_none w v e f h =
    record {
      ahead = e ∙ sym (add-zero w.at);
      stands = f ∙ sym (put_sets w.buffer w.at [] (omega arith));
      inside = omega arith;
    }

-- lines after lines
pub adds_both : {w v u : Writing} {ks ls : List Line} → Adds w v ks → Adds v u ls → Adds w u (ks ++ ls)
adds_both {w} {v} {u} {ks} {ls} a b =
    let t = text_append ks ls in
    let n : length (text (ks ++ ls)) ≡ length (text ks) + length (text ls) = ap length t ∙ length-append (text ks) (text ls) in
    let k = adds_length a in
    let i = b.inside in
    let at = a.ahead in
    let fits : w.at + length (text ks) + length (text ls) ≤ length w.buffer = omega (arith, k, i, at) in
    record {
      ahead = omega (arith, b.ahead, at, n);
      stands =
          b.stands ∙ ap₂ (λ (l : List ℕ) (p : ℕ). put l p (text ls)) a.stands at
          ∙ put_both w.buffer w.at (text ks) (text ls) fits ∙ ap (put w.buffer w.at) (sym t);
      inside = omega (arith, n, fits);
    }

-- lines whose values are in range are written where there is room: 12 and 11 do not come
module _ (b : List ℕ) (at : ℕ) (lines : List Line) (fine : printable lines ≡ true) (there : at + room ≤ length b) where
  has_room : lacks_room b at ≡ false
  unfolding lacks_room
  has_room = ap₂ ◌||◌ (le-ltb (length b) at (omega arith)) (le-ltb (length b - at) room (omega arith))

  is_written : written b at lines ≡ record { number = done; bytes = length (text lines); buffer = put b at (text lines) }
  unfolding written
  is_written = rw (fine, has_room)

  pub written_done : (written b at lines).number ≡ done
  written_done = ap (λ (o : WriteOutcome). o.number) is_written

-- and a write adds them, whatever becomes of the run
pub wrote_adds : (w : Writing) (f : Run → Run) (lines : List Line) → printable lines ≡ true → length (text lines) ≤ room
    → w.at + room ≤ length w.buffer
    → Adds w (wrote lines (on_run f w)) lines
unfolding wrote
wrote_adds w f lines fine short there =
    let e = is_written w.buffer w.at lines fine there in
    record {
      ahead = ap (λ (o : WriteOutcome). w.at + o.bytes) e;
      stands = ap (λ (o : WriteOutcome). o.buffer) e;
      inside = omega arith;
    }

-- what was added can be read off the buffer
pub adds_there : {w v : Writing} {lines : List Line} → Adds w v lines → take (v.at - w.at) (drop w.at v.buffer) ≡ text lines
adds_there {w} {v} {lines} a =
    let n : v.at - w.at ≡ length (text lines) = omega (arith, a.ahead) in
    ap₂ (λ (m : ℕ) (l : List ℕ). take m (drop w.at l)) n a.stands ∙ put_there w.buffer (text lines) w.at a.inside

-- what lies before and behind it is as it was
pub adds_around : {w v : Writing} {lines : List Line} → Adds w v lines
    → (take w.at v.buffer ≡ take w.at w.buffer) × (drop v.at v.buffer ≡ drop v.at w.buffer)
adds_around {w} {v} {lines} a =
    let t = text lines in (
      ap (take w.at) a.stands ∙ put_before w.buffer t w.at a.inside,
      ap₂ (λ (n : ℕ) (l : List ℕ). drop n l) a.ahead a.stands ∙ put_after w.buffer t w.at a.inside
          ∙ ap (λ (n : ℕ). drop n w.buffer) (sym a.ahead),
    )

-- From one place to another the lines are printed that were left before and are not left after.
pub record Prints (w v : Writing) (before after : List Line) : Type 0 where
  pub lines : List Line
  pub adds : Adds w v lines
  pub fine : printable lines ≡ true
  pub same : before ≡ lines ++ after

pub prints_none : (w v : Writing) (before after : List Line) → v.at ≡ w.at → v.buffer ≡ w.buffer → w.at ≤ length w.buffer
    → before ≡ after
    → Prints w v before after
unfolding printable
prints_none w v before after e f h same = record { lines = []; adds = adds_none w v e f h; fine = refl; same = same }

pub prints_both : {w v u : Writing} {a b c : List Line} → Prints w v a b → Prints v u b c → Prints w u a c
prints_both {w} {v} {u} {a} {b} {c} x y =
    record {
      lines = x.lines ++ y.lines;
      adds = adds_both x.adds y.adds;
      fine = printable_append x.lines y.lines ∙ ap₂ ◌&&◌ x.fine y.fine;
      same = x.same ∙ ap (λ (l : List Line). x.lines ++ l) y.same ∙ sym (append_assoc x.lines y.lines c);
    }

pub prints_length : {w v : Writing} {a b : List Line} → Prints w v a b → length v.buffer ≡ length w.buffer
prints_length x = adds_length x.adds

-- the same lines under other names
pub prints_as : {w v : Writing} {a b c d : List Line} → Prints w v a b → c ≡ a → b ≡ d → Prints w v c d
prints_as {w} {v} {a} {b} {c} {d} x e f = record {
  lines = x.lines;
  adds = x.adds;
  fine = x.fine;
  same = e ∙ x.same ∙ ap (λ (l : List Line). x.lines ++ l) f;
}

-- and from the same place of another run
pub prints_from : (w : Writing) (f : Run → Run) {v : Writing} {a b : List Line} → Prints (on_run f w) v a b → Prints w v a b
prints_from w f {v} x =
    record {
      lines = x.lines;
      adds = record { ahead = x.adds.ahead; stands = x.adds.stands; inside = x.adds.inside };
      fine =
          x.fine;
      same = x.same;
    }

-- where the lines left after it are in range, so are those left before it
pub prints_fine : {w v : Writing} {a b : List Line} → Prints w v a b → printable b ≡ true → printable a ≡ true
prints_fine {w} {v} {a} {b} x e = ap printable x.same ∙ printable_append x.lines b ∙ ap₂ ◌&&◌ x.fine e
