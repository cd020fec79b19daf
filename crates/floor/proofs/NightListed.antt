-- What a night writes is the list of what it read: its pieces, joined, make the file, and the lines of its calls make the file's list.
-- Assumes nothing.
use mathlib.Core.Path.{◌≡◌, refl, sym, ap, subst, ◌∙◌}
use mathlib.Core.Logic.{◌⊎◌, inl, inr}
use mathlib.Core.Bool.{Bool, true, false, cond, true≢false}
use mathlib.Core.List.{List, [], ◌∷◌, ◌++◌, append_assoc, append-nil}
use Rattle.std.specs.Prelude.{Some, None, Result, Ok, Err, is_ok}
use Rattle.std.proofs.lemmas.Option.{none-some, same_Some}
use Prim.Native.Nat.{ℕ, ◌-◌, ◌*◌, ◌/◌, ◌%◌, ◌≤◌, ◌<◌}
use native.Mathlib.Omega.{arith}
use lib.Dec.{eqb, ltb}
use lib.ListN.{length, take, drop, length-append, length-drop}
use lib.Seq.{take-append_seam, drop-append_seam, drop-append-le}
use borrow.Author.Tests.{eqb-true, ltb-true}
use Rattle.base.proofs.Search.{both}
use Rattle.trace.specs.Bytes.{AreBytes}
use Rattle.runs.specs.Run.{started, run_sound}
use Rattle.router.specs.declared.entry.Ran.{Ran}
use Rattle.night.specs.Calls.{wrote_in, MayHand, whole, all, Hands, done, hand}
use Rattle.night.specs.File.{list_of}
use Rattle.night.proofs.Answers.{Stopped, over, used_up, no_room, call_stopped, call_cut, end_over, used_most}
use Rattle.night.proofs.Cuts.{drop_bytes, append_bytes}
use Rattle.night.proofs.Kept.{started_sound, run_kept}
use Rattle.night.proofs.Night.{file_listed}
use Rattle.floor.specs.declared.passing.Stop.TheVariants.{Refused, NoRoom}
use Rattle.floor.specs.declared.whole.Unlisted.{Unlisted}
use Rattle.floor.specs.Handing as handing
use Rattle.floor.specs.Handing.{Outcome, Handed, called, handed_by, stop_of, Passes, stops, fails, goes, is_whole_blocks, Finishes}
use Rattle.floor.specs.Handing.{HandsOver, uneven, fills, last, Lists, unread, lines_of, last_lines, piece_lines, night_lines, joined}
use Rattle.floor.specs.Handing.{AllButLastFill}
use Rattle.floor.proofs.Calls.{none_told}

-- a part of some whole blocks, or the last of the input
abbrev Fits : List ℕ → List ℕ → Type 0
Fits part later = ((k : ℕ) × (1 ≤ k) × (length part ≡ k * 512)) ⊎ (later ≡ [])

may_hand : (part later : List ℕ) → Fits part later → MayHand (part ++ later) part
may_hand part later (inl (k, a, e)) =
    subst (MayHand (part ++ later)) (ap (λ (n : ℕ). take n (part ++ later)) (sym e) ∙ take-append_seam part later)
    (whole k a (omega (arith, e, length-append part later)))
may_hand part later (inr e) =
    subst (λ (l : List ℕ). MayHand (part ++ l) part) (sym e) (subst (λ (l : List ℕ). MayHand l part) (sym (append-nil part)) all)

rest_fits : (part later : List ℕ) (u j : ℕ) → u ≡ 512 * j → u < length part → Fits part later → Fits (drop u part) later
rest_fits part later u j e l (inl (k, a, f)) = inl (k - j, omega (arith, e, l, f), omega (arith, e, l, f, length-drop u part))
rest_fits part later u j e l (inr f) = inr f

-- a call after which there is none, all being handed over, was done and asked for nothing
whole_told : (r : Ran) (s : Outcome) → stop_of r ≡ Some s → is_ok s ≡ true → (r.number ≡ 0) × (r.asks ≡ 0)
whole_told r s e w = go (eqb r.number 0) refl (eqb r.asks 0) refl (eqb r.used 0) e
  where
    other : (t : Outcome) → Some t ≡ Some s → is_ok t ≡ false → ⊥
    other t f g = true≢false (sym w ∙ ap is_ok (sym (same_Some t s f)) ∙ g)

    go : (a : Bool) → eqb r.number 0 ≡ a → (b : Bool) → eqb r.asks 0 ≡ b → (d : Bool)
        → cond a (cond b (Some (Ok (tt {0}))) (cond d (Some (Err (NoRoom r.asks))) None)) (Some (Err (Refused r.number))) ≡ Some s
        → (r.number ≡ 0) × (r.asks ≡ 0)
    go true a true b d f = (eqb-true r.number 0 a, eqb-true r.asks 0 b)
    go true a false b true f = absurd (other (Err (NoRoom r.asks)) f refl)
    go true a false b false f = absurd (none-some s f)
    go false a b x d f = absurd (other (Err (Refused r.number)) f refl)

-- a run stays sound from call to call
passes_sound : {part : List ℕ} {h : Handed} {k : ℕ} {s : Outcome} {g : Handed} → Passes part h k s g → AreBytes part
    → run_sound h.run ≡ true → run_sound g.run ≡ true
passes_sound (stops part h s e) bytes sound = run_kept h.run part h.buffer 0 bytes sound
passes_sound (fails part h e l) bytes sound = run_kept h.run part h.buffer 0 bytes sound
passes_sound (goes part h k s g e more) bytes sound =
    passes_sound more (drop_bytes (called part h).ran.used part bytes) (run_kept h.run part h.buffer 0 bytes sound)

-- what is handed over after a part, where the run is not over; a run that is over takes anything
abbrev After : Handed → List ℕ → List ℕ → Type 0
After g later out = (rest : List ℕ) → (g.run.over ≡ false → rest ≡ later) → Hands g.run rest out

-- the calls of a part that was handed over whole are calls of the file
passes_hands : {part : List ℕ} {h : Handed} {k : ℕ} {s : Outcome} {g : Handed} (p : Passes part h k s g) → is_ok s ≡ true
    → run_sound h.run ≡ true → h.run.over ≡ false → AreBytes part → (later : List ℕ) → Fits part later → (out : List ℕ)
    → After g later out → Hands h.run (part ++ later) (lines_of p ++ out)
unfolding lines_of
passes_hands (stops part h s e) w sound going bytes later fits out after =
    let o = called part h in
    let told = whole_told o.ran s e w in
    hand h.run (part ++ later) part h.buffer 0 out going (may_hand part later fits) told.0
    (after (drop o.ran.used (part ++ later)) (λ f. rest f (call_stopped h.run part h.buffer 0 told.0) told.1))
  where
    rest : (called part h).ran.run.over ≡ false → Stopped part h.buffer 0 (called part h) → (called part h).ran.asks ≡ 0
        → drop (called part h).ran.used (part ++ later) ≡ later
    rest f (over g a) n = absurd (true≢false (sym g ∙ f))
    rest f (used_up g a u) n = ap (λ (m : ℕ). drop m (part ++ later)) u ∙ drop-append_seam part later
    rest f (no_room g a l u) n = absurd (omega (arith, a, n))
passes_hands (fails part h e l) w sound going bytes later fits out after = absurd (true≢false (sym w))
passes_hands (goes part h k s g e more) w sound going bytes later fits out after =
    let told = none_told (called part h).ran e in
    on told (call_stopped h.run part h.buffer 0 told.0) (call_cut h.run part h.buffer 0 bytes sound told.0)
    (λ going' fits'. passes_hands more w (run_kept h.run part h.buffer 0 bytes sound) going'
    (drop_bytes (called part h).ran.used part bytes) later fits' out after)
  where
    on : ((called part h).ran.number ≡ 0) × (¬ ((called part h).ran.asks ≡ 0)) × (¬ ((called part h).ran.used ≡ 0))
        → Stopped part h.buffer 0 (called part h)
        → ((j : ℕ) × ((called part h).ran.used ≡ 512 * j))
        ⊎ (((called part h).ran.used ≡ length part) × ((called part h).ran.run.over ≡ true))
        → ((called part h).ran.run.over ≡ false → Fits (drop (called part h).ran.used part) later
        → Hands (called part h).ran.run (drop (called part h).ran.used part ++ later) (lines_of more ++ out))
        → Hands h.run (part ++ later) (wrote_in 0 (called part h) ++ lines_of more ++ out)
    on told (over x a) cut rest = absurd (told.1 a)
    on told (used_up x a u) cut rest = absurd (told.1 a)
    on told (no_room x a l u) (inr (y, z)) rest = absurd (true≢false (sym z ∙ x))
    on told (no_room x a l u) (inl (j, y)) rest =
        let most = used_most h.run part h.buffer 0 in
        let used = told.2 in
        let less = u (omega (arith, most, used)) in
        subst (Hands h.run (part ++ later)) (sym (append_assoc (wrote_in 0 (called part h)) (lines_of more) out))
        (hand h.run (part ++ later) part h.buffer 0 (lines_of more ++ out) going (may_hand part later fits) told.0
        (subst (λ (l : List ℕ). Hands (called part h).ran.run l (lines_of more ++ out))
        (sym (drop-append-le (called part h).ran.used part later most))
        (rest x (rest_fits part later (called part h).ran.used j y less fits))))

-- the end of the input ends the run
none_over : {part : List ℕ} {h : Handed} {k : ℕ} {s : Outcome} {g : Handed} → Passes part h k s g → length part ≡ 0 → is_ok s ≡ true
    → run_sound h.run ≡ true → h.run.over ≡ false → g.run.over ≡ true
none_over (stops part h s e) n w sound going = go part n e
  where
    go : (part : List ℕ) → length part ≡ 0 → stop_of (called part h).ran ≡ Some s → (called part h).ran.run.over ≡ true
    go [] n e = let told = whole_told (called [] h).ran s e w in end_over h.run h.buffer 0 sound going told.0 told.1
    go (b ∷ l) n e = absurd (omega (arith, n))
none_over (fails part h e l) n w sound going = absurd (true≢false (sym w))
none_over (goes part h k s g e more) n w sound going =
    let used = (none_told (called part h).ran e).2 in absurd (omega (arith, used_most h.run part h.buffer 0, n, used))

-- a buffer of some whole blocks
even_fits : (full : ℕ) → is_whole_blocks full ≡ true → (k : ℕ) × (1 ≤ k) × (full ≡ k * 512)
even_fits full e =
    let b = both (ltb 0 full) (eqb (full % 512) 0) e in
    let long = ltb-true 0 full b.0 in
    let even = eqb-true (full % 512) 0 b.1 in
    (full / 512, omega (arith, long, even), omega (arith, even))

-- a piece after which the run goes on fills the buffer
goes_fills : {full : ℕ} {piece : List ℕ} {h : Handed} {k : ℕ} {s : Outcome} {g : Handed} → HandsOver full piece h k s g → is_ok s ≡ true
    → g.run.over ≡ false → run_sound h.run ≡ true → length piece ≡ full
goes_fills (uneven f) w o sound = absurd (true≢false (sym w))
goes_fills (fills k s g f b e p) w o sound = e
goes_fills {h = h} (last k s g l t e v b f p q) w o sound = absurd (go q w o)
  where
    go : {l : ℕ} {t : Outcome} {e : Handed} → Finishes g k s l t e → is_ok t ≡ true → e.run.over ≡ false → ⊥
    go (handing.stopped x) w o = true≢false (sym w ∙ x)
    go (handing.over x y) w o = true≢false (sym y ∙ o)
    go (handing.ends l t e x y r) w o = true≢false (sym (none_over r refl w (passes_sound p b sound) y) ∙ o)

-- a piece that was handed over whole: it fills the buffer, or it is the last
piece_hands : {full : ℕ} {piece : List ℕ} {h : Handed} {k : ℕ} {s : Outcome} {g : Handed} (p : HandsOver full piece h k s g)
    → is_ok s ≡ true → run_sound h.run ≡ true → h.run.over ≡ false → (later : List ℕ) → (length piece ≡ full) ⊎ (later ≡ [])
    → (out : List ℕ) → After g later out → Hands h.run (piece ++ later) (piece_lines p ++ out)
unfolding piece_lines last_lines
piece_hands (uneven f) w sound going later fits out after = absurd (true≢false (sym w))
piece_hands {full = full} (fills k s g f b e p) w sound going later fits out after =
    let k = even_fits full f in
    passes_hands p w sound going b later (inl (k.0, k.1, e ∙ k.2)) out after
piece_hands {piece = piece} {h = h} (last k s g l t e v b f p q) w sound going later (inl x) out after = absurd (omega (arith, x, f))
piece_hands {piece = piece} {h = h} (last k s g l t e v b f p q) w sound going later (inr x) out after = go q w after
  where
    go : {l : ℕ} {t : Outcome} {e : Handed} (q : Finishes g k s l t e) → is_ok t ≡ true → After e later out
        → Hands h.run (piece ++ later) ((lines_of p ++ last_lines q) ++ out)
    go (handing.stopped y) w after = absurd (true≢false (sym w ∙ y))
    go (handing.over y z) w after =
        subst (λ (ls : List ℕ). Hands h.run (piece ++ later) (ls ++ out)) (sym (append-nil (lines_of p)))
        (passes_hands p y sound going b later (inr x) out after)
    go (handing.ends l t e y z r) w after =
        subst (Hands h.run (piece ++ later)) (sym (append_assoc (lines_of p) (lines_of r) out))
        (passes_hands p y sound going b later (inr x) (lines_of r ++ out)
        (λ rest same. subst (λ (ls : List ℕ). Hands g.run ls (lines_of r ++ out)) (sym (same z))
        (passes_hands r w (passes_sound p b sound) z (λ i. omega arith) later (inr x) out after)))

piece_bytes : {full : ℕ} {piece : List ℕ} {h : Handed} {k : ℕ} {s : Outcome} {g : Handed} → HandsOver full piece h k s g → is_ok s ≡ true
    → AreBytes piece
piece_bytes (uneven f) w = absurd (true≢false (sym w))
piece_bytes (fills k s g f b e p) w = b
piece_bytes (last k s g l t e v b f p q) w = b

-- the run after a piece is sound
piece_sound : {full : ℕ} {piece : List ℕ} {h : Handed} {k : ℕ} {s : Outcome} {g : Handed} → HandsOver full piece h k s g
    → run_sound h.run ≡ true → run_sound g.run ≡ true
piece_sound (uneven f) sound = sound
piece_sound (fills k s g f b e p) sound = passes_sound p b sound
piece_sound (last k s g l t e v b f p q) sound = go q
  where
    go : {l : ℕ} {t : Outcome} {e : Handed} → Finishes g k s l t e → run_sound e.run ≡ true
    go (handing.stopped y) = passes_sound p b sound
    go (handing.over y z) = passes_sound p b sound
    go (handing.ends l t e y z r) = passes_sound r (λ i. omega arith) (passes_sound p b sound)

lists_hands : {full : ℕ} {h : Handed} {pieces : List (List ℕ)} {r : Result Unit Unlisted} {g : Handed} (l : Lists full h pieces r g) → is_ok r ≡ true
    → run_sound h.run ≡ true → h.run.over ≡ false → Hands h.run (joined pieces) (night_lines l)
unfolding joined night_lines
lists_hands (unread h) o sound going = absurd (true≢false (sym o))
lists_hands (handing.stopped h piece k t g p) o sound going = absurd (true≢false (sym o))
lists_hands (handing.over h piece k s g w x p) o sound going =
    subst (Hands h.run (piece ++ [])) (append-nil (piece_lines p))
    (piece_hands p w sound going [] (inr refl) [] (λ rest same. done g.run rest x))
lists_hands (handing.goes h piece k s g pieces r e w x p more) o sound going =
    piece_hands p w sound going (joined pieces) (inl (goes_fills p w x sound)) (night_lines more)
    (λ rest same. subst (λ (l : List ℕ). Hands g.run l (night_lines more)) (sym (same x))
    (lists_hands more o (piece_sound p sound) x))

lists_bytes : {full : ℕ} {h : Handed} {pieces : List (List ℕ)} {r : Result Unit Unlisted} {g : Handed} → Lists full h pieces r g → is_ok r ≡ true
    → AreBytes (joined pieces)
unfolding joined
lists_bytes (unread h) o = λ i. omega arith
lists_bytes (handing.stopped h piece k t g p) o = absurd (true≢false (sym o))
lists_bytes (handing.over h piece k s g w x p) o = append_bytes piece [] (piece_bytes p w) (λ i. omega arith)
lists_bytes (handing.goes h piece k s g pieces r e w x p more) o =
    append_bytes piece (joined pieces) (piece_bytes p w) (lists_bytes more o)

-- Of a night that came to its end: the lines of its calls, one after another, are the list of its pieces, joined.
pub night_listed : {full : ℕ} {out : List ℕ} {pieces : List (List ℕ)} {g : Handed}
    (l : Lists full (record { run = started; buffer = out }) pieces (Ok (tt {0})) g) → night_lines l ≡ list_of (joined pieces)
unfolding started
night_listed {pieces = pieces} l =
    file_listed (joined pieces) (lists_bytes l refl) (night_lines l) (lists_hands l refl started_sound refl)

-- a piece is no longer than the buffer
piece_long : {full : ℕ} {piece : List ℕ} {h : Handed} {k : ℕ} {s : Outcome} {g : Handed} → HandsOver full piece h k s g → is_ok s ≡ true
    → length piece ≤ full
piece_long (uneven f) w = absurd (true≢false (sym w))
piece_long (fills k s g f b e p) w = omega (arith, e)
piece_long (last k s g l t e v b f p q) w = omega (arith, f)

lists_fill : {full : ℕ} {h : Handed} {pieces : List (List ℕ)} {r : Result Unit Unlisted} {g : Handed} → Lists full h pieces r g → is_ok r ≡ true
    → run_sound h.run ≡ true → AllButLastFill full pieces
lists_fill (unread h) o sound = tt
lists_fill (handing.stopped h piece k t g p) o sound = absurd (true≢false (sym o))
lists_fill (handing.over h piece k s g w x p) o sound = piece_long p w
lists_fill {full = full} (handing.goes h piece k s g pieces r e w x p more) o sound =
    go pieces (goes_fills p w x sound) (lists_fill more o (piece_sound p sound))
  where
    go : (pieces : List (List ℕ)) → length piece ≡ full → AllButLastFill full pieces → AllButLastFill full (piece ∷ pieces)
    go [] e f = omega (arith, e)
    go (next ∷ pieces) e f = (e, f)

-- and all of them but the last fill the buffer
pub pieces_fill : {full : ℕ} {out : List ℕ} {pieces : List (List ℕ)} {g : Handed}
    → Lists full (record { run = started; buffer = out }) pieces (Ok (tt {0})) g → AllButLastFill full pieces
pieces_fill l = lists_fill l refl started_sound
