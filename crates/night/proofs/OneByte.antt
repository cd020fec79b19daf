-- "Any one byte changed, in a block whose check holds, must be noticed." (01, blocks), of a whole file: where its list ends in E, the list
-- of the file with one byte changed has the lines of the blocks before that byte's, and ends there in R 7.
-- Assumes nothing.
use Rattle.base.specs.Refusal.{number_of}
use Rattle.std.specs.Prelude.{Result}
use Rattle.std.specs.Prelude.{Ok, Err}
use mathlib.Core.Path.{◌≡◌, refl, sym, ap, ap₂, subst, ◌∙◌}
use mathlib.Core.Bool.{Bool, true, false, cond, true≢false}
use mathlib.Core.List.{List, [], ◌∷◌, ◌++◌}
use Prim.Native.Nat.{ℕ, zero, suc, ◌+◌, ◌*◌, ◌/◌, ◌%◌, ◌≤◌, ◌<◌}
use native.Mathlib.Omega.{arith}
use lib.ListN.{length, take, drop, length-take, length-drop}
use lib.Seq.{ext_get_or, get_or-take, get_or-drop, take-take, take_all}
use Rattle.base.specs.Numbers as numbers
use Rattle.base.specs.Sizes.{no_config}
use Rattle.base.proofs.Lists.{take_inside}
use Rattle.state.specs.declared.Router.{Router}
use Rattle.state.specs.Fresh.{fresh_router}
use Rattle.trace.specs.declared.place.Place.{Place}
use Rattle.trace.specs.Bytes.{AreBytes}
use Rattle.trace.specs.Blocks.{part_at}
use Rattle.trace.specs.Changed.{ChangedAt}
use Rattle.trace.specs.Place.{start, good_place}
use Rattle.trace.specs.declared.judging.Answer.{Answer}
use Rattle.trace.specs.declared.judging.Found.{Found}
use Rattle.base.specs.declared.refusal.Refusal.{Refusal}
use Rattle.trace.specs.declared.judging.Found.TheVariants as found
use Rattle.trace.specs.Judged.{accepted, refused, read_of}
use Rattle.trace.specs.Judged.{next_place, taken, judged}
use Rattle.trace.proofs.Exactness.{accepted_taken}
use Rattle.trace.proofs.Findings.{FoundAs, refuses, configures, holds, ends, is_over, found_as}
use Rattle.trace.proofs.Order.{judged_unsound, judged_follows}
use Rattle.trace.proofs.OneByte as block
use Rattle.listing.specs.Lines.{refusal, text, cycle_lines}
use Rattle.base.specs.Refusal.{Verdict}
use Rattle.rules.specs.Step.{step_of}
use Rattle.router.proofs.Going.{piece_bytes}
use Rattle.night.specs.File.{Ending, finishes, Printed, ends_at, after, cycle_then, cycles_then, block_then, file_from, cut_into}
use Rattle.night.specs.File.{blocks_of, printed_of, lines_of, list_of}
use Rattle.night.specs.File as file
use Rattle.night.specs.Accepted.{accepted_of}
use Rattle.night.specs.Changed.{ChangedIn, blocks_before, then_wrong}
use Rattle.night.proofs.Accepting.{cycles_accepted}
use Rattle.night.proofs.Cuts.{first_block, drop_taken, drop_bytes}

-- a list that ends in R does not end in E
abbrev is_whole_list : Ending → Bool
is_whole_list finishes = true
is_whole_list (file.refuses n k) = false

not_whole : {n k : ℕ} → file.refuses n k ≡ finishes → ⊥
not_whole e = true≢false (sym (ap is_whole_list e))

-- ---- what comes before the changed block is printed as before

module _ (f g h : Router → Printed) (rest : (s : Router) → (f s).ending ≡ finishes → g s ≡ then_wrong (h s)) (b : List ℕ) where
  cycles_before : (n k : ℕ) (s : Router) → (cycles_then f b k n s).ending ≡ finishes → cycles_then g b k n s ≡ then_wrong (cycles_then h b k n s)
  unfolding cycles_then
  cycles_before zero k s e = rest s e
  cycles_before (suc n) k s e = go (step_of s (part_at b k)).verdict e (cycles_before n (k + 1) (step_of s (part_at b k)).router)
    where
      go : (v : Verdict) → (cycle_then v (step_of s (part_at b k)) s (cycles_then f b (k + 1) n)).ending ≡ finishes
          → ((cycles_then f b (k + 1) n (step_of s (part_at b k)).router).ending ≡ finishes
          → cycles_then g b (k + 1) n (step_of s (part_at b k)).router ≡ then_wrong (cycles_then h b (k + 1) n (step_of s (part_at b k)).router))
          → cycle_then v (step_of s (part_at b k)) s (cycles_then g b (k + 1) n)
          ≡ then_wrong (cycle_then v (step_of s (part_at b k)) s (cycles_then h b (k + 1) n))
      go (Ok _) d more = ap (after (cycle_lines s.cycle (step_of s (part_at b k)).reply)) (more d)
      go (Err r) d more = absurd (not_whole d)

-- whether what was read is not the end of the input after the end block
abbrev is_more : Result Found Refusal → Bool
is_more (Err r) = true
is_more (Ok (found.Configuration c)) = true
is_more (Ok (found.Cycles n)) = true
is_more (Ok found.End) = true
is_more (Ok found.Done) = false

module _ (f g h : Place → Router → Printed) (rest : (p : Place) (s : Router) → (f p s).ending ≡ finishes → g p s ≡ then_wrong (h p s)) where
  block_before : (r : Result Found Refusal) (q : Place) (b : List ℕ) (s : Router) → is_more r ≡ true
      → (block_then r q b s f).ending ≡ finishes → block_then r q b s g ≡ then_wrong (block_then r q b s h)
  block_before (Err r) q b s more e = absurd (not_whole e)
  block_before (Ok (found.Configuration c)) q b s more e = rest q (fresh_router c) e
  block_before (Ok (found.Cycles n)) q b s more e = cycles_before (f q) (g q) (h q) (rest q) b n 0 s e
  block_before (Ok found.End) q b s more e = rest q s e
  block_before (Ok found.Done) q b s more e = absurd (true≢false (sym more))

-- ---- a block of a file whose list ends in E

module _ (b : List ℕ) (p : Place) (s : Router) (rest : Place → Router → Printed)
    (whole : (block_then (judged p s.cycle b).found (judged p s.cycle b).place b s rest).ending ≡ finishes) where
  abbrev is : Answer
  is = judged p s.cycle b

  -- it is accepted
  taken_there : number_of is.found ≡ numbers.done
  taken_there = go is (found_as p s.cycle b) whole
    where
      go : (o : Answer) → FoundAs p s.cycle b o → (block_then o.found o.place b s rest).ending ≡ finishes → (number_of o.found) ≡ numbers.done
      go _ (refuses n k) e = absurd (not_whole e)
      go _ (configures _ _ _) e = refl
      go _ (holds _ _ _ _) e = refl
      go _ (ends _ _) e = refl
      go _ (is_over _) e = refl

  -- it does not come after the end block, where it would be 8
  before_end : 1 ≤ length b → p.ended ≡ false
  before_end long = go p.ended refl (good_place p s.cycle) refl
    where
      off : (n : ℕ) → number_of is.found ≡ n → (n ≡ 0 → ⊥) → ⊥
      off n e other = other (sym e ∙ taken_there)

      go : (d : Bool) → p.ended ≡ d → (g : Bool) → good_place p s.cycle ≡ g → d ≡ false
      go false d g q = refl
      go true d true q =
          absurd (off 8 (ap (λ (o : Answer). (number_of o.found)) (judged_follows p s.cycle b q d long)) (λ z. absurd (omega arith)))
      go true d false q =
          absurd (off 2 (ap (λ (o : Answer). (number_of o.found)) (judged_unsound p s.cycle b q)) (λ z. absurd (omega arith)))

  -- so that the place moves on
  moves_on : 1 ≤ length b → is.place ≡ next_place p b
  unfolding taken
  moves_on long =
      ap (λ (o : Answer). o.place) (accepted_taken p s.cycle b taken_there)
      ∙ ap (λ (d : Bool). (cond d (accepted found.Done p) (accepted (read_of b) (next_place p b))).place) (before_end long)

  goes_on : 1 ≤ length b → is_more is.found ≡ true
  goes_on long = go is (found_as p s.cycle b) (ap (λ (q : Place). q.number) (moves_on long))
    where
      go : (o : Answer) → FoundAs p s.cycle b o → o.place.number ≡ p.number + 1 → is_more o.found ≡ true
      go _ (refuses n k) d = refl
      go _ (configures _ _ _) d = refl
      go _ (holds _ _ _ _) d = refl
      go _ (ends _ _) d = refl
      go _ (is_over _) d = absurd (omega arith)

-- the block in which a byte is changed is refused with 7
module _ (x y : List ℕ) (r : ℕ) (xs : AreBytes x) (ys : AreBytes y) (change : ChangedAt r x y) (long : length y ≡ length x)
    (p : Place) (s : Router) (rest other : Place → Router → Printed)
    (whole : (block_then (judged p s.cycle x).found (judged p s.cycle x).place x s rest).ending ≡ finishes) (some_bytes : 1 ≤ length x) where
  check_wrong-law : judged p s.cycle y ≡ refused numbers.check_wrong 0 p
  check_wrong-law =
      let e = taken_there x p s rest whole in
      block.one_byte_noticed x y r xs ys change p s.cycle (before_end x p s rest whole some_bytes)
      (record {
        not_unsound = λ q. absurd (omega arith);
        not_short = λ q. absurd (omega arith);
        not_check_wrong = λ q. absurd (omega arith);
      }) long

  changed_block : block_then (judged p s.cycle y).found (judged p s.cycle y).place y s other ≡ ends_at s (file.refuses numbers.check_wrong 0)
  changed_block = ap (λ (o : Answer). block_then o.found o.place y s other) check_wrong-law

-- ---- block by block

-- the first block, and the blocks of the rest
cut : (l : List ℕ) → 1 ≤ length l → blocks_of l ≡ take 512 l ∷ blocks_of (drop 512 l)
cut l h = first_block l h ∙ ap (λ (m : List ℕ). take 512 l ∷ blocks_of m) (drop_taken 512 l)

-- the blocks before, without the first
drop_before : (n : ℕ) (l : List ℕ) → drop 512 (take (512 + n) l) ≡ take n (drop 512 l)
drop_before n l =
    sym (take_all n (drop 512 (take (512 + n) l)) (omega (arith, length-drop 512 (take (512 + n) l), length-take (512 + n) l)))
    ∙ take_inside n 512 (512 + n) l (omega arith)

-- a byte of a later block
later : (k : ℕ) (x y : List ℕ) → ChangedIn (512 + k) x y → ChangedIn k (drop 512 x) (drop 512 y)
later k x y c =
    record {
      long = omega (arith, length-drop 512 x, length-drop 512 y, c.long);
      inside = omega (arith, length-drop 512 x, c.inside);
      differs = λ e. c.differs (sym (get_or-drop 512 x k 0) ∙ e ∙ get_or-drop 512 y k 0);
      same = λ i n. get_or-drop 512 x i 0 ∙ c.same (512 + i) (λ e. n (omega arith)) ∙ sym (get_or-drop 512 y i 0);
    }

-- a byte of the first
first : (k : ℕ) (x y : List ℕ) → k < 512 → ChangedIn k x y → ChangedAt k (take 512 x) (take 512 y)
first k x y h c =
    record {
      inside = h;
      differs = λ e. c.differs (sym (get_or-take 512 x k 0 h) ∙ e ∙ get_or-take 512 y k 0 h);
      same = λ i l n. get_or-take 512 x i 0 l ∙ c.same i n ∙ sym (get_or-take 512 y i 0 l);
    }

-- the first block is as it was
first_same : (k : ℕ) (x y : List ℕ) → ChangedIn (512 + k) x y → take 512 x ≡ take 512 y
first_same k x y c =
    ext_get_or 0 (take 512 x) (take 512 y) (omega (arith, length-take 512 x, length-take 512 y, c.long))
    (λ i l. let h : i < 512 = omega (arith, length-take 512 x) in
    get_or-take 512 x i 0 h ∙ c.same i (λ e. absurd (omega arith)) ∙ sym (get_or-take 512 y i 0 h))

-- a block, and then the blocks of the rest
abbrev block_first : Place → Router → List ℕ → List ℕ → Printed
block_first p s b rest = block_then (judged p s.cycle b).found (judged p s.cycle b).place b s (file_from (blocks_of rest))

file_cut : (l : List ℕ) → 1 ≤ length l → (p : Place) (s : Router) → file_from (blocks_of l) p s ≡ block_first p s (take 512 l) (drop 512 l)
unfolding file_from
file_cut l h p s = ap (λ (bs : List (List ℕ)). file_from bs p s) (cut l h)

-- the change is in the first block
module _ (x y : List ℕ) (xs : AreBytes x) (ys : AreBytes y) (p : Place) (s : Router)
    (whole : (file_from (blocks_of x) p s).ending ≡ finishes) where
  first_noticed : (k : ℕ) → k < 512 → ChangedIn k x y → file_from (blocks_of y) p s ≡ ends_at s (file.refuses numbers.check_wrong 0)
  first_noticed k h c =
      let inside = c.inside in
      let long = c.long in
      let some-x : 1 ≤ length x = omega arith in
      let some-y : 1 ≤ length y = omega arith in
      file_cut y some-y p s
      ∙ changed_block (take 512 x) (take 512 y) k (piece_bytes 512 0 x xs) (piece_bytes 512 0 y ys) (first k x y h c)
      (omega (arith, length-take 512 x, length-take 512 y)) p s (file_from (blocks_of (drop 512 x))) (file_from (blocks_of (drop 512 y)))
      (ap (λ (o : Printed). o.ending) (sym (file_cut x some-x p s)) ∙ whole) (omega (arith, length-take 512 x))

  -- the change is in a later one, with n bytes of blocks between
  later_noticed : (n k : ℕ) → ChangedIn (512 + k) x y
      → ((q : Place) (t : Router) → (file_from (blocks_of (drop 512 x)) q t).ending ≡ finishes
      → file_from (blocks_of (drop 512 y)) q t ≡ then_wrong (file_from (blocks_of (take n (drop 512 x))) q t))
      → file_from (blocks_of y) p s ≡ then_wrong (file_from (blocks_of (take (512 + n) x)) p s)
  later_noticed n k c rest =
      let inside = c.inside in
      let long = c.long in
      let some-x : 1 ≤ length x = omega arith in
      let some-y : 1 ≤ length y = omega arith in
      let b = take 512 x in
      let z = take (512 + n) x in
      let there : (block_first p s b (drop 512 x)).ending ≡ finishes =
      ap (λ (o : Printed). o.ending) (sym (file_cut x some-x p s)) ∙ whole in
      let before : file_from (blocks_of z) p s ≡ block_first p s b (take n (drop 512 x)) =
      file_cut z (omega (arith, length-take (512 + n) x)) p s
      ∙ ap₂ (block_first p s) (take-take 512 (512 + n) x (omega arith)) (drop_before n x) in
      file_cut y some-y p s ∙ ap (λ (a : List ℕ). block_first p s a (drop 512 y)) (sym (first_same k x y c))
      ∙ block_before (file_from (blocks_of (drop 512 x))) (file_from (blocks_of (drop 512 y))) (file_from (blocks_of (take n (drop 512 x)))) rest
      (judged p s.cycle b).found (judged p s.cycle b).place b s
      (goes_on b p s (file_from (blocks_of (drop 512 x))) there (omega (arith, length-take 512 x))) there
      ∙ sym (ap then_wrong before)

-- byte k is byte r of block q
file_noticed : (q r k : ℕ) → r < 512 → k ≡ q * 512 + r → (x y : List ℕ) → AreBytes x → AreBytes y → ChangedIn k x y
    → (p : Place) (s : Router)
    → (file_from (blocks_of x) p s).ending ≡ finishes → file_from (blocks_of y) p s ≡ then_wrong (file_from (blocks_of (take (q * 512) x)) p s)
unfolding file_from cut_into
file_noticed zero r k h at x y xs ys c p s e = first_noticed x y xs ys p s e k (omega arith) c
file_noticed (suc q) r k h at x y xs ys c p s e =
    let behind : k ≡ 512 + (q * 512 + r) = omega arith in
    let blocks : 512 + q * 512 ≡ suc q * 512 = omega arith in
    let d : ChangedIn (512 + (q * 512 + r)) x y = subst (λ (m : ℕ). ChangedIn m x y) behind c in
    later_noticed x y xs ys p s e (q * 512) (q * 512 + r) d
    (file_noticed q r (q * 512 + r) h refl (drop 512 x) (drop 512 y) (drop_bytes 512 x xs) (drop_bytes 512 y ys)
    (later (q * 512 + r) x y d))
    ∙ ap (λ (m : ℕ). then_wrong (file_from (blocks_of (take m x)) p s)) blocks

module _ (k : ℕ) (bytes changed : List ℕ) (are : AreBytes bytes) (are_too : AreBytes changed) (change : ChangedIn k bytes changed)
    (whole : (printed_of bytes).ending ≡ finishes) where
  pub one_byte_noticed : printed_of changed ≡ then_wrong (printed_of (blocks_before k bytes))
  unfolding printed_of
  one_byte_noticed =
      file_noticed (k / 512) (k % 512) k (omega arith) (omega arith) bytes changed are are_too change start (fresh_router no_config) whole

  -- the list: the lines of the blocks before, then R 7 with the cycles accepted in them and place 0
  pub one_byte_listed : list_of changed
      ≡ text ((printed_of (blocks_before k bytes)).lines ++ refusal numbers.check_wrong (accepted_of (blocks_before k bytes)) 0 ∷ [])
  unfolding list_of
  one_byte_listed =
      ap (λ (p : Printed). text (lines_of p)) one_byte_noticed
      ∙ ap (λ (c : ℕ). text ((printed_of (blocks_before k bytes)).lines ++ refusal numbers.check_wrong c 0 ∷ []))
      (cycles_accepted (blocks_before k bytes) (piece_bytes (k / 512 * 512) 0 bytes are))
