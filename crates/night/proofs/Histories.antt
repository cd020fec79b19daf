-- The list of a file and its history are one: the lines are those of a run through the file's accepted cycles, the cycles that E and R name
-- are the entries of its history, and the flits that E names are those that left in it.
-- Assumes nothing.
use Rattle.std.specs.Prelude.{Ok, Err}
use mathlib.Core.Path.{◌≡◌, refl, sym, ap, subst, ◌∙◌}
use mathlib.Core.Bool.{Bool, true, false, cond, true≢false}
use mathlib.Core.List.{List, [], ◌∷◌, ◌++◌}
use Prim.Native.Nat.{ℕ, zero, suc, ◌+◌}
use native.Mathlib.Omega.{arith}
use lib.Dec.{eqb}
use lib.ListN.{length, take, drop}
use Rattle.base.specs.declared.config.Config.{Config}
use Rattle.base.specs.Sizes.{no_config}
use Rattle.state.specs.declared.Router.{Router}
use Rattle.state.specs.Fresh.{fresh_router}
use Rattle.trace.specs.declared.place.Place.{Place}
use Rattle.trace.specs.Blocks.{kind_of, held_of, config_of, cycle_length, cycle_start, part_at}
use Rattle.trace.specs.Bytes.{AreBytes}
use Rattle.trace.specs.Place.{start}
use Rattle.trace.specs.declared.judging.Answer.{Answer}
use Rattle.trace.specs.Judged.{next_place, judged}
use Rattle.trace.proofs.Findings.{FoundAs, refuses, configures, holds, ends, is_over, found_as}
use Rattle.listing.specs.Lines.{Line, finish, cycle_lines, flit_lines}
use Rattle.model.specs.Lists.{All}
use Rattle.model.proofs.Lists.{all_append}
use Rattle.base.specs.Refusal.{Verdict}
use Rattle.rules.specs.Step.{step_of}
use Rattle.history.specs.Listed.{departed, lines_then, lines_from}
use Rattle.history.specs.Run.{Ran, recorded, run_from, run_of}
use Rattle.history.proofs.Listed.{run_departed, run_counted}
use Rattle.router.proofs.Going.{piece_bytes}
use Rattle.night.specs.File as file
use Rattle.night.specs.File.{finishes, Printed, cycle_then, cycles_then, block_then, file_from, cut_into, blocks_of, last_line}
use Rattle.night.specs.File.{printed_of}
use Rattle.night.specs.Accepted.{counted, accepted_in, accepted_by, accepted_from, accepted_of}
use Rattle.night.specs.Histories.{parts_from, parts_in, parts_of, configuration_of, accepted_parts, history_of}
use Rattle.night.proofs.Cuts.{drop_bytes}

-- where a run has come to, and what is printed from there on: the lines and the cycles of a run through these parts
record Joins (c : Config) (r : Ran) (parts : List (List ℕ)) (p : Printed) : Type 0 where
  lines : p.lines ≡ lines_from r.router parts
  cycles : p.cycles ≡ (run_from c r parts).router.cycle

module _ (c : Config) where
  -- a run through nothing
  stops : (r : Ran) (e : file.Ending) → Joins c r [] (file.ends_at r.router e)
  unfolding lines_from run_from
  stops r e = record { lines = refl; cycles = refl }

  -- an accepted cycle comes before those after it
  goes_on : (r : Ran) (part : List ℕ) (parts : List (List ℕ)) (rest : Router → Printed) → (step_of r.router part).verdict ≡ Ok tt
      → Joins c (recorded c part r (Ok tt) (step_of r.router part)) parts (rest (step_of r.router part).router)
      → Joins c r (part ∷ parts) (cycle_then (Ok tt) (step_of r.router part) r.router rest)
  unfolding lines_from run_from
  goes_on r part parts rest e more =
      let x = step_of r.router part in
      record {
        lines = ap (λ (ls : List Line). cycle_lines r.router.cycle x.reply ++ ls) more.lines
            ∙ ap (λ (v : Verdict). lines_then v x r.router (λ t. lines_from t parts)) (sym e);
        cycles = more.cycles ∙ ap (λ (v : Verdict). (run_from c (recorded c part r v x) parts).router.cycle) (sym e);
      }

  module _ (block : List ℕ) where
    -- the cycles of a block, and then the rest
    cycles_join : (rest : Router → Printed) (later : Router → ℕ) (more : List (List ℕ))
        → ((r : Ran) → Joins c r (take (later r.router) more) (rest r.router)) → (n k : ℕ) (r : Ran)
        → Joins c r (take (accepted_in later block k n r.router) (parts_from block k n ++ more)) (cycles_then rest block k n r.router)
    unfolding cycles_then accepted_in parts_from
    cycles_join rest later more same zero k r = same r
    cycles_join rest later more same (suc n) k r =
        go (step_of r.router (part_at block k)).verdict refl (λ q. cycles_join rest later more same n (k + 1) q)
      where
        go : (v : Verdict) → (step_of r.router (part_at block k)).verdict ≡ v
            → ((q : Ran) → Joins c q (take (accepted_in later block (k + 1) n q.router) (parts_from block (k + 1) n ++ more))
            (cycles_then rest block (k + 1) n q.router))
            → Joins c r (take (counted v (accepted_in later block (k + 1) n (step_of r.router (part_at block k)).router))
            (part_at block k ∷ (parts_from block (k + 1) n ++ more)))
            (cycle_then v (step_of r.router (part_at block k)) r.router (cycles_then rest block (k + 1) n))
        go (Ok _) e after =
            let part = part_at block k in
            let x = step_of r.router part in
            let m = accepted_in later block (k + 1) n x.router in
            let one : suc m ≡ 1 + m = omega arith in
            let rest_of = cycles_then rest block (k + 1) n in
            subst (λ (j : ℕ). Joins c r (take j (part ∷ (parts_from block (k + 1) n ++ more)))
            (cycle_then (Ok tt) x r.router rest_of)) one
            (goes_on r part (take m (parts_from block (k + 1) n ++ more)) rest_of e (after (recorded c part r (Ok tt) x)))
        go (Err f) e after = stops r _

    -- a block after the configuration block, and then the rest
    block_joins : (rest : Place → Router → Printed) (later : Place → Router → ℕ) (more : List (List ℕ))
        → ((p : Place) (r : Ran) → p.configured ≡ true → Joins c r (take (later p r.router) more) (rest p r.router))
        → (p : Place) (r : Ran) → p.configured ≡ true → (o : Answer) → FoundAs p r.router.cycle block o
        → Joins c r (take (accepted_by o.found o.place block r.router later) (parts_in block ++ more))
        (block_then o.found o.place block r.router rest)
    unfolding parts_in
    block_joins rest later more same p r y _ (refuses n k) = stops r _
    block_joins rest later more same p r y _ (configures a b kind) = absurd (true≢false (sym y ∙ a))
    block_joins rest later more same p r y _ (holds a l h kind) =
        let q = next_place p block in
        subst (λ (b : Bool). Joins c r (take (accepted_in (later q) block 0 (held_of block) r.router)
        (cond b (parts_from block 0 (held_of block)) [] ++ more))
        (cycles_then (rest q) block 0 (held_of block) r.router)) (sym kind)
        (cycles_join (rest q) (later q) more (λ t. same q t refl) (held_of block) 0 r)
    block_joins rest later more same p r y _ (ends a kind) =
        let q = next_place p block in
        subst (λ (b : Bool). Joins c r (take (later q r.router) (cond b (parts_from block 0 (held_of block)) [] ++ more))
        (rest q r.router)) (sym kind)
        (same q r refl)
    block_joins rest later more same p r y _ (is_over a) = stops r _

  file_joins : (blocks : List (List ℕ)) (p : Place) (r : Ran) → p.configured ≡ true
      → Joins c r (take (accepted_from blocks p r.router) (parts_of blocks)) (file_from blocks p r.router)
  unfolding file_from accepted_from parts_of
  file_joins [] p r y = stops r _
  file_joins (block ∷ blocks) p r y =
      block_joins block (file_from blocks) (accepted_from blocks) (parts_of blocks) (file_joins blocks) p r y
      (judged p r.router.cycle block)
      (found_as p r.router.cycle block)

-- a fresh router before its first cycle
abbrev fresh : Config → Ran
fresh c = record { router = fresh_router c; history = [] }

-- the first block of a file, and then the rest
first_joins : (block : List ℕ) (blocks : List (List ℕ)) (o : Answer) → FoundAs start 0 block o
    → Joins (config_of block) (fresh (config_of block)) (take (accepted_by o.found o.place block (fresh_router no_config) (accepted_from blocks))
    (parts_in block ++ parts_of blocks))
    (block_then o.found o.place block (fresh_router no_config) (file_from blocks))
unfolding parts_in fresh_router lines_from run_from
first_joins block blocks _ (refuses n k) = record { lines = refl; cycles = refl }
first_joins block blocks _ (configures a b kind) =
    let q = next_place start block in
    let r = fresh (config_of block) in
    subst (λ (b : Bool).
    Joins (config_of block) r (take (accepted_from blocks q r.router) (cond b (parts_from block 0 (held_of block)) [] ++ parts_of blocks))
    (file_from blocks q r.router)) (sym kind) (file_joins (config_of block) blocks q r refl)
first_joins block blocks _ (holds a l h kind) = absurd (true≢false (sym a))
first_joins block blocks _ (ends a kind) = absurd (true≢false (sym a))
first_joins block blocks _ (is_over a) = absurd (true≢false (sym a))

list_joins : (bytes : List ℕ) → Joins (configuration_of bytes) (fresh (configuration_of bytes)) (accepted_parts bytes) (printed_of bytes)
unfolding printed_of accepted_of file_from accepted_from cut_into parts_of fresh_router lines_from run_from
list_joins [] = record { lines = refl; cycles = refl }
list_joins (b ∷ l) =
    let block = take 512 (b ∷ l) in
    first_joins block (cut_into (length l) (drop 512 (b ∷ l))) (judged start 0 block) (found_as start 0 block)

-- the parts of a file are bytes
all_taken : (n : ℕ) (parts : List (List ℕ)) → All AreBytes parts → All AreBytes (take n parts)
all_taken zero parts bytes = tt
all_taken (suc n) [] bytes = tt
all_taken (suc n) (part ∷ parts) bytes = (bytes.0, all_taken n parts bytes.1)

parts_bytes : (block : List ℕ) → AreBytes block → (n k : ℕ) → All AreBytes (parts_from block k n)
unfolding parts_from
parts_bytes block bytes zero k = tt
parts_bytes block bytes (suc n) k = (piece_bytes cycle_length (cycle_start k) block bytes, parts_bytes block bytes n (k + 1))

block_bytes : (block : List ℕ) → AreBytes block → All AreBytes (parts_in block)
unfolding parts_in
block_bytes block bytes = go (eqb (kind_of block) 2)
  where
    go : (b : Bool) → All AreBytes (cond b (parts_from block 0 (held_of block)) [])
    go true = parts_bytes block bytes (held_of block) 0
    go false = tt

file_bytes : (n : ℕ) (l : List ℕ) → AreBytes l → All AreBytes (parts_of (cut_into n l))
unfolding cut_into parts_of
file_bytes zero l bytes = tt
file_bytes (suc n) [] bytes = tt
file_bytes (suc n) (b ∷ l) bytes =
    all_append AreBytes (parts_in (take 512 (b ∷ l))) (parts_of (cut_into n (drop 512 (b ∷ l))))
    (block_bytes (take 512 (b ∷ l)) (piece_bytes 512 0 (b ∷ l) bytes))
    (file_bytes n (drop 512 (b ∷ l)) (drop_bytes 512 (b ∷ l) bytes))

accepted_bytes : (bytes : List ℕ) → AreBytes bytes → All AreBytes (accepted_parts bytes)
accepted_bytes bytes are = all_taken (accepted_of bytes) (parts_of (blocks_of bytes)) (file_bytes (length bytes) bytes are)

-- The lines before the last are those of a run through the file's accepted cycles.
pub list_lines : (bytes : List ℕ) → (printed_of bytes).lines ≡ lines_from (fresh_router (configuration_of bytes)) (accepted_parts bytes)
list_lines bytes = (list_joins bytes).lines

module _ (bytes : List ℕ) (are : AreBytes bytes) where
  -- The cycles that E and R name are the entries of the history.
  pub list_cycles : (printed_of bytes).cycles ≡ length (history_of bytes)
  unfolding run_of
  list_cycles = (list_joins bytes).cycles ∙ sym (run_counted (configuration_of bytes) (accepted_parts bytes) (accepted_bytes bytes are))

  -- The F lines, which E counts, are the flits that left in the history.
  pub list_departed : flit_lines (printed_of bytes).lines ≡ departed (history_of bytes)
  list_departed =
      ap flit_lines (list_lines bytes) ∙ sym (run_departed (configuration_of bytes) (accepted_parts bytes) (accepted_bytes bytes are))

  -- "`E cycles flits`" from the history alone
  pub list_ends : last_line (printed_of bytes) finishes ≡ finish (length (history_of bytes)) (departed (history_of bytes))
  list_ends = λ t. finish (list_cycles t) (list_departed t)
