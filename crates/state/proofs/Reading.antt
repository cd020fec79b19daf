-- Flits read as packets, flit by flit, over the queue and then over the wire.
-- Assumes nothing.
use mathlib.Core.Path.{◌≡◌, refl, sym, ap, ap₂, ◌∙◌}
use mathlib.Core.Bool.{Bool, true, false, cond, not, xor, ◌&&◌}
use mathlib.Core.List.{List, [], ◌∷◌, ◌++◌, map}
use Rattle.std.specs.Prelude.{Option, Some, None}
use Prim.Native.Nat.{ℕ, zero, suc, ◌+◌, ◌-◌, ◌≤◌, ◌<◌}
use native.Mathlib.Nat.{add-zero, add-suc, suc-add}
use native.Mathlib.Numerals.{add-one}
use native.Mathlib.Omega.{arith}
use lib.Dec.{eqb}
use lib.ListN.{length, get_or, take, drop}
use lib.Seq.{drop-cons, take-take}
use Rattle.base.specs.declared.config.Config.{Config}
use Rattle.base.specs.declared.flit.Flit.{Flit}
use Rattle.base.specs.Flit.{kind_of, destination_of, starts_kind, ends_kind}
use Rattle.base.proofs.Search.{some_number}
use Rattle.state.specs.declared.OutVc.{OutVc}
use Rattle.state.specs.declared.Binding.{Binding}
use Rattle.state.specs.declared.Binding.TheVariants.{Bound}
use Rattle.state.specs.Views.{slot_flit, queue_at, places, flat, wire_place, wire_flit, wire_vc, on_vc}
use Rattle.state.specs.Sound.{all, legal_flit, reading, begins_inside}
use Rattle.state.proofs.Places.{flit_on, flit_off}

-- inside a packet comes what does not start one, between packets what does
pub comes_inside : (b : Bool) → not b ≡ xor true b
unfolding xor
comes_inside true = refl
comes_inside false = refl

pub comes_between : (b : Bool) → b ≡ xor false b
unfolding xor
comes_between true = refl
comes_between false = refl

-- what is left of a queue after its first k flits
abbrev pub left : List ℕ → ℕ → ℕ → ℕ → List Flit
left store base queued k = map slot_flit (take (queued - k) (drop (base + k) store))

pub left_all : (store : List ℕ) (base queued : ℕ) → queued ≤ 16 → queue_at store base queued ≡ left store base queued 0
unfolding queue_at
left_all store base queued h =
    ap (map slot_flit)
    (take-take queued 16 (drop base store) h
    ∙ ap₂ (λ n b. take n (drop b store)) (let e : queued ≡ queued - 0 = omega arith in e) (sym (add-zero base)))

pub left_next : (store : List ℕ) (base queued k : ℕ) → k < queued → base + k < length store
    → left store base queued k ≡ (slot_flit (get_or store (base + k) 0) ∷ left store base queued (k + 1))
left_next store base queued k h g =
    let n : queued - k ≡ suc (queued - (k + 1)) = omega arith in
    let b : suc (base + k) ≡ base + (k + 1) = omega arith in
    ap₂ (λ m l. map slot_flit (take m l)) n (drop-cons store (base + k) 0 g)
    ∙ ap (λ l. slot_flit (get_or store (base + k) 0) ∷ map slot_flit (take (queued - (k + 1)) (drop l store))) b

pub left_none : (store : List ℕ) (base queued k : ℕ) → queued ≤ k → left store base queued k ≡ []
left_none store base queued k h = ap (λ n. map slot_flit (take n (drop (base + k) store))) (let e : queued - k ≡ 0 = omega arith in e)

-- the queue's test: what is left of it is the whole of it
abbrev pub Judging : Config → ℕ → ℕ → List ℕ → ℕ → Type 0
Judging c base queued store k = all (legal_flit c) (left store base queued k) ≡ all (legal_flit c) (queue_at store base queued)

pub judging_all : (c : Config) (base queued : ℕ) (store : List ℕ) → queued ≤ 16 → Judging c base queued store 0
judging_all c base queued store h = ap (all (legal_flit c)) (sym (left_all store base queued h))

judged_next : (c : Config) (base queued : ℕ) (store : List ℕ) (k : ℕ) → k < queued → base + k < length store
    → all (legal_flit c) (left store base queued k) ≡ (legal_flit c (slot_flit (get_or store (base + k) 0))
    && all (legal_flit c) (left store base queued
    (k + 1)))
unfolding all
judged_next c base queued store k h g = ap (all (legal_flit c)) (left_next store base queued k h g)

pub judging_fails : (c : Config) (base queued : ℕ) (store : List ℕ) (k : ℕ) → k < queued → base + k < length store
    → legal_flit c (slot_flit (get_or store (base + k) 0)) ≡ false → Judging c base queued store k → false
    ≡ all (legal_flit c) (queue_at store base queued)
judging_fails c base queued store k h g e j =
    sym (ap (λ b. b && all (legal_flit c) (left store base queued (k + 1))) e) ∙ sym (judged_next c base queued store k h g) ∙ j

pub judging_next : (c : Config) (base queued : ℕ) (store : List ℕ) (k : ℕ) → k < queued → base + k < length store
    → legal_flit c (slot_flit (get_or store (base + k) 0)) ≡ true → Judging c base queued store k → Judging c base queued store (k + 1)
judging_next c base queued store k h g e j =
    sym (ap (λ b. b && all (legal_flit c) (left store base queued (k + 1))) e) ∙ sym (judged_next c base queued store k h g) ∙ j

pub judging_done : (c : Config) (base queued : ℕ) (store : List ℕ) (k : ℕ) → queued ≤ k → Judging c base queued store k
    → true ≡ all (legal_flit c) (queue_at store base queued)
unfolding all
judging_done c base queued store k h j = sym (ap (all (legal_flit c)) (left_none store base queued k h)) ∙ j

-- where a reading starts
front_is : (store : List ℕ) (base queued : ℕ) → queued ≤ 16 → (queued ≡ 0 → ⊥) → base < length store
    → queue_at store base queued ≡ (slot_flit (get_or store base 0) ∷ left store base queued 1)
front_is store base queued h n g =
    let z : base + 0 ≡ base = add-zero base in
    left_all store base queued h ∙ left_next store base queued 0 (some_number queued n) (ap_lt z g)
    ∙ ap (λ b. slot_flit (get_or store b 0) ∷ left store base queued 1) z
  where
    ap_lt : base + 0 ≡ base → base < length store → base + 0 < length store
    ap_lt e l = omega arith

pub start_empty : (store : List ℕ) (base queued : ℕ) (b : Binding) (to : OutVc) → b ≡ Bound to → queued ≡ 0
    → true ≡ begins_inside (queue_at store base queued) b
unfolding queue_at
start_empty store base queued b to e z = sym (ap₂ (λ n x. begins_inside (map slot_flit (take n (take 16 (drop base store)))) x) z e)

pub start_inside : (store : List ℕ) (base queued : ℕ) (b : Binding) (to : OutVc) → b ≡ Bound to → queued ≤ 16 → (queued ≡ 0 → ⊥)
    → base < length store → starts_kind (kind_of (slot_flit (get_or store base 0))) ≡ false → true ≡ begins_inside (queue_at store base queued) b
start_inside store base queued b to e h n g k =
    sym (ap₂ (λ q x. begins_inside q x) (front_is store base queued h n g) e
    ∙ ap (λ t. not (t && eqb (destination_of (slot_flit (get_or store base 0))) to.output)) k)

pub start_front : (store : List ℕ) (base queued : ℕ) (b : Binding) (to : OutVc) → b ≡ Bound to → queued ≤ 16 → (queued ≡ 0 → ⊥)
    → base < length store → starts_kind (kind_of (slot_flit (get_or store base 0))) ≡ true
    → not (eqb (destination_of (slot_flit (get_or store base 0))) to.output) ≡ begins_inside (queue_at store base queued) b
start_front store base queued b to e h n g k =
    sym (ap₂ (λ q x. begins_inside q x) (front_is store base queued h n g) e
    ∙ ap (λ t. not (t && eqb (destination_of (slot_flit (get_or store base 0))) to.output)) k)

-- the stages of a wire from k on
pub stages : {A : Type 0} → ℕ → ℕ → (ℕ → A) → List A
stages k zero f = []
stages k (suc m) f = f k ∷ stages (suc k) m f

stages_end : {A : Type 0} (k m : ℕ) (f : ℕ → A) → stages k (suc m) f ≡ stages k m f ++ (f (k + m) ∷ [])
unfolding stages
stages_end k zero f = ap (λ n. f n ∷ []) (sym (add-zero k))
stages_end k (suc m) f =
    ap (λ l. f k ∷ l) (stages_end (suc k) m f ∙ ap (λ n. stages (suc k) m f ++ (f n ∷ [])) (suc-add k m ∙ sym (add-suc k m)))

stages_all : {A : Type 0} (n : ℕ) (f : ℕ → A) → places n f ≡ stages 0 n f
unfolding places stages
stages_all zero f = refl
stages_all (suc n) f =
    let z : n ≡ 0 + n = omega arith in
    ap₂ (λ l m. l ++ (f m ∷ [])) (stages_all n f) z ∙ sym (stages_end 0 n f)

-- one flit of the reading
reading_fails : (inside : Bool) (f : Flit) (fs : List Flit) → xor inside (starts_kind (kind_of f)) ≡ false → reading inside (f ∷ fs) ≡ None
unfolding reading
reading_fails inside f fs e = ap (λ b. cond b (reading (not (ends_kind (kind_of f))) fs) None) e

reading_next : (inside : Bool) (f : Flit) (fs : List Flit) → xor inside (starts_kind (kind_of f)) ≡ true
    → reading inside (f ∷ fs) ≡ reading (not (ends_kind (kind_of f))) fs
unfolding reading
reading_next inside f fs e = ap (λ b. cond b (reading (not (ends_kind (kind_of f))) fs) None) e

-- Over the queue: the reading that is left is the whole reading, which is `whole`. w is the wire.
abbrev pub ReadingQueue : ℕ → ℕ → List ℕ → List Flit → Option Bool → Bool → ℕ → Type 0
ReadingQueue base queued store w whole inside k = reading inside (left store base queued k ++ w) ≡ whole

pub queue_starts : (base queued : ℕ) (store : List ℕ) (w : List Flit) (start : Bool) → queued ≤ 16
    → ReadingQueue base queued store w (reading start (queue_at store base queued ++ w)) start 0
queue_starts base queued store w start h = ap (λ q. reading start (q ++ w)) (sym (left_all store base queued h))

pub queue_fails : (base queued : ℕ) (store : List ℕ) (w : List Flit) (whole : Option Bool) (inside : Bool) (k : ℕ) → k < queued
    → base + k < length store → xor inside (starts_kind (kind_of (slot_flit (get_or store (base + k) 0)))) ≡ false
    → ReadingQueue base queued store w whole inside k → None ≡ whole
queue_fails base queued store w whole inside k h g e r =
    sym (ap (λ q. reading inside (q ++ w)) (left_next store base queued k h g)
    ∙ reading_fails inside (slot_flit (get_or store (base + k) 0)) (left store base queued (k + 1) ++ w) e)
    ∙ r

pub queue_next : (base queued : ℕ) (store : List ℕ) (w : List Flit) (whole : Option Bool) (inside : Bool) (k : ℕ) → k < queued
    → base + k < length store → xor inside (starts_kind (kind_of (slot_flit (get_or store (base + k) 0)))) ≡ true
    → ReadingQueue base queued store w whole inside k
    → ReadingQueue base queued store w whole (not (ends_kind (kind_of (slot_flit (get_or store (base + k) 0))))) (k + 1)
queue_next base queued store w whole inside k h g e r =
    sym (ap (λ q. reading inside (q ++ w)) (left_next store base queued k h g)
    ∙ reading_next inside (slot_flit (get_or store (base + k) 0)) (left store base queued (k + 1) ++ w) e)
    ∙ r

-- Over the wire, from stage k on.
abbrev pub reading_at : ℕ → List ℕ → ℕ → ℕ → Bool → ℕ → Option Bool
reading_at forward wire i v inside k = reading inside (flat (stages k (forward - k) (λ (j : ℕ). on_vc v (wire_place wire j i))))

abbrev pub ReadingWire : ℕ → List ℕ → ℕ → ℕ → Option Bool → Bool → ℕ → Type 0
ReadingWire forward wire i v whole inside k = reading_at forward wire i v inside k ≡ whole

-- all flits of a channel's wire
abbrev pub wire_flits : ℕ → List ℕ → ℕ → ℕ → List Flit
wire_flits forward wire i v = flat (places forward (λ (j : ℕ). on_vc v (wire_place wire j i)))

pub wire_starts : (forward : ℕ) (wire : List ℕ) (i v base queued : ℕ) (store : List ℕ) (whole : Option Bool) (inside : Bool) (k : ℕ)
    → queued ≤ k
    → ReadingQueue base queued store (wire_flits forward wire i v) whole inside k → ReadingWire forward wire i v whole inside 0
wire_starts forward wire i v base queued store whole inside k h r =
    let z : forward - 0 ≡ forward = omega arith in
    ap (λ n. reading inside (flat (stages 0 n (λ (j : ℕ). on_vc v (wire_place wire j i))))) z
    ∙ ap (λ l. reading inside (flat l)) (sym (stages_all forward (λ (j : ℕ). on_vc v (wire_place wire j i))))
    ∙ sym (ap (λ q. reading inside (q ++ wire_flits forward wire i v)) (left_none store base queued k h)) ∙ r

stage_is : (forward : ℕ) (wire : List ℕ) (i v k : ℕ) → k < forward
    → flat (stages k (forward - k) (λ (j : ℕ). on_vc v (wire_place wire j i)))
    ≡ on_vc v (wire_place wire k i) ++ flat (stages (k + 1) (forward - (k + 1)) (λ (j : ℕ). on_vc v (wire_place wire j i)))
unfolding stages flat
stage_is forward wire i v k h =
    let n : forward - k ≡ suc (forward - (k + 1)) = omega arith in
    ap (λ m. flat (stages k m (λ (j : ℕ). on_vc v (wire_place wire j i)))) n
    ∙ ap (λ m. on_vc v (wire_place wire k i) ++ flat (stages m (forward - (k + 1)) (λ (j : ℕ). on_vc v (wire_place wire j i))))
    (sym (add-one k))

pub wire_passes : (forward : ℕ) (wire : List ℕ) (i v : ℕ) (whole : Option Bool) (inside : Bool) (k : ℕ) → k < forward
    → (not (eqb (wire_place wire k i) 0) && eqb (wire_vc (wire_place wire k i)) v) ≡ false
    → ReadingWire forward wire i v whole inside k → ReadingWire forward wire i v whole inside (k + 1)
wire_passes forward wire i v whole inside k h e r =
    sym (ap (reading inside) (stage_is forward wire i v k h
    ∙ ap (λ l. l ++ flat (stages (k + 1) (forward - (k + 1)) (λ (j : ℕ). on_vc v (wire_place wire j i))))
    (flit_off v (wire_place wire k i) e))) ∙ r

wire_flit_is : (forward : ℕ) (wire : List ℕ) (i v k : ℕ) → k < forward
    → (not (eqb (wire_place wire k i) 0) && eqb (wire_vc (wire_place wire k i)) v) ≡ true
    → flat (stages k (forward - k) (λ (j : ℕ). on_vc v (wire_place wire j i)))
    ≡ (wire_flit (wire_place wire k i) ∷ flat (stages (k + 1) (forward - (k + 1)) (λ (j : ℕ). on_vc v (wire_place wire j i))))
wire_flit_is forward wire i v k h e =
    stage_is forward wire i v k h
    ∙ ap (λ l. l ++ flat (stages (k + 1) (forward - (k + 1)) (λ (j : ℕ). on_vc v (wire_place wire j i)))) (flit_on v (wire_place wire k i) e)

pub wire_fails : (forward : ℕ) (wire : List ℕ) (i v : ℕ) (whole : Option Bool) (inside : Bool) (k : ℕ) → k < forward
    → (not (eqb (wire_place wire k i) 0) && eqb (wire_vc (wire_place wire k i)) v) ≡ true
    → xor inside (starts_kind (kind_of (wire_flit (wire_place wire k i)))) ≡ false → ReadingWire forward wire i v whole inside k → None ≡ whole
wire_fails forward wire i v whole inside k h e f r =
    sym (ap (reading inside) (wire_flit_is forward wire i v k h e)
    ∙ reading_fails inside (wire_flit (wire_place wire k i)) (flat
    (stages (k + 1) (forward - (k + 1)) (λ (j : ℕ). on_vc v (wire_place wire j i)))) f) ∙ r

pub wire_next : (forward : ℕ) (wire : List ℕ) (i v : ℕ) (whole : Option Bool) (inside : Bool) (k : ℕ) → k < forward
    → (not (eqb (wire_place wire k i) 0) && eqb (wire_vc (wire_place wire k i)) v) ≡ true
    → xor inside (starts_kind (kind_of (wire_flit (wire_place wire k i)))) ≡ true → ReadingWire forward wire i v whole inside k
    → ReadingWire forward wire i v whole (not (ends_kind (kind_of (wire_flit (wire_place wire k i))))) (k + 1)
wire_next forward wire i v whole inside k h e f r =
    sym (ap (reading inside) (wire_flit_is forward wire i v k h e)
    ∙ reading_next inside (wire_flit (wire_place wire k i)) (flat
    (stages (k + 1) (forward - (k + 1)) (λ (j : ℕ). on_vc v (wire_place wire j i)))) f) ∙ r

pub wire_ends : (forward : ℕ) (wire : List ℕ) (i v : ℕ) (whole : Option Bool) (inside : Bool) (k : ℕ) → forward ≤ k
    → ReadingWire forward wire i v whole inside k → Some inside ≡ whole
unfolding stages flat reading
wire_ends forward wire i v whole inside k h r =
    let n : forward - k ≡ 0 = omega arith in
    sym (ap (λ m. reading inside (flat (stages k m (λ (j : ℕ). on_vc v (wire_place wire j i))))) n) ∙ r
