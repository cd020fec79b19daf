-- What `==` says of two routers and of two replies: true just where they are one, in every field.
-- Assumes nothing.
use mathlib.Core.Path.{◌≡◌, refl, ap, subst, sym}
use mathlib.Core.Bool.{false≢true}
use Rattle.std.proofs.Common.{rules, true, Bool, List, ℕ, ◌==◌, ◌&&◌}
use Rattle.std.specs.Prelude.{Option, Some, None}
use Rattle.std.specs.Option.{option_eq}
use Rattle.std.proofs.lemmas.Option.{same_Some, none-some}
use Rattle.std.specs.Bool.{Decides}
use Rattle.std.specs.Cmp.{unsigned_Decides}
use Rattle.std.specs.Cmp.Lexicographic.{pointwise}
use Rattle.std.proofs.lemmas.Slice.Eq.{slice_eq-Decides}
use Rattle.base.proofs.Search.{both}
use Rattle.base.specs.declared.config.Config.{Config}
use Rattle.base.specs.declared.reply.Departure.{Departure}
use Rattle.base.specs.declared.reply.Reply.{Reply}
use Rattle.arbiter.specs.declared.Arbiter.{Arbiter}
use Rattle.state.specs.declared.InputVc.{InputVc}
use Rattle.state.specs.declared.OutputVc.{OutputVc}
use Rattle.state.specs.declared.Arbiters.{Arbiters}
use Rattle.state.specs.declared.Router.{Router}
use Rattle.base.specs.contracts.config.ConfigPartialEq.TheImpl as config_eq
use Rattle.base.specs.contracts.reply.DeparturePartialEq.TheImpl as departure_eq
use Rattle.base.specs.contracts.reply.ReplyPartialEq.TheImpl as reply_eq
use Rattle.base.specs.contracts.reply.DepartureEq.TheImpl.Laws as departure_laws
use Rattle.base.specs.contracts.reply.ReplyEq.TheImpl.Laws as reply_laws
use Rattle.state.specs.contracts.InputVcPartialEq.TheImpl as input_eq
use Rattle.state.specs.contracts.OutputVcPartialEq.TheImpl as output_eq
use Rattle.state.specs.contracts.ArbitersPartialEq.TheImpl as arbiters_eq
use Rattle.state.specs.contracts.RouterPartialEq.TheImpl as router_eq
use Rattle.state.specs.contracts.InputVcEq.TheImpl.Laws as input_laws
use Rattle.state.specs.contracts.OutputVcEq.TheImpl.Laws as output_laws
use Rattle.state.specs.contracts.RouterEq.TheImpl.Laws as router_laws

config_is : (a b : Config) → config_eq.eq-value.it a b ≡ true → a ≡ b
config_is a b e = search rules

input_is : (a b : InputVc) → Decides (input_eq.eq-value.it a b) (a ≡ b)
input_is a b = (λ e. search rules, λ e. subst (λ x. input_eq.eq-value.it x b ≡ true) (sym e) (input_laws.laws-law.refl b))

output_is : (a b : OutputVc) → Decides (output_eq.eq-value.it a b) (a ≡ b)
output_is a b = (λ e. search rules, λ e. subst (λ x. output_eq.eq-value.it x b ≡ true) (sym e) (output_laws.laws-law.refl b))

-- numbers along two arrays
words_are : (xs ys : List ℕ) → Decides (pointwise ◌==◌ xs ys) (xs ≡ ys)
words_are xs ys = slice_eq-Decides unsigned_Decides xs ys (pointwise ◌==◌ xs ys) refl

abbrev arbiter_eq : {places : ℕ} → Arbiter places → Arbiter places → Bool
arbiter_eq a b = (a.pointer == b.pointer) && pointwise ◌==◌ a.rows b.rows

arbiter_is : {places : ℕ} (a b : Arbiter places) → Decides (arbiter_eq a b) (a ≡ b)
arbiter_is a b = (
  λ e. let h = both (a.pointer == b.pointer) (pointwise ◌==◌ a.rows b.rows) e in let p = (unsigned_Decides a.pointer b.pointer).0 h.0 in
      let r = (words_are a.rows b.rows).0 h.1 in λ i. record { pointer = p i; rows = r i },
  λ e. subst (λ x. arbiter_eq x b ≡ true) (sym e) (itself b),
)
  where
    itself : {places : ℕ} (x : Arbiter places) → arbiter_eq x x ≡ true
    itself x = rw ((unsigned_Decides x.pointer x.pointer).1 refl, (words_are x.rows x.rows).1 refl) refl

-- the elements of two arrays of arbiters
all_are : {places : ℕ} (xs ys : List (Arbiter places)) → pointwise arbiter_eq xs ys ≡ true → xs ≡ ys
all_are xs ys e = (slice_eq-Decides arbiter_is xs ys (pointwise arbiter_eq xs ys) refl).0 e

arbiters_are : (a b : Arbiters) → arbiters_eq.eq-value.it a b ≡ true → a ≡ b
arbiters_are a b e =
    let h = both _ _ e in
    let k = both _ _ h.1 in
    let v = all_are a.vcs b.vcs h.0 in
    let n = all_are a.inputs b.inputs k.0 in
    let o = all_are a.outputs b.outputs k.1 in
    λ i. record { vcs = v i; inputs = n i; outputs = o i }

router_is : (a b : Router) → router_eq.eq-value.it a b ≡ true → a ≡ b
router_is a b e =
    let h0 = both _ _ e in
    let h1 = both _ _ h0.1 in
    let h2 = both _ _ h1.1 in
    let h3 = both _ _ h2.1 in
    let h4 = both _ _ h3.1 in
    let h5 = both _ _ h4.1 in
    let h6 = both _ _ h5.1 in
    let c = config_is a.config b.config h0.0 in
    let n = (unsigned_Decides a.cycle b.cycle).0 h1.0 in
    let x = (slice_eq-Decides input_is a.inputs b.inputs _ refl).0 h2.0 in
    let y = (slice_eq-Decides output_is a.outputs b.outputs _ refl).0 h3.0 in
    let s = (words_are a.store b.store).0 h4.0 in
    let w = (words_are a.wire b.wire).0 h5.0 in
    let m = (words_are a.home b.home).0 h6.0 in
    let r = arbiters_are a.arbiters b.arbiters h6.1 in
    λ i. record { config = c i; cycle = n i; inputs = x i; outputs = y i; store = s i; wire = w i; home = m i; arbiters = r i }

-- `==` answers true just where nothing at all differs
pub same_router : (a b : Router) → Decides (router_eq.eq-value.it a b) (a ≡ b)
same_router a b = (router_is a b, λ e. subst (λ x. router_eq.eq-value.it x b ≡ true) (sym e) (router_laws.laws-law.refl b))

departure_is : (a b : Departure) → Decides (departure_eq.eq-value.it a b) (a ≡ b)
departure_is a b =
    (λ e. search rules, λ e. subst (λ x. departure_eq.eq-value.it x b ≡ true) (sym e) (departure_laws.laws-law.refl b))

maybe_is : {A : Type 0} {E : A → A → Bool} → ((a b : A) → Decides (E a b) (a ≡ b)) → (o p : Option A) → Decides (option_eq E o p) (o ≡ p)
maybe_is d None None = (λ e. refl, λ e. refl)
maybe_is d None (Some b) = (λ e. absurd (false≢true e), λ e. absurd (none-some b e))
maybe_is d (Some a) None = (λ e. absurd (false≢true e), λ e. absurd (none-some a (sym e)))
maybe_is d (Some a) (Some b) = (λ e. ap Some ((d a b).0 e), λ e. (d a b).1 (same_Some a b e))

reply_is : (a b : Reply) → reply_eq.eq-value.it a b ≡ true → a ≡ b
reply_is a b e =
    let h = both _ _ e in
    let s = (slice_eq-Decides (maybe_is unsigned_Decides) a.senders b.senders _ refl).0 h.0 in
    let o = (slice_eq-Decides (maybe_is departure_is) a.outputs b.outputs _ refl).0 h.1 in
    λ i. record { senders = s i; outputs = o i }

pub same_reply : (a b : Reply) → Decides (reply_eq.eq-value.it a b) (a ≡ b)
same_reply a b = (reply_is a b, λ e. subst (λ x. reply_eq.eq-value.it x b ≡ true) (sym e) (reply_laws.laws-law.refl b))
