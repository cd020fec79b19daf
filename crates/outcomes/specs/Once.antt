-- "For each input the contract determines result, state and buffer, refusals too; prove that no second outcome satisfies it, or list the
-- exception and why" (01).
-- A contract here is the function's own, no text beside it: what a caller must show (`Reads.Asked`) and then learns (`Reads.Learnt`),
-- which Rattle draws from the written clauses and proves of them (`Reads.known`).
-- Assumes nothing.
use Rattle.std.specs.Prelude.{◌≡◌}
use seplogic.Ra.Ura.{Ura}
use base.Logic.{SProp, emp}
use prog.Memory.{Memory}
use prog.Routine.{Routine}
use types.Logic.{Logic}
use contract.Lifetimes.{Lfts}
use contract.Monad.{Fun, fact}
use denote.Triple.Entry.{Args, Res}
use denote.Triple.Clauses.{Ended, Lasts, AtExit, at_exit, Clauses}

module _ (T : Ended) where
  abbrev Lifetimes : Type 0
  Lifetimes = Lfts T.signature.lifetimes

  abbrev Input : Lifetimes → Type 0
  Input = Args T.signature

  abbrev Result : Lifetimes → Type 0
  Result = Res T.signature

  abbrev pub Asks : Type 1
  Asks = (κs : Lifetimes) → Input κs → Type 0

  abbrev pub Tells : Type 1
  Tells = (κs : Lifetimes) → Input κs → Result κs → AtExit T κs → Type 0

  -- Any input may be handed over, and two outcomes that the contract allows for it are one. An outcome is the result and what each place
  -- lent as `&mut` holds at the exit (`Lasts`, in which a value or a `&` has no part). Of the result counts what `see` shows.
  abbrev pub OnceSeen : {S : Lifetimes → Type 0} (see : (κs : Lifetimes) → Result κs → S κs) → Asks → Tells → Type 0
  OnceSeen see Asked Learnt =
      (κs : Lifetimes) (a : Input κs) → Asked κs a
      × ((r s : Result κs) (u v : Lasts T κs a) → Learnt κs a r (at_exit T κs a u) → Learnt κs a s (at_exit T κs a v)
      → (see κs r ≡ see κs s) × (u ≡ v))

  -- where all of the result counts
  abbrev pub Once : Asks → Tells → Type 0
  Once = OnceSeen {S = Result} (λ κs r. r)

  -- where only outcomes whose result is `fine` are told apart
  abbrev pub OnceWhere : (fine : (κs : Lifetimes) → Result κs → Type 0) → Asks → Tells → Type 0
  OnceWhere fine Asked Learnt =
      (κs : Lifetimes) (a : Input κs) → Asked κs a
      × ((r s : Result κs) (u v : Lasts T κs a) → Learnt κs a r (at_exit T κs a u) → Learnt κs a s (at_exit T κs a v)
      → fine κs r → fine κs s → (r ≡ s) × (u ≡ v))

  -- the same, whatever is asked of a caller
  abbrev pub SameWhere : (fine : (κs : Lifetimes) → Result κs → Type 0) → Tells → Type 0
  SameWhere fine Learnt =
      (κs : Lifetimes) (a : Input κs) (r s : Result κs) (u v : Lasts T κs a)
      → Learnt κs a r (at_exit T κs a u) → Learnt κs a s (at_exit T κs a v) → fine κs r → fine κs s → (r ≡ s) × (u ≡ v)

  -- Of a function that the borrow checker does not cover Rattle drew no `Reads` with the older kit: that its written clauses ask for
  -- nothing and tell just this.
  abbrev pub Says : (M : Type 1) → ((𝓤 : Ura M) → (𝓛 : Logic 𝓤) → (Memory → SProp 𝓤) → (Routine → Fun 𝓤) → Clauses 𝓤 T) → Tells → Type 2
  Says M clauses Learnt =
      (𝓤 : Ura M) (𝓛 : Logic 𝓤) (mem : Memory → SProp 𝓤) (run : Routine → Fun 𝓤) (κs : Lifetimes) (a : Input κs)
      (g : (clauses 𝓤 𝓛 mem run κs a).ghost) → ((clauses 𝓤 𝓛 mem run κs a).requires g ≡ emp 𝓤)
      × ((r : Result κs) (u : AtExit T κs) → (clauses 𝓤 𝓛 mem run κs a).ensures g r u ≡ fact 𝓤 (Learnt κs a r u))
