-- The flits accepted left by their own destinations: it follows from `order` and `ports` of demand 3, for any history. So no history that
-- keeps these two breaks `destinations`; it is said for itself, so that the sentence can be read without them.
-- Assumes nothing.
use mathlib.Core.Path.{◌≡◌, sym, subst, ◌∙◌}
use mathlib.Core.Bool.{true, true≢false}
use mathlib.Core.List.{List, [], ◌∷◌, ◌++◌, append_assoc}
use Rattle.model.specs.Lists.{All}
use Rattle.model.specs.Flit.{Look}
use Rattle.model.specs.History.{Departure, flits}
use Rattle.model.specs.Packets.{Begun, Packet, Whole, Packets, head, body, single, tail, nothing, next, finished, unfinished}
use Rattle.model.specs.Demand3.{ByHeadsPort, LeftByDestination}
use Rattle.model.proofs.Lists.{all_append}

module _ {Flit : Type 0} (look : Look Flit) where
  -- a departure that left by its own destination, if it starts a packet
  abbrev ByOwn : Departure Flit → Type 0
  ByOwn d = look.starts d.flit ≡ true → d.output ≡ look.port d.flit

  begun_own : (h : Departure Flit) (p : List (Departure Flit)) → Begun look (ByHeadsPort look) h p → All ByOwn p
  begun_own h _ (head starts ends fits) = (λ s. fits, tt)
  begun_own h _ (body {p = p} {d = d} begun starts ends fits) =
      all_append ByOwn p (d ∷ []) (begun_own h p begun) (λ s. absurd (true≢false (sym s ∙ starts)), tt)

  packet_own : (p : List (Departure Flit)) → Packet look (ByHeadsPort look) p → All ByOwn p
  packet_own _ (single starts ends fits) = (λ s. fits, tt)
  packet_own _ (tail {h = h} {d = d} {p = p} begun starts ends fits) =
      all_append ByOwn p (d ∷ []) (begun_own h p begun) (λ s. absurd (true≢false (sym s ∙ starts)), tt)

  whole_own : (ds : List (Departure Flit)) → Whole look (ByHeadsPort look) ds → All ByOwn ds
  whole_own _ nothing = tt
  whole_own _ (next {ps = ps} {p = p} whole packet) = all_append ByOwn ps p (whole_own ps whole) (packet_own p packet)

  packets_own : (ds : List (Departure Flit)) → Packets look (ByHeadsPort look) ds → All ByOwn ds
  packets_own ds (finished whole) = whole_own ds whole
  packets_own _ (unfinished {ps = ps} {p = p} {h = h} whole begun) = all_append ByOwn ps p (whole_own ps whole) (begun_own h p begun)

  own_destinations : (ds : List (Departure Flit)) (rest : List Flit) → All ByOwn ds → LeftByDestination look ds (flits ds ++ rest)
  own_destinations [] rest own = tt
  own_destinations (d ∷ ds) rest own = (own.0, own_destinations ds rest own.1)

  pub left_by_destination : (ds : List (Departure Flit)) (queue wire taken : List Flit) → Packets look (ByHeadsPort look) ds
      → flits ds ++ queue ++ wire ≡ taken → LeftByDestination look ds taken
  left_by_destination ds queue wire taken ports order =
      subst (LeftByDestination look ds) (sym (append_assoc (flits ds) queue wire) ∙ order)
      (own_destinations ds (queue ++ wire) (packets_own ds ports))
