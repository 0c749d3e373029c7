-- The mPacket that is given while it is under way.
use Rattle.std.proofs.Common.{ℕ, ◌≡◌, ◌≤◌, ◌+◌, ◌-◌, List, [], ◌∷◌, ◌++◌, take, drop, refl, sym, ◌∙◌, ap}
use Rattle.std.proofs.Common.{ap₂, subst, arith, inl, inr, Option, Some, None, true, false, Bool}
use Rattle.std.specs.Prelude.{◌==◌}
use Rattle.std.proofs.lemmas.Bool.Decides.{eqb_tells}
use Rattle.std.proofs.lemmas.List.{drop-drop}
use Rattle.pre_crc.specs.Checks.{Mcrc}
use Rattle.pre_crc.specs.Register as register
use Rattle.pre_mpacket.specs.declared.packets.Kind.{Kind}
use Rattle.pre_mpacket.specs.Spelling.{PlainPacket}
use Rattle.pre_rings.specs.declared.slots.FrameRef.{FrameRef}
use Rattle.pre_send.specs.declared.pieces.Piece.{Piece}
use Rattle.pre_send.specs.declared.going.Task.{Task}
use Rattle.pre_send.specs.declared.going.Task.TheVariants as task
use Rattle.pre_send.specs.declared.going.Going.{Going}
use Rattle.pre_send.specs.declared.senders.Sender.{Sender}
use Rattle.pre_send.specs.Calls.{Chosen, express, whole, first, rest, verify, respond, lldp, Call}
use Rattle.pre_send.specs.Plans.{piece_kind, piece_size, size_planned}
use Rattle.pre_send.specs.Sendings.{Sending, Part, slot_octets, part_at, interrupted, Follows, IsSending}
use Rattle.pre_send.specs.Packets.{in_one_piece, check_at, fragment_of, rest_packet, bare, packet_by, packet_after}
use Rattle.pre_send.specs.Lendings.{IsNewestPacket, PieceGives, GivesTask}
use Rattle.pre_send.specs.Senders.{Does, IsAt, Stands}

-- an mPacket by its three parts
packet_is : (m : PlainPacket) (k : Kind) (d c : List ℕ) → m.kind ≡ k → m.mdata ≡ d → m.check ≡ c → m ≡ record { kind = k; mdata = d; check = c }
packet_is m k d c a b e =
    ap (λ (x : Kind). record m { kind = x }) a
    ∙ (ap (λ (x : List ℕ). record m { kind = k; mdata = x }) b
    ∙ ap (λ (x : List ℕ). record m { kind = k; mdata = d; check = x }) e)

-- ---- a fragment

module _ (x : Piece) (p : Sending) (octets before : List ℕ) (m : PlainPacket) (from : p.from ≡ x.from) (kind_is : p.kind ≡ piece_kind x) (size : p.size ≡ piece_size x)
    (stands : register.Stands x.check before) (m_kind : m.kind ≡ piece_kind x) where
  by_test : (b : Bool) → (p.from + p.size == x.frame.size) ≡ b → m.mdata ≡ part_at octets p.from p.size
      → m.check ≡ check_at b octets (p.from + (p.size - 4)) (before ++ part_at octets p.from p.size) → m ≡ fragment_of x.frame octets before p
  by_test b test mdata check =
      packet_is m p.kind (part_at octets p.from p.size) (check_at (p.from + p.size == x.frame.size) octets (p.from + (p.size - 4)) (before ++ part_at octets p.from p.size))
      (m_kind ∙ sym kind_is) mdata
      (check ∙ ap (λ (t : Bool). check_at t octets (p.from + (p.size - 4)) (before ++ part_at octets p.from p.size)) (sym test))

  by_cut : (cut : Option ℕ) → x.cut ≡ cut → PieceGives cut x octets m → m ≡ fragment_of x.frame octets before p
  by_cut None is (mdata, check) =
      let planned : p.size ≡ x.frame.size - x.from = size ∙ ap (size_planned (x.frame.size - x.from)) is in
      let last : (p.from + p.size == x.frame.size) ≡ true = elim (eqb_tells (p.from + p.size) x.frame.size) [
        | inl same ↦ same.0
        | inr other ↦ absurd (other.1 (omega (arith, from, planned, x.last_within)))
      ] in
      by_test true last
      (mdata ∙ ap₂ (λ (n k : ℕ). take (n - 4) (drop k octets)) (sym planned) (sym from))
      (check ∙ (drop-drop (x.frame.size - x.from - 4) x.from octets ∙ ap (λ (n : ℕ). drop n octets) (omega (arith, from, planned))))
  by_cut (Some d) is (mdata, check) =
      let planned : p.size ≡ d + 4 = size ∙ ap (size_planned (x.frame.size - x.from)) is in
      let within : x.from + d + 64 ≤ x.frame.size = x.cut_within d is in
      let more : (p.from + p.size == x.frame.size) ≡ false = elim (eqb_tells (p.from + p.size) x.frame.size) [
        | inl same ↦ absurd (omega (arith, from, planned, within, same.1))
        | inr other ↦ other.0
      ] in
      let part : take d (drop x.from octets) ≡ part_at octets p.from p.size =
      ap₂ (λ (n k : ℕ). take n (drop k octets)) (omega (arith, planned)) (sym from) in
      by_test false more (mdata ∙ part) (check before stands ∙ ap (λ (l : List ℕ). Mcrc (before ++ l)) part)

-- ---- any mPacket

module _ (kept : Option Piece) (p : Sending) (older : List Sending) (store : List (Option (List ℕ))) (other : List ℕ) (m : PlainPacket) (cost add_frag : ℕ)
    (follows : Follows cost add_frag p.told.chosen older p) where
  by_choice : (ch : Chosen) → p.told.chosen ≡ ch → m ≡ packet_by ch (interrupted older) p store other → m ≡ packet_after older p store other
  by_choice ch is e = e ∙ ap (λ (c : Chosen). packet_by c (interrupted older) p store other) (sym is)

  followed : (ch : Chosen) → p.told.chosen ≡ ch → Follows cost add_frag ch older p
  followed ch is = subst (λ (c : Chosen). Follows cost add_frag c older p) is follows

  task_gives : (k : Task) → Does k kept p older → GivesTask k store other m → m ≡ packet_after older p store other
  task_gives (task.Frame f) (inl ch, keeps) is =
      let h = followed (express f) ch in by_choice (express f) ch (is ∙ ap₂ (λ (k : Kind) (n : ℕ). in_one_piece k n (slot_octets store f.slot)) (sym h.0) (sym h.2))
  task_gives (task.Frame f) (inr ch, keeps) is =
      let h = followed (whole f) ch in by_choice (whole f) ch (is ∙ ap₂ (λ (k : Kind) (n : ℕ). in_one_piece k n (slot_octets store f.slot)) (sym h.0) (sym h.2))
  task_gives task.Verify (ch, keeps) is = let h = followed verify ch in by_choice verify ch (is ∙ ap bare (sym h.0))
  task_gives task.Respond (ch, keeps) is = let h = followed respond ch in by_choice respond ch (is ∙ ap bare (sym h.0))
  task_gives task.Lldp (ch, keeps) is = let h = followed lldp ch in by_choice lldp ch (is ∙ ap₂ (λ (k : Kind) (n : ℕ). in_one_piece k n other) (sym h.0) (sym h.2))
  task_gives (task.Fragment x) (none, from, kind_is, size, inl (ch, count, stands)) (m_kind, gives) =
      by_choice (first x.frame) ch (by_cut x p (slot_octets store x.frame.slot) [] m from kind_is size stands m_kind x.cut refl gives)
  task_gives (task.Fragment x) (none, from, kind_is, size, inr (ch, (part, interrupts, left))) (m_kind, gives) =
      by_choice rest ch (
      by_cut x p (slot_octets store x.frame.slot) part.so_far m from kind_is size left.check m_kind x.cut refl gives
      ∙ (ap (λ (f : FrameRef). fragment_of f (slot_octets store f.slot) part.so_far p) left.frame
      ∙ ap (λ (o : Option Part). rest_packet o p store) (sym interrupts))
      )

pub gives : (s : Sender) (cost add_frag : ℕ) (calls : List Call) (g : Going) (store : List (Option (List ℕ))) (other : List ℕ) (m : PlainPacket) → Stands s cost add_frag calls → s.going ≡ Some g
    → GivesTask g.task store other m → IsNewestPacket cost add_frag calls store other m
gives s cost add_frag calls g store other m st is given = inner st.packets st.sending (subst (λ (o : Option Going). IsAt cost o s.kept s.last st.packets) is st.place)
  where
    inner : (packets : List Sending) → IsSending cost add_frag calls packets → IsAt cost (Some g) s.kept s.last packets → IsNewestPacket cost add_frag calls store other m
    inner [] sending at = absurd at
    inner (p ∷ older) sending at = (p, older, sending, at.0, task_gives s.kept p older store other m cost add_frag sending.sent.0 g.task at.3 given)
