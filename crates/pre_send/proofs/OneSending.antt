-- Calls tell of one list of mPackets, and what went in one piece.
use Rattle.std.proofs.Common.{ℕ, ◌≡◌, ◌⊎◌, ◌≤◌, ◌+◌, ◌-◌, ◌%◌, List, [], ◌∷◌, ◌++◌, length, map, take}
use Rattle.std.proofs.Common.{drop, refl, sym, ◌∙◌, ap, ap₂, subst, arith, inl, inr, Option, Some, None, false}
use Rattle.std.proofs.lemmas.List.Sums.{fold-append}
use Rattle.std.proofs.lemmas.List.{take-append-drop, length-drop}
use Rattle.pre_mpacket.specs.declared.packets.Kind.{Kind}
use Rattle.pre_mpacket.specs.declared.packets.Kind.TheVariants as kind
use Rattle.pre_mpacket.specs.Spelling.{PlainPacket}
use Rattle.pre_mpacket.proofs.CutSizes.{cut_one}
use Rattle.pre_rings.specs.declared.slots.FrameRef.{FrameRef}
use Rattle.pre_rings.specs.Stores.{HoldsAt}
use Rattle.pre_send.specs.Calls.{Chosen, express, whole, first, rest, verify, respond, lldp, Call, ended, Told, tells, told_by}
use Rattle.pre_send.specs.Sendings.{Sending, Part, held, slot_octets, interrupted, firsts, Waits, IsCut, Follows, AreSent, IsSending}
use Rattle.pre_send.specs.Answers.{is_part}
use Rattle.pre_send.specs.Endings.{done_by}
use Rattle.pre_send.specs.Packets.{packet_by, packet_after}
use Rattle.pre_send.proofs.Ending.{with_end, follows_still}

-- an mPacket by its parts
same_parts : (p q : Sending) → p.told ≡ q.told → p.kind ≡ q.kind → p.from ≡ q.from → p.size ≡ q.size → p ≡ q
same_parts p q a b c d =
    ap (λ (x : Told). record p { told = x }) a
    ∙ (ap (λ (x : Kind). record p { told = q.told; kind = x }) b
    ∙ (ap (λ (x : ℕ). record p { told = q.told; kind = q.kind; from = x }) c
    ∙ ap (λ (x : ℕ). record p { told = q.told; kind = q.kind; from = q.from; size = x }) d))

module _ (cost add_frag : ℕ) where
  one_size : (told : Told) (other : Told) (unsent m n : ℕ) → told ≡ other → IsCut cost add_frag told unsent m → IsCut cost add_frag other unsent n → m ≡ n
  one_size told other unsent m n same a b =
      cut_one (Waits told.waits) (record { tick = told.began; octet_ticks = cost; add_frag = add_frag; unsent = unsent }) m n a
      (subst (λ (t : Told). IsCut cost add_frag t unsent n) (sym same) b)

  one_follows : (ch : Chosen) (older : List Sending) (p q : Sending) → p.told ≡ q.told → Follows cost add_frag ch older p → Follows cost add_frag ch older q → p ≡ q
  one_follows (express f) older p q same a b = same_parts p q same (a.0 ∙ sym b.0) (a.1 ∙ sym b.1) (a.2 ∙ sym b.2)
  one_follows (whole f) older p q same a b = same_parts p q same (a.0 ∙ sym b.0) (a.1 ∙ sym b.1) (a.2 ∙ sym b.2)
  one_follows verify older p q same a b = same_parts p q same (a.0 ∙ sym b.0) (a.1 ∙ sym b.1) (a.2 ∙ sym b.2)
  one_follows respond older p q same a b = same_parts p q same (a.0 ∙ sym b.0) (a.1 ∙ sym b.1) (a.2 ∙ sym b.2)
  one_follows lldp older p q same a b = same_parts p q same (a.0 ∙ sym b.0) (a.1 ∙ sym b.1) (a.2 ∙ sym b.2)
  one_follows (first f) older p q same a b = same_parts p q same (a.0 ∙ sym b.0) (a.1 ∙ sym b.1) (one_size p.told q.told f.size p.size q.size same a.2 b.2)
  one_follows rest older p q same (x, is_x, kind_p, from_p, cut_p) (y, is_y, kind_q, from_q, cut_q) =
      let one : y ≡ x = cc (is_x, is_y) in
      let counts : p.kind ≡ q.kind = kind_p ∙ (ap (λ (z : Part). kind.Continue ((firsts older + 3) % 4) (z.continuations % 4)) (sym one) ∙ sym kind_q) in
      let cut : IsCut cost add_frag q.told (x.frame.size - x.place) q.size = subst (λ (z : Part). IsCut cost add_frag q.told (z.frame.size - z.place) q.size) one cut_q in
      same_parts p q same counts (from_p ∙ (ap (λ (z : Part). z.place) (sym one) ∙ sym from_q)) (one_size p.told q.told (x.frame.size - x.place) p.size q.size same cut_p cut)

  pub one_list : (xs ys : List Sending) → map (λ p. p.told) xs ≡ map (λ p. p.told) ys → AreSent cost add_frag xs → AreSent cost add_frag ys → xs ≡ ys
  one_list [] [] same a b = refl
  one_list [] (q ∷ ys) same a b = absurd (cc same)
  one_list (p ∷ xs) [] same a b = absurd (cc same)
  one_list (p ∷ xs) (q ∷ ys) same a b =
      let told : p.told ≡ q.told = cc same in
      let tails : map (λ r. r.told) xs ≡ map (λ r. r.told) ys = cc same in
      let older : xs ≡ ys = one_list xs ys tails a.1 b.1 in
      let follows : Follows cost add_frag p.told.chosen xs q =
      subst (λ (l : List Sending). Follows cost add_frag p.told.chosen l q) (sym older) (subst (λ (t : Told). Follows cost add_frag t.chosen ys q) (sym told) b.0) in
      ap₂ (λ (r : Sending) (l : List Sending). r ∷ l) (one_follows p.told.chosen xs p q told a.0 follows) older

  pub one_ending : (t : ℕ) (calls : List Call) (store : List (Option (List ℕ))) (other : List ℕ) (p : Sending) (older packets : List Sending)
      → IsSending cost add_frag calls (p ∷ older) → IsSending cost add_frag (calls ++ ended t store ∷ []) packets
      → (q : Sending) × (packets ≡ q ∷ older) × (q.told.end ≡ Some (record { tick = t; store = store })) × (packet_after older q store other ≡ packet_after older p store other)
  unfolding with_end
  one_ending t calls store other p older packets a b =
      let q = with_end p (record { tick = t; store = store }) in
      let told : told_by (calls ++ ended t store ∷ []) ≡ map (λ r. r.told) (q ∷ older) = fold-append tells [] calls (ended t store ∷ []) ∙ ap (λ (l : List Told). tells l (ended t store)) a.told in (
        q,
        one_list packets (q ∷ older) (sym b.told ∙ told) b.sent (follows_still cost add_frag p.told.chosen older p (record { tick = t; store = store }) a.sent.0, a.sent.1),
        refl,
        same_packet p.told.chosen (interrupted older),
      )
    where
      same_packet : (ch : Chosen) (before : Option Part) → packet_by ch before (with_end p (record { tick = t; store = store })) store other ≡ packet_by ch before p store other
      same_packet (express f) before = refl
      same_packet (whole f) before = refl
      same_packet (first f) before = refl
      same_packet rest None = refl
      same_packet rest (Some x) = refl
      same_packet verify before = refl
      same_packet respond before = refl
      same_packet lldp before = refl

-- ---- a frame in one piece

pub in_one : (ch : Chosen) (before : Option Part) (p : Sending) (f : FrameRef) → is_part ch ≡ false → done_by ch before p ≡ Some f → (ch ≡ express f) ⊎ (ch ≡ whole f)
in_one (express g) before p f no_part is = let same : g ≡ f = cc is in inl (ap express same)
in_one (whole g) before p f no_part is = let same : g ≡ f = cc is in inr (ap whole same)
in_one (first g) before p f no_part is = absurd (cc no_part)
in_one rest before p f no_part is = absurd (cc no_part)
in_one verify before p f no_part is = absurd (cc is)
in_one respond before p f no_part is = absurd (cc is)
in_one lldp before p f no_part is = absurd (cc is)

abbrev pub IsWholeFrame : PlainPacket → List ℕ → Type 0
IsWholeFrame m octets = (m.kind ≡ kind.Express) × (m.mdata ++ m.check ≡ octets) × (length m.check ≡ 4)

module _ (cost add_frag : ℕ) (p : Sending) (older : List Sending) (f : FrameRef) (store : List (Option (List ℕ))) (octets other : List ℕ)
    (holds : HoldsAt store f.slot octets) (size : length octets ≡ f.size) (some : 64 ≤ f.size) where
  whole_frame : (m : PlainPacket) → m.kind ≡ kind.Express → p.size ≡ f.size → m.mdata ≡ take (p.size - 4) (slot_octets store f.slot) → m.check ≡ drop (p.size - 4) (slot_octets store f.slot)
      → IsWholeFrame m octets
  whole_frame m k size_is mdata check =
      let same : slot_octets store f.slot ≡ octets = ap held holds in (
        k,
        ap₂ (λ (x y : List ℕ). x ++ y) mdata check ∙ (take-append-drop (p.size - 4) (slot_octets store f.slot) ∙ same),
        omega (arith, ap length check, ap (λ (l : List ℕ). length (drop (p.size - 4) l)) same, length-drop (p.size - 4) octets, size, size_is, some),
      )

  by_choice : (ch : Chosen) → Follows cost add_frag ch older p → (ch ≡ express f) ⊎ (ch ≡ whole f) → IsWholeFrame (packet_by ch (interrupted older) p store other) octets
  by_choice ch follows (inl is) =
      let h : Follows cost add_frag (express f) older p = subst (λ (c : Chosen). Follows cost add_frag c older p) is follows in
      subst (λ (c : Chosen). IsWholeFrame (packet_by c (interrupted older) p store other) octets) (sym is)
      (whole_frame (packet_by (express f) (interrupted older) p store other) h.0 h.2 refl refl)
  by_choice ch follows (inr is) =
      let h : Follows cost add_frag (whole f) older p = subst (λ (c : Chosen). Follows cost add_frag c older p) is follows in
      subst (λ (c : Chosen). IsWholeFrame (packet_by c (interrupted older) p store other) octets) (sym is)
      (whole_frame (packet_by (whole f) (interrupted older) p store other) h.0 h.2 refl refl)

  pub in_one_packet : Follows cost add_frag p.told.chosen older p → is_part p.told.chosen ≡ false → done_by p.told.chosen (interrupted older) p ≡ Some f
      → IsWholeFrame (packet_by p.told.chosen (interrupted older) p store other) octets
  in_one_packet follows no_part is = by_choice p.told.chosen follows (in_one p.told.chosen (interrupted older) p f no_part is)
