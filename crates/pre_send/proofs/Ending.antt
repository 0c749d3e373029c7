-- An mPacket that ends.
use Rattle.std.proofs.Common.{ℕ, suc, ◌≡◌, ◌≤◌, ◌<◌, ◌+◌, ◌-◌, ◌*◌, ◌%◌, List, [], ◌∷◌, ◌++◌, take}
use Rattle.std.proofs.Common.{drop, refl, sym, ◌∙◌, ap, ap₂, subst, arith, inl, inr, Option, Some, None, false, Bool}
use Rattle.std.specs.Prelude.{◌==◌, if◌then◌else◌, option_map}
use Rattle.std.proofs.lemmas.Bool.Decides.{eqb_tells}
use Rattle.std.proofs.lemmas.List.Sums.{fold-append}
use Rattle.pre_crc.specs.Register as register
use Rattle.pre_rings.specs.declared.slots.FrameRef.{FrameRef}
use Rattle.pre_send.specs.declared.choices.Sent.{Sent}
use Rattle.pre_send.specs.declared.pieces.Piece.{Piece}
use Rattle.pre_send.specs.declared.going.Task.{Task}
use Rattle.pre_send.specs.declared.going.Task.TheVariants as task
use Rattle.pre_send.specs.declared.going.Going.{Going}
use Rattle.pre_send.specs.declared.senders.Sender.{Sender}
use Rattle.pre_send.specs.Calls.{Chosen, express, whole, first, rest, verify, respond, lldp, Call, ended, End, Told, tells}
use Rattle.pre_send.specs.Plans.{piece_kind, piece_size, size_planned}
use Rattle.pre_send.specs.Fragments.{next_fragment}
use Rattle.pre_send.specs.Sendings.{Sending, Part, left_by, part_at, slot_octets, mdata_at, after_fragment, part_after, interrupted, is_first, firsts, Follows, IsSending}
use Rattle.pre_send.specs.Answers.{is_part}
use Rattle.pre_send.specs.Endings.{done_of, done_by, Ends, GoesOn, PieceEnds, SameBut, EndsPiece, EndsTask}
use Rattle.pre_send.specs.Senders.{Keeps, Does, IsAt, Stands}

-- the mPacket, ended
unfoldable pub with_end : Sending → End → Sending
with_end p e = record p { told = record p.told { end = Some e } }

pub follows_still : (cost add_frag : ℕ) (ch : Chosen) (older : List Sending) (p : Sending) (e : End) → Follows cost add_frag ch older p → Follows cost add_frag ch older (with_end p e)
unfolding with_end
follows_still cost add_frag (express f) older p e h = h
follows_still cost add_frag (whole f) older p e h = h
follows_still cost add_frag (first f) older p e h = h
follows_still cost add_frag rest older p e h = h
follows_still cost add_frag verify older p e h = h
follows_still cost add_frag respond older p e h = h
follows_still cost add_frag lldp older p e h = h

-- ---- what is kept, and what is answered

pub Leaves : Option Piece → Sent → Sending → List Sending → Type 0
Leaves kept sent p older =
    Keeps kept (interrupted (p ∷ older)) (firsts (p ∷ older)) × (sent.kind ≡ p.kind) × (sent.from ≡ p.from) × (sent.size ≡ p.size) × (sent.done ≡ done_by p.told.chosen (interrupted older) p)

-- a fragment that is the last one
last_left : (f : FrameRef) (before : List ℕ) (n : ℕ) (p : Sending) → p.from + p.size ≡ f.size → (after_fragment f before n p ≡ None) × (done_of f p ≡ Some f)
last_left f before n p is =
    elim (eqb_tells (p.from + p.size) f.size) [
      | inl same ↦ (
        ap (λ (b : Bool). left_by b (record { frame = f; place = p.from + (p.size - 4); so_far = before ++ mdata_at f p.from p.size p.told.end; continuations = n })) same.0,
        ap (λ (b : Bool). if b then Some f else None) same.0,
      )
      | inr other ↦ absurd (other.1 is)
    ]

part_of : FrameRef → List ℕ → ℕ → Sending → Part
part_of f before n p = record { frame = f; place = p.from + (p.size - 4); so_far = before ++ mdata_at f p.from p.size p.told.end; continuations = n }

not_last : (f : FrameRef) (before : List ℕ) (n : ℕ) (p : Sending) → p.from + p.size < f.size → (after_fragment f before n p ≡ Some (part_of f before n p)) × (done_of f p ≡ None)
unfolding part_of
not_last f before n p lt =
    elim (eqb_tells (p.from + p.size) f.size) [
      | inl same ↦ absurd (omega (arith, same.1, lt))
      | inr other ↦ (
        ap (λ (b : Bool). left_by b (record { frame = f; place = p.from + (p.size - 4); so_far = before ++ mdata_at f p.from p.size p.told.end; continuations = n }))
            other.0,
        ap (λ (b : Bool). if b then Some f else None) other.0,
      )
    ]

next_first : (from fragment : ℕ) → from ≡ 0 → next_fragment from fragment ≡ 0
next_first from fragment is = ap (λ (n : ℕ). if n == 0 then 0 else (fragment + 1) % 4) is

next_rest : (from fragment : ℕ) → 0 < from → next_fragment from fragment ≡ (fragment + 1) % 4
next_rest from fragment some = elim (eqb_tells from 0) [
  | inl is ↦ absurd (omega (arith, is.1, some))
  | inr other ↦ ap (λ (b : Bool). if b then 0 else (fragment + 1) % 4) other.0
]

-- what goes on is what is left
goes_left : (x : Piece) (after : Option Piece) (d : ℕ) (store : List (Option (List ℕ))) (f : FrameRef) (before : List ℕ) (n began t : ℕ) (p : Sending)
    → GoesOn x after d (slot_octets store x.frame.slot) → x.frame ≡ f → p.from ≡ x.from → p.size ≡ d + 4
    → p.told.end ≡ Some (record { tick = t; store = store }) → 0 < d → x.frame_count ≡ (began + 3) % 4 → next_fragment x.from x.fragment ≡ n % 4 → register.Stands x.check before
    → Keeps after (Some (part_of f before n p)) began
unfolding part_of
goes_left x None d store f before n began t p goes frame from size end some count number stands = absurd goes
goes_left x (Some y) d store f before n began t p (same_frame, at, same_count, next, uncut, check) frame from size end some count number stands =
    let long : p.size - 4 ≡ d = omega (arith, size) in
    let sent_part : take d (drop x.from (slot_octets store x.frame.slot)) ≡ mdata_at f p.from p.size p.told.end =
    ap₂ (λ (k : ℕ) (g : FrameRef). take k (drop x.from (slot_octets store g.slot))) (sym long) frame
    ∙ (ap (λ (k : ℕ). part_at (slot_octets store f.slot) k p.size) (sym from) ∙ ap (mdata_at f p.from p.size) (sym end)) in (
      record {
        frame = same_frame ∙ frame;
        from = at ∙ omega (arith, from, long);
        count = same_count ∙ count;
        fragment = next ∙ number;
        check = subst (λ (l : List ℕ). register.Stands y.check (before ++ l)) sent_part (check before stands);
        some = omega (arith, at, some);
      },
      uncut,
    )

module _ (old new : Sender) (p : Sending) (older : List Sending) (t : ℕ) (store : List (Option (List ℕ))) (sent : Sent) where
  abbrev pub e : End
  e = record { tick = t; store = store }

  -- what is no fragment
  other_leaves : (ch : Chosen) → p.told.chosen ≡ ch → is_part ch ≡ false → new.kept ≡ old.kept → Keeps old.kept (interrupted older) (firsts older)
      → sent.kind ≡ p.kind → sent.from ≡ p.from → sent.size ≡ p.size → sent.done ≡ done_by ch (interrupted older) (with_end p e) → Leaves new.kept sent (with_end p e) older
  unfolding Leaves with_end
  other_leaves ch is no_part same keeps k f s d = (
    subst (λ (c : Chosen). Keeps new.kept (part_after c (interrupted older) (record p { told = record p.told { end = Some e } })) (is_first c + firsts older)) (sym is)
        (by_chosen ch no_part (subst (λ (o : Option Piece). Keeps o (interrupted older) (firsts older)) (sym same) keeps)),
    k,
    f,
    s,
    d ∙ ap (λ (c : Chosen). done_by c (interrupted older) (record p { told = record p.told { end = Some e } })) (sym is),
  )
    where
      zero_more : (o : Option Piece) (x : Option Part) → Keeps o x (firsts older) → Keeps o x (0 + firsts older)
      zero_more o x h = subst (λ (n : ℕ). Keeps o x n) (omega arith) h

      by_chosen : (c : Chosen) → is_part c ≡ false → Keeps new.kept (interrupted older) (firsts older)
          → Keeps new.kept (part_after c (interrupted older) (record p { told = record p.told { end = Some e } })) (is_first c + firsts older)
      by_chosen (express f) no_part h = zero_more new.kept (interrupted older) h
      by_chosen (whole f) no_part h = zero_more new.kept (interrupted older) h
      by_chosen (first f) no_part h = absurd (cc no_part)
      by_chosen rest no_part h = absurd (cc no_part)
      by_chosen verify no_part h = zero_more new.kept (interrupted older) h
      by_chosen respond no_part h = zero_more new.kept (interrupted older) h
      by_chosen lldp no_part h = zero_more new.kept (interrupted older) h

  -- a fragment
  module _ (x : Piece) (ends : EndsPiece old new x store sent) (none : old.kept ≡ None) (from_is : p.from ≡ x.from) (kind_is : p.kind ≡ piece_kind x) (size_is : p.size ≡ piece_size x)
      (f : FrameRef) (before : List ℕ) (n : ℕ) (frame : x.frame ≡ f) (after_is : part_after p.told.chosen (interrupted older) (with_end p e) ≡ after_fragment f before n (with_end p e))
      (done_is : done_by p.told.chosen (interrupted older) (with_end p e) ≡ done_of f (with_end p e))
      (count : x.frame_count ≡ (is_first p.told.chosen + firsts older + 3) % 4) (number : next_fragment x.from x.fragment ≡ n % 4) (stands : register.Stands x.check before) where
    by_cut : (o : Option ℕ) → x.cut ≡ o → PieceEnds o x old.kept new.kept store sent → Leaves new.kept sent (with_end p e) older
    unfolding Leaves with_end
    by_cut None cut (same, done) =
        let whole : p.size ≡ x.frame.size - x.from = size_is ∙ ap (size_planned (x.frame.size - x.from)) cut in
        let sizes : x.frame.size ≡ f.size = ap (λ (g : FrameRef). g.size) frame in
        let room = x.last_within in
        let last = last_left f before n (with_end p e) (omega (arith, whole, from_is, sizes, room)) in (
          subst (λ (q : Option Part). Keeps new.kept q (is_first p.told.chosen + firsts older)) (sym (after_is ∙ last.0))
              (subst (λ (o : Option Piece). Keeps o None (is_first p.told.chosen + firsts older)) (sym (same ∙ none)) tt),
          ends.1 ∙ sym kind_is,
          ends.2 ∙ sym from_is,
          ends.3 ∙ sym size_is,
          done ∙ (ap (λ (g : FrameRef). Some g) frame ∙ (sym last.1 ∙ sym done_is)),
        )
    by_cut (Some d) cut (done, some, room, goes) =
        let long : p.size ≡ d + 4 = size_is ∙ ap (size_planned (x.frame.size - x.from)) cut in
        let sizes : x.frame.size ≡ f.size = ap (λ (g : FrameRef). g.size) frame in
        let more = not_last f before n (with_end p e) (omega (arith, long, from_is, sizes, room)) in (
          subst (λ (q : Option Part). Keeps new.kept q (is_first p.told.chosen + firsts older)) (sym (after_is ∙ more.0))
              (goes_left x new.kept d store f before n (is_first p.told.chosen + firsts older) t (with_end p e) goes frame from_is long refl some count number stands),
          ends.1 ∙ sym kind_is,
          ends.2 ∙ sym from_is,
          ends.3 ∙ sym size_is,
          done ∙ (sym more.1 ∙ sym done_is),
        )

  fragment_leaves : (cost add_frag : ℕ) → Follows cost add_frag p.told.chosen older p → (x : Piece) → EndsPiece old new x store sent → Does (task.Fragment x) old.kept p older
      → Leaves new.kept sent (with_end p e) older
  unfolding with_end
  fragment_leaves cost add_frag follows x ends (none, from_is, kind_is, size_is, inl (ch, count, stands)) =
      let f = subst (λ (c : Chosen). Follows cost add_frag c older p) ch follows in
      let counted : x.frame_count ≡ (1 + firsts older + 3) % 4 = omega (arith, count) in
      by_cut x ends none from_is kind_is size_is x.frame [] 0 refl
      (ap (λ (c : Chosen). part_after c (interrupted older) (record p { told = record p.told { end = Some e } })) ch)
      (ap (λ (c : Chosen). done_by c (interrupted older) (record p { told = record p.told { end = Some e } })) ch)
      (counted ∙ ap (λ (c : Chosen). (is_first c + firsts older + 3) % 4) (sym ch))
      (next_first x.from x.fragment (sym from_is ∙ f.1)) stands x.cut refl ends.4
  fragment_leaves cost add_frag follows x ends (none, from_is, kind_is, size_is, inr (ch, (part, interrupts, left))) =
      let counted : x.frame_count ≡ (0 + firsts older + 3) % 4 = omega (arith, left.count) in
      by_cut x ends none from_is kind_is size_is part.frame part.so_far (suc part.continuations) left.frame
      (ap₂ (λ (c : Chosen) (q : Option Part). part_after c q (record p { told = record p.told { end = Some e } })) ch interrupts)
      (ap₂ (λ (c : Chosen) (q : Option Part). done_by c q (record p { told = record p.told { end = Some e } })) ch interrupts)
      (counted ∙ ap (λ (c : Chosen). (is_first c + firsts older + 3) % 4) (sym ch))
      (next_rest x.from x.fragment left.some ∙ omega (arith, left.fragment)) left.check x.cut refl ends.4

  pub task_leaves : (cost add_frag : ℕ) → Follows cost add_frag p.told.chosen older p → (k : Task) → EndsTask k old new store sent → Does k old.kept p older → Leaves new.kept sent (with_end p e) older
  task_leaves cost add_frag follows (task.Fragment x) ends does = fragment_leaves cost add_frag follows x ends does
  task_leaves cost add_frag follows (task.Frame f) (same, kept, (k, at, size, done)) (inl ch, keeps) =
      let h = subst (λ (c : Chosen). Follows cost add_frag c older p) ch follows in
      other_leaves (express f) ch refl kept keeps (k ∙ sym h.0) (at ∙ sym h.1) (size ∙ sym h.2) done
  task_leaves cost add_frag follows (task.Frame f) (same, kept, (k, at, size, done)) (inr ch, keeps) =
      let h = subst (λ (c : Chosen). Follows cost add_frag c older p) ch follows in
      other_leaves (whole f) ch refl kept keeps (k ∙ sym h.0) (at ∙ sym h.1) (size ∙ sym h.2) done
  task_leaves cost add_frag follows task.Verify (same, kept, (k, at, size, done)) (ch, keeps) =
      let h = subst (λ (c : Chosen). Follows cost add_frag c older p) ch follows in
      other_leaves verify ch refl kept keeps (k ∙ sym h.0) (at ∙ sym h.1) (size ∙ sym h.2) done
  task_leaves cost add_frag follows task.Respond (same, kept, (k, at, size, done)) (ch, keeps) =
      let h = subst (λ (c : Chosen). Follows cost add_frag c older p) ch follows in
      other_leaves respond ch refl kept keeps (k ∙ sym h.0) (at ∙ sym h.1) (size ∙ sym h.2) done
  task_leaves cost add_frag follows task.Lldp (same, kept, (k, at, size, done)) (ch, keeps) =
      let h = subst (λ (c : Chosen). Follows cost add_frag c older p) ch follows in
      other_leaves lldp ch refl kept keeps (k ∙ sym h.0) (at ∙ sym h.1) (size ∙ sym h.2) done

same_but : (k : Task) (old new : Sender) (store : List (Option (List ℕ))) (sent : Sent) → EndsTask k old new store sent → SameBut old new
same_but (task.Fragment x) old new store sent h = h.0
same_but (task.Frame f) old new store sent h = h.0
same_but task.Verify old new store sent h = h.0
same_but task.Respond old new store sent h = h.0
same_but task.Lldp old new store sent h = h.0

pub finishes : (s old new : Sender) (cost add_frag : ℕ) (calls : List Call) (g : Going) (t : ℕ) (store : List (Option (List ℕ))) (sent : Sent) → Stands s cost add_frag calls
    → s.going ≡ Some g → g.began ≤ t
    → old.cost ≡ s.cost → old.add_frag ≡ s.add_frag → old.going ≡ None → old.last ≡ Some t → old.frame_count ≡ s.frame_count → old.kept ≡ s.kept → EndsTask g.task old new store sent
    → Stands new cost add_frag (calls ++ ended t store ∷ []) × Ends cost add_frag (calls ++ ended t store ∷ []) sent
unfolding Leaves with_end
finishes s old new cost add_frag calls g t store sent st is le same_cost same_frag idle last same_count same_kept ends =
    inner st.packets st.sending (subst (λ (o : Option Going). IsAt cost o s.kept s.last st.packets) is st.place) st.count
  where
    inner : (packets : List Sending) → IsSending cost add_frag calls packets → IsAt cost (Some g) s.kept s.last packets → s.frame_count ≡ firsts packets % 4
        → Stands new cost add_frag (calls ++ ended t store ∷ []) × Ends cost add_frag (calls ++ ended t store ∷ []) sent
    inner [] sending at count = absurd at
    inner (p ∷ older) sending at count =
        let kept_by = same_but g.task old new store sent ends in
        let does = subst (λ (o : Option Piece). Does g.task o p older) (sym same_kept) at.3 in
        let leaves = task_leaves old new p older t store sent cost add_frag sending.sent.0 g.task ends does in
        let end : End = record { tick = t; store = store } in
        let now_sending : IsSending cost add_frag (calls ++ ended t store ∷ []) (with_end p end ∷ older) = record {
          told = fold-append tells [] calls (ended t store ∷ []) ∙ ap (λ (l : List Told). tells l (ended t store)) sending.told;
          sent = (follows_still cost add_frag p.told.chosen older p end sending.sent.0, sending.sent.1);
        } in (
          record {
            packets = with_end p end ∷ older;
            sending = now_sending;
            cost_is = kept_by.0 ∙ (same_cost ∙ st.cost_is);
            add_frag_is = kept_by.1 ∙ (same_frag ∙ st.add_frag_is);
            count = kept_by.4 ∙ (same_count ∙ count);
            place = subst (λ (o : Option Going). IsAt cost o new.kept new.last (with_end p end ∷ older)) (sym (kept_by.2 ∙ idle))
                (end, refl, kept_by.3 ∙ last, leaves.0, at.4, omega (arith, at.1, le));
          },
          (with_end p end, older, now_sending, leaves.1, leaves.2, leaves.3, leaves.4),
        )

pub due_later : (cost : ℕ) (o : Option Going) (size : Going → ℕ) (g : Going) (t : ℕ) → o ≡ Some g → option_map (λ x. x.began + cost * (8 + size x)) o ≡ Some t → g.began ≤ t
due_later cost o size g t is due =
    let at : Some (g.began + cost * (8 + size g)) ≡ Some t = sym (ap (λ (q : Option Going). option_map (λ (x : Going). x.began + cost * (8 + size x)) q) is) ∙ due in
    let tick : g.began + cost * (8 + size g) ≡ t = cc at in
    omega (arith, tick)
