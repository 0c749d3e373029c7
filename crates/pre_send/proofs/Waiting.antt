-- An express frame that waits while an mPacket is under way.
use Rattle.std.proofs.Common.{ℕ, ◌≡◌, ◌⊎◌, ◌≤◌, ◌<◌, ◌-◌, ◌%◌, List, [], ◌∷◌, ◌++◌, map, refl, sym}
use Rattle.std.proofs.Common.{◌∙◌, ap, ap₂, subst, arith, inl, inr, Option, Some, None, false}
use Rattle.std.specs.Prelude.{◌==◌, if◌then◌else◌, unwrap_or}
use Rattle.std.proofs.lemmas.List.Sums.{fold-append}
use Rattle.pre_crc.specs.Register as register
use Rattle.pre_crc.specs.declared.Running.{Running}
use Rattle.pre_mpacket.specs.declared.packets.Kind.TheVariants as kind
use Rattle.pre_mpacket.specs.Pieces.{CutRule}
use Rattle.pre_rings.specs.declared.slots.FrameRef.{FrameRef}
use Rattle.pre_send.specs.declared.pieces.Piece.{Piece}
use Rattle.pre_send.specs.declared.going.Task.{Task}
use Rattle.pre_send.specs.declared.going.Task.TheVariants as task
use Rattle.pre_send.specs.declared.going.Going.{Going}
use Rattle.pre_send.specs.declared.senders.Sender.{Sender}
use Rattle.pre_send.specs.Calls.{Chosen, express, whole, first, rest, verify, respond, lldp, Call, waited, End, Told, waits_from, tells, told_by}
use Rattle.pre_send.specs.Cuts.{IsFirstCut}
use Rattle.pre_send.specs.Plans.{piece_kind, piece_size, size_planned, PieceTold}
use Rattle.pre_send.specs.Tasks.{TaskTold}
use Rattle.pre_send.specs.Goings.{GoingTold}
use Rattle.pre_send.specs.Sendings.{Sending, Part, firsts, Waits, IsCut, Follows, IsSending}
use Rattle.pre_send.specs.Answers.{is_part}
use Rattle.pre_send.specs.Senders.{Does, IsAt, Stands}

-- the cut that is planned is the rule's
cut_is : (cost add_frag began w unsent : ℕ) (told : Told) (o : Option ℕ) → told.waits ≡ Some w → told.began ≡ began → IsFirstCut began w cost add_frag unsent o
    → IsCut cost add_frag told unsent (size_planned unsent o)
cut_is cost add_frag began w unsent told o waits at found =
    subst (λ (x : Option ℕ). CutRule (Waits x) (record { tick = told.began; octet_ticks = cost; add_frag = add_frag; unsent = unsent }) (size_planned unsent o)) (sym waits)
    (subst (λ (k : ℕ). CutRule (λ t. w ≤ t) (record { tick = k; octet_ticks = cost; add_frag = add_frag; unsent = unsent }) (size_planned unsent o)) (sym at) (by_cut o found))
  where
    by_cut : (o : Option ℕ) → IsFirstCut began w cost add_frag unsent o → CutRule (λ t. w ≤ t) (record { tick = began; octet_ticks = cost; add_frag = add_frag; unsent = unsent })
        (size_planned unsent o)
    by_cut (Some d) h = inl (d, h.0, h.1, refl)
    by_cut None h = inr (h, refl)

-- ---- the same mPacket, told anew

pub retold : Sending → Told → ℕ → Sending
retold p told size = record { told = told; kind = p.kind; from = p.from; size = size }

pub waits_told : Told → ℕ → Told
waits_told p t = record p { waits = waits_from t p.end p.waits }

told_push : (calls : List Call) (t : ℕ) (p : Told) (older : List Told) → told_by calls ≡ p ∷ older → told_by (calls ++ waited t ∷ []) ≡ waits_told p t ∷ older
unfolding waits_told
told_push calls t p older is = fold-append tells [] calls (waited t ∷ []) ∙ ap (λ (l : List Told). tells l (waited t)) is

none_push : (calls : List Call) (t : ℕ) → told_by calls ≡ [] → told_by (calls ++ waited t ∷ []) ≡ []
none_push calls t is = fold-append tells [] calls (waited t ∷ []) ∙ ap (λ (l : List Told). tells l (waited t)) is

kind_same : (x y : Piece) → y.from ≡ x.from → y.frame_count ≡ x.frame_count → y.fragment ≡ x.fragment → piece_kind x ≡ piece_kind y
kind_same x y a b c =
    ap (λ (n : ℕ). if n == 0 then kind.Start x.frame_count else kind.Continue x.frame_count x.fragment) (sym a)
    ∙ ap₂ (λ (m n : ℕ). if y.from == 0 then kind.Start m else kind.Continue m n) (sym b) (sym c)

-- what is no fragment stays as it was
keep : (cost add_frag : ℕ) (ch : Chosen) (older : List Sending) (p : Sending) (told : Told) → is_part ch ≡ false → Follows cost add_frag ch older p
    → Follows cost add_frag ch older (retold p told p.size)
unfolding retold
keep cost add_frag (express f) older p told no_part h = h
keep cost add_frag (whole f) older p told no_part h = h
keep cost add_frag (first f) older p told no_part h = absurd (cc no_part)
keep cost add_frag rest older p told no_part h = absurd (cc no_part)
keep cost add_frag verify older p told no_part h = h
keep cost add_frag respond older p told no_part h = h
keep cost add_frag lldp older p told no_part h = h

pub Retold : ℕ → ℕ → Task → Option Piece → Sending → List Sending → Told → Type 0
Retold cost add_frag k kept p older told = (size : ℕ) × Follows cost add_frag p.told.chosen older (retold p told size) × Does k kept (retold p told size) older

module _ (cost add_frag : ℕ) (kept : Option Piece) (p : Sending) (older : List Sending) (told : Told) (chosen_same : told.chosen ≡ p.told.chosen) (began w : ℕ)
    (waits : told.waits ≡ Some w) (begun_at : told.began ≡ began) (follows : Follows cost add_frag p.told.chosen older p) where
  same_task : (k : Task) → is_part p.told.chosen ≡ false → Does k kept p older → Does k kept (retold p told p.size) older → Retold cost add_frag k kept p older told
  unfolding Retold
  same_task k no_part old does = (p.size, keep cost add_frag p.told.chosen older p told no_part follows, does)

  fragment : (x y : Piece) → PieceTold x y began w cost add_frag → Does (task.Fragment x) kept p older → Retold cost add_frag (task.Fragment y) kept p older told
  unfolding Retold retold
  fragment x y (frame, from, count, number, check, cut) (none, from_is, kind_is, size_is, inl (ch, counted, stands)) =
      let f = subst (λ (c : Chosen). Follows cost add_frag c older p) ch follows in
      let zero : x.from ≡ 0 = sym from_is ∙ f.1 in
      let unsent : x.frame.size - x.from ≡ x.frame.size = omega (arith, zero) in
      let unsent_y : y.frame.size - y.from ≡ x.frame.size - x.from = ap₂ (λ (g : FrameRef) (n : ℕ). g.size - n) frame from in
      let planned : piece_size y ≡ size_planned (x.frame.size - x.from) y.cut = ap (λ (n : ℕ). size_planned n y.cut) unsent_y in
      let rule = cut_is cost add_frag began w (x.frame.size - x.from) told y.cut waits begun_at cut in (
        piece_size y,
        subst (λ (c : Chosen). Follows cost add_frag c older (retold p told (piece_size y))) (sym ch) (
          f.0,
          f.1,
          subst (λ (n : ℕ). IsCut cost add_frag told x.frame.size n) (sym planned)
              (subst (λ (n : ℕ). IsCut cost add_frag told n (size_planned (x.frame.size - x.from) y.cut)) unsent rule),
        ),
        (
          none,
          from_is ∙ sym from,
          kind_is ∙ kind_same x y from count number,
          refl,
          inl (chosen_same ∙ (ch ∙ ap first (sym frame)), count ∙ counted, subst (λ (r : Running). register.Stands r []) (sym check) stands),
        ),
      )
  fragment x y (frame, from, count, number, check, cut) (none, from_is, kind_is, size_is, inr (ch, (part, interrupts, left))) =
      let f = subst (λ (c : Chosen). Follows cost add_frag c older p) ch follows in
      let one : f.0 ≡ part = some_one f.0 part (sym f.1 ∙ interrupts) in
      let unsent : x.frame.size - x.from ≡ f.0.frame.size - f.0.place =
      ap₂ (λ (g : FrameRef) (n : ℕ). g.size - n) left.frame left.from ∙ ap (λ (q : Part). q.frame.size - q.place) (sym one) in
      let unsent_y : y.frame.size - y.from ≡ x.frame.size - x.from = ap₂ (λ (g : FrameRef) (n : ℕ). g.size - n) frame from in
      let planned : piece_size y ≡ size_planned (x.frame.size - x.from) y.cut = ap (λ (n : ℕ). size_planned n y.cut) unsent_y in
      let rule = cut_is cost add_frag began w (x.frame.size - x.from) told y.cut waits begun_at cut in (
        piece_size y,
        subst (λ (c : Chosen). Follows cost add_frag c older (retold p told (piece_size y))) (sym ch) (
          f.0,
          f.1,
          f.2,
          f.3,
          subst (λ (n : ℕ). IsCut cost add_frag told (f.0.frame.size - f.0.place) n) (sym planned)
              (subst (λ (n : ℕ). IsCut cost add_frag told n (size_planned (x.frame.size - x.from) y.cut)) unsent rule),
        ),
        (
          none,
          from_is ∙ sym from,
          kind_is ∙ kind_same x y from count number,
          refl,
          inr (
            chosen_same ∙ ch,
            (
              part,
              interrupts,
              record {
                frame = frame ∙ left.frame;
                from = from ∙ left.from;
                count = count ∙ left.count;
                fragment = number ∙ left.fragment;
                check = subst (λ (r : Running). register.Stands r part.so_far) (sym check) left.check;
                some = subst (λ (n : ℕ). 0 < n) (sym from) left.some;
              },
            ),
          ),
        ),
      )
    where
      some_one : (a b : Part) → Some a ≡ Some b → a ≡ b
      some_one a b e = ap (λ (o : Option Part). unwrap_or o a) e

  pub retells : (k l : Task) → TaskTold k l began w cost add_frag → Does k kept p older → Retold cost add_frag l kept p older told
  unfolding retold
  retells (task.Fragment x) (task.Fragment y) told_to does = fragment x y told_to does
  retells (task.Fragment x) (task.Frame f) told_to does = absurd told_to
  retells (task.Fragment x) task.Verify told_to does = absurd told_to
  retells (task.Fragment x) task.Respond told_to does = absurd told_to
  retells (task.Fragment x) task.Lldp told_to does = absurd told_to
  retells (task.Frame f) l same (which, keeps) =
      subst (λ (z : Task). Retold cost add_frag z kept p older told) (sym same) (same_task (task.Frame f) (no_part which) (which, keeps) (which_too which, keeps))
    where
      no_part : ((p.told.chosen ≡ express f) ⊎ (p.told.chosen ≡ whole f)) → is_part p.told.chosen ≡ false
      no_part (inl e) = ap is_part e
      no_part (inr e) = ap is_part e

      which_too : ((p.told.chosen ≡ express f) ⊎ (p.told.chosen ≡ whole f)) → ((told.chosen ≡ express f) ⊎ (told.chosen ≡ whole f))
      which_too (inl e) = inl (chosen_same ∙ e)
      which_too (inr e) = inr (chosen_same ∙ e)
  retells task.Verify l same (ch, keeps) = subst (λ (z : Task). Retold cost add_frag z kept p older told) (sym same) (same_task task.Verify (ap is_part ch) (ch, keeps) (chosen_same ∙ ch, keeps))
  retells task.Respond l same (ch, keeps) = subst (λ (z : Task). Retold cost add_frag z kept p older told) (sym same) (same_task task.Respond (ap is_part ch) (ch, keeps) (chosen_same ∙ ch, keeps))
  retells task.Lldp l same (ch, keeps) = subst (λ (z : Task). Retold cost add_frag z kept p older told) (sym same) (same_task task.Lldp (ap is_part ch) (ch, keeps) (chosen_same ∙ ch, keeps))

-- ---- the call

waits_same : (t w : ℕ) (e : Option End) (o : Option ℕ) → o ≡ Some w → waits_from t e o ≡ o
waits_same t w None None is = absurd (cc is)
waits_same t w None (Some x) is = refl
waits_same t w (Some e) o is = refl

waits_new : (t : ℕ) (e : Option End) (o : Option ℕ) → e ≡ None → o ≡ None → waits_from t e o ≡ Some t
waits_new t None None end none = refl
waits_new t None (Some x) end none = absurd (cc none)
waits_new t (Some e) o end none = absurd (cc end)

module _ (s new : Sender) (cost add_frag : ℕ) (calls : List Call) (g ng : Going) (t : ℕ) (cost_is : s.cost ≡ cost) (frag_is : s.add_frag ≡ add_frag)
    (same_cost : new.cost ≡ s.cost) (same_frag : new.add_frag ≡ s.add_frag) (going : new.going ≡ Some ng) (same_kept : new.kept ≡ s.kept) (same_count : new.frame_count ≡ s.frame_count) where
  place_at : (packets : List Sending) → IsAt cost (Some ng) s.kept new.last packets → IsAt cost new.going new.kept new.last packets
  place_at packets at = subst (λ (o : Option Going). IsAt cost o new.kept new.last packets) (sym going) (subst (λ (o : Option Piece). IsAt cost (Some ng) o new.last packets) (sym same_kept) at)

  by_waits : (p : Sending) (older : List Sending) (w : Option ℕ) → g.waits ≡ w → GoingTold w g ng t s.cost s.add_frag → IsSending cost add_frag calls (p ∷ older)
      → IsAt cost (Some g) s.kept s.last (p ∷ older)
      → s.frame_count ≡ firsts (p ∷ older) % 4 → Stands new cost add_frag (calls ++ waited t ∷ [])
  unfolding retold waits_told Retold
  by_waits p older (Some w) is (began, waits, work) sending at count =
      let same : waits_told p.told t ≡ p.told = ap (λ (o : Option ℕ). record p.told { waits = o }) (waits_same t w p.told.end p.told.waits (sym at.2 ∙ is)) in
      record {
        packets = p ∷ older;
        sending = record {
          told = told_push calls t p.told (map (λ q. q.told) older) sending.told ∙ ap (λ (x : Told). x ∷ map (λ q. q.told) older) same;
          sent = sending.sent;
        };
        cost_is = same_cost ∙ cost_is;
        add_frag_is = same_frag ∙ frag_is;
        count = same_count ∙ count;
        place = place_at (p ∷ older) (at.0, began ∙ at.1, waits ∙ at.2, subst (λ (k : Task). Does k s.kept p older) (sym work) at.3, at.4);
      }
  by_waits p older None is (began, waits, work) sending at count =
      let told = waits_told p.told t in
      let waits_is : told.waits ≡ Some t = waits_new t p.told.end p.told.waits at.0 (sym at.2 ∙ is) in
      let worked = subst (λ (n : ℕ). TaskTold g.task ng.task g.began t n add_frag) cost_is (subst (λ (n : ℕ). TaskTold g.task ng.task g.began t s.cost n) frag_is work) in
      let r = retells cost add_frag s.kept p older told refl g.began t waits_is (sym at.1) sending.sent.0 g.task ng.task worked at.3 in
      record {
        packets = retold p told r.0 ∷ older;
        sending = record {
          told = told_push calls t p.told (map (λ q. q.told) older) sending.told;
          sent = (r.1, sending.sent.1);
        };
        cost_is = same_cost ∙ cost_is;
        add_frag_is = same_frag ∙ frag_is;
        count = same_count ∙ count;
        place = place_at (retold p told r.0 ∷ older) (at.0, began ∙ at.1, waits ∙ sym waits_is, r.2, at.4);
      }

  inner : (packets : List Sending) → GoingTold g.waits g ng t s.cost s.add_frag → IsSending cost add_frag calls packets → IsAt cost (Some g) s.kept s.last packets
      → s.frame_count ≡ firsts packets % 4 → Stands new cost add_frag (calls ++ waited t ∷ [])
  inner [] told sending at count = absurd at
  inner (p ∷ older) told sending at count = by_waits p older g.waits refl told sending at count

pub waits_on : (s new : Sender) (cost add_frag : ℕ) (calls : List Call) (g ng : Going) (t : ℕ) → Stands s cost add_frag calls → s.going ≡ Some g → GoingTold g.waits g ng t s.cost s.add_frag
    → new.cost ≡ s.cost → new.add_frag ≡ s.add_frag → new.going ≡ Some ng → new.kept ≡ s.kept → new.frame_count ≡ s.frame_count → Stands new cost add_frag (calls ++ waited t ∷ [])
waits_on s new cost add_frag calls g ng t st is told a b c d e =
    inner s new cost add_frag calls g ng t st.cost_is st.add_frag_is a b c d e st.packets told st.sending
    (subst (λ (o : Option Going). IsAt cost o s.kept s.last st.packets) is st.place) st.count

-- with nothing under way the newest mPacket has ended
idle_told : (t : ℕ) (p : Told) (e : End) → p.end ≡ Some e → waits_told p t ≡ p
unfolding waits_told
idle_told t p e is = ap (λ (o : Option ℕ). record p { waits = o }) (ended_same p.end is)
  where
    ended_same : (o : Option End) → o ≡ Some e → waits_from t o p.waits ≡ p.waits
    ended_same None none = absurd (cc none)
    ended_same (Some x) some = refl

pub waits_idle : (s new : Sender) (cost add_frag : ℕ) (calls : List Call) (t : ℕ) → Stands s cost add_frag calls → s.going ≡ None
    → new.cost ≡ s.cost → new.add_frag ≡ s.add_frag → new.going ≡ None → new.kept ≡ s.kept → new.last ≡ s.last → new.frame_count ≡ s.frame_count → Stands new cost add_frag (calls ++ waited t ∷ [])
waits_idle s new cost add_frag calls t st none same_cost same_frag going same_kept same_last same_count = record {
  packets = st.packets;
  sending = record { told = told_idle st.packets st.sending.told (subst (λ (o : Option Going). IsAt cost o s.kept s.last st.packets) none st.place); sent = st.sending.sent };
  cost_is = same_cost ∙ st.cost_is;
  add_frag_is = same_frag ∙ st.add_frag_is;
  count = same_count ∙ st.count;
  place = subst (λ (o : Option Going). IsAt cost o new.kept new.last st.packets) (none ∙ sym going)
      (subst (λ (o : Option Piece). IsAt cost s.going o new.last st.packets) (sym same_kept) (subst (λ (o : Option ℕ). IsAt cost s.going s.kept o st.packets) (sym same_last) st.place));
}
  where
    told_idle : (packets : List Sending) → told_by calls ≡ map (λ p. p.told) packets → IsAt cost None s.kept s.last packets → told_by (calls ++ waited t ∷ []) ≡ map (λ p. p.told) packets
    told_idle [] is at = none_push calls t is
    told_idle (p ∷ older) is at = told_push calls t p.told (map (λ q. q.told) older) is ∙ ap (λ (x : Told). x ∷ map (λ q. q.told) older) (idle_told t p.told at.0 at.1)
