-- An mPacket that begins.
use Rattle.std.proofs.Common.{ℕ, ◌≡◌, ◌<◌, ◌+◌, ◌-◌, ◌%◌, List, [], ◌∷◌, ◌++◌, map, refl, sym, ◌∙◌, ap}
use Rattle.std.proofs.Common.{ap₂, subst, arith, inl, inr, Option, Some, None, true, Bool}
use Rattle.std.specs.Prelude.{◌==◌, if◌then◌else◌}
use Rattle.std.proofs.lemmas.Bool.Decides.{eqb_tells}
use Rattle.std.proofs.lemmas.List.Sums.{fold-append}
use Rattle.pre_mpacket.specs.declared.packets.Kind.TheVariants as kind
use Rattle.pre_rings.specs.declared.slots.FrameRef.{FrameRef}
use Rattle.pre_send.specs.declared.choices.Choice.{Choice}
use Rattle.pre_send.specs.declared.choices.Choice.TheVariants as choice
use Rattle.pre_send.specs.declared.pieces.Piece.{Piece}
use Rattle.pre_send.specs.declared.going.Task.{Task}
use Rattle.pre_send.specs.declared.going.Task.TheVariants as task
use Rattle.pre_send.specs.declared.going.Going.{Going}
use Rattle.pre_send.specs.declared.senders.Sender.{Sender}
use Rattle.pre_send.specs.Calls.{Chosen, express, whole, first, rest, verify, respond, lldp, Call, begun, Told, tells}
use Rattle.pre_send.specs.Plans.{piece_kind, piece_size, size_planned}
use Rattle.pre_send.specs.Sendings.{Sending, Part, interrupted, firsts, Follows, IsFree}
use Rattle.pre_send.specs.Senders.{chosen, IsLeft, Keeps, Does, IsAt, Stands, is_free_with, Chooses}
use Rattle.pre_send.proofs.Standing.{free_is}

-- what is kept where nothing is under way
idle_keeps : (cost : ℕ) (going : Option Going) (kept : Option Piece) (last : Option ℕ) (packets : List Sending) (t : ℕ) → IsAt cost going kept last packets → is_free_with going cost last t ≡ true
    → Keeps kept (interrupted packets) (firsts packets)
idle_keeps cost None kept last [] t at free = subst (λ (o : Option Piece). Keeps o None 0) (sym at.0) tt
idle_keeps cost None kept last (p ∷ older) t at free = at.3
idle_keeps cost (Some g) kept last packets t at free = absurd (cc free)

-- the mPacket that begins is the newest
push : (s new : Sender) (cost add_frag : ℕ) (calls : List Call) (g : Going) (p : Sending) (ch : Chosen) (t : ℕ) → (st : Stands s cost add_frag calls) → is_free_with s.going s.cost s.last t ≡ true
    → new.cost ≡ s.cost → new.add_frag ≡ s.add_frag → new.going ≡ Some g → g.began ≡ t → g.waits ≡ None
    → p.told ≡ record { began = t; chosen = ch; waits = None; end = None } → Follows cost add_frag p.told.chosen st.packets p
    → new.frame_count ≡ firsts (p ∷ st.packets) % 4 → Does g.task new.kept p st.packets
    → Stands new cost add_frag (calls ++ begun t ch ∷ [])
push s new cost add_frag calls g p ch t st free same_cost same_frag going began waits told follows count does =
    let now_free : is_free_with s.going cost s.last t ≡ true = ap (λ (k : ℕ). is_free_with s.going k s.last t) (sym st.cost_is) ∙ free in
    let older = (free_is cost s.going s.kept s.last st.packets t st.place).0 now_free in
    let began_told : p.told.began ≡ t = ap (λ (x : Told). x.began) told in
    record {
      packets = p ∷ st.packets;
      sending = record {
        told = fold-append tells [] calls (begun t ch ∷ []) ∙ ap₂ (λ (x : Told) (l : List Told). x ∷ l) (sym told) st.sending.told;
        sent = (follows, st.sending.sent);
      };
      cost_is = same_cost ∙ st.cost_is;
      add_frag_is = same_frag ∙ st.add_frag_is;
      count = count;
      place = subst (λ (o : Option Going). IsAt cost o new.kept new.last (p ∷ st.packets)) (sym going) (
        ap (λ (x : Told). x.end) told,
        began ∙ sym began_told,
        waits ∙ sym (ap (λ (x : Told). x.waits) told),
        does,
        subst (λ (k : ℕ). IsFree cost (map (λ q. q.told) st.packets) k) (sym began_told) older,
      );
    }

pub Whole : Sender → Sender → Going → ℕ → Type 0
Whole mid new g t = (new.cost ≡ mid.cost) × (new.add_frag ≡ mid.add_frag) × (new.going ≡ Some g) × (g.began ≡ t) × (g.waits ≡ None) × (new.kept ≡ mid.kept) × (new.frame_count ≡ mid.frame_count)

told_of : ℕ → Chosen → Told
told_of t ch = record { began = t; chosen = ch; waits = None; end = None }

-- a fragment that has no boundary is the last one
uncut : (x : Piece) → x.cut ≡ None → piece_size x ≡ x.frame.size - x.from
uncut x none = ap (size_planned (x.frame.size - x.from)) none

kind_first : (x : Piece) → x.from ≡ 0 → piece_kind x ≡ kind.Start x.frame_count
kind_first x is = ap (λ (n : ℕ). if n == 0 then kind.Start x.frame_count else kind.Continue x.frame_count x.fragment) is

kind_next : (x : Piece) → 0 < x.from → piece_kind x ≡ kind.Continue x.frame_count x.fragment
kind_next x some = elim (eqb_tells x.from 0) [
  | inl is ↦ absurd (omega (arith, is.1, some))
  | inr other ↦ ap (λ (b : Bool). if b then kind.Start x.frame_count else kind.Continue x.frame_count x.fragment) other.0
]

-- what is kept is what is interrupted
kept_part : (kept : Option Piece) (x : Piece) (part : Option Part) (n : ℕ) → kept ≡ Some x → Keeps kept part n → (y : Part) × (part ≡ Some y) × IsLeft x y n × (x.cut ≡ None)
kept_part kept x part n is keeps = inner part (subst (λ (o : Option Piece). Keeps o part n) is keeps)
  where
    inner : (part : Option Part) → Keeps (Some x) part n → (y : Part) × (part ≡ Some y) × IsLeft x y n × (x.cut ≡ None)
    inner None k = absurd k
    inner (Some y) k = (y, refl, k.0, k.1)

module _ (s mid new : Sender) (cost add_frag : ℕ) (calls : List Call) (g : Going) (t : ℕ) (st : Stands s cost add_frag calls)
    (free : is_free_with s.going s.cost s.last t ≡ true) (w : Whole mid new g t) where
  keeps : Keeps s.kept (interrupted st.packets) (firsts st.packets)
  keeps = idle_keeps cost s.going s.kept s.last st.packets t st.place (ap (λ (k : ℕ). is_free_with s.going k s.last t) (sym st.cost_is) ∙ free)

  -- what is no fragment
  plain : (ch : Chosen) (p : Sending) → p.told ≡ told_of t ch → Follows cost add_frag p.told.chosen st.packets p → firsts (p ∷ st.packets) ≡ firsts st.packets
      → mid.cost ≡ s.cost → mid.add_frag ≡ s.add_frag → mid.frame_count ≡ s.frame_count → Does g.task new.kept p st.packets
      → Stands new cost add_frag (calls ++ begun t ch ∷ [])
  unfolding Whole told_of
  plain ch p told follows more same_cost same_frag same_count does =
      push s new cost add_frag calls g p ch t st free (w.0 ∙ same_cost) (w.1 ∙ same_frag) w.2 w.3 w.4 told follows
      (w.6 ∙ (same_count ∙ (st.count ∙ ap (λ (k : ℕ). k % 4) (sym more)))) does

  kept_same : mid.kept ≡ s.kept → Keeps new.kept (interrupted st.packets) (firsts st.packets)
  unfolding Whole
  kept_same same = subst (λ (o : Option Piece). Keeps o (interrupted st.packets) (firsts st.packets)) (sym (w.5 ∙ same)) keeps

  as_task : (k : Task) (p : Sending) → g.task ≡ k → Does k new.kept p st.packets → Does g.task new.kept p st.packets
  as_task k p is does = subst (λ (x : Task). Does x new.kept p st.packets) (sym is) does

  pub begun_stands : (c : Choice) (k : Task) → g.task ≡ k → Chooses c s mid k → Stands new cost add_frag (calls ++ begun t (chosen c) ∷ [])
  unfolding Whole told_of
  begun_stands (choice.Express f) k is (same, task_is) =
      let p : Sending = record { told = told_of t (express f); kind = kind.Express; from = 0; size = f.size } in
      plain (express f) p refl (refl, refl, refl) (omega arith) same.0.0 same.0.1 same.2 (as_task (task.Frame f) p (is ∙ task_is) (inl refl, kept_same same.1))
  begun_stands (choice.Whole f) k is (same, task_is) =
      let p : Sending = record { told = told_of t (whole f); kind = kind.Express; from = 0; size = f.size } in
      plain (whole f) p refl (refl, refl, refl) (omega arith) same.0.0 same.0.1 same.2 (as_task (task.Frame f) p (is ∙ task_is) (inr refl, kept_same same.1))
  begun_stands choice.Verify k is (same, task_is) =
      let p : Sending = record { told = told_of t verify; kind = kind.Verify; from = 0; size = 64 } in
      plain verify p refl (refl, refl, refl) (omega arith) same.0.0 same.0.1 same.2 (as_task task.Verify p (is ∙ task_is) (refl, kept_same same.1))
  begun_stands choice.Respond k is (same, task_is) =
      let p : Sending = record { told = told_of t respond; kind = kind.Respond; from = 0; size = 64 } in
      plain respond p refl (refl, refl, refl) (omega arith) same.0.0 same.0.1 same.2 (as_task task.Respond p (is ∙ task_is) (refl, kept_same same.1))
  begun_stands choice.Lldp k is (same, task_is) =
      let p : Sending = record { told = told_of t lldp; kind = kind.Express; from = 0; size = 64 } in
      plain lldp p refl (refl, refl, refl) (omega arith) same.0.0 same.0.1 same.2 (as_task task.Lldp p (is ∙ task_is) (refl, kept_same same.1))
  begun_stands (choice.First f) (task.Fragment x) is (h, none) =
      let p : Sending = record { told = told_of t (first f); kind = piece_kind x; from = x.from; size = piece_size x } in
      let frame : x.frame ≡ f = h.3 in
      let zero : x.from ≡ 0 = h.4 in
      let count : x.frame_count ≡ firsts st.packets % 4 = h.5 ∙ st.count in
      let whole_size : piece_size x ≡ f.size = uncut x h.6 ∙ (ap₂ (λ (y : FrameRef) (n : ℕ). y.size - n) frame zero ∙ omega arith) in
      push s new cost add_frag calls g p (first f) t st free (w.0 ∙ h.0.0) (w.1 ∙ h.0.1) w.2 w.3 w.4 refl
      (kind_first x zero ∙ ap (λ (k : ℕ). kind.Start k) count, zero, inr (λ d cut. cut.2, whole_size))
      (w.6 ∙ (h.2 ∙ omega (arith, st.count)))
      (as_task (task.Fragment x) p is (w.5 ∙ (h.1 ∙ none), refl, refl, refl, inl (ap first (sym frame), count, h.7)))
  begun_stands (choice.First f) (task.Frame x) is (h, none) = absurd h
  begun_stands (choice.First f) task.Verify is (h, none) = absurd h
  begun_stands (choice.First f) task.Respond is (h, none) = absurd h
  begun_stands (choice.First f) task.Lldp is (h, none) = absurd h
  begun_stands choice.Rest (task.Fragment x) is h =
      let part = kept_part s.kept x (interrupted st.packets) (firsts st.packets) h.3 keeps in
      let left = part.2 in
      let same_firsts : firsts st.packets ≡ 0 + firsts st.packets = omega arith in
      let p : Sending = record { told = told_of t rest; kind = piece_kind x; from = x.from; size = piece_size x } in
      let size_is : piece_size x ≡ part.0.frame.size - part.0.place = uncut x part.3 ∙ ap₂ (λ (y : FrameRef) (n : ℕ). y.size - n) left.frame left.from in
      push s new cost add_frag calls g p rest t st free (w.0 ∙ h.0.0) (w.1 ∙ h.0.1) w.2 w.3 w.4 refl
      (part.0, part.1, kind_next x left.some ∙ ap₂ (λ (m n : ℕ). kind.Continue m n) left.count left.fragment, left.from, inr (λ d cut. cut.2, size_is))
      (w.6 ∙ (h.2 ∙ (st.count ∙ ap (λ (k : ℕ). k % 4) same_firsts)))
      (as_task (task.Fragment x) p is (w.5 ∙ h.1, refl, refl, refl, inr (refl, (part.0, part.1, left))))
  begun_stands choice.Rest (task.Frame x) is h = absurd h
  begun_stands choice.Rest task.Verify is h = absurd h
  begun_stands choice.Rest task.Respond is h = absurd h
  begun_stands choice.Rest task.Lldp is h = absurd h

pub begins : (s mid new : Sender) (cost add_frag : ℕ) (calls : List Call) (g : Going) (t : ℕ) → Stands s cost add_frag calls → is_free_with s.going s.cost s.last t ≡ true
    → new.cost ≡ mid.cost → new.add_frag ≡ mid.add_frag → new.going ≡ Some g → g.began ≡ t → g.waits ≡ None → new.kept ≡ mid.kept → new.frame_count ≡ mid.frame_count
    → (c : Choice) (k : Task) → g.task ≡ k → Chooses c s mid k → Stands new cost add_frag (calls ++ begun t (chosen c) ∷ [])
unfolding Whole
begins s mid new cost add_frag calls g t st free a b d e f h i c k is chooses = begun_stands s mid new cost add_frag calls g t st free (a, b, d, e, f, h, i) c k is chooses
