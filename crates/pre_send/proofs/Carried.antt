-- The fragments of a frame carry it.
use Rattle.std.proofs.Common.{ℕ, suc, ◌≡◌, ◌≤◌, ◌<◌, ◌+◌, ◌-◌, ◌%◌, List, [], ◌∷◌, ◌++◌, length, take}
use Rattle.std.proofs.Common.{drop, refl, sym, ◌∙◌, ap, ap₂, subst, arith, inl, inr, Option, Some, None, true, false, Bool}
use Rattle.std.specs.Prelude.{All, ◌==◌, if◌then◌else◌}
use Rattle.std.proofs.lemmas.Bool.Decides.{eqb_tells}
use Rattle.std.proofs.lemmas.List.{length-append, length-take-le, length-drop}
use Rattle.std.proofs.lemmas.List.Elements.{All-nil, All-push}
use Rattle.std.proofs.Math.Seq.{take-add}
use Rattle.pre_crc.specs.Checks.{Mcrc}
use Rattle.pre_crc.proofs.CheckFacts.{length-Mcrc}
use Rattle.pre_mpacket.specs.declared.packets.Kind.{Kind}
use Rattle.pre_mpacket.specs.declared.packets.Kind.TheVariants as kind
use Rattle.pre_mpacket.specs.Spelling.{PlainPacket, HasCounts, IsWhole}
use Rattle.pre_mpacket.specs.Pieces.{joined, IsSequenceOf, least_fragment, Carries}
use Rattle.pre_rings.specs.declared.slots.FrameRef.{FrameRef}
use Rattle.pre_send.specs.Calls.{Chosen, express, whole, first, rest, verify, respond, lldp, End, Told}
use Rattle.pre_send.specs.Sendings.{Sending, Part, held, slot_octets, part_at, mdata_at, left_by, after_fragment, after_rest, part_after, interrupted, is_first, firsts, IsCut, Follows, AreSent}
use Rattle.pre_send.specs.Answers.{is_part}
use Rattle.pre_send.specs.Endings.{done_of, done_rest, done_by}
use Rattle.pre_send.specs.Packets.{check_at, fragment_of, rest_packet, packet_by, frames_at, fragments_by, fragments}
use Rattle.pre_send.specs.Carrying.{IsHeld, HeldBy, EachHeld}
use Rattle.pre_send.proofs.Joining.{AllChecked, AllLong, joined_push, sequence_push, checked_push, long_push, carried}

-- ---- where a frame goes on, and where it ends

left_is : (b : Bool) (x y : Part) → left_by b x ≡ Some y → (b ≡ false) × (x ≡ y)
left_is true x y is = absurd (cc is)
left_is false x y is = let same : x ≡ y = cc is in (refl, same)

not_equal : (m n : ℕ) → (m == n) ≡ false → ¬ (m ≡ n)
not_equal m n is same = elim (eqb_tells m n) [
  | inl equal ↦ let apart : true ≡ false = sym equal.0 ∙ is in absurd (cc apart)
  | inr other ↦ other.1 same
]

done_is : (p : Sending) (f g : FrameRef) → done_of f p ≡ Some g → ((p.from + p.size == f.size) ≡ true) × (p.from + p.size ≡ f.size) × (f ≡ g)
done_is p f g is = elim (eqb_tells (p.from + p.size) f.size) [
  | inl same ↦
      let some : Some f ≡ Some g = sym (ap (λ (b : Bool). if b then Some f else None) same.0) ∙ is in
      let one : f ≡ g = cc some in (same.0, same.1, one)
  | inr other ↦ let none : None ≡ Some g = sym (ap (λ (b : Bool). if b then Some f else None) other.0) ∙ is in absurd (cc none)
]

-- the octets at its end
held_octets : (f : FrameRef) (octets : List ℕ) (end : Option End) → IsHeld f octets end → slot_octets (frames_at end) f.slot ≡ octets
held_octets f octets None h = absurd h
held_octets f octets (Some e) h = ap held h

held_mdata : (f : FrameRef) (octets : List ℕ) (from size : ℕ) (end : Option End) → IsHeld f octets end → mdata_at f from size end ≡ part_at octets from size
held_mdata f octets from size None h = absurd h
held_mdata f octets from size (Some e) h = ap (λ (o : Option (Option (List ℕ))). part_at (held o) from size) h

-- the sizes of a fragment that doesn't end its frame
cut_sizes : (cost add_frag unsent size : ℕ) (told : Told) → IsCut cost add_frag told unsent size → ¬ (size ≡ unsent) → (least_fragment add_frag ≤ size - 4) × (size + 60 ≤ unsent) × (4 ≤ size)
cut_sizes cost add_frag unsent size told (inl (d, cut, least, is)) not_all =
    let long : least_fragment add_frag ≤ d = cut.0 in
    let some : 64 ≤ unsent - d = cut.1 in (subst (λ n. least_fragment add_frag ≤ n) (omega (arith, is)) long, omega (arith, is, some), omega (arith, is))
cut_sizes cost add_frag unsent size told (inr (none, is)) not_all = absurd (not_all is)

-- ---- a frame so far

pub record SoFar (octets : List ℕ) (add_frag began : ℕ) (ms : List PlainPacket) (x : Part) : Type 0 where
  pub sequence : IsSequenceOf ((began + 3) % 4) ms
  pub count : length ms ≡ suc x.continuations
  pub joins : joined ms ≡ take x.place octets
  pub same : x.so_far ≡ take x.place octets
  pub checked : AllChecked [] ms
  pub long : AllLong add_frag ms
  pub left : x.place + 64 ≤ x.frame.size
  pub whole : All (λ m. IsWhole m) ms

-- a fragment that can be sent
is_whole : (m : PlainPacket) (k : Kind) (size : ℕ) → m.kind ≡ k → HasCounts k → length m.mdata ≡ size - 4 → 64 ≤ size → length m.check ≡ 4 → IsWhole m
is_whole m k size kind_is counts mdata some check = record { counts = subst HasCounts (sym kind_is) counts; mdata = omega (arith, mdata, some); check = check }

abbrev pub part_made : FrameRef → List ℕ → ℕ → Sending → Part
part_made f before k p = record { frame = f; place = p.from + (p.size - 4); so_far = before ++ mdata_at f p.from p.size p.told.end; continuations = k }

module _ (cost add_frag : ℕ) (octets : List ℕ) where
  -- ---- one more fragment
  module _ (f : FrameRef) (before : List ℕ) (k n unsent : ℕ) (ms : List PlainPacket) (p : Sending)
      (sequence : IsSequenceOf ((n + 3) % 4) (ms ++ fragment_of f octets before p ∷ [])) (joins : joined ms ≡ take p.from octets) (checked : AllChecked [] ms) (long : AllLong add_frag ms)
      (whole : All (λ m. IsWhole m) ms) (counts : HasCounts p.kind) (total : p.from + unsent ≡ f.size) (size_is : length octets ≡ f.size) where
    -- the frame goes on
    grown : length ms ≡ k → before ≡ take p.from octets → (p.from + p.size == f.size) ≡ false → IsCut cost add_frag p.told unsent p.size → IsHeld f octets p.told.end
        → SoFar octets add_frag n (ms ++ fragment_of f octets before p ∷ []) (part_made f before k p)
    grown count same test cut held =
        let m = fragment_of f octets before p in
        let sizes = cut_sizes cost add_frag unsent p.size p.told cut (λ e. not_equal (p.from + p.size) f.size test (omega (arith, e, total))) in
        let fits : p.size - 4 ≤ length (drop p.from octets) = omega (arith, length-drop p.from octets, sizes.1, sizes.2, total, size_is) in
        let mdata_size : length (part_at octets p.from p.size) ≡ p.size - 4 = length-take-le (p.size - 4) (drop p.from octets) fits in
        let check : m.check ≡ Mcrc (before ++ part_at octets p.from p.size) = ap (λ (b : Bool). check_at b octets (p.from + (p.size - 4)) (before ++ part_at octets p.from p.size)) test in
        record {
          sequence = sequence;
          count = omega (arith, length-append ms (m ∷ []), count);
          joins = joined_push ms m ∙ (ap (λ l. l ++ part_at octets p.from p.size) joins ∙ sym (take-add p.from (p.size - 4) octets));
          same = ap₂ (λ (x y : List ℕ). x ++ y) same (held_mdata f octets p.from p.size p.told.end held) ∙ sym (take-add p.from (p.size - 4) octets);
          checked = checked_push [] ms m checked (check ∙ ap (λ l. Mcrc (l ++ part_at octets p.from p.size)) (same ∙ sym joins));
          long = long_push add_frag ms m long (subst (λ x. least_fragment add_frag ≤ x) (sym mdata_size) sizes.0);
          left = omega (arith, sizes.1, sizes.2, total);
          whole = All-push (λ x. IsWhole x) ms m whole (is_whole m p.kind p.size refl counts mdata_size (omega (arith, sizes.0))
              (ap length check ∙ length-Mcrc (before ++ part_at octets p.from p.size)));
        }

    -- it ends
    ended : (p.from + p.size == f.size) ≡ true → p.from + p.size ≡ f.size → (0 < length ms → p.from + 64 ≤ f.size) → Carries octets add_frag (ms ++ fragment_of f octets before p ∷ [])
    ended test last some =
        let m = fragment_of f octets before p in
        let check : m.check ≡ drop (p.from + (p.size - 4)) octets = ap (λ (b : Bool). check_at b octets (p.from + (p.size - 4)) (before ++ part_at octets p.from p.size)) test in
        carried ms m add_frag ((n + 3) % 4) p.from (p.size - 4) octets sequence joins checked long refl check (
        λ more.
        let left : p.from + 64 ≤ f.size = some more in
        let fits : p.size - 4 ≤ length (drop p.from octets) = omega (arith, length-drop p.from octets, last, left, size_is) in
        omega (arith, left, last, size_is, length-take-le (p.size - 4) (drop p.from octets) fits, ap length check, length-drop (p.from + (p.size - 4)) octets)
        )

    -- and its last fragment can be sent
    ended_whole : (p.from + p.size == f.size) ≡ true → p.from + p.size ≡ f.size → p.from + 64 ≤ f.size → All (λ m. IsWhole m) (ms ++ fragment_of f octets before p ∷ [])
    ended_whole test last left =
        let m = fragment_of f octets before p in
        let check : m.check ≡ drop (p.from + (p.size - 4)) octets = ap (λ (b : Bool). check_at b octets (p.from + (p.size - 4)) (before ++ part_at octets p.from p.size)) test in
        let fits : p.size - 4 ≤ length (drop p.from octets) = omega (arith, length-drop p.from octets, last, left, size_is) in
        All-push (λ x. IsWhole x) ms m whole (
        is_whole m p.kind p.size refl counts (length-take-le (p.size - 4) (drop p.from octets) fits) (omega (arith, last, left))
        (omega (arith, left, last, size_is, ap length check, length-drop (p.from + (p.size - 4)) octets))
        )

  -- ---- an mPacket after these
  module _ (p : Sending) (older : List Sending)
      (earlier : (y : Part) → interrupted older ≡ Some y → EachHeld y.frame octets older → length octets ≡ y.frame.size → SoFar octets add_frag (firsts older) (fragments older) y) where
    abbrev store : List (Option (List ℕ))
    store = frames_at p.told.end

    unmoved : (x : Part) → SoFar octets add_frag (firsts older) (fragments older) x → SoFar octets add_frag (0 + firsts older) (fragments older) x
    unmoved x h = subst (λ k. SoFar octets add_frag k (fragments older) x) (omega arith) h

    first_sequence : (f : FrameRef) → Follows cost add_frag (first f) older p → IsSequenceOf ((1 + firsts older + 3) % 4) (fragment_of f octets [] p ∷ [])
    first_sequence f follows = (follows.0 ∙ ap (λ c. kind.Start c) (omega arith), tt)

    first_data : (f : FrameRef) → Follows cost add_frag (first f) older p → [] ≡ take p.from octets
    first_data f follows = sym (ap (λ n. take n octets) follows.1)

    rest_sequence : (y : Part) → SoFar octets add_frag (firsts older) (fragments older) y → p.kind ≡ kind.Continue ((firsts older + 3) % 4) (y.continuations % 4)
        → IsSequenceOf ((firsts older + 3) % 4) (fragments older ++ fragment_of y.frame octets y.so_far p ∷ [])
    rest_sequence y so_far is = sequence_push ((firsts older + 3) % 4) y.continuations (fragments older) (fragment_of y.frame octets y.so_far p) so_far.sequence so_far.count is

    none_whole : All (λ (m : PlainPacket). IsWhole m) []
    none_whole = All-nil (λ (m : PlainPacket). IsWhole m)

    first_counts : (f : FrameRef) → Follows cost add_frag (first f) older p → HasCounts p.kind
    first_counts f follows = subst HasCounts (sym follows.0) (omega arith)

    rest_counts : (y : Part) → p.kind ≡ kind.Continue ((firsts older + 3) % 4) (y.continuations % 4) → HasCounts p.kind
    rest_counts y is = subst HasCounts (sym is) (omega arith, omega arith)

    one_more : (ch : Chosen) (x : Part) → Follows cost add_frag ch older p → part_after ch (interrupted older) p ≡ Some x → HeldBy ch x.frame octets p.told.end (EachHeld x.frame octets older)
        → length octets ≡ x.frame.size → SoFar octets add_frag (is_first ch + firsts older) (fragments_by ch (fragments older) (packet_by ch (interrupted older) p store [])) x
    one_more (express f) x follows is each size = unmoved x (earlier x is each size)
    one_more (whole f) x follows is each size = unmoved x (earlier x is each size)
    one_more verify x follows is each size = unmoved x (earlier x is each size)
    one_more respond x follows is each size = unmoved x (earlier x is each size)
    one_more lldp x follows is each size = unmoved x (earlier x is each size)
    one_more (first f) x follows is each size =
        let left = left_is (p.from + p.size == f.size) (part_made f [] 0 p) x is in
        subst (λ (z : Part). IsHeld z.frame octets p.told.end → length octets ≡ z.frame.size → SoFar octets add_frag (1 + firsts older) (fragment_of f (slot_octets store f.slot) [] p ∷ []) z) left.1
        (λ h size_is. subst (λ (o : List ℕ). SoFar octets add_frag (1 + firsts older) (fragment_of f o [] p ∷ []) (part_made f [] 0 p)) (sym (held_octets f octets p.told.end h))
        (grown f [] 0 (1 + firsts older) f.size [] p (first_sequence f follows) (first_data f follows) tt tt none_whole (first_counts f follows) (omega (arith, follows.1)) size_is refl
        (first_data f follows) left.0 follows.2 h))
        each size
    one_more rest x (y, interrupts, kind_is, from, cut) is each size =
        let is_left : after_fragment y.frame y.so_far (suc y.continuations) p ≡ Some x = sym (ap (λ (o : Option Part). after_rest o p) interrupts) ∙ is in
        let left = left_is (p.from + p.size == y.frame.size) (part_made y.frame y.so_far (suc y.continuations) p) x is_left in
        subst (λ (z : Part). IsHeld z.frame octets p.told.end × EachHeld z.frame octets older → length octets ≡ z.frame.size
        → SoFar octets add_frag (0 + firsts older) (fragments older ++ rest_packet (interrupted older) p store ∷ []) z) left.1
        (λ h size_is.
        let so_far = earlier y interrupts h.1 size_is in
        subst (λ (k : ℕ). SoFar octets add_frag k (fragments older ++ rest_packet (interrupted older) p store ∷ []) (part_made y.frame y.so_far (suc y.continuations) p)) (omega arith)
        (subst (λ (o : Option Part). SoFar octets add_frag (firsts older) (fragments older ++ rest_packet o p store ∷ []) (part_made y.frame y.so_far (suc y.continuations) p)) (sym interrupts)
        (subst (λ (o : List ℕ). SoFar octets add_frag (firsts older) (fragments older ++ fragment_of y.frame o y.so_far p ∷ []) (part_made y.frame y.so_far (suc y.continuations) p))
        (sym (held_octets y.frame octets p.told.end h.0))
        (grown y.frame y.so_far (suc y.continuations) (firsts older) (y.frame.size - y.place) (fragments older) p (rest_sequence y so_far kind_is)
        (so_far.joins ∙ ap (λ n. take n octets) (sym from)) so_far.checked so_far.long so_far.whole (rest_counts y kind_is) (omega (arith, from, so_far.left)) size_is so_far.count
        (so_far.same ∙ ap (λ n. take n octets) (sym from)) left.0 cut h.0))))
        each size

    abbrev Done : ℕ → List PlainPacket → Type 0
    Done size ms = Carries octets add_frag ms × (64 ≤ size → All (λ m. IsWhole m) ms)

    both : (ms : List PlainPacket) (size : ℕ) → Carries octets add_frag ms → (64 ≤ size → All (λ m. IsWhole m) ms) → Done size ms
    both ms size a b = (a, b)

    last_one : (ch : Chosen) (f : FrameRef) → Follows cost add_frag ch older p → is_part ch ≡ true → done_by ch (interrupted older) p ≡ Some f → HeldBy ch f octets p.told.end (EachHeld f octets older)
        → length octets ≡ f.size → Done f.size (fragments_by ch (fragments older) (packet_by ch (interrupted older) p store []))
    last_one (express f) x follows part is each size = absurd (cc part)
    last_one (whole f) x follows part is each size = absurd (cc part)
    last_one verify x follows part is each size = absurd (cc part)
    last_one respond x follows part is each size = absurd (cc part)
    last_one lldp x follows part is each size = absurd (cc part)
    last_one (first f) x follows part is each size =
        let done = done_is p f x is in
        subst (λ (z : FrameRef). IsHeld z octets p.told.end → length octets ≡ z.size → Done z.size (fragment_of f (slot_octets store f.slot) [] p ∷ [])) done.2
        (λ h size_is. subst (λ (o : List ℕ). Done f.size (fragment_of f o [] p ∷ [])) (sym (held_octets f octets p.told.end h))
        (both (fragment_of f octets [] p ∷ []) f.size
        (ended f [] 0 (1 + firsts older) f.size [] p (first_sequence f follows) (first_data f follows) tt tt none_whole (first_counts f follows)
        (omega (arith, follows.1)) size_is done.0 done.1 (λ more. absurd (omega (arith, more))))
        (λ some. ended_whole f [] 0 (1 + firsts older) f.size [] p (first_sequence f follows) (first_data f follows) tt tt none_whole (first_counts f follows)
        (omega (arith, follows.1)) size_is done.0 done.1 (omega (arith, some, follows.1)))))
        each size
    last_one rest x (y, interrupts, kind_is, from, cut) part is each size =
        let is_done : done_of y.frame p ≡ Some x = sym (ap (λ (o : Option Part). done_rest o p) interrupts) ∙ is in
        let done = done_is p y.frame x is_done in
        subst (λ (z : FrameRef). IsHeld z octets p.told.end × EachHeld z octets older → length octets ≡ z.size → Done z.size (fragments older ++ rest_packet (interrupted older) p store ∷ [])) done.2
        (λ h size_is.
        let so_far = earlier y interrupts h.1 size_is in
        subst (λ (o : Option Part). Done y.frame.size (fragments older ++ rest_packet o p store ∷ [])) (sym interrupts)
        (subst (λ (o : List ℕ). Done y.frame.size (fragments older ++ fragment_of y.frame o y.so_far p ∷ [])) (sym (held_octets y.frame octets p.told.end h.0))
        (both (fragments older ++ fragment_of y.frame octets y.so_far p ∷ []) y.frame.size
        (ended y.frame y.so_far (suc y.continuations) (firsts older) (y.frame.size - y.place) (fragments older) p (rest_sequence y so_far kind_is)
        (so_far.joins ∙ ap (λ n. take n octets) (sym from)) so_far.checked so_far.long so_far.whole (rest_counts y kind_is) (omega (arith, from, so_far.left)) size_is done.0 done.1
        (λ more. omega (arith, from, so_far.left)))
        (λ some. ended_whole y.frame y.so_far (suc y.continuations) (firsts older) (y.frame.size - y.place) (fragments older) p (rest_sequence y so_far kind_is)
        (so_far.joins ∙ ap (λ n. take n octets) (sym from)) so_far.checked so_far.long so_far.whole (rest_counts y kind_is) (omega (arith, from, so_far.left)) size_is done.0 done.1
        (omega (arith, from, so_far.left))))))
        each size

  pub so_far : (packets : List Sending) → AreSent cost add_frag packets → (x : Part) → interrupted packets ≡ Some x → EachHeld x.frame octets packets → length octets ≡ x.frame.size
      → SoFar octets add_frag (firsts packets) (fragments packets) x
  so_far [] sent x is each size = absurd (cc is)
  so_far (p ∷ older) sent x is each size = one_more p older (so_far older sent.1) p.told.chosen x sent.0 is each size

  pub finished : (p : Sending) (older : List Sending) (f : FrameRef) → AreSent cost add_frag (p ∷ older) → is_part p.told.chosen ≡ true → done_by p.told.chosen (interrupted older) p ≡ Some f
      → EachHeld f octets (p ∷ older) → length octets ≡ f.size → Carries octets add_frag (fragments (p ∷ older)) × (64 ≤ f.size → All (λ m. IsWhole m) (fragments (p ∷ older)))
  finished p older f sent part is each size = last_one p older (so_far older sent.1) p.told.chosen f sent.0 part is each size

-- those before the newest ones
pub earlier_sent : (cost add_frag : ℕ) (newer older : List Sending) → AreSent cost add_frag (newer ++ older) → AreSent cost add_frag older
earlier_sent cost add_frag [] older h = h
earlier_sent cost add_frag (p ∷ newer) older h = earlier_sent cost add_frag newer older h.1
