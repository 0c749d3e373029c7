-- How an arrival raises the counters.
use Rattle.std.proofs.Common.{ℕ, suc, ◌≡◌, ◌⊎◌, List, [], ◌∷◌, ◌++◌, length, length-append, refl, sym, ◌∙◌, ap}
use Rattle.std.proofs.Common.{arith, subst, inl, inr, Option, Some, None, true, false, Bool}
use Rattle.std.specs.Prelude.{◌&&◌, ◌||◌, not, min}
use Rattle.pre_mpacket.specs.declared.packets.Kind.{Kind}
use Rattle.pre_mpacket.specs.declared.packets.Kind.TheVariants as kind
use Rattle.pre_mpacket.specs.Spelling.{PlainPacket}
use Rattle.pre_mpacket.specs.Arrivals.{Given, is_start, is_continue, is_fragment, HasCome, HasKind, Spelled, Gives, IsOpenBefore}
use Rattle.pre_mpacket.specs.Counters.{HoldsOf, any_kind, IsAccepted, IsAssError, IsSmdError, IsAssOk, IsFragRx, CountersOf}
use Rattle.pre_receive.specs.declared.counters.Counters.{Counters}
use Rattle.pre_receive.specs.declared.outcomes.Outcome.{Outcome}
use Rattle.pre_receive.specs.declared.outcomes.Outcome.TheVariants as outcome
use Rattle.pre_receive.specs.declared.receivers.Receiver.{Receiver}
use Rattle.pre_receive.specs.Takings.{IsTaken}
use Rattle.pre_receive.specs.Counts.{last_count, Count, is_frame, is_nothing, is_ass_error, is_smd_error, is_ass_ok, is_frag_rx, raised, Raises}
use Rattle.pre_receive.specs.Receivers.{taking}
use Rattle.pre_receive.proofs.PacketLaws.{PacketLaws}

-- the test tells whether it holds
pub Tells : Bool → Type 0 → Type 0
Tells b P = (b ≡ true → P) × (b ≡ false → ¬ P)

tells_true : (P : Type 0) → P → Tells true P
unfolding Tells
tells_true P p = (λ e. p, λ e. absurd (cc e))

tells_false : (P : Type 0) → ¬ P → Tells false P
unfolding Tells
tells_false P none = (λ e. absurd (cc e), λ e. none)

pub tells_by : (b : Bool) (P : Type 0) → (b ≡ true → P) → (b ≡ false → ¬ P) → Tells b P
unfolding Tells
tells_by b P passes fails = (passes, fails)

-- ---- the four counters, by what kind of mPacket came (S a start, C a continuation), whether a frame was open (O), and
-- whether it was accepted (N)

start_ass_error : (O S C N : Type 0) (b n : Bool) → S → Tells b O → Tells n (¬ N) → (n ≡ false → N) → Tells (b || n) ((O × (S ⊎ C × ¬ N)) ⊎ S × ¬ N)
unfolding Tells
start_ass_error O S C N true n s shown none acc = tells_true _ (inl (shown.0 refl, inl s))
start_ass_error O S C N false true s shown none acc = tells_true _ (inr (s, none.0 refl))
start_ass_error O S C N false false s shown none acc = tells_false _ (λ h. elim h [ inl x ↦ shown.1 refl x.0 | inr x ↦ x.1 (acc refl) ])

continue_ass_error : (O S C N : Type 0) (b n : Bool) → ¬ S → C → Tells b O → Tells n (¬ N) → (n ≡ false → N) → Tells (b && n) ((O × (S ⊎ C × ¬ N)) ⊎ S × ¬ N)
unfolding Tells
continue_ass_error O S C N true true s k shown none acc = tells_true _ (inl (shown.0 refl, inr (k, none.0 refl)))
continue_ass_error O S C N true false s k shown none acc = tells_false _ (λ h. elim h [ inl x ↦ elim x.1 [ inl y ↦ s y | inr y ↦ y.1 (acc refl) ] | inr x ↦ s x.0 ])
continue_ass_error O S C N false n s k shown none acc = tells_false _ (λ h. elim h [ inl x ↦ shown.1 refl x.0 | inr x ↦ s x.0 ])

other_ass_error : (O S C N : Type 0) → ¬ S → ¬ C → Tells false ((O × (S ⊎ C × ¬ N)) ⊎ S × ¬ N)
other_ass_error O S C N s k = tells_false _ (λ h. elim h [ inl x ↦ elim x.1 [ inl y ↦ s y | inr y ↦ k y.0 ] | inr x ↦ s x.0 ])

continue_smd_error : (H O K C : Type 0) (b : Bool) → H → K → C → Tells b O → Tells (not b) (H × (¬ K ⊎ C × ¬ O))
unfolding Tells
continue_smd_error H O K C true h k c shown = tells_false _ (λ x. elim x.1 [ inl y ↦ y k | inr y ↦ y.1 (shown.0 refl) ])
continue_smd_error H O K C false h k c shown = tells_true _ (h, inr (c, shown.1 refl))

both : (K P : Type 0) (b : Bool) → K → Tells b P → Tells b (K × P)
unfolding Tells
both K P b k tells = (λ e. (k, tells.0 e), λ e x. tells.1 e x.1)

not_both : (K P : Type 0) → ¬ K → Tells false (K × P)
not_both K P none = tells_false _ (λ x. none x.0)

-- ---- what an outcome tells

no_outcome : (A : List (Option (List ℕ))) (i : ℕ) (r : Receiver) (o : Outcome) → IsTaken A i (taking r.whole.items r.octets.items o) → Tells (is_nothing o) (¬ IsAccepted A i)
no_outcome A i r outcome.Express t = tells_false _ (λ none. none (Given.frame r.whole.items, t))
no_outcome A i r outcome.Joined t = tells_false _ (λ none. none (Given.frame r.octets.items, t))
no_outcome A i r outcome.Verify t = tells_false _ (λ none. none (Given.verify, t))
no_outcome A i r outcome.Respond t = tells_false _ (λ none. none (Given.respond, t))
no_outcome A i r outcome.Part t = tells_false _ (λ none. none (Given.part, t))
no_outcome A i r (outcome.Nothing c) t = tells_true _ (λ x. t.0 x.0 x.1)

accepted : (A : List (Option (List ℕ))) (i : ℕ) (r : Receiver) (o : Outcome) → IsTaken A i (taking r.whole.items r.octets.items o) → is_nothing o ≡ false → IsAccepted A i
accepted A i r outcome.Express t e = (Given.frame r.whole.items, t)
accepted A i r outcome.Joined t e = (Given.frame r.octets.items, t)
accepted A i r outcome.Verify t e = (Given.verify, t)
accepted A i r outcome.Respond t e = (Given.respond, t)
accepted A i r outcome.Part t e = (Given.part, t)
accepted A i r (outcome.Nothing c) t e = absurd (cc e)

is_accepted : (A : List (Option (List ℕ))) (i : ℕ) (r : Receiver) (o : Outcome) → IsTaken A i (taking r.whole.items r.octets.items o) → Tells (not (is_nothing o)) (IsAccepted A i)
is_accepted A i r outcome.Express t = tells_true _ (Given.frame r.whole.items, t)
is_accepted A i r outcome.Joined t = tells_true _ (Given.frame r.octets.items, t)
is_accepted A i r outcome.Verify t = tells_true _ (Given.verify, t)
is_accepted A i r outcome.Respond t = tells_true _ (Given.respond, t)
is_accepted A i r outcome.Part t = tells_true _ (Given.part, t)
is_accepted A i r (outcome.Nothing c) t = tells_false _ (λ x. t.0 x.0 x.1)

frame_given : PacketLaws → (A : List (Option (List ℕ))) (i : ℕ) (r : Receiver) (o : Outcome) → IsTaken A i (taking r.whole.items r.octets.items o) → Tells (is_frame o) ((octets : List ℕ) × Gives A i (Given.frame octets))
frame_given laws A i r outcome.Express t = tells_true _ (r.whole.items, t)
frame_given laws A i r outcome.Joined t = tells_true _ (r.octets.items, t)
frame_given laws A i r outcome.Verify t = tells_false _ (λ x. cc (laws.one_given A i (Given.frame x.0) Given.verify x.1 t))
frame_given laws A i r outcome.Respond t = tells_false _ (λ x. cc (laws.one_given A i (Given.frame x.0) Given.respond x.1 t))
frame_given laws A i r outcome.Part t = tells_false _ (λ x. cc (laws.one_given A i (Given.frame x.0) Given.part x.1 t))
frame_given laws A i r (outcome.Nothing c) t = tells_false _ (λ x. t.0 (Given.frame x.0) x.1)

-- ---- all four

pub record Told (A : List (Option (List ℕ))) (i : ℕ) (k : Option Kind) (was_open : Bool) (o : Outcome) : Type 0 where
  pub ass_error : Tells (is_ass_error k was_open o) (IsAssError A i)
  pub smd_error : Tells (is_smd_error k was_open) (IsSmdError A i)
  pub ass_ok : Tells (is_ass_ok k o) (IsAssOk A i)
  pub frag_rx : Tells (is_frag_rx k o) (IsFragRx A i)

module _ (laws : PacketLaws) (A : List (Option (List ℕ))) (i : ℕ) (m : PlainPacket) (at : Spelled A i ≡ Some m) (come : HasCome A i)
    (was_open : Bool) (open_tells : Tells was_open (IsOpenBefore A i)) (r : Receiver) (o : Outcome) (t : IsTaken A i (taking r.whole.items r.octets.items o)) where
  has : (test : Kind → Bool) (k : Kind) → m.kind ≡ k → test k ≡ true → HasKind A test i
  has test k is passes = (m, at, ap test is ∙ passes)

  has_not : (test : Kind → Bool) (k : Kind) → m.kind ≡ k → test k ≡ false → ¬ HasKind A test i
  has_not test k is fails (x, there, passes) = let same : x ≡ m = cc (at, there) in cc (ap (λ (y : PlainPacket). test y.kind) same, ap test is, fails, passes)

  none : Tells (is_nothing o) (¬ IsAccepted A i)
  none = no_outcome A i r o t

  other : (k : Kind) → m.kind ≡ k → is_fragment k ≡ false → is_start k ≡ false → is_continue k ≡ false
      → Tells false (IsAssError A i) × Tells false (IsSmdError A i) × Tells false (IsAssOk A i) × Tells false (IsFragRx A i)
  other k is f s c = (
    other_ass_error (IsOpenBefore A i) (HasKind A is_start i) (HasKind A is_continue i) (IsAccepted A i) (has_not is_start k is s) (has_not is_continue k is c),
    tells_false _ (λ x. elim x.1 [ inl y ↦ y (has any_kind k is refl) | inr y ↦ has_not is_continue k is c y.0 ]),
    not_both _ _ (has_not is_fragment k is f),
    not_both _ _ (has_not is_continue k is c),
  )

  pub packet_told : (k : Kind) → m.kind ≡ k → Told A i (Some k) was_open o
  packet_told kind.Express is = let h = other kind.Express is refl refl refl in record { ass_error = h.0; smd_error = h.1; ass_ok = h.2; frag_rx = h.3 }
  packet_told kind.Verify is = let h = other kind.Verify is refl refl refl in record { ass_error = h.0; smd_error = h.1; ass_ok = h.2; frag_rx = h.3 }
  packet_told kind.Respond is = let h = other kind.Respond is refl refl refl in record { ass_error = h.0; smd_error = h.1; ass_ok = h.2; frag_rx = h.3 }
  packet_told (kind.Start c) is = record {
    ass_error = start_ass_error (IsOpenBefore A i) (HasKind A is_start i) (HasKind A is_continue i) (IsAccepted A i) was_open (is_nothing o)
        (has is_start (kind.Start c) is refl) open_tells none (accepted A i r o t);
    smd_error = tells_false _ (λ x. elim x.1 [ inl y ↦ y (has any_kind (kind.Start c) is refl) | inr y ↦ has_not is_continue (kind.Start c) is refl y.0 ]);
    ass_ok = both _ _ (is_frame o) (has is_fragment (kind.Start c) is refl) (frame_given laws A i r o t);
    frag_rx = not_both _ _ (has_not is_continue (kind.Start c) is refl);
  }
  packet_told (kind.Continue c n) is = record {
    ass_error = continue_ass_error (IsOpenBefore A i) (HasKind A is_start i) (HasKind A is_continue i) (IsAccepted A i) was_open (is_nothing o)
        (has_not is_start (kind.Continue c n) is refl) (has is_continue (kind.Continue c n) is refl) open_tells none (accepted A i r o t);
    smd_error = continue_smd_error (HasCome A i) (IsOpenBefore A i) (HasKind A any_kind i) (HasKind A is_continue i) was_open
        come (has any_kind (kind.Continue c n) is refl) (has is_continue (kind.Continue c n) is refl) open_tells;
    ass_ok = both _ _ (is_frame o) (has is_fragment (kind.Continue c n) is refl) (frame_given laws A i r o t);
    frag_rx = both _ _ (not (is_nothing o)) (has is_continue (kind.Continue c n) is refl) (is_accepted A i r o t);
  }

-- what spells no mPacket
pub fault_told : (A : List (Option (List ℕ))) (i : ℕ) (was_open : Bool) (o : Outcome) → Spelled A i ≡ None → HasCome A i → Told A i None was_open o
fault_told A i was_open o at come = record {
  ass_error = other_ass_error (IsOpenBefore A i) (HasKind A is_start i) (HasKind A is_continue i) (IsAccepted A i) (has_none is_start) (has_none is_continue);
  smd_error = tells_true _ (come, inl (has_none any_kind));
  ass_ok = not_both _ _ (has_none is_fragment);
  frag_rx = not_both _ _ (has_none is_continue);
}
  where
    has_none : (test : Kind → Bool) → ¬ HasKind A test i
    has_none test (x, there, passes) = cc (at, there)

-- what was lost, which counts as little as a verify
pub lost_told : (A : List (Option (List ℕ))) (i : ℕ) → ((test : Kind → Bool) → ¬ HasKind A test i) → ¬ HasCome A i → Told A i (Some kind.Verify) false outcome.Verify
lost_told A i has_none gone = record {
  ass_error = other_ass_error (IsOpenBefore A i) (HasKind A is_start i) (HasKind A is_continue i) (IsAccepted A i) (has_none is_start) (has_none is_continue);
  smd_error = not_both _ _ gone;
  ass_ok = not_both _ _ (has_none is_fragment);
  frag_rx = not_both _ _ (has_none is_continue);
}

-- ---- the counters after it

count_after : Bool → ℕ → ℕ
count_after true count = suc count
count_after false count = count

holds_after : (P : ℕ → Type 0) (n count : ℕ) (b : Bool) → Tells b (P n) → HoldsOf P n count → HoldsOf P (suc n) (count_after b count)
unfolding Tells count_after
holds_after P n count true tells holds = inl (tells.0 refl, (count, refl, holds))
holds_after P n count false tells holds = inr (tells.1 refl, holds)

raised_after : (b : Bool) (old new count : ℕ) → new ≡ raised old b → old ≡ min count last_count → new ≡ min (count_after b count) last_count
unfolding count_after
raised_after true old new count is was = omega (arith, is, was)
raised_after false old new count is was = is ∙ was

pub counts_after : PacketLaws → (A : List (Option (List ℕ))) (a : Option (List ℕ)) (k : Option Kind) (was_open : Bool) (o : Outcome) (old new : Counters)
    → Told (A ++ a ∷ []) (length A) k was_open o → Raises k was_open o old new → Count A old → Count (A ++ a ∷ []) new
counts_after laws A a k was_open o old new told raises (p, q, r, s, counters, p_is, q_is, r_is, s_is) =
    let B = A ++ a ∷ [] in
    let n : ℕ = length A in
    let same = (laws.later_counts A (a ∷ []) n p q r s (omega arith)).1 counters in
    let more : suc n ≡ length B = sym (length-append A (a ∷ []) ∙ omega arith) in
    let b1 = is_ass_error k was_open o in
    let b2 = is_smd_error k was_open in
    let b3 = is_ass_ok k o in
    let b4 = is_frag_rx k o in (
      count_after b1 p,
      count_after b2 q,
      count_after b3 r,
      count_after b4 s,
      subst (λ (l : ℕ). CountersOf B l (count_after b1 p) (count_after b2 q) (count_after b3 r) (count_after b4 s)) more (record {
        ass_errors = holds_after (IsAssError B) n p b1 told.ass_error same.ass_errors;
        smd_errors = holds_after (IsSmdError B) n q b2 told.smd_error same.smd_errors;
        ass_oks = holds_after (IsAssOk B) n r b3 told.ass_ok same.ass_oks;
        frag_rxs = holds_after (IsFragRx B) n s b4 told.frag_rx same.frag_rxs;
      }),
      raised_after b1 old.frame_ass_error new.frame_ass_error p raises.ass_error p_is,
      raised_after b2 old.frame_smd_error new.frame_smd_error q raises.smd_error q_is,
      raised_after b3 old.frame_ass_ok new.frame_ass_ok r raises.ass_ok r_is,
      raised_after b4 old.frag_count_rx new.frag_count_rx s raises.frag_rx s_is,
    )
