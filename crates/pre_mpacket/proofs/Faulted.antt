-- Octets that spell an mPacket have no fault, and others have one first fault.
use Rattle.std.proofs.Common.{◌≡◌, ◌⊎◌, ℕ, ◌-◌, ◌<◌, ◌≤◌, Bool, true, false, List, [], ◌∷◌, ◌++◌, length}
use Rattle.std.proofs.Common.{take, drop, get_or, Result, Ok, Err, refl, sym, ◌∙◌, ap, subst, inl, inr, arith, append_assoc, drop-cons}
use Rattle.std.specs.Prelude.{nat_eq, ◌≢◌, replicate, slice_index, Contains, IsOkAnd, IfOk, IfErr, IsErrAnd, IsErrOf, MatchResult}
use Rattle.std.specs.List.{starts_with}
use Rattle.std.proofs.Math.ListN.{get_or-append}
use Rattle.std.proofs.Math.Seq.{take-length}
use Rattle.std.proofs.lemmas.Bool.{ltb-true}
use Rattle.std.proofs.lemmas.Bool.Decides.{Decides-eqb}
use Rattle.std.proofs.lemmas.Slice.Eq.{starts_is}
use Rattle.std.proofs.lemmas.List.{take-append-le, take-append-drop, drop-drop, length-drop}
use Rattle.pre_mpacket.specs.declared.packets.Kind.{Kind}
use Rattle.pre_mpacket.specs.declared.packets.Kind.TheVariants as kind
use Rattle.pre_mpacket.specs.declared.packets.MPacket.{MPacket}
use Rattle.pre_mpacket.specs.declared.reading.MFault.{MFault}
use Rattle.pre_mpacket.specs.declared.reading.MFault.TheVariants as fault
use Rattle.pre_mpacket.specs.Spelling.{PlainPacket, plain, head_of, HasCounts, Spells, HasFault, place_of, IsFirstFault, IsKindAt, packet_at, start_smds, continue_smds, fragment_counts, whole_smds}
use Rattle.pre_mpacket.proofs.Spelled.{four, length-head_of, length-joined, spelled_one, cut_spells}

-- what the last two octets of a head are
IsEnding : ℕ → ℕ → Type 0
IsEnding a b =
    ((a ≡ 0x55) × Contains whole_smds b)
    ⊎ ((a ≢ 0x55) × Contains continue_smds a × Contains fragment_counts b)

ending : (k : Kind) → HasCounts k → IsEnding (get_or (head_of k) 6 0) (get_or (head_of k) 7 0)
unfolding IsEnding
ending kind.Express h = inl (refl, (0, ltb-true 0 7 refl, refl))
ending kind.Verify h = inl (refl, (1, ltb-true 1 7 refl, refl))
ending kind.Respond h = inl (refl, (2, ltb-true 2 7 refl, refl))
ending (kind.Start c) h =
    inl (
      refl,
      four (λ x. Contains whole_smds (slice_index start_smds x))
          (3, ltb-true 3 7 refl, refl) (4, ltb-true 4 7 refl, refl) (5, ltb-true 5 7 refl, refl) (6, ltb-true 6 7 refl, refl) c h,
    )
ending (kind.Continue c n) h =
    let at : List ℕ → ℕ → Type 0 = λ table x. Contains table (slice_index table x) in
    let other : slice_index continue_smds c ≢ 0x55 =
    four (λ x. slice_index continue_smds x ≢ 0x55) (λ e. omega (arith, e)) (λ e. omega (arith, e)) (λ e. omega (arith, e)) (λ e. omega (arith, e)) c h.0 in
    let smd = four (at continue_smds) (0, ltb-true 0 4 refl, refl) (1, ltb-true 1 4 refl, refl) (2, ltb-true 2 4 refl, refl) (3, ltb-true 3 4 refl, refl) c h.0 in
    let count = four (at fragment_counts) (0, ltb-true 0 4 refl, refl) (1, ltb-true 1 4 refl, refl) (2, ltb-true 2 4 refl, refl) (3, ltb-true 3 4 refl, refl) n h.1 in
    inr (other, smd, count)

take-head_of : (k : Kind) → take 6 (head_of k) ≡ replicate 6 0x55
take-head_of kind.Express = refl
take-head_of kind.Verify = refl
take-head_of kind.Respond = refl
take-head_of (kind.Start c) = refl
take-head_of (kind.Continue c n) = refl

module _ (m : PlainPacket) (octets : List ℕ) (s : Spells m octets) where
  cut : octets ≡ head_of m.kind ++ (m.mdata ++ m.check)
  cut = s.joined ∙ append_assoc (head_of m.kind) m.mdata m.check

  at : (i : ℕ) → i < 8 → get_or octets i 0 ≡ get_or (head_of m.kind) i 0
  at i below = ap (λ l. get_or l i 0) cut ∙ get_or-append (head_of m.kind) (m.mdata ++ m.check) 0 i (omega (arith, below, length-head_of m.kind))

  ends : IsEnding (slice_index octets 6) (slice_index octets 7)
  ends =
      subst (λ a. IsEnding a (slice_index octets 7)) (sym (at 6 (ltb-true 6 8 refl)))
      (subst (λ b. IsEnding (get_or (head_of m.kind) 6 0) b) (sym (at 7 (ltb-true 7 8 refl))) (ending m.kind s.whole.counts))

  preamble : take 6 octets ≡ replicate 6 0x55
  preamble =
      ap (take 6) cut
      ∙ (take-append-le 6 (head_of m.kind) (m.mdata ++ m.check) (omega (arith, length-head_of m.kind)) ∙ take-head_of m.kind)

  pub no_fault : (e : MFault) → HasFault e octets → ⊥
  unfolding IsEnding
  no_fault fault.Short short = omega (arith, short, length-joined m octets s, s.whole.mdata)
  no_fault fault.Preamble other = other preamble
  no_fault fault.Smd (inl (is, none)) = elim ends [ inl w ↦ none w.1 | inr w ↦ w.0 is ]
  no_fault fault.Smd (inr (is, none)) = elim ends [ inl w ↦ is w.0 | inr w ↦ none w.1 ]
  no_fault fault.Fragment (is, none) = elim ends [ inl w ↦ is w.0 | inr w ↦ none w.2 ]

-- ---- the first fault is one

apart : (d e : MFault) → (d ≡ e) ⊎ ((place_of d < place_of e) ⊎ (place_of e < place_of d))
apart fault.Short fault.Short = inl refl
apart fault.Preamble fault.Preamble = inl refl
apart fault.Smd fault.Smd = inl refl
apart fault.Fragment fault.Fragment = inl refl
apart fault.Short fault.Preamble = inr (inl (ltb-true 0 1 refl))
apart fault.Short fault.Smd = inr (inl (ltb-true 0 2 refl))
apart fault.Short fault.Fragment = inr (inl (ltb-true 0 3 refl))
apart fault.Preamble fault.Smd = inr (inl (ltb-true 1 2 refl))
apart fault.Preamble fault.Fragment = inr (inl (ltb-true 1 3 refl))
apart fault.Smd fault.Fragment = inr (inl (ltb-true 2 3 refl))
apart fault.Preamble fault.Short = inr (inr (ltb-true 0 1 refl))
apart fault.Smd fault.Short = inr (inr (ltb-true 0 2 refl))
apart fault.Fragment fault.Short = inr (inr (ltb-true 0 3 refl))
apart fault.Smd fault.Preamble = inr (inr (ltb-true 1 2 refl))
apart fault.Fragment fault.Preamble = inr (inr (ltb-true 1 3 refl))
apart fault.Fragment fault.Smd = inr (inr (ltb-true 2 3 refl))

first_one : (d e : MFault) (octets : List ℕ) → IsFirstFault d octets → IsFirstFault e octets → d ≡ e
first_one d e octets f g =
    elim (apart d e) [ inl same ↦ same | inr (inl before) ↦ absurd (g.none_before d before f.here) | inr (inr after) ↦ absurd (f.none_before e after g.here) ]

-- ---- an answer that tells what the octets are is exact

abbrev pub Tells : Result MPacket MFault → List ℕ → Type 0
Tells r octets = MatchResult r (λ m. Spells (plain m) octets) (λ e. IsFirstFault e octets)

pub tells_spelled : (r : Result MPacket MFault) (octets : List ℕ) → Tells r octets → IfOk r (λ m. Spells (plain m) octets)
tells_spelled (Ok x) octets s = s
tells_spelled (Err e) octets f = tt

pub tells_fault : (r : Result MPacket MFault) (octets : List ℕ) → Tells r octets → IfErr r (λ e. IsFirstFault e octets)
tells_fault (Ok x) octets s = tt
tells_fault (Err e) octets f = f

pub tells_spelled_due : (r : Result MPacket MFault) (octets : List ℕ) → Tells r octets → (m : PlainPacket) → Spells m octets → IsOkAnd r (λ x. plain x ≡ m)
tells_spelled_due (Ok x) octets s m t = spelled_one (plain x) m octets s t
tells_spelled_due (Err e) octets f m t = no_fault m octets t e f.here

pub tells_fault_due : (r : Result MPacket MFault) (octets : List ℕ) → Tells r octets → (e : MFault) → IsFirstFault e octets → IsErrOf r e
tells_fault_due (Ok x) octets s e f = absurd (no_fault (plain x) octets s e f.here)
tells_fault_due (Err d) octets f e g = ap Err (first_one d e octets f g)

-- ---- what each exit of a reader knows

pub tells_short : (octets : List ℕ) → length octets < 72 → IsFirstFault fault.Short octets
tells_short octets short = record { here = short; none_before = λ d before h. omega (arith, before) }

none_but_short : (octets : List ℕ) (d : MFault) → 72 ≤ length octets → place_of d < 1 → HasFault d octets → ⊥
none_but_short octets fault.Short long before h = omega (arith, long, h)
none_but_short octets fault.Preamble long before h = omega (arith, before)
none_but_short octets fault.Smd long before h = omega (arith, before)
none_but_short octets fault.Fragment long before h = omega (arith, before)

pub tells_preamble : (octets : List ℕ) → 72 ≤ length octets → take 6 octets ≢ replicate 6 0x55 → IsFirstFault fault.Preamble octets
tells_preamble octets long other = record { here = other; none_before = λ d before h. none_but_short octets d long before h }

none_before_smd : (octets : List ℕ) (d : MFault) → 72 ≤ length octets → take 6 octets ≡ replicate 6 0x55 → place_of d < 2 → HasFault d octets → ⊥
none_before_smd octets fault.Short long same before h = omega (arith, long, h)
none_before_smd octets fault.Preamble long same before h = h same
none_before_smd octets fault.Smd long same before h = omega (arith, before)
none_before_smd octets fault.Fragment long same before h = omega (arith, before)

none_before_count : (octets : List ℕ) (d : MFault) → 72 ≤ length octets → take 6 octets ≡ replicate 6 0x55
    → slice_index octets 6 ≢ 0x55 → Contains continue_smds (slice_index octets 6) → place_of d < 3 → HasFault d octets → ⊥
none_before_count octets fault.Short long same other smd before h = omega (arith, long, h)
none_before_count octets fault.Preamble long same other smd before h = h same
none_before_count octets fault.Smd long same other smd before (inl (is, none)) = other is
none_before_count octets fault.Smd long same other smd before (inr (is, none)) = none smd
none_before_count octets fault.Fragment long same other smd before h = omega (arith, before)

pub tells_kind : (octets : List ℕ) (r : Result Kind MFault) (e : MFault) → r ≡ Err e → 72 ≤ length octets → take 6 octets ≡ replicate 6 0x55
    → IsKindAt r (slice_index octets 6) (slice_index octets 7) → IsFirstFault e octets
tells_kind octets r e is long same at = told (subst (λ x. IsKindAt x (slice_index octets 6) (slice_index octets 7)) is at)
  where
    told : IsKindAt (Err e) (slice_index octets 6) (slice_index octets 7) → IsFirstFault e octets
    told (inl (smd, here)) = subst (λ x. IsFirstFault x octets) (sym smd) (record { here = here; none_before = λ d before h. none_before_smd octets d long same before h })
    told (inr (count, other, smd, none)) =
        subst (λ x. IsFirstFault x octets) (sym count) (record { here = (other, none); none_before = λ d before h. none_before_count octets d long same other smd before h })

-- the first eight octets after a preamble
head_at : (octets : List ℕ) → 72 ≤ length octets → take 6 octets ≡ replicate 6 0x55
    → take 8 octets ≡ replicate 6 0x55 ++ slice_index octets 6 ∷ slice_index octets 7 ∷ []
head_at octets long same =
    let sixth : drop 6 octets ≡ slice_index octets 6 ∷ drop 7 octets = drop-cons octets 6 0 (omega (arith, long)) in
    let seventh : drop 7 octets ≡ slice_index octets 7 ∷ drop 8 octets = drop-cons octets 7 0 (omega (arith, long)) in
    let all : octets ≡ replicate 6 0x55 ++ (slice_index octets 6 ∷ slice_index octets 7 ∷ drop 8 octets) =
    sym (take-append-drop 6 octets)
    ∙ (ap (λ l. l ++ drop 6 octets) same
    ∙ ap (λ l. replicate 6 0x55 ++ l) (sixth ∙ ap (λ l. slice_index octets 6 ∷ l) seventh)) in
    ap (take 8) all

pub tells_mpacket : (octets : List ℕ) (k : Kind) (mdata check : List ℕ) → 72 ≤ length octets → take 6 octets ≡ replicate 6 0x55
    → HasCounts k × (head_of k ≡ replicate 6 0x55 ++ slice_index octets 6 ∷ slice_index octets 7 ∷ [])
    → mdata ≡ take (length octets - 12) (drop 8 octets) → check ≡ drop (length octets - 4) octets
    → Spells (record { kind = k; mdata = mdata; check = check }) octets
tells_mpacket octets k mdata check long same at is_mdata is_check =
    let packet : packet_at octets k ≡ record { kind = k; mdata = mdata; check = check } = cc (is_mdata, is_check) in
    subst (λ x. Spells x octets) packet (cut_spells k octets at.0 long (head_at octets long same ∙ sym at.1))

-- ---- what a test of the preamble tells

pub starts_same : (octets : List ℕ) (r : Bool) → r ≡ starts_with nat_eq octets (replicate 6 0x55) → r ≡ true → take 6 octets ≡ replicate 6 0x55
starts_same octets r is passes = ap (take 6) ((starts_is Decides-eqb octets (replicate 6 0x55) r is).0 passes)

pub starts_other : (octets : List ℕ) (r : Bool) → r ≡ starts_with nat_eq octets (replicate 6 0x55) → r ≡ false → take 6 octets ≢ replicate 6 0x55
starts_other octets r is fails same =
    let passes : r ≡ true = (starts_is Decides-eqb octets (replicate 6 0x55) r is).1 (drop 6 octets) (sym (take-append-drop 6 octets) ∙ ap (λ l. l ++ drop 6 octets) same) in
    cc (passes, fails)

-- an error that is passed on
pub tells_error : (r : Result MPacket MFault) (e : MFault) (octets : List ℕ) → IsErrAnd r (λ d. d ≡ e) → IsFirstFault e octets → Tells r octets
tells_error (Ok x) e octets is first = absurd is
tells_error (Err d) e octets is first = subst (λ x. IsFirstFault x octets) (sym is) first

-- the exit at a fault of octets 6 and 7
pub tells_passed : (octets : List ℕ) (starts : Bool) (named : Result Kind MFault) (e : MFault) (r : Result MPacket MFault) → 72 ≤ length octets
    → starts ≡ starts_with nat_eq octets (replicate 6 0x55) → starts ≡ true → IsKindAt named (slice_index octets 6) (slice_index octets 7)
    → named ≡ Err e → IsErrAnd r (λ d. d ≡ e) → Tells r octets
tells_passed octets starts named e r long value passes at is passed =
    tells_error r e octets passed (tells_kind octets named e is long (starts_same octets starts value passes) at)

-- all octets from the eighth on
from_eighth : (octets : List ℕ) → take (length octets - 8) (drop 8 octets) ≡ drop 8 octets
from_eighth octets = subst (λ n. take n (drop 8 octets) ≡ drop 8 octets) (length-drop 8 octets) (take-length (drop 8 octets))

-- and the exit with an mPacket
pub tells_read : (octets : List ℕ) (starts : Bool) (k : Kind) (mdata check : List ℕ) → 72 ≤ length octets
    → starts ≡ starts_with nat_eq octets (replicate 6 0x55) → starts ≡ true
    → HasCounts k × (head_of k ≡ replicate 6 0x55 ++ slice_index octets 6 ∷ slice_index octets 7 ∷ [])
    → mdata ≡ take (length octets - 8 - 4) (take (length octets - 8) (drop 8 octets))
    → check ≡ drop (length octets - 8 - 4) (take (length octets - 8) (drop 8 octets))
    → Spells (record { kind = k; mdata = mdata; check = check }) octets
tells_read octets starts k mdata check long value passes at is_mdata is_check =
    let body = from_eighth octets in
    tells_mpacket octets k mdata check long (starts_same octets starts value passes) at
    (is_mdata ∙ (ap (take (length octets - 8 - 4)) body ∙ ap (λ n. take n (drop 8 octets)) (omega arith)))
    (is_check ∙ (ap (drop (length octets - 8 - 4)) body ∙ (drop-drop (length octets - 8 - 4) 8 octets ∙ ap (λ n. drop n octets) (omega (arith, long)))))
