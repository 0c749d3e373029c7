-- A list of arrivals has counters.
use Rattle.std.proofs.Common.{ℕ, zero, suc, ◌≡◌, ◌<◌, Bool, true, false, List, refl, sym, ◌∙◌, inl, inr, subst, Option, Some, None}
use Rattle.std.specs.Prelude.{slice_get, IsFalse}
use Rattle.pre_mpacket.specs.Spelling.{PlainPacket}
use Rattle.pre_mpacket.specs.Arrivals.{Given, is_start, is_continue, is_fragment, HasCome, Spelled, Gives, IsOpenBefore}
use Rattle.pre_mpacket.specs.Counters.{HoldsOf, any_kind, IsAccepted, IsAssError, IsSmdError, IsAssOk, IsFragRx, CountersOf}
use Rattle.pre_mpacket.proofs.Decisions.{IsDecided, both, one_of, negated, less, some_below}
use Rattle.pre_mpacket.proofs.GivenDecided.{has_kind, gives_decided}
use Rattle.pre_mpacket.proofs.Chains.{gives_one}

count_some : (P : ℕ → Type 0) → ((i : ℕ) → IsDecided (P i)) → (n : ℕ) → (count : ℕ) × HoldsOf P n count
count_some P decided zero = (0, refl)
count_some P decided (suc n) = let o = count_some P decided n in elim (decided n) [ inl p ↦ (suc o.0, inl (p, (o.0, refl, o.1))) | inr nay ↦ (o.0, inr (nay, o.1)) ]

module _ (A : List (Option (List ℕ))) where
  come : (i : ℕ) → IsDecided (HasCome A i)
  come i = go (slice_get A i) refl
    where
      go : (o : Option (Option (List ℕ))) → slice_get A i ≡ o → IsDecided (HasCome A i)
      go None is = inr (λ x. absurd (cc (sym is ∙ x.1)))
      go (Some None) is = inr (λ x. let same : Some x.0 ≡ None = cc (sym x.1 ∙ is) in absurd (cc same))
      go (Some (Some octets)) is = inl (octets, is)

  accepted : (i : ℕ) → IsDecided (IsAccepted A i)
  accepted i = elim (gives_decided A i) [ inl o ↦ inl o | inr none ↦ inr (λ x. none x.0 x.1) ]

  gives_part : (i : ℕ) → IsDecided (Gives A i Given.part)
  gives_part i = elim (gives_decided A i) [ inl (g, gives) ↦ go g gives | inr none ↦ inr (none Given.part) ]
    where
      go : (g : Given) → Gives A i g → IsDecided (Gives A i Given.part)
      go Given.part gives = inl gives
      go Given.verify gives = inr (λ x. cc (gives_one A i Given.verify Given.part gives x))
      go Given.respond gives = inr (λ x. cc (gives_one A i Given.respond Given.part gives x))
      go (Given.frame octets) gives = inr (λ x. cc (gives_one A i (Given.frame octets) Given.part gives x))

  gives_frame : (i : ℕ) → IsDecided ((octets : List ℕ) × Gives A i (Given.frame octets))
  gives_frame i = elim (gives_decided A i) [ inl (g, gives) ↦ go g gives | inr none ↦ inr (λ x. none (Given.frame x.0) x.1) ]
    where
      go : (g : Given) → Gives A i g → IsDecided ((octets : List ℕ) × Gives A i (Given.frame octets))
      go (Given.frame octets) gives = inl (octets, gives)
      go Given.part gives = inr (λ x. cc (gives_one A i Given.part (Given.frame x.0) gives x.1))
      go Given.verify gives = inr (λ x. cc (gives_one A i Given.verify (Given.frame x.0) gives x.1))
      go Given.respond gives = inr (λ x. cc (gives_one A i Given.respond (Given.frame x.0) gives x.1))

  -- no fragment is spelled at k
  NoFragment : ℕ → Type 0
  NoFragment k = (m : PlainPacket) → Spelled A k ≡ Some m → IsFalse (is_fragment m.kind)

  no_fragment : (k : ℕ) → IsDecided (NoFragment k)
  unfolding NoFragment
  no_fragment k = go (Spelled A k) refl
    where
      test : (m : PlainPacket) → Spelled A k ≡ Some m → (b : Bool) → is_fragment m.kind ≡ b → IsDecided ((m : PlainPacket) → Spelled A k ≡ Some m → IsFalse (is_fragment m.kind))
      test m is true pass = inr (λ each. absurd (cc (sym pass ∙ each m is)))
      test m is false fails = inl (λ x at. let same : m ≡ x = cc (sym is ∙ at) in subst (λ (y : PlainPacket). is_fragment y.kind ≡ false) same fails)

      go : (o : Option PlainPacket) → Spelled A k ≡ o → IsDecided ((m : PlainPacket) → Spelled A k ≡ Some m → IsFalse (is_fragment m.kind))
      go None is = inl (λ m at. absurd (cc (sym is ∙ at)))
      go (Some m) is = test m is (is_fragment m.kind) refl

  open_before : (i : ℕ) → IsDecided (IsOpenBefore A i)
  unfolding NoFragment
  open_before i = elim (some_below (λ j. Gives A j Given.part × ((k : ℕ) → j < k → k < i → NoFragment k)) i (λ j lt. both (gives_part j) (none_between j))) [
    | inl o ↦ inl (o.0, o.1, o.2.0, o.2.1)
    | inr none ↦ inr (λ (j, lt, gives, others). none j lt (gives, others))
  ]
    where
      none_between : (j : ℕ) → IsDecided ((k : ℕ) → j < k → k < i → NoFragment k)
      none_between j = elim (some_below (λ k. (j < k) × ¬ NoFragment k) i (λ k lt. both (less j k) (negated (no_fragment k)))) [
        | inl o ↦ inr (λ each. o.2.1 (each o.0 o.2.0 o.1))
        | inr none ↦ inl (λ k from lt. elim (no_fragment k) [ inl p ↦ p | inr nay ↦ absurd (none k lt (from, nay)) ])
      ]

  pub counters_some : (n : ℕ) → (err smd ok rx : ℕ) × CountersOf A n err smd ok rx
  counters_some n =
      let err = count_some (IsAssError A) ass_error n in
      let smd = count_some (IsSmdError A) smd_error n in
      let ok = count_some (IsAssOk A) ass_ok n in
      let rx = count_some (IsFragRx A) frag_rx n in
      (err.0, smd.0, ok.0, rx.0, record { ass_errors = err.1; smd_errors = smd.1; ass_oks = ok.1; frag_rxs = rx.1 })
    where
      ass_error : (i : ℕ) → IsDecided (IsAssError A i)
      ass_error i = one_of (both (open_before i) (one_of (has_kind A is_start i) (both (has_kind A is_continue i) (negated (accepted i))))) (both (has_kind A is_start i) (negated (accepted i)))

      smd_error : (i : ℕ) → IsDecided (IsSmdError A i)
      smd_error i = both (come i) (one_of (negated (has_kind A any_kind i)) (both (has_kind A is_continue i) (negated (open_before i))))

      ass_ok : (i : ℕ) → IsDecided (IsAssOk A i)
      ass_ok i = both (has_kind A is_fragment i) (gives_frame i)

      frag_rx : (i : ℕ) → IsDecided (IsFragRx A i)
      frag_rx i = both (has_kind A is_continue i) (accepted i)
