-- The counters are one, whatever comes later.
use Rattle.std.proofs.Common.{ℕ, zero, suc, ◌≡◌, ◌≤◌, ◌<◌, List, ◌++◌, length, sym, ◌∙◌, ap, inl, inr, arith, Bool, Option}
use Rattle.std.specs.Prelude.{◌↔◌}
use Rattle.pre_mpacket.specs.declared.packets.Kind.{Kind}
use Rattle.pre_mpacket.specs.Arrivals.{Given, is_start, is_continue, is_fragment, HasKind, IsOpenBefore}
use Rattle.pre_mpacket.specs.Counters.{HoldsOf, any_kind, IsAccepted, IsAssError, IsSmdError, IsAssOk, IsFragRx, CountersOf}
use Rattle.pre_mpacket.proofs.Later.{slice_get-append, gives_more}
use Rattle.pre_mpacket.proofs.Opened.{spelled_before}

holds_one : (P : ℕ → Type 0) (n c d : ℕ) → HoldsOf P n c → HoldsOf P n d → c ≡ d
holds_one P zero c d h k = h ∙ sym k
holds_one P (suc n) c d (inl (p, (x, is, h))) (inl (q, (y, is', k))) = is ∙ (ap suc (holds_one P n x y h k) ∙ sym is')
holds_one P (suc n) c d (inl (p, more)) (inr (none, k)) = absurd (none p)
holds_one P (suc n) c d (inr (none, h)) (inl (q, more)) = absurd (none q)
holds_one P (suc n) c d (inr (none, h)) (inr (none', k)) = holds_one P n c d h k

pub counters_one : (A : List (Option (List ℕ))) (n a b c d e f g h : ℕ) → CountersOf A n a b c d → CountersOf A n e f g h → (a ≡ e) × (b ≡ f) × (c ≡ g) × (d ≡ h)
counters_one A n a b c d e f g h x y = (
  holds_one (IsAssError A) n a e x.ass_errors y.ass_errors,
  holds_one (IsSmdError A) n b f x.smd_errors y.smd_errors,
  holds_one (IsAssOk A) n c g x.ass_oks y.ass_oks,
  holds_one (IsFragRx A) n d h x.frag_rxs y.frag_rxs,
)

holds_like : (P Q : ℕ → Type 0) (n c : ℕ) → ((k : ℕ) → k < n → (P k → Q k) × (Q k → P k)) → HoldsOf P n c → HoldsOf Q n c
holds_like P Q zero c like h = h
holds_like P Q (suc n) c like (inl (p, (x, is, h))) = inl ((like n (omega arith)).0 p, (x, is, holds_like P Q n x (λ k lt. like k (omega (arith, lt))) h))
holds_like P Q (suc n) c like (inr (none, h)) = inr (λ q. none ((like n (omega arith)).1 q), holds_like P Q n c (λ k lt. like k (omega (arith, lt))) h)

module _ (A B : List (Option (List ℕ))) where
  kind_more : (test : Kind → Bool) (k : ℕ) → k < length A → HasKind (A ++ B) test k → HasKind A test k
  kind_more test k lt (m, at, is) = (m, sym (spelled_before A B k lt) ∙ at, is)

  kind_back : (test : Kind → Bool) (k : ℕ) → k < length A → HasKind A test k → HasKind (A ++ B) test k
  kind_back test k lt (m, at, is) = (m, spelled_before A B k lt ∙ at, is)

  open_more : (k : ℕ) → k ≤ length A → IsOpenBefore (A ++ B) k → IsOpenBefore A k
  open_more k le (j, before, gives, none) =
      (j, before, (gives_more A B j Given.part (omega (arith, le, before))).0 gives, λ l past lt m at. none l past lt m (spelled_before A B l (omega (arith, le, lt)) ∙ at))

  open_back : (k : ℕ) → k ≤ length A → IsOpenBefore A k → IsOpenBefore (A ++ B) k
  open_back k le (j, before, gives, none) =
      (j, before, (gives_more A B j Given.part (omega (arith, le, before))).1 gives, λ l past lt m at. none l past lt m (sym (spelled_before A B l (omega (arith, le, lt))) ∙ at))

  accepted_more : (k : ℕ) → k < length A → IsAccepted (A ++ B) k → IsAccepted A k
  accepted_more k lt (g, gives) = (g, (gives_more A B k g lt).0 gives)

  accepted_back : (k : ℕ) → k < length A → IsAccepted A k → IsAccepted (A ++ B) k
  accepted_back k lt (g, gives) = (g, (gives_more A B k g lt).1 gives)

  ass_error : (k : ℕ) → k < length A → (IsAssError (A ++ B) k → IsAssError A k) × (IsAssError A k → IsAssError (A ++ B) k)
  ass_error k lt = (
    λ h. elim h [
      | inl (o, inl start) ↦ inl (open_more k (omega (arith, lt)) o, inl (kind_more is_start k lt start))
      | inl (o, inr (more, none)) ↦ inl (open_more k (omega (arith, lt)) o, inr (kind_more is_continue k lt more, λ x. none (accepted_back k lt x)))
      | inr (start, none) ↦ inr (kind_more is_start k lt start, λ x. none (accepted_back k lt x))
    ],
    λ h. elim h [
      | inl (o, inl start) ↦ inl (open_back k (omega (arith, lt)) o, inl (kind_back is_start k lt start))
      | inl (o, inr (more, none)) ↦ inl (open_back k (omega (arith, lt)) o, inr (kind_back is_continue k lt more, λ x. none (accepted_more k lt x)))
      | inr (start, none) ↦ inr (kind_back is_start k lt start, λ x. none (accepted_more k lt x))
    ],
  )

  smd_error : (k : ℕ) → k < length A → (IsSmdError (A ++ B) k → IsSmdError A k) × (IsSmdError A k → IsSmdError (A ++ B) k)
  smd_error k lt = (
    λ h. (
      (h.0.0, sym (slice_get-append A B k lt) ∙ h.0.1),
      elim h.1 [
        | inl none ↦ inl (λ x. none (kind_back any_kind k lt x))
        | inr (more, shut) ↦ inr (kind_more is_continue k lt more, λ o. shut (open_back k (omega (arith, lt)) o))
      ],
    ),
    λ h. (
      (h.0.0, slice_get-append A B k lt ∙ h.0.1),
      elim h.1 [
        | inl none ↦ inl (λ x. none (kind_more any_kind k lt x))
        | inr (more, shut) ↦ inr (kind_back is_continue k lt more, λ o. shut (open_more k (omega (arith, lt)) o))
      ],
    ),
  )

  ass_ok : (k : ℕ) → k < length A → (IsAssOk (A ++ B) k → IsAssOk A k) × (IsAssOk A k → IsAssOk (A ++ B) k)
  ass_ok k lt = (
    λ h. (kind_more is_fragment k lt h.0, (h.1.0, (gives_more A B k (Given.frame h.1.0) lt).0 h.1.1)),
    λ h. (kind_back is_fragment k lt h.0, (h.1.0, (gives_more A B k (Given.frame h.1.0) lt).1 h.1.1)),
  )

  frag_rx : (k : ℕ) → k < length A → (IsFragRx (A ++ B) k → IsFragRx A k) × (IsFragRx A k → IsFragRx (A ++ B) k)
  frag_rx k lt = (
    λ h. (kind_more is_continue k lt h.0, accepted_more k lt h.1),
    λ h. (kind_back is_continue k lt h.0, accepted_back k lt h.1),
  )

pub counters_more : (A B : List (Option (List ℕ))) (n a b c d : ℕ) → n ≤ length A → CountersOf (A ++ B) n a b c d ↔ CountersOf A n a b c d
counters_more A B n a b c d le = (
  λ h. record {
    ass_errors = holds_like (IsAssError (A ++ B)) (IsAssError A) n a (λ k lt. ass_error A B k (omega (arith, le, lt))) h.ass_errors;
    smd_errors = holds_like (IsSmdError (A ++ B)) (IsSmdError A) n b (λ k lt. smd_error A B k (omega (arith, le, lt))) h.smd_errors;
    ass_oks = holds_like (IsAssOk (A ++ B)) (IsAssOk A) n c (λ k lt. ass_ok A B k (omega (arith, le, lt))) h.ass_oks;
    frag_rxs = holds_like (IsFragRx (A ++ B)) (IsFragRx A) n d (λ k lt. frag_rx A B k (omega (arith, le, lt))) h.frag_rxs;
  },
  λ h. record {
    ass_errors = holds_like (IsAssError A) (IsAssError (A ++ B)) n a (λ k lt. let both = ass_error A B k (omega (arith, le, lt)) in (both.1, both.0)) h.ass_errors;
    smd_errors = holds_like (IsSmdError A) (IsSmdError (A ++ B)) n b (λ k lt. let both = smd_error A B k (omega (arith, le, lt)) in (both.1, both.0)) h.smd_errors;
    ass_oks = holds_like (IsAssOk A) (IsAssOk (A ++ B)) n c (λ k lt. let both = ass_ok A B k (omega (arith, le, lt)) in (both.1, both.0)) h.ass_oks;
    frag_rxs = holds_like (IsFragRx A) (IsFragRx (A ++ B)) n d (λ k lt. let both = frag_rx A B k (omega (arith, le, lt)) in (both.1, both.0)) h.frag_rxs;
  },
)
