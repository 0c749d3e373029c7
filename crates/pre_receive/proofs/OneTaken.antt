-- There is one answer to an arrival.
use Rattle.std.proofs.Common.{ℕ, zero, suc, ◌≡◌, ◌⊎◌, ◌<◌, List, refl, sym, ◌∙◌, ap, arith, inl, inr, Option}
use Rattle.pre_receive.specs.declared.taken.Cause.{Cause}
use Rattle.pre_receive.specs.Causes.{Reason, no_delimiter, no_fragment_count, short, no_open_frame, other_frame_count, other_fragment_count, long, other_check, place_of, cause_of, IsCause}
use Rattle.pre_receive.specs.Takings.{Taking, gave, gave_nothing, IsTaken}
use Rattle.pre_receive.proofs.PacketLaws.{PacketLaws}

reason_at : ℕ → Reason
reason_at zero = no_delimiter
reason_at (suc zero) = no_fragment_count
reason_at (suc (suc zero)) = short
reason_at (suc (suc (suc zero))) = no_open_frame
reason_at (suc (suc (suc (suc zero)))) = other_frame_count
reason_at (suc (suc (suc (suc (suc zero))))) = other_fragment_count
reason_at (suc (suc (suc (suc (suc (suc zero)))))) = long
reason_at (suc (suc (suc (suc (suc (suc (suc n))))))) = other_check

there : (r : Reason) → reason_at (place_of r) ≡ r
unfolding reason_at
there no_delimiter = refl
there no_fragment_count = refl
there short = refl
there no_open_frame = refl
there other_frame_count = refl
there other_fragment_count = refl
there long = refl
there other_check = refl

equal_or_apart : (m n : ℕ) → (m ≡ n) ⊎ ((m < n) ⊎ (n < m))
equal_or_apart m n = grind arith

cause_one : (A : List (Option (List ℕ))) (i : ℕ) (c d : Cause) → IsCause A i c → IsCause A i d → c ≡ d
cause_one A i c d p q =
    elim (equal_or_apart (place_of p.reason) (place_of q.reason)) [
      | inl same ↦
          let reasons : p.reason ≡ q.reason = sym (there p.reason) ∙ (ap reason_at same ∙ there q.reason) in
          p.named ∙ (ap cause_of reasons ∙ sym q.named)
      | inr (inl lower) ↦ absurd (q.none_before p.reason lower p.here)
      | inr (inr higher) ↦ absurd (p.none_before q.reason higher q.here)
    ]

pub taken_one : PacketLaws → (A : List (Option (List ℕ))) (i : ℕ) (x y : Taking) → IsTaken A i x → IsTaken A i y → x ≡ y
taken_one laws A i (gave g) (gave h) p q = ap gave (laws.one_given A i g h p q)
taken_one laws A i (gave g) (gave_nothing c) p q = absurd (q.0 g p)
taken_one laws A i (gave_nothing c) (gave h) p q = absurd (p.0 h q)
taken_one laws A i (gave_nothing c) (gave_nothing d) p q = ap gave_nothing (cause_one A i c d p.1 q.1)
