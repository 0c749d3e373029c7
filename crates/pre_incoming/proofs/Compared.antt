-- A frame that ends with its check, compared by the octets before it.
use Rattle.std.proofs.Common.{◌≡◌, ◌-◌, ◌≤◌, ℕ, List, length, take, ap, sym, ◌∙◌, arith, length-append}
use Rattle.std.proofs.lemmas.List.{length-take-le, take_at}
use Rattle.pre_crc.specs.Checks.{Fcs}
use Rattle.pre_crc.proofs.CheckFacts.{length-Fcs}
use Rattle.pre_frame.specs.Layout.{with_check}
use Rattle.pre_receive.specs.Takings.{EndsWithCheck}

module _ (octets front : List ℕ) (four : 4 ≤ length front) where
  size : length (take (length front - 4) front) ≡ length front - 4
  size = length-take-le (length front - 4) front (omega (arith, four))

  -- frames of different lengths differ
  pub long_when : with_check (take (length front - 4) front) ≡ octets → length octets ≡ length front
  long_when is = ap length (sym is) ∙ omega (arith, length-append (take (length front - 4) front) (Fcs (take (length front - 4) front)), length-Fcs (take (length front - 4) front), size, four)

  -- of the same length, and these are the octets before the check
  module _ (long : length octets ≡ length front) (unchecked before : List ℕ) (cut : unchecked ≡ take (length octets - 4) octets) (there : before ≡ take (length octets - 4) front) where
    least : length octets - 4 ≡ length front - 4
    least = ap (λ n. n - 4) long

    -- where they are the same, the frames are
    pub same_when : EndsWithCheck octets → unchecked ≡ before → with_check (take (length front - 4) front) ≡ octets
    same_when (checked, is) same =
        let size' : length checked ≡ length octets - 4 = omega (arith, ap length is, length-append checked (Fcs checked), length-Fcs checked) in
        let all : unchecked ≡ checked = cut ∙ (ap (take (length octets - 4)) is ∙ take_at checked (Fcs checked) (length octets - 4) size') in
        ap with_check (ap (λ n. take n front) (sym least) ∙ (sym there ∙ (sym same ∙ all))) ∙ sym is

    -- and only there
    pub before_when : with_check (take (length front - 4) front) ≡ octets → unchecked ≡ before
    before_when is =
        cut ∙ (ap (λ n. take n octets) least ∙ (ap (take (length front - 4)) (sym is)
        ∙ (take_at (take (length front - 4) front) (Fcs (take (length front - 4) front)) (length front - 4) size ∙ (ap (λ n. take n front) (sym least) ∙ sym there))))
