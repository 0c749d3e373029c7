-- A frame that an arrival gives has the size of a frame.
use Rattle.std.proofs.Common.{ℕ, suc, ◌≡◌, ◌≤◌, ◌-◌, List, ◌∷◌, length, take, drop, ◌∙◌, ap, inl, inr, arith, Option, Some, None, length-append}
use Rattle.std.specs.Prelude.{slice_get, option_and_then}
use Rattle.pre_base.specs.declared.limits.TheConstants.{LEAST_FRAME, GREATEST_FRAME, LEAST_DATA}
use Rattle.pre_mpacket.specs.Spelling.{PlainPacket, IsWhole, mpacket_of}
use Rattle.pre_mpacket.specs.Pieces.{joined}
use Rattle.pre_mpacket.specs.Arrivals.{Given, fragments_of, Spelled, Fragments, Data, Chain, Gives}
use Rattle.pre_mpacket.proofs.Chains.{first_fragment, fragment_of_start}
use Rattle.pre_mpacket.proofs.Spelled.{given_spells}

module _ (A : List (Option (List ℕ))) where
  -- what an arrival spells can be sent
  pub spelled_whole : (i : ℕ) (m : PlainPacket) → Spelled A i ≡ Some m → IsWhole m
  spelled_whole i m at = of (slice_get A i) at
    where
      of : (o : Option (Option (List ℕ))) → option_and_then (λ a. option_and_then mpacket_of a) o ≡ Some m → IsWhole m
      of None is = absurd (cc is)
      of (Some None) is = absurd (cc is)
      of (Some (Some octets)) is = (given_spells m octets is).whole

  -- the data of a chain is that of its start and more
  long_data : (j i : ℕ) → Chain A j i → LEAST_DATA ≤ length (Data A j i)
  long_data j i (le, (s, at, start), last, chain) =
      let count : suc i - j ≡ suc (i - j) = omega (arith, le) in
      let first : Fragments A j i ≡ s ∷ fragments_of (take (i - j) (drop (suc j) A)) =
      ap (λ n. fragments_of (take n (drop j A))) count ∙ first_fragment A j (i - j) s at (fragment_of_start s.kind start) in
      omega (arith, (spelled_whole j s at).mdata, ap (λ l. length (joined l)) first, length-append s.mdata (joined (fragments_of (take (i - j) (drop (suc j) A)))))

  pub frame_size : (i : ℕ) (octets : List ℕ) → Gives A i (Given.frame octets) → (LEAST_FRAME ≤ length octets) × (length octets ≤ GREATEST_FRAME)
  frame_size i octets (m, at, inl express) = (express.2, express.3)
  frame_size i octets (m, at, inr (all, (j, chain, same), check, whole)) =
      let least = long_data j i chain in
      let most = chain.3.1 in
      let four = (spelled_whole i m at).check in (
        omega (arith, least, ap length same, ap length whole, length-append all m.check, four),
        omega (arith, most, ap length same, ap length whole, length-append all m.check, four),
      )
