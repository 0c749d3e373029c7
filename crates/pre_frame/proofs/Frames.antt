-- Parts of a frame written in place.
use Rattle.std.proofs.Common.{◌≡◌, ℕ, ◌+◌, ◌%◌, ◌<◌, List, map, length, get_or, sym, ◌∙◌, arith}
use Rattle.std.specs.List.{range_with_len}
use Rattle.std.proofs.lemmas.List.{same_lists, get_or_default}
use Rattle.std.proofs.lemmas.List.FromFn.{length-map-range_with_len, get_or-map-range_with_len}

-- octets that count up from the fourth on
pub counted_up : (number : ℕ) (octets old : List ℕ) → length octets ≡ length old
    → ((k : ℕ) → k < length octets → get_or octets k 0 ≡ (number + (4 + k)) % 256)
    → octets ≡ map (λ j. (number + j) % 256) (range_with_len 4 (length old))
counted_up number octets old e at =
    let f : ℕ → ℕ = λ j. (number + j) % 256 in
    let n : ℕ = length old in
    same_lists octets (map f (range_with_len 4 n)) (e ∙ sym (length-map-range_with_len f 4 n))
    (λ k d h. get_or_default octets k d 0 h ∙ at k h ∙ sym (get_or-map-range_with_len f 4 n k (4 + k) d (omega arith) (omega arith)))
