-- A list whose items are octets is one of octets.
use Rattle.std.proofs.Common.{ℕ, suc, ◌<◌, List, [], ◌∷◌, get_or}
use Rattle.pre_text.specs.Reading.{AreOctets}

pub are_octets : (l : List ℕ) → ((i : ℕ) → get_or l i 0 < 256) → AreOctets l
are_octets [] small = tt
are_octets (b ∷ l) small = (small 0, are_octets l (λ i. small (suc i)))
