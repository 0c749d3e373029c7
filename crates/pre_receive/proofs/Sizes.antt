-- A frame that was taken has the size of one.
use Rattle.std.proofs.Common.{ℕ, ◌≤◌, List, length, Option}
use Rattle.pre_base.specs.declared.limits.TheConstants.{LEAST_FRAME, GREATEST_FRAME}
use Rattle.pre_mpacket.specs.Arrivals.{Given, Gives}
use Rattle.pre_receive.specs.Takings.{Taking, gave, gave_nothing, IsTaken, HasFrameSize}

pub taken_size : ((A : List (Option (List ℕ))) (i : ℕ) (octets : List ℕ) → Gives A i (Given.frame octets) → (LEAST_FRAME ≤ length octets) × (length octets ≤ GREATEST_FRAME))
    → (A : List (Option (List ℕ))) (i : ℕ) (t : Taking) → IsTaken A i t → HasFrameSize t
taken_size sizes A i (gave (Given.frame octets)) is = sizes A i octets is
taken_size sizes A i (gave Given.part) is = tt
taken_size sizes A i (gave Given.verify) is = tt
taken_size sizes A i (gave Given.respond) is = tt
taken_size sizes A i (gave_nothing c) is = tt
