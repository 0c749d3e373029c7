-- What a receiver answers to an arrival.
use Rattle.std.specs.Prelude.{◌≡◌, ℕ, ◌≤◌, List, ◌++◌, Option, length}
use Rattle.pre_crc.specs.Checks.{Fcs}
use Rattle.pre_base.specs.declared.limits.TheConstants.{LEAST_FRAME, GREATEST_FRAME}
use Rattle.pre_mpacket.specs.Arrivals.{Given, Gives, GivesNothing}
use Rattle.pre_receive.specs.declared.taken.Cause.{Cause}
use Rattle.pre_receive.specs.declared.taken.Taken.{Taken}
use Rattle.pre_receive.specs.declared.taken.Taken.TheVariants as taken
use Rattle.pre_receive.specs.Causes.{IsCause}

-- an answer as a plain value
pub data Taking : Type 0 where
  gave : Given → Taking
  gave_nothing : Cause → Taking

abbrev pub plain : Taken → Taking
plain (taken.Frame octets) = gave (Given.frame octets.now)
plain taken.Verify = gave Given.verify
plain taken.Respond = gave Given.respond
plain taken.Part = gave Given.part
plain (taken.Nothing c) = gave_nothing c

-- It is what arrival i gives, and where that is nothing the cause of its first reason.
abbrev pub IsTaken : List (Option (List ℕ)) → ℕ → Taking → Type 0
IsTaken A i (gave g) = Gives A i g
IsTaken A i (gave_nothing c) = GivesNothing A i × IsCause A i c

-- where it is a frame, that has the size of one
abbrev pub HasFrameSize : Taking → Type 0
HasFrameSize (gave (Given.frame octets)) = (LEAST_FRAME ≤ length octets) × (length octets ≤ GREATEST_FRAME)
HasFrameSize (gave Given.part) = Unit {0}
HasFrameSize (gave Given.verify) = Unit {0}
HasFrameSize (gave Given.respond) = Unit {0}
HasFrameSize (gave_nothing c) = Unit {0}

-- the last octets are the check of those before them
abbrev pub EndsWithCheck : List ℕ → Type 0
EndsWithCheck octets = (unchecked : List ℕ) × (octets ≡ unchecked ++ Fcs unchecked)

-- where it is a frame, that ends with its check
abbrev pub HasCheck : Taking → Type 0
HasCheck (gave (Given.frame octets)) = EndsWithCheck octets
HasCheck (gave Given.part) = Unit {0}
HasCheck (gave Given.verify) = Unit {0}
HasCheck (gave Given.respond) = Unit {0}
HasCheck (gave_nothing c) = Unit {0}
