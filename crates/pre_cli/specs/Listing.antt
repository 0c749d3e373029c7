-- The listing of a file of mPackets: a line for each, with what it gives to one receiver.
use Rattle.std.specs.Prelude.{◌≡◌, ℕ, suc, ◌+◌, List, [], ◌∷◌, ◌++◌, length, map, take, codes, Option, Some, None, Result, Ok, Err}
use Rattle.std.specs.Fmt.{decimal}
use Rattle.pre_base.specs.Sinks.{Taken, TakesBut}
use Rattle.pre_text.specs.Writing.{hex, line_of}
use Rattle.pre_mpacket.specs.Spelling.{PlainPacket, mpacket_of}
use Rattle.pre_mpacket.specs.Arrivals.{Given}
use Rattle.pre_receive.specs.declared.taken.Cause.{Cause}
use Rattle.pre_receive.specs.declared.taken.Cause.TheVariants as cause
use Rattle.pre_receive.specs.Takings.{Taking, gave, gave_nothing, IsTaken}
use Rattle.pre_trace.specs.Text.{kind_word}
use Rattle.pre_cli.specs.PacketFiles.{arrivals_of}

abbrev pub cause_word : Cause → List ℕ
cause_word cause.Smd = codes "smd"
cause_word cause.Fragment = codes "fragment"
cause_word cause.Size = codes "size"
cause_word cause.NoFrame = codes "noframe"
cause_word cause.Count = codes "count"
cause_word cause.Check = codes "check"

abbrev pub taking_words : Taking → List (List ℕ)
taking_words (gave (Given.frame octets)) = codes "frame" ∷ hex octets ∷ []
taking_words (gave Given.part) = codes "part" ∷ []
taking_words (gave Given.verify) = codes "verify" ∷ []
taking_words (gave Given.respond) = codes "respond" ∷ []
taking_words (gave_nothing c) = codes "nothing" ∷ cause_word c ∷ []

-- the kind and the size, check included, or - for each
abbrev pub packet_words : Option PlainPacket → List (List ℕ)
packet_words None = codes "-" ∷ codes "-" ∷ []
packet_words (Some m) = kind_word m.kind ∷ decimal (length m.mdata + length m.check) ∷ []

-- the line of the arrival at this place, and what it gives
abbrev pub packet_line : ℕ → List ℕ → Taking → List ℕ
packet_line place octets taking = line_of (decimal place) (packet_words (mpacket_of octets) ++ taking_words taking)

-- these are what arrival i and those behind it give
abbrev pub AreTaken : List (Option (List ℕ)) → ℕ → List Taking → Type 0
AreTaken A i [] = i ≡ length A
AreTaken A i (taking ∷ takings) = IsTaken A i taking × AreTaken A (suc i) takings

abbrev pub lines_from : ℕ → List (List ℕ) → List Taking → List ℕ
lines_from i (octets ∷ arrivals) (taking ∷ takings) = packet_line i octets taking ++ lines_from (suc i) arrivals takings
lines_from i _ _ = []

-- each arrival came
abbrev pub come : List (List ℕ) → List (Option (List ℕ))
come arrivals = map (λ octets. Some octets) arrivals

-- the text has a line for each of these arrivals, with what it gives after those before it
abbrev pub IsListing : List (List ℕ) → List ℕ → Type 0
IsListing arrivals text = (takings : List Taking) × AreTaken (come arrivals) 0 takings × (text ≡ lines_from 0 arrivals takings)

-- the listing of these arrivals was taken
abbrev pub TakesList : List (List ℕ) → Taken → Taken → Type 0
TakesList arrivals old new = (text : List ℕ) × IsListing arrivals text × (new.octets ≡ old.octets ++ text)

-- a front of the listing of the first so many
abbrev pub TakesListFront : List (List ℕ) → Taken → Taken → Type 0
TakesListFront arrivals old new = (count : ℕ) × (text rest : List ℕ) × IsListing (take count arrivals) text × TakesBut rest text old new

abbrev pub TakesListAll : {T E : Type 0} → Result T E → List (List ℕ) → Taken → Taken → Type 0
TakesListAll (Ok x) arrivals = TakesList arrivals
TakesListAll (Err e) arrivals = TakesListFront arrivals

-- the same of the arrivals of a file
abbrev pub TakesListing : List ℕ → Taken → Taken → Type 0
TakesListing octets old new = (arrivals : List (List ℕ)) × (arrivals_of octets ≡ Ok arrivals) × TakesList arrivals old new

abbrev pub TakesListingFront : List ℕ → Taken → Taken → Type 0
TakesListingFront octets old new = (arrivals : List (List ℕ)) × (arrivals_of octets ≡ Ok arrivals) × TakesListFront arrivals old new
