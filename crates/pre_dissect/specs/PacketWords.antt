-- The words that tell of an arrival: the kind and the size of the mPacket, and what it gave.
use Rattle.std.specs.Prelude.{ℕ, ◌+◌, List, [], ◌∷◌, length, codes, Option, Some, None}
use Rattle.std.specs.Fmt.{decimal}
use Rattle.pre_text.specs.Writing.{hex}
use Rattle.pre_mpacket.specs.Spelling.{PlainPacket}
use Rattle.pre_mpacket.specs.Arrivals.{Given}
use Rattle.pre_receive.specs.declared.taken.Cause.{Cause}
use Rattle.pre_receive.specs.declared.taken.Cause.TheVariants as cause
use Rattle.pre_receive.specs.Takings.{Taking, gave, gave_nothing}
use Rattle.pre_trace.specs.Text.{kind_word}

abbrev pub cause_word : Cause → List ℕ
cause_word cause.Smd = codes "smd"
cause_word cause.Fragment = codes "fragment"
cause_word cause.Size = codes "size"
cause_word cause.NoFrame = codes "noframe"
cause_word cause.Count = codes "count"
cause_word cause.Check = codes "check"

-- the word for what an arrival gives
abbrev pub result_word : Taking → List ℕ
result_word (gave (Given.frame octets)) = codes "frame"
result_word (gave Given.part) = codes "part"
result_word (gave Given.verify) = codes "verify"
result_word (gave Given.respond) = codes "respond"
result_word (gave_nothing c) = codes "nothing"

-- and those behind it: the octets of a frame, or the cause why it is nothing
abbrev pub detail_words : Taking → List (List ℕ)
detail_words (gave (Given.frame octets)) = hex octets ∷ []
detail_words (gave Given.part) = []
detail_words (gave Given.verify) = []
detail_words (gave Given.respond) = []
detail_words (gave_nothing c) = cause_word c ∷ []

-- the kind and the size, check included, or - for each
abbrev pub packet_words : Option PlainPacket → List (List ℕ)
packet_words None = codes "-" ∷ codes "-" ∷ []
packet_words (Some m) = kind_word m.kind ∷ decimal (length m.mdata + length m.check) ∷ []
