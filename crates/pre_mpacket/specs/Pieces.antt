-- The pieces that carry a frame, and where a fragment is cut (IEEE 802.3, 99.4).
use Rattle.std.specs.Prelude.{◌≡◌, ◌⊎◌, ℕ, ◌+◌, ◌-◌, ◌*◌, ◌%◌, ◌≤◌, List, [], ◌∷◌, ◌++◌, length, flat_map}
use Rattle.pre_base.specs.declared.limits.TheConstants.{LEAST_FRAME, CHECK, HEAD}
use Rattle.pre_crc.specs.Checks.{Mcrc}
use Rattle.pre_mpacket.specs.declared.packets.Kind.TheVariants as kind
use Rattle.pre_mpacket.specs.Spelling.{PlainPacket, Spells}

-- the mData of these, joined
abbrev pub joined : List PlainPacket → List ℕ
joined ms = flat_map (λ m. m.mdata) ms

-- the check of the last one
abbrev pub last_check : List PlainPacket → List ℕ
last_check [] = []
last_check (m ∷ []) = m.check
last_check (m ∷ n ∷ ms) = last_check (n ∷ ms)

-- continuations of this frame count, with fragment counts in order from n on
abbrev pub IsContinued : ℕ → ℕ → List PlainPacket → Type 0
IsContinued c n [] = Unit {0}
IsContinued c n (m ∷ ms) = (m.kind ≡ kind.Continue c (n % 4)) × IsContinued c (n + 1) ms

-- a start and its continuations, of this frame count
abbrev pub IsSequenceOf : ℕ → List PlainPacket → Type 0
IsSequenceOf c [] = ⊥
IsSequenceOf c (m ∷ ms) = (m.kind ≡ kind.Start c) × IsContinued c 0 ms

abbrev pub IsSequence : List PlainPacket → Type 0
IsSequence ms = (c : ℕ) × IsSequenceOf c ms

-- Each but the last has as check the Mcrc of all mData up to its end; `before` is the data of those before.
abbrev pub IsChecked : List ℕ → List PlainPacket → Type 0
IsChecked before [] = Unit {0}
IsChecked before (m ∷ []) = Unit {0}
IsChecked before (m ∷ n ∷ ms) = (m.check ≡ Mcrc (before ++ m.mdata)) × IsChecked (before ++ m.mdata) (n ∷ ms)

-- the least octets of mData that are sent before a cut, by the link's additional fragment size of 0 to 3
abbrev pub least_fragment : ℕ → ℕ
least_fragment add_frag = LEAST_FRAME * (1 + add_frag) - CHECK

-- Each but the last has the least mData at least, and a last one after others as many octets as a frame, check included.
abbrev pub HasSizes : ℕ → List PlainPacket → Type 0
HasSizes add_frag [] = Unit {0}
HasSizes add_frag (m ∷ []) = Unit {0}
HasSizes add_frag (m ∷ n ∷ []) = (least_fragment add_frag ≤ length m.mdata) × (LEAST_FRAME ≤ length n.mdata + length n.check)
HasSizes add_frag (m ∷ n ∷ o ∷ ms) = (least_fragment add_frag ≤ length m.mdata) × HasSizes add_frag (n ∷ o ∷ ms)

-- The parts, of which there is one or more, carry the frame.
pub record Carries (frame : List ℕ) (add_frag : ℕ) (parts : List PlainPacket) : Type 0 where
  pub sequence : IsSequence parts
  pub whole : joined parts ++ last_check parts ≡ frame
  pub checked : IsChecked [] parts
  pub sizes : HasSizes add_frag parts

-- Each mPacket is spelled by the octets at its place.
abbrev pub SpellEach : List PlainPacket → List (List ℕ) → Type 0
SpellEach [] [] = Unit {0}
SpellEach (m ∷ ms) (octets ∷ pieces) = Spells m octets × SpellEach ms pieces
SpellEach _ _ = ⊥

-- ---- where a fragment is cut

-- a fragment that begins: its tick, the ticks of an octet, the link's additional fragment size, and how
-- many octets of its frame are unsent, check included
pub record Begun : Type 0 where
  pub tick : ℕ
  pub octet_ticks : ℕ
  pub add_frag : ℕ
  pub unsent : ℕ

-- where an express frame waits at these ticks
module _ (Waits : ℕ → Type 0) (b : Begun) where
  -- The fragment may be cut after d octets of mData.
  abbrev pub IsBoundary : ℕ → Type 0
  IsBoundary d = (least_fragment b.add_frag ≤ d) × (LEAST_FRAME ≤ b.unsent - d) × Waits (b.tick + b.octet_ticks * (HEAD + d))

  -- The fragment is cut at its first boundary, and where there is none it is the last one of its frame.
  abbrev pub CutRule : ℕ → Type 0
  CutRule size =
      ((d : ℕ) × IsBoundary d × ((e : ℕ) → IsBoundary e → d ≤ e) × (size ≡ d + CHECK))
      ⊎ ((d : ℕ) → ¬ IsBoundary d) × (size ≡ b.unsent)
