-- What a sender answers, by the calls so far.
use Rattle.std.specs.Prelude.{◌≡◌, ℕ, ◌+◌, ◌*◌, ◌≤◌, ◌&&◌, Bool, true, false, if◌then◌else◌, List, [], ◌∷◌, Option, Some, None, is_none, option_map}
use Rattle.pre_base.specs.declared.numbers.Tick.{Tick}
use Rattle.pre_base.specs.declared.numbers.FrameNo.{FrameNo}
use Rattle.pre_mpacket.specs.declared.packets.Kind.{Kind}
use Rattle.pre_send.specs.Calls.{Chosen, first, rest, Call, Told, End}
use Rattle.pre_send.specs.Sendings.{Sending, Part, interrupted, IsSending, IsFree}

-- the newest mPacket is under way
abbrev pub IsUnderWay : List Told → Type 0
IsUnderWay [] = ⊥
IsUnderWay (p ∷ older) = p.end ≡ None

-- the least tick from which on nothing occupies the arc; none where an mPacket is under way
abbrev pub IsFreeAt : ℕ → List Told → Option Tick → Type 0
IsFreeAt cost told None = IsUnderWay told
IsFreeAt cost told (Some t) = IsFree cost told t.0 × ((u : ℕ) → IsFree cost told u → t.0 ≤ u)

-- the end of the mPacket under way: its size and the 8 octets before its mData after its begin
abbrev pub PlannedEnd : ℕ → List Sending → Option Tick → Type 0
PlannedEnd cost [] None = Unit {0}
PlannedEnd cost [] (Some t) = ⊥
PlannedEnd cost (p ∷ older) None = (end : End) × (p.told.end ≡ Some end)
PlannedEnd cost (p ∷ older) (Some t) = (p.told.end ≡ None) × (t.0 ≡ p.told.began + cost * (8 + p.size))

abbrev pub EndsAt : ℕ → ℕ → List Call → Option Tick → Type 0
EndsAt cost add_frag calls t = (packets : List Sending) × IsSending cost add_frag calls packets × PlannedEnd cost packets t

abbrev pub is_part : Chosen → Bool
is_part (first f) = true
is_part rest = true
is_part _ = false

-- the frame that is interrupted: none while a fragment is under way
abbrev pub kept_part : List Sending → Option Part
kept_part [] = None
kept_part (p ∷ older) = if is_none p.told.end && is_part p.told.chosen then None else interrupted (p ∷ older)

abbrev pub IsInterrupted : ℕ → ℕ → List Call → Option (FrameNo × ℕ) → Type 0
IsInterrupted cost add_frag calls named =
    (packets : List Sending) × IsSending cost add_frag calls packets × (named ≡ option_map (λ part. (part.frame.frame, part.place)) (kept_part packets))

-- the mPacket under way: its kind, and the place of its mData in its frame
abbrev pub NewestIs : List Sending → Option (Kind × ℕ) → Type 0
NewestIs [] None = Unit {0}
NewestIs [] (Some k) = ⊥
NewestIs (p ∷ older) None = (end : End) × (p.told.end ≡ Some end)
NewestIs (p ∷ older) (Some k) = (p.told.end ≡ None) × (k.0 ≡ p.kind) × (k.1 ≡ p.from)

abbrev pub IsUnderWayAs : ℕ → ℕ → List Call → Option (Kind × ℕ) → Type 0
IsUnderWayAs cost add_frag calls k = (packets : List Sending) × IsSending cost add_frag calls packets × NewestIs packets k
