-- The counters of a receiver.
use Rattle.std.specs.Prelude.{◌≡◌, ℕ, ◌+◌, ◌-◌, ◌^◌, min, ◌&&◌, ◌||◌, not, Bool, true, false, List, length, Option, Some, None}
use Rattle.pre_mpacket.specs.declared.packets.Kind.{Kind}
use Rattle.pre_mpacket.specs.declared.packets.Kind.TheVariants as kind
use Rattle.pre_mpacket.specs.Counters.{CountersOf}
use Rattle.pre_receive.specs.declared.counters.Counters.{Counters}
use Rattle.pre_receive.specs.declared.outcomes.Outcome.{Outcome}
use Rattle.pre_receive.specs.declared.outcomes.Outcome.TheVariants as outcome

-- the last value of a counter, at which it stays
abbrev pub last_count : ℕ
last_count = 2 ^ 64 - 1

-- Each counter is the count of these arrivals that raise it, up to its last value.
abbrev pub Count : List (Option (List ℕ)) → Counters → Type 0
Count A counters =
    (a b c d : ℕ) × CountersOf A (length A) a b c d
    × (counters.frame_ass_error ≡ min a last_count) × (counters.frame_smd_error ≡ min b last_count)
    × (counters.frame_ass_ok ≡ min c last_count) × (counters.frag_count_rx ≡ min d last_count)

-- ---- how an arrival raises them, by the kind of mPacket that it spells, if any, by whether a frame was open, and by its outcome

abbrev pub is_frame : Outcome → Bool
is_frame outcome.Express = true
is_frame outcome.Joined = true
is_frame _ = false

abbrev pub is_nothing : Outcome → Bool
is_nothing (outcome.Nothing c) = true
is_nothing _ = false

abbrev pub is_ass_error : Option Kind → Bool → Outcome → Bool
is_ass_error (Some (kind.Start c)) was_open o = was_open || is_nothing o
is_ass_error (Some (kind.Continue c n)) was_open o = was_open && is_nothing o
is_ass_error _ was_open o = false

abbrev pub is_smd_error : Option Kind → Bool → Bool
is_smd_error None was_open = true
is_smd_error (Some (kind.Continue c n)) was_open = not was_open
is_smd_error _ was_open = false

abbrev pub is_ass_ok : Option Kind → Outcome → Bool
is_ass_ok (Some (kind.Start c)) o = is_frame o
is_ass_ok (Some (kind.Continue c n)) o = is_frame o
is_ass_ok _ o = false

abbrev pub is_frag_rx : Option Kind → Outcome → Bool
is_frag_rx (Some (kind.Continue c n)) o = not (is_nothing o)
is_frag_rx _ o = false

abbrev pub raised : ℕ → Bool → ℕ
raised count true = min (count + 1) last_count
raised count false = count

pub record Raises (k : Option Kind) (was_open : Bool) (o : Outcome) (old new : Counters) : Type 0 where
  pub ass_error : new.frame_ass_error ≡ raised old.frame_ass_error (is_ass_error k was_open o)
  pub smd_error : new.frame_smd_error ≡ raised old.frame_smd_error (is_smd_error k was_open)
  pub ass_ok : new.frame_ass_ok ≡ raised old.frame_ass_ok (is_ass_ok k o)
  pub frag_rx : new.frag_count_rx ≡ raised old.frag_count_rx (is_frag_rx k o)
