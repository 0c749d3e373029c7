-- For which calls so far a sender stands.
use Rattle.std.specs.Prelude.{◌≡◌, ◌⊎◌, ℕ, ◌+◌, ◌*◌, ◌%◌, ◌<◌, ◌≤◌, Bool, true, false, List, [], ◌∷◌}
use Rattle.std.specs.Prelude.{map, Option, Some, None, nat_le, is_some, option_map, IsSome, ◌↔◌}
use Rattle.pre_base.specs.declared.numbers.Tick.{Tick}
use Rattle.pre_base.specs.declared.limits.TheConstants.{LEAST_FRAME, GREATEST_FRAME, GAP}
use Rattle.pre_crc.specs.Register as register
use Rattle.pre_rings.specs.declared.slots.FrameRef.{FrameRef}
use Rattle.pre_send.specs.declared.choices.Choice.{Choice}
use Rattle.pre_send.specs.declared.choices.Choice.TheVariants as choice
use Rattle.pre_send.specs.declared.pieces.Piece.{Piece}
use Rattle.pre_send.specs.declared.going.Task.{Task}
use Rattle.pre_send.specs.declared.going.Task.TheVariants as task
use Rattle.pre_send.specs.declared.going.Going.{Going}
use Rattle.pre_send.specs.declared.senders.Sender.{Sender}
use Rattle.pre_send.specs.Calls.{Chosen, express, whole, first, rest, verify, respond, lldp, Call, End}
use Rattle.pre_send.specs.Plans.{piece_kind, piece_size}
use Rattle.pre_mpacket.specs.declared.packets.Kind.{Kind}
use Rattle.pre_send.specs.Tasks.{task_kind}
use Rattle.pre_send.specs.Endings.{plans_end}
use Rattle.pre_send.specs.Sendings.{Sending, Part, firsts, interrupted, IsSending, IsFree}

-- a choice as a plain value
abbrev pub chosen : Choice → Chosen
chosen (choice.Express f) = express f
chosen (choice.Whole f) = whole f
chosen (choice.First f) = first f
chosen choice.Rest = rest
chosen choice.Verify = verify
chosen choice.Respond = respond
chosen choice.Lldp = lldp

-- it is what is left of a frame, when so many began as first fragments
pub record IsLeft (x : Piece) (part : Part) (began : ℕ) : Type 0 where
  pub frame : x.frame ≡ part.frame
  pub from : x.from ≡ part.place
  pub count : x.frame_count ≡ (began + 3) % 4
  pub fragment : x.fragment ≡ part.continuations % 4
  pub check : register.Stands x.check part.so_far
  pub some : 0 < x.from

-- the frame that is kept is the interrupted one
abbrev pub Keeps : Option Piece → Option Part → ℕ → Type 0
Keeps None None began = Unit {0}
Keeps (Some x) (Some part) began = IsLeft x part began × (x.cut ≡ None)
Keeps _ _ began = ⊥

-- what is done is the newest mPacket, after the older ones
abbrev pub Does : Task → Option Piece → Sending → List Sending → Type 0
Does (task.Frame f) kept p older = ((p.told.chosen ≡ express f) ⊎ (p.told.chosen ≡ whole f)) × Keeps kept (interrupted older) (firsts older)
Does task.Verify kept p older = (p.told.chosen ≡ verify) × Keeps kept (interrupted older) (firsts older)
Does task.Respond kept p older = (p.told.chosen ≡ respond) × Keeps kept (interrupted older) (firsts older)
Does task.Lldp kept p older = (p.told.chosen ≡ lldp) × Keeps kept (interrupted older) (firsts older)
Does (task.Fragment x) kept p older =
    (kept ≡ None) × (p.from ≡ x.from) × (p.kind ≡ piece_kind x) × (p.size ≡ piece_size x)
    × (((p.told.chosen ≡ first x.frame) × (x.frame_count ≡ firsts older % 4) × register.Stands x.check [])
    ⊎ (p.told.chosen ≡ rest) × ((part : Part) × (interrupted older ≡ Some part) × IsLeft x part (firsts older)))

-- where it is, by what is under way and when the last one ended
abbrev pub IsAt : ℕ → Option Going → Option Piece → Option ℕ → List Sending → Type 0
IsAt cost None kept last [] = (kept ≡ None) × (last ≡ None)
IsAt cost None kept last (p ∷ older) =
    (end : End) × (p.told.end ≡ Some end) × (last ≡ Some end.tick) × Keeps kept (interrupted (p ∷ older)) (firsts (p ∷ older))
    × IsFree cost (map (λ q. q.told) older) p.told.began × (p.told.began ≤ end.tick)
IsAt cost (Some g) kept last [] = ⊥
IsAt cost (Some g) kept last (p ∷ older) =
    (p.told.end ≡ None) × (g.began ≡ p.told.began) × (g.waits ≡ p.told.waits) × Does g.task kept p older × IsFree cost (map (λ q. q.told) older) p.told.began

pub record Stands (s : Sender) (cost add_frag : ℕ) (calls : List Call) : Type 0 where
  pub packets : List Sending
  pub sending : IsSending cost add_frag calls packets
  pub cost_is : s.cost ≡ cost
  pub add_frag_is : s.add_frag ≡ add_frag
  pub count : s.frame_count ≡ firsts packets % 4
  pub place : IsAt cost s.going s.kept s.last packets

-- ---- what its own fields tell

abbrev pub is_gone : ℕ → Option ℕ → ℕ → Bool
is_gone cost None t = true
is_gone cost (Some e) t = nat_le (e + GAP * cost) t

abbrev pub is_free_with : Option Going → ℕ → Option ℕ → ℕ → Bool
is_free_with None cost last t = is_gone cost last t
is_free_with (Some g) cost last t = false

unfoldable pub is_free : Sender → ℕ → Bool
is_free s t = is_free_with s.going s.cost s.last t

-- it is free from this tick on, and not before; none is named where an mPacket is under way
abbrev pub IsFreeFrom : Sender → Option Tick → Type 0
IsFreeFrom s None = IsSome (plans_end s)
IsFreeFrom s (Some t) = (u : ℕ) → (is_free s u ≡ true) ↔ (t.0 ≤ u)

unfoldable pub is_interrupted : Sender → Bool
is_interrupted s = is_some s.kept

-- the kind of what is under way, and the place of its mData in its frame
unfoldable pub kind_under_way : Sender → Option (Kind × ℕ)
kind_under_way s = option_map (λ g. task_kind g.task) s.going

-- a choice that may be made
abbrev pub HasSize : FrameRef → Type 0
HasSize f = (LEAST_FRAME ≤ f.size) × (f.size ≤ GREATEST_FRAME)

abbrev pub MayBegin : Sender → Choice → Type 0
MayBegin s (choice.Express f) = HasSize f
MayBegin s (choice.Whole f) = HasSize f
MayBegin s (choice.First f) = HasSize f × (is_interrupted s ≡ false)
MayBegin s choice.Rest = is_interrupted s ≡ true
MayBegin s _ = Unit {0}

-- ---- what the parts of a begin leave

-- the other fields stay
abbrev pub Same : Sender → Sender → Type 0
Same old new = (new.cost ≡ old.cost) × (new.add_frag ≡ old.add_frag) × (new.going ≡ old.going) × (new.last ≡ old.last)

abbrev pub Firsts : Sender → Sender → FrameRef → Task → Type 0
Firsts old new f (task.Fragment x) =
    Same old new × (new.kept ≡ old.kept) × (new.frame_count ≡ (old.frame_count + 1) % 4)
    × (x.frame ≡ f) × (x.from ≡ 0) × (x.frame_count ≡ old.frame_count) × (x.cut ≡ None) × register.Stands x.check []
Firsts old new f _ = ⊥

abbrev pub Rests : Sender → Sender → Task → Type 0
Rests old new (task.Fragment x) = Same old new × (new.kept ≡ None) × (new.frame_count ≡ old.frame_count) × (old.kept ≡ Some x)
Rests old new _ = ⊥

abbrev pub Alike : Sender → Sender → Type 0
Alike old new = Same old new × (new.kept ≡ old.kept) × (new.frame_count ≡ old.frame_count)

abbrev pub Chooses : Choice → Sender → Sender → Task → Type 0
Chooses (choice.Express f) old new t = Alike old new × (t ≡ task.Frame f)
Chooses (choice.Whole f) old new t = Alike old new × (t ≡ task.Frame f)
Chooses (choice.First f) old new t = Firsts old new f t × (old.kept ≡ None)
Chooses choice.Rest old new t = Rests old new t
Chooses choice.Verify old new t = Alike old new × (t ≡ task.Verify)
Chooses choice.Respond old new t = Alike old new × (t ≡ task.Respond)
Chooses choice.Lldp old new t = Alike old new × (t ≡ task.Lldp)
