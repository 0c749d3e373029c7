-- What the fields of a sender plan.
use Rattle.std.specs.Prelude.{◌≡◌, ℕ, ◌+◌, ◌-◌, ◌==◌, if◌then◌else◌, Option, Some, None}
use Rattle.pre_mpacket.specs.declared.packets.Kind.{Kind}
use Rattle.pre_mpacket.specs.declared.packets.Kind.TheVariants as kind
use Rattle.pre_send.specs.declared.pieces.Piece.{Piece}
use Rattle.pre_send.specs.Cuts.{IsFirstCut}

abbrev pub piece_kind : Piece → Kind
piece_kind x = if x.from == 0 then kind.Start x.frame_count else kind.Continue x.frame_count x.fragment

abbrev pub size_planned : ℕ → Option ℕ → ℕ
size_planned unsent None = unsent
size_planned unsent (Some d) = d + 4

abbrev pub piece_size : Piece → ℕ
piece_size x = size_planned (x.frame.size - x.from) x.cut

-- the same frame and place, with its cut by an express frame that waits from a tick on
abbrev pub PieceTold : Piece → Piece → ℕ → ℕ → ℕ → ℕ → Type 0
PieceTold old new began waits cost add_frag =
    (new.frame ≡ old.frame) × (new.from ≡ old.from) × (new.frame_count ≡ old.frame_count) × (new.fragment ≡ old.fragment) × (new.check ≡ old.check)
    × IsFirstCut began waits cost add_frag (old.frame.size - old.from) new.cut
