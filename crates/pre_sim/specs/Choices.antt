-- Which of the frames that wait goes first.
use Rattle.std.specs.Prelude.{ℕ, ◌<◌, ◌≤◌, ◌≡◌, [], ◌∷◌, List}
use Rattle.pre_rings.specs.declared.slots.FrameRef.{FrameRef}
use Rattle.pre_rings.specs.Ports.{Port, frames_at, with_frames}

-- No frame of a priority from the least one up to the greatest one waits.
abbrev pub NoneWaits : (least greatest : ℕ) → Port → Type 0
NoneWaits least greatest rings = (q : ℕ) → least ≤ q → q ≤ greatest → frames_at rings q ≡ []

-- The frame was the front one of the highest ring with a frame, from the least priority up to the greatest one, and left it.
pub record LeavesFirst (least greatest : ℕ) (old new : Port) (f : FrameRef) : Type 0 where
  pub prio : ℕ
  pub behind : List FrameRef
  pub front : frames_at old prio ≡ f ∷ behind
  pub left : new ≡ with_frames old prio behind
  pub from : least ≤ prio
  pub most : prio ≤ greatest
  pub above : (q : ℕ) → prio < q → q ≤ greatest → frames_at old q ≡ []
