-- The octets of a send's frame, in a slot.
use Rattle.std.proofs.Common.{ℕ, ◌≡◌, ◌<◌, ◌≤◌, List, ◌++◌, length, drop, take, sym, ◌∙◌, ap, arith, Some, None}
use Rattle.std.specs.Prelude.{slice_get}
use Rattle.std.proofs.lemmas.List.{take_at}
use Rattle.pre_streams.specs.declared.rows.Row.{Row}
use Rattle.pre_history.specs.Scenario.{Scenario, row, send, FrameOf}
use Rattle.pre_history.proofs.Undamaged.{length-FrameOf}
use Rattle.pre_sim.specs.Keeps.{Store, IsFrameOf}
use Rattle.pre_sim.specs.Arriving.{IsStored}
use Rattle.pre_sim.proofs.Lists.{set_here}

-- they are all that is taken of what they were put into
pub octets_taken : (v w : Scenario) → v ≡ w → (k size : ℕ) (into all : List ℕ) → size ≡ (send v k).send.size → 64 ≤ size → all ≡ FrameOf v k ++ drop size into → take size all ≡ FrameOf w k
octets_taken v w same k size into all is long put =
    let its_length : length (FrameOf v k) ≡ size = length-FrameOf v k (omega (arith, is, long)) ∙ sym is in
    ap (take size) put ∙ (take_at (FrameOf v k) (drop size into) size its_length ∙ ap (λ (x : Scenario). FrameOf x k) same)

-- in a slot, they are the frame of the send
pub frame_is : (w : Scenario) (k size slot : ℕ) (r : Row) (store store' : Store) → k < length w.script.sends → r ≡ row w k → size ≡ (send w k).send.size → 64 ≤ size
    → IsStored store (FrameOf w k) slot store'
    → IsFrameOf w store' (record { slot = slot; frame = record { 0 = k }; size = size; prio = r.prio; vid = r.vid })
frame_is w k size slot r store store' known is its_size long stored = record {
  known = known;
  prio = ap (λ (x : Row). x.prio) is;
  vid = ap (λ (x : Row). x.vid) is;
  size = its_size;
  long = long;
  held = ap (λ (s : Store). slice_get s slot) stored.1 ∙ set_here store slot None (Some (FrameOf w k)) stored.0;
}
