-- An express frame that waits begins where the arc is free, and an mPacket whose size is over has ended.
use Rattle.std.proofs.Common.{ℕ, inl, inr, ◌≡◌, ◌≢◌, ◌+◌, ◌*◌, ◌<◌, ◌≤◌, length, [], Some}
use Rattle.std.specs.Prelude.{slice_get}
use Rattle.std.proofs.lemmas.Bool.{cases_lt}
use Rattle.pre_mpacket.specs.declared.packets.Kind.TheVariants as kind
use Rattle.pre_history.specs.Scenario.{Scenario, arc}
use Rattle.pre_history.specs.History.{Begin, History}
use Rattle.pre_history.specs.Placed.{number}
use Rattle.pre_history.specs.Queries.{Begins, Ends, Waiting, Occupied}
use Rattle.pre_history.specs.Starts.{IsFront, SizeOf, whole_frame}
use Rattle.pre_history.specs.Legal.{LegalUpTo}
use Rattle.pre_history.proofs.Lists.{found_at, within}
use Rattle.pre_history.proofs.EndsRead.{ends_read}
use Rattle.pre_history.proofs.Waits.{express_begins as front_begins}

-- on an arc that isn't occupied where an express frame waits, the front of the highest priority begins
pub express_starts : (w : Scenario) (n : ℕ) (h : History) (a x q : ℕ) → a < length w.net.arcs → LegalUpTo w n h → number (length w.net.arcs) x (2 + 3 * length w.net.arcs + a) < n
    → ¬ Occupied w h a x → (arc w a).express_from ≤ q → q < 8 → Waiting h a q x ≢ []
    → (f : ℕ) × IsFront w h a x (arc w a).express_from 8 f × ((i : ℕ) × (b : Begin) × (slice_get (Begins h a) i ≡ Some b) × (b.tick ≡ x) × (b.kind ≡ kind.Express) × (b.what ≡ (whole_frame f kind.Express).what) × (b.from ≡ 0))
express_starts w n h a x q lt legal over free from below some =
    let o = front_begins w n h a x lt legal over (q, from, below, some) free in
    (o.0, o.1, (o.2.0, o.2.1, found_at (Begins h a) o.2.0 o.2.1 o.2.2 o.2.3, o.2.4.0, o.2.4.1, o.2.4.2, o.2.4.3))

-- its priority is at least that of each frame that waits
pub front_high : (w : Scenario) (h : History) (a t low q f : ℕ) → q < 8 → Waiting h a q t ≢ [] → (front : IsFront w h a t low 8 f) → q ≤ front.0
front_high w h a t low q f below some front =
    elim (cases_lt front.0 q) [
      | inl less ↦ absurd (some (front.4 q less below))
      | inr more ↦ more
    ]

-- an mPacket whose size is over has ended
pub has_ended : (w : Scenario) (n : ℕ) (h : History) (a i size : ℕ) (b : Begin) → a < length w.net.arcs → LegalUpTo w n h → slice_get (Begins h a) i ≡ Some b
    → SizeOf w h b.kind b size → number (length w.net.arcs) (b.tick + (arc w a).cost * (size + 8)) (1 + a) < n → i < length (Ends h a)
has_ended w n h a i size b lt legal at sized over =
    let e = (ends_read w n h a lt legal i b at size over).1 sized in
    within (Ends h a) i e.0 e.1
