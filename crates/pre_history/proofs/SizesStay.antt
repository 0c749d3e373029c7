-- Events after the end of an mPacket leave its size as it is, whatever size is asked for.
use Rattle.std.proofs.Common.{ℕ, suc, ◌≡◌, ◌+◌, ◌*◌, ◌<◌, ◌≤◌, ◌++◌, length, sym, ◌∙◌, ap, arith}
use Rattle.std.specs.Prelude.{◌↔◌}
use Rattle.std.proofs.Math.Nat.{mul-le-mul_left, mul-le-mul_right}
use Rattle.pre_mpacket.specs.declared.packets.Kind.{Kind}
use Rattle.pre_mpacket.specs.declared.packets.Kind.TheVariants as kind
use Rattle.pre_mpacket.specs.Pieces.{CutRule}
use Rattle.pre_history.specs.Scenario.{Scenario, arc}
use Rattle.pre_history.specs.History.{History, Begin}
use Rattle.pre_history.specs.Octets.{WholeOf}
use Rattle.pre_history.specs.Starts.{ExpressWaits, begun, SizeOf}
use Rattle.pre_history.proofs.IsLater.{AllLater}
use Rattle.pre_history.proofs.Later.{waiting_later}
use Rattle.pre_history.proofs.Stays.{cut_like, waits_like, whole_later, size_later}
use Rattle.pre_history.specs.Placed.{AllWithin, moment_of}
use Rattle.pre_history.specs.Moments.{Phase, moments}
use Rattle.pre_history.proofs.Steady.{costs}
use Rattle.pre_history.proofs.Places.{all_later_from}

pub size_stays : (w : Scenario) (h es : History) (k : Kind) (b : Begin) (size : ℕ) → 1 ≤ (arc w b.arc).cost
    → ((t : ℕ) → t < b.tick + (arc w b.arc).cost * (size + 8) → AllLater t es) → SizeOf w (h ++ es) k b size ↔ SizeOf w h k b size
size_stays w h es k b size some later = (go k, size_later w h es k b size some later)
  where
    reach : (arc w b.arc).cost * 8 ≤ (arc w b.arc).cost * (size + 8)
    reach = mul-le-mul_left (arc w b.arc).cost (omega arith)

    whole : WholeOf w (h ++ es) b ≡ WholeOf w h b
    whole = whole_later w h es b (later (suc b.tick) (omega (arith, reach, some)))

    cut : CutRule (ExpressWaits w (h ++ es) b.arc) (begun w h b) size → CutRule (ExpressWaits w h b.arc) (begun w h b) size
    cut rule =
        cut_like (ExpressWaits w (h ++ es) b.arc) (ExpressWaits w h b.arc) (begun w h b) size some
        (λ t lt. waits_like w (h ++ es) h b.arc t (λ p. waiting_later h es b.arc p t (later t lt)))
        (λ t lt. waits_like w h (h ++ es) b.arc t (λ p. sym (waiting_later h es b.arc p t (later t lt)))) rule

    go : (k : Kind) → SizeOf w (h ++ es) k b size → SizeOf w h k b size
    go (kind.Start c) rule = cut rule
    go (kind.Continue c n) rule = cut rule
    go kind.Express is = is ∙ ap length whole
    go kind.Verify is = is ∙ ap length whole
    go kind.Respond is = is ∙ ap length whole

-- events from the tick of its end on
pub size_stays_to : (w : Scenario) (n : ℕ) (h es : History) (k : Kind) (b : Begin) (size : ℕ) → b.arc < length w.net.arcs
    → AllWithin (length w.net.arcs) (moment_of w (b.tick + (arc w b.arc).cost * (size + 8)) Phase.sets) n es → SizeOf w (h ++ es) k b size ↔ SizeOf w h k b size
size_stays_to w n h es k b size known within = size_stays w h es k b size (costs w b.arc known) later
  where
    over : ℕ
    over = b.tick + (arc w b.arc).cost * (size + 8)

    later : (t : ℕ) → t < over → AllLater t es
    later t lt =
        let reach : (t + 1) * moments (length w.net.arcs) ≤ over * moments (length w.net.arcs) = mul-le-mul_right (moments (length w.net.arcs)) (let le : t + 1 ≤ over = omega (arith, lt) in le) in
        let next : (t + 1) * moments (length w.net.arcs) ≡ t * moments (length w.net.arcs) + moments (length w.net.arcs) = omega arith in
        all_later_from (length w.net.arcs) t (moment_of w over Phase.sets) n es (omega (arith, reach, next)) within
