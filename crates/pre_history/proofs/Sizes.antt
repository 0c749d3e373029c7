-- The size and the end of an mPacket are decided.
use Rattle.std.proofs.Common.{ℕ, ◌≡◌, sym, ◌∙◌, ap}
use Rattle.pre_mpacket.specs.declared.packets.Kind.{Kind}
use Rattle.pre_mpacket.specs.declared.packets.Kind.TheVariants as kind
use Rattle.pre_mpacket.proofs.CutSizes.{cut_one}
use Rattle.pre_history.specs.Scenario.{Scenario}
use Rattle.pre_history.specs.History.{PlainEvent, History, Begin}
use Rattle.pre_history.specs.Starts.{ExpressWaits, begun, SizeOf}
use Rattle.pre_history.specs.Rules.{EndDue, CheckOf}
use Rattle.pre_history.proofs.Deciding.{IsOne}

pub size_one : (w : Scenario) (h : History) (k : Kind) (b : Begin) → IsOne (SizeOf w h k b)
size_one w h (kind.Start c) b m n p q = cut_one (ExpressWaits w h b.arc) (begun w h b) m n p q
size_one w h (kind.Continue c i) b m n p q = cut_one (ExpressWaits w h b.arc) (begun w h b) m n p q
size_one w h kind.Express b m n p q = p ∙ sym q
size_one w h kind.Verify b m n p q = p ∙ sym q
size_one w h kind.Respond b m n p q = p ∙ sym q

pub end_one : (w : Scenario) (h : History) (t : ℕ) (b : Begin) → IsOne (EndDue w h t b)
end_one w h t b e f (size, is_size, due, is) (size', is_size', due', is') =
    let same : size ≡ size' = size_one w h b.kind b size size' is_size is_size' in
    is ∙ (ap (λ x. PlainEvent.ended (record { tick = t; arc = b.arc; ord = b.ord; size = x; check = CheckOf w h b x })) same ∙ sym is')
