-- What a sink took names one history.
use Rattle.std.proofs.Common.{◌≡◌, ◌++◌, sym, ◌∙◌}
use Rattle.std.proofs.lemmas.List.{append_cancel_left}
use Rattle.pre_base.specs.Sinks.{Taken}
use Rattle.pre_topo.specs.declared.network.Network.{Network}
use Rattle.pre_bound.specs.declared.certificate.Certificate.{Certificate}
use Rattle.pre_history.specs.History.{History}
use Rattle.pre_history.specs.Scenario.{Scenario}
use Rattle.pre_trace.specs.Text.{text}
use Rattle.pre_history.specs.Written.{AreWritten}
use Rattle.pre_cli.specs.Headline.{Headline}

abbrev pub OneTold : Type 0
OneTold = (net : Network) (g h : History) → AreWritten net g → AreWritten net h → text net g ≡ text net h → g ≡ h

module _ (one : OneTold) where
  pub one_taken : (net : Network) (old new : Taken) (g h : History) → AreWritten net g → AreWritten net h → new.octets ≡ old.octets ++ text net g → new.octets ≡ old.octets ++ text net h → g ≡ h
  one_taken net old new g h p q took_g took_h = one net g h p q (append_cancel_left old.octets (text net g) (text net h) (sym took_g ∙ took_h))

  pub headline_taken : (w : Scenario) (c : Certificate) (old new : Taken) (h : History) (x : Headline w c old new) → AreWritten w.net h → new.octets ≡ old.octets ++ text w.net h → h ≡ x.history
  headline_taken w c old new h x written took = one_taken w.net old new h x.history written x.history_can_be_told took x.trace_is_its_text
