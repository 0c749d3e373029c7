-- The headline: what holds where a script was replayed under a certificate and all was done.
use Rattle.std.specs.Prelude.{◌≡◌, ◌≢◌, ℕ, ◌+◌, ◌<◌, ◌≤◌, ◌++◌, true, length, slice_get, Some, All, AllPairs, Any}
use Rattle.pre_base.specs.Sinks.{Taken}
use Rattle.pre_bound.specs.declared.certificate.Certificate.{Certificate}
use Rattle.pre_bound.specs.Listed.{GoodCertificate}
use Rattle.pre_bound.specs.Uses.{has_port}
use Rattle.pre_check.specs.Said.{bound_in, of_port}
use Rattle.pre_history.specs.Scenario.{Scenario, FrameOf, IsExpressFrame, send}
use Rattle.pre_history.specs.History.{Delivery, History}
use Rattle.pre_history.specs.Queries.{Deliveries}
use Rattle.pre_history.specs.Legal.{Legal, Spared}
use Rattle.pre_history.specs.Written.{AreWritten}
use Rattle.pre_delay.specs.Ports.{stream_of, waiting_octets}
use Rattle.pre_trace.specs.Text.{text}

-- the bound that the certificate prints for a stream
abbrev pub printed_bound : Certificate → ℕ → ℕ
printed_bound c stream = bound_in c.bounds stream

-- the size that it prints for the queue of a priority on an arc
abbrev pub printed_size : Certificate → ℕ → ℕ → ℕ
printed_size c arc prio = of_port (λ row. row.size) c.ports arc prio

-- the last tick at which a frame of a stream is due
abbrev pub due_tick : Scenario → Certificate → ℕ → ℕ
due_tick w c f = (send w f).send.tick.0 + printed_bound c (stream_of w f)

-- A script was run over a network and streams, with a certificate of these. The octets that the sink had, and those that it has:
pub record Headline (w : Scenario) (c : Certificate) (old new : Taken) : Type 0 where
  -- The certificate is good for the network and the streams.
  pub certificate_is_good : GoodCertificate w.net w.streams c
  -- What the sink took in this call is the text of this history and nothing else, all of it flushed.
  pub history : History
  pub trace_is_its_text : new.octets ≡ old.octets ++ text w.net history
  pub trace_is_flushed : new.flushed ≡ true
  -- It is no other history's text, of those that can be told over the network.
  pub history_can_be_told : AreWritten w.net history
  -- The history is legal for the network, the streams and the script.
  pub history_is_legal : Legal w history
  -- Each express frame that no loss or damage met, and that is due by the end of the run, is delivered when it is due.
  pub spared_frames_arrive : (f : ℕ) → f < length w.script.sends → IsExpressFrame w f → Spared w history f → due_tick w c f ≤ w.script.until.0
      → Any (λ (d : Delivery). (d.frame ≡ f) × (d.tick ≤ due_tick w c f)) (Deliveries history)
  -- And so is each express frame that is delivered.
  pub deliveries_are_in_time : (i : ℕ) (d : Delivery) → slice_get (Deliveries history) i ≡ Some d → IsExpressFrame w d.frame → d.tick ≤ due_tick w c d.frame
  -- At no tick do the wire octets that wait in an express queue, which is that of an arc and a priority of a stream, pass its size.
  pub queues_are_within_size : (arc prio t : ℕ) → has_port w.streams.rows arc prio ≡ true → t ≤ w.script.until.0 → waiting_octets w history arc prio t ≤ printed_size c arc prio
  -- Each delivery names a frame of the script, which was sent by then, and has its octets.
  pub delivered_frames_are_known : All (λ d. d.frame < length w.script.sends) (Deliveries history)
  pub delivered_frames_were_sent : All (λ d. (send w d.frame).send.tick.0 ≤ d.tick) (Deliveries history)
  pub delivered_octets_are_theirs : All (λ d. d.octets ≡ FrameOf w d.frame) (Deliveries history)
  -- No two deliveries name one frame.
  pub frames_are_delivered_once : AllPairs (λ d e. d.frame ≢ e.frame) (Deliveries history)
