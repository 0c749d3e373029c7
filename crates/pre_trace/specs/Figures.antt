-- The figures of a history: for each row how many frames were sent and delivered, and the longest that one was on its way.
use Rattle.std.specs.Prelude.{ℕ, ◌≢◌, ◌<◌, ◌≤◌, ◌-◌, ◌==◌, ◌&&◌, Bool, true, false, List, length, max, map, filter, fold, slice_index_or, nat_le, All, AllPairs}
use Rattle.std.specs.List.{count_by}
use Rattle.pre_script.specs.declared.scripts.Script.{Script}
use Rattle.pre_script.specs.declared.scripts.SendLine.{SendLine}
use Rattle.pre_history.specs.Scenario.{no_send}
use Rattle.pre_history.specs.History.{Delivery, PlainEvent, History}
use Rattle.pre_history.specs.Queries.{Deliveries}
use Rattle.pre_trace.specs.declared.summaries.Figures.{Figures}

-- the sends of a row whose tick isn't above the last one
abbrev pub is_sent : Script → ℕ → SendLine → Bool
is_sent script stream l = (l.send.stream.0 == stream) && nat_le l.send.tick.0 script.until.0

abbrev pub sent_of : Script → ℕ → ℕ
sent_of script stream = count_by (is_sent script stream) script.sends

-- frame f is send f of the script
abbrev pub send_of : Script → ℕ → SendLine
send_of script f = slice_index_or script.sends f no_send

abbrev pub of_stream : Script → ℕ → Delivery → Bool
of_stream script stream d = (send_of script d.frame).send.stream.0 == stream

-- the ticks from the send of a frame to its delivery
abbrev pub delay : Script → Delivery → ℕ
delay script d = d.tick - (send_of script d.frame).send.tick.0

-- the deliveries of a row
abbrev pub deliveries_of : Script → History → ℕ → List Delivery
deliveries_of script h stream = filter (of_stream script stream) (Deliveries h)

abbrev pub figures_of : Script → History → ℕ → Figures
figures_of script h stream = record {
  sent = sent_of script stream;
  delivered = length (deliveries_of script h stream);
  greatest = fold max 0 (map (delay script) (deliveries_of script h stream));
}

-- each delivery is of a send of the script, none before its tick, and no two are of one send
pub record ComeOnce (script : Script) (h : History) : Type 0 where
  pub known : All (λ d. d.frame < length script.sends) (Deliveries h)
  pub after : All (λ d. (send_of script d.frame).send.tick.0 ≤ d.tick) (Deliveries h)
  pub once : AllPairs (λ d e. d.frame ≢ e.frame) (Deliveries h)

-- the lines of the end of a run: the counters of arcs, and the last line
abbrev pub is_closing : PlainEvent → Bool
is_closing (PlainEvent.count arc c) = true
is_closing (PlainEvent.end e) = true
is_closing other = false

abbrev pub closings : History → History
closings h = filter is_closing h

-- a network has at most 256 arcs
abbrev pub most_closings : ℕ
most_closings = 257
