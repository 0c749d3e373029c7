-- What a summary keeps of the events that it took.
use Rattle.std.specs.Prelude.{ℕ, ◌≡◌, ◌<◌, ◌≤◌, ◌+◌, ◌-◌, ◌^◌, List, length, min, max, map, take, Option, Some, None}
use Rattle.std.specs.Prelude.{slice_get, slice_set, slice_index_or, nat_lt, if◌then◌else◌}
use Rattle.pre_script.specs.declared.scripts.Script.{Script}
use Rattle.pre_script.specs.declared.scripts.SendLine.{SendLine}
use Rattle.pre_history.specs.History.{PlainEvent, History}
use Rattle.pre_trace.specs.declared.summaries.Figures.{Figures}
use Rattle.pre_trace.specs.declared.tallies.Closing.{Closing}
use Rattle.pre_trace.specs.declared.tallies.Closing.TheVariants as closing
use Rattle.pre_trace.specs.declared.tallies.Tally.{Tally}
use Rattle.pre_trace.specs.Figures.{ComeOnce, closings, figures_of, most_closings, sent_of}

abbrev pub no_tally : Tally
no_tally = record { delivered = 0; greatest = 0 }

abbrev pub no_closing : Closing
no_closing = closing.Finish (record { 0 = 0 }) 0 0 0

abbrev pub plain_closing : Closing → PlainEvent
plain_closing (closing.Count arc err smd ok rx tx) = PlainEvent.count arc.0 (record { err = err; smd = smd; ok = ok; rx = rx; tx = tx })
plain_closing (closing.Finish until sent delivered dropped) = PlainEvent.end (record { until = until.0; sent = sent; delivered = delivered; dropped = dropped })

-- a delivery after so many ticks
abbrev pub more : Tally → ℕ → Tally
more t delay = record { delivered = min (t.delivered + 1) (2 ^ 64 - 1); greatest = max t.greatest delay }

abbrev pub noted_send : List Tally → ℕ → Option SendLine → List Tally
noted_send tallies tick None = tallies
noted_send tallies tick (Some line) =
    if nat_lt line.send.stream.0 (length tallies) then slice_set tallies line.send.stream.0 (more (slice_index_or tallies line.send.stream.0 no_tally) (tick - line.send.tick.0)) else tallies

-- the tally of the frame's row takes up its delivery
abbrev pub noted : Script → List Tally → ℕ → ℕ → List Tally
noted script tallies tick frame = noted_send tallies tick (slice_get script.sends frame)

-- one more line of the end is kept, where there is room
abbrev pub closed : List Closing → ℕ → Closing → List Closing × ℕ
closed slots kept c = if nat_lt kept (length slots) then (slice_set slots kept c, kept + 1) else (slots, kept)

abbrev pub figures_from : Script → List Tally → ℕ → Figures
figures_from script tallies stream = record {
  sent = sent_of script stream;
  delivered = (slice_index_or tallies stream no_tally).delivered;
  greatest = (slice_index_or tallies stream no_tally).greatest;
}

abbrev pub tally_of : Script → History → ℕ → Tally
tally_of script h stream = record { delivered = (figures_of script h stream).delivered; greatest = (figures_of script h stream).greatest }

-- each tally is that of its row in the history, where deliveries come once
abbrev pub AreTallies : Script → List Tally → History → Type 0
AreTallies script tallies h = ComeOnce script h → (i : ℕ) → i < length tallies → slice_index_or tallies i no_tally ≡ tally_of script h i

-- the lines of the end that are kept are its first ones
abbrev pub AreClosings : List Closing → ℕ → History → Type 0
AreClosings slots kept h = map plain_closing (take kept slots) ≡ take most_closings (closings h)

-- A summary of the script with these tallies and these first slots in use has taken the history.
pub record Sums (script : Script) (tallies : List Tally) (slots : List Closing) (kept : ℕ) (h : History) : Type 0 where
  pub tallied : AreTallies script tallies h
  pub closings : AreClosings slots kept h
  pub room : length slots ≡ most_closings
  pub few : kept ≤ most_closings
  pub sends : length script.sends < 2 ^ 64
