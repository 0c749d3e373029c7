-- The script of a plant: what its rows send, and what is lost and damaged.
use Rattle.std.specs.Prelude.{◌≡◌, ℕ, ◌+◌, ◌-◌, ◌*◌, ◌/◌, ◌<◌, ◌⊎◌, List, [], ◌∷◌, ◌++◌, length, map, AllPairs}
use Rattle.std.specs.List.{range_with_len}
use Rattle.std.specs.List.Sorted.{IsPermutation}
use Rattle.pre_base.specs.declared.numbers.Send.{Send}
use Rattle.pre_script.specs.declared.scripts.Damage.{Damage}
use Rattle.pre_script.specs.declared.scripts.Loss.{Loss}
use Rattle.pre_script.specs.declared.scripts.Script.{Script}
use Rattle.pre_plant.specs.Lists.{list_of, joined_of}
use Rattle.pre_plant.specs.Draws.{draw}
use Rattle.pre_plant.specs.Rows.{arc_of, stream_max}

-- no send is at this tick or later
abbrev pub stop : ℕ
stop = 9_000_000

-- how often a row sends that begins at a tick below the stop and sends once each period
unfoldable pub times : ℕ → ℕ → ℕ
times first period = 1 + (stop - 1 - first) / period

-- the k-th send of a row, which has this number
abbrev pub nth_send : ℕ → ℕ → ℕ → ℕ → ℕ → Send
nth_send stream size first period k = record { tick = record { 0 = first + k * period }; stream = record { 0 = stream }; size = size }

abbrev pub sends_every : ℕ → ℕ → ℕ → ℕ → List Send
sends_every stream size first period = list_of (times first period) (nth_send stream size first period)

-- a stream sends its greatest frame as often as its rate gives back the burst: 200 octets in each 1,000,000 ticks, so one octet in 5000 ticks
abbrev pub stream_period : List ℕ → ℕ → ℕ
stream_period draws i = 5000 * (stream_max draws i + 20)

-- the sends of the stream of this number, whose first tick is drawn behind all rows
unfoldable pub stream_sends : List ℕ → ℕ → List Send
stream_sends draws i = sends_every i (stream_max draws i) (draw draws (150 + i) 100_000) (stream_period draws i)

-- the sends of the i-th flow, which is row 60 + i
unfoldable pub flow_sends : List ℕ → ℕ → List Send
flow_sends draws i = sends_every (60 + i) 1522 (draw draws (210 + i) 24_000) 24_000

-- row by row
unfoldable pub sends_by_row : List ℕ → List Send
sends_by_row draws = joined_of 60 (stream_sends draws) ++ joined_of 30 (flow_sends draws)

-- at an earlier tick, or at the same tick of an earlier row
abbrev pub ComesBefore : Send → Send → Type 0
ComesBefore a b = (a.tick.0 < b.tick.0) ⊎ ((a.tick.0 ≡ b.tick.0) × (a.stream.0 < b.stream.0))

-- the same sends, ordered by tick and then by row
pub record AreOrdered (sends ordered : List Send) : Type 0 where
  pub same : IsPermutation sends ordered
  pub order : AllPairs ComesBefore ordered

abbrev pub loss : List ℕ → ℕ → Loss
loss draws k = record { arc = arc_of (draw draws (240 + 2 * k) 102); ordinal = draw draws (241 + 2 * k) 100 }

abbrev pub damage : List ℕ → ℕ → Damage
damage draws k = record {
  arc = arc_of (draw draws (280 + 4 * k) 102);
  ordinal = 8 + draw draws (281 + 4 * k) 100;
  offset = 8 + draw draws (282 + 4 * k) 32;
  octets = (1 + draw draws (283 + 4 * k) 255) ∷ [];
}

-- The sends stand in order, on the first lines; behind them stand 20 losses and 20 damages.
pub record IsPlantScript (draws : List ℕ) (script : Script) : Type 0 where
  pub sends : AreOrdered (sends_by_row draws) (map (λ s. s.send) script.sends)
  pub lines : map (λ s. s.line) script.sends ≡ range_with_len 1 (length script.sends)
  pub sets : script.sets ≡ []
  pub losses : script.losses ≡ list_of 20 (loss draws)
  pub damages : script.damages ≡ list_of 20 (damage draws)
  pub until : script.until.0 ≡ 10_000_000
