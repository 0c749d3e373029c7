-- The text of the summary of a drill: its number, the figures of each stream with its bound, and the lines of the run's end.
use Rattle.std.specs.Prelude.{ℕ, List, [], ◌∷◌, ◌++◌, codes}
use Rattle.std.specs.Fmt.{decimal}
use Rattle.std.specs.List.{flat_map}
use Rattle.pre_base.specs.declared.numbers.StreamId.{StreamId}
use Rattle.pre_text.specs.Writing.{line_of}
use Rattle.pre_topo.specs.declared.network.Network.{Network}
use Rattle.pre_streams.specs.declared.rows.Streams.{Streams}
use Rattle.pre_script.specs.declared.scripts.Script.{Script}
use Rattle.pre_script.specs.Text.{row_name}
use Rattle.pre_history.specs.History.{History}
use Rattle.pre_trace.specs.declared.summaries.Figures.{Figures}
use Rattle.pre_trace.specs.Text.{text}
use Rattle.pre_trace.specs.Figures.{closings, figures_of}

abbrev pub stream_line : Streams → Figures → StreamId × ℕ → List ℕ
stream_line streams figures bound =
    line_of (codes "stream") (row_name streams bound.0.0 ∷ decimal figures.sent ∷ decimal figures.delivered ∷ decimal figures.greatest ∷ decimal bound.1 ∷ [])

-- a line for each stream that has a bound, in the order of the bounds
abbrev pub stream_lines : Streams → (ℕ → Figures) → List (StreamId × ℕ) → List ℕ
stream_lines streams figures bounds = flat_map (λ bound. stream_line streams (figures bound.0.0) bound) bounds

abbrev pub text_with : Network → Streams → (ℕ → Figures) → History → List (StreamId × ℕ) → ℕ → List ℕ
text_with net streams figures ending bounds number =
    line_of (codes "drill") (decimal number ∷ []) ++ (stream_lines streams figures bounds ++ text net ending)

abbrev pub summary_text : Network → Streams → Script → History → List (StreamId × ℕ) → ℕ → List ℕ
summary_text net streams script h bounds number = text_with net streams (figures_of script h) (closings h) bounds number
