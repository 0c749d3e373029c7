-- What the parts of the commands over a trace answer.
use Rattle.std.proofs.Common.{inr, ℕ, List, Option, Ok, Err, refl}
use Rattle.pre_base.specs.Told.{WhereTold}
use Rattle.pre_base.specs.Shelves.{Told}
use Rattle.pre_topo.specs.declared.network.Network.{Network}
use Rattle.pre_picture.specs.declared.traces.Seen.{Seen}
use Rattle.pre_picture.specs.declared.traces.TraceFault.{TraceFault}
use Rattle.pre_picture.specs.declared.traces.TraceFault.TheVariants.{Line, Memory}
use Rattle.pre_picture.specs.Traces.{trace_of, ReadsAs}
use Rattle.pre_cli.specs.declared.statuses.FileWord.TheVariants as file
use Rattle.pre_cli.specs.declared.statuses.Status.{Status}
use Rattle.pre_cli.specs.declared.statuses.Status.TheVariants as status
use Rattle.pre_cli.specs.Files.{OfFiles, IsFileIn, IsNoFile, InPlace}
use Rattle.pre_cli.specs.Readings.{Instead}
use Rattle.pre_cli.proofs.CertifyLemmas.{of_more}
use Rattle.pre_cli.proofs.ReadingLemmas.{gone_file, text_instead}
use Rattle.pre_draw.specs.Traces.{trace_status, IsTraceIn, TraceRefused, trace_in}

pub trace_read : (word text : List ℕ) (net : Network) (events : List Seen) (a b : Option Told) → ReadsAs (Ok events) (trace_of net text)
    → WhereTold a b (OfFiles (IsFileIn word text)) → WhereTold a b (OfFiles (IsTraceIn word net events))
trace_read word text net events a b due = of_more a b (IsFileIn word text) (IsTraceIn word net events) (λ files p. (text, p, due))

pub trace_refused : (fault : TraceFault) (word text : List ℕ) (net : Network) (before now : ℕ) (a b : Option Told) → ReadsAs (Err fault) (trace_of net text)
    → WhereTold a b (OfFiles (IsFileIn word text)) → InPlace (trace_status fault) (IsNoFile word) (TraceRefused word net) before now a b
trace_refused Memory word text net before now a b due is = tt
trace_refused (Line line rule) word text net before now a b due is =
    of_more a b (IsFileIn word text) (TraceRefused word net (status.Form file.Trace line rule)) (λ files p. inr (text, p, ((line, rule), due, refl))) is

pub trace_instead : (word : List ℕ) (net : Network) (s : Status) (before now : ℕ) (a b : Option Told) → InPlace s (IsNoFile word) (TraceRefused word net) before now a b
    → Instead (trace_in word net) s before now a b
trace_instead word net s before now a b = text_instead (trace_in word net) (IsNoFile word) s before now a b (gone_file word) (λ p. p)
