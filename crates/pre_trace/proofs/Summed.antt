-- What a summary keeps is written as what it stands for.
use Rattle.std.proofs.Common.{◌≡◌, ℕ, ◌<◌, ◌≤◌, List, [], ◌∷◌, ◌++◌, length, map, take, suc, refl, sym, ◌∙◌, ap, arith, All, codes}
use Rattle.std.specs.Fmt.{decimal}
use Rattle.std.specs.Prelude.{slice_get}
use Rattle.std.specs.Option.{option_map}
use Rattle.std.specs.List.{flat_map}
use Rattle.std.proofs.lemmas.List.{take_all}
use Rattle.std.proofs.lemmas.Option.{slice_get-map}
use Rattle.pre_base.specs.declared.numbers.StreamId.{StreamId}
use Rattle.pre_text.specs.Writing.{line_of}
use Rattle.pre_topo.specs.declared.network.Network.{Network}
use Rattle.pre_streams.specs.declared.rows.Streams.{Streams}
use Rattle.pre_script.specs.declared.scripts.Script.{Script}
use Rattle.pre_history.specs.History.{History}
use Rattle.pre_trace.specs.declared.summaries.Figures.{Figures}
use Rattle.pre_trace.specs.declared.tallies.Closing.{Closing}
use Rattle.pre_trace.specs.declared.tallies.Tally.{Tally}
use Rattle.pre_trace.specs.Text.{line, text}
use Rattle.pre_trace.specs.Figures.{ComeOnce, closings, figures_of, most_closings, sent_of}
use Rattle.pre_trace.specs.Sums.{Sums, figures_from, plain_closing}
use Rattle.pre_trace.specs.SummaryText.{stream_line, stream_lines, summary_text, text_with}

-- the text of events that are kept
pub text_kept : (net : Network) (cs : List Closing) → flat_map (λ c. line net (plain_closing c)) cs ≡ text net (map plain_closing cs)
text_kept net [] = refl
text_kept net (c ∷ cs) = ap (λ (l : List ℕ). line net (plain_closing c) ++ l) (text_kept net cs)

module _ (script : Script) (tallies : List Tally) (slots : List Closing) (kept : ℕ) (h : History) (sums : Sums script tallies slots kept h) where
  pub figures_are : ComeOnce script h → (i : ℕ) → i < length tallies → figures_from script tallies i ≡ figures_of script h i
  figures_are once i lt = ap (λ (t : Tally). record { sent = sent_of script i; delivered = t.delivered; greatest = t.greatest }) (sums.tallied once i lt)

  pub closing_is : (i : ℕ) → option_map plain_closing (slice_get (take kept slots) i) ≡ slice_get (take most_closings (closings h)) i
  closing_is i = sym (slice_get-map plain_closing (take kept slots) i) ∙ ap (λ (l : History). slice_get l i) sums.closings

  lines_are : (streams : Streams) (bounds : List (StreamId × ℕ)) → ComeOnce script h → All (λ bound. bound.0.0 < length tallies) bounds
      → stream_lines streams (figures_from script tallies) bounds ≡ stream_lines streams (figures_of script h) bounds
  lines_are streams [] once known = refl
  lines_are streams (b ∷ bs) once known =
      let here = ap (λ (f : Figures). stream_line streams f b) (figures_are once b.0.0 (known 0 b (omega arith))) in
      let more = lines_are streams bs once (λ i d lt. known (suc i) d (omega (arith, lt))) in
      λ i. here i ++ more i

  pub text_is : (net : Network) (streams : Streams) (bounds : List (StreamId × ℕ)) (number : ℕ) → ComeOnce script h → length (closings h) ≤ most_closings
      → All (λ bound. bound.0.0 < length tallies) bounds
      → text_with net streams (figures_from script tallies) (map plain_closing (take kept slots)) bounds number ≡ summary_text net streams script h bounds number
  text_is net streams bounds number once few known =
      let lines = lines_are streams bounds once known in
      let ending = sums.closings ∙ take_all most_closings (closings h) few in
      λ i. line_of (codes "drill") (decimal number ∷ []) ++ (lines i ++ text net (ending i))
