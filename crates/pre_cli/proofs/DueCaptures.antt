-- Files come to one capture that is made at most, or to one answer in its place.
use Rattle.std.proofs.Common.{◌≡◌, ℕ, List, None, Some, sym, ◌∙◌}
use Rattle.std.proofs.lemmas.Option.{none-some}
use Rattle.pre_base.specs.declared.numbers.ArcId.{ArcId}
use Rattle.pre_topo.specs.declared.network.Network.{Network}
use Rattle.pre_cli.specs.Capturing.{arc_in, watched_in, sent_in, capturing}
use Rattle.pre_cli.specs.Judging.{network_in, streams_in}
use Rattle.pre_cli.specs.Replaying.{script_in}
use Rattle.pre_cli.specs.Words.{CaptureWords}
use Rattle.pre_cli.proofs.DueReadings.{Decided, then_decided}
use Rattle.pre_cli.proofs.DueTexts.{network_decided, streams_decided, script_decided}

same_arc : (a b : ArcId) → a.0 ≡ b.0 → a ≡ b
same_arc a b e = λ i. record { 0 = e i }

arc_decided : (word : List ℕ) (net : Network) → Decided (arc_in word net)
arc_decided word net = record {
  given_once = λ files a b p q. same_arc a b (cc (sym p ∙ q));
  refused_once = λ files s t p q. p.1 ∙ sym q.1;
  not_refused = λ files a s p q. none-some a.0 (sym q.0 ∙ p);
  not_gone = λ files a p gone. gone;
  refused_there = λ files s p gone. gone;
}

pub capturing_decided : (words : CaptureWords) → Decided (capturing words)
capturing_decided words =
    then_decided (watched_in words.net words.arc) (λ x. sent_in words.streams words.script x.0)
    (then_decided (network_in words.net) (arc_in words.arc) (network_decided words.net) (arc_decided words.arc))
    (λ x. then_decided (streams_in words.streams x.0) (script_in words.script x.0) (streams_decided words.streams x.0) (script_decided words.script x.0))
