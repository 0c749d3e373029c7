use Rattle.std.proofs.Common.{ℕ, List, subst, sym}
use Rattle.pre_base.specs.Told.{WhereTold}
use Rattle.pre_topo.specs.NetworkOf as networks
use Rattle.pre_cli.specs.declared.statuses.Status.{Status}
use Rattle.pre_cli.specs.Files.{pair_network, IsTextIn, OfFiles, IsGone, InPlace, NetRefused}
use Rattle.pre_cli.proofs.CertifyLemmas.{net_refused}
use Rattle.pre_cli.proofs.files.network_named.Goals as goal

pub returns-in-Ok-clause-cause : goal.returns-in-Ok-clause-cause
returns-in-Ok-clause-cause g c =
    let word = c.args.word.now in
    let fault = c.in-Err-read_network.fault in
    let before = g.H.Shelf.faults c.args.shelf.now in
    let now = g.H.Shelf.faults c.text_of.new.shelf in
    let a = g.H.Shelf.tells c.args.shelf.now in
    let b = g.H.Shelf.tells c.text_of.new.shelf in
    subst (λ (s : Status). InPlace s (IsGone pair_network word) (NetRefused word) before now a b) (sym c.topo_status.ensures)
    (net_refused fault word c.in-Ok.text.items before now a b (subst (λ (l : List ℕ). networks.IsDue fault (networks.network_of l)) c.as_slice.ensures.value c.in-Err-read_network.ensures)
    (subst (λ (l : List ℕ). WhereTold a b (OfFiles (IsTextIn l word c.in-Ok.text.items))) c.pair_network.ensures.text c.in-Ok.ensures.text))
