use Rattle.std.proofs.Common.{List, ℕ, subst}
use Rattle.pre_base.specs.Told.{WhereTold}
use Rattle.pre_cli.specs.PacketFiles.{arrivals_of}
use Rattle.pre_cli.specs.Listing.{TakesList}
use Rattle.pre_cli.proofs.ListLemmas.{flushed_leaves, read_well}
use Rattle.pre_cli.proofs.listings.list_octets.Goals as goal

pub returns-in-Ok-put_listing-clause-leaves : goal.returns-in-Ok-put_listing-clause-leaves
returns-in-Ok-put_listing-clause-leaves g c =
    let before = g.S.Sink.tells c.args.sink.now in
    let after = g.S.Sink.tells c.put_listing.new.sink in
    flushed_leaves c.flushed.result c.args.octets.now c.in-Ok.arrivals before after (g.S.Sink.tells c.flushed.new.sink) _ _
    (read_well c.in-Ok.arrivals (arrivals_of c.args.octets.now) c.in-Ok.ensures)
    (subst (λ (l : List (List ℕ)). WhereTold before after (TakesList l)) c.as_slice.ensures c.in-Ok-put_listing.ensures.lines)
    c.flushed.ensures.ends
