use Rattle.pre_cli.proofs.DueListing.{missing_packets, packets_answer}
use Rattle.pre_cli.proofs.listing_laws.due_listings.Goals as goal

pub returns : goal.returns
returns c = record { words = λ name o cause. cause; missing = missing_packets; packets = packets_answer }
