-- Laws of mPackets and of links that the lemmas here rest on.
use Rattle.pre_mpacket.proofs.Later.{gives_more}
use Rattle.pre_mpacket.proofs.Chains.{gives_one}
use Rattle.pre_mpacket.proofs.Spelled.{given_spells, spelled_given}
use Rattle.pre_lldp.proofs.Runs.{verified, is_verified-from, wanted, is_verify_wanted-from}
use Rattle.pre_lldp.proofs.ReadBack.{sent-lldp}
use Rattle.pre_lldp.specs.declared.adverts.Advert.{Advert}
use Rattle.pre_lldp.specs.LldpLayout.{is_lldp_frame, lldp_frame}
use Rattle.std.proofs.Common.{ℕ, ◌≡◌, true}
use Rattle.pre_history.proofs.Arrived.{OneGiven}
use Rattle.pre_history.proofs.Spelled.{OneSpelled}
use Rattle.pre_history.proofs.Unread.{LaterGives}
use Rattle.pre_history.proofs.LinkTests.{VerifiedComputed, WantedComputed}

-- later arrivals don't change what an arrival gives
pub gives_later : LaterGives
gives_later = gives_more

-- an arrival gives one thing at most
pub one_given : OneGiven
one_given = gives_one

-- the state of a link is the one that is computed
pub verified_computed : VerifiedComputed
verified_computed good verifies responds t = ((λ h. is_verified-from good verifies responds t h), λ e. verified good verifies responds t e)

pub wanted_computed : WantedComputed
wanted_computed good verifies responds wait t = ((λ h. is_verify_wanted-from good verifies responds wait t h), λ e. wanted good verifies responds wait t e)

-- LLDP frames as they are sent are LLDP frames
pub sent_lldp : (node arc : ℕ) (says : Advert) → is_lldp_frame (lldp_frame node arc says) ≡ true
sent_lldp = sent-lldp

-- octets spell one mPacket at most
pub one_spelled : OneSpelled
one_spelled m octets = (given_spells m octets, spelled_given m octets)
