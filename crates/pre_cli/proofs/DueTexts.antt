-- A text is a network, streams, a certificate or a script, or it is refused with one answer.
use Rattle.std.proofs.Common.{◌≡◌, inl, inr, ℕ, List, map, ap, subst}
use Rattle.std.proofs.Props.{props}
use Rattle.std.specs.FinMap.{get}
use Rattle.pre_base.specs.Shelves.{Files}
use Rattle.pre_topo.specs.declared.network.Network.{Network}
use Rattle.pre_topo.specs.NetworkOf.{network_of, parts_of}
use Rattle.pre_streams.specs.declared.rows.Streams.{Streams}
use Rattle.pre_streams.specs.StreamsOf.{streams_of}
use Rattle.pre_streams.specs.Made.{row_parts}
use Rattle.pre_bound.specs.declared.certificate.Certificate.{Certificate}
use Rattle.pre_bound.specs.Limits.{IsWithin}
use Rattle.pre_script.specs.declared.scripts.Script.{Script}
use Rattle.pre_script.specs.Reading.{script_of}
use Rattle.pre_check.specs.Seen.{Rows, rows_in}
use Rattle.pre_check.specs.Reading.{certificate_of}
use Rattle.pre_cli.specs.declared.statuses.FileWord.{FileWord}
use Rattle.pre_cli.specs.declared.statuses.FileWord.TheVariants as file
use Rattle.pre_cli.specs.declared.statuses.Status.{Status}
use Rattle.pre_cli.specs.declared.statuses.Status.TheVariants as status
use Rattle.pre_cli.specs.Files.{pair_network, pair_streams, text_named, topo_status, stream_status, IsNetIn, NetRefused, AreStreamsIn, StreamsRefused}
use Rattle.pre_cli.specs.Judging.{network_in, streams_in, IsCertificateIn, CertificateRefused, certificate_in}
use Rattle.pre_cli.specs.Replaying.{IsScriptIn, ScriptRefused, script_in}
use Rattle.pre_cli.proofs.OneReading.{one_network, one_streams}
use Rattle.pre_cli.proofs.Texts.{Refuses, Reads, refused_once, refused_not_read, read_once, refused_there, read_there}
use Rattle.pre_cli.proofs.DueReadings.{Decided}

-- ---- a network

module _ (word : List ℕ) where
  net_refuses : (files : Files) (s : Status) → NetRefused word s files → Refuses file.Net network_of topo_status (text_named pair_network word files) s
  net_refuses files s (inl long) = inl long
  net_refuses files s (inr (x, p, rest)) = inr (x, p.is, p.short, rest)

  net_reads : (files : Files) (net : Network) → IsNetIn word net files → Reads file.Net network_of topo_status (text_named pair_network word files) (parts_of net)
  net_reads files net (x, p, well) = (x, p.is, p.short, well)

  pub network_decided : Decided (network_in word)
  network_decided = record {
    given_once = λ files net other p q.
        one_network net other (read_once file.Net network_of topo_status (text_named pair_network word files) (parts_of net) (parts_of other) (net_reads files net p) (net_reads files other q));
    refused_once = λ files s t p q. refused_once file.Net network_of topo_status (text_named pair_network word files) s t (net_refuses files s p) (net_refuses files t q);
    not_refused = λ files net s p q. refused_not_read file.Net network_of topo_status (text_named pair_network word files) s (parts_of net) (net_refuses files s q) (net_reads files net p);
    not_gone = λ files net p none. read_there file.Net network_of topo_status (text_named pair_network word files) (parts_of net) (net_reads files net p) none;
    refused_there = λ files s p none. refused_there file.Net network_of topo_status (text_named pair_network word files) s (net_refuses files s p) none;
  }

-- ---- streams

module _ (word : List ℕ) (net : Network) where
  streams_refuse : (files : Files) (s : Status) → StreamsRefused word net s files → Refuses file.Streams (streams_of net) (stream_status file.Streams) (text_named pair_streams word files) s
  streams_refuse files s (inl long) = inl long
  streams_refuse files s (inr (x, p, rest)) = inr (x, p.is, p.short, rest)

  streams_read : (files : Files) (streams : Streams) → AreStreamsIn word net streams files
      → Reads file.Streams (streams_of net) (stream_status file.Streams) (text_named pair_streams word files) (map row_parts streams.rows)
  streams_read files streams (x, p, well) = (x, p.is, p.short, well)

  pub streams_decided : Decided (streams_in word net)
  streams_decided = record {
    given_once = λ files streams other p q.
        one_streams streams other
        (read_once file.Streams (streams_of net) (stream_status file.Streams) (text_named pair_streams word files) (map row_parts streams.rows) (map row_parts other.rows)
        (streams_read files streams p) (streams_read files other q));
    refused_once = λ files s t p q. refused_once file.Streams (streams_of net) (stream_status file.Streams) (text_named pair_streams word files) s t (streams_refuse files s p) (streams_refuse files t q);
    not_refused = λ files streams s p q.
        refused_not_read file.Streams (streams_of net) (stream_status file.Streams) (text_named pair_streams word files) s (map row_parts streams.rows) (streams_refuse files s q) (streams_read files streams p);
    not_gone = λ files streams p none. read_there file.Streams (streams_of net) (stream_status file.Streams) (text_named pair_streams word files) (map row_parts streams.rows) (streams_read files streams p) none;
    refused_there = λ files s p none. refused_there file.Streams (streams_of net) (stream_status file.Streams) (text_named pair_streams word files) s (streams_refuse files s p) none;
  }

-- ---- a certificate

-- a certificate is its rows
abbrev made : (r : Rows) → IsWithin r.arcs r.ports r.hops r.bounds → Certificate
made r within = record { arcs = r.arcs; ports = r.ports; hops = r.hops; bounds = r.bounds; within = within }

within_prop : (r : Rows) → IsProp (IsWithin r.arcs r.ports r.hops r.bounds)
within_prop r = hlevel props

made_same : (p q : Rows) → p ≡ q → (r : IsWithin p.arcs p.ports p.hops p.bounds) (s : IsWithin q.arcs q.ports q.hops q.bounds) → made p r ≡ made q s
made_same p q e = subst (λ x. (r : IsWithin p.arcs p.ports p.hops p.bounds) (s : IsWithin x.arcs x.ports x.hops x.bounds) → made p r ≡ made x s) e (λ r s. ap (made p) (within_prop p r s))

pub one_certificate : (c other : Certificate) → rows_in c ≡ rows_in other → c ≡ other
one_certificate c other e = made_same (rows_in c) (rows_in other) e c.within other.within

abbrev at_place : FileWord → ℕ × ℕ → Status
at_place kind place = status.Form kind place.0 place.1

module _ (word : List ℕ) (net : Network) (streams : Streams) where
  certificate_refuses : (files : Files) (s : Status) → CertificateRefused word net streams s files → Refuses file.Cert (certificate_of net streams) (at_place file.Cert) (get files word) s
  certificate_refuses files s (inl long) = inl long
  certificate_refuses files s (inr (x, p, rest)) = inr (x, p.0, p.1, rest)

  certificate_reads : (files : Files) (c : Certificate) → IsCertificateIn word net streams c files → Reads file.Cert (certificate_of net streams) (at_place file.Cert) (get files word) (rows_in c)
  certificate_reads files c (x, p, well) = (x, p.0, p.1, well)

  pub certificate_decided : Decided (certificate_in word net streams)
  certificate_decided = record {
    given_once = λ files c other p q.
        one_certificate c other
        (read_once file.Cert (certificate_of net streams) (at_place file.Cert) (get files word) (rows_in c) (rows_in other) (certificate_reads files c p) (certificate_reads files other q));
    refused_once = λ files s t p q. refused_once file.Cert (certificate_of net streams) (at_place file.Cert) (get files word) s t (certificate_refuses files s p) (certificate_refuses files t q);
    not_refused = λ files c s p q.
        refused_not_read file.Cert (certificate_of net streams) (at_place file.Cert) (get files word) s (rows_in c) (certificate_refuses files s q) (certificate_reads files c p);
    not_gone = λ files c p none. read_there file.Cert (certificate_of net streams) (at_place file.Cert) (get files word) (rows_in c) (certificate_reads files c p) none;
    refused_there = λ files s p none. refused_there file.Cert (certificate_of net streams) (at_place file.Cert) (get files word) s (certificate_refuses files s p) none;
  }

-- ---- a script

module _ (word : List ℕ) (net : Network) (streams : Streams) where
  script_refuses : (files : Files) (s : Status) → ScriptRefused word net streams s files → Refuses file.Script (script_of net streams) (at_place file.Script) (get files word) s
  script_refuses files s (inl long) = inl long
  script_refuses files s (inr (x, p, rest)) = inr (x, p.0, p.1, rest)

  script_reads : (files : Files) (script : Script) → IsScriptIn word net streams script files → Reads file.Script (script_of net streams) (at_place file.Script) (get files word) script
  script_reads files script (x, p, well) = (x, p.0, p.1, well)

  pub script_decided : Decided (script_in word net streams)
  script_decided = record {
    given_once = λ files script other p q.
        read_once file.Script (script_of net streams) (at_place file.Script) (get files word) script other (script_reads files script p) (script_reads files other q);
    refused_once = λ files s t p q. refused_once file.Script (script_of net streams) (at_place file.Script) (get files word) s t (script_refuses files s p) (script_refuses files t q);
    not_refused = λ files script s p q. refused_not_read file.Script (script_of net streams) (at_place file.Script) (get files word) s script (script_refuses files s q) (script_reads files script p);
    not_gone = λ files script p none. read_there file.Script (script_of net streams) (at_place file.Script) (get files word) script (script_reads files script p) none;
    refused_there = λ files s p none. refused_there file.Script (script_of net streams) (at_place file.Script) (get files word) s (script_refuses files s p) none;
  }
