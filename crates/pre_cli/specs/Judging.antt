-- What the commands that judge and migrate a certificate read, answer and leave.
use Rattle.std.specs.Prelude.{◌≡◌, ◌⊎◌, ℕ, List, None, Ok, Err, codes}
use Rattle.std.specs.FinMap.{get}
use Rattle.pre_base.specs.Shelves.{Files}
use Rattle.pre_base.specs.Sinks.{Taken}
use Rattle.pre_base.specs.Sinks.{TakesFront}
use Rattle.pre_topo.specs.declared.network.Network.{Network}
use Rattle.pre_streams.specs.declared.rows.Streams.{Streams}
use Rattle.pre_bound.specs.declared.certificate.Certificate.{Certificate}
use Rattle.pre_bound.specs.Listed.{GoodCertificate}
use Rattle.pre_check.specs.declared.reading.CertificateFault.{CertificateFault}
use Rattle.pre_check.specs.declared.reading.CertificateFault.TheVariants.{Fault, Memory}
use Rattle.pre_check.specs.Lines.{HasRows, Breaks}
use Rattle.pre_check.specs.Seen.{rows_in}
use Rattle.pre_check.specs.Reading.{certificate_of}
use Rattle.pre_certify.specs.Text.{certificate_text}
use Rattle.pre_cli.specs.declared.statuses.FileWord.TheVariants as file
use Rattle.pre_cli.specs.declared.statuses.Status.{Status}
use Rattle.pre_cli.specs.declared.statuses.Status.TheVariants as status
use Rattle.pre_cli.specs.Files.{pair_network, pair_streams, text_named, IsFileIn, IsLongFile, IsNetIn, NetRefused, AreStreamsIn, StreamsRefused}
use Rattle.pre_cli.specs.Certifying.{TakesFlushed}
use Rattle.pre_cli.specs.Readings.{Reading, then_read, tested, IsTextAnswer}
use Rattle.pre_cli.specs.Words.{JudgeWords}

-- ---- a network, streams and a certificate

abbrev pub network_in : List ℕ → Reading Network
network_in word = record {
  gone = λ files. text_named pair_network word files ≡ None;
  refused = NetRefused word;
  gives = IsNetIn word;
  may = IsTextAnswer;
}

abbrev pub streams_in : List ℕ → Network → Reading Streams
streams_in word net = record {
  gone = λ files. text_named pair_streams word files ≡ None;
  refused = StreamsRefused word net;
  gives = AreStreamsIn word net;
  may = IsTextAnswer;
}

abbrev pub certificate_status : CertificateFault → Status
certificate_status (Fault line rule) = status.Form file.Cert line rule
certificate_status Memory = status.Memory

-- the file of this name spells this certificate, for the network and the streams
abbrev pub IsCertificateIn : List ℕ → Network → Streams → Certificate → Files → Type 0
IsCertificateIn word net streams c files = (text : List ℕ) × IsFileIn word text files × (certificate_of net streams text ≡ Ok (rows_in c))

-- it is too long or has a fault, and this is the answer
abbrev pub CertificateRefused : List ℕ → Network → Streams → Status → Files → Type 0
CertificateRefused word net streams s files =
    IsLongFile file.Cert word s files
    ⊎ ((text : List ℕ) × IsFileIn word text files × ((place : ℕ × ℕ) × (certificate_of net streams text ≡ Err place) × (s ≡ status.Form file.Cert place.0 place.1)))

abbrev pub certificate_in : List ℕ → Network → Streams → Reading Certificate
certificate_in word net streams = record {
  gone = λ files. get files word ≡ None;
  refused = CertificateRefused word net streams;
  gives = IsCertificateIn word net streams;
  may = IsTextAnswer;
}

-- the certificate has the rows that are due, and this is the first clause that fails, and its first row
abbrev pub IsRejected : Network → Streams → Certificate → Status → Type 0
IsRejected net streams c s = HasRows net streams.rows c × ((clause row : ℕ) × Breaks net streams.rows c clause row × (s ≡ status.Rejected clause row))

-- a certificate that is good, or is rejected
abbrev pub good_certificate_in : List ℕ → Network → Streams → Reading Certificate
good_certificate_in word net streams = tested (certificate_in word net streams) (GoodCertificate net streams) (IsRejected net streams)

-- streams, and then such a certificate
abbrev pub certified_in : List ℕ → List ℕ → Network → Reading (Streams × Certificate)
certified_in streams_word certificate_word net = then_read (streams_in streams_word net) (good_certificate_in certificate_word net)

-- ---- the commands

-- a network, streams and a good certificate
abbrev pub judging : JudgeWords → Reading (Network × (Streams × Certificate))
judging words = then_read (network_in words.net) (certified_in words.streams words.certificate)

abbrev pub accepted_text : List ℕ
accepted_text = codes "accepted\n"

-- the certificate is good, and that was written
abbrev pub Accepts : Network × (Streams × Certificate) → Taken → Taken → Type 0
Accepts x old new = GoodCertificate x.0 x.1.0 x.1.1 × TakesFlushed accepted_text old new

abbrev pub AcceptsFront : Network × (Streams × Certificate) → Taken → Taken → Type 0
AcceptsFront x = TakesFront accepted_text

-- the certificate is good, and was written as `certify` writes certificates
abbrev pub Migrates : Network × (Streams × Certificate) → Taken → Taken → Type 0
Migrates x old new = GoodCertificate x.0 x.1.0 x.1.1 × TakesFlushed (certificate_text x.0 x.1.0.rows x.1.1) old new

abbrev pub MigratesFront : Network × (Streams × Certificate) → Taken → Taken → Type 0
MigratesFront x = TakesFront (certificate_text x.0 x.1.0.rows x.1.1)
