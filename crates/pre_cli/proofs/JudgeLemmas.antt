-- What the parts of the commands over a certificate answer.
use Rattle.std.proofs.Common.{◌≡◌, inr, ℕ, List, Option, Result, Ok, Err, refl, sym, subst}
use Rattle.pre_base.specs.Told.{WhereTold}
use Rattle.pre_base.specs.Shelves.{Told}
use Rattle.pre_topo.specs.declared.network.Network.{Network}
use Rattle.pre_streams.specs.declared.rows.Streams.{Streams}
use Rattle.pre_bound.specs.declared.certificate.Certificate.{Certificate}
use Rattle.pre_bound.specs.Listed.{GoodCertificate}
use Rattle.pre_check.specs.declared.reading.CertificateFault.{CertificateFault}
use Rattle.pre_check.specs.declared.reading.CertificateFault.TheVariants.{Fault, Memory}
use Rattle.pre_check.specs.Seen.{Rows}
use Rattle.pre_check.specs.Reading.{certificate_of, ReadsAs}
use Rattle.pre_cli.specs.declared.statuses.FileWord.TheVariants as file
use Rattle.pre_cli.specs.declared.statuses.Status.{Status}
use Rattle.pre_cli.specs.declared.statuses.Status.TheVariants as status
use Rattle.pre_cli.specs.Files.{pair_network, pair_streams, OfFiles, IsGone, IsFileIn, IsNoFile, InPlace, NetRefused, StreamsRefused}
use Rattle.pre_cli.specs.Readings.{Instead}
use Rattle.pre_cli.specs.Judging.{network_in, streams_in, certificate_status, IsCertificateIn, CertificateRefused, certificate_in, IsRejected, good_certificate_in, certified_in, judging}
use Rattle.pre_cli.specs.Words.{JudgeWords}
use Rattle.pre_cli.proofs.CertifyLemmas.{of_more}
use Rattle.pre_cli.proofs.ReadingLemmas.{gone_file, text_instead, IsInstead, Refusing, text_refusing, then_refusing, tested_refusing}

-- ---- a certificate's text

pub certificate_read : (word text : List ℕ) (net : Network) (streams : Streams) (c : Certificate) (a b : Option Told) → ReadsAs (Ok c) (certificate_of net streams text)
    → WhereTold a b (OfFiles (IsFileIn word text))
    → WhereTold a b (OfFiles (IsCertificateIn word net streams c))
certificate_read word text net streams c a b due is = by (certificate_of net streams text) refl due
  where
    by : (r : Result Rows (ℕ × ℕ)) → r ≡ certificate_of net streams text → ReadsAs (Ok c) r → WhereTold a b (OfFiles (IsCertificateIn word net streams c))
    by (Ok rows) same due =
        of_more a b (IsFileIn word text) (IsCertificateIn word net streams c) (λ files p. (text, p, subst (λ (r : Rows). certificate_of net streams text ≡ Ok r) (sym due) (sym same))) is
    by (Err place) same due = absurd due

pub certificate_refused : (fault : CertificateFault) (word text : List ℕ) (net : Network) (streams : Streams) (before now : ℕ) (a b : Option Told)
    → ReadsAs (Err fault) (certificate_of net streams text)
    → WhereTold a b (OfFiles (IsFileIn word text)) → InPlace (certificate_status fault) (IsNoFile word) (CertificateRefused word net streams) before now a b
certificate_refused Memory word text net streams before now a b due is = tt
certificate_refused (Fault line rule) word text net streams before now a b due is = by (certificate_of net streams text) refl due
  where
    by : (r : Result Rows (ℕ × ℕ)) → r ≡ certificate_of net streams text → ReadsAs (Err (Fault line rule)) r
        → WhereTold a b (OfFiles (CertificateRefused word net streams (status.Form file.Cert line rule)))
    by (Ok rows) same due = absurd due
    by (Err place) same due =
        let is_place : status.Form file.Cert line rule ≡ status.Form file.Cert place.0 place.1 = λ i. status.Form file.Cert (due.0 i) (due.1 i) in
        of_more a b (IsFileIn word text) (CertificateRefused word net streams (status.Form file.Cert line rule)) (λ files p. inr (text, p, (place, sym same, is_place))) is

-- ---- readings of one text

pub network_instead : (word : List ℕ) (s : Status) (before now : ℕ) (a b : Option Told) → InPlace s (IsGone pair_network word) (NetRefused word) before now a b
    → Instead (network_in word) s before now a b
network_instead word s before now a b = text_instead (network_in word) (IsGone pair_network word) s before now a b (λ t p. p) (λ p. p)

pub streams_instead : (word : List ℕ) (net : Network) (s : Status) (before now : ℕ) (a b : Option Told) → InPlace s (IsGone pair_streams word) (StreamsRefused word net) before now a b
    → Instead (streams_in word net) s before now a b
streams_instead word net s before now a b = text_instead (streams_in word net) (IsGone pair_streams word) s before now a b (λ t p. p) (λ p. p)

pub certificate_instead : (word : List ℕ) (net : Network) (streams : Streams) (s : Status) (before now : ℕ) (a b : Option Told)
    → InPlace s (IsNoFile word) (CertificateRefused word net streams) before now a b
    → Instead (certificate_in word net streams) s before now a b
certificate_instead word net streams s before now a b = text_instead (certificate_in word net streams) (IsNoFile word) s before now a b (gone_file word) (λ p. p)

-- ---- which answers may come

rejected_refusing : (net : Network) (streams : Streams) (c : Certificate) (s : Status) → IsRejected net streams c s → IsInstead s
rejected_refusing net streams c s (has, (clause, row, breaks, is)) = subst IsInstead (sym is) tt

pub certified_refusing : (streams_word certificate_word : List ℕ) (net : Network) → Refusing (certified_in streams_word certificate_word net)
certified_refusing streams_word certificate_word net =
    then_refusing (streams_in streams_word net) (good_certificate_in certificate_word net) text_refusing
    (λ streams. tested_refusing (certificate_in certificate_word net streams) (GoodCertificate net streams) (IsRejected net streams) text_refusing (rejected_refusing net streams))

pub judging_refusing : (words : JudgeWords) → Refusing (judging words)
judging_refusing words = then_refusing (network_in words.net) (certified_in words.streams words.certificate) text_refusing (certified_refusing words.streams words.certificate)
