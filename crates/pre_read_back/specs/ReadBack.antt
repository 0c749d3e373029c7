-- A certificate that is written and read again.
use Rattle.std.specs.Prelude.{◌≡◌, ◌++◌, List, [], ◌∷◌, ℕ, Result, Ok, Err, codes}
use Rattle.std.specs.List.{flat_map}
use Rattle.pre_text.specs.Reading.{AreWords}
use Rattle.pre_text.specs.Writing.{line_of}
use Rattle.pre_topo.specs.declared.network.Network.{Network}
use Rattle.pre_streams.specs.declared.rows.Streams.{Streams}
use Rattle.pre_streams.specs.Fits.{Fits}
use Rattle.pre_bound.specs.declared.certificate.Certificate.{Certificate}
use Rattle.pre_bound.specs.Listed.{GoodCertificate}
use Rattle.pre_check.specs.declared.reading.CertificateFault.{CertificateFault}
use Rattle.pre_check.specs.declared.reading.CertificateFault.TheVariants.{Memory}
use Rattle.pre_check.specs.Lines.{HasRows}
use Rattle.pre_check.specs.Seen.{Rows, rows_in}
use Rattle.pre_check.specs.Reading.{ReadsAs, certificate_of}
use Rattle.pre_certify.specs.Text.{certificate_text}

-- what was read is a certificate with the same rows; want of memory alone may come in its place
abbrev pub GivesBack : Certificate → Result Certificate CertificateFault → Type 0
GivesBack c (Ok d) = rows_in d ≡ rows_in c
GivesBack c (Err e) = e ≡ Memory

-- the certificate's text spells its rows, and nothing else is read of it
pub record IsReadBack (net : Network) (streams : Streams) (c : Certificate) : Type 0 where
  pub spells : certificate_of net streams (certificate_text net streams.rows c) ≡ Ok (rows_in c)
  pub gives : (r : Result Certificate CertificateFault) → ReadsAs r (certificate_of net streams (certificate_text net streams.rows c)) → GivesBack c r

-- so where it has the rows that are due, and its arcs have ranks or none has one
abbrev pub DueAreReadBack : Type 0
DueAreReadBack = (net : Network) (streams : Streams) (c : Certificate) → Fits net streams → HasRows net streams.rows c → IsReadBack net streams c

-- and so where it was read of any text, of whichever version
abbrev pub ReadAreReadBack : Type 0
ReadAreReadBack = (net : Network) (streams : Streams) (text : List ℕ) (c : Certificate) → Fits net streams → certificate_of net streams text ≡ Ok (rows_in c) → IsReadBack net streams c

-- a good certificate is read back, and what is read is as good
abbrev pub GoodAreReadBack : Type 0
GoodAreReadBack = (net : Network) (streams : Streams) (c d : Certificate) → Fits net streams → GoodCertificate net streams c
    → IsReadBack net streams c × (rows_in d ≡ rows_in c → GoodCertificate net streams d)

-- a comment's line of these words behind its first one
abbrev pub comment_line : List (List ℕ) → List ℕ
comment_line words = line_of (codes "#") words

abbrev pub comment_lines : List (List (List ℕ)) → List ℕ
comment_lines comments = flat_map comment_line comments

abbrev pub AreComments : List (List (List ℕ)) → Type 0
AreComments [] = Unit {0}
AreComments (words ∷ comments) = AreWords words × AreComments comments

-- a text that spells rows spells them behind comments too
abbrev pub CommentsAreSkipped : Type 0
CommentsAreSkipped = (net : Network) (streams : Streams) (comments : List (List (List ℕ))) (text : List ℕ) (rows : Rows) → AreComments comments
    → certificate_of net streams text ≡ Ok rows → certificate_of net streams (comment_lines comments ++ text) ≡ Ok rows
