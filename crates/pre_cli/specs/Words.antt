-- The words of the commands over a certificate.
use Rattle.std.specs.Prelude.{ℕ, List}

-- the words for the network, the streams and the certificate
pub record JudgeWords : Type 0 where
  pub net : List ℕ
  pub streams : List ℕ
  pub certificate : List ℕ

abbrev pub judge_words : List ℕ → List ℕ → List ℕ → JudgeWords
judge_words net streams certificate = record { net = net; streams = streams; certificate = certificate }

-- the same three, and the word for the script
pub record ReplayWords : Type 0 where
  pub plan : JudgeWords
  pub script : List ℕ

abbrev pub replay_words : List ℕ → List ℕ → List ℕ → List ℕ → ReplayWords
replay_words net streams certificate script = record { plan = judge_words net streams certificate; script = script }

-- the words for the network, the streams, the script and the arc of a capture
pub record CaptureWords : Type 0 where
  pub net : List ℕ
  pub streams : List ℕ
  pub script : List ℕ
  pub arc : List ℕ

abbrev pub capture_words : List ℕ → List ℕ → List ℕ → List ℕ → CaptureWords
capture_words net streams script arc = record { net = net; streams = streams; script = script; arc = arc }

-- the words for the network, the streams and the file of more streams
pub record AdmitWords : Type 0 where
  pub net : List ℕ
  pub streams : List ℕ
  pub more : List ℕ

abbrev pub admit_words : List ℕ → List ℕ → List ℕ → AdmitWords
admit_words net streams more = record { net = net; streams = streams; more = more }
