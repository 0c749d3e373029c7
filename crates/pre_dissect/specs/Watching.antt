-- What a capture watcher knows, and what its sink took.
use Rattle.std.specs.Prelude.{ℕ, ◌≡◌, Bool, List, [], ◌∷◌, ◌++◌, length, suc, Option, Some, None, IfSome, slice_get}
use Rattle.pre_base.specs.Sinks.{Taken}
use Rattle.pre_mpacket.specs.Spelling.{HasCounts}
use Rattle.pre_history.specs.declared.events.What.TheVariants as what
use Rattle.pre_history.specs.Scenario.{Scenario}
use Rattle.pre_history.specs.History.{Begin, PlainEvent, History}
use Rattle.pre_history.specs.Queries.{Begins}
use Rattle.pre_history.specs.Octets.{ToldActive, WholeOf}
use Rattle.pre_dissect.specs.declared.newest.Newest.{Newest}
use Rattle.pre_dissect.specs.Captured.{Recorded, Added, octets_of}
use Rattle.pre_dissect.specs.Fronts.{FilesFit, IsLegalFront, IsFront}

module _ (w : Scenario) (h : History) (a : ℕ) where
  -- It began as the newest mPacket of the arc, and where it carries an LLDP frame, that is this one.
  pub record IsNewest (n : Newest) (advert : List ℕ) : Type 0 where
    pub begin : Begin
    pub place : ℕ
    pub begun : slice_get (Begins h a) place ≡ Some begin
    pub newest : length (Begins h a) ≡ suc place
    pub ord : n.ord ≡ begin.ord
    pub kind : n.kind ≡ begin.kind
    pub counts : HasCounts n.kind
    pub carries : n.what ≡ begin.what
    pub from : n.from ≡ begin.from
    pub advert_is : begin.what ≡ what.Lldp → advert ≡ WholeOf w h begin

  abbrev pub IsNewestOrNone : Option Newest → List ℕ → Type 0
  IsNewestOrNone None advert = Begins h a ≡ []
  IsNewestOrNone (Some n) advert = IsNewest n advert

  -- whether the arc is active, and the newest mPacket
  pub record Knows (active : Bool) (newest : Option Newest) (advert : List ℕ) : Type 0 where
    pub active_is : active ≡ ToldActive w h a w.script.until.0
    pub newest_is : IsNewestOrNone newest advert

-- the octets are those before and then the records of the arc
abbrev pub HoldsRecords : Scenario → ℕ → Option Taken → List ℕ → History → Type 0
HoldsRecords w a told base h = IfSome told (λ t. t.octets ≡ base ++ octets_of (Recorded w h a))

-- Where the files fit and the history goes on with the event, it has none after the last tick, the event adds records behind
-- those before, and the octets are the same and a front of what it adds.
abbrev pub HoldsTorn : Scenario → ℕ → Option Taken → List ℕ → History → PlainEvent → Type 0
HoldsTorn w a told base h e =
    FilesFit w → IsLegalFront w (h ++ e ∷ [])
    → IsFront w (h ++ e ∷ []) × (Recorded w (h ++ e ∷ []) a ≡ Recorded w h a ++ Added w h a e)
    × IfSome told (λ t. (front : List ℕ) × (rest : List ℕ) × (octets_of (Added w h a e) ≡ front ++ rest) × (t.octets ≡ base ++ octets_of (Recorded w h a) ++ front))

-- A watcher of the arc that knows this, and whose sink tells that, has taken the history on top of the octets before,
-- where the files fit.
abbrev pub HasTaken : Scenario → ℕ → Bool → Option Newest → List ℕ → Option Taken → List ℕ → History → Type 0
HasTaken w a active newest advert told base h = FilesFit w → IsFront w h → Knows w h a active newest advert × HoldsRecords w a told base h
