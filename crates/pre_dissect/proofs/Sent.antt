-- The octets of an mPacket, by what the program finds of it.
use Rattle.std.proofs.Common.{ℕ, ◌≡◌, ◌+◌, ◌-◌, ◌≤◌, List, ◌++◌, length, take, drop, Option, Result, Ok, Err, refl, sym, ◌∙◌, ap, subst, arith, length-append}
use Rattle.std.specs.Prelude.{IsSomeAnd, slice_index_or}
use Rattle.std.specs.Result.{result_ok}
use Rattle.std.specs.Prelude.{IsOk, IfOk, OnOk, replicate}
use Rattle.std.specs.Result.{IsErr}
use Rattle.std.proofs.lemmas.List.{drop-take, take-take}
use Rattle.pre_history.proofs.Undamaged.{length-FrameOf}
use Rattle.std.proofs.lemmas.Bool.{false≢true}
use Rattle.pre_base.specs.declared.numbers.Room.{Room}
use Rattle.pre_crc.specs.Checks.{Mcrc}
use Rattle.pre_crc.proofs.CheckFacts.{length-Mcrc}
use Rattle.std.proofs.Math.Seq.{take-append_seam}
use Rattle.pre_mpacket.specs.declared.packets.Kind.{Kind}
use Rattle.pre_mpacket.specs.Spelling.{Spells, head_of}
use Rattle.pre_history.specs.declared.events.What.{What}
use Rattle.pre_history.specs.declared.events.What.TheVariants as what
use Rattle.pre_history.specs.Scenario.{Scenario, row, send, FrameOf}
use Rattle.pre_history.specs.Octets.{BareOctets}
use Rattle.pre_streams.specs.declared.rows.Row.{Row}
use Rattle.pre_base.specs.declared.numbers.NodeId.{NodeId}
use Rattle.pre_frame.specs.Layout.{frame_of}
use Rattle.pre_incoming.proofs.Building.{octets_put}
use Rattle.pre_dissect.specs.Sendings.{IsWholeOf}

-- octets at the front of the memory
pub at_front : (advert new rest : List ℕ) → new ≡ advert → length advert ≡ 64 → take 64 (new ++ rest) ≡ advert
at_front advert new rest is long = ap (λ l. take 64 (l ++ rest)) is ∙ (ap (λ n. take n (advert ++ rest)) (sym long) ∙ take-append_seam advert rest)

pub lldp_is : (w : Scenario) (advert whole : List ℕ) (x : What) → x ≡ what.Lldp → IsWholeOf w advert x whole → whole ≡ advert
lldp_is w advert whole x is holds = subst (λ y. IsWholeOf w advert y whole) is holds

pub bare_is : (w : Scenario) (advert whole : List ℕ) (x : What) → x ≡ what.Nothing → IsWholeOf w advert x whole → whole ≡ BareOctets
bare_is w advert whole x is holds = subst (λ y. IsWholeOf w advert y whole) is holds

pub bare_long : length BareOctets ≡ 64
bare_long = omega (arith, length-append (replicate 60 0) (Mcrc (replicate 60 0)), length-Mcrc (replicate 60 0))

-- an mPacket that was written, by its parts
pub written : (k : Kind) (mdata check into octets : List ℕ) (r : Result ℕ Room) (o : Option ℕ) → o ≡ result_ok r → IsOk r → IfOk r (λ n. Spells (record { kind = k; mdata = mdata; check = check }) (take n into))
    → head_of k ++ mdata ++ check ≡ octets → IsSomeAnd o (λ n. take n into ≡ octets)
written k mdata check into octets (Ok m) o is ok spells same = subst (λ x. IsSomeAnd x (λ n. take n into ≡ octets)) (sym is) (spells.joined ∙ same)
written k mdata check into octets (Err e) o is ok spells same = absurd (false≢true ok)

pub room_for : (r : Result ℕ Room) → ¬ (IsErr r) → IsOk r
room_for (Ok n) other = refl
room_for (Err e) other = absurd (other refl)

-- a piece of octets, of which so many are at the front of the memory
pub piece : (from size count : ℕ) (buffer whole : List ℕ) → take count buffer ≡ whole → from + size ≤ count → 64 ≤ size → take (from + size - 4 - from) (drop from buffer) ≡ take (size - 4) (drop from whole)
piece from size count buffer whole front fits least =
    let n : from + size - 4 - from ≡ size - 4 = omega (arith, least) in
    let split : from + (count - from) ≡ count = omega (arith, fits) in
    ap (λ k. take k (drop from buffer)) n
    ∙ (sym (take-take (size - 4) (count - from) (drop from buffer) (omega (arith, fits)))
    ∙ (ap (take (size - 4)) (sym (drop-take from (count - from) buffer))
    ∙ ap (λ xs. take (size - 4) (drop from xs)) (ap (λ k. take k buffer) split ∙ front)))

-- a frame that was built at the front of the memory
pub frame_put : (w : Scenario) (f size : ℕ) (into new : List ℕ) → 64 ≤ (send w f).send.size → size ≡ (send w f).send.size → new ≡ FrameOf w f ++ drop size into → take size new ≡ FrameOf w f
frame_put w f size into new least is built =
    let long : length (FrameOf w f) ≡ size = length-FrameOf w f (omega (arith, least)) ∙ sym is in
    ap (take size) built ∙ (ap (λ n. take n (FrameOf w f ++ drop size into)) (sym long) ∙ take-append_seam (FrameOf w f) (drop size into))

-- a frame that was built, by its parts
pub built : (w : Scenario) (f size : ℕ) (r : Result ℕ Room) (o : Option ℕ) (into new : List ℕ) → o ≡ result_ok r → IsOk r → IfOk r (λ n. n ≡ size) → (OnOk r (new ≡ FrameOf w f ++ drop size into))
    → size ≡ (send w f).send.size → 64 ≤ (send w f).send.size → IsSomeAnd o (λ n. take n new ≡ FrameOf w f)
built w f size (Ok m) o into new is ok same put sized least = subst (λ x. IsSomeAnd x (λ n. take n new ≡ FrameOf w f)) (sym is) (ap (λ n. take n new) same ∙ frame_put w f size into new least sized put)
built w f size (Err e) o into new is ok same put sized least = absurd (false≢true ok)

pub if_ok : {P Q : Type 0} (r : Result ℕ Room) → (P → Q) → OnOk r P → OnOk r Q
if_ok (Ok n) f p = f p
if_ok (Err e) f p = tt

pub put_of : (w : Scenario) (f : ℕ) (r : Row) (nodes : List NodeId) (d e : NodeId) (into new : List ℕ) (size : ℕ) → r ≡ row w f → nodes ≡ r.route → 2 ≤ length r.route → size ≡ (send w f).send.size
    → new ≡ frame_of (slice_index_or nodes (length nodes - 1) d).0 (slice_index_or nodes 0 e).0 r.prio r.vid f size ++ drop size into → new ≡ FrameOf w f ++ drop size into
put_of w f r nodes d e into new size row_is route_is long sized put =
    octets_put w f r nodes row_is route_is long d e r.prio w.script.sends into new size refl refl sized
    (subst (λ n. new ≡ frame_of (slice_index_or nodes (length nodes - 1) d).0 (slice_index_or nodes 0 e).0 r.prio r.vid f n ++ drop n into) sized put)
