-- Fragments in order, and one more.
use Rattle.std.proofs.Common.{ℕ, suc, ◌≡◌, ◌≤◌, ◌<◌, ◌+◌, ◌%◌, List, [], ◌∷◌, ◌++◌, length, take, drop, refl, sym, ◌∙◌, ap, ap₂, arith}
use Rattle.std.proofs.lemmas.List.{append-nil, append_assoc, take-append-drop}
use Rattle.std.proofs.lemmas.Grind.{flat_map-append}
use Rattle.std.proofs.Math.Seq.{take-add}
use Rattle.pre_crc.specs.Checks.{Mcrc}
use Rattle.pre_mpacket.specs.declared.packets.Kind.TheVariants as kind
use Rattle.pre_mpacket.specs.Spelling.{PlainPacket}
use Rattle.pre_mpacket.specs.Pieces.{joined, last_check, IsContinued, IsSequenceOf, IsChecked, least_fragment, HasSizes, Carries}

-- each has as check the Mcrc of all mData up to its end
abbrev pub AllChecked : List ℕ → List PlainPacket → Type 0
AllChecked before [] = Unit {0}
AllChecked before (m ∷ ms) = (m.check ≡ Mcrc (before ++ m.mdata)) × AllChecked (before ++ m.mdata) ms

-- each has the least mData that is sent before a cut
abbrev pub AllLong : ℕ → List PlainPacket → Type 0
AllLong add_frag [] = Unit {0}
AllLong add_frag (m ∷ ms) = (least_fragment add_frag ≤ length m.mdata) × AllLong add_frag ms

pub joined_push : (ms : List PlainPacket) (m : PlainPacket) → joined (ms ++ m ∷ []) ≡ joined ms ++ m.mdata
joined_push ms m = flat_map-append (λ (x : PlainPacket). x.mdata) ms (m ∷ []) ∙ ap (λ l. joined ms ++ l) (append-nil m.mdata)

last_push : (ms : List PlainPacket) (m : PlainPacket) → last_check (ms ++ m ∷ []) ≡ m.check
last_push [] m = refl
last_push (n ∷ []) m = refl
last_push (n ∷ o ∷ ms) m = last_push (o ∷ ms) m

continued_push : (c n : ℕ) (ms : List PlainPacket) (m : PlainPacket) → IsContinued c n ms → m.kind ≡ kind.Continue c ((n + length ms) % 4) → IsContinued c n (ms ++ m ∷ [])
continued_push c n [] m h is = (is ∙ ap (λ k. kind.Continue c (k % 4)) (omega arith), tt)
continued_push c n (x ∷ ms) m h is = (h.0, continued_push c (n + 1) ms m h.1 (is ∙ ap (λ k. kind.Continue c (k % 4)) (omega arith)))

pub sequence_push : (c k : ℕ) (ms : List PlainPacket) (m : PlainPacket) → IsSequenceOf c ms → length ms ≡ suc k → m.kind ≡ kind.Continue c (k % 4) → IsSequenceOf c (ms ++ m ∷ [])
sequence_push c k [] m h count is = absurd h
sequence_push c k (x ∷ ms) m h count is = (h.0, continued_push c 0 ms m h.1 (is ∙ ap (λ n. kind.Continue c (n % 4)) (omega (arith, count))))

pub checked_push : (before : List ℕ) (ms : List PlainPacket) (m : PlainPacket) → AllChecked before ms → m.check ≡ Mcrc (before ++ joined ms ++ m.mdata) → AllChecked before (ms ++ m ∷ [])
checked_push before [] m h is = (is ∙ ap (λ l. Mcrc (l ++ m.mdata)) (append-nil before), tt)
checked_push before (x ∷ ms) m h is = (h.0, checked_push (before ++ x.mdata) ms m h.1 (is ∙ ap (λ l. Mcrc (l ++ m.mdata)) (sym (append_assoc before x.mdata (joined ms)))))

pub long_push : (a : ℕ) (ms : List PlainPacket) (m : PlainPacket) → AllLong a ms → least_fragment a ≤ length m.mdata → AllLong a (ms ++ m ∷ [])
long_push a [] m h le = (le, tt)
long_push a (x ∷ ms) m h le = (h.0, long_push a ms m h.1 le)

is_checked : (before : List ℕ) (ms : List PlainPacket) (m : PlainPacket) → AllChecked before ms → IsChecked before (ms ++ m ∷ [])
is_checked before [] m h = tt
is_checked before (n ∷ []) m h = (h.0, tt)
is_checked before (n ∷ o ∷ ms) m h = (h.0, is_checked (before ++ n.mdata) (o ∷ ms) m h.1)

has_sizes : (a : ℕ) (ms : List PlainPacket) (m : PlainPacket) → AllLong a ms → (0 < length ms → 64 ≤ length m.mdata + length m.check) → HasSizes a (ms ++ m ∷ [])
has_sizes a [] m h last = tt
has_sizes a (n ∷ []) m h last = (h.0, last (omega arith))
has_sizes a (n ∷ o ∷ []) m h last = (h.0, has_sizes a (o ∷ []) m h.1 (λ some. last (omega arith)))
has_sizes a (n ∷ o ∷ r ∷ ms) m h last = (h.0, has_sizes a (o ∷ r ∷ ms) m h.1 (λ some. last (omega arith)))

-- a last fragment, after so many octets of a frame
pub carried : (ms : List PlainPacket) (m : PlainPacket) (a c from n : ℕ) (octets : List ℕ) → IsSequenceOf c (ms ++ m ∷ []) → joined ms ≡ take from octets → AllChecked [] ms → AllLong a ms
    → m.mdata ≡ take n (drop from octets) → m.check ≡ drop (from + n) octets → (0 < length ms → 64 ≤ length m.mdata + length m.check) → Carries octets a (ms ++ m ∷ [])
carried ms m a c from n octets sequence before checked long mdata check last = record {
  sequence = (c, sequence);
  whole = ap₂ (λ (x y : List ℕ). x ++ y) (joined_push ms m ∙ (ap₂ (λ (x y : List ℕ). x ++ y) before mdata ∙ sym (take-add from n octets))) (last_push ms m ∙ check)
      ∙ take-append-drop (from + n) octets;
  checked = is_checked [] ms m checked;
  sizes = has_sizes a ms m long last;
}
