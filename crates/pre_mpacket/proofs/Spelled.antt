-- Octets spell one mPacket at most, and none where they have a fault.
use Rattle.std.proofs.Common.{◌≡◌, ℕ, zero, suc, ◌+◌, ◌-◌, ◌<◌, ◌≤◌, Bool, true, false, List, [], ◌∷◌, ◌++◌}
use Rattle.std.proofs.Common.{length, take, drop, Option, Some, None, refl, sym, ◌∙◌, ap, subst, arith, append_assoc, length-append}
use Rattle.std.specs.Prelude.{cond, ◌&&◌, nat_lt, nat_eq, option_map, find}
use Rattle.std.specs.List.{starts_with, list_all}
use Rattle.std.proofs.Math.Seq.{take-append_seam, drop-append_seam}
use Rattle.std.proofs.Math.ListN.{drop_of_length-le}
use Rattle.std.proofs.lemmas.Bool.{le-ltb, ltb-true, ltb-false}
use Rattle.std.proofs.lemmas.Bool.Decides.{Decides-eqb, nat_tests}
use Rattle.std.proofs.lemmas.List.{take-append-drop, append-nil, drop-drop, length-take, length-take-le, length-drop}
use Rattle.std.proofs.lemmas.Slice.Eq.{starts_is}
use Rattle.pre_mpacket.specs.declared.packets.Kind.{Kind}
use Rattle.pre_mpacket.specs.declared.packets.Kind.TheVariants as kind
use Rattle.pre_mpacket.specs.Spelling.{PlainPacket, head_of, HasCounts, Spells, kinds, kind_with, packet_at, mpacket_of}

-- a count of 0 to 3 is one of these
pub four : (P : ℕ → Type 0) → P 0 → P 1 → P 2 → P 3 → (c : ℕ) → c < 4 → P c
four P p q r s zero h = p
four P p q r s (suc zero) h = q
four P p q r s (suc (suc zero)) h = r
four P p q r s (suc (suc (suc zero))) h = s
four P p q r s (suc (suc (suc (suc c)))) h = absurd (omega arith)

-- ---- heads

pub length-head_of : (k : Kind) → length (head_of k) ≡ 8
length-head_of kind.Express = refl
length-head_of kind.Verify = refl
length-head_of kind.Respond = refl
length-head_of (kind.Start c) = refl
length-head_of (kind.Continue c n) = refl

-- each kind is found by its head
found : (k : Kind) → HasCounts k → kind_with (head_of k) ≡ Some k
found kind.Express h = refl
found kind.Verify h = refl
found kind.Respond h = refl
found (kind.Start c) h = four (λ x. kind_with (head_of (kind.Start x)) ≡ Some (kind.Start x)) refl refl refl refl c h
found (kind.Continue c n) h =
    let at : ℕ → ℕ → Type 0 = λ x y. kind_with (head_of (kind.Continue x y)) ≡ Some (kind.Continue x y) in
    four (λ x. at x n)
    (four (at 0) refl refl refl refl n h.1)
    (four (at 1) refl refl refl refl n h.1)
    (four (at 2) refl refl refl refl n h.1)
    (four (at 3) refl refl refl refl n h.1)
    c h.0

head_of-one : (k l : Kind) → HasCounts k → HasCounts l → head_of k ≡ head_of l → k ≡ l
head_of-one k l h i same =
    let e : Some k ≡ Some l = sym (found k h) ∙ (ap kind_with same ∙ found l i) in cc

-- what a look-up finds passes its test, and any test that all pass
find-passes : {X : Type 0} (test : X → Bool) (xs : List X) (x : X) → find test xs ≡ Some x → test x ≡ true
find-passes test [] x is = absurd (cc is)
find-passes test (y ∷ ys) x is = case (test y) refl is (find-passes test ys x)
  where
    case : (b : Bool) → test y ≡ b → cond b (Some y) (find test ys) ≡ Some x → (find test ys ≡ Some x → test x ≡ true) → test x ≡ true
    case true e is' more = let same : y ≡ x = cc in ap test (sym same) ∙ e
    case false e is' more = more is'

find-among : {X : Type 0} (other test : X → Bool) (xs : List X) (x : X) → list_all other xs ≡ true → find test xs ≡ Some x → other x ≡ true
find-among other test [] x all is = absurd (cc is)
find-among other test (y ∷ ys) x all is = case (test y) (other y) refl all is (find-among other test ys x)
  where
    case : (b c : Bool) → other y ≡ c → (c && list_all other ys) ≡ true → cond b (Some y) (find test ys) ≡ Some x
        → (list_all other ys ≡ true → find test ys ≡ Some x → other x ≡ true) → other x ≡ true
    case true true e all' is' more = let same : y ≡ x = cc in ap other (sym same) ∙ e
    case true false e all' is' more = absurd (cc all')
    case false true e all' is' more = more all' is'
    case false false e all' is' more = absurd (cc all')

has_counts : Kind → Bool
has_counts (kind.Start c) = nat_lt c 4
has_counts (kind.Continue c n) = nat_lt c 4 && nat_lt n 4
has_counts other = true

counts_of : (k : Kind) → has_counts k ≡ true → HasCounts k
unfolding has_counts
counts_of kind.Express h = tt
counts_of kind.Verify h = tt
counts_of kind.Respond h = tt
counts_of (kind.Start c) h = ltb-true c 4 h
counts_of (kind.Continue c n) h = grind (arith, nat_tests)

-- the kind that is found has this head
head_found : (head : List ℕ) (k : Kind) → length head ≡ 8 → kind_with head ≡ Some k → HasCounts k × (head ≡ head_of k)
unfolding has_counts
head_found head k eight is =
    let passes : starts_with nat_eq head (head_of k) ≡ true = find-passes (λ x. starts_with nat_eq head (head_of x)) kinds k is in
    let front : head ≡ head_of k ++ drop (length (head_of k)) head = (starts_is Decides-eqb head (head_of k) (starts_with nat_eq head (head_of k)) refl).0 passes in
    let rest : drop (length (head_of k)) head ≡ [] = drop_of_length-le head (omega (arith, eight, length-head_of k)) in
    (counts_of k (find-among has_counts (λ x. starts_with nat_eq head (head_of x)) kinds k refl is), front ∙ (ap (λ l. head_of k ++ l) rest ∙ append-nil (head_of k)))

-- ---- parts

pub take-front : (front rest : List ℕ) (n : ℕ) → length front ≡ n → take n (front ++ rest) ≡ front
take-front front rest n is = subst (λ k. take k (front ++ rest) ≡ front) is (take-append_seam front rest)

pub drop-front : (front rest : List ℕ) (n : ℕ) → length front ≡ n → drop n (front ++ rest) ≡ rest
drop-front front rest n is = subst (λ k. drop k (front ++ rest) ≡ rest) is (drop-append_seam front rest)

pub length-joined : (m : PlainPacket) (octets : List ℕ) → Spells m octets → length octets ≡ 12 + length m.mdata
length-joined m octets s =
    omega (arith, ap length s.joined, length-append (head_of m.kind ++ m.mdata) m.check, length-append (head_of m.kind) m.mdata, length-head_of m.kind, s.whole.check)

-- octets that spell an mPacket give it
pub spelled_given : (m : PlainPacket) (octets : List ℕ) → Spells m octets → mpacket_of octets ≡ Some m
unfolding mpacket_of
spelled_given m octets s =
    let all = length-joined m octets s in
    let eight = length-head_of m.kind in
    let cut : octets ≡ head_of m.kind ++ (m.mdata ++ m.check) = s.joined ∙ append_assoc (head_of m.kind) m.mdata m.check in
    let long : nat_lt (length octets) 72 ≡ false = le-ltb (length octets) 72 (omega (arith, all, s.whole.mdata)) in
    let head : take 8 octets ≡ head_of m.kind = ap (take 8) cut ∙ take-front (head_of m.kind) (m.mdata ++ m.check) 8 eight in
    let body : drop 8 octets ≡ m.mdata ++ m.check = ap (drop 8) cut ∙ drop-front (head_of m.kind) (m.mdata ++ m.check) 8 eight in
    let named : kind_with (take 8 octets) ≡ Some m.kind = ap kind_with head ∙ found m.kind s.whole.counts in
    let mdata : take (length octets - 12) (drop 8 octets) ≡ m.mdata = ap (take (length octets - 12)) body ∙ take-front m.mdata m.check (length octets - 12) (omega (arith, all)) in
    let front : length (head_of m.kind ++ m.mdata) ≡ length octets - 4 = omega (arith, all, length-append (head_of m.kind) m.mdata, eight) in
    let check : drop (length octets - 4) octets ≡ m.check = ap (drop (length octets - 4)) s.joined ∙ drop-front (head_of m.kind ++ m.mdata) m.check (length octets - 4) front in
    rw (long, named, mdata, check) refl

pub spelled_one : (m n : PlainPacket) (octets : List ℕ) → Spells m octets → Spells n octets → m ≡ n
spelled_one m n octets s t = let e : Some m ≡ Some n = sym (spelled_given m octets s) ∙ spelled_given n octets t in cc

-- three parts of a list
thirds : (xs : List ℕ) (a b : ℕ) → xs ≡ take a xs ++ take b (drop a xs) ++ drop (a + b) xs
thirds xs a b =
    sym (take-append-drop a xs)
    ∙ (ap (λ l. take a xs ++ l) (sym (take-append-drop b (drop a xs)))
    ∙ (ap (λ l. take a xs ++ (take b (drop a xs) ++ l)) (drop-drop b a xs)
    ∙ sym (append_assoc (take a xs) (take b (drop a xs)) (drop (a + b) xs))))

-- what a choice gave
chosen : {X Y : Type 0} (b : Bool) (o : Option X) (f : X → Y) (y : Y) → cond b None (option_map f o) ≡ Some y → (b ≡ false) × ((x : X) × (o ≡ Some x) × (f x ≡ y))
chosen true o f y is = absurd (cc is)
chosen false None f y is = absurd (cc is)
chosen false (Some x) f y is = let e : f x ≡ y = cc in (refl, (x, refl, e))

-- Octets with the head of a kind spell the mPacket that is cut from them.
pub cut_spells : (k : Kind) (octets : List ℕ) → HasCounts k → 72 ≤ length octets → take 8 octets ≡ head_of k → Spells (packet_at octets k) octets
cut_spells k octets counts long head = record {
  whole = record {
    counts = counts;
    mdata = omega (arith, long, length-take (length octets - 12) (drop 8 octets), length-drop 8 octets);
    check = omega (arith, long, length-drop (length octets - 4) octets);
  };
  joined =
      thirds octets 8 (length octets - 12)
      ∙ (ap (λ h. h ++ take (length octets - 12) (drop 8 octets) ++ drop (8 + (length octets - 12)) octets) head
      ∙ ap (λ n. head_of k ++ take (length octets - 12) (drop 8 octets) ++ drop n octets) (omega (arith, long)));
}

-- and octets that give an mPacket spell it
pub given_spells : (m : PlainPacket) (octets : List ℕ) → mpacket_of octets ≡ Some m → Spells m octets
unfolding mpacket_of
given_spells m octets is =
    let parts = chosen (nat_lt (length octets) 72) (kind_with (take 8 octets)) (packet_at octets) m is in
    let long : 72 ≤ length octets = ltb-false (length octets) 72 parts.0 in
    let k = parts.1.0 in
    let eight : length (take 8 octets) ≡ 8 = length-take-le 8 octets (omega (arith, long)) in
    let head = head_found (take 8 octets) k eight parts.1.1 in
    subst (λ x. Spells x octets) parts.1.2 (cut_spells k octets head.0 long head.1)
