-- The fragments on an arc: each continuation goes on with the frame of the fragment before it, which wasn't its last one.
use Rattle.std.proofs.Common.{ℕ, zero, suc, ◌≡◌, ◌⊎◌, ◌==◌, ◌&&◌, ◌||◌, not, nat_lt, ◌+◌, ◌%◌, ◌<◌, ◌≤◌}
use Rattle.std.proofs.Common.{Bool, true, false, List, [], ◌∷◌, ◌++◌, length, take, refl, sym, ◌∙◌, ap, inl, inr, arith, append_assoc}
use Rattle.std.proofs.Common.{Some, filter}
use Rattle.std.specs.Prelude.{if◌then◌else◌, slice_get, unwrap_or, option_map}
use Rattle.std.specs.List.{list_any, AllByRecursion as Every}
use Rattle.std.proofs.lemmas.List.{append-nil}
use Rattle.std.proofs.lemmas.List.Elements.{filter-append}
use Rattle.std.proofs.lemmas.Bool.Decides.{nat_tests}
use Rattle.pre_base.specs.declared.numbers.FrameNo.{FrameNo}
use Rattle.pre_crc.specs.Checks.{Mcrc}
use Rattle.pre_mpacket.specs.declared.packets.Kind.{Kind}
use Rattle.pre_mpacket.specs.declared.packets.Kind.TheVariants as kind
use Rattle.pre_mpacket.specs.Arrivals.{is_fragment, is_start}
use Rattle.pre_mpacket.specs.Pieces.{CutRule, least_fragment}
use Rattle.pre_history.specs.declared.events.What.TheVariants as what
use Rattle.pre_history.specs.Scenario.{Scenario, arc, FrameOf}
use Rattle.pre_history.specs.History.{History, Begin}
use Rattle.pre_history.specs.Selected.{from_last}
use Rattle.pre_history.specs.Queries.{Begins, Ends, Packet, Packets, PacketsBefore, LastRun, packet, end_of, fragment_data, joined_data}
use Rattle.pre_history.specs.Starts.{SizeOf, ExpressWaits, begun}
use Rattle.pre_history.specs.Legal.{LegalUpTo}
use Rattle.pre_history.proofs.Lists.{one_at, filter_nil, every_placed}
use Rattle.pre_history.proofs.Free.{packet_at, first_numbered}
use Rattle.pre_history.proofs.LaterEnds.{packet_back}
use Rattle.pre_history.proofs.InOrder.{steady}
use Rattle.pre_history.proofs.Rising.{rises}
use Rattle.pre_history.proofs.NatTests.{is_lt}

-- ---- lists

-- what passes a test that a front passes and the rest doesn't
pub filter_front : {X : Type 0} (test : X → Bool) (xs : List X) (i : ℕ) → ((k : ℕ) (x : X) → k < i → slice_get xs k ≡ Some x → test x ≡ true) → ((k : ℕ) (x : X) → i ≤ k → slice_get xs k ≡ Some x → test x ≡ false)
    → filter test xs ≡ take i xs
filter_front test [] zero pass fail = refl
filter_front test [] (suc i) pass fail = refl
filter_front test (x ∷ xs) zero pass fail = filter_nil test (x ∷ xs) (every_placed (λ x. test x ≡ false) (x ∷ xs) (λ k y at. fail k y (omega arith) at))
filter_front test (x ∷ xs) (suc i) pass fail =
    let here : test x ≡ true = pass 0 x (omega arith) refl in
    rw here (ap (λ l. x ∷ l) (filter_front test xs i (λ k y lt at. pass (suc k) y (omega (arith, lt)) at) (λ k y le at. fail (suc k) y (omega (arith, le)) at)))

pub take_next : {X : Type 0} (xs : List X) (k : ℕ) (x : X) → slice_get xs k ≡ Some x → take (suc k) xs ≡ take k xs ++ x ∷ []
take_next [] k x at = absurd (cc at)
take_next {X} (y ∷ xs) zero x at = let same : y ≡ x = cc at in ap (λ (z : X). z ∷ []) same
take_next (y ∷ xs) (suc k) x at = ap (λ l. y ∷ l) (take_next xs k x at)

any_push : {X : Type 0} (test : X → Bool) (xs : List X) (x : X) → test x ≡ false → list_any test (xs ++ x ∷ []) ≡ list_any test xs
any_push test [] x off = rw off refl
any_push test (y ∷ xs) x off = rw (any_push test xs x off) refl

any_last : {X : Type 0} (test : X → Bool) (xs : List X) (x : X) → test x ≡ true → list_any test (xs ++ x ∷ []) ≡ true
any_last test [] x on = rw on refl
any_last test (y ∷ xs) x on = rw (any_last test xs x on) (or_true (test y))
  where
    or_true : (b : Bool) → (b || true) ≡ true
    or_true true = refl
    or_true false = refl

-- a run begins anew, or goes on
from_last_new : {X : Type 0} (test : X → Bool) (xs : List X) (x : X) → test x ≡ true → from_last test (xs ++ x ∷ []) ≡ x ∷ []
from_last_new test [] x on = rw on refl
from_last_new test (y ∷ xs) x on = rw (any_last test xs x on) (go (test y) (from_last_new test xs x on))
  where
    go : (b : Bool) → from_last test (xs ++ x ∷ []) ≡ x ∷ [] → (if b && not true then y ∷ (xs ++ x ∷ []) else from_last test (xs ++ x ∷ [])) ≡ x ∷ []
    go true rest = rest
    go false rest = rest

from_last_more : {X : Type 0} (test : X → Bool) (xs : List X) (x y : X) (ys : List X) → test x ≡ false → from_last test xs ≡ y ∷ ys → from_last test (xs ++ x ∷ []) ≡ y ∷ (ys ++ x ∷ [])
from_last_more test [] x y ys off is = absurd (cc is)
from_last_more {X} test (z ∷ xs) x y ys off is = rw (any_push test xs x off) (go (test z && not (list_any test xs)) is (λ e. from_last_more test xs x y ys off e))
  where
    go : (b : Bool) → (if b then z ∷ xs else from_last test xs) ≡ y ∷ ys → (from_last test xs ≡ y ∷ ys → from_last test (xs ++ x ∷ []) ≡ y ∷ (ys ++ x ∷ []))
        → (if b then z ∷ (xs ++ x ∷ []) else from_last test (xs ++ x ∷ [])) ≡ y ∷ (ys ++ x ∷ [])
    go true same rest = ap (λ l. l ++ x ∷ []) same
    go false same rest = rest same

-- ---- fragments

abbrev pub is_begun_start : Packet → Bool
is_begun_start p = is_start p.begin.kind

abbrev pub is_begun_fragment : Packet → Bool
is_begun_fragment p = is_fragment p.begin.kind

abbrev pub check_of : Packet → List ℕ
check_of p = unwrap_or (option_map (λ e. e.check) p.ended) []

-- each of these has the check of all data up to its end
abbrev pub AllChecked : Scenario → History → List ℕ → List Packet → Type 0
AllChecked w h acc [] = Unit {0}
AllChecked w h acc (p ∷ ps) = (check_of p ≡ Mcrc (acc ++ fragment_data w h p)) × AllChecked w h (acc ++ fragment_data w h p) ps

-- continuations of this frame count, with fragment counts in order from n on
abbrev pub AllContinued : ℕ → ℕ → List Packet → Type 0
AllContinued c n [] = Unit {0}
AllContinued c n (p ∷ ps) = (p.begin.kind ≡ kind.Continue c (n % 4)) × AllContinued c (n + 1) ps

pub checked_push : (w : Scenario) (h : History) (acc : List ℕ) (ps : List Packet) (p : Packet) → AllChecked w h acc ps → check_of p ≡ Mcrc (acc ++ (joined_data w h ps ++ fragment_data w h p)) → AllChecked w h acc (ps ++ p ∷ [])
checked_push w h acc [] p all is = (is, tt)
checked_push w h acc (q ∷ ps) p (here, more) is =
    (here, checked_push w h (acc ++ fragment_data w h q) ps p more (is ∙ ap Mcrc (ap (λ l. acc ++ l) (append_assoc (fragment_data w h q) (joined_data w h ps) (fragment_data w h p)) ∙ sym (append_assoc acc (fragment_data w h q) (joined_data w h ps ++ fragment_data w h p)))))

pub continued_push : (c n : ℕ) (ps : List Packet) (p : Packet) → AllContinued c n ps → p.begin.kind ≡ kind.Continue c ((n + length ps) % 4) → AllContinued c n (ps ++ p ∷ [])
continued_push c n [] p all is = (let none : n + 0 ≡ n = omega arith in is ∙ ap (λ x. kind.Continue c (x % 4)) none, tt)
continued_push c n (q ∷ ps) p (here, more) is = (here, continued_push c (n + 1) ps p more (let same : n + suc (length ps) ≡ n + 1 + length ps = omega arith in is ∙ ap (λ x. kind.Continue c (x % 4)) same))

pub every_push : {X : Type 0} (P : X → Type 0) (xs : List X) (x : X) → Every P xs → P x → Every P (xs ++ x ∷ [])
every_push P [] x all here = (here, tt)
every_push P (y ∷ xs) x (first, more) here = (first, every_push P xs x more here)

pub fragment_size : (w : Scenario) (h : History) (k : Kind) (b : Begin) (size : ℕ) → is_fragment k ≡ true → SizeOf w h k b size → CutRule (ExpressWaits w h b.arc) (begun w h b) size
fragment_size w h (kind.Start c) b size is sized = sized
fragment_size w h (kind.Continue c n) b size is sized = sized
fragment_size w h kind.Express b size is sized = absurd (cc is)
fragment_size w h kind.Verify b size is sized = absurd (cc is)
fragment_size w h kind.Respond b size is sized = absurd (cc is)

pub no_eq : (m n : ℕ) → m < n → (m == n) ≡ false
no_eq m n lt = grind (arith, nat_tests)

pub no_lt : (m n : ℕ) → n ≤ m → nat_lt m n ≡ false
no_lt m n le = grind (arith, nat_tests)

module _ (w : Scenario) (n : ℕ) (h : History) (legal : LegalUpTo w n h) (a : ℕ) (a_lt : a < length w.net.arcs) where
  -- those of the mPackets before place m since the last start
  abbrev pub run_to : ℕ → List Packet
  run_to m = from_last is_begun_start (filter is_begun_fragment (take m (Packets h a)))

  pub end_is : (k : ℕ) (b : Begin) → slice_get (Begins h a) k ≡ Some b → end_of h a b.ord ≡ slice_get (Ends h a) k
  end_is k b at =
      let o = (steady w n h a a_lt legal).ordered in
      let ord : b.ord ≡ k = o.begin_places k b at in
      first_numbered (Ends h a) 0 k b.ord (omega (arith, ord)) (λ j d here. let is : d.ord ≡ j = o.end_places j d here in omega (arith, is))

  -- before it begins these are the mPackets begun
  before_is : (i : ℕ) (b : Begin) → slice_get (Begins h a) i ≡ Some b → PacketsBefore h a b.tick ≡ take i (Packets h a)
  before_is i b at = filter_front (λ (p : Packet). nat_lt p.begin.tick b.tick) (Packets h a) i
      (λ k p lt at'. let o = packet_back h a k p at' in let early = rises w n h legal a a_lt k i o.0 b lt o.1 at in
      ap (λ (q : Packet). nat_lt q.begin.tick b.tick) (sym o.2) ∙ is_lt o.0.tick b.tick early)
      (λ k p le at'. let o = packet_back h a k p at' in
      ap (λ (q : Packet). nat_lt q.begin.tick b.tick) (sym o.2) ∙ no_lt o.0.tick b.tick (not_earlier k o.0 le o.1))
    where
      order : (i j : ℕ) → i ≤ j → (i ≡ j) ⊎ (i < j)
      order i j le = grind arith

      not_earlier : (k : ℕ) (d : Begin) → i ≤ k → slice_get (Begins h a) k ≡ Some d → b.tick ≤ d.tick
      not_earlier k d le at' = elim (order i k le) [
        | inl same ↦ let is : b ≡ d = one_at (Begins h a) k b d (ap (slice_get (Begins h a)) (sym same) ∙ at) at' in let tick_is = ap (λ (x : Begin). x.tick) is in omega (arith, tick_is)
        | inr less ↦ let later = rises w n h legal a a_lt i k b d less at at' in omega (arith, later)
      ]

  pub run_is : (i : ℕ) (b : Begin) → slice_get (Begins h a) i ≡ Some b → LastRun h a b.tick ≡ run_to i
  run_is i b at = ap (λ ps. from_last is_begun_start (filter is_begun_fragment ps)) (before_is i b at)

  filter_next : (m : ℕ) (b : Begin) → slice_get (Begins h a) m ≡ Some b → filter is_begun_fragment (take (suc m) (Packets h a)) ≡ filter is_begun_fragment (take m (Packets h a)) ++ filter is_begun_fragment (packet h a b ∷ [])
  filter_next m b at = ap (filter is_begun_fragment) (take_next (Packets h a) m (packet h a b) (packet_at h a m b at)) ∙ filter-append is_begun_fragment (take m (Packets h a)) (packet h a b ∷ [])

  pub run_other : (m : ℕ) (b : Begin) → slice_get (Begins h a) m ≡ Some b → is_fragment b.kind ≡ false → run_to (suc m) ≡ run_to m
  run_other m b at off =
      let none : filter is_begun_fragment (packet h a b ∷ []) ≡ [] = rw off refl in
      ap (from_last is_begun_start) (filter_next m b at ∙ (ap (λ l. filter is_begun_fragment (take m (Packets h a)) ++ l) none ∙ append-nil (filter is_begun_fragment (take m (Packets h a)))))

  pub run_new : (m : ℕ) (b : Begin) → slice_get (Begins h a) m ≡ Some b → is_fragment b.kind ≡ true → is_start b.kind ≡ true → run_to (suc m) ≡ packet h a b ∷ []
  run_new m b at on start =
      let one : filter is_begun_fragment (packet h a b ∷ []) ≡ packet h a b ∷ [] = rw on refl in
      ap (from_last is_begun_start) (filter_next m b at ∙ ap (λ l. filter is_begun_fragment (take m (Packets h a)) ++ l) one)
      ∙ from_last_new is_begun_start (filter is_begun_fragment (take m (Packets h a))) (packet h a b) start

  pub run_more : (m : ℕ) (b : Begin) (p : Packet) (ps : List Packet) → slice_get (Begins h a) m ≡ Some b → is_fragment b.kind ≡ true → is_start b.kind ≡ false → run_to m ≡ p ∷ ps → run_to (suc m) ≡ p ∷ (ps ++ packet h a b ∷ [])
  run_more m b p ps at on no_start is =
      let one : filter is_begun_fragment (packet h a b ∷ []) ≡ packet h a b ∷ [] = rw on refl in
      ap (from_last is_begun_start) (filter_next m b at ∙ ap (λ l. filter is_begun_fragment (take m (Packets h a)) ++ l) one)
      ∙ from_last_more is_begun_start (filter is_begun_fragment (take m (Packets h a))) (packet h a b) p ps no_start is

  -- The last fragment before place m is mPacket k: with those before it since their start it carries a frame from its first octet on.
  pub record IsRun (m k : ℕ) (b : Begin) : Type 0 where
    pub frame : FrameNo
    pub begun : slice_get (Begins h a) k ≡ Some b
    pub below : k < m
    pub fragment : is_fragment b.kind ≡ true
    pub carries : b.what ≡ what.Frame frame
    pub none_since : (j : ℕ) (d : Begin) → k < j → j < m → slice_get (Begins h a) j ≡ Some d → is_fragment d.kind ≡ false
    pub first_place : ℕ
    pub first : Begin
    pub first_begun : slice_get (Begins h a) first_place ≡ Some first
    pub first_before : first_place ≤ k
    pub first_from : first.from ≡ 0
    pub first_carries : first.what ≡ what.Frame frame
    pub count : ℕ
    pub first_kind : first.kind ≡ kind.Start count
    pub more : List Packet
    pub before : List Packet
    pub run : run_to m ≡ packet h a first ∷ more
    pub parts : packet h a first ∷ more ≡ before ++ packet h a b ∷ []
    pub sent : joined_data w h before ≡ take b.from (FrameOf w frame.0)
    pub left : b.from + 64 ≤ length (FrameOf w frame.0)
    pub continued : AllContinued count 0 more
    pub checked : AllChecked w h [] before
    pub all_carry : Every (λ p. p.begin.what ≡ what.Frame frame) before
    pub sizes : Every (λ p. least_fragment (arc w a).add_frag ≤ length (fragment_data w h p)) before

  -- it is left as it is by what is no fragment
  pub passes : (m k : ℕ) (b d : Begin) → slice_get (Begins h a) m ≡ Some d → is_fragment d.kind ≡ false → IsRun m k b → IsRun (suc m) k b
  passes m k b d at off r = record {
    frame = r.frame;
    begun = r.begun;
    below = (let lt = r.below in omega (arith, lt));
    fragment = r.fragment;
    carries = r.carries;
    none_since = λ j e more lt at'. elim (order j m (omega (arith, lt))) [
      | inl same ↦ let is : d ≡ e = one_at (Begins h a) j d e (ap (slice_get (Begins h a)) same ∙ at) at' in ap (λ (x : Begin). is_fragment x.kind) (sym is) ∙ off
      | inr less ↦ r.none_since j e more less at'
    ];
    first_place = r.first_place;
    first = r.first;
    first_begun = r.first_begun;
    first_before = r.first_before;
    first_from = r.first_from;
    first_carries = r.first_carries;
    count = r.count;
    first_kind = r.first_kind;
    more = r.more;
    before = r.before;
    run = run_other m d at off ∙ r.run;
    parts = r.parts;
    sent = r.sent;
    left = r.left;
    continued = r.continued;
    checked = r.checked;
    all_carry = r.all_carry;
    sizes = r.sizes;
  }
    where
      order : (i j : ℕ) → i ≤ j → (i ≡ j) ⊎ (i < j)
      order i j le = grind arith
