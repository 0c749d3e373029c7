-- Whose turn it is, and what comes out.
use Rattle.std.proofs.Common.{◌≡◌, ◌≢◌, ℕ, zero, suc, ◌<◌, ◌≤◌, ◌||◌, not, Bool, true, false, cond, leb, eqb, List, []}
use Rattle.std.proofs.Common.{◌∷◌, ◌++◌, length, map, Option, Some, None, refl, sym, ap, ap₂, subst, ◌∙◌, arith, All, AllPairs}
use Rattle.std.proofs.Common.{get_or}
use Rattle.std.specs.Prelude.{find, slice_get, position}
use Rattle.std.specs.List.{list_all}
use Rattle.std.specs.Option.{option_map, option_map_or}
use Rattle.std.proofs.lemmas.Bool.{le-leb, lt-leb, leb-true, leb-false, eq-eqb, and_left, and_right, and_from, and_parts, false≢true}
use Rattle.std.proofs.lemmas.List.{length-append, get_or_at, get_or_append_left, get_or-map, length-map}
use Rattle.std.proofs.lemmas.List.Folds.{list_all_at}
use Rattle.std.proofs.lemmas.List.Elements.{All-nil, All-cons, All-head, All-tail}
use Rattle.pre_topo.specs.declared.network.Network.{Network}
use Rattle.pre_streams.specs.declared.rows.Streams.{Streams}
use Rattle.pre_bridge.specs.declared.ingresses.Ingress.{Ingress}
use Rattle.pre_bridge.specs.declared.ingresses.Waiting.{Waiting}
use Rattle.pre_bridge.specs.declared.relays.Relay.{Relay}
use Rattle.pre_bridge.specs.Ingresses.{is_due_at}
use Rattle.pre_bridge.specs.Inside.{Entry, Call, inside, of_arc, is_due, comes_out, leaving, without_first, handed}
use Rattle.pre_bridge.specs.Turns.{IsTurn}
use Rattle.pre_bridge.specs.Relays.{Stands, waiting}
use Rattle.pre_bridge.proofs.Lists.{all_true, find_none}
use Rattle.pre_bridge.proofs.Queues.{one_out, all_inside, queue_not_due}
use Rattle.pre_bridge.proofs.Firsts.{none_passes, one_passes, none_before, position_within}
use Rattle.circular_buffer.proofs.Places.{slice_get-some}
use Rattle.std.proofs.lemmas.Option.{none-some}
use Rattle.pre_bridge.proofs.Standing.{due_front}

-- ---- the first that passes

pub find_at_turn : (p : Entry → Bool) (before behind : List Entry) (x : Entry) → All (λ y. p y ≡ false) before → p x ≡ true
    → (find p (before ++ x ∷ behind) ≡ Some x) × (without_first p (before ++ x ∷ behind) ≡ before ++ behind)
find_at_turn p [] behind x h e = (ap (λ b. cond b (Some x) (find p behind)) e, ap (λ b. cond b behind (x ∷ without_first p behind)) e)
find_at_turn p (y ∷ before) behind x h e =
    let here = All-head (λ z. p z ≡ false) y before h in
    let ih = find_at_turn p before behind x (All-tail (λ z. p z ≡ false) y before h) e in (
      ap (λ b. cond b (Some y) (find p (before ++ x ∷ behind))) here ∙ ih.0,
      ap (λ b. cond b (before ++ x ∷ behind) (y ∷ without_first p (before ++ x ∷ behind))) here ∙ ap (λ l. y ∷ l) ih.1,
    )

pub record IsSplit (p : Entry → Bool) (xs : List Entry) (x : Entry) : Type 0 where
  pub before : List Entry
  pub behind : List Entry
  pub whole : xs ≡ before ++ x ∷ behind
  pub none : All (λ y. p y ≡ false) before
  pub passes : p x ≡ true

pub split_at_first : (p : Entry → Bool) (xs : List Entry) (x : Entry) → find p xs ≡ Some x → IsSplit p xs x
split_at_first p [] x e = absurd cc
split_at_first p (y ∷ xs) x e = go (p y) refl (split_at_first p xs x) e
  where
    go : (b : Bool) → p y ≡ b → (find p xs ≡ Some x → IsSplit p xs x) → cond b (Some y) (find p xs) ≡ Some x → IsSplit p (y ∷ xs) x
    go true is further f =
        let same : y ≡ x = cc in
        record { before = []; behind = xs; whole = ap (λ z. z ∷ xs) same; none = All-nil (λ z. p z ≡ false); passes = ap p (sym same) ∙ is }
    go false is further f =
        let s = further f in
        record { before = y ∷ s.before; behind = s.behind; whole = ap (λ l. y ∷ l) s.whole; none = All-cons (λ z. p z ≡ false) y s.before is s.none; passes = s.passes }

all_from : (f : Entry → Bool) (xs : List Entry) → list_all f xs ≡ true → All (λ x. f x ≡ true) xs
all_from f [] e = All-nil (λ x. f x ≡ true)
all_from f (x ∷ xs) e = let p = and_parts (f x) (list_all f xs) e in All-cons (λ y. f y ≡ true) x xs p.0 (all_from f xs p.1)

-- ---- a frame whose turn it is comes out

-- no due one arrived by an arc below this one
abbrev pub none_below : ℕ → List Entry → ℕ → Bool
none_below t xs arc = list_all (λ other. not (is_due t other) || leb arc other.arc) xs

pub below_from : (t arc : ℕ) (xs : List Entry) → All (λ other. other.due ≤ t → arc ≤ other.arc) xs → none_below t xs arc ≡ true
below_from t arc xs h = all_true (λ other. not (is_due t other) || leb arc other.arc) xs (λ k d lt. by (get_or xs k d) (is_due t (get_or xs k d)) refl (h k d lt))
  where
    by : (x : Entry) (b : Bool) → is_due t x ≡ b → (x.due ≤ t → arc ≤ x.arc) → (not (is_due t x) || leb arc x.arc) ≡ true
    by x true is from = ap (λ c. not c || leb arc x.arc) is ∙ le-leb arc x.arc (from (leb-true x.due t is))
    by x false is from = ap (λ c. not c || leb arc x.arc) is

pub from_below : (t arc : ℕ) (xs : List Entry) → none_below t xs arc ≡ true → All (λ other. other.due ≤ t → arc ≤ other.arc) xs
from_below t arc xs e = λ k d lt due. by (get_or xs k d) due (all_from (λ other. not (is_due t other) || leb arc other.arc) xs e k d lt)
  where
    by : (x : Entry) → x.due ≤ t → (not (is_due t x) || leb arc x.arc) ≡ true → arc ≤ x.arc
    by x due is = leb-true arc x.arc (ap (λ c. not c || leb arc x.arc) (sym (le-leb x.due t due)) ∙ is)

pub turn_comes : (t : ℕ) (before behind : List Entry) (x : Entry) → IsTurn t before x behind
    → (leaving t (before ++ x ∷ behind) ≡ Some x) × (without_first (comes_out t (before ++ x ∷ behind)) (before ++ x ∷ behind) ≡ before ++ behind)
turn_comes t before behind x turn = find_at_turn (comes_out t (before ++ x ∷ behind)) before behind x (λ k d lt. fails k d lt (is_due t (get_or before k d)) refl) passes
  where
    passes : comes_out t (before ++ x ∷ behind) x ≡ true
    passes = and_from (is_due t x) (none_below t (before ++ x ∷ behind) x.arc) (le-leb x.due t turn.due) (below_from t x.arc (before ++ x ∷ behind) turn.least)

    fails : (k : ℕ) (d : Entry) → k < length before → (b : Bool) → is_due t (get_or before k d) ≡ b → comes_out t (before ++ x ∷ behind) (get_or before k d) ≡ false
    fails k d lt false is = and_left (is_due t (get_or before k d)) (none_below t (before ++ x ∷ behind) (get_or before k d).arc) is
    fails k d lt true is =
        let within : k < length (before ++ x ∷ behind) = omega (arith, length-append before (x ∷ behind)) in
        let same : get_or (before ++ x ∷ behind) k d ≡ get_or before k d = get_or_append_left before (x ∷ behind) d k lt in
        let le : x.arc ≤ (get_or before k d).arc = subst (λ (y : Entry). y.due ≤ t → x.arc ≤ y.arc) same (turn.least k d within) (leb-true (get_or before k d).due t is) in
        let other : (get_or before k d).arc ≢ x.arc = turn.oldest k d lt in
        let less : x.arc < (get_or before k d).arc = omega (arith, le, other) in
        let at : get_or (before ++ x ∷ behind) (length before) x ≡ x = get_or_at before x behind x (length before) refl in
        and_right (is_due t (get_or before k d)) (none_below t (before ++ x ∷ behind) (get_or before k d).arc)
        (list_all_at (λ other. not (is_due t other) || leb (get_or before k d).arc other.arc) (before ++ x ∷ behind) (length before) x (omega (arith, length-append before (x ∷ behind)))
        (ap (λ (y : Entry). not (is_due t y) || leb (get_or before k d).arc y.arc) at ∙ ap₂ (λ a b. not a || b) (le-leb x.due t turn.due) (lt-leb (get_or before k d).arc x.arc less)))

-- ---- the frames of an arc are in the order of their ticks

all_of_arc : (P : Entry → Type 0) (j : ℕ) (xs : List Entry) → All P (of_arc j xs) → All (λ x. j ≡ x.arc → P x) xs
all_of_arc P j [] h = All-nil (λ (x : Entry). j ≡ x.arc → P x)
all_of_arc P j (x ∷ xs) h = All-cons (λ (y : Entry). j ≡ y.arc → P y) x xs (λ e. here (eqb x.arc j) (eq-eqb x.arc j (sym e)) h) (all_of_arc P j xs (further (eqb x.arc j) h))
  where
    here : (b : Bool) → b ≡ true → All P (cond b (x ∷ of_arc j xs) (of_arc j xs)) → P x
    here true e a = All-head P x (of_arc j xs) a
    here false e a = absurd (false≢true e)

    further : (b : Bool) → All P (cond b (x ∷ of_arc j xs) (of_arc j xs)) → All P (of_arc j xs)
    further true a = All-tail P x (of_arc j xs) a
    further false a = a

pairs_tail : (x : Entry) (xs : List Entry) → AllPairs (λ (d e : Entry). d.due ≤ e.due) (x ∷ xs) → AllPairs (λ (d e : Entry). d.due ≤ e.due) xs
pairs_tail x xs h = λ i j d less within. h (suc i) (suc j) d (omega (arith, less)) (omega (arith, within))

pub pairs_of_arcs : (xs : List Entry) → ((j : ℕ) → AllPairs (λ (d e : Entry). d.due ≤ e.due) (of_arc j xs)) → AllPairs (λ (d e : Entry). d.arc ≡ e.arc → d.due ≤ e.due) xs
pairs_of_arcs [] h = λ i j d less within. absurd (omega (arith, within))
pairs_of_arcs (x ∷ xs) h = both (pairs_of_arcs xs (λ j. further (eqb x.arc j) j (h j))) (all_of_arc (λ (e : Entry). x.due ≤ e.due) x.arc xs (here (eqb x.arc x.arc) (eq-eqb x.arc x.arc refl) (h x.arc)))
  where
    here : (b : Bool) → b ≡ true → AllPairs (λ (d e : Entry). d.due ≤ e.due) (cond b (x ∷ of_arc x.arc xs) (of_arc x.arc xs)) → All (λ (e : Entry). x.due ≤ e.due) (of_arc x.arc xs)
    here true e a = λ k d lt. a 0 (suc k) d (omega arith) (omega (arith, lt))
    here false e a = absurd (false≢true e)

    further : (b : Bool) (j : ℕ) → AllPairs (λ (d e : Entry). d.due ≤ e.due) (cond b (x ∷ of_arc j xs) (of_arc j xs)) → AllPairs (λ (d e : Entry). d.due ≤ e.due) (of_arc j xs)
    further true j a = pairs_tail x (of_arc j xs) a
    further false j a = a

    both : AllPairs (λ (d e : Entry). d.arc ≡ e.arc → d.due ≤ e.due) xs → All (λ (e : Entry). x.arc ≡ e.arc → x.due ≤ e.due) xs → AllPairs (λ (d e : Entry). d.arc ≡ e.arc → d.due ≤ e.due) (x ∷ xs)
    both rest first zero zero d less within = absurd (omega (arith, less))
    both rest first zero (suc j) d less within = first j d (omega (arith, within))
    both rest first (suc i) zero d less within = absurd (omega (arith, less))
    both rest first (suc i) (suc j) d less within = rest i j d (omega (arith, less)) (omega (arith, within))

pairs_before : (xs : List Entry) → AllPairs (λ (v w : Waiting). v.due.0 ≤ w.due.0) (map waiting xs) → AllPairs (λ (d e : Entry). d.due ≤ e.due) xs
pairs_before xs h = λ i j d less within.
    let first : (get_or (map waiting xs) i (waiting d)).due.0 ≡ (get_or xs i d).due = ap (λ (w : Waiting). w.due.0) (get_or-map waiting xs i d (waiting d) (omega (arith, less, within))) in
    let second : (get_or (map waiting xs) j (waiting d)).due.0 ≡ (get_or xs j d).due = ap (λ (w : Waiting). w.due.0) (get_or-map waiting xs j d (waiting d) within) in
    omega (arith, h i j (waiting d) less (omega (arith, within, length-map xs waiting)), first, second)

pub in_order : (relay : Relay) (net : Network) (streams : Streams) (calls : List Call) → Stands relay net streams calls → AllPairs (λ (d e : Entry). d.arc ≡ e.arc → d.due ≤ e.due) (inside net streams calls)
in_order relay net streams calls s = pairs_of_arcs (inside net streams calls) (λ j. pairs_before (of_arc j (inside net streams calls)) (subst (AllPairs (λ (v w : Waiting). v.due.0 ≤ w.due.0)) (sym (s.queues j)) (by j (slice_get relay.ingresses.items j) refl)))
  where
    by : (j : ℕ) (o : Option Ingress) → slice_get relay.ingresses.items j ≡ o → AllPairs (λ (v w : Waiting). v.due.0 ≤ w.due.0) (option_map_or (λ (i : Ingress). i.queue.items) o [])
    by j None e = λ i k d less within. absurd (omega (arith, within))
    by j (Some ingress) e = (s.order j ingress e).ordered

-- ---- what comes out has its turn

pub turn_of : (t : ℕ) (xs : List Entry) (x : Entry) → AllPairs (λ (d e : Entry). d.arc ≡ e.arc → d.due ≤ e.due) xs → leaving t xs ≡ Some x
    → (before : List Entry) × (behind : List Entry) × (xs ≡ before ++ x ∷ behind) × IsTurn t before x behind
turn_of t xs x ordered e =
    let s = split_at_first (comes_out t xs) xs x e in
    let parts = and_parts (is_due t x) (none_below t xs x.arc) s.passes in
    let due : x.due ≤ t = leb-true x.due t parts.0 in (
      s.before,
      s.behind,
      s.whole,
      record {
        due = due;
        least = subst (All (λ (other : Entry). other.due ≤ t → x.arc ≤ other.arc)) s.whole (from_below t x.arc xs parts.1);
        oldest = λ k d lt same.
            let earlier : (get_or s.before k d).due ≤ x.due = before_it s.before s.behind s.whole k d lt same in
            absurd (false≢true (sym (s.none k d lt) ∙ and_from (is_due t (get_or s.before k d)) (none_below t xs (get_or s.before k d).arc) (le-leb (get_or s.before k d).due t (omega (arith, earlier, due))) (ap (none_below t xs) same ∙ parts.1)));
      },
    )
  where
    before_it : (before behind : List Entry) → xs ≡ before ++ x ∷ behind → (k : ℕ) (d : Entry) → k < length before → (get_or before k d).arc ≡ x.arc → (get_or before k d).due ≤ x.due
    before_it before behind whole k d lt same =
        let pairs = subst (AllPairs (λ (a b : Entry). a.arc ≡ b.arc → a.due ≤ b.due)) whole ordered in
        let first : get_or (before ++ x ∷ behind) k d ≡ get_or before k d = get_or_append_left before (x ∷ behind) d k lt in
        let second : get_or (before ++ x ∷ behind) (length before) d ≡ x = get_or_at before x behind d (length before) refl in
        subst (λ (y : Entry). (get_or before k d).due ≤ y.due) second (subst (λ (y : Entry). y.due ≤ (get_or (before ++ x ∷ behind) (length before) d).due) first
        (pairs k (length before) d lt (omega (arith, length-append before (x ∷ behind))) (ap (λ (y : Entry). y.arc) first ∙ same ∙ ap (λ (y : Entry). y.arc) (sym second))))

-- ---- nothing comes out exactly where none is due

pub none_late : (t : ℕ) (xs : List Entry) → All (λ (x : Entry). t < x.due) xs → leaving t xs ≡ None
none_late t xs h = (find_none (comes_out t xs) xs (λ k d lt. and_left (is_due t (get_or xs k d)) (none_below t xs (get_or xs k d).arc) (lt-leb (get_or xs k d).due t (h k d lt)))).0

front_of : (t : ℕ) (queue : List Waiting) → is_due_at t queue ≡ true → (w : Waiting) × (slice_get queue 0 ≡ Some w)
front_of t [] e = absurd (false≢true e)
front_of t (w ∷ queue) e = (w, refl)

pub late_none : (relay : Relay) (net : Network) (streams : Streams) (calls : List Call) (t : ℕ) → Stands relay net streams calls → leaving t (inside net streams calls) ≡ None → All (λ (x : Entry). t < x.due) (inside net streams calls)
late_none relay net streams calls t s e = by (position (λ (n : Ingress). is_due_at t n.queue.items) relay.ingresses.items) refl
  where
    ordered : (j : ℕ) (n : Ingress) → slice_get relay.ingresses.items j ≡ Some n → AllPairs (λ v w. v.due.0 ≤ w.due.0) n.queue.items
    ordered j n at = (s.order j n at).ordered

    by : (o : Option ℕ) → position (λ (n : Ingress). is_due_at t n.queue.items) relay.ingresses.items ≡ o → All (λ (x : Entry). t < x.due) (inside net streams calls)
    by None f =
        all_inside (λ j w. t < w.due.0) (inside net streams calls) relay.ingresses.items s.queues
        (λ j n at k d lt. leb-false (get_or n.queue.items k d).due.0 t (queue_not_due t n.queue.items (ordered j n at) (none_passes (λ (m : Ingress). is_due_at t m.queue.items) relay.ingresses.items f j n at) k d lt))
    by (Some place) f =
        let found = slice_get-some relay.ingresses.items place (position_within (λ (n : Ingress). is_due_at t n.queue.items) relay.ingresses.items place f) in
        let due = one_passes (λ (n : Ingress). is_due_at t n.queue.items) relay.ingresses.items place f found.0 found.1 in
        let front = front_of t found.0.queue.items due in
        let out = one_out t place front.0 (inside net streams calls) relay.ingresses.items found.0 s.queues ordered found.1 front.1 (due_front t found.0.queue.items front.0 due front.1)
        (λ j n lt at. none_before (λ (m : Ingress). is_due_at t m.queue.items) relay.ingresses.items place f j n lt at) in
        absurd (none-some (front.0.next, front.0.frame) (sym (ap (option_map handed) e) ∙ out.given))
