-- What a relay's queues tell of the frames inside.
use Rattle.std.proofs.Common.{◌≡◌, ℕ, zero, suc, ◌<◌, ◌≤◌, ◌⊎◌, inl, inr, ◌||◌, not, true, false, leb, List, []}
use Rattle.std.proofs.Common.{◌∷◌, length, map, Option, Some, None, refl, sym, ap, subst, ◌∙◌, arith, All, AllPairs, drop, get_or}
use Rattle.std.specs.Prelude.{slice_get}
use Rattle.std.specs.List.{list_all}
use Rattle.std.specs.Option.{option_map, option_map_or}
use Rattle.std.proofs.lemmas.Bool.{lt-leb, leb-false, false≢true, cases_lt, and_left}
use Rattle.std.proofs.lemmas.Option.{slice_get-map}
use Rattle.std.proofs.lemmas.List.Elements.{All-nil, All-cons, All-head, All-tail}
use Rattle.pre_bridge.specs.declared.ingresses.Ingress.{Ingress}
use Rattle.pre_bridge.specs.declared.ingresses.Waiting.{Waiting}
use Rattle.pre_bridge.specs.Ingresses.{is_due_at}
use Rattle.pre_bridge.specs.Inside.{Entry, of_arc, is_due, comes_out, leaving, without_first, handed}
use Rattle.pre_bridge.specs.Relays.{waiting, queue_at}
use Rattle.pre_bridge.proofs.Lists.{find_none, find_same, all_of_arcs, oldest, first_due, others_stay, comes_out_is, is_due_of}

-- In a queue whose oldest one is due first none is due before it.
pub queue_not_due : (t : ℕ) (queue : List Waiting) → AllPairs (λ v w. v.due.0 ≤ w.due.0) queue → is_due_at t queue ≡ false → All (λ w. leb w.due.0 t ≡ false) queue
queue_not_due t [] ordered h = All-nil (λ (w : Waiting). leb w.due.0 t ≡ false)
queue_not_due t (w ∷ queue) ordered h = λ k d lt. at k d lt
  where
    at : (k : ℕ) (d : Waiting) → k < length (w ∷ queue) → leb (get_or (w ∷ queue) k d).due.0 t ≡ false
    at zero d lt = h
    at (suc k) d lt =
        let late : t < w.due.0 = leb-false w.due.0 t h in
        let after : w.due.0 ≤ (get_or queue k d).due.0 = ordered 0 (suc k) d (omega arith) lt in
        lt-leb (get_or queue k d).due.0 t (omega arith)

pub all_before : (P : Waiting → Type 0) (xs : List Entry) → All P (map waiting xs) → All (λ x. P (waiting x)) xs
all_before P [] h = All-nil (λ (x : Entry). P (waiting x))
all_before P (x ∷ xs) h = All-cons (λ (y : Entry). P (waiting y)) x xs (All-head P (waiting x) (map waiting xs) h) (all_before P xs (All-tail P (waiting x) (map waiting xs) h))

pub drop-map : (xs : List Entry) → map waiting (drop 1 xs) ≡ drop 1 (map waiting xs)
drop-map [] = refl
drop-map (x ∷ xs) = refl

-- what waits by an arc, by its place in the relay
pub queue_is : (ingresses : List Ingress) (j : ℕ) (ingress : Ingress) → slice_get ingresses j ≡ Some ingress → queue_at ingresses j ≡ ingress.queue.items
queue_is ingresses j ingress e = ap (λ (o : Option Ingress). option_map_or (λ (i : Ingress). i.queue.items) o []) e

-- what holds of all that waits holds of all inside
pub all_inside : (P : ℕ → Waiting → Type 0) (xs : List Entry) (ingresses : List Ingress) → ((j : ℕ) → map waiting (of_arc j xs) ≡ queue_at ingresses j)
    → ((j : ℕ) (ingress : Ingress) → slice_get ingresses j ≡ Some ingress → All (P j) ingress.queue.items) → All (λ x. P x.arc (waiting x)) xs
all_inside P xs ingresses queues h = all_of_arcs (λ j x. P j (waiting x)) xs (λ j. all_before (P j) (of_arc j xs) (subst (All (P j)) (sym (queues j)) (by j (slice_get ingresses j) refl)))
  where
    by : (j : ℕ) (o : Option Ingress) → slice_get ingresses j ≡ o → All (P j) (option_map_or (λ (i : Ingress). i.queue.items) o [])
    by j None e = All-nil (P j)
    by j (Some ingress) e = h j ingress e

-- the oldest entry of an arc is the oldest that waits there
pub oldest_is : (xs : List Entry) (queue : List Waiting) (j : ℕ) (w : Waiting) → map waiting (of_arc j xs) ≡ queue → slice_get queue 0 ≡ Some w → (x : Entry) × (oldest j xs ≡ Some x) × (waiting x ≡ w)
oldest_is xs queue j w e h = by (oldest j xs) refl (sym (slice_get-map waiting (of_arc j xs) 0) ∙ ap (λ l. slice_get l 0) e ∙ h)
  where
    by : (o : Option Entry) → oldest j xs ≡ o → option_map waiting o ≡ Some w → (x : Entry) × (oldest j xs ≡ Some x) × (waiting x ≡ w)
    by None is f = absurd cc
    by (Some x) is f = (x, is, cc)

-- none is due
pub none_out : (t : ℕ) (xs : List Entry) (ingresses : List Ingress) → ((j : ℕ) → map waiting (of_arc j xs) ≡ queue_at ingresses j)
    → ((j : ℕ) (ingress : Ingress) → slice_get ingresses j ≡ Some ingress → AllPairs (λ v w. v.due.0 ≤ w.due.0) ingress.queue.items)
    → ((j : ℕ) (ingress : Ingress) → slice_get ingresses j ≡ Some ingress → is_due_at t ingress.queue.items ≡ false)
    → (leaving t xs ≡ None) × (without_first (comes_out t xs) xs ≡ xs)
none_out t xs ingresses queues ordered none =
    let late : All (λ (x : Entry). leb x.due t ≡ false) xs = all_inside (λ j w. leb w.due.0 t ≡ false) xs ingresses queues (λ j ingress e. queue_not_due t ingress.queue.items (ordered j ingress e) (none j ingress e)) in
    find_none (comes_out t xs) xs (λ k d lt. and_left (is_due t (get_or xs k d)) (list_all (λ y. not (is_due t y) || leb (get_or xs k d).arc y.arc) xs) (late k d lt))

-- what one of them being taken changes
pub record TakesOut (t j : ℕ) (w : Waiting) (xs : List Entry) : Type 0 where
  pub given : option_map handed (leaving t xs) ≡ Some (w.next, w.frame)
  pub here : of_arc j (without_first (comes_out t xs) xs) ≡ drop 1 (of_arc j xs)
  pub others : (i : ℕ) → (i ≡ j → ⊥) → of_arc i (without_first (comes_out t xs) xs) ≡ of_arc i xs

pub one_out : (t j : ℕ) (w : Waiting) (xs : List Entry) (ingresses : List Ingress) (ingress : Ingress) → ((i : ℕ) → map waiting (of_arc i xs) ≡ queue_at ingresses i)
    → ((i : ℕ) (other : Ingress) → slice_get ingresses i ≡ Some other → AllPairs (λ v w. v.due.0 ≤ w.due.0) other.queue.items)
    → slice_get ingresses j ≡ Some ingress → slice_get ingress.queue.items 0 ≡ Some w → leb w.due.0 t ≡ true
    → ((i : ℕ) (other : Ingress) → i < j → slice_get ingresses i ≡ Some other → is_due_at t other.queue.items ≡ false)
    → TakesOut t j w xs
one_out t j w xs ingresses ingress queues ordered e front due none =
    let found = oldest_is xs ingress.queue.items j w (queues j ∙ queue_is ingresses j ingress e) front in
    let is_first : oldest j xs ≡ Some found.0 = found.1 in
    let now_due : is_due t found.0 ≡ true = ap (λ (v : Waiting). leb v.due.0 t) found.2 ∙ due in
    let least : All (λ (x : Entry). is_due t x ≡ true → j ≤ x.arc) xs = all_inside (λ i v. leb v.due.0 t ≡ true → j ≤ i) xs ingresses queues by in
    let out = first_due t j xs found.0 is_first now_due in
    let same = find_same (comes_out t xs) (is_due_of t j) xs (comes_out_is t j xs found.0 out.0 least) in
    record {
      given = ap (option_map handed) (same.0 ∙ out.0) ∙ ap (λ (v : Waiting). Some (v.next, v.frame)) found.2;
      here = ap (of_arc j) same.1 ∙ out.1;
      others = λ i ne. ap (of_arc i) same.1 ∙ others_stay t j i xs ne;
    }
  where
    by : (i : ℕ) (other : Ingress) → slice_get ingresses i ≡ Some other → All (λ v. leb v.due.0 t ≡ true → j ≤ i) other.queue.items
    by i other f = split (cases_lt i j)
      where
        split : (i < j) ⊎ (j ≤ i) → All (λ v. leb v.due.0 t ≡ true → j ≤ i) other.queue.items
        split (inl lt) = λ k d less yes. absurd (false≢true (sym (queue_not_due t other.queue.items (ordered i other f) (none i other lt f) k d less) ∙ yes))
        split (inr ge) = λ k d less yes. ge
