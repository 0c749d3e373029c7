-- When the first one of those that wait is due.
use Rattle.std.proofs.Common.{◌≡◌, ℕ, zero, suc, ◌+◌, ◌<◌, ◌≤◌, ◌⊎◌, inl, inr, Bool, true, false, cond, eqb, List, []}
use Rattle.std.proofs.Common.{◌∷◌, ◌++◌, length, map, take, Option, Some, None, refl, sym, ap, subst, ◌∙◌, arith, All, AllPairs}
use Rattle.std.proofs.Common.{get_or, append-nil}
use Rattle.std.specs.Prelude.{slice_get, min}
use Rattle.std.specs.List.{Contains, Any, cons_option}
use Rattle.std.specs.Option.{option_to_list}
use Rattle.std.proofs.lemmas.Bool.{cases_lt}
use Rattle.std.proofs.lemmas.List.{take_more}
use Rattle.std.proofs.lemmas.List.Elements.{All-nil, All-cons, All-head, All-tail, All-push, All-weaker, filter_map-append, Contains-push, Contains-append_left}
use Rattle.pre_bridge.specs.declared.ingresses.Ingress.{Ingress}
use Rattle.pre_bridge.specs.declared.ingresses.Waiting.{Waiting}
use Rattle.pre_bridge.specs.Ingresses.{due_of, dues_of, lesser, IsLeastOf}
use Rattle.pre_bridge.specs.Inside.{Entry, of_arc, IsLeastDue}
use Rattle.pre_bridge.specs.Relays.{waiting, queue_at}
use Rattle.pre_bridge.proofs.Lists.{oldest}
use Rattle.pre_bridge.proofs.Queues.{all_inside, oldest_is, queue_is}

-- ---- the least of several

pub least_more : (xs : List ℕ) (a b : Option ℕ) → IsLeastOf xs a → IsLeastOf (xs ++ option_to_list b) (lesser a b)
least_more xs None None e = append-nil xs ∙ e
least_more xs None (Some b) e = subst (λ ys. IsLeastOf (ys ++ b ∷ []) (Some b)) (sym e) (Contains-push [] b, All-cons (λ (n : ℕ). b ≤ n) b [] (omega arith) (All-nil (λ (n : ℕ). b ≤ n)))
least_more xs (Some a) None h = subst (λ ys. IsLeastOf ys (Some a)) (sym (append-nil xs)) h
least_more xs (Some a) (Some b) h = by (cases_lt b a)
  where
    by : (b < a) ⊎ (a ≤ b) → IsLeastOf (xs ++ b ∷ []) (Some (min a b))
    by (inl lt) =
        let is : b ≡ min a b = omega arith in
        subst (λ m. IsLeastOf (xs ++ b ∷ []) (Some m)) is (Contains-push xs b, All-push (λ (n : ℕ). b ≤ n) xs b (All-weaker (λ (n : ℕ). a ≤ n) (λ (n : ℕ). b ≤ n) (λ n le. omega (arith, le)) xs h.1) (omega arith))
    by (inr le) =
        let is : a ≡ min a b = omega arith in
        subst (λ m. IsLeastOf (xs ++ b ∷ []) (Some m)) is (Contains-append_left xs (b ∷ []) a h.0, All-push (λ (n : ℕ). a ≤ n) xs b h.1 le)

cons_is : (o : Option ℕ) → cons_option o [] ≡ option_to_list o
cons_is None = refl
cons_is (Some x) = refl

pub dues-more : (ingresses : List Ingress) (i : ℕ) (ingress : Ingress) → i < length ingresses → ingress ≡ get_or ingresses i ingress
    → dues_of (take (i + 1) ingresses) ≡ dues_of (take i ingresses) ++ option_to_list (due_of ingress.queue.items)
dues-more ingresses i ingress lt is =
    ap dues_of (take_more ingresses i ingress lt)
    ∙ filter_map-append (λ (n : Ingress). due_of n.queue.items) (take i ingresses) (get_or ingresses i ingress ∷ [])
    ∙ ap (λ l. dues_of (take i ingresses) ++ l) (cons_is (due_of (get_or ingresses i ingress).queue.items) ∙ ap (λ (n : Ingress). option_to_list (due_of n.queue.items)) (sym is))

-- ---- of which queue it is

pub due_from : (ingresses : List Ingress) (t : ℕ) → Contains (dues_of ingresses) t → (j : ℕ) × (ingress : Ingress) × (slice_get ingresses j ≡ Some ingress) × (due_of ingress.queue.items ≡ Some t)
due_from [] t c = absurd (omega (arith, c.1))
due_from (i ∷ ingresses) t c = go (due_of i.queue.items) refl (λ d. due_from ingresses t d) c
  where
    after : (j : ℕ) × (ingress : Ingress) × (slice_get ingresses j ≡ Some ingress) × (due_of ingress.queue.items ≡ Some t) → (j : ℕ) × (ingress : Ingress) × (slice_get (i ∷ ingresses) j ≡ Some ingress) × (due_of ingress.queue.items ≡ Some t)
    after found = (suc found.0, found.1, found.2, found.3)

    go : (o : Option ℕ) → due_of i.queue.items ≡ o → (Contains (dues_of ingresses) t → (j : ℕ) × (ingress : Ingress) × (slice_get ingresses j ≡ Some ingress) × (due_of ingress.queue.items ≡ Some t))
        → Contains (cons_option o (dues_of ingresses)) t → (j : ℕ) × (ingress : Ingress) × (slice_get (i ∷ ingresses) j ≡ Some ingress) × (due_of ingress.queue.items ≡ Some t)
    go None is further d = after (further d)
    go (Some x) is further (zero, lt, e) = (0, i, refl, is ∙ ap Some e)
    go (Some x) is further (suc k, lt, e) = after (further (k, omega (arith, lt), e))

pub all_dues : (P : ℕ → Type 0) (ingresses : List Ingress) (j : ℕ) (ingress : Ingress) (d : ℕ) → All P (dues_of ingresses) → slice_get ingresses j ≡ Some ingress → due_of ingress.queue.items ≡ Some d → P d
all_dues P [] j ingress d h e f = absurd cc
all_dues P (i ∷ ingresses) zero ingress d h e f = go (due_of i.queue.items) (let same : i ≡ ingress = cc in ap (λ (n : Ingress). due_of n.queue.items) same ∙ f) h
  where
    go : (o : Option ℕ) → o ≡ Some d → All P (cons_option o (dues_of ingresses)) → P d
    go None is a = absurd cc
    go (Some x) is a = let same : x ≡ d = cc in subst P same (All-head P x (dues_of ingresses) a)
all_dues P (i ∷ ingresses) (suc j) ingress d h e f = all_dues P ingresses j ingress d (go (due_of i.queue.items) h) e f
  where
    go : (o : Option ℕ) → All P (cons_option o (dues_of ingresses)) → All P (dues_of ingresses)
    go None a = a
    go (Some x) a = All-tail P x (dues_of ingresses) a

-- ---- all of a queue by its oldest

pub queue_from : (t : ℕ) (queue : List Waiting) → AllPairs (λ v w. v.due.0 ≤ w.due.0) queue → ((d : ℕ) → due_of queue ≡ Some d → t ≤ d) → All (λ w. t ≤ w.due.0) queue
queue_from t [] ordered h = All-nil (λ (w : Waiting). t ≤ w.due.0)
queue_from t (w ∷ queue) ordered h = λ k d lt. at k d lt
  where
    from : t ≤ w.due.0
    from = h w.due.0 refl

    at : (k : ℕ) (d : Waiting) → k < length (w ∷ queue) → t ≤ (get_or (w ∷ queue) k d).due.0
    at zero d lt = from
    at (suc k) d lt = let after : w.due.0 ≤ (get_or queue k d).due.0 = ordered 0 (suc k) d (omega arith) lt in omega (arith, from)

nothing_in : (queue : List Waiting) → due_of queue ≡ None → All (λ w. ⊥) queue
nothing_in [] e = All-nil (λ (w : Waiting). ⊥)
nothing_in (w ∷ queue) e = absurd cc

empty_from : (xs : List Entry) → All (λ x. ⊥) xs → xs ≡ []
empty_from [] h = refl
empty_from (x ∷ xs) h = absurd (h 0 x (omega arith))

pub any_oldest : (P : Entry → Type 0) (j : ℕ) (xs : List Entry) (x : Entry) → oldest j xs ≡ Some x → P x → Any P xs
any_oldest P j [] x e p = absurd cc
any_oldest P j (y ∷ xs) x e p = go (eqb y.arc j) (λ o. any_oldest P j xs x o p) e
  where
    go : (b : Bool) → (oldest j xs ≡ Some x → Any P xs) → slice_get (cond b (y ∷ of_arc j xs) (of_arc j xs)) 0 ≡ Some x → Any P (y ∷ xs)
    go true further o = let same : x ≡ y = cc in (0, y, omega arith, refl, subst P same p)
    go false further o = let a = further o in (suc a.0, a.1, omega (arith, a.2), a.3, a.4)

due_at : (queue : List Waiting) (t : ℕ) → due_of queue ≡ Some t → (w : Waiting) × (slice_get queue 0 ≡ Some w) × (w.due.0 ≡ t)
due_at [] t e = absurd cc
due_at (w ∷ queue) t e = (w, refl, cc)

-- the least tick of the oldest ones is the least of all inside
pub least_inside : (xs : List Entry) (ingresses : List Ingress) (least : Option ℕ) → ((j : ℕ) → map waiting (of_arc j xs) ≡ queue_at ingresses j)
    → ((j : ℕ) (ingress : Ingress) → slice_get ingresses j ≡ Some ingress → AllPairs (λ v w. v.due.0 ≤ w.due.0) ingress.queue.items)
    → IsLeastOf (dues_of ingresses) least → IsLeastDue xs least
least_inside xs ingresses None queues ordered e = empty_from xs (all_inside (λ j w. ⊥) xs ingresses queues (λ j ingress f. nothing_in ingress.queue.items (none (due_of ingress.queue.items) j ingress f refl)))
  where
    none : (o : Option ℕ) (j : ℕ) (ingress : Ingress) → slice_get ingresses j ≡ Some ingress → due_of ingress.queue.items ≡ o → due_of ingress.queue.items ≡ None
    none None j ingress f is = is
    none (Some d) j ingress f is = absurd (all_dues (λ n. ⊥) ingresses j ingress d (subst (All (λ n. ⊥)) (sym e) (All-nil (λ (n : ℕ). ⊥))) f is)
least_inside xs ingresses (Some t) queues ordered h =
    let from = due_from ingresses t h.0 in
    let front = due_at from.1.queue.items t from.3 in
    let found = oldest_is xs from.1.queue.items from.0 front.0 (queues from.0 ∙ queue_is ingresses from.0 from.1 from.2) front.1 in (
      any_oldest (λ x. x.due ≡ t) from.0 xs found.0 found.1 (ap (λ (w : Waiting). w.due.0) found.2 ∙ front.2),
      all_inside (λ j w. t ≤ w.due.0) xs ingresses queues (λ j ingress e. queue_from t ingress.queue.items (ordered j ingress e) (λ d is. all_dues (λ n. t ≤ n) ingresses j ingress d h.1 e is)),
    )
