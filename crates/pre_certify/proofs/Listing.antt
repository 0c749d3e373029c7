-- Lists of rows, one row further.
use Rattle.std.proofs.Common.{◌≡◌, ℕ, zero, suc, ◌+◌, ◌/◌, ◌%◌, ◌<◌, Bool, true, false, cond, List, [], ◌∷◌}
use Rattle.std.proofs.Common.{◌++◌, sym, ◌∙◌, ap, subst, arith, length, get_or, take, map}
use Rattle.std.specs.Prelude.{filter}
use Rattle.std.specs.List.{range_with_len, enumerate_from}
use Rattle.std.proofs.lemmas.List.{map-id, map-append, append-nil}
use Rattle.std.proofs.lemmas.List.Concat.{flat_map-append}
use Rattle.std.proofs.lemmas.List.Elements.{filter-append}
use Rattle.std.proofs.lemmas.List.FromFn.{map-range_with_len_more}
use Rattle.pre_topo.specs.declared.network.Network.{Network}
use Rattle.pre_streams.specs.declared.rows.Row.{Row}
use Rattle.pre_bound.specs.declared.rows.PortRow.{PortRow}
use Rattle.pre_bound.specs.Along.{Delays, least_block, least_work, rate_above, port_size}
use Rattle.pre_bound.specs.Listed.{port_row}
use Rattle.pre_bound.specs.Passing.{least_port}
use Rattle.pre_certify.specs.Turns.{IsSettled}
use Rattle.pre_certify.specs.Written.{values_at, all_hops, hops_at}

pub range_more : (n : ℕ) → range_with_len 0 (n + 1) ≡ range_with_len 0 n ++ n ∷ []
range_more n =
    sym (map-id (range_with_len 0 (n + 1))) ∙ map-range_with_len_more (λ (x : ℕ). x) 0 n n (omega arith) ∙ ap (λ l. l ++ n ∷ []) (map-id (range_with_len 0 n))

-- one number more, which passes or doesn't
pub range_yes : (p : ℕ → Bool) (n : ℕ) → p n ≡ true → filter p (range_with_len 0 (n + 1)) ≡ filter p (range_with_len 0 n) ++ n ∷ []
range_yes p n e =
    ap (filter p) (range_more n) ∙ filter-append p (range_with_len 0 n) (n ∷ []) ∙ ap (λ b. filter p (range_with_len 0 n) ++ cond b (n ∷ []) []) e

pub range_no : (p : ℕ → Bool) (n : ℕ) → p n ≡ false → filter p (range_with_len 0 (n + 1)) ≡ filter p (range_with_len 0 n)
range_no p n e =
    ap (filter p) (range_more n) ∙ filter-append p (range_with_len 0 n) (n ∷ []) ∙ ap (λ b. filter p (range_with_len 0 n) ++ cond b (n ∷ []) []) e ∙ append-nil (filter p (range_with_len 0 n))

pub listed_yes : {X : Type 0} (f : ℕ → X) (p : ℕ → Bool) (n : ℕ) → p n ≡ true → map f (filter p (range_with_len 0 (n + 1))) ≡ map f (filter p (range_with_len 0 n)) ++ f n ∷ []
listed_yes f p n e = ap (map f) (range_yes p n e) ∙ map-append f (filter p (range_with_len 0 n)) (n ∷ [])

pub listed_no : {X : Type 0} (f : ℕ → X) (p : ℕ → Bool) (n : ℕ) → p n ≡ false → map f (filter p (range_with_len 0 (n + 1))) ≡ map f (filter p (range_with_len 0 n))
listed_no f p n e = ap (map f) (range_no p n e)

pub numbered_more : {X : Type 0} (n : ℕ) (xs : List X) (k j : ℕ) (x : X) → k < length xs → x ≡ get_or xs k x → n + k ≡ j → enumerate_from n (take (k + 1) xs) ≡ enumerate_from n (take k xs) ++ (j, x) ∷ []
numbered_more {X} n xs k j x h e q = let eq : suc k ≡ k + 1 = omega arith in subst (λ m. enumerate_from n (take m xs) ≡ enumerate_from n (take k xs) ++ (j, x) ∷ []) eq (more n xs k j h e q)
  where
    more : (n : ℕ) (xs : List X) (k j : ℕ) → k < length xs → x ≡ get_or xs k x → n + k ≡ j → enumerate_from n (take (suc k) xs) ≡ enumerate_from n (take k xs) ++ (j, x) ∷ []
    more n [] k j h e q = absurd (omega arith)
    more n (y ∷ ys) zero j h e q = let same : n ≡ j = omega arith in ap (λ m. (m, y) ∷ []) same ∙ ap (λ z. (j, z) ∷ []) (sym e)
    more n (y ∷ ys) (suc k) j h e q = ap (λ l. (n, y) ∷ l) (more (n + 1) ys k j (omega arith) e (omega arith))

pub numbered_yes : {X : Type 0} (p : X → Bool) (xs : List X) (k : ℕ) (x : X) → k < length xs → x ≡ get_or xs k x → p x ≡ true
    → filter (λ e. p e.1) (enumerate_from 0 (take (k + 1) xs)) ≡ filter (λ e. p e.1) (enumerate_from 0 (take k xs)) ++ (k, x) ∷ []
numbered_yes p xs k x h e yes' =
    ap (filter (λ e. p e.1)) (numbered_more 0 xs k k x h e (omega arith)) ∙ filter-append (λ e. p e.1) (enumerate_from 0 (take k xs)) ((k, x) ∷ [])
    ∙ ap (λ b. filter (λ e. p e.1) (enumerate_from 0 (take k xs)) ++ cond b ((k, x) ∷ []) []) yes'

pub numbered_no : {X : Type 0} (p : X → Bool) (xs : List X) (k : ℕ) (x : X) → k < length xs → x ≡ get_or xs k x → p x ≡ false
    → filter (λ e. p e.1) (enumerate_from 0 (take (k + 1) xs)) ≡ filter (λ e. p e.1) (enumerate_from 0 (take k xs))
numbered_no p xs k x h e no' =
    ap (filter (λ e. p e.1)) (numbered_more 0 xs k k x h e (omega arith)) ∙ filter-append (λ e. p e.1) (enumerate_from 0 (take k xs)) ((k, x) ∷ [])
    ∙ ap (λ b. filter (λ e. p e.1) (enumerate_from 0 (take k xs)) ++ cond b ((k, x) ∷ []) []) no' ∙ append-nil (filter (λ e. p e.1) (enumerate_from 0 (take k xs)))

-- the row of a port whose delay is settled
pub port_row-settled : (net : Network) (rows : List Row) (delays : Delays) (k : ℕ) → IsSettled net rows delays (k / 8) (k % 8) → least_port net rows delays (k / 8) (k % 8) ≡ port_row (values_at net rows delays) k
port_row-settled net rows delays k settled =
    let a = k / 8 in
    let p = k % 8 in
    let make : ℕ → PortRow = λ d. record { arc = record { 0 = a }; prio = p; block = least_block net rows a p; work = least_work net rows delays a p; rate = rate_above rows a p; delay = d; size = port_size net rows delays a p } in
    ap make (sym settled.delay)

pub all_hops-push : (net : Network) (delays : Delays) (streams : List (ℕ × Row)) (k : ℕ) (r : Row) → all_hops net delays streams ++ hops_at net delays k r ≡ all_hops net delays (streams ++ (k, r) ∷ [])
all_hops-push net delays streams k r =
    ap (λ l. all_hops net delays streams ++ l) (sym (append-nil (hops_at net delays k r)))
    ∙ sym (flat_map-append (λ (e : ℕ × Row). hops_at net delays e.0 e.1) streams ((k, r) ∷ []))
