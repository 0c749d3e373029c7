-- Octets that wait, after more are put behind them or some are written.
use Rattle.std.proofs.Common.{◌≡◌, ℕ, ◌+◌, ◌-◌, ◌≤◌, List, ◌++◌, length, take, drop, sym, ◌∙◌, ap, arith, Result, Ok, Err, OnErr}
use Rattle.std.proofs.lemmas.List.{drop-append-le, length-take-le, drop-drop}
use Rattle.std.proofs.lemmas.Slice.{take-put_mid}
use borrow.Rule.Slice.PartMut.{put_mid}

-- a piece is put into the room behind them
pub held_more : (octets piece ys : List ℕ) (written end n k : ℕ) → written ≤ end → end + n ≤ length octets → n ≡ k → length ys ≡ k → ys ≡ take n piece
    → drop written (take (end + n) (put_mid end k octets ys)) ≡ drop written (take end octets) ++ take n piece
held_more octets piece ys written end n k front fits e long same =
    ap (drop written) (take-put_mid end k octets ys (end + n) (omega arith) (omega arith))
    ∙ drop-append-le written (take end octets) ys (omega (arith, length-take-le end octets (omega arith)))
    ∙ ap (λ l. drop written (take end octets) ++ l) same

-- a front of them is written
pub fewer : (octets : List ℕ) (old new : ℕ) → old ≤ new → drop new octets ≡ drop (new - old) (drop old octets)
fewer octets old new less = sym (drop-drop (new - old) old octets ∙ ap (λ n. drop n octets) {x = old + (new - old)} {y = new} (omega arith))

pub when_err : {T E P : Type 0} (r : Result T E) → P → OnErr r P
when_err (Ok x) p = tt
when_err (Err e) p = p
