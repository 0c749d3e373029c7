-- A listing grows by a line for each arrival.
use Rattle.std.proofs.Common.{◌≡◌, ℕ, suc, ◌+◌, ◌<◌, List, [], ◌∷◌, ◌++◌, length, take, Option, Some, None, Result, Ok}
use Rattle.std.proofs.Common.{Err, refl, sym, ◌∙◌, ap, subst, arith, append_assoc, length-append, inl, inr}
use Rattle.std.specs.Prelude.{◌↔◌}
use Rattle.std.specs.Result.{IsErr}
use Rattle.std.proofs.lemmas.Bool.{false≢true}
use Rattle.std.proofs.lemmas.List.{append-nil, length-map}
use Rattle.pre_base.specs.Told.{WhereTold, WhereTold-join}
use Rattle.pre_base.specs.Sinks.{Taken}
use Rattle.pre_base.specs.Sinks.{TakesWhole, TakesFront}
use Rattle.pre_receive.specs.Takings.{Taking, IsTaken}
use Rattle.std.proofs.Math.Seq.{take-length}
use Rattle.pre_cli.specs.declared.statuses.Status.{Status}
use Rattle.pre_cli.specs.declared.statuses.Status.TheVariants as status
use Rattle.pre_cli.specs.PacketFiles.{arrivals_of, ReadsAs}
use Rattle.pre_cli.specs.Listed.{ListedLeaves}
use Rattle.pre_cli.specs.Listing.{packet_line, AreTaken, lines_from, come, IsListing, TakesList, TakesListFront, TakesListAll}
use Rattle.pre_cli.specs.Runs.{FlushEnds}

pub LaterTakings : Type 0
LaterTakings = (A B : List (Option (List ℕ))) (i : ℕ) (t : Taking) → i < length A → IsTaken (A ++ B) i t ↔ IsTaken A i t

pub later : ((A B : List (Option (List ℕ))) (i : ℕ) (t : Taking) → i < length A → IsTaken (A ++ B) i t ↔ IsTaken A i t) → LaterTakings
unfolding LaterTakings
later law = law

pub come-push : (xs : List (List ℕ)) (x : List ℕ) → come (xs ++ x ∷ []) ≡ come xs ++ Some x ∷ []
come-push [] x = refl
come-push (y ∷ xs) x = ap (λ (l : List (Option (List ℕ))). Some y ∷ l) (come-push xs x)

taken_count : (A : List (Option (List ℕ))) (i : ℕ) (ts : List Taking) → AreTaken A i ts → i + length ts ≡ length A
taken_count A i [] is = omega (arith, is)
taken_count A i (t ∷ ts) h = omega (arith, taken_count A (suc i) ts h.1)

taken_push : LaterTakings → (A : List (Option (List ℕ))) (a : Option (List ℕ)) (i : ℕ) (ts : List Taking) (t : Taking)
    → AreTaken A i ts → IsTaken (A ++ a ∷ []) (length A) t → AreTaken (A ++ a ∷ []) i (ts ++ t ∷ [])
unfolding LaterTakings
taken_push law A a i [] t is taken = (subst (λ (k : ℕ). IsTaken (A ++ a ∷ []) k t) (sym is) taken, omega (arith, is, length-append A (a ∷ [])))
taken_push law A a i (x ∷ ts) t h taken =
    let count = taken_count A (suc i) ts h.1 in
    ((law A (a ∷ []) i x (omega (arith, count))).1 h.0, taken_push law A a (suc i) ts t h.1 taken)

lines-push : (i : ℕ) (os : List (List ℕ)) (o : List ℕ) (ts : List Taking) (t : Taking) → length os ≡ length ts
    → lines_from i (os ++ o ∷ []) (ts ++ t ∷ []) ≡ lines_from i os ts ++ packet_line (i + length os) o t
lines-push i [] o [] t same = append-nil (packet_line i o t) ∙ ap (λ (k : ℕ). packet_line k o t) (omega arith)
lines-push i [] o (x ∷ ts) t same = absurd (omega (arith, same))
lines-push i (p ∷ os) o [] t same = absurd (omega (arith, same))
lines-push i (p ∷ os) o (x ∷ ts) t same =
    let count : suc i + length os ≡ i + suc (length os) = omega arith in
    ap (λ (l : List ℕ). packet_line i p x ++ l) (lines-push (suc i) os o ts t (omega (arith, same)) ∙ ap (λ (k : ℕ). lines_from (suc i) os ts ++ packet_line k o t) count)
    ∙ sym (append_assoc (packet_line i p x) (lines_from (suc i) os ts) (packet_line (i + suc (length os)) o t))

listing_push : LaterTakings → (os : List (List ℕ)) (o text : List ℕ) (t : Taking) → IsListing os text → IsTaken (come os ++ Some o ∷ []) (length (come os)) t
    → IsListing (os ++ o ∷ []) (text ++ packet_line (length os) o t)
listing_push law os o text t (ts, are, is) taken =
    let count = taken_count (come os) 0 ts are in
    let same : length os ≡ length ts = omega (arith, count, length-map os (λ octets. Some octets)) in (
      ts ++ t ∷ [],
      subst (λ (A : List (Option (List ℕ))). AreTaken A 0 (ts ++ t ∷ [])) (sym (come-push os o)) (taken_push law (come os) (Some o) 0 ts t are taken),
      ap (λ (l : List ℕ). l ++ packet_line (length os) o t) is
          ∙ (ap (λ (k : ℕ). lines_from 0 os ts ++ packet_line k o t) (omega arith) ∙ sym (lines-push 0 os o ts t same)),
    )

goes : LaterTakings → (os : List (List ℕ)) (o : List ℕ) (t : Taking) → IsTaken (come os ++ Some o ∷ []) (length (come os)) t → (x y z : Taken)
    → TakesList os x y → TakesWhole (packet_line (length os) o t) y z → TakesList (os ++ o ∷ []) x z
goes law os o t taken x y z (text, listing, took) line = (
  text ++ packet_line (length os) o t,
  listing_push law os o text t listing taken,
  line ∙ (ap (λ (l : List ℕ). l ++ packet_line (length os) o t) took ∙ append_assoc x.octets text (packet_line (length os) o t)),
)

pub line_goes_on : LaterTakings → (os : List (List ℕ)) (o : List ℕ) (t : Taking) → IsTaken (come os ++ Some o ∷ []) (length (come os)) t → (a b c : Option Taken)
    → WhereTold a b (TakesList os) → WhereTold b c (TakesWhole (packet_line (length os) o t)) → WhereTold a c (TakesList (os ++ o ∷ []))
line_goes_on law os o t taken a b c so_far line = WhereTold-join a b c _ _ _ (goes law os o t taken) so_far line

tears : LaterTakings → (arrivals os : List (List ℕ)) (count : ℕ) (o : List ℕ) (t : Taking) → take count arrivals ≡ os ++ o ∷ [] → IsTaken (come os ++ Some o ∷ []) (length (come os)) t → (x y z : Taken)
    → TakesList os x y → TakesFront (packet_line (length os) o t) y z → TakesListFront arrivals x z
tears law arrivals os count o t is taken x y z (text, listing, took) (rest, (front, whole, more)) = (
  count,
  text ++ packet_line (length os) o t,
  rest,
  subst (λ (l : List (List ℕ)). IsListing l (text ++ packet_line (length os) o t)) (sym is) (listing_push law os o text t listing taken),
  (
    text ++ front,
    ap (λ (l : List ℕ). text ++ l) whole ∙ sym (append_assoc text front rest),
    more ∙ (ap (λ (l : List ℕ). l ++ front) took ∙ append_assoc x.octets text front),
  ),
)

pub line_breaks : {U E : Type 0} → LaterTakings → (arrivals os : List (List ℕ)) (count : ℕ) (o : List ℕ) (t : Taking) → take count arrivals ≡ os ++ o ∷ []
    → IsTaken (come os ++ Some o ∷ []) (length (come os)) t → (a b c : Option Taken) (r : Result U E) → IsErr r
    → WhereTold a b (TakesList os) → WhereTold b c (TakesFront (packet_line (length os) o t)) → WhereTold a c (TakesListAll r arrivals)
line_breaks law arrivals os count o t is taken a b c (Ok x) err so_far line = absurd (false≢true err)
line_breaks law arrivals os count o t is taken a b c (Err d) err so_far line = WhereTold-join a b c _ _ _ (tears law arrivals os count o t is taken) so_far line

-- nothing is listed yet
pub none_listed : (a : Option Taken) → WhereTold a a (TakesList [])
none_listed None = tt
none_listed (Some x) = ([], ([], refl, refl), sym (append-nil x.octets))

-- ---- the octets of a file

pub flushed_leaves : (s : Status) (octets : List ℕ) (arrivals : List (List ℕ)) (a b c : Option Taken) (between now : ℕ) → arrivals_of octets ≡ Ok arrivals → WhereTold a b (TakesList arrivals)
    → FlushEnds status.Done s b c between now → ListedLeaves s octets a c
flushed_leaves s octets arrivals a b c between now due took (inl (is, ends, later)) =
    subst (λ (x : Status). ListedLeaves x octets a c) (sym is)
    (WhereTold-join a b c _ _ _ (λ x y z p q. ((arrivals, due, (p.0, p.1, q.0 ∙ p.2)), q.1)) took ends)
flushed_leaves s octets arrivals a b c between now due took (inr (is, ends, later, rose)) =
    subst (λ (x : Status). ListedLeaves x octets a c) (sym is)
    (WhereTold-join a b c _ _ _ (λ x y z p q. (arrivals, due, whole x z p.0 p.1 (q ∙ p.2))) took ends)
  where
    whole : (x z : Taken) (text : List ℕ) → IsListing arrivals text → z.octets ≡ x.octets ++ text → TakesListFront arrivals x z
    whole x z text listing took =
        (length arrivals, text, [], subst (λ (l : List (List ℕ)). IsListing l text) (sym (take-length arrivals)) listing, (text, sym (append-nil text), took))

pub read_well : (found : List (List ℕ)) (due : Result (List (List ℕ)) ℕ) → ReadsAs (Ok found) due → due ≡ Ok found
read_well found (Ok more) is = ap (λ (x : List (List ℕ)). Ok x) (sym is)
read_well found (Err line) is = absurd is
