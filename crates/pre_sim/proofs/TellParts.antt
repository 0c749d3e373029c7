-- What was told by a part that tells one event, or none.
use Rattle.std.proofs.Common.{◌≡◌, ℕ, [], ◌∷◌, ◌++◌, Result, Ok, Err, refl, sym, subst, append_assoc}
use Rattle.std.specs.Result.{OnOk}
use Rattle.std.proofs.Common.{Bool, true, false}
use mir.Val.{bool_byte}
use Rattle.std.proofs.lemmas.List.{append-nil}
use Rattle.pre_topo.specs.declared.network.Network.{Network}
use Rattle.pre_history.specs.History.{PlainEvent, History}
use Rattle.pre_sim.specs.declared.halts.Halt.{Halt}
use Rattle.pre_sim.specs.declared.halts.Halt.TheVariants.{Stopped, Alias}
use Rattle.pre_sim.specs.Telling.{TellsAll}
use Rattle.pre_history.proofs.WrittenEvents.{AreWritten-append}
use Rattle.pre_sim.proofs.Told.{Takes, Fails, tells_nothing, tells_then}
use Rattle.pre_sim.specs.Parts.{TellsOne, TellsPart, NoArrival, count_of}

-- nothing
pub part_of_none : (net : Network) (took : Takes) (Whole : History → Type 0) → Whole [] → (es : History) × TellsAll net took took es × Whole es
part_of_none net took Whole is = ([], tells_nothing net took, is)

-- one event
pub part_of_one : {T : Type 0} (net : Network) (r : Result T Halt) (old new : Takes) (torn : Fails) (e : PlainEvent) (Whole : T → History → Type 0) (Front : History → Type 0)
    (Before : ℕ → ℕ → History → Type 0)
    → TellsOne net r old new torn e → ((x : T) → Whole x (e ∷ [])) → Front (e ∷ []) → TellsPart net r old new torn Whole Front Before
part_of_one net (Ok x) old new torn e Whole Front Before told is front = (e ∷ [], told, is x)
part_of_one net (Err (Alias arc ordinal)) old new torn e Whole Front Before told is front = absurd told
part_of_one net (Err Stopped) old new torn e Whole Front Before told is front = ([], e, tt, told.0, λ base h t. subst (λ g. torn base g e) (sym (append-nil h)) (told.1 base h t), front)

-- a part that ended early, after others
module _ {T U : Type 0} (net : Network) (r : Result T Halt) (s : Result U Halt) (a b c : Takes) (torn : Fails) (es : History)
    (Whole : T → History → Type 0) (Front : History → Type 0) (Before : ℕ → ℕ → History → Type 0) (Whole' : U → History → Type 0) (Front' : History → Type 0) (Before' : ℕ → ℕ → History → Type 0)
    (told : TellsAll net a b es) (more : (fs : History) → Front fs → Front' (es ++ fs)) (before : (x i : ℕ) (fs : History) → Before x i fs → Before' x i (es ++ fs)) where
  early : (d : Halt) → TellsPart {T = T} net (Err d) b c torn Whole Front Before → TellsPart {T = U} net (Err d) a c torn Whole' Front' Before'
  early (Alias arc ordinal) q = (es ++ q.0, tells_then net a b c es q.0 told q.1, before arc.0 ordinal q.0 q.2)
  early Stopped q = (
    es ++ q.0,
    q.1,
    AreWritten-append net es q.0 told.0 q.2,
    q.3,
    λ base h t. subst (λ g. torn base g q.1) (append_assoc h es q.0) (q.4 base (h ++ es) (told.1 base h t)),
    subst Front' (sym (append_assoc es q.0 (q.1 ∷ []))) (more (q.0 ++ q.1 ∷ []) q.5),
  )

  pub then_early : TellsPart net r b c torn Whole Front Before → (d : Halt) → r ≡ Err d → s ≡ Err d → TellsPart net s a c torn Whole' Front' Before'
  then_early part d r_is s_is = subst (λ x. TellsPart net x a c torn Whole' Front' Before') (sym s_is) (early d (subst (λ x. TellsPart net x b c torn Whole Front Before) r_is part))

-- so it is where no arrival is an alias in either
pub then_front : {T U : Type 0} (net : Network) (r : Result T Halt) (s : Result U Halt) (a b c : Takes) (torn : Fails) (es : History) (Whole : T → History → Type 0)
    (Front : History → Type 0) (Whole' : U → History → Type 0) (Front' : History → Type 0)
    (Before' : ℕ → ℕ → History → Type 0)
    → TellsAll net a b es → TellsPart net r b c torn Whole Front NoArrival → ((fs : History) → Front fs → Front' (es ++ fs)) → (d : Halt) → r ≡ Err d → s ≡ Err d
    → TellsPart net s a c torn Whole' Front' Before'
then_front net r s a b c torn es Whole Front Whole' Front' Before' told part more d r_is s_is =
    then_early net r s a b c torn es Whole Front NoArrival Whole' Front' Before' told more (λ x i fs no. absurd no) part d r_is s_is

-- a part after others, however it ended
module _ {T : Type 0} (net : Network) (a b c : Takes) (torn : Fails) (es : History) (Whole Whole' : T → History → Type 0) (Front Front' : History → Type 0) (Before Before' : ℕ → ℕ → History → Type 0)
    (told : TellsAll net a b es) (more : (x : T) (fs : History) → Whole x fs → Whole' x (es ++ fs)) (front : (fs : History) → Front fs → Front' (es ++ fs))
    (before : (x i : ℕ) (fs : History) → Before x i fs → Before' x i (es ++ fs)) where
  pub then_any : (r : Result T Halt) → TellsPart net r b c torn Whole Front Before → TellsPart net r a c torn Whole' Front' Before'
  then_any (Ok x) part = (es ++ part.0, tells_then net a b c es part.0 told part.1, more x part.0 part.2)
  then_any (Err d) part = early net (Err d) (Err d) a b c torn es Whole Front Before Whole' Front' Before' told front before d part

pub then_part : {T : Type 0} (net : Network) (r : Result T Halt) (a b c : Takes) (torn : Fails) (es : History) (Whole Whole' : T → History → Type 0) (Front Front' : History → Type 0)
    (Before' : ℕ → ℕ → History → Type 0)
    → TellsAll net a b es → TellsPart net r b c torn Whole Front NoArrival → ((x : T) (fs : History) → Whole x fs → Whole' x (es ++ fs)) → ((fs : History) → Front fs → Front' (es ++ fs))
    → TellsPart net r a c torn Whole' Front' Before'
then_part net r a b c torn es Whole Whole' Front Front' Before' told part more front = then_any net a b c torn es Whole Whole' Front Front' NoArrival Before' told more front
    (λ x i fs no. absurd no) r part

-- what holds after a whole part
pub on_ok : {T : Type 0} (net : Network) (r : Result T Halt) (old new : Takes) (torn : Fails) (Whole : T → History → Type 0) (Front : History → Type 0)
    (Before : ℕ → ℕ → History → Type 0) (P : Type 0) → TellsPart net r old new torn Whole Front Before → ((x : T) (es : History) → Whole x es → P) → OnOk r P
on_ok net (Ok x) old new torn Whole Front Before P told says = says x told.0 told.2
on_ok net (Err d) old new torn Whole Front Before P told says = tt

pub on_ok_weaker : {T : Type 0} {P Q : Type 0} (r : Result T Halt) → (P → Q) → OnOk r P → OnOk r Q
on_ok_weaker (Ok x) weak p = weak p
on_ok_weaker (Err d) weak p = tt

pub on_ok_of : {T : Type 0} {P : Type 0} (r : Result T Halt) → P → OnOk r P
on_ok_of (Ok x) p = p
on_ok_of (Err d) p = tt

-- the number that a test is
pub byte_of : (b : Bool) → bool_byte b ≡ count_of b
byte_of true = refl
byte_of false = refl
