-- The cause of an answer leaves no other, where a network's text isn't there or is refused.
use Rattle.std.proofs.Common.{◌≡◌, ◌⊎◌, inl, inr, ℕ, ◌<◌, ◌≤◌, List, length, Some, None, refl, sym, ◌∙◌, ap, subst, arith}
use Rattle.std.proofs.lemmas.Option.{none-some}
use Rattle.pre_base.specs.Shelves.{Told, Files}
use Rattle.pre_topo.specs.declared.network.Network.{Network}
use Rattle.pre_topo.specs.NetworkOf.{network_of, parts_of}
use Rattle.pre_cli.specs.declared.statuses.Status.{Status}
use Rattle.pre_cli.specs.declared.statuses.Status.TheVariants as status
use Rattle.pre_cli.specs.Scripts.{max_file}
use Rattle.pre_cli.specs.Answers.{Outside}
use Rattle.pre_cli.specs.Due.{GivesUp, TellsFiles}
use Rattle.pre_cli.specs.Files.{text_named, topo_status, OfFiles, IsNetIn, NetRefused, pair_network}
use Rattle.pre_cli.specs.Certifying.{AreBothIn, RefusedIn, GoneIn, HasBoth, CertifyingCause}
use Rattle.pre_cli.proofs.DueReadings.{told_as}
use Rattle.pre_cli.proofs.Texts.{err_same, ok_err, some_same}

pub same_text : (built_in word x y : List ℕ) (files : Files) → text_named built_in word files ≡ Some x → text_named built_in word files ≡ Some y → x ≡ y
same_text built_in word x y files p q = some_same x y (sym p ∙ q)

pub too_long : (x y : List ℕ) → x ≡ y → max_file < length x → length y ≤ max_file → ⊥
too_long x y same long short = omega (arith, long, subst (λ (l : List ℕ). length l ≤ max_file) (sym same) short)

-- a text that is refused is refused so alone
net_one : (word : List ℕ) (s t : Status) (files : Files) → NetRefused word s files → NetRefused word t files → s ≡ t
net_one word s t files (inl p) (inl q) = p.3 ∙ sym q.3
net_one word s t files (inl p) (inr (y, q, (fault, read, is))) = absurd (too_long p.0 y (same_text pair_network word p.0 y files p.1 q.is) p.2 q.short)
net_one word s t files (inr (x, p, (fault, read, is))) (inl q) = absurd (too_long q.0 x (same_text pair_network word q.0 x files q.1 p.is) q.2 p.short)
net_one word s t files (inr (x, p, (fault, read, is))) (inr (y, q, (other, read_too, is_too))) =
    let same : x ≡ y = same_text pair_network word x y files p.is q.is in
    is ∙ ap topo_status (err_same (network_of x) fault other read (ap network_of same ∙ read_too)) ∙ sym is_too

-- and is no network
pub net_not : (word : List ℕ) (s : Status) (net : Network) (files : Files) → NetRefused word s files → IsNetIn word net files → ⊥
net_not word s net files (inl p) (y, q, read) = too_long p.0 y (same_text pair_network word p.0 y files p.1 q.is) p.2 q.short
net_not word s net files (inr (x, p, (fault, read, is))) (y, q, read_too) =
    let same : x ≡ y = same_text pair_network word x y files p.is q.is in
    ok_err (network_of x) (parts_of net) fault (ap network_of same ∙ read_too) read

pub net_there : (word : List ℕ) (s : Status) (files : Files) → NetRefused word s files → text_named pair_network word files ≡ None → ⊥
net_there word s files (inl p) none = none-some p.0 (sym none ∙ p.1)
net_there word s files (inr (x, p, rest)) none = none-some x (sym none ∙ p.is)

refused_one : (net_word streams_word : List ℕ) (s t : Status) (files : Files) → NetRefused net_word t files → RefusedIn net_word streams_word s files → s ≡ t
refused_one net_word streams_word s t files p (inl q) = net_one net_word s t files q p
refused_one net_word streams_word s t files p (inr (inl (net, q, rest))) = absurd (net_not net_word t net files p q)
refused_one net_word streams_word s t files p (inr (inr (net, streams, q, rest))) = absurd (net_not net_word t net files p q.0)

not_both : (net_word streams_word : List ℕ) (t : Status) (o : Outside) (told : Told) → TellsFiles o told → NetRefused net_word t told.files → HasBoth net_word streams_word o → ⊥
not_both net_word streams_word t o told tells p (net, streams, read, least) =
    net_not net_word t net told.files p (told_as o told (OfFiles (AreBothIn net_word streams_word net streams)) tells read).1.0.0

not_gone : (net_word streams_word : List ℕ) (t : Status) (o : Outside) (told : Told) → TellsFiles o told → NetRefused net_word t told.files → GoneIn net_word streams_word (Some told) → ⊥
not_gone net_word streams_word t o told tells p (inl none) = net_there net_word t told.files p none
not_gone net_word streams_word t o told tells p (inr (net, q, none)) = net_not net_word t net told.files p q

pub refused_network : (s t : Status) (net_word streams_word : List ℕ) (o : Outside) (told : Told) → TellsFiles o told → NetRefused net_word t told.files → CertifyingCause s net_word streams_word o → (s ≡ t) ⊎ GivesUp o s
refused_network status.Done t net_word streams_word o told tells p cause = absurd (not_both net_word streams_word t o told tells p cause)
refused_network status.WriteFault t net_word streams_word o told tells p cause = absurd (not_both net_word streams_word t o told tells p cause.1)
refused_network status.ReadFault t net_word streams_word o told tells p (inl gone) = absurd (not_gone net_word streams_word t o told tells p (subst (λ a. GoneIn net_word streams_word a) tells.0 gone))
refused_network status.ReadFault t net_word streams_word o told tells p (inr rose) = inr (inr (refl, rose))
refused_network (status.Form kind line rule) t net_word streams_word o told tells p cause =
    inl (refused_one net_word streams_word (status.Form kind line rule) t told.files p (told_as o told (OfFiles (RefusedIn net_word streams_word (status.Form kind line rule))) tells cause).1.0)
refused_network (status.Rules kind row rule) t net_word streams_word o told tells p cause =
    inl (refused_one net_word streams_word (status.Rules kind row rule) t told.files p (told_as o told (OfFiles (RefusedIn net_word streams_word (status.Rules kind row rule))) tells cause).1.0)
refused_network (status.Unfit u) t net_word streams_word o told tells p cause =
    inl (refused_one net_word streams_word (status.Unfit u) t told.files p (told_as o told (OfFiles (RefusedIn net_word streams_word (status.Unfit u))) tells cause).1.0)
refused_network (status.Unsettled arc prio) t net_word streams_word o told tells p cause =
    inl (refused_one net_word streams_word (status.Unsettled arc prio) t told.files p (told_as o told (OfFiles (RefusedIn net_word streams_word (status.Unsettled arc prio))) tells cause).1.0)
refused_network status.Memory t net_word streams_word o told tells p cause = inr (inl refl)
refused_network status.Words t net_word streams_word o told tells p cause = absurd cause
refused_network (status.Rejected clause row) t net_word streams_word o told tells p cause = absurd cause
refused_network (status.Unruly line) t net_word streams_word o told tells p cause = absurd cause
refused_network status.NoArc t net_word streams_word o told tells p cause = absurd cause
refused_network (status.Alias arc ordinal) t net_word streams_word o told tells p cause = absurd cause

-- ---- a network's text that isn't there

pub none_net : (word : List ℕ) (net : Network) (files : Files) → text_named pair_network word files ≡ None → IsNetIn word net files → ⊥
none_net word net files none (x, p, read) = none-some x (sym none ∙ p.is)

none_refused : (net_word streams_word : List ℕ) (s : Status) (files : Files) → text_named pair_network net_word files ≡ None → RefusedIn net_word streams_word s files → ⊥
none_refused net_word streams_word s files none (inl q) = net_there net_word s files q none
none_refused net_word streams_word s files none (inr (inl (net, q, rest))) = none_net net_word net files none q
none_refused net_word streams_word s files none (inr (inr (net, streams, q, rest))) = none_net net_word net files none q.0

none_both : (net_word streams_word : List ℕ) (o : Outside) (told : Told) → TellsFiles o told → text_named pair_network net_word told.files ≡ None → HasBoth net_word streams_word o → ⊥
none_both net_word streams_word o told tells none (net, streams, read, least) =
    none_net net_word net told.files none (told_as o told (OfFiles (AreBothIn net_word streams_word net streams)) tells read).1.0.0

pub missing_network : (s : Status) (net_word streams_word : List ℕ) (o : Outside) (told : Told) → TellsFiles o told → text_named pair_network net_word told.files ≡ None → CertifyingCause s net_word streams_word o → (s ≡ status.ReadFault) ⊎ (s ≡ status.Memory)
missing_network status.ReadFault net_word streams_word o told tells none cause = inl refl
missing_network status.Memory net_word streams_word o told tells none cause = inr refl
missing_network status.Done net_word streams_word o told tells none cause = absurd (none_both net_word streams_word o told tells none cause)
missing_network status.WriteFault net_word streams_word o told tells none cause = absurd (none_both net_word streams_word o told tells none cause.1)
missing_network (status.Form kind line rule) net_word streams_word o told tells none cause =
    absurd (none_refused net_word streams_word (status.Form kind line rule) told.files none (told_as o told (OfFiles (RefusedIn net_word streams_word (status.Form kind line rule))) tells cause).1.0)
missing_network (status.Rules kind row rule) net_word streams_word o told tells none cause =
    absurd (none_refused net_word streams_word (status.Rules kind row rule) told.files none (told_as o told (OfFiles (RefusedIn net_word streams_word (status.Rules kind row rule))) tells cause).1.0)
missing_network (status.Unfit u) net_word streams_word o told tells none cause =
    absurd (none_refused net_word streams_word (status.Unfit u) told.files none (told_as o told (OfFiles (RefusedIn net_word streams_word (status.Unfit u))) tells cause).1.0)
missing_network (status.Unsettled arc prio) net_word streams_word o told tells none cause =
    absurd (none_refused net_word streams_word (status.Unsettled arc prio) told.files none (told_as o told (OfFiles (RefusedIn net_word streams_word (status.Unsettled arc prio))) tells cause).1.0)
missing_network status.Words net_word streams_word o told tells none cause = absurd cause
missing_network (status.Rejected clause row) net_word streams_word o told tells none cause = absurd cause
missing_network (status.Unruly line) net_word streams_word o told tells none cause = absurd cause
missing_network status.NoArc net_word streams_word o told tells none cause = absurd cause
missing_network (status.Alias arc ordinal) net_word streams_word o told tells none cause = absurd cause
