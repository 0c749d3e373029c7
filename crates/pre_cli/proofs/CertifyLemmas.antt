-- What the parts of the command that certifies answer, as answers of the whole.
use Rattle.std.proofs.Common.{◌≡◌, ◌≢◌, ◌⊎◌, inl, inr, ℕ, ◌<◌, ◌≤◌, List, length, codes, [], Option, None, Some, Ok}
use Rattle.std.proofs.Common.{Err, Bool, true, false, refl, sym, ◌∙◌, ap, subst, arith, if◌then◌else◌}
use Rattle.std.proofs.lemmas.List.{append-nil}
use Rattle.std.specs.Str.{bytes_eq}
use Rattle.std.specs.FinMap.{get}
use Rattle.pre_base.specs.Faults.{Rose}
use Rattle.pre_base.specs.Told.{WhereTold, WhereTold-join, WhereTold-map}
use Rattle.pre_base.specs.Shelves.{Told, Files}
use Rattle.pre_base.specs.Reading.{IsWhole, HasAtLeast, SameFiles}
use Rattle.pre_base.specs.Sinks.{Taken}
use Rattle.pre_base.specs.Sinks.{TakesWhole, TakesFront}
use Rattle.pre_topo.specs.declared.network.Network.{Network}
use Rattle.pre_topo.specs.declared.faults.TopoFault.{TopoFault}
use Rattle.pre_topo.specs.declared.faults.TopoFault.TheVariants as topo
use Rattle.pre_topo.specs.NetworkOf as networks
use Rattle.pre_streams.specs.declared.rows.Streams.{Streams}
use Rattle.pre_streams.specs.declared.faults.StreamFault.{StreamFault}
use Rattle.pre_streams.specs.declared.faults.StreamFault.TheVariants as stream
use Rattle.pre_streams.specs.StreamsOf as rows
use Rattle.pre_bound.specs.declared.certificate.Certificate.{Certificate}
use Rattle.pre_certify.specs.declared.unfit.Unfit.{Unfit}
use Rattle.pre_certify.specs.declared.unfit.Unfit.TheVariants as unfit
use Rattle.pre_certify.specs.Causes.{Cause}
use Rattle.pre_certify.specs.Refusals.{IsAlone, names_cycle}
use Rattle.pre_rounds.specs.declared.faults.RoundsFault.{RoundsFault}
use Rattle.pre_rounds.specs.declared.faults.RoundsFault.TheVariants as rounds
use Rattle.pre_rounds.specs.Causes as of_rounds
use Rattle.pre_rounds.specs.Answers as rounds_answers
use Rattle.pre_certify.specs.Text.{certificate_text}
use Rattle.pre_cli.specs.declared.statuses.FileWord.{FileWord}
use Rattle.pre_cli.specs.declared.statuses.FileWord.TheVariants as file
use Rattle.pre_cli.specs.declared.statuses.Status.{Status}
use Rattle.pre_cli.specs.declared.statuses.Status.TheVariants as status
use Rattle.pre_cli.specs.Scripts.{max_file}
use Rattle.pre_cli.specs.Answers.{Outside}
use Rattle.pre_cli.specs.Files.{text_named, IsTextIn, OfFiles, IsGone, IsFileIn, IsNoFile, IsLongFile, topo_status, stream_status, IsLong, IsNetIn, NetRefused, AreStreamsIn, StreamsRefused, InPlace, pair_network, pair_streams}
use Rattle.pre_cli.specs.Certifying.{unfit_status, UnfitCause, HaveCycle, HasCertificate, IsLeastOfBoth, IsAnswerTo, RoundsCause, RefusalCause}
use Rattle.pre_cli.specs.Certifying.{HasNone, CertifiedCause, TakesFlushed, CertifiedLeaves, AreBothIn, RefusedIn, GoneIn, CertifyingCause}
use Rattle.pre_cli.specs.Certifying.{CertifyingLeaves}
use Rattle.pre_cli.specs.Runs.{FlushEnds}

-- ---- told values

pub both : {A : Type 0} (a b : Option A) (P Q R : A → A → Type 0) → ((x y : A) → P x y → Q x y → R x y) → WhereTold a b P → WhereTold a b Q → WhereTold a b R
both None None P Q R f p q = tt
both None (Some y) P Q R f p q = absurd p
both (Some x) None P Q R f p q = absurd p
both (Some x) (Some y) P Q R f p q = f x y p q

pub unmoved : (a : Option Told) (P : Files → Type 0) → ((files : Files) → P files) → WhereTold a a (OfFiles P)
unmoved None P f = tt
unmoved (Some x) P f = (f x.files, refl)

pub of_more : (a b : Option Told) (P Q : Files → Type 0) → ((files : Files) → P files → Q files) → WhereTold a b (OfFiles P) → WhereTold a b (OfFiles Q)
of_more a b P Q f = WhereTold-map a b (OfFiles P) (OfFiles Q) (λ x y p. (f x.files p.0, p.1))

-- a fact before a call and one after it, of files that stay as they were
pub of_both : (a b c : Option Told) (P Q R : Files → Type 0) → ((files : Files) → P files → Q files → R files) → WhereTold a b (OfFiles P) → WhereTold b c (OfFiles Q) → WhereTold a c (OfFiles R)
of_both a b c P Q R f =
    WhereTold-join a b c (OfFiles P) (OfFiles Q) (OfFiles R) (λ x y z p q. (f x.files p.0 (subst Q p.1 q.0), q.1 ∙ p.1))

-- ---- one text

pub long_file : (kind : FileWord) (word : List ℕ) (count : ℕ) (a b : Option Told) → max_file < count → WhereTold a b (HasAtLeast word count) → WhereTold a b SameFiles → WhereTold a b (OfFiles (IsLongFile kind word (status.Form kind 0 0)))
long_file kind word count a b lt = both a b (HasAtLeast word count) SameFiles (OfFiles (IsLongFile kind word (status.Form kind 0 0))) (λ x y p same. ((p.0, p.1, omega (arith, lt, p.2), refl), same))

pub whole_file : (word text : List ℕ) (a b : Option Told) → length text ≤ max_file → WhereTold a b (IsWhole word text) → WhereTold a b SameFiles → WhereTold a b (OfFiles (IsFileIn word text))
whole_file word text a b short = both a b (IsWhole word text) SameFiles (OfFiles (IsFileIn word text)) (λ x y whole same. ((whole, short), same))

named_pair : (built_in word : List ℕ) (files : Files) → bytes_eq word (codes "pair") ≡ true → text_named built_in word files ≡ Some built_in
named_pair built_in word files is = ap (λ (b : Bool). if b then Some built_in else get files word) is

named_file : (built_in word : List ℕ) (files : Files) → bytes_eq word (codes "pair") ≡ false → text_named built_in word files ≡ get files word
named_file built_in word files is = ap (λ (b : Bool). if b then Some built_in else get files word) is

pub pair_text : (built_in word : List ℕ) (a : Option Told) → bytes_eq word (codes "pair") ≡ true → length built_in ≤ max_file → WhereTold a a (OfFiles (IsTextIn built_in word built_in))
pair_text built_in word a is short = unmoved a (IsTextIn built_in word built_in) (λ files. record { is = named_pair built_in word files is; short = short })

pub file_text : (built_in word text : List ℕ) (a b : Option Told) → bytes_eq word (codes "pair") ≡ false → WhereTold a b (OfFiles (IsFileIn word text)) → WhereTold a b (OfFiles (IsTextIn built_in word text))
file_text built_in word text a b is = of_more a b (IsFileIn word text) (IsTextIn built_in word text) (λ files p. record { is = named_file built_in word files is ∙ p.0; short = p.1 })

gone_file : (built_in word : List ℕ) (a : Option Told) → bytes_eq word (codes "pair") ≡ false → IsNoFile word a → IsGone built_in word a
gone_file built_in word None is gone = absurd gone
gone_file built_in word (Some told) is gone = named_file built_in word told.files is ∙ gone

long_text : (kind : FileWord) (built_in word : List ℕ) (s : Status) (a b : Option Told) → bytes_eq word (codes "pair") ≡ false → WhereTold a b (OfFiles (IsLongFile kind word s)) → WhereTold a b (OfFiles (IsLong kind built_in word s))
long_text kind built_in word s a b is = of_more a b (IsLongFile kind word s) (IsLong kind built_in word s) (λ files p. (p.0, named_file built_in word files is ∙ p.1, p.2, p.3))

pub file_cause : (s : Status) (kind : FileWord) (built_in word : List ℕ) (before now : ℕ) (a b : Option Told) → bytes_eq word (codes "pair") ≡ false
    → InPlace s (IsNoFile word) (IsLongFile kind word) before now a b → InPlace s (IsGone built_in word) (IsLong kind built_in word) before now a b
file_cause status.ReadFault kind built_in word before now a b is (inl gone) = inl (gone_file built_in word a is gone)
file_cause status.ReadFault kind built_in word before now a b is (inr rose) = inr rose
file_cause (status.Form k line rule) kind built_in word before now a b is cause = long_text kind built_in word (status.Form k line rule) a b is cause
file_cause (status.Rules k row rule) kind built_in word before now a b is cause = long_text kind built_in word (status.Rules k row rule) a b is cause
file_cause status.Memory kind built_in word before now a b is cause = tt
file_cause status.Done kind built_in word before now a b is cause = absurd cause
file_cause status.Words kind built_in word before now a b is cause = absurd cause
file_cause (status.Rejected clause row) kind built_in word before now a b is cause = absurd cause
file_cause (status.Unruly line) kind built_in word before now a b is cause = absurd cause
file_cause (status.Unsettled arc prio) kind built_in word before now a b is cause = absurd cause
file_cause status.NoArc kind built_in word before now a b is cause = absurd cause
file_cause (status.Alias arc ordinal) kind built_in word before now a b is cause = absurd cause
file_cause status.WriteFault kind built_in word before now a b is cause = absurd cause
file_cause (status.Unfit u) kind built_in word before now a b is cause = absurd cause

-- ---- what is in place of a value, from more general causes

pub more_causes : (s : Status) (gone : Option Told → Type 0) (P Q : Status → Files → Type 0) (before now : ℕ) (a b : Option Told) → ((files : Files) → P s files → Q s files) → InPlace s gone P before now a b → InPlace s gone Q before now a b
more_causes status.ReadFault gone P Q before now a b f cause = cause
more_causes (status.Form k line rule) gone P Q before now a b f cause = of_more a b (P (status.Form k line rule)) (Q (status.Form k line rule)) f cause
more_causes (status.Rules k row rule) gone P Q before now a b f cause = of_more a b (P (status.Rules k row rule)) (Q (status.Rules k row rule)) f cause
more_causes status.Memory gone P Q before now a b f cause = tt
more_causes status.Done gone P Q before now a b f cause = absurd cause
more_causes status.Words gone P Q before now a b f cause = absurd cause
more_causes (status.Rejected clause row) gone P Q before now a b f cause = absurd cause
more_causes (status.Unruly line) gone P Q before now a b f cause = absurd cause
more_causes (status.Unsettled arc prio) gone P Q before now a b f cause = absurd cause
more_causes status.NoArc gone P Q before now a b f cause = absurd cause
more_causes (status.Alias arc ordinal) gone P Q before now a b f cause = absurd cause
more_causes status.WriteFault gone P Q before now a b f cause = absurd cause
more_causes (status.Unfit u) gone P Q before now a b f cause = absurd cause

pub net_long : (s : Status) (word : List ℕ) (before now : ℕ) (a b : Option Told) → InPlace s (IsGone pair_network word) (IsLong file.Net pair_network word) before now a b → InPlace s (IsGone pair_network word) (NetRefused word) before now a b
net_long s word before now a b = more_causes s (IsGone pair_network word) (IsLong file.Net pair_network word) (NetRefused word) before now a b (λ files p. inl p)

pub streams_long : (s : Status) (word : List ℕ) (net : Network) (before now : ℕ) (a b : Option Told) → InPlace s (IsGone pair_streams word) (IsLong file.Streams pair_streams word) before now a b → InPlace s (IsGone pair_streams word) (StreamsRefused word net) before now a b
streams_long s word net before now a b = more_causes s (IsGone pair_streams word) (IsLong file.Streams pair_streams word) (StreamsRefused word net) before now a b (λ files p. inl p)

-- ---- a network

pub net_read : (word text : List ℕ) (net : Network) (a b : Option Told) → networks.network_of text ≡ Ok (networks.parts_of net) → WhereTold a b (OfFiles (IsTextIn pair_network word text)) → WhereTold a b (OfFiles (IsNetIn word net))
net_read word text net a b read = of_more a b (IsTextIn pair_network word text) (IsNetIn word net) (λ files p. (text, p, read))

net_fault : (word text : List ℕ) (fault : TopoFault) (a b : Option Told) → networks.network_of text ≡ Err fault → WhereTold a b (OfFiles (IsTextIn pair_network word text)) → WhereTold a b (OfFiles (NetRefused word (topo_status fault)))
net_fault word text fault a b read = of_more a b (IsTextIn pair_network word text) (NetRefused word (topo_status fault)) (λ files p. inr (text, p, (fault, read, refl)))

pub net_refused : (fault : TopoFault) (word text : List ℕ) (before now : ℕ) (a b : Option Told) → networks.IsDue fault (networks.network_of text) → WhereTold a b (OfFiles (IsTextIn pair_network word text))
    → InPlace (topo_status fault) (IsGone pair_network word) (NetRefused word) before now a b
net_refused topo.Toml word text before now a b due is = net_fault word text topo.Toml a b due is
net_refused (topo.Field row) word text before now a b due is = net_fault word text (topo.Field row) a b due is
net_refused (topo.Name row) word text before now a b due is = net_fault word text (topo.Name row) a b due is
net_refused (topo.End row) word text before now a b due is = net_fault word text (topo.End row) a b due is
net_refused (topo.Range row) word text before now a b due is = net_fault word text (topo.Range row) a b due is
net_refused topo.Count word text before now a b due is = net_fault word text topo.Count a b due is
net_refused topo.Slots word text before now a b due is = net_fault word text topo.Slots a b due is
net_refused topo.Wires word text before now a b due is = net_fault word text topo.Wires a b due is
net_refused topo.Memory word text before now a b due is = tt

-- ---- streams

pub streams_read : (word text : List ℕ) (net : Network) (streams : Streams) (a b : Option Told) → rows.ReadsAs (Ok streams) (rows.streams_of net text) → WhereTold a b (OfFiles (IsTextIn pair_streams word text)) → WhereTold a b (OfFiles (AreStreamsIn word net streams))
streams_read word text net streams a b read = of_more a b (IsTextIn pair_streams word text) (AreStreamsIn word net streams) (λ files p. (text, p, read))

-- a fault of a file of streams, by the kind of file
module _ (kind : FileWord) (gone : Option Told → Type 0) (refused : Status → Files → Type 0) (IsText : Files → Type 0) (text : List ℕ) (net : Network) (before now : ℕ) (a b : Option Told)
    (refuses : (fault : StreamFault) (files : Files) → IsText files → rows.streams_of net text ≡ Err fault → refused (stream_status kind fault) files) where
  by_fault : (fault : StreamFault) → rows.streams_of net text ≡ Err fault → WhereTold a b (OfFiles IsText) → WhereTold a b (OfFiles (refused (stream_status kind fault)))
  by_fault fault read = of_more a b IsText (refused (stream_status kind fault)) (λ files p. refuses fault files p read)

  pub stream_file_refused : (fault : StreamFault) → rows.IsDue fault (rows.streams_of net text) → WhereTold a b (OfFiles IsText) → InPlace (stream_status kind fault) gone refused before now a b
  stream_file_refused stream.Toml due is = by_fault stream.Toml due is
  stream_file_refused (stream.Field row) due is = by_fault (stream.Field row) due is
  stream_file_refused (stream.Name row) due is = by_fault (stream.Name row) due is
  stream_file_refused (stream.Route row hop) due is = by_fault (stream.Route row hop) due is
  stream_file_refused (stream.Class row) due is = by_fault (stream.Class row) due is
  stream_file_refused (stream.Range row) due is = by_fault (stream.Range row) due is
  stream_file_refused (stream.Burst row) due is = by_fault (stream.Burst row) due is
  stream_file_refused stream.Count due is = by_fault stream.Count due is
  stream_file_refused stream.Memory due is = tt

pub streams_refused : (fault : StreamFault) (word text : List ℕ) (net : Network) (before now : ℕ) (a b : Option Told) → rows.IsDue fault (rows.streams_of net text) → WhereTold a b (OfFiles (IsTextIn pair_streams word text))
    → InPlace (stream_status file.Streams fault) (IsGone pair_streams word) (StreamsRefused word net) before now a b
streams_refused fault word text net before now a b =
    stream_file_refused file.Streams (IsGone pair_streams word) (StreamsRefused word net) (IsTextIn pair_streams word text) text net before now a b (λ e files p read. inr (text, p, (e, read, refl))) fault

-- ---- the certificate

pub alone_at : (u : Unfit) (net : Network) (streams : Streams) → u ≢ unfit.Memory → Cause net streams.rows u → (u ≡ unfit.Memory) ⊎ IsAlone net streams u → UnfitCause u net streams
alone_at u net streams refusal cause (inl memory) = absurd (refusal memory)
alone_at u net streams refusal cause (inr alone) = record { refusal = refusal; here = cause; alone = alone }

pub true_false : true ≡ false → ⊥
true_false e = cc

pub false_true : false ≡ true → ⊥
false_true e = cc

pub unfit_cause : (u : Unfit) (net : Network) (streams : Streams) (before now : ℕ) → names_cycle u ≡ false → Cause net streams.rows u → (u ≡ unfit.Memory) ⊎ IsAlone net streams u → CertifiedCause (unfit_status u) net streams before now
unfit_cause (unfit.Overload arc) net streams before now plain cause alone = inl (plain, alone_at (unfit.Overload arc) net streams (λ e. cc) cause alone)
unfit_cause (unfit.Cycle arcs) net streams before now plain cause alone = absurd (true_false plain)
unfit_cause (unfit.Large arc prio) net streams before now plain cause alone = inl (plain, alone_at (unfit.Large arc prio) net streams (λ e. cc) cause alone)
unfit_cause (unfit.Ring arc prio need) net streams before now plain cause alone = inl (plain, alone_at (unfit.Ring arc prio need) net streams (λ e. cc) cause alone)
unfit_cause unfit.Memory net streams before now plain cause alone = tt

pub have_cycle : (u : Unfit) (net : Network) (streams : Streams) → names_cycle u ≡ true → Cause net streams.rows u → (u ≡ unfit.Memory) ⊎ IsAlone net streams u → HaveCycle net streams
have_cycle (unfit.Overload arc) net streams names cause alone = absurd (false_true names)
have_cycle (unfit.Cycle arcs) net streams names cause alone = record { arcs = arcs; cycle = alone_at (unfit.Cycle arcs) net streams (λ e. cc) cause alone }
have_cycle (unfit.Large arc prio) net streams names cause alone = absurd (false_true names)
have_cycle (unfit.Ring arc prio need) net streams names cause alone = absurd (false_true names)
have_cycle unfit.Memory net streams names cause alone = absurd (false_true names)

fault_at : (e : RoundsFault) (s : Status) (net : Network) (streams : Streams) → HaveCycle net streams → e ≢ rounds.Memory → of_rounds.Cause net streams.rows e → (e ≡ rounds.Memory) ⊎ rounds_answers.IsAlone net streams.rows e
    → IsAnswerTo e streams.rows s → RoundsCause s net streams
fault_at e s net streams cycle refusal cause (inl memory) answer = absurd (refusal memory)
fault_at e s net streams cycle refusal cause (inr alone) answer = record { cycle = cycle; fault = e; refusal = refusal; here = cause; alone = alone; answer = answer }

-- the answer to a fault of the rounds has its cause
pub fault_cause : (e : RoundsFault) (s : Status) (net : Network) (streams : Streams) (before now : ℕ) → HaveCycle net streams → of_rounds.Cause net streams.rows e → (e ≡ rounds.Memory) ⊎ rounds_answers.IsAlone net streams.rows e
    → IsAnswerTo e streams.rows s → CertifiedCause s net streams before now
fault_cause (rounds.Overload arc) s net streams before now cycle cause alone answer =
    subst (λ (t : Status). CertifiedCause t net streams before now) (sym answer) (inr (fault_at (rounds.Overload arc) (status.Unfit (unfit.Overload arc)) net streams cycle (λ e. cc) cause alone refl))
fault_cause (rounds.Large arc prio) s net streams before now cycle cause alone answer =
    subst (λ (t : Status). CertifiedCause t net streams before now) (sym answer) (inr (fault_at (rounds.Large arc prio) (status.Unfit (unfit.Large arc prio)) net streams cycle (λ e. cc) cause alone refl))
fault_cause (rounds.Unsettled arc prio) s net streams before now cycle cause alone answer =
    subst (λ (t : Status). CertifiedCause t net streams before now) (sym answer) (fault_at (rounds.Unsettled arc prio) (status.Unsettled arc prio) net streams cycle (λ e. cc) cause alone refl)
fault_cause (rounds.Wide stream hop) s net streams before now cycle cause alone (arc, prio, at, is) =
    subst (λ (t : Status). CertifiedCause t net streams before now) (sym is) (inr (fault_at (rounds.Wide stream hop) (status.Unfit (unfit.Large arc prio)) net streams cycle (λ e. cc) cause alone (arc, prio, at, refl)))
fault_cause (rounds.Ring arc prio need) s net streams before now cycle cause alone answer =
    subst (λ (t : Status). CertifiedCause t net streams before now) (sym answer) (inr (fault_at (rounds.Ring arc prio need) (status.Unfit (unfit.Ring arc prio need)) net streams cycle (λ e. cc) cause alone refl))
fault_cause rounds.Memory s net streams before now cycle cause alone answer = subst (λ (t : Status). CertifiedCause t net streams before now) (sym answer) tt

pub unfit_leaves : (u : Unfit) (net : Network) (streams : Streams) (a : Option Taken) → CertifiedLeaves (unfit_status u) net streams a a
unfit_leaves (unfit.Overload arc) net streams a = refl
unfit_leaves (unfit.Cycle arcs) net streams a = refl
unfit_leaves (unfit.Large arc prio) net streams a = refl
unfit_leaves (unfit.Ring arc prio need) net streams a = refl
unfit_leaves unfit.Memory net streams a = refl

-- the certificate was written whole, and then passed on or not
pub flushed_leaves : (s : Status) (net : Network) (streams : Streams) (k : Certificate) (a b c : Option Taken) (between now : ℕ) → IsLeastOfBoth net streams k
    → WhereTold a b (TakesWhole (certificate_text net streams.rows k)) → FlushEnds status.Done s b c between now → CertifiedLeaves s net streams a c
flushed_leaves s net streams k a b c between now least took (inl (is, ends, later)) =
    subst (λ (x : Status). CertifiedLeaves x net streams a c) (sym is)
    (k, least, WhereTold-join a b c _ _ (TakesFlushed (certificate_text net streams.rows k)) (λ x y z p q. (q.0 ∙ p, q.1)) took ends)
flushed_leaves s net streams k a b c between now least took (inr (is, ends, later, rose)) =
    let text = certificate_text net streams.rows k in
    subst (λ (x : Status). CertifiedLeaves x net streams a c) (sym is)
    (k, least, WhereTold-join a b c _ _ (TakesFront text) (λ x y z p q. ([], (text, sym (append-nil text), q ∙ p))) took ends)

pub flushed_cause : (s : Status) (net : Network) (streams : Streams) (before between now : ℕ) (a b : Option Taken) → HasCertificate net streams → before ≤ between
    → FlushEnds status.Done s a b between now → CertifiedCause s net streams before now
flushed_cause s net streams before between now a b has sooner (inl (is, ends, later)) = subst (λ (x : Status). CertifiedCause x net streams before now) (sym is) has
flushed_cause s net streams before between now a b has sooner (inr (is, ends, later, rose)) =
    subst (λ (x : Status). CertifiedCause x net streams before now) (sym is) (omega (arith, sooner, rose), has)

-- ---- the command

net_gone : (net_word streams_word : List ℕ) (a : Option Told) → IsGone pair_network net_word a → GoneIn net_word streams_word a
net_gone net_word streams_word None gone = absurd gone
net_gone net_word streams_word (Some told) gone = inl gone

-- the network wasn't read
pub net_cause : (s : Status) (net_word streams_word : List ℕ) (o : Outside) → InPlace s (IsGone pair_network net_word) (NetRefused net_word) o.shelf_before o.shelf_after o.told_before o.told_after → CertifyingCause s net_word streams_word o
net_cause status.ReadFault net_word streams_word o (inl gone) = inl (net_gone net_word streams_word o.told_before gone)
net_cause status.ReadFault net_word streams_word o (inr rose) = inr rose
net_cause (status.Form k line rule) net_word streams_word o cause = of_more o.told_before o.told_after (NetRefused net_word (status.Form k line rule)) (RefusedIn net_word streams_word (status.Form k line rule)) (λ files p. inl p) cause
net_cause (status.Rules k row rule) net_word streams_word o cause = of_more o.told_before o.told_after (NetRefused net_word (status.Rules k row rule)) (RefusedIn net_word streams_word (status.Rules k row rule)) (λ files p. inl p) cause
net_cause status.Memory net_word streams_word o cause = tt
net_cause status.Done net_word streams_word o cause = absurd cause
net_cause status.Words net_word streams_word o cause = absurd cause
net_cause (status.Rejected clause row) net_word streams_word o cause = absurd cause
net_cause (status.Unruly line) net_word streams_word o cause = absurd cause
net_cause (status.Unsettled arc prio) net_word streams_word o cause = absurd cause
net_cause status.NoArc net_word streams_word o cause = absurd cause
net_cause (status.Alias arc ordinal) net_word streams_word o cause = absurd cause
net_cause status.WriteFault net_word streams_word o cause = absurd cause
net_cause (status.Unfit u) net_word streams_word o cause = absurd cause

streams_gone : (net_word streams_word : List ℕ) (net : Network) (a b : Option Told) → WhereTold a b (OfFiles (IsNetIn net_word net)) → IsGone pair_streams streams_word b → GoneIn net_word streams_word a
streams_gone net_word streams_word net None None read gone = absurd gone
streams_gone net_word streams_word net None (Some y) read gone = absurd read
streams_gone net_word streams_word net (Some x) None read gone = absurd read
streams_gone net_word streams_word net (Some x) (Some y) read gone = inr (net, read.0, subst (λ (files : Files). text_named pair_streams streams_word files ≡ None) read.1 gone)

-- the network was read, and the streams weren't
pub streams_cause : (s : Status) (net_word streams_word : List ℕ) (net : Network) (o : Outside) (between : ℕ) (b : Option Told) → o.shelf_before ≤ between → WhereTold o.told_before b (OfFiles (IsNetIn net_word net))
    → InPlace s (IsGone pair_streams streams_word) (StreamsRefused streams_word net) between o.shelf_after b o.told_after → CertifyingCause s net_word streams_word o
streams_cause status.ReadFault net_word streams_word net o between b later read (inl gone) = inl (streams_gone net_word streams_word net o.told_before b read gone)
streams_cause status.ReadFault net_word streams_word net o between b later read (inr rose) = inr (omega (arith, later, rose))
streams_cause (status.Form k line rule) net_word streams_word net o between b later read cause =
    of_both o.told_before b o.told_after (IsNetIn net_word net) (StreamsRefused streams_word net (status.Form k line rule)) (RefusedIn net_word streams_word (status.Form k line rule)) (λ files p q. inr (inl (net, p, q))) read cause
streams_cause (status.Rules k row rule) net_word streams_word net o between b later read cause =
    of_both o.told_before b o.told_after (IsNetIn net_word net) (StreamsRefused streams_word net (status.Rules k row rule)) (RefusedIn net_word streams_word (status.Rules k row rule)) (λ files p q. inr (inl (net, p, q))) read cause
streams_cause status.Memory net_word streams_word net o between b later read cause = tt
streams_cause status.Done net_word streams_word net o between b later read cause = absurd cause
streams_cause status.Words net_word streams_word net o between b later read cause = absurd cause
streams_cause (status.Rejected clause row) net_word streams_word net o between b later read cause = absurd cause
streams_cause (status.Unruly line) net_word streams_word net o between b later read cause = absurd cause
streams_cause (status.Unsettled arc prio) net_word streams_word net o between b later read cause = absurd cause
streams_cause status.NoArc net_word streams_word net o between b later read cause = absurd cause
streams_cause (status.Alias arc ordinal) net_word streams_word net o between b later read cause = absurd cause
streams_cause status.WriteFault net_word streams_word net o between b later read cause = absurd cause
streams_cause (status.Unfit u) net_word streams_word net o between b later read cause = absurd cause

-- both were read
pub both_in : (net_word streams_word : List ℕ) (net : Network) (streams : Streams) (a b c : Option Told) → WhereTold a b (OfFiles (IsNetIn net_word net)) → WhereTold b c (OfFiles (AreStreamsIn streams_word net streams))
    → WhereTold a c (OfFiles (AreBothIn net_word streams_word net streams))
both_in net_word streams_word net streams a b c = of_both a b c (IsNetIn net_word net) (AreStreamsIn streams_word net streams) (AreBothIn net_word streams_word net streams) (λ files p q. (p, q))

refused_none : (u : Unfit) (net : Network) (streams : Streams) → RefusalCause u net streams → HasNone (status.Unfit u) net streams
refused_none u net streams (inl (plain, cause)) = inl (u, plain, cause, refl)
refused_none u net streams (inr cause) = inr cause

pub certified_cause : (s : Status) (net_word streams_word : List ℕ) (net : Network) (streams : Streams) (o : Outside) → WhereTold o.told_before o.told_after (OfFiles (AreBothIn net_word streams_word net streams))
    → CertifiedCause s net streams o.sink_before o.sink_after → CertifyingCause s net_word streams_word o
certified_cause status.Done net_word streams_word net streams o read cause = (net, streams, read, cause)
certified_cause status.WriteFault net_word streams_word net streams o read cause = (cause.0, (net, streams, read, cause.1))
certified_cause (status.Unfit u) net_word streams_word net streams o read cause =
    of_more o.told_before o.told_after (AreBothIn net_word streams_word net streams) (RefusedIn net_word streams_word (status.Unfit u)) (λ files p. inr (inr (net, streams, p, refused_none u net streams cause))) read
certified_cause status.Memory net_word streams_word net streams o read cause = tt
certified_cause status.Words net_word streams_word net streams o read cause = absurd cause
certified_cause (status.Rejected clause row) net_word streams_word net streams o read cause = absurd cause
certified_cause (status.Unruly line) net_word streams_word net streams o read cause = absurd cause
certified_cause (status.Unsettled arc prio) net_word streams_word net streams o read cause =
    of_more o.told_before o.told_after (AreBothIn net_word streams_word net streams) (RefusedIn net_word streams_word (status.Unsettled arc prio)) (λ files p. inr (inr (net, streams, p, inr cause))) read
certified_cause status.NoArc net_word streams_word net streams o read cause = absurd cause
certified_cause (status.Alias arc ordinal) net_word streams_word net streams o read cause = absurd cause
certified_cause status.ReadFault net_word streams_word net streams o read cause = absurd cause
certified_cause (status.Form kind line rule) net_word streams_word net streams o read cause = absurd cause
certified_cause (status.Rules kind row rule) net_word streams_word net streams o read cause = absurd cause

pub certified_leaves : (s : Status) (net_word streams_word : List ℕ) (net : Network) (streams : Streams) (o : Outside) → WhereTold o.told_before o.told_after (OfFiles (AreBothIn net_word streams_word net streams))
    → CertifiedLeaves s net streams o.taken_before o.taken_after → CertifyingLeaves s net_word streams_word o
certified_leaves status.Done net_word streams_word net streams o read took = (net, streams, read, took)
certified_leaves status.WriteFault net_word streams_word net streams o read took = (net, streams, read, took)
certified_leaves (status.Unfit u) net_word streams_word net streams o read took = took
certified_leaves status.Memory net_word streams_word net streams o read took = took
certified_leaves status.Words net_word streams_word net streams o read took = took
certified_leaves (status.Rejected clause row) net_word streams_word net streams o read took = took
certified_leaves (status.Unruly line) net_word streams_word net streams o read took = took
certified_leaves (status.Unsettled arc prio) net_word streams_word net streams o read took = took
certified_leaves status.NoArc net_word streams_word net streams o read took = took
certified_leaves (status.Alias arc ordinal) net_word streams_word net streams o read took = took
certified_leaves status.ReadFault net_word streams_word net streams o read took = took
certified_leaves (status.Form kind line rule) net_word streams_word net streams o read took = took
certified_leaves (status.Rules kind row rule) net_word streams_word net streams o read took = took

-- where a text wasn't read the sink is left alone
pub nothing_left : (s : Status) (net_word streams_word : List ℕ) (o : Outside) (gone : Option Told → Type 0) (refused : Status → Files → Type 0) (before now : ℕ) (a b : Option Told) → o.taken_after ≡ o.taken_before
    → InPlace s gone refused before now a b → CertifyingLeaves s net_word streams_word o
nothing_left status.ReadFault net_word streams_word o gone refused before now a b same cause = same
nothing_left (status.Form k line rule) net_word streams_word o gone refused before now a b same cause = same
nothing_left (status.Rules k row rule) net_word streams_word o gone refused before now a b same cause = same
nothing_left status.Memory net_word streams_word o gone refused before now a b same cause = same
nothing_left status.Done net_word streams_word o gone refused before now a b same cause = absurd cause
nothing_left status.Words net_word streams_word o gone refused before now a b same cause = absurd cause
nothing_left (status.Rejected clause row) net_word streams_word o gone refused before now a b same cause = absurd cause
nothing_left (status.Unruly line) net_word streams_word o gone refused before now a b same cause = absurd cause
nothing_left (status.Unsettled arc prio) net_word streams_word o gone refused before now a b same cause = absurd cause
nothing_left status.NoArc net_word streams_word o gone refused before now a b same cause = absurd cause
nothing_left (status.Alias arc ordinal) net_word streams_word o gone refused before now a b same cause = absurd cause
nothing_left status.WriteFault net_word streams_word o gone refused before now a b same cause = absurd cause
nothing_left (status.Unfit u) net_word streams_word o gone refused before now a b same cause = absurd cause
