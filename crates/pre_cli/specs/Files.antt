-- The texts, networks and streams that words stand for, and the answers in their place.
use Rattle.std.specs.Prelude.{◌≡◌, ◌⊎◌, ℕ, ◌<◌, ◌≤◌, List, length, map, codes, Option, Some, None, Ok, Err, if◌then◌else◌}
use Rattle.std.specs.Str.{bytes_eq}
use Rattle.std.specs.FinMap.{get}
use Rattle.pre_base.specs.Faults.{Rose}
use Rattle.pre_base.specs.Told.{WhereTold}
use Rattle.pre_base.specs.Shelves.{Told, Files, IsMissing}
use Rattle.pre_base.specs.declared.numbers.FileRow.TheVariants.{Top}
use Rattle.pre_topo.specs.declared.network.Network.{Network}
use Rattle.pre_topo.specs.declared.faults.TopoFault.{TopoFault}
use Rattle.pre_topo.specs.declared.faults.TopoFault.TheVariants as topo
use Rattle.pre_topo.specs.NetworkOf.{network_of, parts_of}
use Rattle.pre_streams.specs.declared.rows.Streams.{Streams}
use Rattle.pre_streams.specs.declared.faults.StreamFault.{StreamFault}
use Rattle.pre_streams.specs.declared.faults.StreamFault.TheVariants as stream
use Rattle.pre_streams.specs.StreamsOf.{streams_of}
use Rattle.pre_streams.specs.Made.{row_parts}
use Rattle.pre_cli.specs.declared.statuses.FileWord.{FileWord}
use Rattle.pre_cli.specs.declared.statuses.FileWord.TheVariants as file
use Rattle.pre_cli.specs.declared.statuses.Status.{Status}
use Rattle.pre_cli.specs.declared.statuses.Status.TheVariants as status
use Rattle.pre_cli.specs.Scripts.{max_file}

-- ---- the texts that the words stand for

-- the built-in texts: two stations and a link that preempts; a stream and a flow from the one to the other
unfoldable pub pair_network : List ℕ
pair_network = codes "express_from = 4\n[[node]]\nname = \"a\"\nkind = \"station\"\n[[node]]\nname = \"b\"\nkind = \"station\"\n[[link]]\nends = [\"a\", \"b\"]\ncost = 1\nmode = \"on\"\nrings = [64, 64, 64, 64, 64, 64, 64, 64]\n"

unfoldable pub pair_streams : List ℕ
pair_streams = codes "[[stream]]\nname = \"x\"\nvid = 10\nprio = 6\nroute = [\"a\", \"b\"]\nmax = 1522\nburst = 2000\nrate = 100000\n[[flow]]\nname = \"y\"\nvid = 20\nprio = 0\nroute = [\"a\", \"b\"]\nmax = 1522\n"

-- the built-in text for the word `pair`, and else the file of that name
abbrev pub text_named : List ℕ → List ℕ → Files → Option (List ℕ)
text_named built_in word files = if bytes_eq word (codes "pair") then Some built_in else get files word

-- the word stands for this text, which isn't too long
pub record IsTextIn (built_in word text : List ℕ) (files : Files) : Type 0 where
  pub is : text_named built_in word files ≡ Some text
  pub short : length text ≤ max_file

-- a fact of told files, which stay as they were
abbrev pub OfFiles : (Files → Type 0) → Told → Told → Type 0
OfFiles P old new = P old.files × (new.files ≡ old.files)

-- told files lack a text
abbrev pub GoneFrom : (Files → Type 0) → Option Told → Type 0
GoneFrom gone None = ⊥
GoneFrom gone (Some told) = gone told.files

-- told files have no text for the word
abbrev pub IsGone : List ℕ → List ℕ → Option Told → Type 0
IsGone built_in word = GoneFrom (λ files. text_named built_in word files ≡ None)

-- the file of this name is this text, which isn't too long
abbrev pub IsFileIn : List ℕ → List ℕ → Files → Type 0
IsFileIn word text files = (get files word ≡ Some text) × (length text ≤ max_file)

-- it is too long, and this is the answer
abbrev pub IsLongFile : FileWord → List ℕ → Status → Files → Type 0
IsLongFile kind word s files = (text : List ℕ) × (get files word ≡ Some text) × (max_file < length text) × (s ≡ status.Form kind 0 0)

abbrev pub IsNoFile : List ℕ → Option Told → Type 0
IsNoFile word told = IsMissing told word

-- ---- a network and streams, or an answer in their place

abbrev pub topo_status : TopoFault → Status
topo_status topo.Toml = status.Form file.Net 0 1
topo_status (topo.Field row) = status.Rules file.Net row 2
topo_status (topo.Name row) = status.Rules file.Net row 3
topo_status (topo.End row) = status.Rules file.Net row 4
topo_status (topo.Range row) = status.Rules file.Net row 5
topo_status topo.Count = status.Rules file.Net Top 6
topo_status topo.Slots = status.Rules file.Net Top 7
topo_status topo.Wires = status.Rules file.Net Top 8
topo_status topo.Memory = status.Memory

-- by the kind of file
abbrev pub stream_status : FileWord → StreamFault → Status
stream_status kind stream.Toml = status.Form kind 0 1
stream_status kind (stream.Field row) = status.Rules kind row 2
stream_status kind (stream.Name row) = status.Rules kind row 3
stream_status kind (stream.Route row hop) = status.Rules kind row 4
stream_status kind (stream.Class row) = status.Rules kind row 5
stream_status kind (stream.Range row) = status.Rules kind row 6
stream_status kind (stream.Burst row) = status.Rules kind row 7
stream_status kind stream.Count = status.Rules kind Top 8
stream_status kind stream.Memory = status.Memory

-- the text for the word is too long, and this is the answer
abbrev pub IsLong : FileWord → List ℕ → List ℕ → Status → Files → Type 0
IsLong kind built_in word s files = (text : List ℕ) × (text_named built_in word files ≡ Some text) × (max_file < length text) × (s ≡ status.Form kind 0 0)

-- the word stands for a text that is this network
abbrev pub IsNetIn : List ℕ → Network → Files → Type 0
IsNetIn word net files = (text : List ℕ) × IsTextIn pair_network word text files × (network_of text ≡ Ok (parts_of net))

-- its text is too long or has a fault, and this is the answer
abbrev pub NetRefused : List ℕ → Status → Files → Type 0
NetRefused word s files =
    IsLong file.Net pair_network word s files
    ⊎ ((text : List ℕ) × IsTextIn pair_network word text files × ((fault : TopoFault) × (network_of text ≡ Err fault) × (s ≡ topo_status fault)))

-- the word stands for a text that is these streams, for the network
abbrev pub AreStreamsIn : List ℕ → Network → Streams → Files → Type 0
AreStreamsIn word net streams files = (text : List ℕ) × IsTextIn pair_streams word text files × (streams_of net text ≡ Ok (map row_parts streams.rows))

abbrev pub StreamsRefused : List ℕ → Network → Status → Files → Type 0
StreamsRefused word net s files =
    IsLong file.Streams pair_streams word s files
    ⊎ ((text : List ℕ) × IsTextIn pair_streams word text files × ((fault : StreamFault) × (streams_of net text ≡ Err fault) × (s ≡ stream_status file.Streams fault)))

-- why a text isn't read, or what it is to be isn't in it: this is gone, or refused so; want of memory is free
abbrev pub InPlace : Status → (Option Told → Type 0) → (Status → Files → Type 0) → ℕ → ℕ → Option Told → Option Told → Type 0
InPlace status.ReadFault gone refused before now old new = gone old ⊎ Rose before now
InPlace (status.Form kind line rule) gone refused before now old new = WhereTold old new (OfFiles (refused (status.Form kind line rule)))
InPlace (status.Rules kind row rule) gone refused before now old new = WhereTold old new (OfFiles (refused (status.Rules kind row rule)))
InPlace status.Memory gone refused before now old new = Unit {0}
InPlace _ gone refused before now old new = ⊥
