-- A port through a change of one of its rings.
use Rattle.std.proofs.Common.{◌≡◌, ℕ, ◌<◌, List, [], length, get_or, set, sym, ◌∙◌, ap, arith, map}
use Rattle.std.proofs.lemmas.List.{map-set, set-get_or, get_or-map}
use Rattle.circular_buffer.specs.Buffer.{Buffer, buffer}
use Rattle.pre_rings.specs.declared.slots.FrameRef.{FrameRef}
use Rattle.pre_rings.specs.Ports.{Port, frames_at, with_frames, port_of}

pub frames_at-port_of : (rings : List (Buffer FrameRef)) (i : ℕ) (ring : Buffer FrameRef) → i < length rings → ring ≡ get_or rings i ring → frames_at (port_of rings) i ≡ ring.items
frames_at-port_of rings i ring h e = get_or-map (λ r. r.items) rings i ring [] h ∙ ap (λ r. r.items) (sym e)

pub port_of-set : (rings : List (Buffer FrameRef)) (i : ℕ) (ring : Buffer FrameRef) (frames : List FrameRef) → i < length rings → ring ≡ get_or rings i ring → port_of (set rings i (buffer frames ring.capacity)) ≡ with_frames (port_of rings) i frames
port_of-set rings i ring frames h e =
    let lists : map (λ r. r.items) (set rings i (buffer frames ring.capacity)) ≡ set (map (λ r. r.items) rings) i frames = map-set (λ r. r.items) rings i (buffer frames ring.capacity) in
    let same : map (λ r. r.capacity) (set rings i (buffer frames ring.capacity)) ≡ map (λ r. r.capacity) rings =
    map-set (λ r. r.capacity) rings i (buffer frames ring.capacity)
    ∙ ap (λ n. set (map (λ r. r.capacity) rings) i n) (ap (λ r. r.capacity) e ∙ sym (get_or-map (λ r. r.capacity) rings i ring 0 h))
    ∙ set-get_or (map (λ r. r.capacity) rings) i 0
    in
    λ k. record { frames = lists k; capacities = same k }

-- a ring that was read at its priority's place is replaced by one with other frames
pub port_of-changed : (rings : List (Buffer FrameRef)) (i at : ℕ) (ring new : Buffer FrameRef) (port : Port) (change : List FrameRef → List FrameRef) → port_of rings ≡ port → length rings ≡ 8 → i < 8 → at ≡ i → ring ≡ get_or rings at ring → new ≡ buffer (change ring.items) ring.capacity → port_of (set rings at new) ≡ with_frames port i (change (frames_at port i))
port_of-changed rings i at ring new port change view eight h e read is =
    let here : at < length rings = omega arith in
    ap (λ r. port_of (set rings at r)) is
    ∙ port_of-set rings at ring (change ring.items) here read
    ∙ ap (λ n. with_frames (port_of rings) at (change n)) (sym (frames_at-port_of rings at ring here read))
    ∙ ap (λ p. with_frames p at (change (frames_at p at))) view
    ∙ ap (λ n. with_frames port n (change (frames_at port n))) e

pub frames_at-read : (rings : List (Buffer FrameRef)) (i at : ℕ) (ring : Buffer FrameRef) (port : Port) → port_of rings ≡ port → length rings ≡ 8 → i < 8 → at ≡ i → ring ≡ get_or rings at ring → frames_at port i ≡ ring.items
frames_at-read rings i at ring port view eight h e read =
    ap (λ p. frames_at p i) (sym view) ∙ ap (λ n. frames_at (port_of rings) n) (sym e) ∙ frames_at-port_of rings at ring (omega arith) read
