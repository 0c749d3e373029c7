-- The octets of a frame that is built from its row.
use Rattle.std.proofs.Common.{ℕ, suc, ◌≡◌, ◌-◌, ◌≤◌, List, [], ◌∷◌, ◌++◌, length, drop, sym, ◌∙◌, ap, arith, subst, Some}
use Rattle.std.specs.Prelude.{slice_get, slice_index_or}
use Rattle.std.proofs.lemmas.Option.{slice_get-get_or}
use Rattle.pre_base.specs.Last.{last}
use Rattle.pre_base.specs.declared.numbers.NodeId.{NodeId}
use Rattle.pre_script.specs.declared.scripts.SendLine.{SendLine}
use Rattle.pre_frame.specs.Layout.{frame_of, with_check}
use Rattle.pre_streams.specs.declared.rows.Row.{Row}
use Rattle.pre_history.specs.Scenario.{Scenario, row, send, no_send, source, destination, number_of_node, FrameOf}

-- the last element is the one at the last place
last_at : {X : Type 0} (xs : List X) (x : X) → slice_get xs (length xs - 1) ≡ Some x → last xs ≡ Some x
last_at [] x at = at
last_at (y ∷ []) x at = at
last_at (y ∷ z ∷ xs) x at =
    let e : length (y ∷ z ∷ xs) - 1 ≡ suc (length (z ∷ xs) - 1) = omega arith in
    last_at (z ∷ xs) x (subst (λ n. slice_get (y ∷ z ∷ xs) n ≡ Some x) e at)

module _ (w : Scenario) (k : ℕ) (r : Row) (nodes : List NodeId) (is : r ≡ row w k) (same : nodes ≡ r.route) (long : 2 ≤ length r.route) where
  source_is : (d : NodeId) → (slice_index_or nodes 0 d).0 ≡ source w k
  source_is d =
      let at : slice_get nodes 0 ≡ Some (slice_index_or nodes 0 d) = slice_get-get_or nodes 0 d (omega (arith, ap length same, long)) in
      sym (ap number_of_node at) ∙ (ap (λ (xs : List NodeId). number_of_node (slice_get xs 0)) same ∙ ap (λ (x : Row). number_of_node (slice_get x.route 0)) is)

  destination_is : (d : NodeId) → (slice_index_or nodes (length nodes - 1) d).0 ≡ destination w k
  destination_is d =
      let at : last nodes ≡ Some (slice_index_or nodes (length nodes - 1) d) =
      last_at nodes (slice_index_or nodes (length nodes - 1) d) (slice_get-get_or nodes (length nodes - 1) d (omega (arith, ap length same, long))) in
      sym (ap number_of_node at) ∙ (ap (λ (xs : List NodeId). number_of_node (last xs)) same ∙ ap (λ (x : Row). number_of_node (last x.route)) is)

  octets_are : (d e : NodeId) (prio : ℕ) → prio ≡ r.prio → frame_of (slice_index_or nodes (length nodes - 1) d).0 (slice_index_or nodes 0 e).0 prio r.vid k (send w k).send.size ≡ FrameOf w k
  octets_are d e prio of_row =
      let to : (slice_index_or nodes (length nodes - 1) d).0 ≡ destination w k = destination_is d in
      let from : (slice_index_or nodes 0 e).0 ≡ source w k = source_is e in
      let its_prio : prio ≡ (row w k).prio = of_row ∙ ap (λ (x : Row). x.prio) is in
      let its_vid : r.vid ≡ (row w k).vid = ap (λ (x : Row). x.vid) is in
      λ i. frame_of (to i) (from i) (its_prio i) (its_vid i) k (send w k).send.size

  -- what is built is the frame
  pub octets_put : (d e : NodeId) (prio : ℕ) (sends : List SendLine) (into new : List ℕ) (size : ℕ) → prio ≡ r.prio → sends ≡ w.script.sends
      → size ≡ (slice_index_or sends k no_send).send.size
      → new ≡ frame_of (slice_index_or nodes (length nodes - 1) d).0 (slice_index_or nodes 0 e).0 prio r.vid k (slice_index_or sends k no_send).send.size ++ drop
      (slice_index_or sends k no_send).send.size into
      → new ≡ FrameOf w k ++ drop size into
  octets_put d e prio sends into new size of_row known its_size built =
      let one = ap (λ (xs : List SendLine). (slice_index_or xs k no_send).send.size) known in
      let put : new ≡ frame_of (slice_index_or nodes (length nodes - 1) d).0 (slice_index_or nodes 0 e).0 prio r.vid k (send w k).send.size ++ drop (send w k).send.size into
      = subst (λ n. new ≡ frame_of (slice_index_or nodes (length nodes - 1) d).0 (slice_index_or nodes 0 e).0 prio r.vid k n ++ drop n into) one built in
      put ∙ (ap (λ xs. xs ++ drop (send w k).send.size into) (octets_are d e prio of_row) ∙ ap (λ n. FrameOf w k ++ drop n into) (sym (its_size ∙ one)))

  -- and so are the octets that are built before its check
  pub unchecked_put : (d e : NodeId) (prio : ℕ) (sends : List SendLine) (unchecked : List ℕ) → prio ≡ r.prio → sends ≡ w.script.sends
      → with_check unchecked ≡ frame_of (slice_index_or nodes (length nodes - 1) d).0 (slice_index_or nodes 0 e).0 prio r.vid k (slice_index_or sends k no_send).send.size
      → with_check unchecked ≡ FrameOf w k
  unchecked_put d e prio sends unchecked of_row known built =
      built
      ∙ (ap (λ (xs : List SendLine). frame_of (slice_index_or nodes (length nodes - 1) d).0 (slice_index_or nodes 0 e).0 prio r.vid k (slice_index_or xs k no_send).send.size) known
      ∙ octets_are d e prio of_row)
