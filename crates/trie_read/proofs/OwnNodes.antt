-- The node that a job waits for is no bad one where it hangs.
use Rattle.std.proofs.Common.{◌≡◌, ℕ, Bool, true, false, List, [], ◌∷◌, ◌++◌, length, drop, reverse, Option, Some, refl, ap, subst, ◌∙◌, inl, inr, arith, length-append, length-drop}
use Rattle.std.specs.Prelude.{All, filter, not}
use Rattle.std.specs.List.{flat_map}
use Rattle.std.specs.FinMap.{entries}
use Rattle.sdb_base.specs.Nibbles.{nibbles_of}
use Rattle.trie_model.specs.Fetches.{keys_with_prefix}
use Rattle.trie_model.specs.Node.{spelling}
use Rattle.trie_model.specs.Nodes.{PathNode, is_stored}
use Rattle.trie_model.specs.State.{State}
use Rattle.trie_model.specs.Trie.{Suffix, node_of_all, node_over, suffixes_of}
use Rattle.trie_root.specs.Suffixes.{IsEntry}
use Rattle.trie_root.proofs.Nibble.{length-nibbles_of}
use Rattle.trie_read.specs.Depth.{is_bad_node}
use Rattle.trie_read.specs.Paths.{node_at}
use Rattle.trie_read.specs.Reads.{IsReading, WaitsFor, nibbles_before}
use Rattle.trie_read.specs.Searches.{IsSeeking, is_for_next, keys_above}
use Rattle.trie_read.specs.Walks.{IsWalking}
use Rattle.trie_read.specs.declared.next_job.NextJob.{NextJob}
use Rattle.trie_read.specs.declared.parts.Stored.{Stored}
use Rattle.trie_read.specs.declared.read_job.ReadJob.{ReadJob}
use Rattle.trie_read.specs.declared.walk_job.WalkJob.{WalkJob}
use Rattle.trie_read.specs.inner.Following.{head_at}
use Rattle.trie_read.specs.inner.Parts.{OfNode, Piece, StandFor, as_pieces, behind_it, goes_on_with, gone_into, in_front, in_order, is_above, is_near, leads_above, nodes_for}
use Rattle.trie_read.proofs.Binding.{sound_state}
use Rattle.trie_read.proofs.GoodNodes.{IsThere, good_there}
use Rattle.trie_read.proofs.Hanging.{alike}
use Rattle.trie_read.proofs.OneFed.{Ahead, ahead, head_alike}
use Rattle.trie_read.proofs.Seeking.{first_wanted}
use Rattle.trie_read.proofs.Stored.{is_long}

one_byte : length (spelling (node_of_all [])) ≡ 1
unfolding spelling node_over
one_byte = refl

-- a path at which a stored node hangs is the root's, or some suffixes go on with it
stored_there : (ss : List Suffix) (p : List ℕ) → is_stored (head_at ss p) ≡ true → IsThere ss p
stored_there ss p stored = elim (is_long (head_at ss p) stored) [
  | inl root ↦ inl root
  | inr long ↦ inr (λ none. omega (arith, long, ap (λ (us : List Suffix). length (spelling (node_of_all us))) none, one_byte))
]

-- a job that waits for a node at a path isn't refused that node
good_at : (m : State) → All IsEntry (entries m) → (p : List ℕ) (n : PathNode) (bytes : List ℕ) → IsThere (suffixes_of m) p → n ≡ head_at (suffixes_of m) p → bytes ≡ n.bytes
    → is_bad_node (length p) bytes ≡ false
good_at m within p n bytes there same e =
    ap (is_bad_node (length p)) (e ∙ ap (λ (x : PathNode). x.bytes) same) ∙ good_there (suffixes_of m) (sound_state m within) p there

pub good_for_read : (j : ReadJob) (m : State) (key : List ℕ) (n : PathNode) (todo : List PathNode) (bytes : List ℕ) → IsReading j m key (n ∷ todo) → bytes ≡ n.bytes
    → is_bad_node (nibbles_before j) bytes ≡ false
good_for_read j m key n todo bytes reading e =
    let ss : List Suffix = suffixes_of m in
    let w : WaitsFor j m n todo = reading.stage in
    let ns : List ℕ = nibbles_of j.key in
    let at : j.at ≡ length n.path =
    omega (arith, j.fits, length-nibbles_of j.key, length-drop j.at ns, ap length w.whole, length-append n.path (drop j.at ns)) in
    let same : n ≡ head_at ss n.path = alike n.path n.path n.bytes (spelling (node_at ss n.path)) refl w.bytes in
    let there : IsThere ss n.path = stored_there ss n.path (subst (λ (x : PathNode). is_stored x ≡ true) same w.stored) in
    ap (λ (k : ℕ). is_bad_node k bytes) at ∙ good_at m reading.within n.path n bytes there same e

pub good_for_walk : (j : WalkJob) (s : Stored) (m : State) (prefix : List ℕ) (n : PathNode) (todo : List PathNode) (bytes : List ℕ) → j.wanted ≡ Some s
    → IsWalking j m prefix (n ∷ todo) → bytes ≡ n.bytes → is_bad_node (length s.path.items) bytes ≡ false
good_for_walk j s m prefix n todo bytes is walking e =
    let ss : List Suffix = suffixes_of m in
    let q : List ℕ = nibbles_of prefix in
    let p : List ℕ = s.path.items in
    let keys : List (List ℕ) = keys_with_prefix m prefix in
    let rest : List Piece = as_pieces (reverse j.later) in
    let stands : StandFor ss (goes_on_with q) (is_near q) (in_order j.found (Some s) j.later) keys (n ∷ todo) =
    subst (λ (o : Option Stored). StandFor ss (goes_on_with q) (is_near q) (in_order j.found o j.later) keys (n ∷ todo)) is walking.stands in
    let a : Ahead ss (goes_on_with q) (is_near q) s.hash.0 p rest (n ∷ todo) = ahead ss (goes_on_with q) (is_near q) j.found keys s.hash.0 p rest (n ∷ todo) stands in
    let list : List PathNode = gone_into (is_near q) a.under ++ flat_map (nodes_for ss (is_near q)) rest in
    good_at m walking.within p n bytes a.is.some (head_alike n (head_at ss p) todo list a.nodes) e

pub good_for_search : (j : NextJob) (s : Stored) (m : State) (key : List ℕ) (n : PathNode) (todo : List PathNode) (bytes : List ℕ) → j.wanted ≡ Some s
    → IsSeeking j m key (n ∷ todo) → bytes ≡ n.bytes → is_bad_node (length s.path.items) bytes ≡ false
good_for_search j s m key n todo bytes is seeking e =
    let ss : List Suffix = suffixes_of m in
    let q : List ℕ = nibbles_of key in
    let p : List ℕ = s.path.items in
    let keys : List (List ℕ) = keys_above m key in
    let rest : List Piece = behind_it j.nearest ++ seeking.others in
    let stands : StandFor ss (is_above q) (leads_above q) (OfNode s.hash.0 p ∷ rest) keys seeking.nodes =
    subst (λ (o : Option Stored). StandFor ss (is_above q) (leads_above q) (in_front o j.nearest ++ seeking.others) keys seeking.nodes) is seeking.stands in
    let a : Ahead ss (is_above q) (leads_above q) s.hash.0 p rest seeking.nodes = ahead ss (is_above q) (leads_above q) [] keys s.hash.0 p rest seeking.nodes stands in
    let list : List PathNode = filter (is_for_next m key) (gone_into (leads_above q) a.under ++ flat_map (nodes_for ss (leads_above q)) rest) in
    let first : n ∷ todo ≡ head_at ss p ∷ list = first_wanted m key seeking.within s.hash.0 p rest seeking.nodes (n ∷ todo) stands a seeking.wants in
    good_at m seeking.within p n bytes a.is.some (head_alike n (head_at ss p) todo list first) e

pub not_refused : (bad : Bool) → bad ≡ false → false ≡ not bad → ⊥
not_refused true e refused = absurd cc
not_refused false e refused = absurd cc
