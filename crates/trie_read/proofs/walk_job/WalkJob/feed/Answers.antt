use Rattle.std.proofs.Common.{◌≡◌, ℕ, List, ◌∷◌, ◌++◌, map, reverse, Option, Some, ap, ap₂, subst, sym, ◌∙◌}
use Rattle.sdb_base.specs.Nibbles.{nibbles_of}
use Rattle.trie_codec.specs.NodeParts.{node_of_ref}
use Rattle.trie_codec.specs.Reading.{node_of_bytes}
use Rattle.trie_model.specs.Fetches.{keys_with_prefix}
use Rattle.trie_model.specs.Node.{Node}
use Rattle.trie_model.specs.Trie.{suffixes_of}
use Rattle.trie_read.specs.Depth.{is_bad_node}
use Rattle.trie_read.specs.inner.Parts.{OfKey, Piece, StandFor, goes_on_with, in_order, is_near, parts_in, as_pieces}
use Rattle.trie_read.specs.declared.parts.Stored.{Stored}
use Rattle.trie_read.specs.declared.walk_job.WalkJob.{WalkJob}
use Rattle.trie_read.proofs.Binding.{sound_state}
use Rattle.trie_read.proofs.KeysInNibbles.{near_closed}
use Rattle.trie_read.proofs.OneFed.{one_fed}
use Rattle.trie_read.proofs.OwnNodes.{good_for_walk, not_refused}
use Rattle.trie_read.proofs.WalkStages.{stage_of}
use Rattle.trie_read.proofs.walk_job.WalkJob.feed.Goals as goal

pub returns-clause-walked : goal.returns-clause-walked
returns-clause-walked c = λ m prefix n todo walking bytes.
    let old : WalkJob = c.args.self.now in
    let new : WalkJob = record { alloc = old.alloc; prefix = old.prefix; wanted = c.in-Ok-go_on.next; found = c.go_on.new.found; later = c.go_on.new.later } in
    let q : List ℕ = nibbles_of prefix in
    let keys : List (List ℕ) = keys_with_prefix m prefix in
    let s : Stored = c.in-Some.wanted in
    let node : Node = node_of_ref c.in-Some-read_node.node in
    let before : StandFor (suffixes_of m) (goes_on_with q) (is_near q) (in_order old.found (Some s) old.later) keys (n ∷ todo) =
    subst (λ (o : Option Stored). StandFor (suffixes_of m) (goes_on_with q) (is_near q) (in_order old.found o old.later) keys (n ∷ todo)) c.in-Some.is walking.stands in
    let parts : as_pieces c.in-Ok.parts.items ≡ parts_in (goes_on_with q) (is_near q) 33 node s.path.items =
    c.in-Ok.ensures ∙ ap₂ (λ (x p : List ℕ). parts_in (goes_on_with x) (is_near x) 33 node p) (c.as_slice.ensures ∙ walking.prefix) c.as_slice-2.ensures in
    let after : StandFor (suffixes_of m) (goes_on_with q) (is_near q) (map OfKey old.found ++ (as_pieces c.in-Ok.parts.items ++ as_pieces (reverse old.later))) keys todo =
    one_fed (suffixes_of m) (goes_on_with q) (is_near q) (sound_state m walking.within) (near_closed q) old.found keys s.hash.0 s.path.items (as_pieces (reverse old.later))
    (as_pieces c.in-Ok.parts.items) n todo node before (ap node_of_bytes (sym bytes) ∙ c.in-Some-read_node.ensures.node) parts in
    let stands : StandFor (suffixes_of m) (goes_on_with q) (is_near q) (in_order new.found new.wanted new.later) keys todo =
    subst (λ (ps : List Piece). StandFor (suffixes_of m) (goes_on_with q) (is_near q) ps keys todo) (sym c.in-Ok-go_on.ensures.parts) after in
    record {
      within = walking.within;
      prefix = walking.prefix;
      stands = stands;
      stage = stage_of new m (goes_on_with q) (is_near q) keys todo stands c.in-Ok-go_on.ensures.last;
    }

pub returns-in_default-read_node-clause-sound : goal.returns-in_default-read_node-clause-sound
returns-in_default-read_node-clause-sound c = λ m prefix n todo waits bytes.
    let good = good_for_walk c.args.self.now c.in-Some.wanted m prefix n todo c.args.bytes.now c.in-Some.is waits bytes in
    absurd (not_refused (is_bad_node c.len.result c.args.bytes.now) (ap (λ (at : ℕ). is_bad_node at c.args.bytes.now) c.len.ensures.value ∙ good) c.in_default-read_node.ensures.good)
