use Rattle.std.proofs.Common.{◌≡◌, ℕ, List, ◌∷◌, ◌++◌, Option, ap, ap₂, sym, ◌∙◌}
use Rattle.sdb_base.specs.Nibbles.{nibbles_of}
use Rattle.trie_codec.specs.NodeParts.{node_of_ref}
use Rattle.trie_codec.specs.Reading.{node_of_bytes}
use Rattle.trie_model.specs.Node.{Node}
use Rattle.trie_model.specs.Nodes.{PathNode}
use Rattle.trie_read.specs.Depth.{is_bad_node}
use Rattle.trie_read.specs.inner.Parts.{OfNode, Piece, as_pieces, behind_it, first_two_of, in_front, is_above, leads_above, parts_in, after_two_of}
use Rattle.trie_read.specs.declared.next_job.NextJob.{NextJob}
use Rattle.trie_read.specs.declared.parts.Part.{Part}
use Rattle.trie_read.specs.declared.parts.Stored.{Stored}
use Rattle.trie_read.proofs.OwnNodes.{good_for_search, not_refused}
use Rattle.trie_read.proofs.SearchEnds.{search_stage}
use Rattle.trie_read.proofs.Seeking.{Seeks, searched, seeks_as}
use Rattle.trie_read.proofs.next_job.NextJob.feed.Goals as goal

pub returns-clause-sought : goal.returns-clause-sought
returns-clause-sought c = λ m key n todo seeking bytes.
    let old : NextJob = c.args.self.now in
    let new : NextJob = record { alloc = old.alloc; key = old.key; wanted = c.first_of-wanted.result.0; nearest = c.first_of-wanted.result.1 } in
    let q : List ℕ = nibbles_of key in
    let s : Stored = c.in-Some.wanted in
    let node : Node = node_of_ref c.in-Some-read_node.node in
    let behind : List Piece = behind_it old.nearest in
    let parts : List Piece = as_pieces c.in-Ok.parts.items in
    let before : Seeks m key (OfNode s.hash.0 s.path.items ∷ behind) seeking.others seeking.nodes (n ∷ todo) =
    seeks_as m key (in_front old.wanted old.nearest) (OfNode s.hash.0 s.path.items ∷ behind) seeking.others seeking.nodes (n ∷ todo) (ap (λ (o : Option Stored). in_front o old.nearest) c.in-Some.is)
    (record { stands = seeking.stands; led = seeking.led; enough = seeking.enough; wants = seeking.wants }) in
    let are : parts ≡ parts_in (is_above q) (leads_above q) 33 node s.path.items =
    c.in-Ok.ensures ∙ ap₂ (λ (x p : List ℕ). parts_in (is_above x) (leads_above x) 33 node p) (c.as_slice.ensures ∙ seeking.key) c.as_slice-2.ensures in
    let after : (ms : List PathNode) × Seeks m key (first_two_of (parts ++ behind)) (after_two_of (parts ++ behind) ++ seeking.others) ms todo =
    searched m key seeking.within s.hash.0 s.path.items behind seeking.others parts seeking.nodes n todo node before (ap node_of_bytes (sym bytes) ∙ c.in-Some-read_node.ensures.node) are in
    let front : in_front new.wanted new.nearest ≡ first_two_of (parts ++ behind) =
    c.first_of-wanted.ensures.front ∙ ap (λ (o : Option Part). first_two_of (parts ++ behind_it o)) c.replace.ensures.value in
    let others : List Piece = after_two_of (parts ++ behind) ++ seeking.others in
    let seeks : Seeks m key (in_front new.wanted new.nearest) others after.0 todo =
    seeks_as m key (first_two_of (parts ++ behind)) (in_front new.wanted new.nearest) others after.0 todo (sym front) after.1 in
    record {
      within = seeking.within;
      key = seeking.key;
      others = others;
      nodes = after.0;
      stands = seeks.stands;
      led = seeks.led;
      enough = seeks.enough;
      wants = seeks.wants;
      stage = search_stage new m key seeking.within others after.0 todo seeks c.first_of-wanted.ensures.settled;
    }

pub returns-in_default-read_node-clause-sound : goal.returns-in_default-read_node-clause-sound
returns-in_default-read_node-clause-sound c = λ m key n todo waits bytes.
    let good = good_for_search c.args.self.now c.in-Some.wanted m key n todo c.args.bytes.now c.in-Some.is waits bytes in
    absurd (not_refused (is_bad_node c.len.result c.args.bytes.now) (ap (λ (at : ℕ). is_bad_node at c.args.bytes.now) c.len.ensures.value ∙ good) c.in_default-read_node.ensures.good)
