use Rattle.std.proofs.Common.{◌≡◌, ℕ, List, Some, None, drop, ap, refl, subst, sym, ◌∙◌}
use Rattle.sdb_base.specs.Nibbles.{nibbles_of}
use Rattle.trie_codec.specs.NodeParts.{node_of_ref}
use Rattle.trie_codec.specs.Reading.{node_of_bytes}
use Rattle.trie_codec.specs.Slices.{bytes_in}
use Rattle.trie_model.specs.Node.{Node}
use Rattle.trie_model.specs.Trie.{suffixes_of}
use Rattle.trie_read.specs.Depth.{is_bad_node}
use Rattle.trie_read.specs.Reads.{WaitsFor}
use Rattle.trie_read.specs.inner.Descent.{Ended, Outcome, Wants, way_down}
use Rattle.trie_read.specs.inner.Following.{IsFollowed}
use Rattle.trie_read.proofs.NextStage.{ended_stage, next, wants_stage}
use Rattle.trie_read.proofs.OwnNodes.{good_for_read, not_refused}
use Rattle.trie_read.proofs.read_job.ReadJob.feed.Goals as goal

pub returns-in-Ok-clause-read : goal.returns-in-Ok-clause-read
returns-in-Ok-clause-read c = λ m key n todo reading bytes.
    let j = c.args.self.now in
    let ns : List ℕ = nibbles_of j.key in
    let found : Node = node_of_ref c.in-Some-read_node.node in
    let w : WaitsFor j m n todo = reading.stage in
    let f : IsFollowed (suffixes_of m) ns (way_down 33 found (drop j.at ns)) todo =
    next m reading.within ns j.at n todo w.whole w.bytes w.stored w.nodes found (ap node_of_bytes (sym bytes) ∙ c.in-Some-read_node.ensures.node) in
    let is : Ended (bytes_in c.in-Ended.value) ≡ way_down 33 found (drop j.at ns) =
    c.in-Ended.ensures.outcome ∙ ap (λ (k : List ℕ). way_down 33 found (drop j.at (nibbles_of k))) c.as_slice.ensures in
    record {
      within = reading.within;
      key = reading.key;
      stage = ended_stage (record { alloc = j.alloc; key = j.key; at = j.at; wanted = None; value = c.in-Ok.value; fits = _ }) m todo (bytes_in c.in-Ended.value) refl c.in-Ok.ensures
          (subst (λ (o : Outcome). IsFollowed (suffixes_of m) ns o todo) (sym is) f);
    }

pub returns-in-Wants-clause-read : goal.returns-in-Wants-clause-read
returns-in-Wants-clause-read c = λ m key n todo reading bytes.
    let j = c.args.self.now in
    let ns : List ℕ = nibbles_of j.key in
    let found : Node = node_of_ref c.in-Some-read_node.node in
    let w : WaitsFor j m n todo = reading.stage in
    let f : IsFollowed (suffixes_of m) ns (way_down 33 found (drop j.at ns)) todo =
    next m reading.within ns j.at n todo w.whole w.bytes w.stored w.nodes found (ap node_of_bytes (sym bytes) ∙ c.in-Some-read_node.ensures.node) in
    let is : Wants c.in-Wants.hash.now (drop c.in-Wants.at ns) ≡ way_down 33 found (drop j.at ns) =
    ap (λ (k : List ℕ). Wants c.in-Wants.hash.now (drop c.in-Wants.at (nibbles_of k))) (sym c.as_slice.ensures)
    ∙ c.in-Wants.ensures.outcome ∙ ap (λ (k : List ℕ). way_down 33 found (drop j.at (nibbles_of k))) c.as_slice.ensures in
    record {
      within = reading.within;
      key = reading.key;
      stage = wants_stage (record { alloc = j.alloc; key = j.key; at = c.in-Wants.at; wanted = Some (record { 0 = c.hash_of.result }); value = j.value; fits = _ }) m todo c.in-Wants.hash.now (ap Some c.hash_of.ensures)
          (subst (λ (o : Outcome). IsFollowed (suffixes_of m) ns o todo) (sym is) f);
    }

pub returns-in_default-read_node-clause-sound : goal.returns-in_default-read_node-clause-sound
returns-in_default-read_node-clause-sound c = λ m key n todo reading bytes.
    let j = c.args.self.now in
    absurd (not_refused (is_bad_node j.at c.args.bytes.now) (good_for_read j m key n todo c.args.bytes.now reading bytes) c.in_default-read_node.ensures.good)
