use Rattle.std.proofs.Common.{◌≡◌, List, ℕ, ◌<◌, ◌∷◌, Option, Some, Result, true, length, refl, ap, subst, sym, ◌∙◌, arith}
use Rattle.std.specs.Prelude.{Err, IfErr, IfOk, IfSome, Ok, not}
use Rattle.trie_codec.specs.declared.node_ref.NodeRef.{NodeRef}
use Rattle.std.proofs.lemmas.List.Elements.{All-from_get_or}
use Rattle.trie_codec.specs.NodeParts.{node_of_ref}
use Rattle.trie_codec.specs.Reading.{node_of_bytes}
use Rattle.trie_model.specs.Node.{IsPartial}
use Rattle.sdb_base.specs.declared.change.Change.{Change}
use Rattle.trie_codec.specs.declared.fault.CodecFault.{CodecFault}
use Rattle.trie_model.specs.Nodes.{PathNode}
use Rattle.trie_model.specs.State.{State}
use Rattle.trie_read.specs.Depth.{deep_or_empty, is_bad_node}
use Rattle.trie_change.specs.Changing.{IsChanging}
use Rattle.trie_change.specs.declared.change_job.ChangeJob.{ChangeJob}
use Rattle.trie_read.proofs.OwnNodes.{not_refused}
use Rattle.trie_change.specs.declared.frontier.Stub.{Stub}
use Rattle.std.specs.List.{AllByRecursion}
use Rattle.trie_change.specs.declared.settings.Setting.{Setting}
use Rattle.trie_change.specs.inner.InOrder.{IsRising}
use Rattle.trie_change.specs.inner.Known.{known_in}
use Rattle.trie_change.specs.inner.Pieces.{IsAside, all_items, back_items}
use Rattle.trie_change.specs.inner.Stages.{IsUnderWay}
use Rattle.trie_change.proofs.KnownLimits.{what_it_has}
use Rattle.trie_change.proofs.TakenStage.{never_bad, with_wanted}
use Rattle.trie_change.proofs.change_job.ChangeJob.feed.Goals as goal

-- the node that was read, of which only a borrow is told
node_read : (bytes : List ℕ) (read : Result NodeRef CodecFault) (node : NodeRef) → read ≡ Ok node → IfOk read (λ n. node_of_bytes bytes ≡ Ok (node_of_ref n))
    → node_of_bytes bytes ≡ Ok (node_of_ref node)
node_read bytes read node is e = subst (λ (o : Result NodeRef CodecFault). IfOk o (λ n. node_of_bytes bytes ≡ Ok (node_of_ref n))) is e

-- bytes that don't read as a node are bad
unread : (at : ℕ) (bytes : List ℕ) (read : Result NodeRef CodecFault) → ((n : NodeRef) → read ≡ Ok n → ⊥) → IfErr read (λ f. node_of_bytes bytes ≡ Err f)
    → is_bad_node at bytes ≡ true
unread at bytes (Ok n) other e = absurd (other n refl)
unread at bytes (Err f) other e = ap (deep_or_empty at bytes) e

-- a node that is wanted isn't bad
never : (j : ChangeJob) (s : Stub) (bytes : List ℕ) → j.wanted ≡ Some s → (m : State) (changes : List Change) (n : PathNode) (todo : List PathNode)
    → IsChanging j m changes (n ∷ todo) → bytes ≡ n.bytes → is_bad_node (length s.path.items) bytes ≡ true → ⊥
never j s bytes is m changes n todo changing same bad =
    let way : IsUnderWay j.settings.items (with_wanted j.settings.items j.fed.items (Some s) (all_items j.found.items) (back_items j.later.items)) m changes (n ∷ todo) =
    subst (λ (o : Option Stub). IsUnderWay j.settings.items (with_wanted j.settings.items j.fed.items o (all_items j.found.items) (back_items j.later.items)) m changes (n ∷ todo)) is changing.stage.under_way in
    not_refused (is_bad_node (length s.path.items) bytes)
    (never_bad m changes changing.within j.fed.items (all_items j.found.items) (back_items j.later.items) s n todo j.settings.items j.settings.items bytes way same)
    (sym (ap not bad))

pub returns-in_default-read-clause-sound : goal.returns-in_default-read-clause-sound
returns-in_default-read-clause-sound c = λ m changes n todo changing bytes.
    absurd (never c.args.self.now c.in-Some.wanted c.args.bytes.now c.in-Some.is m changes n todo changing bytes
    (unread (length c.in-Some.wanted.path.items) c.args.bytes.now c.read-read.result c.in_default-read.not-Ok c.read-read.ensures.fault))

pub returns-then-is_bad_below-clause-sound : goal.returns-then-is_bad_below-clause-sound
returns-then-is_bad_below-clause-sound c = λ m changes n todo changing bytes.
    absurd (never c.args.self.now c.in-Some.wanted c.args.bytes.now c.in-Some.is m changes n todo changing bytes
    (ap (λ (at : ℕ). is_bad_node at c.args.bytes.now) (sym c.len.ensures.value) ∙ sym c.is_bad_below.ensures ∙ c.if-is_bad_below.true))

pub take-requires-clause-limited : goal.take-requires-clause-limited
take-requires-clause-limited c =
    what_it_has c.len.result c.args.bytes.now c.in-Some.wanted.path.items (node_of_ref c.in-Ok.node) (all_items c.in-Ok-pieces_of.pieces.items)
    (All-from_get_or (λ b. b < 256) c.args.bytes.now 0 (λ k h. omega (arith, c.type_inv.bytes k)))
    (node_read c.args.bytes.now c.read-read.result c.in-Ok.node c.in-Ok.is c.read-read.ensures.found) (sym (ap not (sym c.is_bad_below.ensures ∙ c.if-is_bad_below.false))) c.len.ensures.value
    (subst (λ (o : Option Stub). IfSome o (λ (s : Stub). IsPartial s.path.items)) c.in-Some.is c.requires.limits.wanted)
    (c.in-Ok-pieces_of.ensures.known ∙ ap (known_in 33 (node_of_ref c.in-Ok.node)) c.as_slice-2.ensures)

pub returns-clause-changed : goal.returns-clause-changed
returns-clause-changed c = λ m changes n todo changing bytes.
    c.in-Ok-take.ensures.taken m changes n todo c.in-Some.wanted (node_of_ref c.in-Ok.node) changing c.in-Some.is
    (c.in-Ok-from_slice.ensures ∙ bytes)
    (ap node_of_bytes (sym bytes) ∙ (node_read c.args.bytes.now c.read-read.result c.in-Ok.node c.in-Ok.is c.read-read.ensures.found))
    (c.in-Ok-pieces_of.ensures.known ∙ ap (known_in 33 (node_of_ref c.in-Ok.node)) c.as_slice-2.ensures)

pub take-requires-clause-apart : goal.take-requires-clause-apart
take-requires-clause-apart c =
    subst (λ (ss : List Setting). IsRising ss → AllByRecursion (IsAside ss) c.in-Ok-pieces_of.pieces.items) c.as_slice.ensures.value c.in-Ok-pieces_of.ensures.apart c.requires.limits.rising
