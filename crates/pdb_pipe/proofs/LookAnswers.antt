-- What a look-up answers that tries the queue first, and then what is logged.
use Rattle.std.proofs.Common.{◌≡◌, ℕ, List, ◌++◌, Option, Some, None, refl, sym, ap, subst, ◌∙◌}
use Rattle.std.specs.Prelude.{All, Any}
use Rattle.std.specs.Option.{option_map}
use Rattle.sdb_base.specs.Content.{Counted, meta_from, meta_under, node_from, node_under}
use Rattle.sdb_base.specs.Keeping.{AddsNode, Commits, IsMetaAnswer, IsNodeAnswer, operations}
use Rattle.sdb_base.specs.declared.op.Op.{Op}
use Rattle.sdb_base.proofs.Orders.{meta_from-append, node_from-append}
use Rattle.sdb_blake2.specs.Blake2b.{H}
use Rattle.pdb_column.specs.Maps.{HasHashAlone, column_from}
use Rattle.pdb_overlay.specs.Lending.{Bytes, Erased, Said, newest_said}
use Rattle.pdb_pipe.specs.Commits.{NodesAgree, HashesApart, contents_of}
use Rattle.pdb_pipe.proofs.LookAppend.{all_front, any_append_left, any_append_right, operations-append}
use Rattle.pdb_pipe.proofs.LookMetas.{by_said, said_of_meta}
use Rattle.pdb_pipe.proofs.LookNodes.{IsSaidOf, column_zero, said_of_node, was_added}

-- what is answered: what the queue says, else what is logged
abbrev pub looked : Option Said → Option Counted → Option (List ℕ)
looked None now = option_map (λ (h : Counted). h.bytes) now
looked (Some (Bytes bytes)) now = Some bytes
looked (Some Erased) now = None

-- ---- nodes

module _ (commits logged queue : Commits) (key : List ℕ) (parts : commits ≡ logged ++ queue) where
  all : operations commits ≡ operations logged ++ operations queue
  all = ap operations parts ∙ operations-append logged queue

  node_parts : node_under (operations commits) key ≡ node_from key (contents_of logged 0 key) (operations queue)
  node_parts =
      ap (λ (ops : List Op). node_under ops key) all
      ∙ node_from-append key None (operations logged) (operations queue)
      ∙ ap (λ now. node_from key now (operations queue)) (sym (column_zero (λ _. None) (operations logged) key))

  -- bytes that the queue says, of a key that has a count or none
  node_bytes : (bytes : List ℕ) (o : Option Counted) → node_under (operations commits) key ≡ o → Any (AddsNode key bytes) (operations commits) → NodesAgree commits key
      → IsNodeAnswer commits key o (Some bytes)
  node_bytes bytes None e adds alike = adds
  node_bytes bytes (Some c) e adds alike = ap Some (alike bytes c.bytes adds (was_added key (operations commits) c e))

  -- bytes that are logged, of which the queue says nothing
  node_logged : (now o : Option Counted) → contents_of logged 0 key ≡ now → node_under (operations commits) key ≡ o → IsSaidOf key (operations queue) None
      → IsNodeAnswer commits key o (option_map (λ (h : Counted). h.bytes) now)
  node_logged None None was e stays = tt
  node_logged (Some d) None was e stays =
      subst (λ (ops : List Op). Any (AddsNode key d.bytes) ops) (sym all)
      (any_append_left (AddsNode key d.bytes) (operations logged) (operations queue)
      (was_added key (operations logged) d (sym (column_zero (λ _. None) (operations logged) key) ∙ was)))
  node_logged now (Some c) was e stays =
      let before = stays (contents_of logged 0 key) c (sym node_parts ∙ e) in
      ap (option_map (λ (h : Counted). h.bytes)) (sym was ∙ before.1) ∙ ap Some before.2

  pub node_answered : (said : Option Said) → said ≡ newest_said 0 key (operations queue) → NodesAgree commits key
      → IsNodeAnswer commits key (node_under (operations commits) key) (looked said (contents_of logged 0 key))
  node_answered said is alike = by_what said (subst (IsSaidOf key (operations queue)) (sym is) (said_of_node key (operations queue)))
    where
      by_what : (s : Option Said) → IsSaidOf key (operations queue) s → IsNodeAnswer commits key (node_under (operations commits) key) (looked s (contents_of logged 0 key))
      by_what None stays = node_logged (contents_of logged 0 key) (node_under (operations commits) key) refl refl stays
      by_what (Some (Bytes bytes)) adds = node_bytes bytes (node_under (operations commits) key) refl
          (subst (λ (ops : List Op). Any (AddsNode key bytes) ops) (sym all) (any_append_right (AddsNode key bytes) (operations logged) (operations queue) adds)) alike
      by_what (Some Erased) impossible = absurd impossible

  -- ---- plain keys

  meta_parts : column_from 1 (λ _. None) (operations logged) (H key) ≡ meta_under (operations logged) key
      → meta_under (operations commits) key ≡ meta_from key (contents_of logged 1 (H key)) (operations queue)
  meta_parts hashed =
      ap (λ (ops : List Op). meta_under ops key) all
      ∙ meta_from-append key None (operations logged) (operations queue)
      ∙ ap (λ now. meta_from key now (operations queue)) (sym hashed)

  meta_is : (said : Option Said) (now : Option Counted) → IsMetaAnswer (by_said said now) (looked said now)
  meta_is None None = refl
  meta_is None (Some c) = refl
  meta_is (Some (Bytes bytes)) now = refl
  meta_is (Some Erased) now = refl

  pub meta_answered : ((ops : List Op) (key : List ℕ) → All (HasHashAlone key) ops → column_from 1 (λ _. None) ops (H key) ≡ meta_from key None ops)
      → (said : Option Said) → said ≡ newest_said 1 key (operations queue) → HashesApart commits key
      → IsMetaAnswer (meta_under (operations commits) key) (looked said (contents_of logged 1 (H key)))
  meta_answered law said is apart =
      subst (λ o. IsMetaAnswer o (looked said (contents_of logged 1 (H key)))) (sym same) (meta_is said (contents_of logged 1 (H key)))
    where
      same : meta_under (operations commits) key ≡ by_said said (contents_of logged 1 (H key))
      same =
          meta_parts (law (operations logged) key (all_front (HasHashAlone key) (operations logged) (operations queue) (subst (All (HasHashAlone key)) all apart)))
          ∙ said_of_meta key (operations queue) (contents_of logged 1 (H key))
          ∙ ap (λ s. by_said s (contents_of logged 1 (H key))) (sym is)
