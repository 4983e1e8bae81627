-- A job after its wanted node was fed, and the node that a job wants.
use Rattle.std.proofs.Common.{◌≡◌, ℕ, false, List, [], ◌∷◌, ◌++◌, length, reverse, Option, Some, None, refl, ap, subst, sym, ◌∙◌}
use Rattle.std.specs.Prelude.{All, Ok}
use Rattle.std.specs.FinMap.{entries}
use Rattle.std.specs.List.{AllByRecursion}
use Rattle.std.specs.Option.{option_map}
use Rattle.std.proofs.lemmas.List.{reverse-append, reverse-reverse}
use Rattle.sdb_base.specs.declared.Change.{Change}
use Rattle.trie_model.specs.Node.{Node}
use Rattle.trie_model.specs.Nodes.{PathNode}
use Rattle.trie_model.specs.State.{State, apply}
use Rattle.trie_codec.specs.Reading.{node_of_bytes}
use Rattle.trie_root.specs.Suffixes.{IsEntry}
use Rattle.trie_root.proofs.ShapesBytes.{all_joined}
use Rattle.trie_read.specs.Depth.{is_bad_node}
use Rattle.trie_read.proofs.Binding.{sound_state}
use Rattle.trie_read.proofs.OneFed.{all_split}
use Rattle.trie_change.specs.ChangedKeys.{keys_in_changes}
use Rattle.trie_change.specs.Changing.{change_wanted, first_hash}
use Rattle.trie_change.specs.declared.change_job.ChangeJob.{ChangeJob}
use Rattle.trie_change.specs.declared.frontier.Fed.{Fed}
use Rattle.trie_change.specs.Item.{Item}
use Rattle.trie_change.specs.Item as item
use Rattle.trie_change.specs.declared.frontier.Stub.{Stub}
use Rattle.trie_change.specs.declared.settings.Setting.{Setting}
use Rattle.trie_change.specs.inner.InOrder.{in_place}
use Rattle.trie_change.specs.inner.Known.{all_known, known_in}
use Rattle.trie_change.specs.inner.Pieces.{all_items, back_items}
use Rattle.trie_change.specs.inner.Stages.{IsCarriedOut, IsHeld, IsOffKeys, IsOnTheWay, IsFedSoFar, IsUnderWay, IsWaiting, JobParts}
use Rattle.trie_change.proofs.FirstFed.{first_wanted, good_node, nothing_wanted, on_the_way_first, taken_in, unhung_comes_first}
use Rattle.trie_change.proofs.KnownDeeper.{IsDeeper, all_deeper}
use Rattle.trie_change.proofs.OffWay.{deeper_off}
use Rattle.trie_change.proofs.StageEnds.{only_found}

abbrev pub with_wanted : List Setting → List Fed → Option Stub → List Item → List Item → JobParts
with_wanted settings fed wanted found later = record { settings = settings; fed = fed; wanted = wanted; found = found; later = later }

module _ (m : State) (changes : List Change) (within : All IsEntry (entries m)) (fed : List Fed) (found later : List Item) (s : Stub) where
  -- ---- the hash that is wanted

  wanted_there : (settings : List Setting) (todo : List PathNode) → IsOnTheWay (with_wanted settings fed (Some s) found later) m changes todo → Some s.hash.0 ≡ first_hash todo
  wanted_there settings todo w =
      first_wanted m m changes fed found (reverse later) s todo w.held (λ o. on_the_way_first m changes settings found (reverse later) s o w.set w.off w.on)

  wanted_after : (settings : List Setting) (todo : List PathNode) → IsCarriedOut (with_wanted settings fed (Some s) found later) m changes todo → Some s.hash.0 ≡ first_hash todo
  wanted_after settings todo w =
      first_wanted (apply m changes) m changes fed found (reverse later) s todo w.held (λ o. unhung_comes_first m changes w.after found (reverse later) s o w.off w.hanging w.unhung)

  pub wanted_first : (settings all : List Setting) (todo : List PathNode) → IsUnderWay all (with_wanted settings fed (Some s) found later) m changes todo → Some s.hash.0 ≡ first_hash todo
  wanted_first settings [] todo u = wanted_after settings todo u
  wanted_first settings (k ∷ all) todo u = wanted_there settings todo u

  module _ (n : PathNode) (todo : List PathNode) where
    -- ---- it is no bad node

    pub never_bad : (settings all : List Setting) (bytes : List ℕ) → IsUnderWay all (with_wanted settings fed (Some s) found later) m changes (n ∷ todo) → bytes ≡ n.bytes
        → is_bad_node (length s.path.items) bytes ≡ false
    never_bad settings [] bytes w e =
        good_node (apply m changes) m changes (sound_state (apply m changes) w.after) fed found (reverse later) s n todo bytes w.held
        (λ o. unhung_comes_first m changes w.after found (reverse later) s o w.off w.hanging w.unhung) e
    never_bad settings (k ∷ all) bytes w e =
        good_node m m changes (sound_state m within) fed found (reverse later) s n todo bytes w.held
        (λ o. on_the_way_first m changes settings found (reverse later) s o w.set w.off w.on) e

    -- ---- after it was fed

    module _ (f : Fed) (items later2 : List Item) (node : Node) (path : f.path.items ≡ s.path.items) (hash : f.hash ≡ s.hash) (bytes : f.bytes ≡ n.bytes)
        (read : node_of_bytes n.bytes ≡ Ok node) (known : all_known items ≡ known_in 33 node s.path.items) (e : later2 ≡ later ++ reverse items) where
      taken_there : (settings : List Setting) → IsOnTheWay (with_wanted settings fed (Some s) found later) m changes (n ∷ todo)
          → IsOnTheWay (with_wanted settings (fed ++ f ∷ []) None found later2) m changes todo
      taken_there settings w = record {
        after = w.after;
        set = w.set;
        held = taken_in m m changes (sound_state m within) fed found later s n todo w.held
            (λ o. on_the_way_first m changes settings found (reverse later) s o w.set w.off w.on) f items later2 node path hash bytes read known e;
        off = w.off;
        on = tt;
      }

      off_opened : AllByRecursion (IsOffKeys (keys_in_changes changes)) (found ++ (item.Stub s ∷ reverse later)) → AllByRecursion (IsOffKeys (keys_in_changes changes)) (found ++ reverse later2)
      off_opened off =
          let keys : List (List ℕ) = keys_in_changes changes in
          let split : AllByRecursion (IsOffKeys keys) found × AllByRecursion (IsOffKeys keys) (item.Stub s ∷ reverse later) =
          all_split (IsOffKeys keys) found (item.Stub s ∷ reverse later) off in
          let deeper : AllByRecursion (IsDeeper s.path.items) (all_known items) = subst (AllByRecursion (IsDeeper s.path.items)) (sym known) (all_deeper 33 node s.path.items) in
          let order : items ++ reverse later ≡ reverse later2 =
          ap (λ (xs : List Item). xs ++ reverse later) (sym (reverse-reverse items)) ∙ sym (reverse-append later (reverse items)) ∙ ap reverse (sym e) in
          all_joined (IsOffKeys keys) found (reverse later2) split.0
          (subst (AllByRecursion (IsOffKeys keys)) order
          (all_joined (IsOffKeys keys) items (reverse later) (deeper_off keys s.path.items items split.1.0 deeper) split.1.1))

      taken_after : (settings : List Setting) → IsCarriedOut (with_wanted settings fed (Some s) found later) m changes (n ∷ todo)
          → IsCarriedOut (with_wanted settings (fed ++ f ∷ []) None found later2) m changes todo
      taken_after settings w = record {
        after = w.after;
        held = taken_in (apply m changes) m changes (sound_state (apply m changes) w.after) fed found later s n todo w.held
            (λ o. unhung_comes_first m changes w.after found (reverse later) s o w.off w.hanging w.unhung) f items later2 node path hash bytes read known e;
        off = off_opened w.off;
        hanging = w.hanging;
        unhung = tt;
      }

      pub taken : (settings all : List Setting) → IsUnderWay all (with_wanted settings fed (Some s) found later) m changes (n ∷ todo)
          → IsUnderWay all (with_wanted settings (fed ++ f ∷ []) None found later2) m changes todo
      taken settings [] u = taken_after settings u
      taken settings (k ∷ all) u = taken_there settings u

-- ---- of a whole job

none_first : (settings all : List Setting) (m : State) (changes : List Change) (fed : List Fed) (found later : List Item) (todo : List PathNode)
    → IsUnderWay all (with_wanted settings fed None found later) m changes todo → IsWaiting all (with_wanted settings fed None found later) → None ≡ first_hash todo
none_first settings [] m changes fed found later todo u w =
    let only : in_place found None later ≡ found = only_found found later None refl (w refl) in
    let none : todo ≡ [] =
    nothing_wanted m changes u.after fed found todo (subst (λ (xs : List Item). IsHeld (apply m changes) m changes fed xs todo) only u.held)
    (subst (AllByRecursion (IsOffKeys (keys_in_changes changes))) only u.off) u.hanging in
    sym (ap first_hash none)
none_first settings (k ∷ all) m changes fed found later todo u w = absurd cc

pub wants_of : (j : ChangeJob) (m : State) (changes : List Change) (todo : List PathNode) → All IsEntry (entries m) → IsFedSoFar j m changes todo → change_wanted j ≡ first_hash todo
wants_of j m changes todo within st = by_wanted j.wanted refl
  where
    by_wanted : (o : Option Stub) → j.wanted ≡ o → option_map (λ (s : Stub). s.hash.0) j.wanted ≡ first_hash todo
    by_wanted None e =
        ap (option_map (λ (s : Stub). s.hash.0)) e
        ∙ none_first j.settings.items j.settings.items m changes j.fed.items (all_items j.found.items) (back_items j.later.items) todo
        (subst (λ (o : Option Stub). IsUnderWay j.settings.items (with_wanted j.settings.items j.fed.items o (all_items j.found.items) (back_items j.later.items)) m changes todo) e st.under_way)
        (subst (λ (o : Option Stub). IsWaiting j.settings.items (with_wanted j.settings.items j.fed.items o (all_items j.found.items) (back_items j.later.items))) e st.waiting)
    by_wanted (Some s) e =
        ap (option_map (λ (s : Stub). s.hash.0)) e
        ∙ wanted_first m changes within j.fed.items (all_items j.found.items) (back_items j.later.items) s j.settings.items j.settings.items todo
        (subst (λ (o : Option Stub). IsUnderWay j.settings.items (with_wanted j.settings.items j.fed.items o (all_items j.found.items) (back_items j.later.items)) m changes todo) e st.under_way)
