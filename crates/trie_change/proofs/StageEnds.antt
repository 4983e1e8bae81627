-- What a job has come to where it wants no node.
use Rattle.std.proofs.Common.{◌≡◌, true, false, List, [], ◌∷◌, Option, Some, None, refl, ap, subst, sym, ◌∙◌}
use Rattle.std.specs.Prelude.{is_some}
use Rattle.std.specs.List.{AllByRecursion}
use Rattle.std.specs.Option.{option_map}
use Rattle.std.proofs.lemmas.List.{append-nil}
use Rattle.sdb_base.specs.declared.Change.{Change}
use Rattle.trie_model.specs.Nodes.{PathNode, stored_nodes}
use Rattle.trie_model.specs.State.{State, apply, no_keys}
use Rattle.trie_change.specs.ChangedKeys.{keys_in_changes}
use Rattle.trie_change.specs.Changing.{IsChanging, IsCreating}
use Rattle.trie_change.specs.declared.change_job.ChangeJob.{ChangeJob}
use Rattle.trie_change.specs.Item.{Item}
use Rattle.trie_change.specs.declared.frontier.Stub.{Stub}
use Rattle.trie_change.specs.declared.settings.Setting.{Setting}
use Rattle.trie_change.specs.inner.InOrder.{in_place}
use Rattle.trie_change.specs.inner.Pieces.{all_items, back_items}
use Rattle.trie_change.specs.inner.Settled.{AreEnough}
use Rattle.trie_change.specs.inner.Stages.{IsCarriedOut, IsHeld, IsOffKeys, IsUnderWay, IsWaiting, JobParts, job_parts}
use Rattle.trie_change.proofs.JobItems.{created_items, settled_items}

pub none_wanted : (o : Option Stub) → option_map (λ (s : Stub). s.hash.0) o ≡ None → o ≡ None
none_wanted None e = refl
none_wanted (Some s) e = let no : Some s.hash.0 ≡ None = e in absurd cc

last_stage : (settings : List Setting) (j : JobParts) (m : State) (changes : List Change) (todo : List PathNode) → IsUnderWay settings j m changes todo → IsWaiting settings j
    → j.wanted ≡ None → IsCarriedOut j m changes todo × (j.later ≡ [])
last_stage [] j m changes todo u w none = (u, w none)
last_stage (s ∷ settings) j m changes todo u w none = let no : true ≡ false = sym w ∙ ap is_some none in absurd cc

pub only_found : (found later : List Item) (wanted : Option Stub) → wanted ≡ None → later ≡ [] → in_place found wanted later ≡ found
only_found found later wanted none nothing =
    ap (λ (o : Option Stub). in_place found o later) none ∙ ap (λ (xs : List Item). in_place found None xs) nothing ∙ append-nil found

pub finished : (j : ChangeJob) (m : State) (changes : List Change) → IsChanging j m changes [] → AreEnough (stored_nodes m) (apply m changes) j.fed.items (all_items j.found.items)
finished j m changes c =
    let none : j.wanted ≡ None = none_wanted j.wanted c.wants in
    let last : IsCarriedOut (job_parts j) m changes [] × (back_items j.later.items ≡ []) =
    last_stage j.settings.items (job_parts j) m changes [] c.stage.under_way c.stage.waiting none in
    let only : in_place (all_items j.found.items) j.wanted (back_items j.later.items) ≡ all_items j.found.items = only_found (all_items j.found.items) (back_items j.later.items) j.wanted none last.1 in
    settled_items m changes c.within last.0.after j.fed.items (all_items j.found.items) []
    (subst (λ (xs : List Item). IsHeld (apply m changes) m changes j.fed.items xs []) only last.0.held)
    (subst (AllByRecursion (IsOffKeys (keys_in_changes changes))) only last.0.off) last.0.hanging

pub finished_new : (j : ChangeJob) (changes : List Change) → IsCreating j changes → AreEnough [] (apply no_keys changes) j.fed.items (all_items j.found.items)
finished_new j changes c = created_items (apply no_keys changes) j.fed.items (all_items j.found.items) c.stage.after c.stage.frontier c.stage.no_stubs c.stage.none_fed
