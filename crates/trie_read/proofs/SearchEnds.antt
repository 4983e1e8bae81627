-- What node a search waits for, and its answer where it waits for none.
use Rattle.std.proofs.Common.{◌≡◌, ℕ, List, [], ◌∷◌, ◌++◌, Option, Some, None, refl, ap, ap₂, subst, sym, ◌∙◌}
use Rattle.std.specs.Prelude.{All, filter}
use Rattle.std.specs.List.{flat_map}
use Rattle.std.specs.Option.{option_map}
use Rattle.std.specs.FinMap.{entries, entries_sorted}
use Rattle.sdb_base.specs.Nibbles.{nibbles_of}
use Rattle.trie_model.specs.Fetches.{next_key}
use Rattle.trie_model.specs.Nodes.{PathNode}
use Rattle.trie_model.specs.State.{State}
use Rattle.trie_model.specs.Trie.{Suffix, suffixes_of}
use Rattle.trie_root.specs.Suffixes.{IsEntry}
use Rattle.trie_read.specs.Searches.{IsSearchStage, IsSeeking, is_for_next, keys_above}
use Rattle.trie_read.specs.inner.Parts.{HasSettled, OfKey, OfNode, Piece, StandFor, behind_it, in_front, is_above, keys_for, leads_above, nodes_for}
use Rattle.trie_read.specs.declared.next_job.NextJob.{NextJob}
use Rattle.trie_read.specs.declared.parts.Part.{Part}
use Rattle.trie_read.specs.declared.parts.Part.TheVariants as part
use Rattle.trie_read.specs.declared.parts.Stored.{Stored}
use Rattle.trie_read.proofs.KeysAbove.{head_of, next_is_first, once}
use Rattle.trie_read.proofs.OneFed.{Ahead, ahead}
use Rattle.trie_read.proofs.SearchStages.{none_passes}
use Rattle.trie_read.proofs.Seeking.{Seeks, first_wanted, seeks_as}

no_next : (next : Option Stored) → option_map (λ (s : Stored). s.hash.0) next ≡ None → next ≡ None
no_next None e = refl
no_next (Some s) e = let no : Some s.hash.0 ≡ None = e in absurd cc

pub search_stage : (j : NextJob) (m : State) (key : List ℕ) → All IsEntry (entries m) → (others : List Piece) (ns todo : List PathNode)
    → Seeks m key (in_front j.wanted j.nearest) others ns todo → HasSettled j.wanted j.nearest → IsSearchStage j todo
search_stage j m key within others ns todo seeks settled = next j.wanted j.nearest refl refl
  where
    ended : j.wanted ≡ None → todo ≡ [] → IsSearchStage j todo
    ended e none = subst (λ (xs : List PathNode). IsSearchStage j xs) (sym none) (ap (option_map (λ (s : Stored). s.hash.0)) e, settled)

    next : (o : Option Stored) (b : Option Part) → j.wanted ≡ o → j.nearest ≡ b → IsSearchStage j todo
    next None None e f =
        let ss : List Suffix = suffixes_of m in
        let kept : in_front j.wanted j.nearest ≡ [] = ap₂ in_front e f in
        let nothing : others ≡ [] = seeks.enough (ap (flat_map (keys_for ss (is_above (nibbles_of key)))) kept) in
        let nodes : ns ≡ [] =
        sym seeks.stands.nodes ∙ ap (flat_map (nodes_for ss (leads_above (nibbles_of key)))) (ap₂ (λ (xs ys : List Piece). xs ++ ys) kept nothing) in
        ended e (sym seeks.wants ∙ ap (filter (is_for_next m key)) nodes)
    next None (Some (part.Node s)) e f = let no : ⊥ = subst (λ (b : Option Part). HasSettled None b) f (subst (λ (o : Option Stored). HasSettled o j.nearest) e settled) in absurd no
    next None (Some (part.Key k)) e f =
        let ss : List Suffix = suffixes_of m in
        let q : List ℕ = nibbles_of key in
        let s : Seeks m key (OfKey k ∷ []) others ns todo = seeks_as m key (in_front j.wanted j.nearest) (OfKey k ∷ []) others ns todo (ap₂ in_front e f) seeks in
        let later : List (List ℕ) = flat_map (keys_for ss (is_above q)) others in
        let keys : keys_above m key ≡ k ∷ later = sym s.stands.keys in
        ended e (sym s.wants ∙ ap (filter (is_for_next m key)) (sym s.stands.nodes)
        ∙ none_passes m key within k later keys others s.led (once (is_above key) (entries m) (entries_sorted m) k later keys))
    next (Some s) b e f =
        let ss : List Suffix = suffixes_of m in
        let q : List ℕ = nibbles_of key in
        let rest : List Piece = behind_it j.nearest ++ others in
        let stands : StandFor ss (is_above q) (leads_above q) (OfNode s.hash.0 s.path.items ∷ rest) (keys_above m key) ns =
        subst (λ (o : Option Stored). StandFor ss (is_above q) (leads_above q) (in_front o j.nearest ++ others) (keys_above m key) ns) e seeks.stands in
        let a : Ahead ss (is_above q) (leads_above q) s.hash.0 s.path.items rest ns = ahead ss (is_above q) (leads_above q) [] (keys_above m key) s.hash.0 s.path.items rest ns stands in
        subst (λ (xs : List PathNode). IsSearchStage j xs) (sym (first_wanted m key within s.hash.0 s.path.items rest ns todo stands a seeks.wants))
        (ap (option_map (λ (t : Stored). t.hash.0)) e ∙ ap Some a.is.is_hash)

-- ---- the answer

abbrev pub key_behind : Option Part → Option (List ℕ)
key_behind None = None
key_behind (Some (part.Key k)) = Some k
key_behind (Some (part.Node s)) = None

pub all_searched : (j : NextJob) (m : State) (key : List ℕ) → IsSeeking j m key [] → key_behind j.nearest ≡ next_key m key
all_searched j m key w = next j.nearest refl
  where
    next : (b : Option Part) → j.nearest ≡ b → key_behind j.nearest ≡ next_key m key
    next None f =
        let ss : List Suffix = suffixes_of m in
        let q : List ℕ = nibbles_of key in
        let front : in_front j.wanted j.nearest ≡ [] = ap₂ in_front (no_next j.wanted w.stage.0) f in
        let nothing : w.others ≡ [] = w.enough (ap (flat_map (keys_for ss (is_above q))) front) in
        let keys : keys_above m key ≡ [] =
        sym w.stands.keys ∙ ap (flat_map (keys_for ss (is_above q))) (ap₂ (λ (xs ys : List Piece). xs ++ ys) front nothing) in
        ap key_behind f ∙ sym (next_is_first m key ∙ ap head_of keys)
    next (Some (part.Key k)) f =
        let ss : List Suffix = suffixes_of m in
        let q : List ℕ = nibbles_of key in
        let front : in_front j.wanted j.nearest ≡ OfKey k ∷ [] = ap₂ in_front (no_next j.wanted w.stage.0) f in
        let keys : keys_above m key ≡ k ∷ flat_map (keys_for ss (is_above q)) w.others =
        sym w.stands.keys ∙ ap (λ (ps : List Piece). flat_map (keys_for ss (is_above q)) (ps ++ w.others)) front in
        ap key_behind f ∙ sym (next_is_first m key ∙ ap head_of keys)
    next (Some (part.Node s)) f =
        let no : ⊥ = subst (λ (b : Option Part). HasSettled None b) f (subst (λ (o : Option Stored). HasSettled o j.nearest) (no_next j.wanted w.stage.0) w.stage.1) in absurd no
