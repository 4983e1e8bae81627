-- From one node that a read waits for to the next.
use Rattle.std.proofs.Common.{◌≡◌, ℕ, ◌≤◌, Bool, true, false, cond, List, [], ◌∷◌, ◌++◌, drop, Option, Some, None, refl, ap, subst, sym, ◌∙◌, arith}
use Rattle.std.specs.Prelude.{All, Ok, Result, filter}
use Rattle.std.specs.FinMap.{entries}
use Rattle.sdb_base.specs.Nibbles.{nibbles_of}
use Rattle.sdb_blake2.specs.Blake2b.{H}
use Rattle.trie_model.specs.Fetches.{on_the_way, read_fetches}
use Rattle.trie_model.specs.Node.{IsNode, Node, spelling}
use Rattle.trie_model.specs.Nodes.{PathNode, is_stored, nodes_over}
use Rattle.trie_model.specs.State.{State}
use Rattle.trie_model.specs.Trie.{Suffix, below, levels_of, node_of_all, root_node, suffixes_of, trie_root}
use Rattle.trie_codec.specs.Reading.{node_of_bytes}
use Rattle.trie_codec.proofs.Spellings.{whole_read}
use Rattle.trie_codec.specs.declared.fault.CodecFault.{CodecFault}
use Rattle.trie_root.specs.Suffixes.{IsEntry}
use Rattle.trie_read.specs.Paths.{node_at}
use Rattle.trie_read.specs.Reads.{IsStage, WaitsFor, wanted_of}
use Rattle.trie_read.specs.declared.read_job.ReadJob.{ReadJob}
use Rattle.trie_read.specs.inner.Descent.{Ended, Wants, way_down}
use Rattle.trie_read.specs.inner.Following.{AreOnTheWay, IsFollowed, Sound, WantsNext, head_at, way_from}
use Rattle.trie_read.proofs.Binding.{sound_state}
use Rattle.trie_read.proofs.Followed.{first_on, followed, tail_alike}
use Rattle.trie_read.proofs.Hanging.{alike, below-nil}
use Rattle.trie_read.proofs.Sound.{node_sound, sound_below}
use Rattle.trie_read.proofs.Ways.{found_at_its_nibbles}

pub one_of : (a b : Node) → ◌≡◌ {A = Result Node CodecFault} (Ok a) (Ok b) → a ≡ b
one_of a b e = cc

pub next : (m : State) → All IsEntry (entries m) → (key : List ℕ) (at : ℕ) (n : PathNode) (others : List PathNode) → key ≡ n.path ++ drop at key
    → n.bytes ≡ spelling (node_at (suffixes_of m) n.path) → is_stored n ≡ true → AreOnTheWay (suffixes_of m) n.path (drop at key) (n ∷ others)
    → (found : Node) → node_of_bytes n.bytes ≡ Ok found → IsFollowed (suffixes_of m) key (way_down 33 found (drop at key)) others
next m within key at n others whole bytes stored nodes found e =
    let ss : List Suffix = suffixes_of m in
    let left : List ℕ = drop at key in
    let s : Sound ss = sound_state m within in
    let sound : IsNode (node_at ss n.path) = node_sound (below n.path ss) (sound_below n.path ss s) in
    let first : (t : List PathNode) × (way_from nodes.depth ss n.path left ≡ head_at ss n.path ∷ t) = first_on nodes.depth ss n.path left nodes.enough in
    let same : n ≡ head_at ss n.path = alike n.path n.path n.bytes (spelling (node_at ss n.path)) refl bytes in
    let kept : is_stored (head_at ss n.path) ≡ true = subst (λ (x : PathNode). is_stored x ≡ true) same stored in
    let list : n ∷ others ≡ head_at ss n.path ∷ filter is_stored first.0 =
    nodes.all ∙ ap (filter is_stored) first.1 ∙ ap (λ b. cond b (head_at ss n.path ∷ filter is_stored first.0) (filter is_stored first.0)) kept in
    let rest : others ≡ filter is_stored first.0 = tail_alike n (head_at ss n.path) others (filter is_stored first.0) list in
    let is : found ≡ node_at ss n.path = one_of found (node_at ss n.path) (sym e ∙ ap node_of_bytes bytes ∙ whole_read (node_at ss n.path) sound) in
    let there : IsFollowed ss (n.path ++ left) (way_down 33 (node_at ss n.path) left) (filter is_stored first.0) =
    followed 33 nodes.depth ss s n.path left (omega arith) nodes.enough sound first.0 first.1 in
    subst (λ (k : List ℕ). IsFollowed ss k (way_down 33 found left) others) (sym whole)
    (subst (λ (x : Node). IsFollowed ss (n.path ++ left) (way_down 33 x left) others) (sym is)
    (subst (λ (ns : List PathNode). IsFollowed ss (n.path ++ left) (way_down 33 (node_at ss n.path) left) ns) (sym rest) there))

pub ended_stage : (j : ReadJob) (m : State) (todo : List PathNode) (v : Option (List ℕ)) → j.wanted ≡ None → j.value ≡ v
    → IsFollowed (suffixes_of m) (nibbles_of j.key) (Ended v) todo → IsStage j m todo
ended_stage j m todo v wanted value f =
    subst (λ (ns : List PathNode). IsStage j m ns) (sym f.0) (wanted, value ∙ f.1 ∙ sym (found_at_its_nibbles m j.key))

pub wants_stage : (j : ReadJob) (m : State) (todo : List PathNode) (hash : List ℕ) → wanted_of j ≡ Some hash
    → IsFollowed (suffixes_of m) (nibbles_of j.key) (Wants hash (drop j.at (nibbles_of j.key))) todo → IsStage j m todo
wants_stage j m todo hash wanted f =
    let w : WantsNext (suffixes_of m) (nibbles_of j.key) hash (drop j.at (nibbles_of j.key)) todo = f in
    let waits : WaitsFor j m (head_at (suffixes_of m) w.path) w.rest = record {
      wanted = wanted ∙ ap Some w.is_hash;
      whole = w.whole;
      bytes = refl;
      stored = w.stored;
      nodes = subst (λ (ns : List PathNode). AreOnTheWay (suffixes_of m) w.path (drop j.at (nibbles_of j.key)) ns) w.first w.on_the_way;
    } in
    subst (λ (ns : List PathNode). IsStage j m ns) (sym w.first) waits

-- ---- the first node

filters_swap : (p q : PathNode → Bool) (xs : List PathNode) → filter p (filter q xs) ≡ filter q (filter p xs)
filters_swap p q [] = refl
filters_swap p q (x ∷ xs) =
    elim (p x) as (λ b. p x ≡ b → filter p (cond (q x) (x ∷ filter q xs) (filter q xs)) ≡ filter q (cond b (x ∷ filter p xs) (filter p xs))) [
      | true ↦ λ yes. elim (q x) as (λ c. filter p (cond c (x ∷ filter q xs) (filter q xs)) ≡ cond c (x ∷ filter q (filter p xs)) (filter q (filter p xs))) [
        | true ↦ ap (λ b. cond b (x ∷ filter p (filter q xs)) (filter p (filter q xs))) yes ∙ ap (λ (ys : List PathNode). x ∷ ys) (filters_swap p q xs)
        | false ↦ filters_swap p q xs
      ]
      | false ↦ λ no. elim (q x) as (λ c. filter p (cond c (x ∷ filter q xs) (filter q xs)) ≡ filter q (filter p xs)) [
        | true ↦ ap (λ b. cond b (x ∷ filter p (filter q xs)) (filter p (filter q xs))) no ∙ filters_swap p q xs
        | false ↦ filters_swap p q xs
      ]
    ] refl

pub first_stage : (j : ReadJob) (m : State) → wanted_of j ≡ Some (trie_root m) → j.at ≡ 0 → IsStage j m (read_fetches m j.key)
unfolding trie_root root_node
first_stage j m wanted at =
    let ss : List Suffix = suffixes_of m in
    let key : List ℕ = nibbles_of j.key in
    let d : ℕ = levels_of ss in
    let enough : levels_of (below [] ss) ≤ d = subst (λ (us : List Suffix). levels_of us ≤ d) (sym (below-nil ss)) (omega arith) in
    let left : drop j.at key ≡ key = ap (λ (k : ℕ). drop k key) at in
    let first : (t : List PathNode) × (way_from d ss [] key ≡ head_at ss [] ∷ t) = first_on d ss [] key enough in
    let all : read_fetches m j.key ≡ filter is_stored (way_from d ss [] key) =
    filters_swap (on_the_way key) is_stored (nodes_over d [] ss) ∙ ap (λ (us : List Suffix). filter is_stored (filter (on_the_way key) (nodes_over d [] us))) (sym (below-nil ss)) in
    let list : read_fetches m j.key ≡ head_at ss [] ∷ filter is_stored first.0 = all ∙ ap (filter is_stored) first.1 in
    let waits : WaitsFor j m (head_at ss []) (filter is_stored first.0) = record {
      wanted = wanted ∙ ap (λ (us : List Suffix). Some (H (spelling (node_of_all us)))) (sym (below-nil ss));
      whole = sym left;
      bytes = refl;
      stored = refl;
      nodes = record { depth = d; enough = enough; all = sym list ∙ all ∙ ap (λ (k : List ℕ). filter is_stored (way_from d ss [] k)) (sym left) };
    } in
    subst (λ (ns : List PathNode). IsStage j m ns) (sym list) waits
