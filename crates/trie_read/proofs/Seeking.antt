-- What a search keeps, when the node that it waits for is fed.
use Rattle.std.proofs.Common.{◌≡◌, ℕ, Bool, cond, List, [], ◌∷◌, ◌++◌, ap, ap₂, subst, sym, ◌∙◌, append_assoc}
use Rattle.std.specs.Prelude.{All, Ok, filter}
use Rattle.std.specs.List.{AllByRecursion, flat_map}
use Rattle.std.specs.FinMap.{entries}
use Rattle.std.proofs.lemmas.List.{append_cancel_right}
use Rattle.std.proofs.lemmas.List.Concat.{flat_map-append}
use Rattle.sdb_base.specs.Nibbles.{nibbles_of}
use Rattle.trie_model.specs.Node.{Node}
use Rattle.trie_model.specs.Nodes.{PathNode}
use Rattle.trie_model.specs.State.{State}
use Rattle.trie_model.specs.Trie.{Suffix, below, suffixes_of}
use Rattle.trie_codec.specs.Reading.{node_of_bytes}
use Rattle.trie_root.specs.Suffixes.{IsEntry}
use Rattle.trie_read.specs.Searches.{is_for_next, keys_above}
use Rattle.trie_read.specs.inner.Following.{head_at}
use Rattle.trie_read.specs.inner.Parts.{HangsAbove, IsLed, IsPiece, OfNode, Piece, StandFor, first_two_of, gone_into, is_above, keys_for, keys_under, leads_above, nodes_for, parts_in, after_two_of}
use Rattle.trie_read.proofs.AboveNibbles.{above_closed}
use Rattle.trie_read.proofs.Binding.{sound_state}
use Rattle.trie_read.proofs.Followed.{tail_alike}
use Rattle.trie_read.proofs.Led.{led_joined, parts_led}
use Rattle.trie_read.proofs.OneFed.{Ahead, ahead, all_split, head_alike, one_fed}
use Rattle.trie_read.proofs.SearchStages.{first_passes}
use Rattle.trie_read.proofs.KeptFront.{front_and_rest, nothing_let_go}

-- what is kept of a search, apart from a job
pub record Seeks (m : State) (key : List ℕ) (kept others : List Piece) (ns todo : List PathNode) : Type 0 where
  pub stands : StandFor (suffixes_of m) (is_above (nibbles_of key)) (leads_above (nibbles_of key)) (kept ++ others) (keys_above m key) ns
  pub led : IsLed (nibbles_of key) (kept ++ others)
  pub enough : flat_map (keys_for (suffixes_of m) (is_above (nibbles_of key))) kept ≡ [] → others ≡ []
  pub wants : filter (is_for_next m key) ns ≡ todo

pub seeks_as : (m : State) (key : List ℕ) (kept kept2 others : List Piece) (ns todo : List PathNode) → kept ≡ kept2 → Seeks m key kept others ns todo → Seeks m key kept2 others ns todo
seeks_as m key kept kept2 others ns todo e s = subst (λ (ps : List Piece). Seeks m key ps others ns todo) e s

-- the first of the nodes is the first to be fed
pub first_wanted : (m : State) (key : List ℕ) → All IsEntry (entries m) → (h p : List ℕ) (rest : List Piece) (ns todo : List PathNode)
    → StandFor (suffixes_of m) (is_above (nibbles_of key)) (leads_above (nibbles_of key)) (OfNode h p ∷ rest) (keys_above m key) ns
    → (a : Ahead (suffixes_of m) (is_above (nibbles_of key)) (leads_above (nibbles_of key)) h p rest ns) → filter (is_for_next m key) ns ≡ todo
    → todo ≡ head_at (suffixes_of m) p ∷ filter (is_for_next m key) (gone_into (leads_above (nibbles_of key)) a.under ++ flat_map (nodes_for (suffixes_of m) (leads_above (nibbles_of key))) rest)
first_wanted m key within h p rest ns todo stand a wants =
    let ss : List Suffix = suffixes_of m in
    let test : PathNode → Bool = is_for_next m key in
    let list : List PathNode = gone_into (leads_above (nibbles_of key)) a.under ++ flat_map (nodes_for ss (leads_above (nibbles_of key))) rest in
    sym wants ∙ ap (filter test) a.nodes
    ∙ ap (λ b. cond b (head_at ss p ∷ filter test list) (filter test list)) (first_passes m key within h p rest ns a.is stand)

pub searched : (m : State) (key : List ℕ) → All IsEntry (entries m) → (h p : List ℕ) (behind others parts : List Piece) (ns : List PathNode) (n : PathNode) (todo : List PathNode) (found : Node)
    → Seeks m key (OfNode h p ∷ behind) others ns (n ∷ todo) → node_of_bytes n.bytes ≡ Ok found → parts ≡ parts_in (is_above (nibbles_of key)) (leads_above (nibbles_of key)) 33 found p
    → (ms : List PathNode) × Seeks m key (first_two_of (parts ++ behind)) (after_two_of (parts ++ behind) ++ others) ms todo
searched m key within h p behind others parts ns n todo found seeks e parts_are =
    let ss : List Suffix = suffixes_of m in
    let q : List ℕ = nibbles_of key in
    let test : PathNode → Bool = is_for_next m key in
    let rest : List Piece = behind ++ others in
    let w : List Piece = parts ++ behind in
    let keys : List (List ℕ) = keys_above m key in
    let a : Ahead ss (is_above q) (leads_above q) h p rest ns = ahead ss (is_above q) (leads_above q) [] keys h p rest ns seeks.stands in
    let list : List PathNode = gone_into (leads_above q) a.under ++ flat_map (nodes_for ss (leads_above q)) rest in
    let wanted : n ∷ todo ≡ head_at ss p ∷ filter test list = first_wanted m key within h p rest ns (n ∷ todo) seeks.stands a seeks.wants in
    let same : n ≡ head_at ss p = head_alike n (head_at ss p) todo (filter test list) wanted in
    let before : StandFor ss (is_above q) (leads_above q) (OfNode h p ∷ rest) keys (head_at ss p ∷ list) =
    subst (λ (xs : List PathNode). StandFor ss (is_above q) (leads_above q) (OfNode h p ∷ rest) keys xs) a.nodes seeks.stands in
    let after : StandFor ss (is_above q) (leads_above q) (parts ++ rest) keys list =
    one_fed ss (is_above q) (leads_above q) (sound_state m within) (above_closed q) [] keys h p rest parts (head_at ss p) list found before
    (ap (λ (x : PathNode). node_of_bytes x.bytes) (sym same) ∙ e) parts_are in
    let regrouped : parts ++ rest ≡ first_two_of w ++ (after_two_of w ++ others) =
    sym (append_assoc parts behind others) ∙ ap (λ (ps : List Piece). ps ++ others) (sym (front_and_rest w)) ∙ append_assoc (first_two_of w) (after_two_of w) others in
    let parts_first : IsLed q parts = subst (λ (ps : List Piece). IsLed q ps) (sym parts_are) (parts_led q 33 found p) in
    let above : AllByRecursion (HangsAbove q) behind × AllByRecursion (HangsAbove q) others = all_split (HangsAbove q) behind others seeks.led in
    let sound : AllByRecursion (IsPiece ss (leads_above q)) w × AllByRecursion (IsPiece ss (leads_above q)) others =
    all_split (IsPiece ss (leads_above q)) w others (subst (λ (ps : List Piece). AllByRecursion (IsPiece ss (leads_above q)) ps) (sym (append_assoc parts behind others)) after.sound) in
    let here : List (List ℕ) = keys_under (is_above q) p (below p ss) in
    let later : List (List ℕ) = flat_map (keys_for ss (is_above q)) rest in
    let one_parts : flat_map (keys_for ss (is_above q)) parts ≡ here =
    append_cancel_right (flat_map (keys_for ss (is_above q)) parts) here later
    (sym (flat_map-append (keys_for ss (is_above q)) parts rest) ∙ after.keys ∙ sym seeks.stands.keys) in
    let enough : flat_map (keys_for ss (is_above q)) (first_two_of w) ≡ [] → after_two_of w ++ others ≡ [] = λ none.
    let both : (after_two_of w ≡ []) × (flat_map (keys_for ss (is_above q)) w ≡ []) = nothing_let_go ss q w sound.0 (led_joined q parts behind parts_first above.0) none in
    let kept : flat_map (keys_for ss (is_above q)) (OfNode h p ∷ behind) ≡ [] =
    ap (λ (ks : List (List ℕ)). ks ++ flat_map (keys_for ss (is_above q)) behind) (sym one_parts)
    ∙ sym (flat_map-append (keys_for ss (is_above q)) parts behind) ∙ both.1 in
    ap₂ (λ (xs ys : List Piece). xs ++ ys) both.0 (seeks.enough kept) in (
      list,
      record {
        stands = subst (λ (ps : List Piece). StandFor ss (is_above q) (leads_above q) ps keys list) regrouped after;
        led = subst (λ (ps : List Piece). IsLed q ps) regrouped (led_joined q parts rest parts_first seeks.led);
        enough = enough;
        wants = sym (tail_alike n (head_at ss p) todo (filter test list) wanted);
      },
    )
