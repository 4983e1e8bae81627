-- The wanted node is the first of those that are to be fed, and takes no place once it is fed.
use Rattle.std.proofs.Common.{◌≡◌, ℕ, true, false, List, [], ◌∷◌, ◌++◌, length, reverse, Some, ap, ap₂, subst, sym, ◌∙◌}
use Rattle.std.specs.Prelude.{All, Ok, filter}
use Rattle.std.specs.FinMap.{entries}
use Rattle.std.specs.List.{AllByRecursion}
use Rattle.std.proofs.lemmas.List.{reverse-append, reverse-reverse}
use Rattle.std.proofs.lemmas.List.Concat.{flat_map-append}
use Rattle.sdb_base.specs.declared.Change.{Change}
use Rattle.trie_model.specs.Fetches.{for_change, is_changed}
use Rattle.trie_model.specs.Node.{Node}
use Rattle.trie_model.specs.Nodes.{PathNode, all_nodes, is_stored}
use Rattle.trie_model.specs.State.{State, apply}
use Rattle.trie_model.specs.Trie.{Suffix, suffixes_of}
use Rattle.trie_codec.specs.Reading.{node_of_bytes}
use Rattle.trie_root.specs.Suffixes.{IsEntry}
use Rattle.trie_read.specs.Depth.{is_bad_node}
use Rattle.trie_read.specs.Paths.{Hangs}
use Rattle.trie_read.proofs.Binding.{sound_state}
use Rattle.trie_read.proofs.GoodNodes.{good_there}
use Rattle.trie_read.proofs.OneFed.{all_split}
use Rattle.trie_read.proofs.Sound.{Sound, are_nibbles}
use Rattle.trie_change.specs.ChangedKeys.{keys_in_changes}
use Rattle.trie_change.specs.Changing.{first_hash}
use Rattle.trie_change.specs.Frontier.{IsHanging, IsItem, IsStub, path_node_at}
use Rattle.trie_change.specs.declared.frontier.Fed.{Fed}
use Rattle.trie_change.specs.Item.{Item}
use Rattle.trie_change.specs.Item as item
use Rattle.trie_change.specs.declared.frontier.Stub.{Stub}
use Rattle.trie_change.specs.declared.settings.Setting.{Setting}
use Rattle.trie_change.specs.inner.InOrder.{IsOff, begins_one, set_pairs}
use Rattle.trie_change.specs.inner.Known.{all_known, known_in}
use Rattle.trie_change.specs.inner.Stages.{IsHeld, IsOffKeys, all_under, stored_under}
use Rattle.trie_change.proofs.CarriedOver.{to_off_stubs}
use Rattle.trie_change.proofs.HungUnder.{hung_none, path_not_there}
use Rattle.trie_change.proofs.OffWay.{changed_first, left_out, off_none, unhung_first}
use Rattle.trie_change.proofs.OneTaken.{ComesFirst, held_after, is_first, stub_is}
use Rattle.trie_change.proofs.Opened.{IsOpen, opened}
use Rattle.trie_change.proofs.SetBy.{begins_changed}
use Rattle.trie_change.specs.Settings.{settings_of}

-- ---- on the way to a key that is set

pub on_the_way_first : (m : State) (changes : List Change) (settings : List Setting) (found rest : List Item) (s : Stub) (o : IsOpen (suffixes_of m) s)
    → set_pairs settings ≡ settings_of changes → AllByRecursion (IsOff settings) found → begins_one settings s.path.items ≡ true
    → ComesFirst (suffixes_of m) m changes found s (filter is_stored o.rest) rest
on_the_way_first m changes settings found rest s o set off on =
    let keys : List (List ℕ) = keys_in_changes changes in
    changed_first keys (all_nodes (apply m changes)) (all_under (suffixes_of m) found) (filter is_stored o.rest ++ all_under (suffixes_of m) rest)
    (path_node_at (suffixes_of m) s.path.items)
    (off_none (suffixes_of m) keys found (to_off_stubs settings changes found set off))
    (sym (begins_changed settings changes s.path.items set) ∙ on)

-- ---- after what is set was carried out

pub unhung_comes_first : (m : State) (changes : List Change) → All IsEntry (entries (apply m changes)) → (found rest : List Item) (s : Stub) (o : IsOpen (suffixes_of (apply m changes)) s)
    → AllByRecursion (IsOffKeys (keys_in_changes changes)) (found ++ (item.Stub s ∷ rest)) → AllByRecursion (IsHanging (suffixes_of (apply m changes))) found
    → (Hangs (suffixes_of (apply m changes)) s.path.items → ⊥) → ComesFirst (suffixes_of (apply m changes)) m changes found s (filter is_stored o.rest) rest
unhung_comes_first m changes after found rest s o off hanging none =
    let keys : List (List ℕ) = keys_in_changes changes in
    let ss : List Suffix = suffixes_of (apply m changes) in
    let front : List PathNode = all_under ss found in
    let back : List PathNode = filter is_stored o.rest ++ all_under ss rest in
    let n : PathNode = path_node_at ss s.path.items in
    let split : AllByRecursion (IsOffKeys keys) found × AllByRecursion (IsOffKeys keys) (item.Stub s ∷ rest) = all_split (IsOffKeys keys) found (item.Stub s ∷ rest) off in
    let whole : all_under ss (found ++ (item.Stub s ∷ rest)) ≡ front ++ n ∷ back =
    flat_map-append (stored_under ss) found (item.Stub s ∷ rest) ∙ ap (λ (ns : List PathNode). front ++ (ns ++ all_under ss rest)) o.under in
    unhung_first keys (all_nodes (apply m changes)) front back n
    (sym (left_out (is_changed keys) front back n split.1.0) ∙ sym (ap (filter (is_changed keys)) whole) ∙ off_none ss keys (found ++ (item.Stub s ∷ rest)) off)
    (hung_none ss (are_nibbles ss (sound_state (apply m changes) after)) keys found hanging)
    split.1.0
    (path_not_there ss s.path.items none)

-- ---- the first of those that are to be fed

pub first_wanted : (now m : State) (changes : List Change) (fed : List Fed) (found rest : List Item) (s : Stub) (todo : List PathNode)
    → IsHeld now m changes fed (found ++ (item.Stub s ∷ rest)) todo
    → ((o : IsOpen (suffixes_of now) s) → ComesFirst (suffixes_of now) m changes found s (filter is_stored o.rest) rest) → Some s.hash.0 ≡ first_hash todo
first_wanted now m changes fed found rest s todo held comes =
    let is : IsStub (suffixes_of now) s = (all_split (IsItem (suffixes_of now)) found (item.Stub s ∷ rest) held.frontier.stubs).1.0 in
    let o : IsOpen (suffixes_of now) s = opened (suffixes_of now) s is in
    let list : todo ≡ path_node_at (suffixes_of now) s.path.items
    ∷ for_change (all_under (suffixes_of now) found ++ (filter is_stored o.rest ++ all_under (suffixes_of now) rest)) (all_nodes (apply m changes)) (keys_in_changes changes) =
    held.todo_is
    ∙ ap (λ (ns : List PathNode). for_change ns (all_nodes (apply m changes)) (keys_in_changes changes))
    (flat_map-append (stored_under (suffixes_of now)) found (item.Stub s ∷ rest)
    ∙ ap (λ (ns : List PathNode). all_under (suffixes_of now) found ++ (ns ++ all_under (suffixes_of now) rest)) o.under)
    ∙ comes o in
    ap Some is.is_hash ∙ sym (ap first_hash list)

-- nothing is to be fed where all items are off the way and hang
pub nothing_wanted : (m : State) (changes : List Change) → All IsEntry (entries (apply m changes)) → (fed : List Fed) (items : List Item) (todo : List PathNode)
    → IsHeld (apply m changes) m changes fed items todo → AllByRecursion (IsOffKeys (keys_in_changes changes)) items
    → AllByRecursion (IsHanging (suffixes_of (apply m changes))) items → todo ≡ []
nothing_wanted m changes after fed items todo held off hanging =
    let ss : List Suffix = suffixes_of (apply m changes) in
    held.todo_is ∙ ap₂ (λ (xs ys : List PathNode). xs ++ ys) (off_none ss (keys_in_changes changes) items off)
    (hung_none ss (are_nibbles ss (sound_state (apply m changes) after)) (keys_in_changes changes) items hanging)

-- ---- the wanted node is never a bad one

pub good_node : (now m : State) (changes : List Change) → Sound (suffixes_of now) → (fed : List Fed) (found rest : List Item) (s : Stub) (n : PathNode) (todo : List PathNode) (bytes : List ℕ)
    → IsHeld now m changes fed (found ++ (item.Stub s ∷ rest)) (n ∷ todo)
    → ((o : IsOpen (suffixes_of now) s) → ComesFirst (suffixes_of now) m changes found s (filter is_stored o.rest) rest) → bytes ≡ n.bytes
    → is_bad_node (length s.path.items) bytes ≡ false
good_node now m changes sound fed found rest s n todo bytes held comes e =
    let is : IsStub (suffixes_of now) s = stub_is now m changes sound fed found rest s n todo held in
    let o : IsOpen (suffixes_of now) s = opened (suffixes_of now) s is in
    ap (is_bad_node (length s.path.items)) (e ∙ ap (λ (x : PathNode). x.bytes) (is_first now m changes sound fed found rest s n todo held o (comes o)))
    ∙ good_there (suffixes_of now) sound s.path.items is.some

-- ---- it takes no place any more

pub taken_in : (now m : State) (changes : List Change) → Sound (suffixes_of now) → (fed : List Fed) (found later : List Item) (s : Stub) (n : PathNode) (todo : List PathNode)
    → IsHeld now m changes fed (found ++ (item.Stub s ∷ reverse later)) (n ∷ todo)
    → ((o : IsOpen (suffixes_of now) s) → ComesFirst (suffixes_of now) m changes found s (filter is_stored o.rest) (reverse later))
    → (f : Fed) (items later2 : List Item) (node : Node) → f.path.items ≡ s.path.items → f.hash ≡ s.hash → f.bytes ≡ n.bytes → node_of_bytes n.bytes ≡ Ok node
    → all_known items ≡ known_in 33 node s.path.items → later2 ≡ later ++ reverse items → IsHeld now m changes (fed ++ f ∷ []) (found ++ reverse later2) todo
taken_in now m changes sound fed found later s n todo held comes f items later2 node path hash bytes read known e =
    let is : IsStub (suffixes_of now) s = stub_is now m changes sound fed found (reverse later) s n todo held in
    let o : IsOpen (suffixes_of now) s = opened (suffixes_of now) s is in
    let order : items ++ reverse later ≡ reverse later2 =
    ap (λ (xs : List Item). xs ++ reverse later) (sym (reverse-reverse items)) ∙ sym (reverse-append later (reverse items)) ∙ ap reverse (sym e) in
    subst (λ (xs : List Item). IsHeld now m changes (fed ++ f ∷ []) (found ++ xs) todo) order
    (held_after now m changes sound fed found (reverse later) s n todo held o (comes o) f items node path hash bytes read known)
