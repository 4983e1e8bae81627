-- What is asked of a state, which stored nodes are fetched for it, and in which order: each a filter of the whole list.
use Rattle.std.specs.Prelude.{ℕ, ◌&&◌, ◌||◌, not, nat_eq, Bool, false, List, [], ◌++◌, filter, map, Option, Some, None, find}
use Rattle.std.specs.Option.{option_map}
use Rattle.std.specs.List.{list_any, starts_with}
use Rattle.std.specs.Ordering.{is_lt, nat_cmp}
use Rattle.std.specs.Cmp.Lexicographic.{slice_cmp}
use Rattle.std.specs.FinMap.{entries}
use Rattle.sdb_base.specs.Nibbles.{nibbles_of}
use Rattle.sdb_base.specs.declared.change.Change.{Change}
use Rattle.trie_model.specs.State.{State, apply}
use Rattle.trie_model.specs.Nodes.{PathNode, all_nodes, has_path, stored_nodes}

-- a state's keys, rising
abbrev pub keys_of_state : State → List (List ℕ)
keys_of_state m = map (λ (e : List ℕ × List ℕ). e.0) (entries m)

-- the least of rising keys that is above a key
abbrev pub next_of : List (List ℕ) → List ℕ → Option (List ℕ)
next_of keys key = find (λ k. is_lt (slice_cmp nat_cmp key k)) keys

-- those of some keys that begin with a prefix
abbrev pub beginning_with : List (List ℕ) → List ℕ → List (List ℕ)
beginning_with keys prefix = filter (λ k. starts_with nat_eq k prefix) keys

-- a state's least key above a key, and its keys that begin with a prefix, rising
abbrev pub next_key : State → List ℕ → Option (List ℕ)
next_key m key = next_of (keys_of_state m) key

abbrev pub keys_with_prefix : State → List ℕ → List (List ℕ)
keys_with_prefix m prefix = beginning_with (keys_of_state m) prefix

-- whether a node's path begins these nibbles
abbrev pub on_the_way : List ℕ → PathNode → Bool
on_the_way nibbles n = starts_with nat_eq nibbles n.path

-- whether it begins the nibbles of a key that may not be there
abbrev pub on_the_way_if : Option (List ℕ) → PathNode → Bool
on_the_way_if None n = false
on_the_way_if (Some key) n = on_the_way (nibbles_of key) n

-- ---- which of some nodes are fetched, by rising path

-- for a read of a key: those whose path begins the key
abbrev pub for_read : List PathNode → List ℕ → List PathNode
for_read nodes key = filter (on_the_way (nibbles_of key)) nodes

-- for a search for the next key: those whose path begins the key or the answer
abbrev pub for_next : List PathNode → List ℕ → Option (List ℕ) → List PathNode
for_next nodes key answer = filter (λ n. on_the_way (nibbles_of key) n || on_the_way_if answer n) nodes

-- for a walk over the keys with a prefix: those whose path begins the prefix or goes on with it
abbrev pub for_walk : List PathNode → List ℕ → List PathNode
for_walk nodes prefix = filter (λ n. on_the_way (nibbles_of prefix) n || starts_with nat_eq n.path (nibbles_of prefix)) nodes

-- whether a node's path begins one of the keys that are changed
abbrev pub is_changed : List (List ℕ) → PathNode → Bool
is_changed keys n = list_any (λ key. on_the_way (nibbles_of key) n) keys

-- whether a node, not on the way to a changed key, hangs where the changed trie, which has these nodes, has none
abbrev pub is_unhung : List PathNode → List (List ℕ) → PathNode → Bool
is_unhung after keys n = not (is_changed keys n) && not (has_path after n.path)

-- for a change of some keys: those on the way to one of them, and then those that hang where the changed trie has no node
abbrev pub for_change : List PathNode → List PathNode → List (List ℕ) → List PathNode
for_change nodes after keys = filter (is_changed keys) nodes ++ filter (is_unhung after keys) nodes

-- ---- of a state

abbrev pub read_fetches : State → List ℕ → List PathNode
read_fetches m key = for_read (stored_nodes m) key

abbrev pub next_fetches : State → List ℕ → List PathNode
next_fetches m key = for_next (stored_nodes m) key (next_key m key)

abbrev pub walk_fetches : State → List ℕ → List PathNode
walk_fetches m prefix = for_walk (stored_nodes m) prefix

abbrev pub change_fetches : State → List Change → List PathNode
change_fetches m changes =
    for_change (stored_nodes m) (all_nodes (apply m changes)) (map (λ (c : Change). c.key) changes)
