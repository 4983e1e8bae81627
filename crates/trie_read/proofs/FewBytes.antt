-- Near a root nothing of few bytes hangs too deep.
use Rattle.std.proofs.Common.{◌≡◌, ℕ, zero, suc, ◌+◌, ◌*◌, ◌<◌, ◌≤◌, Bool, true, false, List, length, get_or, Option, Some, None, refl, ap, sym, ◌∙◌, inl, inr, arith}
use Rattle.std.specs.Prelude.{◌||◌, All, Err, Ok, Result, nat_lt}
use Rattle.std.specs.List.{list_any}
use Rattle.std.proofs.lemmas.Bool.{cases_lt}
use Rattle.std.proofs.lemmas.List.Elements.{All-from_get_or, All-get_or}
use Rattle.std.proofs.lemmas.List.Folds.{list_any_none}
use Rattle.trie_model.specs.Node.{AreParts, IsNode, IsNodeWithin, IsText, Node, has_child, spelling}
use Rattle.trie_codec.specs.Reading.{node_of_bytes}
use Rattle.trie_codec.specs.declared.fault.CodecFault.{CodecFault}
use Rattle.trie_codec.proofs.ReadWhole.{whole_was_written}
use Rattle.trie_read.specs.Depth.{child_too_deep, is_long_value, too_deep}
use Rattle.trie_read.proofs.Childless.{none_deep}
use Rattle.trie_read.proofs.Descents.{inline_deep, inline_unread, not_past}
use Rattle.trie_read.proofs.Room.{HasRoom, has_room, room_for_child, size}

parts_of_node : (n : Node) → IsNode n → AreParts (IsNodeWithin 32) n
unfolding IsNodeWithin
parts_of_node n h = h

short_value : (v : Option (List ℕ)) → size v ≤ 1024 → is_long_value v ≡ false
short_value None h = refl
short_value (Some s) h = not_long (length s) h
  where
    not_long : (k : ℕ) → k ≤ 1024 → nat_lt 4194304 k ≡ false
    not_long k h = grind arith

child_not_deep : (deep : Node → Bool) (c : Option (List ℕ)) → IsText c → ((m : Node) → IsNode m → length (spelling m) ≤ size c → deep m ≡ false)
    → child_too_deep deep c ≡ false
child_not_deep deep None text each = refl
child_not_deep deep (Some c) text each =
    elim (cases_lt (length c) 32) [
      | inl short ↦ by_reading short (node_of_bytes c) refl
      | inr long ↦ let full : nat_lt (length c) 32 ≡ false = grind arith in rw full refl
    ]
  where
    by_reading : length c < 32 → (r : Result Node CodecFault) → node_of_bytes c ≡ r → child_too_deep deep (Some c) ≡ false
    by_reading short (Ok m) read =
        let was : IsNode m × (c ≡ spelling m) = whole_was_written m c text.1 read in
        sym (inline_deep deep c m short read) ∙ each m was.0 (omega (arith, ap length was.1))
    by_reading short (Err f) read = sym (inline_unread deep c f short read)

none_of_children : (deep : Node → Bool) (cs : List (Option (List ℕ)))
    → (has_child cs ≡ true → (i : ℕ) → i < length cs → child_too_deep deep (get_or cs i None) ≡ false) → list_any (child_too_deep deep) cs ≡ false
none_of_children deep cs each = by_kind (has_child cs) refl
  where
    by_kind : (b : Bool) → has_child cs ≡ b → list_any (child_too_deep deep) cs ≡ false
    by_kind false childless = sym (none_deep deep cs childless)
    by_kind true some = list_any_none (child_too_deep deep) cs (All-from_get_or (λ c. child_too_deep deep c ≡ false) cs None (each some))

few_bytes : (levels at : ℕ) (n : Node) → IsNode n → at + 2 * length (spelling n) ≤ 2048 → too_deep levels at n ≡ false
unfolding too_deep
few_bytes zero at n is few = refl
few_bytes (suc levels) at n is few =
    let parts : AreParts (IsNodeWithin 32) n = parts_of_node n is in
    let room : HasRoom n = has_room n parts.shaped in
    let deep : Node → Bool = too_deep levels (at + length n.partial + 1) in
    let value : is_long_value n.value ≡ false = short_value n.value (omega arith) in
    let each : has_child n.children ≡ true → (i : ℕ) → i < length n.children → child_too_deep deep (get_or n.children i None) ≡ false = λ some i within.
    child_not_deep deep (get_or n.children i None) (All-get_or IsText n.children i None within parts.texts)
    (λ m node less. few_bytes levels (at + length n.partial + 1) m node (omega (arith, room_for_child n some i))) in
    ap (λ b. b || list_any (child_too_deep deep) n.children) (not_past at (length n.partial) (is_long_value n.value) (omega arith) value)
    ∙ none_of_children deep n.children each

-- a node that was read from few bytes doesn't hang too deep
pub read_not_deep : (levels at : ℕ) (bytes : List ℕ) (n : Node) → All (λ b. b < 256) bytes → node_of_bytes bytes ≡ Ok n → at + 2 * length bytes ≤ 2048
    → too_deep levels at n ≡ false
read_not_deep levels at bytes n all e few =
    let was : IsNode n × (bytes ≡ spelling n) = whole_was_written n bytes all e in
    few_bytes levels at n was.0 (omega (arith, ap length was.1))
