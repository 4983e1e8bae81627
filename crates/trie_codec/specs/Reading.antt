-- Reading a node from left to right, with the first fault that is met.
use Rattle.std.specs.Prelude.{ℕ, zero, suc, ◌+◌, ◌/◌, ◌%◌, ◌==◌, ◌&&◌, nat_lt, nat_le, Bool, false, List, [], ◌∷◌, length, take, drop, if◌then◌else◌, Option, Some, None, is_ok, not, ◌||◌, Result, Ok, Err}
use Rattle.std.specs.Str.{bytes_eq}
use Rattle.std.specs.Int.{w16, w32, from_le_bytes}
use Rattle.sdb_base.specs.Nibbles.{nibbles_of}
use Rattle.trie_model.specs.Node.{Node, empty_node}
use Rattle.trie_codec.specs.declared.fault.CodecFault.{CodecFault}
use Rattle.trie_codec.specs.declared.fault.CodecFault.TheVariants.{Short, BadHeader, BadPadding, BadLength, BadBitmap, BadChild, Trailing}

-- the next step, where the one before gave a value
infixl 10 ◌>>=◌
abbrev pub ◌>>=◌ : {A B : Type 0} → Result A CodecFault → (A → Result B CodecFault) → Result B CodecFault
(Ok x) >>= f = f x
(Err e) >>= f = Err e

-- so many bytes, and what follows them
abbrev pub first_bytes : ℕ → List ℕ → Result (List ℕ × List ℕ) CodecFault
first_bytes n bytes = if nat_lt (length bytes) n then Err Short else Ok (take n bytes, drop n bytes)

-- ---- the header

-- the kind in the top two bits, and the number of nibbles
abbrev pub Header : Type 0
Header = ℕ × ℕ

-- at most so many nibbles
abbrev pub most_nibbles : ℕ
most_nibbles = 2048

-- the bytes that add to a full count, up to the first below 255; the count is refused as soon as it is too large
unfoldable pub first_count : ℕ → List ℕ → Result (ℕ × List ℕ) CodecFault
first_count n [] = Err Short
first_count n (b ∷ bs) =
    if nat_lt most_nibbles (n + b) then Err BadHeader
    else if b == 255 then first_count (n + 255) bs
    else Ok (n + b, bs)

-- a first byte with no bit of a kind is the node of the empty trie where it is 0, and no header else
unfoldable pub first_header : List ℕ → Result (Header × List ℕ) CodecFault
first_header [] = Err Short
first_header (b ∷ bs) =
    if b / 64 == 0 then (if b == 0 then Ok ((0, 0), bs) else Err BadHeader)
    else if b % 64 == 63 then (first_count 63 bs >>= (λ n. Ok ((b / 64, n.0), n.1)))
    else Ok ((b / 64, b % 64), bs)

-- ---- the partial key

-- an odd count has a zero half before its first nibble
abbrev pub checked_padding : ℕ → List ℕ → Result (List ℕ) CodecFault
checked_padding n [] = if n % 2 == 1 then Err Short else Ok []
checked_padding n (b ∷ bs) = if (n % 2 == 1) && nat_le 16 b then Err BadPadding else Ok (b ∷ bs)

-- so many nibbles
unfoldable pub first_partial : ℕ → List ℕ → Result (List ℕ × List ℕ) CodecFault
first_partial n bytes = do
  checked ← checked_padding n bytes
  found ← first_bytes ((n + 1) / 2) checked
  Ok (drop (n % 2) (nibbles_of found.0), found.1)

-- ---- byte strings

-- a number that a shorter mode can't spell
abbrev pub shortest : ℕ → ℕ → List ℕ → Result (ℕ × List ℕ) CodecFault
shortest least n rest = if nat_lt n least then Err BadLength else Ok (n, rest)

-- a compact number in its shortest mode
unfoldable pub first_length : List ℕ → Result (ℕ × List ℕ) CodecFault
first_length [] = Err Short
first_length (b ∷ bs) =
    if b % 4 == 0 then Ok (b / 4, bs)
    else if b % 4 == 1 then (first_bytes 2 (b ∷ bs) >>= λ f. shortest 64 (from_le_bytes w16 f.0 / 4) f.1)
    else if b % 4 == 2 then (first_bytes 4 (b ∷ bs) >>= λ f. shortest 16384 (from_le_bytes w32 f.0 / 4) f.1)
    else Err BadLength

-- a byte string after its length
unfoldable pub first_string : List ℕ → Result (List ℕ × List ℕ) CodecFault
first_string bytes = first_length bytes >>= λ n. first_bytes n.0 n.1

-- ---- children

-- the spelling of the node of the empty trie
abbrev pub is_nothing : List ℕ → Bool
is_nothing bytes = bytes_eq bytes (0 ∷ [])

-- how many of the low n bits are set
abbrev pub bits_set : ℕ → ℕ → ℕ
bits_set map zero = 0
bits_set map (suc n) = map % 2 + bits_set (map / 2) n

-- a child's Merkle value: a hash of 32 bytes, or 1 to 31 bytes that read as a leaf or branch
abbrev pub first_child : (List ℕ → Bool) → List ℕ → Result (List ℕ × List ℕ) CodecFault
first_child reads bytes = do
  n ← first_length bytes
  len ← (if (n.0 == 0) || nat_lt 32 n.0 then Err BadChild else Ok n.0)
  found ← first_bytes len n.1
  if nat_lt len 32 && not (reads found.0) then Err BadChild else Ok found

-- the children of the low n bits of a bitmap
unfoldable pub first_children : (List ℕ → Bool) → ℕ → ℕ → List ℕ → Result (List (Option (List ℕ)) × List ℕ) CodecFault
first_children reads zero map bytes = Ok ([], bytes)
first_children reads (suc n) map bytes =
    if map % 2 == 1 then (do
      first ← first_child reads bytes
      others ← first_children reads n (map / 2) first.1
      Ok (Some first.0 ∷ others.0, others.1))
    else (do
      others ← first_children reads n (map / 2) bytes
      Ok (None ∷ others.0, others.1))

-- ---- a node

abbrev pub first_leaf : List ℕ → List ℕ → Result (Node × List ℕ) CodecFault
first_leaf partial bytes = do
  value ← first_string bytes
  Ok (record { partial = partial; value = Some value.0; children = empty_node.children }, value.1)

-- the value of a branch, which one of kind 3 has
abbrev pub first_value : ℕ → List ℕ → Result (Option (List ℕ) × List ℕ) CodecFault
first_value kind bytes = if kind == 3 then (first_string bytes >>= λ v. Ok (Some v.0, v.1)) else Ok (None, bytes)

-- the bitmap of a branch: a child at least, and of kind 2, which has no value, two
abbrev pub first_bitmap : ℕ → List ℕ → Result (ℕ × List ℕ) CodecFault
first_bitmap kind bytes = do
  two ← first_bytes 2 bytes
  map ← (let map = from_le_bytes w16 two.0 in
      if (map == 0) || ((bits_set map 16 == 1) && (kind == 2)) then Err BadBitmap else Ok map)
  Ok (map, two.1)

abbrev pub first_branch : (List ℕ → Bool) → ℕ → List ℕ → List ℕ → Result (Node × List ℕ) CodecFault
first_branch reads kind partial bytes = do
  map ← first_bitmap kind bytes
  value ← first_value kind map.1
  children ← first_children reads 16 map.0 value.1
  Ok (record { partial = partial; value = value.0; children = children.0 }, children.1)

abbrev pub first_body : (List ℕ → Bool) → Header → List ℕ → Result (Node × List ℕ) CodecFault
first_body reads header bytes =
    if header.0 == 0 then Ok (empty_node, bytes)
    else (do
      partial ← first_partial header.1 bytes
      if header.0 == 1 then first_leaf partial.0 partial.1 else first_branch reads header.0 partial.0 partial.1)

-- a node, and what follows it
unfoldable pub first_node : (List ℕ → Bool) → List ℕ → Result (Node × List ℕ) CodecFault
first_node reads bytes = first_header bytes >>= λ h. first_body reads h.0 h.1

-- all of the bytes are a node
abbrev pub whole : Result (Node × List ℕ) CodecFault → Result Node CodecFault
whole found = found >>= λ f. if length f.1 == 0 then Ok f.0 else Err Trailing

-- whether bytes read as a leaf or branch, with inline children at most so many levels deep
unfoldable pub reads_inline : ℕ → List ℕ → Bool
reads_inline zero bytes = false
reads_inline (suc depth) bytes = is_ok (whole (first_node (reads_inline depth) bytes)) && not (is_nothing bytes)

-- The node that all of the bytes spell, or the first fault from the left. An inline child has fewer than 32 bytes and
-- holds its own children in them, so that more levels than 32 don't fit.
unfoldable pub node_of_bytes : List ℕ → Result Node CodecFault
node_of_bytes bytes = whole (first_node (reads_inline 32) bytes)
