-- What is read was written, with inline children as deep as they come.
use Rattle.std.proofs.Common.{◌≡◌, ℕ, zero, suc, ◌<◌, Bool, true, false, cond, List, [], ◌∷◌, ◌++◌, length, All, Result, Ok, Err, refl, ◌∙◌, arith}
use Rattle.std.specs.Prelude.{◌==◌, ◌&&◌, not, is_ok}
use Rattle.std.proofs.lemmas.Bool.Decides.{nat_tests}
use Rattle.std.proofs.lemmas.List.{append-nil, nil_from_length}
use Rattle.std.proofs.lemmas.Slice.Eq.{bytes_eq-Decides}
use Rattle.trie_model.specs.Node.{AreParts, IsNode, IsNodeWithin, Node, spelling}
use Rattle.trie_codec.specs.declared.fault.CodecFault.{CodecFault}
use Rattle.trie_codec.specs.declared.fault.CodecFault.TheVariants.{Trailing}
use Rattle.trie_codec.specs.Reading.{is_nothing, first_node, node_of_bytes, reads_inline, whole}
use Rattle.trie_codec.proofs.ReadSteps.{AreBytes, value_is}
use Rattle.trie_codec.proofs.ReadChildren.{IsSound}
use Rattle.trie_codec.proofs.ReadNode.{node_read}

both_true : (a b : Bool) → (a && b) ≡ true → (a ≡ true) × (b ≡ true)
both_true true b e = (refl, e)
both_true false b e = absurd (cc)

ok_gave : {A : Type 0} (r : Result A CodecFault) → is_ok r ≡ true → (x : A) × (r ≡ Ok x)
ok_gave (Ok x) e = (x, refl)
ok_gave (Err f) e = absurd (cc)

if_so : {A : Type 0} (test : Bool) (read : Result A CodecFault) (f : CodecFault) (x : A) → cond test read (Err f) ≡ Ok x → (test ≡ true) × (read ≡ Ok x)
if_so true read f x e = (refl, e)
if_so false read f x e = absurd (cc)

-- nothing follows what is read of all bytes
nothing_after : (found : Result (Node × List ℕ) CodecFault) (n : Node) → whole found ≡ Ok n → found ≡ Ok (n, [])
nothing_after (Ok f) n e =
    let (ends, read) = if_so (length f.1 == 0) (Ok f.0) Trailing n e in
    let same : f.0 ≡ n = value_is f.0 n read in
    let none : f.1 ≡ [] = nil_from_length f.1 (grind (arith, nat_tests)) in
    λ i. Ok (same i, none i)
nothing_after (Err f) n e = absurd (cc)

-- of all bytes
pub all_read : (reads : List ℕ → Bool) (P : Node → Type 0) → IsSound reads P → (bytes : List ℕ) (n : Node) → AreBytes bytes
    → whole (first_node reads bytes) ≡ Ok n → AreParts P n × (bytes ≡ spelling n)
all_read reads P sound bytes n all e =
    let is = node_read reads P sound bytes (n, []) all (nothing_after (first_node reads bytes) n e) in
    (is.parts, is.spelled ∙ append-nil (spelling n))

-- an inline child reads with one level fewer
one_deeper : (d : ℕ) → IsSound (reads_inline d) (IsNodeWithin d) → IsSound (reads_inline (suc d)) (IsNodeWithin (suc d))
unfolding reads_inline IsNodeWithin
one_deeper d sound c all e =
    let (reads, other) = both_true (is_ok (whole (first_node (reads_inline d) c))) (not (is_nothing c)) e in
    let (n, read) = ok_gave (whole (first_node (reads_inline d) c)) reads in
    let (parts, spelled) = all_read (reads_inline d) (IsNodeWithin d) sound c n all read in
    (n, parts, spelled, (λ none. let is : is_nothing c ≡ true = (bytes_eq-Decides c (0 ∷ [])).1 (spelled ∙ none) in absurd (cc)))

pub inline_reads : (d : ℕ) → IsSound (reads_inline d) (IsNodeWithin d)
unfolding reads_inline
inline_reads zero c all e = absurd (cc)
inline_reads (suc d) c all e = one_deeper d (inline_reads d) c all e

pub front_was_written : (n : Node) (bytes rest : List ℕ) → All (λ b. b < 256) bytes → first_node (reads_inline 32) bytes ≡ Ok (n, rest)
    → IsNode n × (bytes ≡ spelling n ++ rest)
unfolding IsNodeWithin
front_was_written n bytes rest all e =
    let is = node_read (reads_inline 32) (IsNodeWithin 32) (inline_reads 32) bytes (n, rest) all e in
    (is.parts, is.spelled)

pub whole_was_written : (n : Node) (bytes : List ℕ) → All (λ b. b < 256) bytes → node_of_bytes bytes ≡ Ok n → IsNode n × (bytes ≡ spelling n)
unfolding IsNodeWithin node_of_bytes
whole_was_written n bytes all e = all_read (reads_inline 32) (IsNodeWithin 32) (inline_reads 32) bytes n all e
