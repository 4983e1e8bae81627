-- Children that are spelled from the last one on.
use Rattle.std.proofs.Common.{◌≡◌, ℕ, zero, suc, ◌+◌, ◌*◌, ◌/◌, ◌%◌, ◌≤◌, true, false, Bool, List, [], ◌∷◌, ◌++◌, Option, Some, None, length, refl, sym, ap, ◌∙◌, arith, cond}
use Rattle.std.specs.Prelude.{◌==◌, nat_lt, drop}
use Rattle.std.specs.List.{flat_map}
use Rattle.std.proofs.Math.Seq.{take-append_seam, drop-append_seam}
use Rattle.std.proofs.lemmas.Bool.Decides.{nat_tests}
use Rattle.sdb_scale.specs.Compact.{compact, string}
use Rattle.trie_model.specs.Node.{bitmap, has_child, optional_string}
use Rattle.trie_codec.specs.SpelledChildren.{children_in, value_len}
use Rattle.trie_codec.proofs.Bitmaps.{no_bit}

length_by : (b : Bool) (x y : List (Option (List ℕ))) (n : ℕ) → length x ≡ n → length y ≡ n → length (cond b x y) ≡ n
length_by true x y n e f = e
length_by false x y n e f = f

-- as many children as are counted
pub length-children_in : (count map : ℕ) (bytes : List ℕ) → length (children_in count map bytes) ≡ count
length-children_in zero map bytes = refl
length-children_in (suc count) map bytes =
    length_by (map % 2 == 1) _ _ (suc count)
    (ap suc (length-children_in count (map / 2) (drop (suc (value_len bytes)) bytes)))
    (ap suc (length-children_in count (map / 2) bytes))

-- no child is put
pub none_first : (count map : ℕ) (bytes : List ℕ) → children_in (suc count) (2 * map) bytes ≡ None ∷ children_in count map bytes
none_first count map bytes =
    let even : (2 * map) % 2 ≡ 0 = omega arith in
    let half : (2 * map) / 2 ≡ map = omega arith in
    rw (even, half) refl

-- a child is put
pub some_first : (count map : ℕ) (value bytes : List ℕ)
    → children_in (suc count) (2 * map + 1) ((4 * length value) ∷ (value ++ bytes)) ≡ Some value ∷ children_in count map bytes
some_first count map value bytes =
    let odd : (2 * map + 1) % 2 ≡ 1 = omega arith in
    let half : (2 * map + 1) / 2 ≡ map = omega arith in
    let len : (4 * length value) / 4 ≡ length value = omega arith in
    rw (odd, half, len, take-append_seam value bytes) (ap (λ rest. Some value ∷ children_in count map rest) (drop-append_seam value bytes))

string_short : (s : List ℕ) → length s ≤ 32 → string s ≡ (4 * length s) ∷ s
unfolding compact
string_short s short =
    let small : nat_lt (length s) 64 ≡ true = grind (arith, nat_tests) in
    rw small refl

-- what a child is put before, and what comes of it
pub child_put : (count map : ℕ) (value old new : List ℕ) → new ≡ (4 * length value) ∷ (value ++ old)
    → children_in (count + 1) (2 * map + 1) new ≡ Some value ∷ children_in count map old
child_put count map value old new e =
    let more : count + 1 ≡ suc count = omega arith in
    rw (more, e) (some_first count map value old)

pub child_mapped : (count map : ℕ) (value old new : List ℕ) → new ≡ (4 * length value) ∷ (value ++ old)
    → bitmap (children_in count map old) ≡ map → bitmap (children_in (count + 1) (2 * map + 1) new) ≡ 2 * map + 1
child_mapped count map value old new e mapped =
    rw (child_put count map value old new e, mapped) (omega arith)

pub child_spelled : (count map : ℕ) (value old new : List ℕ) → length value ≤ 32 → new ≡ (4 * length value) ∷ (value ++ old)
    → flat_map optional_string (children_in count map old) ≡ old → flat_map optional_string (children_in (count + 1) (2 * map + 1) new) ≡ new
child_spelled count map value old new short e spelled =
    rw (child_put count map value old new e, spelled, string_short value short, e) refl

pub none_put : (count map : ℕ) (bytes : List ℕ) → children_in (count + 1) (2 * map) bytes ≡ None ∷ children_in count map bytes
none_put count map bytes =
    let more : count + 1 ≡ suc count = omega arith in
    rw more (none_first count map bytes)

pub no_child : (cs : List (Option (List ℕ))) → bitmap cs ≡ 0 → false ≡ has_child cs
no_child cs e = sym (no_bit cs e)

pub some_child : (cs : List (Option (List ℕ))) → (bitmap cs ≡ 0 → ⊥) → true ≡ has_child cs
some_child [] none = absurd (none refl)
some_child (None ∷ cs) none = some_child cs (λ e. none (omega (arith, e)))
some_child (Some c ∷ cs) none = refl

pub none_mapped : (count map : ℕ) (bytes : List ℕ) → bitmap (children_in count map bytes) ≡ map
    → bitmap (children_in (count + 1) (2 * map) bytes) ≡ 2 * map
none_mapped count map bytes mapped = ap bitmap (none_put count map bytes) ∙ omega (arith, mapped)

pub none_spelled : (count map : ℕ) (bytes : List ℕ) → flat_map optional_string (children_in count map bytes) ≡ bytes
    → flat_map optional_string (children_in (count + 1) (2 * map) bytes) ≡ bytes
none_spelled count map bytes spelled = ap (λ cs. flat_map optional_string cs) (none_put count map bytes) ∙ spelled
