-- A header that was read.
use Rattle.std.proofs.Common.{◌≡◌, ℕ, suc, ◌+◌, ◌-◌, ◌*◌, ◌/◌, ◌%◌, ◌<◌, ◌≤◌, Bool, true, false, cond, List, [], ◌∷◌, ◌++◌, Ok, Err, refl, ap, subst, append_assoc, arith}
use Rattle.std.specs.Prelude.{replicate, nat_lt, ◌==◌}
use Rattle.std.proofs.lemmas.Bool.Decides.{nat_tests}
use Rattle.std.proofs.lemmas.List.Elements.{All-head, All-tail}
use Rattle.trie_model.specs.Node.{header}
use Rattle.trie_codec.specs.declared.fault.CodecFault.TheVariants.{BadHeader}
use Rattle.trie_codec.specs.Reading.{Header, ◌>>=◌, first_count, first_header, most_nibbles}
use Rattle.trie_codec.proofs.ReadSteps.{AreBytes, value_is, both_gave, no_fault}

-- the bytes add so many to a count, and the rest follows
pub record IsCount (from : ℕ) (bytes : List ℕ) (x : ℕ × List ℕ) : Type 0 where
  pub most : x.0 ≤ 2048
  pub least : from ≤ x.0
  pub spelled : bytes ≡ replicate ((x.0 - from) / 255) 255 ++ (((x.0 - from) % 255) ∷ x.1)

counted : (t : Bool) (n b : ℕ) (bs : List ℕ) (x : ℕ × List ℕ) → b < 256 → n + b ≤ 2048 → (b == 255) ≡ t
    → (first_count (n + 255) bs ≡ Ok x → IsCount (n + 255) bs x)
    → cond t (first_count (n + 255) bs) (Ok (n + b, bs)) ≡ Ok x → IsCount n (b ∷ bs) x
counted true n b bs x byte few full deeper e =
    let after = deeper e in
    let from : n + 255 ≤ x.0 = after.least in
    let is : b ≡ 255 = grind (arith, nat_tests) in
    let times : (x.0 - n) / 255 ≡ suc ((x.0 - (n + 255)) / 255) = omega arith in
    let over : (x.0 - n) % 255 ≡ (x.0 - (n + 255)) % 255 = omega arith in
    record { most = after.most; least = omega arith; spelled = rw (times, over, is) (ap (λ (l : List ℕ). 255 ∷ l) after.spelled) }
counted false n b bs x byte few other deeper e =
    let less : b < 255 = grind (arith, nat_tests) in
    let times : (n + b - n) / 255 ≡ 0 = omega arith in
    let over : (n + b - n) % 255 ≡ b = omega arith in
    subst (λ (z : ℕ × List ℕ). IsCount n (b ∷ bs) z) (value_is (n + b, bs) x e)
    (record { most = few; least = omega arith; spelled = rw (times, over) refl })

pub count_read : (bytes : List ℕ) (n : ℕ) (x : ℕ × List ℕ) → AreBytes bytes → first_count n bytes ≡ Ok x → IsCount n bytes x
unfolding first_count
count_read [] n x all e = absurd (cc)
count_read (b ∷ bs) n x all e =
    let (fits, read) = no_fault (nat_lt most_nibbles (n + b)) BadHeader (cond (b == 255) (first_count (n + 255) bs) (Ok (n + b, bs))) x e in
    let few : n + b ≤ 2048 = grind (arith, nat_tests) in
    counted (b == 255) n b bs x (All-head (λ b. b < 256) b bs all) few refl
    (λ h. count_read bs (n + 255) x (All-tail (λ b. b < 256) b bs all) h) read

-- the bytes begin with the header, and the rest follows; kind 0 is the node of the empty trie
pub record IsHeader (bytes : List ℕ) (x : Header × List ℕ) : Type 0 where
  pub known : x.0.0 ≤ 3
  pub few : x.0.1 ≤ 2048
  pub nothing : x.0.0 ≡ 0 → bytes ≡ 0 ∷ x.1
  pub something : (x.0.0 ≡ 0 → ⊥) → bytes ≡ header x.0.0 x.0.1 ++ x.1

headed : (none nothing counts : Bool) (b : ℕ) (bs : List ℕ) (x : Header × List ℕ) → b < 256 → AreBytes bs
    → (b / 64 == 0) ≡ none → (b == 0) ≡ nothing → (b % 64 == 63) ≡ counts
    → cond none (cond nothing (Ok ((0, 0), bs)) (Err BadHeader))
    (cond counts (first_count 63 bs >>= (λ n. Ok ((b / 64, n.0), n.1))) (Ok ((b / 64, b % 64), bs))) ≡ Ok x
    → IsHeader (b ∷ bs) x
headed true true counts b bs x byte all no_kind zero full e =
    let is : b ≡ 0 = grind (arith, nat_tests) in
    subst (IsHeader (b ∷ bs)) (value_is ((0, 0), bs) x e)
    (record { known = omega arith; few = omega arith; nothing = λ k. rw is refl; something = λ k. absurd (k refl) })
headed true false counts b bs x byte all no_kind zero full e = absurd (cc)
headed false nothing true b bs x byte all kind zero full e =
    let (y, count, gave) = both_gave (first_count 63 bs) (λ n. Ok ((b / 64, n.0), n.1)) x e in
    let after = count_read bs 63 y all count in
    let some : b / 64 ≡ 0 → ⊥ = grind (arith, nat_tests) in
    let first : 64 * (b / 64) + 63 ≡ b = grind (arith, nat_tests) in
    let least : 63 ≤ y.0 = after.least in
    let long : nat_lt y.0 63 ≡ false = grind (arith, nat_tests) in
    let spelled : b ∷ bs ≡ header (b / 64) y.0 ++ y.1 = rw (long, first, append_assoc) (ap (λ (l : List ℕ). b ∷ l) after.spelled) in
    subst (IsHeader (b ∷ bs)) (value_is ((b / 64, y.0), y.1) x gave)
    (record { known = omega arith; few = after.most; nothing = λ k. absurd (some k); something = λ k. spelled })
headed false nothing false b bs x byte all kind zero few e =
    let some : b / 64 ≡ 0 → ⊥ = grind (arith, nat_tests) in
    let first : 64 * (b / 64) + b % 64 ≡ b = omega arith in
    let other : (b % 64 ≡ 63) → ⊥ = grind (arith, nat_tests) in
    let short : nat_lt (b % 64) 63 ≡ true = grind (arith, nat_tests) in
    let spelled : b ∷ bs ≡ header (b / 64) (b % 64) ++ bs = rw (short, first) refl in
    subst (IsHeader (b ∷ bs)) (value_is ((b / 64, b % 64), bs) x e)
    (record { known = omega arith; few = omega arith; nothing = λ k. absurd (some k); something = λ k. spelled })

pub header_read : (bytes : List ℕ) (x : Header × List ℕ) → AreBytes bytes → first_header bytes ≡ Ok x → IsHeader bytes x
unfolding first_header
header_read [] x all e = absurd (cc)
header_read (b ∷ bs) x all e =
    headed (b / 64 == 0) (b == 0) (b % 64 == 63) b bs x (All-head (λ b. b < 256) b bs all) (All-tail (λ b. b < 256) b bs all) refl refl refl e
