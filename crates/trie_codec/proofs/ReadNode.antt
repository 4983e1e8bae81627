-- A node that was read.
use Rattle.std.proofs.Common.{◌≡◌, inl, ℕ, ◌<◌, ◌≤◌, Bool, true, false, cond, List, [], ◌∷◌, ◌++◌, None, Ok, refl, sym, ap, subst, ◌∙◌, arith, lit≤}
use Rattle.std.specs.Prelude.{◌==◌}
use Rattle.std.proofs.lemmas.Bool.Decides.{nat_tests}
use Rattle.std.proofs.lemmas.List.Elements.{All-nil, All-replicate}
use Rattle.trie_model.specs.Nibbles.{packed}
use Rattle.trie_model.specs.Node.{AreParts, IsChild, IsPartial, IsText, Node, empty_node, header, spelling}
use Rattle.trie_codec.specs.Reading.{Header, ◌>>=◌, first_body, first_branch, first_header, first_leaf, first_node, first_partial}
use Rattle.trie_codec.proofs.ReadSteps.{AreBytes, value_is, both_gave, bytes_in_parts}
use Rattle.trie_codec.proofs.ReadHeader.{IsHeader, header_read}
use Rattle.trie_codec.proofs.ReadPartial.{IsKey, partial_read}
use Rattle.trie_codec.proofs.ReadChildren.{IsSound}
use Rattle.trie_codec.proofs.ReadLeaf.{IsNodeBehind, leaf_read}
use Rattle.trie_codec.proofs.ReadBranch.{branch_read}

-- the bytes begin with a node, and the rest follows
pub record IsNodeIn (P : Node → Type 0) (bytes : List ℕ) (x : Node × List ℕ) : Type 0 where
  pub parts : AreParts P x.0
  pub spelled : bytes ≡ spelling x.0 ++ x.1

nothing_read : (P : Node → Type 0) (bytes rest : List ℕ) → bytes ≡ 0 ∷ rest → IsNodeIn P bytes (empty_node, rest)
unfolding spelling
nothing_read P bytes rest e = record {
  parts = record {
    partial = record { nibbles = All-nil (λ n. n < 16); short = lit≤ tt };
    value = tt;
    sixteen = refl;
    texts = All-replicate IsText 16 None tt;
    children = All-replicate (IsChild P) 16 None tt;
    shaped = inl refl;
  };
  spelled = e;
}

-- a leaf or branch with its header and its partial key
with_front : (P : Node → Type 0) (h : Header) (bytes rest : List ℕ) (key : List ℕ × List ℕ) (x : Node × List ℕ) → bytes ≡ header h.0 h.1 ++ rest → IsKey h.1 rest key
    → IsNodeBehind P h.0 key.0 key.1 x → IsNodeIn P bytes x
with_front P h bytes rest key x headed key_is body = record {
  parts = body.parts;
  spelled = headed ∙ ap (λ l. header h.0 h.1 ++ l) key_is.spelled ∙ ap (λ k. header h.0 k ++ (packed key.0 ++ key.1)) (sym key_is.count) ∙ body.spelled;
}

by_kind : (reads : List ℕ → Bool) (P : Node → Type 0) → IsSound reads P → (first : Bool) (kind : ℕ) (partial bytes : List ℕ) (x : Node × List ℕ)
    → AreBytes bytes → 1 ≤ kind → kind ≤ 3 → IsPartial partial → (kind == 1) ≡ first
    → cond first (first_leaf partial bytes) (first_branch reads kind partial bytes) ≡ Ok x → IsNodeBehind P kind partial bytes x
by_kind reads P sound true kind partial bytes x all least most few is e =
    let one : 1 ≡ kind = grind (arith, nat_tests) in
    subst (λ k. IsNodeBehind P k partial bytes x) one (leaf_read P partial bytes x all few e)
by_kind reads P sound false kind partial bytes x all least most few is e =
    branch_read reads P sound kind partial bytes x all (grind (arith, nat_tests)) most few e

rest_by : (none : Bool) (bytes : List ℕ) (h : Header × List ℕ) → AreBytes bytes → IsHeader bytes h → (h.0.0 == 0) ≡ none → AreBytes h.1
rest_by true bytes h all is_header is = (bytes_in_parts bytes (0 ∷ []) h.1 all (is_header.nothing (grind (arith, nat_tests)))).1
rest_by false bytes h all is_header is =
    let some : h.0.0 ≡ 0 → ⊥ = grind (arith, nat_tests) in
    (bytes_in_parts bytes (header h.0.0 h.0.1) h.1 all (is_header.something some)).1

rest_after_header : (bytes : List ℕ) (h : Header × List ℕ) → AreBytes bytes → IsHeader bytes h → AreBytes h.1
rest_after_header bytes h all is_header = rest_by (h.0.0 == 0) bytes h all is_header refl

body_read : (reads : List ℕ → Bool) (P : Node → Type 0) → IsSound reads P → (none : Bool) (bytes : List ℕ) (h : Header × List ℕ) (x : Node × List ℕ)
    → AreBytes h.1 → IsHeader bytes h → (h.0.0 == 0) ≡ none
    → cond none (Ok (empty_node, h.1)) (first_partial h.0.1 h.1 >>= λ key. cond (h.0.0 == 1) (first_leaf key.0 key.1) (first_branch reads h.0.0 key.0 key.1)) ≡ Ok x
    → IsNodeIn P bytes x
body_read reads P sound true bytes h x all is_header is e =
    subst (IsNodeIn P bytes) (value_is (empty_node, h.1) x e) (nothing_read P bytes h.1 (is_header.nothing (grind (arith, nat_tests))))
body_read reads P sound false bytes h x all is_header is e =
    let (key, partial_is, body) = both_gave (first_partial h.0.1 h.1) (λ key. cond (h.0.0 == 1) (first_leaf key.0 key.1) (first_branch reads h.0.0 key.0 key.1)) x e in
    let is_key = partial_read h.0.1 h.1 key all is_header.few partial_is in
    let some : h.0.0 ≡ 0 → ⊥ = grind (arith, nat_tests) in
    let after = (bytes_in_parts h.1 (packed key.0) key.1 all is_key.spelled).1 in
    let kind = h.0.0 in
    with_front P h.0 bytes h.1 key x (is_header.something some) is_key
    (by_kind reads P sound (kind == 1) kind key.0 key.1 x after (omega arith) is_header.known is_key.partial refl body)

body_of : (reads : List ℕ → Bool) (P : Node → Type 0) → IsSound reads P → (bytes : List ℕ) (h : Header × List ℕ) (x : Node × List ℕ)
    → AreBytes bytes → IsHeader bytes h → first_body reads h.0 h.1 ≡ Ok x → IsNodeIn P bytes x
body_of reads P sound bytes h x all is_header e = body_read reads P sound (h.0.0 == 0) bytes h x (rest_after_header bytes h all is_header) is_header refl e

pub node_read : (reads : List ℕ → Bool) (P : Node → Type 0) → IsSound reads P → (bytes : List ℕ) (x : Node × List ℕ) → AreBytes bytes
    → first_node reads bytes ≡ Ok x → IsNodeIn P bytes x
unfolding first_node
node_read reads P sound bytes x all e =
    let (h, header_is, body) = both_gave (first_header bytes) (λ h. first_body reads h.0 h.1) x e in
    body_of reads P sound bytes h x all (header_read bytes h all header_is) body
