-- A leaf that was read after its partial key.
use Rattle.std.proofs.Common.{◌≡◌, inr, ℕ, List, ◌++◌, length, Some, None, Ok, refl, ap, subst, lit≤}
use Rattle.std.proofs.lemmas.List.{append_assoc}
use Rattle.std.proofs.lemmas.List.Elements.{All-replicate}
use Rattle.sdb_scale.specs.Compact.{string}
use Rattle.trie_model.specs.Nibbles.{packed}
use Rattle.trie_model.specs.Node.{AreParts, IsChild, IsPartial, IsText, Node, empty_node, header, spelling}
use Rattle.trie_codec.specs.Reading.{first_leaf, first_string}
use Rattle.trie_codec.proofs.ReadSteps.{AreBytes, value_is, both_gave}
use Rattle.trie_codec.proofs.ReadString.{string_read}

-- the bytes after a partial key are the rest of a node of that kind, and what follows it
pub record IsNodeBehind (P : Node → Type 0) (kind : ℕ) (partial bytes : List ℕ) (x : Node × List ℕ) : Type 0 where
  pub parts : AreParts P x.0
  pub spelled : header kind (length partial) ++ (packed partial ++ bytes) ≡ spelling x.0 ++ x.1

pub leaf_read : (P : Node → Type 0) (partial bytes : List ℕ) (x : Node × List ℕ) → AreBytes bytes → IsPartial partial → first_leaf partial bytes ≡ Ok x
    → IsNodeBehind P 1 partial bytes x
unfolding spelling
leaf_read P partial bytes x all few e =
    let leaf : List ℕ × List ℕ → Node × List ℕ = λ v. (record { partial = partial; value = Some v.0; children = empty_node.children }, v.1) in
    let (v, string_is, gave) = both_gave (first_string bytes) (λ v. Ok (leaf v)) x e in
    let text = string_read bytes v all string_is in
    subst (IsNodeBehind P 1 partial bytes) (value_is (leaf v) x gave) (record {
      parts = record {
        partial = few;
        value = (text.short, text.text);
        sixteen = refl;
        texts = All-replicate IsText 16 None tt;
        children = All-replicate (IsChild P) 16 None tt;
        shaped = inr (lit≤ tt, λ has. absurd (cc));
      };
      spelled = rw (append_assoc (header 1 (length partial)) (packed partial ++ string v.0) v.1, append_assoc (packed partial) (string v.0) v.1)
          (ap (λ l. header 1 (length partial) ++ (packed partial ++ l)) text.spelled);
    })
