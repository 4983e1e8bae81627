-- A node that a search doesn't go into is not for its answer.
use Rattle.std.proofs.Common.{◌≡◌, ℕ, Bool, true, false, List, [], ◌∷◌, Option, Some, None, refl, ap, ap₂, subst, sym, ◌∙◌, inl}
use Rattle.std.specs.Prelude.{◌||◌, filter, is_some, nat_eq}
use Rattle.std.specs.List.{starts_with}
use Rattle.sdb_base.specs.Nibbles.{nibbles_of}
use Rattle.trie_model.specs.Fetches.{keys_of_state, next_key, on_the_way_if}
use Rattle.trie_model.specs.Nodes.{PathNode}
use Rattle.trie_model.specs.State.{State}
use Rattle.trie_model.specs.Trie.{after_prefix}
use Rattle.trie_read.specs.Searches.{is_for_next}
use Rattle.trie_read.specs.inner.Parts.{is_above, leads_above}
use Rattle.trie_read.proofs.AboveNibbles.{above_closed, nibbles_above}
use Rattle.trie_read.proofs.Among.{Among, among_kept}
use Rattle.trie_read.proofs.KeysAbove.{head_of, next_is_first}
use Rattle.trie_read.proofs.Ways.{follows, put_back}

module _ (m : State) (key : List ℕ) where
  head_kept : (test : List ℕ → Bool) (ks : List (List ℕ)) (k : List ℕ) → head_of (filter test ks) ≡ Some k → test k ≡ true
  head_kept test ks k e = first (filter test ks) refl e
    where
      first : (ls : List (List ℕ)) → filter test ks ≡ ls → head_of ls ≡ Some k → test k ≡ true
      first [] h x = let no : None ≡ Some k = x in absurd cc
      first (l ∷ ls) h x = let is : l ≡ k = cc in (among_kept k test ks (subst (λ (ys : List (List ℕ)). Among k ys) (sym h) (inl is))).1

  pub far_fails : (n : PathNode) → leads_above (nibbles_of key) n.path ≡ false → is_for_next m key n ≡ false
  far_fails n far = ap₂ (λ a b. a || b) (either (starts_with nat_eq (nibbles_of key) n.path) (is_above (nibbles_of key) n.path) far) (next (next_key m key) refl)
    where
      either : (a b : Bool) → (a || b) ≡ false → a ≡ false
      either true b e = let no : true ≡ false = e in absurd cc
      either false b e = refl

      next : (o : Option (List ℕ)) → next_key m key ≡ o → on_the_way_if o n ≡ false
      next None e = refl
      next (Some k) e = follows n.path (nibbles_of k) ∙ on (after_prefix n.path (nibbles_of k)) refl
        where
          on : (r : Option (List ℕ)) → after_prefix n.path (nibbles_of k) ≡ r → is_some r ≡ false
          on None h = refl
          on (Some r) h =
              let not : is_above (nibbles_of key) (nibbles_of k) ≡ false =
              ap (is_above (nibbles_of key)) (sym (put_back n.path (nibbles_of k) r h)) ∙ (above_closed (nibbles_of key)).keys n.path r far in
              let no : true ≡ false = sym (nibbles_above key k ∙ head_kept (is_above key) (keys_of_state m) k (sym (next_is_first m key) ∙ e)) ∙ not in absurd cc
