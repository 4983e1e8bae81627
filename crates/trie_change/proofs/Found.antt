-- Nodes and paths that a list has, and tests that keep nothing of it.
use Rattle.std.proofs.Common.{◌≡◌, ℕ, Bool, true, false, cond, List, [], ◌∷◌, refl, ap, ap₂, sym, ◌∙◌, inl, inr}
use Rattle.std.specs.Prelude.{◌&&◌, ◌||◌, filter}
use Rattle.std.specs.Str.{bytes_eq}
use Rattle.std.proofs.lemmas.Slice.Eq.{bytes_eq-Decides}
use Rattle.trie_model.specs.Nodes.{PathNode, has_node, has_path}
use Rattle.trie_read.proofs.Among.{Among}

or_true : (b : Bool) → (b || true) ≡ true
or_true true = refl
or_true false = refl

pub path_found : (ns : List PathNode) (path : List ℕ) → has_path ns path ≡ true → (o : PathNode) × (o.path ≡ path) × Among o ns
path_found [] path e = absurd cc
path_found (n ∷ ns) path e = by_test (path_found ns path) (bytes_eq n.path path) refl
  where
    by_test : (has_path ns path ≡ true → (o : PathNode) × (o.path ≡ path) × Among o ns)
        → (b : Bool) → bytes_eq n.path path ≡ b → (o : PathNode) × (o.path ≡ path) × Among o (n ∷ ns)
    by_test more true h = (n, (bytes_eq-Decides n.path path).0 h, inl refl)
    by_test more false h =
        let further : (o : PathNode) × (o.path ≡ path) × Among o ns = more (sym (ap (λ b. b || has_path ns path) h) ∙ e) in
        (further.0, further.1, inr further.2)

pub has_its_path : (ns : List PathNode) (n : PathNode) → Among n ns → has_path ns n.path ≡ true
has_its_path [] n a = absurd a
has_its_path (o ∷ ns) n (inl e) =
    ap (λ b. b || has_path ns n.path) ((bytes_eq-Decides o.path n.path).1 (ap (λ (x : PathNode). x.path) e))
has_its_path (o ∷ ns) n (inr a) = ap (λ b. bytes_eq o.path n.path || b) (has_its_path ns n a) ∙ or_true (bytes_eq o.path n.path)

pub has_it : (ns : List PathNode) (n : PathNode) → Among n ns → has_node ns n ≡ true
has_it [] n a = absurd a
has_it (o ∷ ns) n (inl e) =
    ap₂ (λ (a b : Bool). (a && b) || has_node ns n) ((bytes_eq-Decides o.path n.path).1 (ap (λ (x : PathNode). x.path) e))
    ((bytes_eq-Decides o.bytes n.bytes).1 (ap (λ (x : PathNode). x.bytes) e))
has_it (o ∷ ns) n (inr a) =
    ap (λ b. (bytes_eq o.path n.path && bytes_eq o.bytes n.bytes) || b) (has_it ns n a)
    ∙ or_true (bytes_eq o.path n.path && bytes_eq o.bytes n.bytes)

pub nothing_kept : (test : PathNode → Bool) (ns : List PathNode) → ((n : PathNode) → Among n ns → test n ≡ false) → filter test ns ≡ []
nothing_kept test [] none = refl
nothing_kept test (n ∷ ns) none =
    ap (λ b. cond b (n ∷ filter test ns) (filter test ns)) (none n (inl refl)) ∙ nothing_kept test ns (λ o a. none o (inr a))
