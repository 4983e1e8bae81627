-- What parts stand for when the stored node that comes next is fed.
use Rattle.std.proofs.Common.{◌≡◌, ℕ, zero, suc, ◌≤◌, Bool, List, [], ◌∷◌, ◌++◌, map, refl, ap, sym, ◌∙◌, arith}
use Rattle.std.specs.Prelude.{Ok}
use Rattle.std.specs.List.{AllByRecursion, flat_map}
use Rattle.std.proofs.lemmas.List.Concat.{flat_map-append}
use Rattle.trie_model.specs.Node.{IsNode, Node}
use Rattle.trie_model.specs.Nodes.{PathNode, nodes_over}
use Rattle.trie_model.specs.Trie.{Suffix, below, levels_of}
use Rattle.trie_codec.specs.Reading.{node_of_bytes}
use Rattle.trie_codec.proofs.Spellings.{whole_read}
use Rattle.trie_root.proofs.Levels.{levels_above_none}
use Rattle.trie_read.specs.Paths.{node_at}
use Rattle.trie_read.specs.inner.Following.{Sound, head_at}
use Rattle.trie_read.specs.inner.Parts.{IsPiece, IsStored, OfKey, OfNode, Piece, StandFor, gone_into, keys_for, keys_under, nodes_for, nodes_under, parts_in}
use Rattle.trie_read.proofs.Depths.{first_over}
use Rattle.trie_read.proofs.Followed.{tail_alike}
use Rattle.trie_read.proofs.NextStage.{one_of}
use Rattle.trie_read.proofs.PartsOfChildren.{IsClosed}
use Rattle.trie_read.proofs.PartsOfNodes.{unfolded}
use Rattle.trie_read.proofs.Sound.{node_sound, sound_below}
use Rattle.trie_read.proofs.Standing.{gone_first, stand_as, stand_joined}

pub all_split : {X : Type 0} (P : X → Type 0) (xs ys : List X) → AllByRecursion P (xs ++ ys) → AllByRecursion P xs × AllByRecursion P ys
all_split P [] ys a = (tt, a)
all_split P (x ∷ xs) ys a = let rest : AllByRecursion P xs × AllByRecursion P ys = all_split P xs ys a.1 in ((a.0, rest.0), rest.1)

pub head_alike : (a b : PathNode) (xs ys : List PathNode) → a ∷ xs ≡ b ∷ ys → a ≡ b
head_alike a b xs ys e = cc

-- the node at a path comes first of those over it
first_of : (k : ℕ) (ss : List Suffix) (p : List ℕ) → levels_of (below p ss) ≤ k → (t : List PathNode) × (nodes_over k p (below p ss) ≡ head_at ss p ∷ t)
first_of zero ss p fits = absurd (omega (arith, levels_above_none (below p ss)))
first_of (suc d) ss p fits = (_, first_over d ss p fits)

module _ (ss : List Suffix) (keeps goes : List ℕ → Bool) where
  pub keys_found : (ks : List (List ℕ)) → flat_map (keys_for ss keeps) (map OfKey ks) ≡ ks
  keys_found [] = refl
  keys_found (k ∷ ks) = ap (λ (ls : List (List ℕ)). k ∷ ls) (keys_found ks)

  pub no_nodes_found : (ks : List (List ℕ)) → flat_map (nodes_for ss goes) (map OfKey ks) ≡ []
  no_nodes_found [] = refl
  no_nodes_found (k ∷ ks) = no_nodes_found ks

  all_found : (ks : List (List ℕ)) → AllByRecursion (IsPiece ss goes) (map OfKey ks)
  all_found [] = tt
  all_found (k ∷ ks) = (tt, all_found ks)

  -- a stored node that comes next, and the nodes under it
  pub record Ahead (h p : List ℕ) (rest : List Piece) (ns : List PathNode) : Type 0 where
    pub is : IsStored ss goes h p
    pub sound : AllByRecursion (IsPiece ss goes) rest
    pub under : List PathNode
    pub first : nodes_over (levels_of (below p ss)) p (below p ss) ≡ head_at ss p ∷ under
    pub nodes : ns ≡ head_at ss p ∷ (gone_into goes under ++ flat_map (nodes_for ss goes) rest)

  pub ahead : (ks keys : List (List ℕ)) (h p : List ℕ) (rest : List Piece) (ns : List PathNode) → StandFor ss keeps goes (map OfKey ks ++ (OfNode h p ∷ rest)) keys ns → Ahead h p rest ns
  ahead ks keys h p rest ns s =
      let us : List Suffix = below p ss in
      let split : AllByRecursion (IsPiece ss goes) (map OfKey ks) × AllByRecursion (IsPiece ss goes) (OfNode h p ∷ rest) = all_split (IsPiece ss goes) (map OfKey ks) (OfNode h p ∷ rest) s.sound in
      let is : IsStored ss goes h p = split.1.0 in
      let first : (t : List PathNode) × (nodes_over (levels_of us) p us ≡ head_at ss p ∷ t) = first_of (levels_of us) ss p (omega arith) in
      let others : List PathNode = flat_map (nodes_for ss goes) rest in
      record {
        is = is;
        sound = split.1.1;
        under = first.0;
        first = first.1;
        nodes = sym s.nodes ∙ flat_map-append (nodes_for ss goes) (map OfKey ks) (OfNode h p ∷ rest)
            ∙ ap (λ (ms : List PathNode). ms ++ (nodes_under goes p us ++ others)) (no_nodes_found ks)
            ∙ ap (λ (ms : List PathNode). ms ++ others) (ap (gone_into goes) first.1 ∙ gone_first goes (head_at ss p) first.0 is.stored is.near);
      }

  pub one_fed : Sound ss → IsClosed keeps goes → (ks keys : List (List ℕ)) (h p : List ℕ) (rest parts : List Piece) (n : PathNode) (todo : List PathNode) (found : Node)
      → StandFor ss keeps goes (map OfKey ks ++ (OfNode h p ∷ rest)) keys (n ∷ todo) → node_of_bytes n.bytes ≡ Ok found → parts ≡ parts_in keeps goes 33 found p
      → StandFor ss keeps goes (map OfKey ks ++ (parts ++ rest)) keys todo
  one_fed s closed ks keys h p rest parts n todo found stand e parts_are =
      let us : List Suffix = below p ss in
      let a : Ahead h p rest (n ∷ todo) = ahead ks keys h p rest (n ∷ todo) stand in
      let sound : IsNode (node_at ss p) = node_sound us (sound_below p ss s) in
      let list : List PathNode = gone_into goes a.under ++ flat_map (nodes_for ss goes) rest in
      let same : n ≡ head_at ss p = head_alike n (head_at ss p) todo list a.nodes in
      let others : todo ≡ list = tail_alike n (head_at ss p) todo list a.nodes in
      let is : found ≡ node_at ss p = one_of found (node_at ss p) (sym e ∙ ap (λ (x : PathNode). node_of_bytes x.bytes) same ∙ whole_read (node_at ss p) sound) in
      let here : StandFor ss keeps goes (parts_in keeps goes 33 (node_at ss p) p) (keys_under keeps p us) (gone_into goes a.under) =
      unfolded ss keeps goes 33 (levels_of us) closed s p (omega arith) (omega arith) sound a.under a.first in
      let later : List (List ℕ) = flat_map (keys_for ss keeps) rest in
      let all : StandFor ss keeps goes (map OfKey ks ++ (parts_in keeps goes 33 (node_at ss p) p ++ rest)) (ks ++ (keys_under keeps p us ++ later)) list =
      stand_joined (map OfKey ks) (parts_in keeps goes 33 (node_at ss p) p ++ rest) ks (keys_under keeps p us ++ later) [] list
      (record { sound = all_found ks; keys = keys_found ks; nodes = no_nodes_found ks })
      (stand_joined (parts_in keeps goes 33 (node_at ss p) p) rest (keys_under keeps p us) later (gone_into goes a.under) (flat_map (nodes_for ss goes) rest)
      here (record { sound = a.sound; keys = refl; nodes = refl })) in
      stand_as (map OfKey ks ++ (parts_in keeps goes 33 (node_at ss p) p ++ rest)) (map OfKey ks ++ (parts ++ rest)) (ks ++ (keys_under keeps p us ++ later)) keys list todo
      (ap (λ (x : Node). map OfKey ks ++ (parts_in keeps goes 33 x p ++ rest)) (sym is) ∙ ap (λ (ps : List Piece). map OfKey ks ++ (ps ++ rest)) (sym parts_are))
      (ap (λ (ls : List (List ℕ)). ls ++ (keys_under keeps p us ++ later)) (sym (keys_found ks))
      ∙ sym (flat_map-append (keys_for ss keeps) (map OfKey ks) (OfNode h p ∷ rest)) ∙ stand.keys)
      (sym others) all
