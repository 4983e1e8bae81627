-- Lists that are split in two.
use Rattle.std.proofs.Common.{◌≡◌, Bool, true, false, cond, List, [], ◌∷◌, ◌++◌, refl, ap, subst, ◌∙◌, inl, inr}
use Rattle.std.specs.Prelude.{IsPermutation, filter}
use Rattle.std.specs.List.{AllByRecursion}
use Rattle.std.proofs.lemmas.List.Sorted.{IsPermutation-cons, IsPermutation-middle, IsPermutation-refl, IsPermutation-trans}
use Rattle.trie_model.specs.Nodes.{PathNode}
use Rattle.trie_read.proofs.Among.{Among}
use Rattle.trie_change.specs.inner.Stages.{IsSplit, both_end, to_left, to_right}

-- one of the right goes to the left
pub record IsMoved (ns ls rs : List PathNode) (n : PathNode) : Type 0 where
  pub with : List PathNode
  pub split : IsSplit ns with rs
  pub same : IsPermutation with (n ∷ ls)

nothing_there : (front back : List PathNode) (n : PathNode) → [] ≡ front ++ n ∷ back → ⊥
nothing_there [] back n e = cc
nothing_there (x ∷ front) back n e = cc

moved_left : (n m : PathNode) (ns ls rs : List PathNode) → IsMoved ns ls rs n → IsMoved (m ∷ ns) (m ∷ ls) rs n
moved_left n m ns ls rs d = record {
  with = m ∷ d.with;
  split = to_left m ns d.with rs d.split;
  same = IsPermutation-trans (m ∷ d.with) (m ∷ (n ∷ ls)) (n ∷ (m ∷ ls)) (IsPermutation-cons m d.with (n ∷ ls) d.same) (IsPermutation-middle (m ∷ []) n ls);
}

moved_right : (front back : List PathNode) (n m : PathNode) (ns ls rs : List PathNode) → IsSplit ns ls rs
    → ((f : List PathNode) → rs ≡ f ++ n ∷ back → IsMoved ns ls (f ++ back) n) → m ∷ rs ≡ front ++ n ∷ back → IsMoved (m ∷ ns) ls (front ++ back) n
moved_right [] back n m ns ls rs s further e =
    let one : m ≡ n = cc in let rest : rs ≡ back = cc in record {
      with = m ∷ ls;
      split = to_left m ns ls back (subst (λ (xs : List PathNode). IsSplit ns ls xs) rest s);
      same = subst (λ (x : PathNode). IsPermutation (m ∷ ls) (x ∷ ls)) one (IsPermutation-refl (m ∷ ls));
    }
moved_right (f ∷ front) back n m ns ls rs s further e =
    let one : m ≡ f = cc in let rest : rs ≡ front ++ n ∷ back = cc in
    let d : IsMoved ns ls (front ++ back) n = further front rest in record {
      with = d.with;
      split = subst (λ (x : PathNode). IsSplit (m ∷ ns) d.with (x ∷ (front ++ back))) one (to_right m ns d.with (front ++ back) d.split);
      same = d.same;
    }

pub one_moved : (back : List PathNode) (n : PathNode) (front ns ls rs : List PathNode) → IsSplit ns ls rs → rs ≡ front ++ n ∷ back → IsMoved ns ls (front ++ back) n
one_moved back n front ns ls rs both_end e = absurd (nothing_there front back n e)
one_moved back n front ns ls rs (to_left m xs ys zs s) e = moved_left n m xs ys (front ++ back) (one_moved back n front xs ys zs s e)
one_moved back n front ns ls rs (to_right m xs ys zs s) e = moved_right front back n m xs ys zs s (λ f h. one_moved back n f xs ys zs s h) e

-- all on the right
pub all_right : (ns : List PathNode) → IsSplit ns [] ns
all_right [] = both_end
all_right (n ∷ ns) = to_right n ns [] ns (all_right ns)

-- what is on the right is there
pub right_there : (n : PathNode) (ns ls rs : List PathNode) → IsSplit ns ls rs → Among n rs → Among n ns
right_there n ns ls rs both_end a = absurd a
right_there n ns ls rs (to_left m xs ys zs s) a = inr (right_there n xs ys zs s a)
right_there n ns ls rs (to_right m xs ys zs s) (inl e) = inl e
right_there n ns ls rs (to_right m xs ys zs s) (inr a) = inr (right_there n xs ys zs s a)

-- a test that only the left pass keeps the left
pub kept_one : (test : PathNode → Bool) (n : PathNode) (ns : List PathNode) → test n ≡ true → filter test (n ∷ ns) ≡ n ∷ filter test ns
kept_one test n ns e = ap (λ b. cond b (n ∷ filter test ns) (filter test ns)) e

pub dropped_one : (test : PathNode → Bool) (n : PathNode) (ns : List PathNode) → test n ≡ false → filter test (n ∷ ns) ≡ filter test ns
dropped_one test n ns e = ap (λ b. cond b (n ∷ filter test ns) (filter test ns)) e

pub left_kept : (test : PathNode → Bool) (ns ls rs : List PathNode) → IsSplit ns ls rs → AllByRecursion (λ (n : PathNode). test n ≡ true) ls
    → AllByRecursion (λ (n : PathNode). test n ≡ false) rs → filter test ns ≡ ls
left_kept test ns ls rs both_end p q = refl
left_kept test ns ls rs (to_left m xs ys zs s) p q = kept_one test m xs p.0 ∙ ap (λ (ms : List PathNode). m ∷ ms) (left_kept test xs ys zs s p.1 q)
left_kept test ns ls rs (to_right m xs ys zs s) p q = dropped_one test m xs q.0 ∙ left_kept test xs ys zs s p q.1
