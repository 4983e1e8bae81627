-- Steps of a key's way down a node.
use Rattle.std.proofs.Common.{◌≡◌, ℕ, zero, suc, ◌+◌, ◌-◌, ◌<◌, ◌≤◌, Bool, true, false, eqb, List, [], ◌∷◌, length, get_or, drop, Option, Some, None, refl, ap, sym, ◌∙◌, inl, inr, arith, eq-eqb, length-drop}
use Rattle.std.specs.Prelude.{◌&&◌, ◌||◌, is_some, nat_lt, Ok, Err}
use Rattle.std.specs.Borrow.{Bor}
use Rattle.std.specs.List.{list_any}
use Rattle.std.proofs.lemmas.List.{drop_all, drop_more}
use Rattle.std.proofs.lemmas.Bool.Decides.{eqb_tells}
use Rattle.trie_model.specs.Node.{IsNode, IsNodeWithin, Node}
use Rattle.trie_model.specs.Trie.{after_prefix}
use Rattle.trie_codec.specs.NodeParts.{IsChildOf, child_bytes}
use Rattle.trie_codec.specs.Reading.{is_nothing, most_nibbles, node_of_bytes}
use Rattle.trie_codec.specs.declared.fault.CodecFault.{CodecFault}
use Rattle.trie_codec.specs.declared.node_ref.ChildRef.{ChildRef}
use Rattle.trie_codec.specs.declared.node_ref.ChildRef.TheVariants as child
use Rattle.trie_root.proofs.Levels.{length-after_prefix}
use Rattle.trie_root.proofs.Rows.{unlike}
use Rattle.trie_read.specs.Depth.{child_too_deep, is_bad_node, is_long_value, too_deep}
use Rattle.trie_read.specs.inner.Descent.{IsSized, Outcome, Ended, Wants, child_way, way_after, way_down}

-- ---- whether a key goes on with a partial key

pub too_long : (p : List ℕ) (at : ℕ) (ns : List ℕ) → length ns - at < length p → is_some (after_prefix p (drop at ns)) ≡ false
too_long p at ns h = next (after_prefix p (drop at ns)) refl
  where
    next : (r : Option (List ℕ)) → after_prefix p (drop at ns) ≡ r → is_some r ≡ false
    next None e = refl
    next (Some rest) e = absurd (omega (arith, length-after_prefix p (drop at ns) rest e, length-drop at ns))

pub one_more : (p ns : List ℕ) (i j : ℕ) → i < length p → j < length ns → get_or ns j 0 ≡ get_or p i 0
    → is_some (after_prefix (drop i p) (drop j ns)) ≡ is_some (after_prefix (drop (i + 1) p) (drop (j + 1) ns))
one_more p ns i j h k e =
    let same : eqb (get_or p i 0) (get_or ns j 0) ≡ true = eq-eqb _ _ (sym e) in
    rw (drop_more p i 0 h, drop_more ns j 0 k, same)

pub no_more : (p ns : List ℕ) (i j : ℕ) → i < length p → j < length ns → (get_or ns j 0 ≡ get_or p i 0 → ⊥)
    → is_some (after_prefix (drop i p) (drop j ns)) ≡ false
no_more p ns i j h k e =
    let other : eqb (get_or p i 0) (get_or ns j 0) ≡ false = unlike (get_or p i 0) (get_or ns j 0) (λ z. e (sym z)) in
    rw (drop_more p i 0 h, drop_more ns j 0 k, other)

pub all_follows : (p ks : List ℕ) (i : ℕ) → length p ≤ i → is_some (after_prefix (drop i p) ks) ≡ true
all_follows p ks i h = rw (drop_all i p h)

-- ---- the way down

after_is : (p ks : List ℕ) → is_some (after_prefix p ks) ≡ true → after_prefix p ks ≡ Some (drop (length p) ks)
after_is [] ks e = refl
after_is (x ∷ p) [] e = let no : false ≡ true = e in absurd cc
after_is (x ∷ p) (n ∷ ks) e =
    elim (eqb_tells x n) [
      | inl t ↦ let same : eqb x n ≡ true = t.0 in rw same (after_is p ks (rw same at e))
      | inr f ↦ let other : eqb x n ≡ false = f.0 in let no : false ≡ true = rw other at e in absurd cc
    ]

drop_twice : (i j : ℕ) (xs : List ℕ) → drop i (drop j xs) ≡ drop (j + i) xs
drop_twice i zero xs = ap (λ (k : ℕ). drop k xs) (omega arith)
drop_twice i (suc j) [] = nothing i ∙ sym (nothing (suc j + i))
  where
    nothing : (k : ℕ) → drop {A = ℕ} k [] ≡ []
    nothing zero = refl
    nothing (suc k) = refl
drop_twice i (suc j) (x ∷ xs) = let e : suc j + i ≡ suc (j + i) = omega arith in drop_twice i j xs ∙ ap (λ (k : ℕ). drop k (x ∷ xs)) (sym e)

pub way_none : (n : Node) (ks : List ℕ) → Ended None ≡ way_down 0 n ks
unfolding way_down
way_none n ks = refl

pub way_left : (levels : ℕ) (n : Node) (ks : List ℕ) → is_some (after_prefix n.partial ks) ≡ false → Ended None ≡ way_down levels n ks
unfolding way_down
way_left zero n ks e = refl
way_left (suc levels) n ks e = next (after_prefix n.partial ks) e
  where
    next : (r : Option (List ℕ)) → is_some r ≡ false → Ended None ≡ way_after (way_down levels) n r
    next None z = refl
    next (Some rest) z = let no : true ≡ false = z in absurd cc

pub way_ended : (levels : ℕ) (n : Node) (at : ℕ) (ns : List ℕ) → 1 ≤ levels → is_some (after_prefix n.partial (drop at ns)) ≡ true
    → length ns ≤ at + length n.partial → Ended n.value ≡ way_down levels n (drop at ns)
unfolding way_down
way_ended zero n at ns some e h = absurd (omega arith)
way_ended (suc levels) n at ns some e h =
    let rest : after_prefix n.partial (drop at ns) ≡ Some [] =
    after_is n.partial (drop at ns) e ∙ ap Some (drop_twice (length n.partial) at ns ∙ drop_all (at + length n.partial) ns h) in
    ap (way_after (way_down levels) n) (sym rest)

pub way_on : (levels : ℕ) (n : Node) (at end : ℕ) (ns : List ℕ) → 1 ≤ levels → is_some (after_prefix n.partial (drop at ns)) ≡ true
    → end ≡ at + length n.partial → end < length ns
    → child_way (way_down (levels - 1)) (get_or n.children (get_or ns end 0) None) (drop (end + 1) ns) ≡ way_down levels n (drop at ns)
unfolding way_down
way_on zero n at end ns some e is h = absurd (omega arith)
way_on (suc levels) n at end ns some e is h =
    let less : suc levels - 1 ≡ levels = omega arith in
    let rest : after_prefix n.partial (drop at ns) ≡ Some (get_or ns end 0 ∷ drop (end + 1) ns) =
    after_is n.partial (drop at ns) e ∙ ap Some (drop_twice (length n.partial) at ns ∙ ap (λ (k : ℕ). drop k ns) (sym is) ∙ drop_more ns end 0 h) in
    ap (λ (k : ℕ). child_way (way_down k) (get_or n.children (get_or ns end 0) None) (drop (end + 1) ns)) less
    ∙ ap (way_after (way_down levels) n) (sym rest)

-- ---- too deep

pub has_sixteen : (n : Node) → IsNode n → length n.children ≡ 16
unfolding IsNodeWithin
has_sixteen n h = h.sixteen

pub deep_none : (at : ℕ) (n : Node) → false ≡ too_deep 0 at n
unfolding too_deep
deep_none at n = refl

pub deep_here : (levels at : ℕ) (n : Node) → 1 ≤ levels → (nat_lt most_nibbles (at + length n.partial) || is_long_value n.value) ≡ true → true ≡ too_deep levels at n
unfolding too_deep
deep_here zero at n some e = absurd (omega arith)
deep_here (suc levels) at n some e =
    sym (ap (λ b. b || list_any (child_too_deep (too_deep levels (at + length n.partial + 1))) n.children) e)

pub deep_below : (levels at len : ℕ) (n : Node) → 1 ≤ levels → len ≡ length n.partial → (nat_lt most_nibbles (at + length n.partial) || is_long_value n.value) ≡ false
    → list_any (child_too_deep (too_deep (levels - 1) (at + len + 1))) n.children ≡ too_deep levels at n
unfolding too_deep
deep_below zero at len n some is e = absurd (omega arith)
deep_below (suc levels) at len n some is e =
    let less : suc levels - 1 ≡ levels = omega arith in
    ap (λ (k : ℕ). list_any (child_too_deep (too_deep k (at + len + 1))) n.children) less
    ∙ ap (λ (k : ℕ). list_any (child_too_deep (too_deep levels (at + k + 1))) n.children) is
    ∙ sym (ap (λ b. b || list_any (child_too_deep (too_deep levels (at + length n.partial + 1))) n.children) e)

pub any_more : (test : Option (List ℕ) → Bool) (cs : List (Option (List ℕ))) (i : ℕ) → i < length cs
    → list_any test (drop i cs) ≡ (test (get_or cs i None) || list_any test (drop (i + 1) cs))
any_more test cs i h = ap (list_any test) (drop_more cs i None h)

pub on_child : (levels : ℕ) (n : Node) (at end : ℕ) (ns : List ℕ) (i : ℕ) (c : Option (List ℕ)) → 1 ≤ levels → is_some (after_prefix n.partial (drop at ns)) ≡ true
    → end ≡ at + length n.partial → end < length ns → i ≡ get_or ns end 0 → get_or n.children i None ≡ c
    → child_way (way_down (levels - 1)) c (drop (end + 1) ns) ≡ way_down levels n (drop at ns)
on_child levels n at end ns i c some e is h nibble child =
    ap (λ o. child_way (way_down (levels - 1)) o (drop (end + 1) ns)) (sym child ∙ ap (λ (k : ℕ). get_or n.children k None) nibble)
    ∙ way_on levels n at end ns some e is h

pub hashed_way : (g : Node → List ℕ → Outcome) (c rest : List ℕ) → length c ≡ 32 → Wants c rest ≡ child_way g (Some c) rest
hashed_way g c rest e = let same : eqb (length c) 32 ≡ true = eq-eqb (length c) 32 e in rw same refl

pub inline_ok : (g : Node → List ℕ → Outcome) (c rest : List ℕ) (n : Node) → length c < 32 → node_of_bytes c ≡ Ok n → g n rest ≡ child_way g (Some c) rest
inline_ok g c rest n h e = let other : eqb (length c) 32 ≡ false = unlike (length c) 32 (λ z. omega arith) in rw (other, e) refl

pub inline_err : (g : Node → List ℕ → Outcome) (c rest : List ℕ) (f : CodecFault) → length c < 32 → node_of_bytes c ≡ Err f → Ended None ≡ child_way g (Some c) rest
inline_err g c rest f h e = let other : eqb (length c) 32 ≡ false = unlike (length c) 32 (λ z. omega arith) in rw (other, e) refl

-- ---- the limits at one node

pub past : (at len : ℕ) (b : Bool) → 2048 < at + len → (nat_lt most_nibbles (at + len) || b) ≡ true
past at len b h = let e : nat_lt 2048 (at + len) ≡ true = grind arith in rw e refl

pub past_value : (b : Bool) (v : Option (List ℕ)) → is_long_value v ≡ true → (b || is_long_value v) ≡ true
past_value true v e = refl
past_value false v e = e

pub not_past : (at len : ℕ) (b : Bool) → at + len ≤ 2048 → b ≡ false → (nat_lt most_nibbles (at + len) || b) ≡ false
not_past at len b h k = let e : nat_lt 2048 (at + len) ≡ false = grind arith in rw (e, k) refl

pub any_here : (test : Option (List ℕ) → Bool) (cs : List (Option (List ℕ))) (i : ℕ) (c : Option (List ℕ)) → i < length cs → get_or cs i None ≡ c → test c ≡ true
    → list_any test (drop i cs) ≡ true
any_here test cs i c h e k = any_more test cs i h ∙ ap (λ o. test o || list_any test (drop (i + 1) cs)) e ∙ ap (λ b. b || list_any test (drop (i + 1) cs)) k

pub any_on : (test : Option (List ℕ) → Bool) (cs : List (Option (List ℕ))) (i : ℕ) (c : Option (List ℕ)) → i < length cs → get_or cs i None ≡ c → test c ≡ false
    → list_any test (drop (i + 1) cs) ≡ list_any test (drop i cs)
any_on test cs i c h e k = sym (any_more test cs i h ∙ ap (λ o. test o || list_any test (drop (i + 1) cs)) e ∙ ap (λ b. b || list_any test (drop (i + 1) cs)) k)

pub any_end : (test : Option (List ℕ) → Bool) (cs : List (Option (List ℕ))) (i : ℕ) → length cs ≤ i → list_any test (drop i cs) ≡ false
any_end test cs i h = ap (list_any test) (drop_all i cs h)

pub sized : (child : ChildRef) (c : Option (Bor (List ℕ))) → IsChildOf child c → IsSized child
sized child.None c h = tt
sized (child.Inline bytes) c h = h.1
sized (child.Hashed hash) c h = h.1

pub not_inline : (deep : Node → Bool) (c : ChildRef) → IsSized c → ((b : Bor (List ℕ)) → c ≡ child.Inline b → ⊥) → false ≡ child_too_deep deep (child_bytes c)
not_inline deep child.None s h = refl
not_inline deep (child.Inline bytes) s h = absurd (h bytes refl)
not_inline deep (child.Hashed hash) s h = let long : nat_lt (length hash.now) 32 ≡ false = grind arith in rw long refl

pub inline_deep : (deep : Node → Bool) (c : List ℕ) (n : Node) → length c < 32 → node_of_bytes c ≡ Ok n → deep n ≡ child_too_deep deep (Some c)
inline_deep deep c n h e = let short : nat_lt (length c) 32 ≡ true = grind arith in rw (short, e) refl

pub inline_unread : (deep : Node → Bool) (c : List ℕ) (f : CodecFault) → length c < 32 → node_of_bytes c ≡ Err f → false ≡ child_too_deep deep (Some c)
inline_unread deep c f h e = let short : nat_lt (length c) 32 ≡ true = grind arith in rw (short, e) refl

pub far_is_bad : (at : ℕ) (bytes : List ℕ) (n : Node) → node_of_bytes bytes ≡ Ok n → 2048 < at → true ≡ is_bad_node at bytes
far_is_bad at bytes n e h =
    let deep : true ≡ too_deep 33 at n = deep_here 33 at n (omega arith) (past at (length n.partial) (is_long_value n.value) (omega arith)) in
    rw e (ap (λ b. b || (nat_lt 0 at && is_nothing bytes)) deep)
