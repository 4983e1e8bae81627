-- Puts of head cells.
use Rattle.std.proofs.Common.{◌≡◌, ⊎_elim, ℕ, ◌==◌, ◌&&◌, Bool, true, false, List, [], ◌∷◌, Some, None, if◌then◌else◌, refl, sym, ap, ◌∙◌, subst, arith}
use Rattle.std.specs.Option.{unwrap_or}
use Rattle.std.proofs.lemmas.Bool.{cases_eq}
use Rattle.std.proofs.lemmas.Bool.Decides.{nat_tests}
use Rattle.pdb_cells.specs.Content.{Content, put_cell}
use Rattle.pdb_cells.specs.Puts.{laid}
use Rattle.pdb_cells.specs.declared.CellName.{CellName}
use Rattle.pdb_cells.specs.declared.Put.{Put}
use Rattle.pdb_redo.specs.Heads.{head_in, heads_after}
use Rattle.pdb_redo.specs.declared.heads.Heads.{Heads}
use Rattle.pdb_redo.specs.inner.Carrying.{heads_laid}
use Rattle.pdb_redo.proofs.Layers.{puts_alike}

-- cells with the head cells beside them
abbrev pub with_heads : Heads → Content → Content
with_heads h c file index = unwrap_or (head_in h (record { file = file; index = index })) (c file index)

no_true : (b : Bool) → b ≡ true → b ≡ false → ⊥
no_true b e f = cc

head_at : (h : Heads) (a b c : Bool) (bytes : List ℕ)
    → unwrap_or (if a then (if b then Some (if a then (if b then record h { first = bytes } else (if c then record h { second = bytes } else h)) else h).first
    else (if c then Some (if a then (if b then record h { first = bytes } else (if c then record h { second = bytes } else h)) else h).second else None)) else None) bytes ≡ bytes
head_at h true true c bytes = refl
head_at h true false true bytes = refl
head_at h true false false bytes = refl
head_at h false b c bytes = refl

both : (h : Heads) (b c d e : Bool) (bytes : List ℕ) → (b ≡ true → d ≡ true → ⊥) → (c ≡ true → e ≡ true → ⊥)
    → (if d then Some (if b then record h { first = bytes } else (if c then record h { second = bytes } else h)).first
    else (if e then Some (if b then record h { first = bytes } else (if c then record h { second = bytes } else h)).second else None))
    ≡ (if d then Some h.first else (if e then Some h.second else None))
both h true c true e bytes diff other = absurd (diff refl refl)
both h true c false true bytes diff other = refl
both h true c false false bytes diff other = refl
both h false true true e bytes diff other = refl
both h false true false true bytes diff other = absurd (other refl refl)
both h false true false false bytes diff other = refl
both h false false d e bytes diff other = refl

apart : (h : Heads) (a g b c d e : Bool) (bytes : List ℕ) → (a ≡ true → g ≡ true → b ≡ true → d ≡ true → ⊥) → (a ≡ true → g ≡ true → c ≡ true → e ≡ true → ⊥)
    → (if g then (if d then Some (if a then (if b then record h { first = bytes } else (if c then record h { second = bytes } else h)) else h).first
    else (if e then Some (if a then (if b then record h { first = bytes } else (if c then record h { second = bytes } else h)) else h).second else None)) else None)
    ≡ (if g then (if d then Some h.first else (if e then Some h.second else None)) else None)
apart h true true b c d e bytes diff other = both h b c d e bytes (diff refl refl) (other refl refl)
apart h true false b c d e bytes diff other = refl
apart h false g b c d e bytes diff other = refl

is_eq : (a b : ℕ) → (a == b) ≡ true → a ≡ b
is_eq a b e = grind (arith, nat_tests, e)

head_else : (h : Heads) (name : CellName) (bytes : List ℕ) (file index : ℕ) → (name.file ≡ file → name.index ≡ index → ⊥)
    → head_in (heads_after h name bytes) (record { file = file; index = index }) ≡ head_in h (record { file = file; index = index })
head_else h name bytes file index ne =
    apart h (name.file == 9) (file == 9) (name.index == 0) (name.index == 1) (index == 0) (index == 1) bytes
    (λ p q r s. ne (is_eq name.file 9 p ∙ sym (is_eq file 9 q)) (is_eq name.index 0 r ∙ sym (is_eq index 0 s)))
    (λ p q r s. ne (is_eq name.file 9 p ∙ sym (is_eq file 9 q)) (is_eq name.index 1 r ∙ sym (is_eq index 1 s)))

pick : (t : Bool) (a b : List ℕ) → t ≡ true → (if t then a else b) ≡ a
pick t a b e = rw e refl

drop_pick : (t : Bool) (a b : List ℕ) → t ≡ false → (if t then a else b) ≡ b
drop_pick t a b e = rw e refl

same_test : (a : ℕ) → (a == a) ≡ true
same_test a = grind (arith, nat_tests)

both_true : (a b : Bool) → a ≡ true → b ≡ true → (a && b) ≡ true
both_true a b e f = rw (e, f) refl

not_both : (a b : Bool) → (a ≡ true → b ≡ true → ⊥) → (a && b) ≡ false
not_both true b diff = other b (diff refl)
  where
    other : (d : Bool) → (d ≡ true → ⊥) → d ≡ false
    other true out = absurd (out refl)
    other false out = refl
not_both false b diff = refl

-- the head cells after a put, beside the cells after it
head_put : (h : Heads) (name : CellName) (bytes : List ℕ) (c : Content) (file index : ℕ)
    → with_heads (heads_after h name bytes) (put_cell name.file name.index bytes c) file index ≡ put_cell name.file name.index bytes (with_heads h c) file index
head_put h name bytes c file index = ⊎_elim
    (λ e. ⊎_elim
    (λ k. here file index e k)
    (λ ne. beside (λ f. ne))
    (cases_eq name.index index))
    (λ ne. beside (λ f k. ne f))
    (cases_eq name.file file)
  where
    here : (f i : ℕ) → name.file ≡ f → name.index ≡ i
        → with_heads (heads_after h name bytes) (put_cell name.file name.index bytes c) f i ≡ put_cell name.file name.index bytes (with_heads h c) f i
    here f i e k =
        let t : ((name.file == f) && (name.index == i)) ≡ true = both_true (name.file == f) (name.index == i) (subst (λ n. (name.file == n) ≡ true) e (same_test name.file)) (subst (λ n. (name.index == n) ≡ true) k (same_test name.index)) in
        ap (unwrap_or (head_in (heads_after h name bytes) (record { file = f; index = i }))) (pick ((name.file == f) && (name.index == i)) bytes (c f i) t)
        ∙ subst (λ n. unwrap_or (head_in (heads_after h name bytes) (record { file = n; index = i })) bytes ≡ bytes) e
        (subst (λ n. unwrap_or (head_in (heads_after h name bytes) (record { file = name.file; index = n })) bytes ≡ bytes) k
        (head_at h (name.file == 9) (name.index == 0) (name.index == 1) bytes))
        ∙ sym (pick ((name.file == f) && (name.index == i)) bytes (with_heads h c f i) t)

    beside : (name.file ≡ file → name.index ≡ index → ⊥)
        → with_heads (heads_after h name bytes) (put_cell name.file name.index bytes c) file index ≡ put_cell name.file name.index bytes (with_heads h c) file index
    beside ne =
        let t : ((name.file == file) && (name.index == index)) ≡ false = not_both (name.file == file) (name.index == index) (λ p q. ne (is_eq name.file file p) (is_eq name.index index q)) in
        ap (unwrap_or (head_in (heads_after h name bytes) (record { file = file; index = index }))) (drop_pick ((name.file == file) && (name.index == index)) bytes (c file index) t)
        ∙ ap (λ o. unwrap_or o (c file index)) (head_else h name bytes file index ne)
        ∙ sym (drop_pick ((name.file == file) && (name.index == index)) bytes (with_heads h c file index) t)

put_alike : (t : Bool) (bytes a b : List ℕ) → a ≡ b → (if t then bytes else a) ≡ (if t then bytes else b)
put_alike true bytes a b e = refl
put_alike false bytes a b e = e

-- where the head cells are those of the cells, they hide nothing
pub heads_of_row : (h : Heads) (c : Content) → h.first ≡ c 9 0 → h.second ≡ c 9 1 → (file index : ℕ) → with_heads h c file index ≡ c file index
heads_of_row h c one two file index = go (file == 9) (index == 0) (index == 1) (is_eq file 9) (is_eq index 0) (is_eq index 1)
  where
    go : (a b d : Bool) → (a ≡ true → file ≡ 9) → (b ≡ true → index ≡ 0) → (d ≡ true → index ≡ 1)
        → unwrap_or (if a then (if b then Some h.first else (if d then Some h.second else None)) else None) (c file index) ≡ c file index
    go true true d e k m = one ∙ sym (ap (λ n. c n 0) (e refl)) ∙ sym (ap (c file) (k refl))
    go true false true e k m = two ∙ sym (ap (λ n. c n 1) (e refl)) ∙ sym (ap (c file) (m refl))
    go true false false e k m = refl
    go false b d e k m = refl

-- the head cells after these puts, beside the cells after them
pub heads_after_puts : (h : Heads) (ps : List Put) (c : Content) (file index : ℕ) → with_heads (heads_laid h ps) (laid ps c) file index ≡ laid ps (with_heads h c) file index
heads_after_puts h [] c file index = refl
heads_after_puts h (p ∷ ps) c file index =
    heads_after_puts (heads_after h p.name p.bytes) ps (put_cell p.name.file p.name.index p.bytes c) file index
    ∙ puts_alike ps (with_heads (heads_after h p.name p.bytes) (put_cell p.name.file p.name.index p.bytes c)) (put_cell p.name.file p.name.index p.bytes (with_heads h c)) file index
    (head_put h p.name p.bytes c file index)
