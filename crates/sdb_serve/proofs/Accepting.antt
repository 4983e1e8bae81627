-- Maps with the same entries and levels.
use Rattle.std.proofs.Common.{◌≡◌, Bool, true, false, cond, ℕ, List, Some, None, Result, Ok, Err, OnErr, refl, sym, ap, ◌∙◌}
use Rattle.std.specs.BTreeMap.{Updates, get, is_at}
use Rattle.std.specs.Map.{lookup}
use Rattle.std.proofs.lemmas.Map.Text.{is_eq-slice_cmp}
use Rattle.std.proofs.lemmas.Slice.Eq.{bytes_eq-Decides}
use Rattle.sdb_base.specs.declared.BlockId.{BlockId}
use Rattle.sdb_serve.specs.inner.Blocks.{IsSameMap, id_cmp}
use Rattle.sdb_serve.specs.declared.blocks.BlockEntry.{BlockEntry}
use Rattle.sdb_serve.specs.declared.blocks.BlockMap.{BlockMap}

-- what holds holds on a fault
pub on_err : {T E P : Type 0} (r : Result T E) → P → OnErr r P
on_err (Ok x) p = tt
on_err (Err e) p = p

pub same_entries : {K : Type 0} (m n : BlockMap K) → n.blocks.entries ≡ m.blocks.entries → n.levels.items ≡ m.levels.items → IsSameMap m n
same_entries m n e l = record { entries = λ id. ap (λ es. lookup (is_at (id_cmp id)) es) e; levels = l }

-- an entry that was added where none was, and removed again
pub taken_back : {K : Type 0} (m a n : BlockMap K) (id : BlockId) (entry : BlockEntry) → get id_cmp m.blocks id ≡ None → Updates id_cmp m.blocks a.blocks id (Some entry)
    → Updates id_cmp a.blocks n.blocks id None → n.levels.items ≡ m.levels.items → IsSameMap m n
taken_back m a n id entry none p q l = record { entries = λ k. back k (is_at (id_cmp id) k) refl; levels = l }
  where
    back : (k : BlockId) (t : Bool) → is_at (id_cmp id) k ≡ t → get id_cmp n.blocks k ≡ get id_cmp m.blocks k
    back k true is =
        let same : id.0 ≡ k.0 = (bytes_eq-Decides id.0 k.0).0 (sym (is_eq-slice_cmp id.0 k.0) ∙ is) in
        q.0 k ∙ ap (λ t. cond t None (get id_cmp a.blocks k)) is ∙ sym (sym (ap (λ (x : List ℕ). get id_cmp m.blocks (record { 0 = x })) same) ∙ none)
    back k false is =
        q.0 k ∙ ap (λ t. cond t None (get id_cmp a.blocks k)) is ∙ p.0 k ∙ ap (λ t. cond t (Some entry) (get id_cmp m.blocks k)) is
