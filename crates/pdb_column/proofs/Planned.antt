-- What both columns hold after operations.
use Rattle.std.proofs.Common.{◌≡◌, ◌⊎◌, ◌∷◌, [], ◌++◌, ◌<◌, ◌≤◌, if◌then◌else◌, ℕ, suc, List, Option, Some, None, Err, length, take, drop, get_or, refl, sym, ap, subst, ◌∙◌, arith, inl, inr}
use Rattle.std.proofs.Math.Seq.{drop-cons}
use Rattle.std.proofs.lemmas.List.{take-append-drop}
use Rattle.sdb_base.specs.Content.{Counted, count_down, node_after, with_reference, without_reference}
use Rattle.sdb_base.specs.declared.node.NodeHash.{NodeHash}
use Rattle.sdb_base.specs.declared.op.Op.{Op}
use Rattle.sdb_base.specs.declared.op.Op.TheVariants.{AddRef, DropRef, Erase, Put}
use Rattle.sdb_blake2.specs.Blake2b.{H}
use Rattle.pdb_cells.specs.Content.{Content}
use Rattle.pdb_cells.specs.Puts.{drafted, laid}
use Rattle.pdb_cells.specs.declared.puts.Put.{Put as CellPut}
use Rattle.pdb_value.specs.Faults.{FaultSays, IsFullTier, NoCell, NoTier}
use Rattle.pdb_value.specs.declared.fault.ValueFault.{ValueFault}
use Rattle.pdb_value.specs.declared.fault.ValueFault.TheVariants.{Damaged, Disk, OutOfMemory, TierFull}
use Rattle.pdb_column.specs.Answers.{PlanSays, plan_disk_fails}
use Rattle.pdb_column.specs.Damages.{BreaksColumn, IsFullChunk}
use Rattle.pdb_column.specs.Holding.{HoldsColumn, HoldsColumns}
use Rattle.pdb_column.specs.Maps.{ColumnMap, FillsChunk, Inserts, IsCrowded, column_after, column_from, hashed_after}
use Rattle.pdb_column.specs.declared.fault.StepFault.{StepFault}
use Rattle.pdb_column.specs.declared.fault.StepFault.TheVariants.{ChunkFull, Value}
use Rattle.pdb_column.specs.inner.Changes.{IsChanged}
use Rattle.pdb_column.specs.inner.Faults.{AnyTier, StepSays, as_planned, step_disk_fails}
use Rattle.pdb_column.specs.inner.Operations.{Crowds, column_of}
use Rattle.pdb_column.specs.inner.Steps.{with_under}
use Rattle.pdb_column.proofs.Cases.{same_key_or, same_or}
use Rattle.pdb_column.proofs.Hits.{one_counted}
use Rattle.pdb_column.proofs.Located.{any_tier, none_some}
use Rattle.pdb_column.proofs.OneColumn.{other_holds, same_content}

-- ---- one operation

pub both_hold : (cells after : Content) (bases : ℕ → ℕ) (contents : ℕ → ColumnMap) (op : Op) (column : ℕ) (key : List ℕ) (now : Option Counted) → HoldsColumns cells bases contents
    → IsChanged column (bases column) (contents column) key now cells after → ((k : List ℕ) → with_under (contents column) key now k ≡ column_after column (contents column) op k)
    → ((u : ℕ) → u ≤ 1 → (u ≡ column → ⊥) → (k : List ℕ) → contents u k ≡ column_after u (contents u) op k)
    → ((k : List ℕ) (h : Counted) → column_after 1 (contents 1) op k ≡ Some h → h.count ≡ 1) → HoldsColumns after bases (λ u. column_after u (contents u) op)
both_hold cells after bases contents op column key now holds changed says rest single = record {
  each = λ u low. same_or u column (λ _. HoldsColumn after u (bases u) (column_after u (contents u) op))
      (λ e. subst (λ n. HoldsColumn after n (bases n) (column_after n (contents n) op)) (sym e) (same_content after column (bases column) (with_under (contents column) key now) (column_after column (contents column) op) says changed.holds))
      (λ ne. same_content after u (bases u) (contents u) (column_after u (contents u) op) (rest u low ne) (other_holds cells after column u (bases u) (contents u) changed.only ne (holds.each u low)));
  single = single;
}

-- an operation of a node leaves the other column
node_rest : (contents : ℕ → ColumnMap) (op : Op) → ((k : List ℕ) (o : Option Counted) → o ≡ hashed_after k o op) → (u : ℕ) → u ≤ 1 → (u ≡ 0 → ⊥) → (k : List ℕ) → contents u k ≡ column_after u (contents u) op k
node_rest contents op same u low ne k = same_or u 0 (λ b. contents u k ≡ (if b then node_after k (contents u k) op else hashed_after k (contents u k) op)) (λ e. absurd (ne e)) (λ _. same k (contents u k))

plain_rest : (contents : ℕ → ColumnMap) (op : Op) → ((k : List ℕ) (o : Option Counted) → o ≡ node_after k o op) → (u : ℕ) → u ≤ 1 → (u ≡ 1 → ⊥) → (k : List ℕ) → contents u k ≡ column_after u (contents u) op k
plain_rest contents op same u low ne k =
    same_or u 0 (λ b. contents u k ≡ (if b then node_after k (contents u k) op else hashed_after k (contents u k) op)) (λ _. same k (contents u k)) (λ nz. absurd (omega (arith, ne, nz)))

pub added : (cells after : Content) (bases : ℕ → ℕ) (contents : ℕ → ColumnMap) (key : NodeHash) (bytes said : List ℕ) → said ≡ bytes → HoldsColumns cells bases contents
    → IsChanged 0 (bases 0) (contents 0) key.0 (with_reference said (contents 0 key.0)) cells after → HoldsColumns after bases (λ u. column_after u (contents u) (AddRef key bytes))
added cells after bases contents key bytes said is holds changed =
    both_hold cells after bases contents (AddRef key bytes) 0 key.0 (with_reference bytes (contents 0 key.0)) holds
    (subst (λ b. IsChanged 0 (bases 0) (contents 0) key.0 (with_reference b (contents 0 key.0)) cells after) is changed)
    (λ k. same_key_or key.0 k (λ b. (if b then with_reference bytes (contents 0 key.0) else contents 0 k) ≡ (if b then with_reference bytes (contents 0 k) else contents 0 k)) (λ e. ap (λ x. with_reference bytes (contents 0 x)) e) (λ _. refl))
    (node_rest contents (AddRef key bytes) (λ k o. refl)) (λ k h e. holds.single k h e)

pub dropped_node : (cells after : Content) (bases : ℕ → ℕ) (contents : ℕ → ColumnMap) (key : NodeHash) → HoldsColumns cells bases contents
    → IsChanged 0 (bases 0) (contents 0) key.0 (without_reference (contents 0 key.0)) cells after → HoldsColumns after bases (λ u. column_after u (contents u) (DropRef key))
dropped_node cells after bases contents key holds changed =
    both_hold cells after bases contents (DropRef key) 0 key.0 (without_reference (contents 0 key.0)) holds changed
    (λ k. same_key_or key.0 k (λ b. (if b then without_reference (contents 0 key.0) else contents 0 k) ≡ (if b then without_reference (contents 0 k) else contents 0 k)) (λ e. ap (λ x. without_reference (contents 0 x)) e) (λ _. refl))
    (node_rest contents (DropRef key) (λ k o. refl)) (λ k h e. holds.single k h e)

abbrev once : List ℕ → Option Counted
once bytes = Some (record { count = 1; bytes = bytes })

once_is : (bytes : List ℕ) (h : Counted) → once bytes ≡ Some h → h.count ≡ 1
once_is bytes h e = sym (ap (λ (c : Counted). c.count) (one_counted (record { count = 1; bytes = bytes }) h e))

pub put_under : (cells after : Content) (bases : ℕ → ℕ) (contents : ℕ → ColumnMap) (key bytes hash said : List ℕ) → hash ≡ H key → said ≡ bytes → HoldsColumns cells bases contents
    → IsChanged 1 (bases 1) (contents 1) hash (Some (record { count = 1; bytes = said })) cells after → HoldsColumns after bases (λ u. column_after u (contents u) (Put key bytes))
put_under cells after bases contents key bytes hash said hashed is holds changed =
    both_hold cells after bases contents (Put key bytes) 1 (H key) (once bytes) holds
    (subst (λ b. IsChanged 1 (bases 1) (contents 1) (H key) (once b) cells after) is (subst (λ k. IsChanged 1 (bases 1) (contents 1) k (once said) cells after) hashed changed)) (λ k. refl)
    (plain_rest contents (Put key bytes) (λ k o. refl))
    (λ k h. same_key_or (H key) k (λ b. (if b then once bytes else contents 1 k) ≡ Some h → h.count ≡ 1) (λ _ e. once_is bytes h e) (λ _ e. holds.single k h e))

none_left : (o : Option Counted) → ((h : Counted) → o ≡ Some h → h.count ≡ 1) → without_reference o ≡ None
none_left None single = refl
none_left (Some c) single =
    same_or c.count 1 (λ b. ◌≡◌ {A = Option Counted} (if b then None else Some (record { count = count_down c.count; bytes = c.bytes })) None) (λ _. refl) (λ ne. absurd (ne (single c refl)))

pub erased_under : (cells after : Content) (bases : ℕ → ℕ) (contents : ℕ → ColumnMap) (key hash : List ℕ) → hash ≡ H key → HoldsColumns cells bases contents
    → IsChanged 1 (bases 1) (contents 1) hash (without_reference (contents 1 hash)) cells after → HoldsColumns after bases (λ u. column_after u (contents u) (Erase key))
erased_under cells after bases contents key hash hashed holds changed =
    let gone : without_reference (contents 1 hash) ≡ None = none_left (contents 1 hash) (holds.single hash) in
    both_hold cells after bases contents (Erase key) 1 (H key) None holds
    (subst (λ k. IsChanged 1 (bases 1) (contents 1) k None cells after) hashed (subst (λ x. IsChanged 1 (bases 1) (contents 1) hash x cells after) gone changed)) (λ k. refl)
    (plain_rest contents (Erase key) (λ k o. refl))
    (λ k h. same_key_or (H key) k (λ b. (if b then None else contents 1 k) ≡ Some h → h.count ≡ 1) (λ _ e. absurd (none_some None h e refl)) (λ _ e. holds.single k h e))

-- ---- faults of one operation

pub says_in : (P : Content → Type 0) (op : Op) (column : ℕ) (e : ValueFault) → column ≡ column_of op → FaultSays (λ file cell. (x : Content) × P x × BreaksColumn x column file cell) NoTier e
    → FaultSays (λ file cell. (x : Content) × P x × BreaksColumn x (column_of op) file cell) (λ tier. (x : Content) × P x × IsFullTier x (column_of op) tier) e
says_in P op column e is h =
    any_tier (λ file cell. (x : Content) × P x × BreaksColumn x (column_of op) file cell) (λ tier. (x : Content) × P x × IsFullTier x (column_of op) tier) e
    (subst (λ n. FaultSays (λ file cell. (x : Content) × P x × BreaksColumn x n file cell) NoTier e) is h)

-- ---- operations one after the other

pub from_last : (column : ℕ) (content : ColumnMap) (ops : List Op) (op : Op) → column_from column content (ops ++ op ∷ []) ≡ column_after column (column_from column content ops) op
from_last column content [] op = refl
from_last column content (o ∷ ops) op = from_last column (column_after column content o) ops op

pub more_hold : (cells : Content) (bases : ℕ → ℕ) (contents : ℕ → ColumnMap) (before next : List Op) (op : Op) → next ≡ before ++ op ∷ []
    → HoldsColumns cells bases (λ u. column_after u (column_from u (contents u) before) op) → HoldsColumns cells bases (λ u. column_from u (contents u) next)
more_hold cells bases contents before next op is holds =
    let same : (u : ℕ) → column_after u (column_from u (contents u) before) op ≡ column_from u (contents u) next = λ u. sym (from_last u (contents u) before op) ∙ ap (column_from u (contents u)) (sym is) in
    record {
      each = λ u low. subst (HoldsColumn cells u (bases u)) (same u) (holds.each u low);
      single = λ key h e. holds.single key h (ap (λ (f : ColumnMap). f key) (same 1) ∙ e);
    }

pub still_drafted : (ps qs : List CellPut) (a b : Option Content) (cells : Content) → ((below : Content) → a ≡ Some below → b ≡ Some below) → drafted ps a ≡ Some cells
    → (now : Content) × (drafted qs b ≡ Some now)
still_drafted ps qs None b cells f h = absurd (cc)
still_drafted ps qs (Some x) b cells f h = (laid qs x, ap (drafted qs) (f x refl))

same_ops : (a b : Op) (xs ys : List Op) → a ∷ xs ≡ b ∷ ys → (a ≡ b) × (xs ≡ ys)
same_ops a b xs ys e = (cc, cc)

no_ops : (bs left : List Op) (op : Op) → [] ≡ bs ++ op ∷ left → ⊥
no_ops [] left op e = cc
no_ops (b ∷ bs) left op e = cc

-- an operation of a list with one more at its end is the last one, or one of those before
last_or : (xs before left : List Op) (x op : Op) → xs ++ x ∷ [] ≡ before ++ op ∷ left → ((before ≡ xs) × (op ≡ x)) ⊎ ((rest : List Op) × (xs ≡ before ++ op ∷ rest))
last_or [] [] left x op e = inl (refl, sym (same_ops x op [] left e).0)
last_or [] (b ∷ bs) left x op e = absurd (no_ops bs left op (same_ops x b [] (bs ++ op ∷ left) e).1)
last_or (y ∷ ys) [] left x op e = inr (ys, ap (λ o. o ∷ ys) (same_ops y op (ys ++ x ∷ []) left e).0)
last_or (y ∷ ys) (b ∷ bs) left x op e =
    let both = same_ops y b (ys ++ x ∷ []) (bs ++ op ∷ left) e in
    elim (last_or ys bs left x op both.1) [
      | inl (same, is) ↦ inl (ap (λ (o : Op). o ∷ bs) (sym both.0) ∙ ap (λ (os : List Op). y ∷ os) same, is)
      | inr (rest, is) ↦ inr (rest, ap (λ (o : Op). o ∷ ys) both.0 ∙ ap (λ (os : List Op). b ∷ os) is)
    ]

pub none_fills : (bases : ℕ → ℕ) (contents : ℕ → ColumnMap) (column bits chunk : ℕ) → FillsChunk (bases column) (contents column) [] column bits chunk → ⊥
none_fills bases contents column bits chunk f = no_ops f.before f.left f.op f.in_order

pub more_fill : (bases : ℕ → ℕ) (contents : ℕ → ColumnMap) (before next : List Op) (op : Op) (column bits chunk : ℕ) → next ≡ before ++ op ∷ []
    → (FillsChunk (bases column) (contents column) before column bits chunk → ⊥) → (Crowds bases (λ u. column_from u (contents u) before) op column bits chunk → ⊥)
    → FillsChunk (bases column) (contents column) next column bits chunk → ⊥
more_fill bases contents before next op column bits chunk is none one f =
    elim (last_or before f.before f.left op f.op (sym is ∙ f.in_order)) [
      | inl (same, last) ↦ one (record {
        key = f.key;
        inserts = subst (λ o. Inserts column (column_from column (contents column) before) o f.key) last (subst (λ os. Inserts column (column_from column (contents column) os) f.op f.key) same f.inserts);
        bits_are = f.bits_are;
        chunk_is = f.chunk_is;
        crowded = subst (λ os. IsCrowded (column_from column (contents column) os) bits f.key) same f.crowded;
      })
      | inr (rest, early) ↦ none (record { before = f.before; op = f.op; left = rest; in_order = early; key = f.key; inserts = f.inserts; bits_are = f.bits_are; chunk_is = f.chunk_is; crowded = f.crowded })
    ]

-- the operations before one, the one, and those after it
pub split_at : (ops : List Op) (i : ℕ) (op : Op) → i < length ops → op ≡ get_or ops i op → ops ≡ take i ops ++ op ∷ drop (suc i) ops
split_at ops i op low is =
    sym (take-append-drop i ops) ∙ ap (λ (xs : List Op). take i ops ++ xs) (drop-cons ops i op low ∙ ap (λ (o : Op). o ∷ drop (suc i) ops) (sym is))

-- ---- faults of a plan

pub plan_sound : (bases : ℕ → ℕ) (contents : ℕ → ColumnMap) (ops before left : List Op) (op : Op) (column : ℕ) (e : StepFault) → ops ≡ before ++ op ∷ left
    → StepSays NoCell AnyTier (Crowds bases (λ u. column_from u (contents u) before) op column) e
    → PlanSays (λ file cell. ⊥) (λ column bits chunk. FillsChunk (bases column) (contents column) ops column bits chunk) (λ column tier. Unit {0}) (as_planned column e)
plan_sound bases contents ops before left op column (Value OutOfMemory) is h = tt
plan_sound bases contents ops before left op column (Value Disk) is h = tt
plan_sound bases contents ops before left op column (Value (Damaged file cell)) is h = h
plan_sound bases contents ops before left op column (Value (TierFull tier)) is h = tt
plan_sound bases contents ops before left op column (ChunkFull bits chunk) is h = record {
  before = before;
  op = op;
  left = left;
  in_order = is;
  key = h.key;
  inserts = h.inserts;
  bits_are = h.bits_are;
  chunk_is = h.chunk_is;
  crowded = h.crowded;
}

pub plan_says : (P : Content → Type 0) (column : ℕ) (e : StepFault) → column ≤ 1
    → StepSays (λ file cell. (x : Content) × P x × BreaksColumn x column file cell) (λ tier. (x : Content) × P x × IsFullTier x column tier) (λ bits n. (x : Content) × P x × IsFullChunk x column bits n) e
    → PlanSays (λ file cell. (x : Content) × P x × ((u : ℕ) × (u ≤ 1) × BreaksColumn x u file cell)) (λ u bits chunk. (x : Content) × P x × IsFullChunk x u bits chunk) (λ u tier. (x : Content) × P x × IsFullTier x u tier) (as_planned column e)
plan_says P column (Value OutOfMemory) low h = tt
plan_says P column (Value Disk) low h = tt
plan_says P column (Value (Damaged file cell)) low h = (h.0, h.1, (column, low, h.2))
plan_says P column (Value (TierFull tier)) low h = h
plan_says P column (ChunkFull bits chunk) low h = h

pub plan_fails : (T U : Type 0) (column : ℕ) (e : StepFault) → plan_disk_fails {T = T} (Err (as_planned column e)) ≡ step_disk_fails {T = U} (Err e)
plan_fails T U column (Value OutOfMemory) = refl
plan_fails T U column (Value Disk) = refl
plan_fails T U column (Value (Damaged file cell)) = refl
plan_fails T U column (Value (TierFull tier)) = refl
plan_fails T U column (ChunkFull bits chunk) = refl

pub column_low : (op : Op) → column_of op ≤ 1
column_low (AddRef key bytes) = omega arith
column_low (DropRef key) = omega arith
column_low (Put key bytes) = omega arith
column_low (Erase key) = omega arith
