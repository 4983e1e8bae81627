-- The numbers of records that wait.
use Rattle.std.proofs.Common.{◌≡◌, ℕ, ◌+◌, ◌≤◌, List, [], ◌∷◌, ◌++◌, length, map, Some, refl, arith}
use Rattle.std.specs.Prelude.{slice_get}
use Rattle.pdb_cells.specs.Puts.{NoCellTwice}
use Rattle.pdb_redo.specs.Backlogs.{IsNextNumber}
use Rattle.pdb_redo.specs.Places.{AreInOrder, record_of}
use Rattle.pdb_redo.specs.declared.waiting.Waiting.{Waiting}

pub number_at : (first : ℕ) (before : List Waiting) (w : Waiting) (after : List Waiting) → AreInOrder first (before ++ w ∷ after) → w.number ≡ first + length before
number_at first [] w after order = let e = order.0 in omega (arith, e)
number_at first (b ∷ bs) w after order = let e = number_at (first + 1) bs w after order.2 in omega (arith, e)

pub once_at : (first : ℕ) (before : List Waiting) (w : Waiting) (after : List Waiting) → AreInOrder first (before ++ w ∷ after) → NoCellTwice w.puts
once_at first [] w after order = order.1
once_at first (b ∷ bs) w after order = once_at (first + 1) bs w after order.2

pub waits_at : (before : List Waiting) (w : Waiting) (after : List Waiting) → slice_get (before ++ w ∷ after) (length before) ≡ Some w
waits_at [] w after = refl
waits_at (b ∷ bs) w after = waits_at bs w after

pub order_push : (first : ℕ) (ws : List Waiting) (w : Waiting) → AreInOrder first ws → w.number ≡ first + length ws → NoCellTwice w.puts → AreInOrder first (ws ++ w ∷ [])
order_push first [] w order e once = (omega (arith, e), once, tt)
order_push first (v ∷ ws) w order e once = (order.0, order.1, order_push (first + 1) ws w order.2 (omega (arith, e)) once)

next_is : (first : ℕ) (v : Waiting) (ws : List Waiting) (n : ℕ) → AreInOrder first (v ∷ ws) → IsNextNumber (map record_of (v ∷ ws)) n → n ≡ first + length (v ∷ ws)
next_is first v [] n order next = let e = order.0 in omega (arith, e, next)
next_is first v (u ∷ ws) n order next = let e = next_is (first + 1) u ws n order.2 next in omega (arith, e)

-- the records after one more of the next number
pub record InOrder (ws : List Waiting) : Type 0 where
  pub first : ℕ
  pub from_one : 1 ≤ first
  pub order : AreInOrder first ws

pub order_next : (first : ℕ) (ws : List Waiting) (w : Waiting) → 1 ≤ first → AreInOrder first ws → 1 ≤ w.number → IsNextNumber (map record_of ws) w.number → NoCellTwice w.puts → InOrder (ws ++ w ∷ [])
order_next first [] w from order one next once = record { first = w.number; from_one = one; order = (refl, once, tt) }
order_next first (v ∷ ws) w from order one next once =
    record { first = first; from_one = from; order = order_push first (v ∷ ws) w order (next_is first v ws w.number order next) once }
