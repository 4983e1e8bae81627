use Rattle.std.proofs.Common.{◌≡◌, ℕ, List, All, length, sym, subst, ◌∙◌}
use Rattle.std.proofs.lemmas.Bool.{eqb-true}
use Rattle.std.proofs.lemmas.List.{nil_from_length}
use Rattle.pdb_cells.specs.declared.Put.{Put}
use Rattle.pdb_record.specs.inner.Blocks.{Ascends, IsApart, Taken}
use Rattle.pdb_record.proofs.Loops.{Decided, decided_all, decided_more, decided_twice, taken_seen}
use Rattle.pdb_record.proofs.repeats.differs.Goals.{then-not-fill-via-then-not-fill, then-not-fill-via-else-not-fill+then-not-are_new}
use Rattle.pdb_record.proofs.repeats.differs.Goals as goal

pub are_new-requires : goal.are_new-requires
are_new-requires c = subst Ascends (sym c.as_slice.ensures.value) c.fill.ensures.ascends

pub returns-then-not-fill : goal.returns-then-not-fill
returns-then-not-fill c ps leaves =
    let before : Decided ps c.loop-left.left = c.loop-left.invariant ps leaves in
    elim c.then-not-fill.branch [
      | then-not-fill-via-then-not-fill w ↦ decided_twice ps c.loop-left.left before (w.if-not-fill.ensures.takes before.back before.left)
      | then-not-fill-via-else-not-fill+then-not-are_new w ↦
          let taken : Taken before.back c.fill.new.block.items c.fill.new.puts = w.if-not-fill.ensures.takes before.back before.left in
          decided_twice ps c.loop-left.left before (taken_seen before.back c.fill.new.block.items c.fill.new.puts taken
          (subst (λ (ks : List (ℕ × ℕ)). ¬ All (λ (p : Put). IsApart p.name ks) taken.back) w.as_slice.ensures.value (w.if-not-are_new.ensures taken.back taken.left)))
    ]

pub loop-left-preserved : goal.loop-left-preserved
loop-left-preserved c ps leaves =
    let before : Decided ps c.loop-left.left = c.loop-left.invariant ps leaves in
    let taken : Taken before.back c.fill.new.block.items c.fill.new.puts = c.if-not-fill.ensures.takes before.back before.left in
    decided_more ps c.loop-left.left c.fill.new.block.items c.fill.new.puts before taken
    (subst (λ (ks : List (ℕ × ℕ)). All (λ (p : Put). IsApart p.name ks) taken.back) c.as_slice.ensures.value (c.if-not-are_new.ensures taken.back taken.left))

pub returns : goal.returns
returns c ps leaves =
    let none : length c.loop-left.left.left.now ≡ 0 = eqb-true (length c.loop-left.left.left.now) 0 (sym c.is_empty.ensures ∙ c.loop-left-test.false) in
    decided_all ps c.loop-left.left (c.loop-left.invariant ps leaves) (nil_from_length c.loop-left.left.left.now none)
