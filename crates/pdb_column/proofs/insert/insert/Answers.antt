use Rattle.std.proofs.Common.{◌≡◌, ◌^◌, ◌<◌, ℕ, length, refl, sym, subst, ◌∙◌, arith}
use Rattle.std.proofs.lemmas.Result.{err_from_is_err_and}
use Rattle.pdb_cells.specs.Content.{Content}
use Rattle.pdb_model.specs.Files.{OnlyTable, head_cell}
use Rattle.pdb_model.specs.Heads.{IsHeadCell}
use Rattle.pdb_model.specs.Tables.{placed}
use Rattle.pdb_model.specs.Tiers.{tier_of}
use Rattle.pdb_value.specs.Faults.{Drafts, HasTable}
use Rattle.pdb_column.proofs.Cells.{chunk_kept}
use Rattle.pdb_column.proofs.Entered.{at_ok, crowded_in, full_chunk, inserted_held, not_crowded_in, place_breaks, place_sound, put_at}
use Rattle.pdb_column.proofs.Hits.{one_draft}
use Rattle.pdb_column.proofs.Inserting.{tier_low}
use Rattle.pdb_column.proofs.KeyChunks.{keeps_head}
use Rattle.pdb_column.proofs.NoSlots.{place_lacks}
use Rattle.pdb_column.proofs.SlotsFirst.{any_says}
use Rattle.pdb_column.proofs.insert.insert.Goals as goal

pub returns-in_err-at-clause-sound : goal.returns-in_err-at-clause-sound
returns-in_err-at-clause-sound g c cells content drafts holds chunk =
    let p = err_from_is_err_and c.from_residual.result c.from_residual.ensures.1 in
    rw (p.1, p.2) (place_sound _ _ (c.in_err-at.ensures.sound cells (holds.picture.tables (tier_of (length c.args.bytes.now))) drafts (keeps_head cells c.args.column c.args.chunk.now.base content holds)
    (holds.spelled.tables (tier_of (length c.args.bytes.now)) (tier_low (length c.args.bytes.now)))))

pub returns-in_err-at-clause-faults : goal.returns-in_err-at-clause-faults
returns-in_err-at-clause-faults g c cells drafts chunk =
    let p = err_from_is_err_and c.from_residual.result c.from_residual.ensures.1 in
    rw (p.1, p.2) (place_breaks (λ (x : Content). Drafts c.place.new.d.puts (g.C.Cells.seen c.place.new.d.under.now) x) c.args.column (tier_of (length c.args.bytes.now)) _ (tier_low (length c.args.bytes.now)) (c.in_err-at.ensures.faults cells drafts))

pub returns-then-is_err-clause-sound : goal.returns-then-is_err-clause-sound
returns-then-is_err-clause-sound g c cells content drafts holds chunk =
    let full = c.put.ensures.full.0 (sym c.is_err.ensures.value ∙ c.if-is_err.true) in
    (refl, c.requires.number.0, crowded_in cells c.args.column c.args.chunk.now.base c.args.chunk.now.base content c.args.key.now c.args.chunk.now.entries.items holds chunk full, full)

pub returns-then-is_err-clause-faults : goal.returns-then-is_err-clause-faults
returns-then-is_err-clause-faults g c cells drafts chunk =
    let full = c.put.ensures.full.0 (sym c.is_err.ensures.value ∙ c.if-is_err.true) in
    let o = c.in_ok-at.ensures.only cells drafts in (
      o.0,
      o.1,
      full_chunk o.0 c.args.column c.args.chunk.now.base c.args.chunk.now.number c.args.key.now c.args.chunk.now.entries.items
          (chunk_kept cells o.0 c.args.column c.in_ok-at.at.tier c.args.chunk.now.base c.args.key.now c.args.chunk.now.entries.items chunk o.2 o.3) full c.requires.number.0,
    )

pub returns-in-Ok-clause-inserted : goal.returns-in-Ok-clause-inserted
returns-in-Ok-clause-inserted g c cells content drafts holds chunk none =
    let to : ℕ = tier_of (length c.args.bytes.now) in
    let o = c.in_ok-at.ensures.only cells drafts in
    let d = c.in_ok-at.ensures.placed cells (holds.picture.tables to) drafts (holds.spelled.tables to (tier_low (length c.args.bytes.now))) in
    let same : o.0 ≡ d.2.0 = one_draft o.0 d.2.0 (sym o.1 ∙ d.2.1) in
    let at = put_at c.args.chunk.now.entries.items c.entry_at-new.result c.put.new.c.items (at_ok c.put.result (sym c.is_err.ensures.value ∙ c.if-is_err.false) c.put.ensures.ok) in
    let small : c.entry_at-new.result < 2 ^ 64 = omega arith in (
      _,
      c.in-Ok.ensures.cells d.2.0 d.2.1,
      inserted_held cells d.2.0 c.args.column c.args.chunk.now.base c.args.chunk.now.number c.in_ok-at.at.tier c.in_ok-at.at.slot c.entry_at-new.result content c.args.key.now c.args.chunk.now.entries.items c.put.new.c.items c.args.bytes.now
          holds chunk c.in_ok-at.ensures.tier d.0 (subst (λ (x : Content). OnlyTable c.args.column c.in_ok-at.at.tier cells x) same o.2) (subst (λ (x : Content). IsHeadCell (head_cell x c.args.column)) same o.3) d.2.2 none
          c.entry_at-new.ensures small at c.requires.number.0,
    )

pub returns-in-Ok-clause-uncrowded : goal.returns-in-Ok-clause-uncrowded
returns-in-Ok-clause-uncrowded g c cells content drafts holds chunk =
    let at = put_at c.args.chunk.now.entries.items c.entry_at-new.result c.put.new.c.items (at_ok c.put.result (sym c.is_err.ensures.value ∙ c.if-is_err.false) c.put.ensures.ok) in
    not_crowded_in cells c.args.column c.args.chunk.now.base c.args.chunk.now.base content c.args.key.now c.args.chunk.now.entries.items at.place holds chunk at.empty

pub returns-in_err-at-clause-slots_first : goal.returns-in_err-at-clause-slots_first
returns-in_err-at-clause-slots_first g c cells content drafts holds =
    let p = err_from_is_err_and c.from_residual.result c.from_residual.ensures.1 in
    rw (p.1, p.2) (any_says _)

pub returns-then-is_err-clause-slots_first : goal.returns-then-is_err-clause-slots_first
returns-then-is_err-clause-slots_first g c cells content drafts holds =
    let to : ℕ = tier_of (length c.args.bytes.now) in
    let d = c.in_ok-at.ensures.placed cells (holds.picture.tables to) drafts (holds.spelled.tables to (tier_low (length c.args.bytes.now))) in (
      d.2.0,
      d.2.1,
      record {
        table = holds.picture.tables to;
        room = d.1;
        there = subst (λ t. HasTable d.2.0 c.args.column t (placed (holds.picture.tables to) c.args.key.now 1 c.args.bytes.now)) c.in_ok-at.ensures.tier d.2.2;
      },
    )

pub returns-in_err-at-clause-no_slots : goal.returns-in_err-at-clause-no_slots
returns-in_err-at-clause-no_slots g c cells content drafts holds =
    let p = err_from_is_err_and c.from_residual.result c.from_residual.ensures.1 in
    rw (p.1, p.2) (place_lacks cells c.args.column c.args.chunk.now.base content c.args.key.now c.args.bytes.now _ holds
    (c.in_err-at.ensures.sound cells (holds.picture.tables (tier_of (length c.args.bytes.now))) drafts (keeps_head cells c.args.column c.args.chunk.now.base content holds)
    (holds.spelled.tables (tier_of (length c.args.bytes.now)) (tier_low (length c.args.bytes.now)))))
