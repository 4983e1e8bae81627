use Rattle.std.proofs.Common.{ℕ, List, Any, sym, subst, inl, inr}
use Rattle.pdb_cells.specs.Sizes.{head_file}
use Rattle.pdb_model.specs.Files.{index_file}
use Rattle.pdb_column.specs.Damages.{BreaksColumn, HasOtherIndex}
use Rattle.pdb_column.specs.inner.KeyChunks.{HasKeyChunk, IsNoEntryOf}
use Rattle.pdb_column.proofs.KeyChunks.{all_keep, broken_entry, in_picture, key_chunk, not_other, other_index}
use Rattle.pdb_column.proofs.key_chunk.read_key_chunk.Goals as goal

pub returns-in_default-clause-faults : goal.returns-in_default-clause-faults
returns-in_default-clause-faults g c cells seen =
    inr (inl (subst (HasOtherIndex cells c.args.column head_file) (sym c.from.ensures)
    (other_index cells c.args.column c.in_ok-head.head (c.in_ok-head.ensures.cell cells seen) c.in_ok-head.ensures.head c.in_default.ensures.base)))

pub returns-in_default-clause-sound : goal.returns-in_default-clause-sound
returns-in_default-clause-sound g c cells base content seen holds =
    not_other cells c.args.column base content c.in_ok-head.head (c.in_ok-head.ensures.cell cells seen) holds c.in_default.ensures.base

pub returns-in_err-cell-clause-stays : goal.returns-in_err-cell-clause-stays
returns-in_err-cell-clause-stays g c cells seen = g.met.C.Cells.stays _ _ cells c.cell.ensures.keeps (c.read_head.ensures.stays cells seen)

pub returns-then-not-are_entries-clause-stays : goal.returns-then-not-are_entries-clause-stays
returns-then-not-are_entries-clause-stays g c cells seen = g.met.C.Cells.stays _ _ cells c.cell.ensures.keeps (c.read_head.ensures.stays cells seen)

pub returns-clause-stays : goal.returns-clause-stays
returns-clause-stays g c cells seen = g.met.C.Cells.stays _ _ cells c.cell.ensures.keeps (c.read_head.ensures.stays cells seen)

pub returns-then-not-are_entries-clause-faults : goal.returns-then-not-are_entries-clause-faults
returns-then-not-are_entries-clause-faults g c cells seen =
    let here = c.in_ok-head.ensures.cell cells seen in
    let chunk : HasKeyChunk cells c.args.column c.args.key.now c.in-Some.base c.read_chunk-entries.result.items = key_chunk cells c.args.column c.in-Some.base c.chunk_of-number.result c.chunk_name-name.result.file c.chunk_name-name.result.index
    c.args.key.now c.in_ok-head.head c.read_chunk-entries.result.items c.cell.new.into here c.in_ok-head.ensures.head c.in-Some.ensures.base.1 c.read_chunk-entries.ensures.chunk c.read_chunk-entries.ensures.spelled
    (c.in_ok-cell.ensures.bytes cells (c.read_head.ensures.stays cells seen)) c.chunk_name-name.ensures.file c.chunk_name-name.ensures.index c.chunk_of-number.ensures in
    let any : Any (IsNoEntryOf c.in_ok-head.head) c.read_chunk-entries.result.items = subst (λ (xs : List ℕ). Any (IsNoEntryOf c.in_ok-head.head) xs) c.as_slice.ensures.value c.if-not-are_entries.ensures.rules in
    let breaks = broken_entry cells c.args.column c.in-Some.base c.args.key.now c.in_ok-head.head c.read_chunk-entries.result.items here chunk any in
    subst (λ f. BreaksColumn cells c.args.column f c.chunk_of-number.result) (sym c.chunk_name-name.ensures.file) (subst (BreaksColumn cells c.args.column (index_file c.args.column c.in-Some.base)) (sym c.chunk_of-number.ensures) breaks)

pub returns-then-not-are_entries-clause-sound : goal.returns-then-not-are_entries-clause-sound
returns-then-not-are_entries-clause-sound g c cells base content seen holds =
    let here = c.in_ok-head.ensures.cell cells seen in
    let chunk : HasKeyChunk cells c.args.column c.args.key.now c.in-Some.base c.read_chunk-entries.result.items = key_chunk cells c.args.column c.in-Some.base c.chunk_of-number.result c.chunk_name-name.result.file c.chunk_name-name.result.index
    c.args.key.now c.in_ok-head.head c.read_chunk-entries.result.items c.cell.new.into here c.in_ok-head.ensures.head c.in-Some.ensures.base.1 c.read_chunk-entries.ensures.chunk c.read_chunk-entries.ensures.spelled
    (c.in_ok-cell.ensures.bytes cells (c.read_head.ensures.stays cells seen)) c.chunk_name-name.ensures.file c.chunk_name-name.ensures.index c.chunk_of-number.ensures in
    let any : Any (IsNoEntryOf c.in_ok-head.head) c.read_chunk-entries.result.items = subst (λ (xs : List ℕ). Any (IsNoEntryOf c.in_ok-head.head) xs) c.as_slice.ensures.value c.if-not-are_entries.ensures.rules in
    all_keep cells c.args.column base c.in-Some.base content c.args.key.now c.read_chunk-entries.result.items holds
    (in_picture cells c.args.column base c.in-Some.base content c.args.key.now c.read_chunk-entries.result.items holds chunk)
    (subst (λ (h : List ℕ). Any (IsNoEntryOf h) c.read_chunk-entries.result.items) here any)

pub returns-clause-spelled : goal.returns-clause-spelled
returns-clause-spelled g c cells seen =
    key_chunk cells c.args.column c.in-Some.base c.chunk_of-number.result c.chunk_name-name.result.file c.chunk_name-name.result.index
    c.args.key.now c.in_ok-head.head c.read_chunk-entries.result.items c.cell.new.into (c.in_ok-head.ensures.cell cells seen) c.in_ok-head.ensures.head c.in-Some.ensures.base.1 c.read_chunk-entries.ensures.chunk
    c.read_chunk-entries.ensures.spelled (c.in_ok-cell.ensures.bytes cells (c.read_head.ensures.stays cells seen)) c.chunk_name-name.ensures.file c.chunk_name-name.ensures.index c.chunk_of-number.ensures
