use Rattle.std.proofs.Common.{◌≡◌, ◌<◌, refl, sym, subst, ◌∙◌, arith}
use Rattle.std.proofs.lemmas.Result.{err_from_is_err_and}
use Rattle.pdb_cells.specs.Content.{Content}
use Rattle.pdb_model.specs.Files.{OnlyTable, head_cell}
use Rattle.pdb_model.specs.Heads.{IsHeadCell}
use Rattle.pdb_value.specs.Faults.{Drafts}
use Rattle.pdb_column.proofs.Cells.{chunk_kept, chunk_put, chunk_set}
use Rattle.pdb_column.proofs.Hits.{all_entries, fewer_dropped, last_dropped, one_draft, up_to_end}
use Rattle.pdb_column.proofs.KeyChunks.{in_picture, keeps_head}
use Rattle.pdb_column.proofs.Read.{value_breaks_then}
use Rattle.pdb_column.proofs.remove.remove.Goals as goal

pub returns-in_err-left-clause-faults : goal.returns-in_err-left-clause-faults
returns-in_err-left-clause-faults g c cells drafts all hit =
    let p = err_from_is_err_and c.from_residual.result c.from_residual.ensures.1 in
    rw (p.1, p.2) (value_breaks_then (λ (x : Content). Drafts c.drop_ref.new.d.puts (g.C.Cells.seen c.drop_ref.new.d.under.now) x) c.args.column c.args.hit.at.tier _ c.requires.tier
    (c.in_err-left.ensures.faults cells drafts (up_to_end cells c.args.column c.args.chunk.now.entries.items c.args.hit.place c.args.hit.at.tier c.args.hit.at.slot all hit)))

pub returns-in_err-left-clause-sound : goal.returns-in_err-left-clause-sound
returns-in_err-left-clause-sound g c cells base content key drafts holds at =
    let p = err_from_is_err_and c.from_residual.result c.from_residual.ensures.1 in
    rw (p.1, p.2) (c.in_err-left.ensures.sound cells (holds.picture.tables c.args.hit.at.tier) (record { key = key; count = at.counted.count; value = at.counted.bytes }) drafts
    (keeps_head cells c.args.column base content holds) (holds.spelled.tables c.args.hit.at.tier (let low = c.requires.tier in omega arith)) at.holds)

pub returns-then-left-gt0-clause-dropped : goal.returns-then-left-gt0-clause-dropped
returns-then-left-gt0-clause-dropped g c cells content key drafts holds chunk number hit at =
    let low : c.args.hit.at.tier < 16 = let tier = c.requires.tier in omega arith in
    let end = up_to_end cells c.args.column c.args.chunk.now.entries.items c.args.hit.place c.args.hit.at.tier c.args.hit.at.slot
    (all_entries cells c.args.column c.args.chunk.now.base c.args.chunk.now.base content key c.args.chunk.now.entries.items holds (in_picture cells c.args.column c.args.chunk.now.base c.args.chunk.now.base content key c.args.chunk.now.entries.items holds chunk)) hit in
    let o = c.in_ok-left.ensures.only cells drafts end in
    let d = c.in_ok-left.ensures.dropped cells (holds.picture.tables c.args.hit.at.tier) (record { key = key; count = at.counted.count; value = at.counted.bytes }) drafts (holds.spelled.tables c.args.hit.at.tier low) at.holds in
    let same : o.0 ≡ d.1.0 = one_draft o.0 d.1.0 (sym o.1 ∙ d.1.1) in (
      d.1.0,
      d.1.1,
      fewer_dropped cells d.1.0 c.args.column c.args.chunk.now.base c.args.chunk.now.base content key c.args.chunk.now.entries.items c.args.hit.place c.args.hit.at.tier c.args.hit.at.slot c.in_ok-left.left holds chunk hit at low
          (subst (λ (x : Content). OnlyTable c.args.column c.args.hit.at.tier cells x) same o.2) (subst (λ (x : Content). IsHeadCell (head_cell x c.args.column)) same o.3) d.0 c.if-left-gt0.true d.1.2 refl,
    )

pub returns-then-left-gt0-clause-chunk : goal.returns-then-left-gt0-clause-chunk
returns-then-left-gt0-clause-chunk g c cells key drafts chunk all number hit =
    let o = c.in_ok-left.ensures.only cells drafts (up_to_end cells c.args.column c.args.chunk.now.entries.items c.args.hit.place c.args.hit.at.tier c.args.hit.at.slot all hit) in
    (o.0, o.1, chunk_kept cells o.0 c.args.column c.args.hit.at.tier c.args.chunk.now.base key c.args.chunk.now.entries.items chunk o.2 o.3)

pub returns-clause-dropped : goal.returns-clause-dropped
returns-clause-dropped g c cells content key drafts holds chunk number hit at =
    let low : c.args.hit.at.tier < 16 = let tier = c.requires.tier in omega arith in
    let zero : c.in_ok-left.left ≡ 0 = let none = c.if-left-gt0.false in omega arith in
    let end = up_to_end cells c.args.column c.args.chunk.now.entries.items c.args.hit.place c.args.hit.at.tier c.args.hit.at.slot
    (all_entries cells c.args.column c.args.chunk.now.base c.args.chunk.now.base content key c.args.chunk.now.entries.items holds (in_picture cells c.args.column c.args.chunk.now.base c.args.chunk.now.base content key c.args.chunk.now.entries.items holds chunk)) hit in
    let o = c.in_ok-left.ensures.only cells drafts end in
    let d = c.in_ok-left.ensures.dropped cells (holds.picture.tables c.args.hit.at.tier) (record { key = key; count = at.counted.count; value = at.counted.bytes }) drafts (holds.spelled.tables c.args.hit.at.tier low) at.holds in
    let same : o.0 ≡ d.1.0 = one_draft o.0 d.1.0 (sym o.1 ∙ d.1.1) in (
      _,
      c.in_ok-put_key_chunk.ensures.cells d.1.0 d.1.1,
      last_dropped cells d.1.0 c.args.column c.args.chunk.now.base c.args.chunk.now.base c.args.chunk.now.number content key c.args.chunk.now.entries.items c.clear.new.c.items c.args.hit.place c.args.hit.at.tier c.args.hit.at.slot c.in_ok-left.left
          holds chunk hit at low (subst (λ (x : Content). OnlyTable c.args.column c.args.hit.at.tier cells x) same o.2) (subst (λ (x : Content). IsHeadCell (head_cell x c.args.column)) same o.3) d.0 zero d.1.2 refl number c.clear.ensures,
    )

pub returns-clause-chunk : goal.returns-clause-chunk
returns-clause-chunk g c cells key drafts chunk all number hit =
    let o = c.in_ok-left.ensures.only cells drafts (up_to_end cells c.args.column c.args.chunk.now.entries.items c.args.hit.place c.args.hit.at.tier c.args.hit.at.slot all hit) in (
      _,
      c.in_ok-put_key_chunk.ensures.cells o.0 o.1,
      chunk_put o.0 c.args.column c.args.chunk.now.base c.args.chunk.now.number key c.args.chunk.now.entries.items c.clear.new.c.items
          (chunk_kept cells o.0 c.args.column c.args.hit.at.tier c.args.chunk.now.base key c.args.chunk.now.entries.items chunk o.2 o.3)
          (chunk_set c.args.chunk.now.entries.items c.clear.new.c.items c.args.hit.place 0 chunk.is_chunk (omega arith) c.clear.ensures) number,
    )
