use Rattle.std.proofs.Common.{◌≡◌, ◌*◌, ◌∙◌, length, refl, ap, sym, subst, arith, Some}
use Rattle.pdb_disk.specs.Files.{StandsAt}
use Rattle.pdb_redo.proofs.CellSizes.{cell_low, cell_short}
use Rattle.pdb_redo.proofs.Redos.{kept_redo, last_cells}
use Rattle.pdb_redo.proofs.ReadBelow.{read_below, same_files}
use Rattle.pdb_redo.proofs.SameRest.{same_rest}
use Rattle.pdb_redo.proofs.Sized.{newest_sized}
use Rattle.pdb_redo.proofs.redo_log.Redo.read_cell.Goals as goal

pub copy_from_slice-requires-in-Some-get : goal.copy_from_slice-requires-in-Some-get
copy_from_slice-requires-in-Some-get g c =
    let here = newest_sized _ c.args.name c.in-Some-get.bytes.now c.args.self.now.whole (sym c.in-Some-get.ensures) in
    let asked = c.requires.sized in
    let same : Some (length c.args.into.now) ≡ Some (length c.in-Some-get.bytes.now) = sym asked ∙ here in
    cc

pub overflow_mul-at : goal.overflow_mul-at
overflow_mul-at g c =
    let low = cell_low c.args.name.file (length c.args.into.now) c.args.name.index c.requires.sized c.requires.index in
    omega (arith, low)

pub read_at-requires : goal.read_at-requires
read_at-requires g c =
    let low = cell_low c.args.name.file (length c.args.into.now) c.args.name.index c.requires.sized c.requires.index in
    let short = cell_short c.args.name.file (length c.args.into.now) c.requires.sized in
    omega (arith, low, short)

pub returns-in-Ok-clause-bytes : goal.returns-in-Ok-clause-bytes
returns-in-Ok-clause-bytes g c told =
    read_below g.D.Disk.tells g.D.Disk.clock g.D.Disk.past c.args.self.now c.args.name c.read_at.new.into
    (c.requires.sized ∙ ap Some (sym c.read_at.auto.into)) c.in_default.ensures c.in_default-get.ensures
    (subst (λ n. StandsAt (g.D.Disk.past c.args.self.now.log.disk (g.D.Disk.clock c.args.self.now.log.disk) c.args.name.file).read (c.args.name.index * n) c.read_at.new.into) (sym c.read_at.auto.into) (c.in-Ok.ensures.bytes told))

pub returns-in-Ok-clause-row : goal.returns-in-Ok-clause-row
returns-in-Ok-clause-row g c rows f row is there =
    returns-in-Ok-clause-bytes g c is.1.log.told ∙ last_cells g.D.Disk.tells g.D.Disk.clock g.D.Disk.past c.args.self.now rows f row is there _ _

pub returns-in-Ok-clause-stands : goal.returns-in-Ok-clause-stands
returns-in-Ok-clause-stands g c rows f is = (
  is.0,
  kept_redo g.D.Disk.tells g.D.Disk.clock g.D.Disk.past c.args.self.now _ is.0 rows f is.1
      (λ j high. same_files _ _ _ _ c.read_at.ensures.time c.read_at.ensures.unchanged j) refl refl refl refl refl (c.read_at.ensures.stands is.0 rows f is.1.log) refl refl,
)

pub returns-in-Err-clause-stands : goal.returns-in-Err-clause-stands
returns-in-Err-clause-stands g c rows f is = (
  is.0,
  kept_redo g.D.Disk.tells g.D.Disk.clock g.D.Disk.past c.args.self.now _ is.0 rows f is.1
      (λ j high. same_files _ _ _ _ c.read_at.ensures.time c.read_at.ensures.unchanged j) refl refl refl refl refl (c.read_at.ensures.stands is.0 rows f is.1.log) refl refl,
)

pub returns-in-Err-clause-keeps : goal.returns-in-Err-clause-keeps
returns-in-Err-clause-keeps g c = record {
  log = c.read_at.ensures.rest;
  rest = same_rest c.args.self.now c.read_at.new.self _ _ _ _;
  time = c.read_at.ensures.time;
  unchanged = c.read_at.ensures.unchanged;
  told = c.read_at.ensures.told;
  untold = c.read_at.ensures.untold;
  faults = c.read_at.ensures.faults;
  reads = c.reads_after-self.ensures.rises;
}
