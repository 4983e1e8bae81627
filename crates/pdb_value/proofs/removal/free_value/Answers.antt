use Rattle.std.proofs.Common.{sym, subst}
use Rattle.std.proofs.lemmas.Result.{err_from_is_err_and}
use Rattle.pdb_cells.specs.Content.{Content}
use Rattle.pdb_model.specs.Breaks.{HasEnd}
use Rattle.pdb_model.specs.Files.{OnlyTable}
use Rattle.pdb_model.specs.Tables.{removed}
use Rattle.pdb_model.specs.Tiers.{parts_tier}
use Rattle.pdb_value.specs.Faults.{Drafts, HasTable}
use Rattle.pdb_value.proofs.Broken.{end_keeps}
use Rattle.pdb_value.proofs.LetGo.{begun, end_then, of_tier, slot_within, whole_removed, within_end}
use Rattle.pdb_value.proofs.Spelled.{only_on}
use Rattle.pdb_value.proofs.removal.free_value.Goals as goal

pub returns-else-at-eq-PARTS_TIER-clause-only : goal.returns-else-at-eq-PARTS_TIER-clause-only
returns-else-at-eq-PARTS_TIER-clause-only g c cells drafts has within =
    let step = c.in_ok-free_slot.ensures.freed cells drafts (within_end cells c.args.column c.args.at.tier c.args.at.slot c.args.end c.requires.tier has within) in
    (step.0, step.1, step.2.only, step.2.head)

pub returns-else-at-eq-PARTS_TIER-clause-removed : goal.returns-else-at-eq-PARTS_TIER-clause-removed
returns-else-at-eq-PARTS_TIER-clause-removed g c cells t h drafts has spells holds l n =
    let within = slot_within cells c.args.column c.args.at.tier c.args.at.slot c.args.end t h c.requires.tier has spells holds in
    let step = c.in_ok-free_slot.ensures.freed cells drafts (within_end cells c.args.column c.args.at.tier c.args.at.slot c.args.end c.requires.tier has within) in
    (step.0, step.1, whole_removed cells step.0 c.args.column c.args.at.tier c.args.at.slot t h c.if-at-eq-PARTS_TIER.false step.2 spells holds)

pub returns-in_ok-free_parts-clause-only : goal.returns-in_ok-free_parts-clause-only
returns-in_ok-free_parts-clause-only g c cells drafts has within =
    let low = c.if-at-eq-PARTS_TIER.true in
    let step = c.in_ok-free_slot.ensures.freed cells drafts (within_end cells c.args.column c.args.at.tier c.args.at.slot c.args.end c.requires.tier has within) in
    let end = end_then cells step.0 c.args.column c.args.at.tier c.args.at.slot c.args.end c.requires.tier has step.2 in
    let rest = c.in_ok-free_parts.ensures.only step.0 step.1 (subst (λ k. HasEnd step.0 c.args.column k c.args.end) low end) in
    (rest.0, rest.1, only_on c.args.column c.args.at.tier cells step.0 rest.0 step.2.only (subst (λ k. OnlyTable c.args.column k step.0 rest.0) (sym low) rest.2), end_keeps rest.0 c.args.column parts_tier c.args.end rest.3)

pub returns-in_ok-free_parts-clause-removed : goal.returns-in_ok-free_parts-clause-removed
returns-in_ok-free_parts-clause-removed g c cells t h drafts has spells holds l n =
    let low = c.if-at-eq-PARTS_TIER.true in
    let within = slot_within cells c.args.column c.args.at.tier c.args.at.slot c.args.end t h c.requires.tier has spells holds in
    let step = c.in_ok-free_slot.ensures.freed cells drafts (within_end cells c.args.column c.args.at.tier c.args.at.slot c.args.end c.requires.tier has within) in
    let end = end_then cells step.0 c.args.column c.args.at.tier c.args.at.slot c.args.end c.requires.tier has step.2 in
    let it = begun cells step.0 c.args.column c.args.at.tier c.args.at.slot c.args.end c.args.next c.args.len t h low has step.2 spells holds l n in
    let rest = c.in_ok-free_parts.ensures.freed step.0 it.now it.parts it.bytes step.1 (subst (λ k. HasEnd step.0 c.args.column k c.args.end) low end) it.spelled it.are it.first_is it.long it.loose in
    (rest.0, rest.1, subst (λ k. HasTable rest.0 c.args.column k (removed t c.args.at.slot)) (sym low) (subst (HasTable rest.0 c.args.column parts_tier) it.ends rest.2))

pub returns-in_err-free_parts-clause-faults : goal.returns-in_err-free_parts-clause-faults
returns-in_err-free_parts-clause-faults g c cells drafts has within =
    let low = c.if-at-eq-PARTS_TIER.true in
    let step = c.in_ok-free_slot.ensures.freed cells drafts (within_end cells c.args.column c.args.at.tier c.args.at.slot c.args.end c.requires.tier has within) in
    let end = end_then cells step.0 c.args.column c.args.at.tier c.args.at.slot c.args.end c.requires.tier has step.2 in
    let p = err_from_is_err_and c.from_residual-in_err-free_parts.result c.from_residual-in_err-free_parts.ensures.1 in
    rw (p.1, p.2) (of_tier (λ (x : Content). Drafts c.free_parts.new.d.puts (g.C.Cells.seen c.free_parts.new.d.under.now) x) c.args.column c.args.at.tier _ low
    (c.in_err-free_parts.ensures.faults step.0 step.1 (subst (λ k. HasEnd step.0 c.args.column k c.args.end) low end)))

pub returns-in_err-free_parts-clause-sound : goal.returns-in_err-free_parts-clause-sound
returns-in_err-free_parts-clause-sound g c cells t h drafts has spells holds l n =
    let low = c.if-at-eq-PARTS_TIER.true in
    let within = slot_within cells c.args.column c.args.at.tier c.args.at.slot c.args.end t h c.requires.tier has spells holds in
    let step = c.in_ok-free_slot.ensures.freed cells drafts (within_end cells c.args.column c.args.at.tier c.args.at.slot c.args.end c.requires.tier has within) in
    let end = end_then cells step.0 c.args.column c.args.at.tier c.args.at.slot c.args.end c.requires.tier has step.2 in
    let it = begun cells step.0 c.args.column c.args.at.tier c.args.at.slot c.args.end c.args.next c.args.len t h low has step.2 spells holds l n in
    let p = err_from_is_err_and c.from_residual-in_err-free_parts.result c.from_residual-in_err-free_parts.ensures.1 in
    rw (p.1, p.2) (c.in_err-free_parts.ensures.sound step.0 it.now it.parts it.bytes step.1 (subst (λ k. HasEnd step.0 c.args.column k c.args.end) low end) it.spelled it.are it.first_is it.long it.loose)
