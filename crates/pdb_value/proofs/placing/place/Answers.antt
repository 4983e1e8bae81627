use Rattle.std.proofs.Common.{◌≡◌, length, refl, sym, subst, ◌∙◌, arith}
use Rattle.std.proofs.lemmas.Result.{err_from_is_err_and}
use Rattle.pdb_cells.specs.Content.{Content}
use Rattle.pdb_model.specs.Tables.{placed, room_of, slots_of}
use Rattle.pdb_model.specs.Tiers.{parts_tier, tier_of}
use Rattle.pdb_value.specs.Faults.{Drafts, HasTable}
use Rattle.pdb_value.proofs.Taken.{tier_faults, tier_sound}
use Rattle.pdb_value.proofs.placing.place.Goals as goal

pub returns-then-tier-lt-PARTS_TIER-clause-placed : goal.returns-then-tier-lt-PARTS_TIER-clause-placed
returns-then-tier-lt-PARTS_TIER-clause-placed g c cells t drafts spells =
    c.in_ok-slot.ensures.placed cells t drafts (subst (λ k. HasTable cells c.args.column k t) (sym c.tier_for-tier.ensures.tier) spells)

pub returns-in_err-slot-2-clause-faults : goal.returns-in_err-slot-2-clause-faults
returns-in_err-slot-2-clause-faults g c cells drafts =
    let last : parts_tier ≡ c.tier_for-tier.result = omega arith in
    let p = err_from_is_err_and c.from_residual-in_err-slot-2.result c.from_residual-in_err-slot-2.ensures.1 in
    rw (p.1, p.2) (tier_faults (λ (x : Content). Drafts c.place_parts.new.d.puts (g.C.Cells.seen c.place_parts.new.d.under.now) x) c.args.column parts_tier (tier_of (length c.args.bytes.now)) _ (last ∙ c.tier_for-tier.ensures.tier)
    (c.in_err-slot-2.ensures.faults cells drafts))

pub returns-in_err-slot-2-clause-sound : goal.returns-in_err-slot-2-clause-sound
returns-in_err-slot-2-clause-sound g c cells t drafts keeps spells =
    let last : parts_tier ≡ c.tier_for-tier.result = omega arith in
    let all : parts_tier ≡ tier_of (length c.args.bytes.now) = last ∙ c.tier_for-tier.ensures.tier in
    let p = err_from_is_err_and c.from_residual-in_err-slot-2.result c.from_residual-in_err-slot-2.ensures.1 in
    rw (p.1, p.2) (tier_sound (room_of t) (slots_of (length c.args.bytes.now)) (slots_of (length c.args.bytes.now)) parts_tier (tier_of (length c.args.bytes.now)) _ all refl
    (c.in_err-slot-2.ensures.sound cells t drafts keeps (subst (λ k. HasTable cells c.args.column k t) (sym all) spells)))

pub returns-clause-placed : goal.returns-clause-placed
returns-clause-placed g c cells t drafts spells =
    let last : parts_tier ≡ c.tier_for-tier.result = omega arith in
    let all : parts_tier ≡ tier_of (length c.args.bytes.now) = last ∙ c.tier_for-tier.ensures.tier in
    let step = c.in_ok-slot-2.ensures.placed cells t drafts (subst (λ k. HasTable cells c.args.column k t) (sym all) spells) in
    (step.0, step.1, (step.2.0, step.2.1, subst (λ k. HasTable step.2.0 c.args.column k (placed t c.args.key.now c.args.count c.args.bytes.now)) last step.2.2))
