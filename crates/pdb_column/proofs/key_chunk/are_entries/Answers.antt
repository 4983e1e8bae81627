use Rattle.std.proofs.Common.{◌≤◌, ℕ, take, refl, sym, arith}
use Rattle.std.proofs.lemmas.List.{take_all}
use Rattle.std.proofs.lemmas.List.Elements.{All-more, All-same}
use Rattle.pdb_model.specs.Chunks.{entry_tier}
use Rattle.pdb_column.specs.inner.KeyChunks.{IsEntryOf}
use Rattle.pdb_column.proofs.key_chunk.are_entries.Goals as goal

pub loop-entry-preserved : goal.loop-entry-preserved
loop-entry-preserved c = (
  All-more (IsEntryOf c.args.head.now) c.args.entries.now c.loop-entry.entry-index 0 (omega arith) c.loop-entry.invariant.0 c.if-not-is_entry.ensures.rules,
  All-more (λ (e : ℕ). entry_tier e ≤ 15) c.args.entries.now c.loop-entry.entry-index 0 (omega arith) c.loop-entry.invariant.1 (c.if-not-is_entry.ensures.tier refl),
)

pub returns-clause-rules : goal.returns-clause-rules
returns-clause-rules c =
    All-same (IsEntryOf c.args.head.now) c.args.entries.now (take c.loop-entry.entry-index c.args.entries.now) (sym (take_all c.loop-entry.entry-index c.args.entries.now (omega arith))) c.loop-entry.invariant.0

pub returns-clause-tiers : goal.returns-clause-tiers
returns-clause-tiers c _ =
    All-same (λ (e : ℕ). entry_tier e ≤ 15) c.args.entries.now (take c.loop-entry.entry-index c.args.entries.now) (sym (take_all c.loop-entry.entry-index c.args.entries.now (omega arith))) c.loop-entry.invariant.1
