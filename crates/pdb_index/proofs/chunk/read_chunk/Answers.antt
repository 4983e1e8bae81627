use Rattle.std.proofs.Common.{◌≡◌, ◌+◌, ◌<◌, ◌^◌, ℕ, All, sym, ap, subst, ◌∙◌, arith}
use Rattle.std.proofs.lemmas.Grind.{common_steps}
use Rattle.std.proofs.lemmas.List.Elements.{All-push}
use Rattle.pdb_model.specs.Chunks.{chunk_bytes}
use Rattle.pdb_index.proofs.Spellings.{one_more_read, same_chunk}
use Rattle.pdb_index.proofs.chunk.read_chunk.Goals as goal

pub loop-i-preserved : goal.loop-i-preserved
loop-i-preserved c =
    let narrow : ℕ → Type 0 = λ e. e < 2 ^ 64 in
    let small : c.read_entry.result < 2 ^ 64 = omega arith in
    record {
      places = c.push.ensures.len ∙ ap (λ n. n + 1) c.loop-i.invariant.places;
      narrow = subst (All narrow) (sym c.push.ensures.items) (All-push narrow c.loop-i.chunk.items c.read_entry.result c.loop-i.invariant.narrow small);
      spelled = ap chunk_bytes c.push.ensures.items
          ∙ one_more_read c.loop-i.chunk.items c.read_entry.result c.loop-i.i c.args.bytes.now c.loop-i.invariant.spelled c.read_entry.ensures;
    }

pub returns-clause-only : goal.returns-clause-only
returns-clause-only c entries chunk e =
    let whole : chunk_bytes c.loop-i.chunk.items ≡ c.args.bytes.now = grind (arith, common_steps) in
    same_chunk c.loop-i.chunk.items entries (record { places = omega arith; narrow = c.loop-i.invariant.narrow }) chunk (whole ∙ sym e)
