use Rattle.std.proofs.Common.{◌≡◌, ◌+◌, ◌++◌, ◌∙◌, length, ap, arith}
use Rattle.pdb_recover.proofs.ReadAdding.{filled}
use Rattle.pdb_recover.proofs.ReadBytes.{read_is}
use Rattle.pdb_recover.proofs.record_at.add_bytes.Goals as goal

pub returns-in-Ok-clause-added : goal.returns-in-Ok-clause-added
returns-in-Ok-clause-added g c told =
    let start : c.len-start.result ≡ length c.args.bytes.now.items = c.len-start.ensures ∙ c.args.bytes.now.ok.0 in
    let n : c.resize.new.self.len ≡ c.len-start.result + c.args.len = c.in_ok-resize.ensures.len in
    let long : length c.read_at.new.into ≡ c.args.len = omega (arith, c.read_at.auto.into, c.deref_mut.ensures.len, n, c.resize.new.self.ok.0) in
    filled c.args.bytes.now.items c.resize.new.self.items c.deref_mut.result.now c.read_at.new.into c.len-start.result (c.len-start.result + c.args.len) _ _ c.resize.new.self.len
    start c.in_ok-resize.ensures.items c.deref_mut.ensures.value (omega (arith, n, long)) n
    ∙ ap (λ xs. c.args.bytes.now.items ++ xs) (read_is _ c.args.at c.read_at.new.into c.args.len long (c.in-Ok.ensures.bytes told))
