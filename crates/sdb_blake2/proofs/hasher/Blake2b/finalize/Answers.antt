use Rattle.std.proofs.Common.{◌≡◌, ℕ, ◌-◌, length, take, drop, replicate, refl, ◌∙◌, arith, length-drop}
use Rattle.std.proofs.lemmas.List.{length-take-le}
use Rattle.sdb_blake2.proofs.Holding.{Holds_digest}
use Rattle.sdb_blake2.proofs.hasher.Blake2b.finalize.Goals as goal

pub returns : goal.returns
returns c = λ m held.
    let used : ℕ = c.buffered-used.result in
    let left : length (take (128 - used) (drop used c.args.self.buffer)) ≡ 128 - used =
    length-take-le (128 - used) (drop used c.args.self.buffer) (omega (arith, length-drop used c.args.self.buffer)) in
    let zeros : c.fill.new.self ≡ replicate (128 - used) 0 = rw left at (c.fill.ensures.after (λ y e. e)) in
    c.copy_from_slice.ensures.after
    ∙ Holds_digest c.args.self m _ _ _ _ _ (128 - used) _ held (omega arith) c.buffered-used.ensures refl refl zeros c.compress.ensures
    c.state_bytes-bytes.ensures refl
