use Rattle.std.proofs.Common.{◌≡◌, ◌+◌, ◌++◌, sym, ◌∙◌, subst, arith}
use Rattle.pdb_disk.specs.Files.{Files}
use Rattle.pdb_model.specs.Recovery.{bytes_from}
use Rattle.pdb_recover.proofs.PutBodies.{name_there, no_size, size_there}
use Rattle.pdb_recover.proofs.ReadBytes.{same_files}
use Rattle.pdb_recover.proofs.record_at.add_put.Goals as goal

pub returns-in_default-clause-put : goal.returns-in_default-clause-put
returns-in_default-clause-put g c told p whole there low =
    let same = name_there (g.D.Disk.past c.args.disk.now (g.D.Disk.clock c.args.disk.now) c.args.file).read c.args.at c.read_at.new.into c.put_name.result p c.read_at.auto.into (c.in-Ok.ensures.bytes told) c.put_name.ensures.bytes
    c.put_name.ensures.narrow.0 c.put_name.ensures.narrow.1 whole there in
    no_size c.put_name.result p same (sym c.size.ensures ∙ c.in_default.is) whole

pub returns-then-size-left-clause-put : goal.returns-then-size-left-clause-put
returns-then-size-left-clause-put g c told p whole there low =
    let same = name_there (g.D.Disk.past c.args.disk.now (g.D.Disk.clock c.args.disk.now) c.args.file).read c.args.at c.read_at.new.into c.put_name.result p c.read_at.auto.into (c.in-Ok.ensures.bytes told) c.put_name.ensures.bytes
    c.put_name.ensures.narrow.0 c.put_name.ensures.narrow.1 whole there in
    let len = size_there c.put_name.result p c.in-Some.size same (sym c.size.ensures ∙ c.in-Some.is) whole in
    let over = c.if-size-left.true in
    omega (arith, len, low, over)

pub returns-clause-put : goal.returns-clause-put
returns-clause-put g c told =
    let same = same_files g.D.Disk.clock g.D.Disk.past c.args.disk.now c.read_at.new.self c.in-Ok.ensures.time c.in-Ok.ensures.unchanged in
    record {
      len = 10 + c.in-Some.size;
      added = subst (λ (fs : Files). c.add_bytes.new.bytes.items ≡ c.args.bytes.now.items ++ bytes_from (fs c.args.file).read c.args.at (10 + c.in-Some.size)) same
          (c.in_ok-add_bytes.ensures.added (c.in-Ok.ensures.told told));
      only = λ p whole there.
          let named = name_there (g.D.Disk.past c.args.disk.now (g.D.Disk.clock c.args.disk.now) c.args.file).read c.args.at c.read_at.new.into c.put_name.result p c.read_at.auto.into (c.in-Ok.ensures.bytes told) c.put_name.ensures.bytes
          c.put_name.ensures.narrow.0 c.put_name.ensures.narrow.1 whole there in
          size_there c.put_name.result p c.in-Some.size named (sym c.size.ensures ∙ c.in-Some.is) whole;
    }
