use Rattle.std.proofs.Common.{rules, ◌≡◌, ◌≤◌, ◌-◌, ◌++◌, length, take, replicate, ap, ◌∙◌, vec_len}
use Rattle.pdb_memdisk.specs.Contents.{content_of}
use Rattle.pdb_memdisk.proofs.Bytes.{content_resized}
use Rattle.pdb_memdisk.proofs.contents.FileBytes.extend.Goals as goal

pub returns-in_ok-resize-clause-same : goal.returns-in_ok-resize-clause-same
returns-in_ok-resize-clause-same c =
    let k = c.args.len - vec_len c.self.inside.bytes in
    let e : c.resize.new.self.items ≡ take c.args.len c.args.self.now ++ replicate k 0 = search rules in
    let le : length c.args.self.now ≤ c.args.len = search rules in
    ap content_of e ∙ content_resized c.args.self.now c.args.len k le
