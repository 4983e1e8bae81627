use Rattle.std.proofs.Common.{codes, take}
use Rattle.std.proofs.lemmas.Result.{err_from_is_err_and}
use Rattle.sdb_script.specs.Texts.{keys_text}
use Rattle.sdb_script.proofs.ListedKeys.{first_stays}
use Rattle.sdb_script.proofs.text.append_listed.Goals as goal

pub returns-in_err-append_bytes-clause-err : goal.returns-in_err-append_bytes-clause-err
returns-in_err-append_bytes-clause-err c =
    let p = err_from_is_err_and c.from_residual-in_err-append_bytes.result c.from_residual-in_err-append_bytes.ensures.1 in
    rw p.1 (first_stays c.args.out.now.items (codes "list") (keys_text (take c.loop-key.key-index c.args.keys.now)) c.loop-key.out.items c.append_bytes.new.out.items c.loop-key.invariant c.in_err-append_bytes.ensures.err)
