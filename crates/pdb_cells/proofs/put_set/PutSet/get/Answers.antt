use Rattle.std.proofs.Common.{Some, length, sym, ap, ◌∙◌, arith}
use Rattle.pdb_cells.specs.Puts.{last_put}
use Rattle.pdb_cells.specs.declared.puts.Put.{Put}
use Rattle.pdb_cells.proofs.Keeping.{found_at, found_none, found_sized}
use Rattle.pdb_cells.proofs.put_set.PutSet.get.Goals as goal

pub index-requires : goal.index-requires
index-requires c =
    let within = (found_at c.self.inside.puts.items c.self.inside.places c.args.name.now c.in-Some.place.now c.self.invariant c.in-Some.ensures.value).within in
    let long = c.self.inside.puts.ok.0 in
    omega arith

pub returns-in-Some-clause-bytes : goal.returns-in-Some-clause-bytes
returns-in-Some-clause-bytes c =
    let at = found_at c.self.inside.puts.items c.self.inside.places c.args.name.now c.in-Some.place.now c.self.invariant c.in-Some.ensures.value in
    ap Some (c.as_slice.ensures ∙ ap (λ (p : Put). p.bytes) c.index.ensures) ∙ sym (at.last c.index.result.now) ∙ ap (λ ps. last_put ps c.args.name.now) c.self.view_is

pub returns-in-Some-clause-sized : goal.returns-in-Some-clause-sized
returns-in-Some-clause-sized c =
    found_sized c.self.inside.puts.items c.self.inside.places c.args.name.now c.in-Some.place.now c.index.result.now c.self.invariant c.in-Some.ensures.value
    ∙ ap (λ xs. Some (length xs)) (sym (c.as_slice.ensures ∙ ap (λ (p : Put). p.bytes) c.index.ensures))

pub returns-in-None-clause-bytes : goal.returns-in-None-clause-bytes
returns-in-None-clause-bytes c =
    sym (found_none c.self.inside.puts.items c.self.inside.places c.args.name.now c.self.invariant c.in-None.ensures.value)
    ∙ ap (λ ps. last_put ps c.args.name.now) c.self.view_is
