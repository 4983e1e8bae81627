use Rattle.std.proofs.Common.{◌≡◌, List, ◌++◌, ◌∷◌, [], subst, Some, length, sym, ap, ap₂, ◌∙◌, arith}
use Rattle.pdb_cells.specs.Puts.{puts_after}
use Rattle.pdb_cells.specs.inner.Places.{ArePlaced}
use Rattle.pdb_cells.specs.declared.puts.Put.{Put}
use Rattle.pdb_cells.proofs.Keeping.{added, found_at, replaced}
use Rattle.pdb_cells.proofs.put_set.PutSet.put.Goals as goal

pub index_mut-requires : goal.index_mut-requires
index_mut-requires c =
    let within = (found_at c.self.inside.puts.items c.self.inside.places c.args.name c.in-Some.place.now c.self.invariant c.in-Some.ensures.value).within in
    let long = c.self.inside.puts.ok.0 in
    omega arith

pub invariant_of-self : goal.invariant_of-self
invariant_of-self c =
    let sized = c.requires.sized ∙ ap (λ bytes. Some (length bytes)) (sym c.in_ok-bytes.ensures) in
    (replaced c.self.inside.puts.items c.self.inside.places (record { name = c.args.name; bytes = c.in_ok-bytes.bytes }) c.in-Some.place.now
    c.self.invariant c.in-Some.ensures.value (sized, c.requires.index)).1

pub returns-in-Some-clause-ok : goal.returns-in-Some-clause-ok
returns-in-Some-clause-ok c =
    let sized = c.requires.sized ∙ ap (λ bytes. Some (length bytes)) (sym c.in_ok-bytes.ensures) in
    (replaced c.self.inside.puts.items c.self.inside.places (record { name = c.args.name; bytes = c.in_ok-bytes.bytes }) c.in-Some.place.now
    c.self.invariant c.in-Some.ensures.value (sized, c.requires.index)).0
    ∙ ap₂ (λ puts bytes. puts_after puts (record { name = c.args.name; bytes = bytes })) c.self.view_is c.in_ok-bytes.ensures

pub invariant_of-self-in-None : goal.invariant_of-self-in-None
invariant_of-self-in-None c =
    let sized = c.requires.sized ∙ ap (λ bytes. Some (length bytes)) (sym c.in_ok-bytes.ensures) in
    let same = c.in_ok-reserve-in-None.ensures.items in
    let long : c.len.result ≡ length c.self.inside.puts.items = c.len.ensures ∙ c.reserve.new.self.ok.0 ∙ ap length same in
    let p : Put = record { name = c.args.name; bytes = c.in_ok-bytes.bytes } in
    let after = (added c.self.inside.puts.items c.self.inside.places c.insert.new.self p c.len.result c.self.invariant c.in-None.ensures.value
    c.in_ok-insert-in-None.ensures.updates long (sized, c.requires.index)).1 in
    subst (λ (puts : List Put). ArePlaced puts c.insert.new.self) (sym (c.push_reserved.ensures.items ∙ ap (λ puts. puts ++ p ∷ []) same)) after

pub returns-in_ok-insert-in-None-clause-ok : goal.returns-in_ok-insert-in-None-clause-ok
returns-in_ok-insert-in-None-clause-ok c =
    let sized = c.requires.sized ∙ ap (λ bytes. Some (length bytes)) (sym c.in_ok-bytes.ensures) in
    let same = c.in_ok-reserve-in-None.ensures.items in
    let long : c.len.result ≡ length c.self.inside.puts.items = c.len.ensures ∙ c.reserve.new.self.ok.0 ∙ ap length same in
    let p : Put = record { name = c.args.name; bytes = c.in_ok-bytes.bytes } in
    c.push_reserved.ensures.items ∙ ap (λ puts. puts ++ p ∷ []) same
    ∙ (added c.self.inside.puts.items c.self.inside.places c.insert.new.self p c.len.result c.self.invariant c.in-None.ensures.value
    c.in_ok-insert-in-None.ensures.updates long (sized, c.requires.index)).0
    ∙ ap₂ (λ puts bytes. puts_after puts (record { name = c.args.name; bytes = bytes })) c.self.view_is c.in_ok-bytes.ensures
