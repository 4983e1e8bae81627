use Rattle.std.proofs.Common.{◌≡◌, ◌≤◌, ◌+◌, Some, drop, length, take, sym, ap, ◌∙◌, arith, ◌-◌, length-take, length-drop}
use Rattle.pdb_cells.specs.Sizes.{size_of}
use Rattle.pdb_cells.specs.declared.CellName.{CellName}
use Rattle.pdb_record.proofs.FirstPuts.{none_some, one_body, one_name, same_size, split_put, whole_len}
use Rattle.pdb_record.proofs.put_refs.first_put.Goals.{then-name-ge-END_OF_INDEXES-via-then-name-ge-END_OF_INDEXES, then-name-ge-END_OF_INDEXES-via-else-name-ge-END_OF_INDEXES+then-size-bytes}
use Rattle.pdb_record.proofs.put_refs.first_put.Goals as goal

pub returns-in_default-clause-whole : goal.returns-in_default-clause-whole
returns-in_default-clause-whole c p rest is whole =
    let name : c.put_name-name.result ≡ p.name = one_name c.args.bytes.now rest c.put_name-name.result p (c.put_name-name.ensures.bytes ∙ c.front.ensures) is whole c.put_name-name.ensures.narrow.0 c.put_name-name.ensures.narrow.1 in
    none_some (length p.bytes) (size_of p.name.file) (ap (λ (n : CellName). size_of n.file) (sym name) ∙ (sym c.size.ensures ∙ c.in_default.is)) whole.0

pub returns-then-name-ge-END_OF_INDEXES-clause-whole : goal.returns-then-name-ge-END_OF_INDEXES-clause-whole
returns-then-name-ge-END_OF_INDEXES-clause-whole c p rest is whole =
    let name : c.put_name-name.result ≡ p.name = one_name c.args.bytes.now rest c.put_name-name.result p (c.put_name-name.ensures.bytes ∙ c.front.ensures) is whole c.put_name-name.ensures.narrow.0 c.put_name-name.ensures.narrow.1 in
    let size : c.in-Some.size ≡ length p.bytes = same_size c.put_name-name.result p c.in-Some.size name (sym c.size.ensures ∙ c.in-Some.is) whole in
    elim c.then-name-ge-END_OF_INDEXES.branch [
      | then-name-ge-END_OF_INDEXES-via-then-name-ge-END_OF_INDEXES w ↦
          let index : c.put_name-name.result.index ≡ p.name.index = ap (λ (n : CellName). n.index) name in
          absurd (omega (arith, whole.1, w.if-name-ge-END_OF_INDEXES.true))
      | then-name-ge-END_OF_INDEXES-via-else-name-ge-END_OF_INDEXES+then-size-bytes w ↦
          let len : length c.args.bytes.now ≡ 10 + (length p.bytes + length rest) = whole_len c.args.bytes.now rest p is in
          absurd (omega (arith, w.if-size-bytes.true))
    ]

pub returns-clause-whole : goal.returns-clause-whole
returns-clause-whole c p rest is whole =
    let name : c.put_name-name.result ≡ p.name = one_name c.args.bytes.now rest c.put_name-name.result p (c.put_name-name.ensures.bytes ∙ c.front.ensures) is whole c.put_name-name.ensures.narrow.0 c.put_name-name.ensures.narrow.1 in
    let size : c.in-Some.size ≡ length p.bytes = same_size c.put_name-name.result p c.in-Some.size name (sym c.size.ensures ∙ c.in-Some.is) whole in
    let body : take (10 + c.in-Some.size - 10) (drop 10 c.args.bytes.now) ≡ p.bytes = one_body c.args.bytes.now rest p c.in-Some.size is size in
    λ i. record { name = name i; bytes = body i }

pub returns-clause-only : goal.returns-clause-only
returns-clause-only c =
    let within : 10 + c.in-Some.size ≤ length c.args.bytes.now = omega (arith, c.if-size-bytes.false) in
    let len : c.in-Some.size ≡ length (take (10 + c.in-Some.size - 10) (drop 10 c.args.bytes.now)) = omega (arith, length-take (10 + c.in-Some.size - 10) (drop 10 c.args.bytes.now), length-drop 10 c.args.bytes.now) in (
      (sym c.size.ensures ∙ c.in-Some.is ∙ ap Some len, omega (arith, c.if-name-ge-END_OF_INDEXES.false)),
      split_put c.args.bytes.now c.put_name-name.result c.in-Some.size (c.put_name-name.ensures.bytes ∙ c.front.ensures) within,
    )
