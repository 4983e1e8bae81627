use Rattle.std.proofs.Common.{◌≡◌, ◌<◌, ℕ, List, Option, Some, None, [], refl, sym, ap, subst, ◌∙◌}
use Rattle.sdb_base.specs.Content.{Counted}
use Rattle.pdb_model.specs.Tables.{Held, held}
use Rattle.pdb_model.specs.Columns.{Column, IsColumn, IsUnder}
use Rattle.pdb_model.proofs.laws.content_is_one_map.Goals as goal

count_in : Option Held → ℕ
count_in None = 0
count_in (Some h) = h.count

value_in : Option Held → List ℕ
value_in None = []
value_in (Some h) = h.value

pub returns : goal.returns
unfolding count_in value_in
returns c column key one other is a b =
    let same : (a.0 ≡ b.0) × (a.1 ≡ b.1) = is.keys a.0 a.1 b.0 b.1 _ _ a.2 b.2 a.3 b.3 refl in
    let slot : held ((column.tables a.0).slot a.1) ≡ held ((column.tables b.0).slot b.1) = ap (λ t. held ((column.tables t).slot a.1)) same.0 ∙ ap (λ i. held ((column.tables b.0).slot i)) same.1 in
    let both : Some (record { key = key; count = one.count; value = one.bytes }) ≡ Some (record { key = key; count = other.count; value = other.bytes }) = sym a.3 ∙ (slot ∙ b.3) in
    let counts : one.count ≡ other.count = ap count_in both in
    let bytes : one.bytes ≡ other.bytes = ap value_in both in
    λ i. record { count = counts i; bytes = bytes i }
