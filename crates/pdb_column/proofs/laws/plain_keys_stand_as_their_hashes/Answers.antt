use Rattle.std.proofs.Common.{◌≡◌, if◌then◌else◌, ℕ, List, [], ◌∷◌, All, Option, Some, None, refl, ap, ◌∙◌}
use Rattle.std.specs.Str.{bytes_eq}
use Rattle.std.proofs.lemmas.List.Elements.{All-head, All-tail}
use Rattle.sdb_base.specs.Content.{Counted, meta_after, meta_from}
use Rattle.sdb_base.specs.declared.op.Op.{Op}
use Rattle.sdb_base.specs.declared.op.Op.TheVariants.{AddRef, DropRef, Put, Erase}
use Rattle.sdb_blake2.specs.Blake2b.{H}
use Rattle.pdb_column.specs.Maps.{ColumnMap, HasHashAlone, column_after, column_from, hashed_after}
use Rattle.pdb_column.proofs.Cases.{same_key_or}
use Rattle.pdb_column.proofs.laws.plain_keys_stand_as_their_hashes.Goals as goal

-- a plain key and its hash are tested alike
tested : (k key : List ℕ) (now after : Option Counted) → (H k ≡ H key → k ≡ key) → (if bytes_eq (H k) (H key) then after else now) ≡ (if bytes_eq k key then after else now)
tested k key now after alone =
    same_key_or k key (λ b. (if bytes_eq (H k) (H key) then after else now) ≡ (if b then after else now))
    (λ e. same_key_or (H k) (H key) (λ b. (if b then after else now) ≡ after) (λ _. refl) (λ ne. absurd (ne (ap H e))))
    (λ ne. same_key_or (H k) (H key) (λ b. (if b then after else now) ≡ now) (λ e. absurd (ne (alone e))) (λ _. refl))

one_op : (op : Op) (key : List ℕ) (now : Option Counted) → HasHashAlone key op → hashed_after (H key) now op ≡ meta_after key now op
one_op (AddRef k bytes) key now alone = refl
one_op (DropRef k) key now alone = refl
one_op (Put k bytes) key now alone = tested k key now (Some (record { count = 1; bytes = bytes })) alone
one_op (Erase k) key now alone = tested k key now None alone

each : (ops : List Op) (key : List ℕ) (content : ColumnMap) (now : Option Counted) → All (HasHashAlone key) ops → content (H key) ≡ now
    → column_from 1 content ops (H key) ≡ meta_from key now ops
each [] key content now alone e = e
each (op ∷ ops) key content now alone e =
    each ops key (column_after 1 content op) (meta_after key now op) (All-tail (HasHashAlone key) op ops alone)
    (ap (λ x. hashed_after (H key) x op) e ∙ one_op op key now (All-head (HasHashAlone key) op ops alone))

pub returns : goal.returns
returns c = λ ops key alone. each ops key (λ _. None) None alone refl
