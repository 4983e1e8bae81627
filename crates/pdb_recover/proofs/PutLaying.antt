-- Puts of a record, laid one after the other.
use Rattle.std.proofs.Common.{◌≡◌, ℕ, List, [], ◌∷◌, Some, None, All, sym, ◌∙◌, ap, append-nil}
use Rattle.pdb_cells.specs.Puts.{IsWholeCell, puts_after}
use Rattle.pdb_cells.specs.declared.Put.{Put}
use Rattle.pdb_model.specs.Records.{HasRecord, IsRecord, Record, body_bytes, record_bytes}
use Rattle.pdb_record.specs.Scans.{Leaves, put_of}
use Rattle.pdb_record.specs.declared.put_refs.PutRef.{PutRef}
use Rattle.pdb_record.specs.declared.put_refs.PutRefs.{PutRefs}
use Rattle.pdb_recover.specs.Scanning.{puts_all}

-- whatever puts a body has, some of them are laid, and these are left
abbrev pub IsLaidTo : List ℕ → List Put → PutRefs → List Put → Type 0
IsLaidTo body old it now = (ps : List Put) → All IsWholeCell ps → body ≡ body_bytes ps → (qs : List Put) × Leaves it qs × (puts_all old ps ≡ puts_all now qs)

-- one more put
pub laid_on : (body : List ℕ) (old : List Put) (it next : PutRefs) (now new : List Put) (put : PutRef) → IsLaidTo body old it now
    → ((p : Put) (ps : List Put) → Leaves it (p ∷ ps) → put_of put ≡ p) → ((p : Put) (ps : List Put) → Leaves it (p ∷ ps) → Leaves next ps) → (Leaves it [] → ⊥)
    → new ≡ puts_after now (put_of put) → IsLaidTo body old next new
laid_on body old it next now new put before same later ends e ps whole is = step (before ps whole is)
  where
    step : ((qs : List Put) × Leaves it qs × (puts_all old ps ≡ puts_all now qs)) → (qs : List Put) × Leaves next qs × (puts_all old ps ≡ puts_all new qs)
    step ([], l, k) = absurd (ends l)
    step (q ∷ qs, l, k) = (qs, later q qs l, k ∙ ap (λ p. puts_all (puts_after now p) qs) (sym (same q qs l)) ∙ ap (λ m. puts_all m qs) (sym e))

-- no put is left
pub laid_all : (body : List ℕ) (old : List Put) (it : PutRefs) (now : List Put) → IsLaidTo body old it now → ((p : Put) (ps : List Put) → Leaves it (p ∷ ps) → ⊥)
    → (ps : List Put) → All IsWholeCell ps → body ≡ body_bytes ps → now ≡ puts_all old ps
laid_all body old it now before none ps whole is = step (before ps whole is)
  where
    step : ((qs : List Put) × Leaves it qs × (puts_all old ps ≡ puts_all now qs)) → now ≡ puts_all old ps
    step ([], l, k) = sym k
    step (q ∷ qs, l, k) = absurd (none q qs l)

pub some_none : (r : PutRef) → Some r ≡ None → ⊥
some_none r e = cc

pub has_whole : (bytes : List ℕ) (r : Record) → IsRecord r → bytes ≡ record_bytes r → HasRecord bytes 0 r
has_whole bytes r is e = record { is = is; rest = []; there = e ∙ sym (append-nil (record_bytes r)) }
