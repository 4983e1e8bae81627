-- What a keeper's faults come to.
use Rattle.std.proofs.Common.{◌≡◌, ◌⊎◌, ◌≤◌, ℕ, Bool, List, sym, subst, inl, inr, refl, arith}
use Rattle.std.specs.Prelude.{All, Any}
use Rattle.std.proofs.lemmas.List.Elements.{recursion_from_All}
use Rattle.std.specs.Prelude.{length}
use Rattle.sdb_io.specs.Faults.{CountsFault}
use Rattle.sdb_base.specs.Keeping.{HasValueOf, IsCause, IsCommitCause, is_disk}
use Rattle.sdb_base.specs.declared.node.Node.{Node}
use Rattle.sdb_base.specs.declared.op.Op.{Op}
use Rattle.sdb_base.specs.declared.numbers.KeepFault.{KeepFault}
use Rattle.sdb_base.specs.declared.numbers.KeepFault.TheVariants.{OutOfMemory, Disk, Stopped, ValueTooLong, IndexFull, TierFull, Damaged, NumbersEnd}
use Rattle.sdb_serve.specs.BlockCommits.{references_to}
use Rattle.sdb_serve.specs.inner.Kept.{IsKeeperCause, MeetsNoBadNode, fault_of_keeper, is_of_disk}
use Rattle.sdb_serve.specs.declared.nodes.NodeFault.{NodeFault}
use Rattle.sdb_serve.specs.declared.nodes.NodeFault.TheVariants as nodes
use Rattle.sdb_serve.proofs.AddedNodes.{no_longer}

-- what comes of a keeper's fault is the disk's where the fault is
disk_is : (fault : KeepFault) → is_of_disk (fault_of_keeper fault) ≡ is_disk fault
disk_is OutOfMemory = refl
disk_is Disk = refl
disk_is (Stopped call) = refl
disk_is (ValueTooLong len) = refl
disk_is (IndexFull column bits chunk) = refl
disk_is (TierFull column tier) = refl
disk_is (Damaged file cell) = refl
disk_is (NumbersEnd which) = refl

pub counts : (fault : KeepFault) (before after : ℕ) → CountsFault (is_disk fault) before after → CountsFault (is_of_disk (fault_of_keeper fault)) before after
counts fault before after c = subst (λ (b : Bool). CountsFault b before after) (sym (disk_is fault)) c

pub no_bad_node : (fault : KeepFault) → MeetsNoBadNode (fault_of_keeper fault)
no_bad_node OutOfMemory = tt
no_bad_node Disk = tt
no_bad_node (Stopped call) = tt
no_bad_node (ValueTooLong len) = tt
no_bad_node (IndexFull column bits chunk) = tt
no_bad_node (TierFull column tier) = tt
no_bad_node (Damaged file cell) = tt
no_bad_node (NumbersEnd which) = tt

-- a fault that isn't want of memory
other : (due : KeepFault → Type 0) (fault : KeepFault) → (fault ≡ OutOfMemory → ⊥) → IsCause due fault → (fault ≡ Disk) ⊎ due fault
other due fault not (inl e) = absurd (not e)
other due fault not (inr rest) = rest

pub keeper_cause : (due : KeepFault → Type 0) (fault : KeepFault) → IsCause due fault → IsKeeperCause due (fault_of_keeper fault)
keeper_cause due OutOfMemory c = tt
keeper_cause due Disk c = inl refl
keeper_cause due (Stopped call) c = other due (Stopped call) (λ e. cc) c
keeper_cause due (ValueTooLong len) c = other due (ValueTooLong len) (λ e. cc) c
keeper_cause due (IndexFull column bits chunk) c = other due (IndexFull column bits chunk) (λ e. cc) c
keeper_cause due (TierFull column tier) c = other due (TierFull column tier) (λ e. cc) c
keeper_cause due (Damaged file cell) c = other due (Damaged file cell) (λ e. cc) c
keeper_cause due (NumbersEnd which) c = other due (NumbersEnd which) (λ e. cc) c

-- no node of a trie is too long a value
pub commit_cause : (due : KeepFault → Type 0) (fault : KeepFault) (puts : List Node) (ops : List Op) → All (λ (n : Node). length n.bytes ≤ 4200000) puts
    → ops ≡ references_to puts → IsCommitCause due ops fault → IsKeeperCause due (fault_of_keeper fault)
commit_cause due fault puts ops short is (inl c) = keeper_cause due fault c
commit_cause due fault puts ops short is (inr long) =
    let few : long.0 ≤ 4200000 =
    no_longer long.0 4200000 puts (recursion_from_All (λ (n : Node). length n.bytes ≤ 4200000) puts short) (subst (λ (os : List Op). Any (HasValueOf long.0) os) is long.3) in
    let many = long.2 in
    absurd (omega arith)

-- what is due of one call is due of more
pub more_due : (one more : KeepFault → Type 0) (e : NodeFault) → ((fault : KeepFault) → one fault → more fault) → IsKeeperCause one e → IsKeeperCause more e
more_due one more nodes.OutOfMemory h c = tt
more_due one more (nodes.BadNode hash) h c = tt
more_due one more (nodes.Keep fault) h (inl disk) = inl disk
more_due one more (nodes.Keep fault) h (inr due) = inr (h fault due)

-- a call without a fault before it
pub counts_on : (b : Bool) (x y z : ℕ) → y ≡ x → CountsFault b y z → CountsFault b x z
counts_on b x y z e c = subst (λ (k : ℕ). CountsFault b k z) e c
