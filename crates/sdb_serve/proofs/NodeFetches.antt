-- Jobs over the nodes of a state that are kept.
use Rattle.std.proofs.Common.{◌≡◌, ℕ, List, [], ◌∷◌, Option, Some, None, ap, sym, ◌∙◌}
use Rattle.std.specs.List.{AllByRecursion}
use Rattle.std.proofs.lemmas.Option.{none-some, same_Some}
use Rattle.sdb_base.specs.Keeping.{Commits}
use Rattle.sdb_base.specs.declared.node.NodeHash.{NodeHash}
use Rattle.std.specs.Option.{option_map}
use Rattle.sdb_blake2.specs.Blake2b.{H}
use Rattle.sdb_base.specs.declared.Change.{Change}
use Rattle.trie_change.specs.Changing.{IsChanging, change_wanted, first_hash}
use Rattle.trie_change.specs.declared.change_job.ChangeJob.{ChangeJob}
use Rattle.trie_model.specs.Nodes.{PathNode}
use Rattle.trie_model.specs.State.{State}
use Rattle.trie_read.specs.Reads.{IsReading, wanted_of}
use Rattle.trie_read.specs.Searches.{IsSeeking, search_wanted}
use Rattle.trie_read.specs.Walks.{IsWalking, walk_wanted}
use Rattle.trie_read.specs.declared.next_job.NextJob.{NextJob}
use Rattle.trie_read.specs.declared.read_job.ReadJob.{ReadJob}
use Rattle.trie_read.specs.declared.walk_job.WalkJob.{WalkJob}
use Rattle.sdb_serve.specs.inner.Kept.{IsKept}

-- so far has a job come: these nodes are still to be fed, and each is kept
pub record IsFetching (commits : Commits) (At : List PathNode → Type 0) : Type 0 where
  pub todo : List PathNode
  pub at : At todo
  pub kept : AllByRecursion (λ (n : PathNode). IsKept commits n.bytes) todo

-- the node of this hash is to be fed, and then others
pub record IsNext (commits : Commits) (At : List PathNode → Type 0) (hash : List ℕ) : Type 0 where
  pub node : PathNode
  pub todo : List PathNode
  pub at : At (node ∷ todo)
  pub is_hash : hash ≡ H node.bytes
  pub kept : IsKept commits node.bytes
  pub others : AllByRecursion (λ (n : PathNode). IsKept commits n.bytes) todo

-- the job wants the first node that is to be fed
abbrev pub WantsFirst : Option (List ℕ) → (List PathNode → Type 0) → Type 0
WantsFirst wanted At = (todo : List PathNode) → At todo → wanted ≡ first_hash todo

module _ (commits : Commits) (At : List PathNode → Type 0) (wanted : Option (List ℕ)) (wants : WantsFirst wanted At) where
  pub all_fed : None ≡ wanted → IsFetching commits At → At []
  all_fed e f = by_todo f.todo f.at
    where
      by_todo : (todo : List PathNode) → At todo → At []
      by_todo [] at = at
      by_todo (n ∷ todo) at = absurd (none-some (H n.bytes) (e ∙ wants (n ∷ todo) at))

  pub next_of : (hash : List ℕ) → Some hash ≡ wanted → IsFetching commits At → IsNext commits At hash
  next_of hash e f = by_todo f.todo f.at f.kept
    where
      by_todo : (todo : List PathNode) → At todo → AllByRecursion (λ (n : PathNode). IsKept commits n.bytes) todo → IsNext commits At hash
      by_todo [] at kept = absurd (none-some hash (sym (e ∙ wants [] at)))
      by_todo (n ∷ todo) at kept = record {
        node = n;
        todo = todo;
        at = at;
        is_hash = same_Some hash (H n.bytes) (e ∙ wants (n ∷ todo) at);
        kept = kept.0;
        others = kept.1;
      }

-- ---- what each job wants

pub read_wants : (j : ReadJob) (m : State) (key : List ℕ) → WantsFirst (wanted_of j) (IsReading j m key)
read_wants j m key [] r = ap (option_map (λ (h : NodeHash). h.0)) r.stage.0
read_wants j m key (n ∷ todo) r = r.stage.wanted

pub search_wants : (j : NextJob) (m : State) (key : List ℕ) → WantsFirst (search_wanted j) (IsSeeking j m key)
search_wants j m key [] r = r.stage.0
search_wants j m key (n ∷ todo) r = r.stage

pub walk_wants : (j : WalkJob) (m : State) (prefix : List ℕ) → WantsFirst (walk_wanted j) (IsWalking j m prefix)
walk_wants j m prefix [] r = r.stage.0
walk_wants j m prefix (n ∷ todo) r = r.stage

pub change_wants : (j : ChangeJob) (m : State) (changes : List Change) → WantsFirst (change_wanted j) (IsChanging j m changes)
change_wants j m changes todo r = r.wants
