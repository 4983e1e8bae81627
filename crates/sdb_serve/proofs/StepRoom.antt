-- What a database says of the next commit says it of the session that it holds.
use Rattle.std.proofs.Common.{◌≡◌, ◌<◌, ℕ, Bool, List, length, take, Some, refl, sym, ap, subst, ◌∙◌, arith, length-append, inl, inr}
use Rattle.std.specs.Prelude.{slice_get}
use Rattle.std.proofs.lemmas.Option.{slice_get_cases}
use Rattle.sdb_base.specs.Keeping.{Commits}
use Rattle.sdb_base.specs.Pipeline.{Pipeline}
use Rattle.sdb_base.specs.declared.numbers.KeepFault.TheVariants.{IndexFull, TierFull}
use Rattle.sdb_base.specs.declared.numbers.Logged.TheVariants as logged
use Rattle.sdb_base.specs.declared.numbers.StageAnswer.{StageAnswer}
use Rattle.sdb_base.specs.declared.numbers.StageAnswer.TheVariants as answers
use Rattle.sdb_base.specs.declared.op.Op.{Op}
use Rattle.sdb_model.specs.Clear.{Clear}
use Rattle.pdb_column.specs.Maps.{FillsChunk}
use Rattle.pdb_column.specs.Storing.{FillsTier}
use Rattle.pdb_disk.specs.Files.{Files}
use Rattle.pdb_pipe.specs.Commits.{contents_of}
use Rattle.pdb_pipe.specs.Faults.{CannotBePlanned}
use Rattle.pdb_pipe.specs.Planning.{HasRoomFor}
use Rattle.pdb_pipe.specs.Stages.{HadRoom, NextHasRoom}
use Rattle.pdb_pipe.specs.Standing.{StandsFor, pipeline_of}
use Rattle.pdb_pipe.specs.declared.database.Database.{Database}
use Rattle.sdb_serve.specs.BlockCommits.{commits_of}
use Rattle.sdb_serve.specs.Crowding.{ComesNext, CrowdsChunk, CrowdsTier, KeptCommits, LoggedFits, NextFits}
use Rattle.sdb_serve.specs.Session.{SessionState}

-- no chunk is without room for the next of these commits
abbrev FitsIn : Pipeline → Commits → Type 0
FitsIn p commits = (ops : List Op) → slice_get commits p.numbers.logged ≡ Some ops
    → HasRoomFor (λ column. (p.columns column).base) (contents_of (take p.numbers.logged commits)) ops

-- the next of these commits comes to a chunk without room
abbrev FillsIn : Pipeline → Commits → List Op → ℕ → ℕ → ℕ → Type 0
FillsIn p commits ops column bits chunk = FillsChunk (p.columns column).base (contents_of (take p.numbers.logged commits) column) ops column bits chunk

-- the next of these commits comes to a tier with too few slots
abbrev FillsTierIn : Pipeline → Commits → List Op → ℕ → ℕ → Type 0
FillsTierIn p commits ops column tier = FillsTier (p.columns column).base (contents_of (take p.numbers.logged commits) column) ops column tier

-- an item within a list
item_at : {X : Type 0} (xs : List X) (n : ℕ) → n < length xs → (x : X) × (slice_get xs n ≡ Some x)
item_at xs n less = elim (let c = slice_get_cases xs n in c.1) [
  | inl at ↦ (at.0, at.2)
  | inr past ↦ let long = past.0 in absurd (omega (arith, less, long))
]

module _ {D : Type 0} (tells : D → Bool) (clock : D → ℕ) (past : D → ℕ → Files) (db : Database D) (s : SessionState) (same : pipeline_of db ≡ s.pipeline)
    (commits : Commits) (stands : StandsFor tells clock past db commits) where
  next_fits : commits ≡ commits_of s.blocks → NextHasRoom tells clock past db → NextFits s
  next_fits are room = subst (λ (cs : Commits). FitsIn s.pipeline cs) are
      (subst (λ (p : Pipeline). FitsIn p commits) same (λ ops next. room commits ops stands next))

  pub logged_fits : (answer : StageAnswer) → commits ≡ commits_of s.blocks → HadRoom tells clock past db answer → LoggedFits s answer
  logged_fits (answers.Logged (logged.Commit n)) are room = next_fits are room
  logged_fits (answers.Logged (logged.Started column bits chunk)) are room = tt
  logged_fits (answers.Logged (logged.Moved column bits left)) are room = tt
  logged_fits (answers.Logged logged.Idle) are room = tt
  logged_fits (answers.Flushed n) are room = tt
  logged_fits (answers.Enacted answer) are room = tt
  logged_fits (answers.Cleaned n) are room = tt
  logged_fits (answers.Grown answer) are room = tt

  as_many_accepted : length commits ≡ s.pipeline.numbers.accepted
  as_many_accepted =
      let c = db.counted in let n = stands.count in let l = length-append stands.logged db.queue in
      let all : length commits ≡ db.accepted = ap (λ (cs : Commits). length cs) stands.parts ∙ omega (arith, c, n, l) in
      all ∙ ap (λ (p : Pipeline). p.numbers.accepted) same

  module _ (clear : Clear s.blocks → commits ≡ commits_of s.blocks) where
    abbrev kept_commits : KeptCommits s
    kept_commits = record { commits = commits; count = as_many_accepted; clear = clear }

    next_there : s.pipeline.numbers.logged < s.pipeline.numbers.accepted → (ops : List Op) × ComesNext s commits ops
    next_there waits = let n = as_many_accepted in item_at commits s.pipeline.numbers.logged (omega (arith, n, waits))

    pub crowds : (column bits chunk : ℕ) → s.pipeline.numbers.logged < s.pipeline.numbers.accepted
        → CannotBePlanned tells clock past db (IndexFull column bits chunk) → CrowdsChunk s column bits chunk
    crowds column bits chunk waits h =
        let next = next_there waits in
        let comes = subst (λ (p : Pipeline). slice_get commits p.numbers.logged ≡ Some next.0) (sym same) next.1 in
        let crowded = h.1 column bits chunk commits next.0 refl stands comes in
        record {
          kept = kept_commits;
          ops = next.0;
          next = next.1;
          fills = subst (λ (p : Pipeline). FillsIn p commits next.0 column bits chunk) same crowded.1.fills;
        }

    pub fills_up : (column tier : ℕ) → s.pipeline.numbers.logged < s.pipeline.numbers.accepted
        → CannotBePlanned tells clock past db (TierFull column tier) → CrowdsTier s column tier
    fills_up column tier waits h =
        let next = next_there waits in
        let comes = subst (λ (p : Pipeline). slice_get commits p.numbers.logged ≡ Some next.0) (sym same) next.1 in
        record {
          kept = kept_commits;
          ops = next.0;
          next = next.1;
          fills = subst (λ (p : Pipeline). FillsTierIn p commits next.0 column tier) same (h.2 column tier commits next.0 refl stands comes);
        }
