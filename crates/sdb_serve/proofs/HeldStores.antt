-- What a session has before `new` was answered, and after it.
use Rattle.std.proofs.Common.{◌≡◌, ◌++◌, [], ℕ, Bool, true, false, IsTrue, List, Option, Some, None, refl, sym, ap, ap₂, ◌∙◌, subst}
use Rattle.std.proofs.lemmas.List.{append-nil}
use Rattle.sdb_base.specs.Keeping.{Commits}
use Rattle.sdb_base.specs.declared.Block.{Block}
use Rattle.pdb_disk.specs.Files.{Files}
use Rattle.pdb_log.specs.Tallies.{Tally}
use Rattle.pdb_redo.specs.Tallies.{IsRedoTally}
use Rattle.pdb_pipe.specs.Standing.{StandsFor}
use Rattle.pdb_pipe.specs.declared.database.Database.{Database}
use Rattle.sdb_serve.specs.Marks.{Reached}
use Rattle.sdb_serve.specs.Session.{SessionState}
use Rattle.sdb_serve.specs.inner.Blocks.{KeepsBlocks}
use Rattle.sdb_serve.specs.inner.Steps.{CountsWhere}
use Rattle.sdb_serve.specs.inner.Stores.{HoldsBlocks, HoldsStore, HoldsTally, Represents, disk_count, seen_at}
use Rattle.sdb_serve.specs.declared.blocks.BlockMap.{BlockMap}
use Rattle.sdb_serve.specs.declared.session.Session.{Session}

module _ {D : Type 0} (tells : D → Bool) (clock : D → ℕ) (past : D → ℕ → Files) (given : D) where
  early_at : (disk : Option D) (blocks : Option (BlockMap (Database D))) (s : SessionState)
      → HoldsStore tells clock past given disk blocks s → blocks ≡ None → s.begun ≡ false
  early_at None None s h e = absurd h
  early_at (Some d) None s h e = h.1
  early_at None (Some m) s h e = absurd cc
  early_at (Some d) (Some m) s h e = absurd h

  pub not_begun : (p : Session D) (a : Reached) → Represents tells clock past given p a → p.blocks ≡ None → a.session.begun ≡ false
  not_begun p a h e = early_at p.disk p.blocks a.session h.store e

  -- blocks are held, and the session has no disk beside them
  pub record IsBegun (disk : Option D) (m : BlockMap (Database D)) (s : SessionState) : Type 0 where
    pub none : disk ≡ None
    pub begun : s.begun ≡ true
    pub holds : HoldsBlocks tells clock past (tells given) m s

  begun_at : (disk : Option D) (m : BlockMap (Database D)) (s : SessionState)
      → HoldsStore tells clock past given disk (Some m) s → IsBegun disk m s
  begun_at None m s h = record { none = refl; begun = h.0; holds = h.1 }
  begun_at (Some d) m s h = absurd h

  pub has_begun : (p : Session D) (m : BlockMap (Database D)) (a : Reached) → Represents tells clock past given p a → p.blocks ≡ Some m
      → IsBegun p.disk m a.session
  has_begun p m a h e =
      begun_at p.disk m a.session
      (subst (λ (bs : Option (BlockMap (Database D))). HoldsStore tells clock past given p.disk bs a.session) e h.store)

  pub held_again : (disk : Option D) (m : BlockMap (Database D)) (s : SessionState) → disk ≡ None → s.begun ≡ true
      → HoldsBlocks tells clock past (tells given) m s → HoldsStore tells clock past given disk (Some m) s
  held_again None m s e begun h = (begun, h)
  held_again (Some d) m s e begun h = absurd cc

  -- the commits that are kept for these blocks
  pub kept_for : (m : BlockMap (Database D)) (s : SessionState) (blocks : List Block) → HoldsBlocks tells clock past (tells given) m s
      → s.blocks ≡ blocks → IsTrue (tells given)
      → (commits : Commits) × KeepsBlocks (λ db c. StandsFor tells clock past db c) m blocks commits
  kept_for m s blocks h e told =
      let k = h.kept told in (k.0, subst (λ (bs : List Block). KeepsBlocks (λ db c. StandsFor tells clock past db c) m bs k.0) e k.1)

  -- how many bytes were read is no matter of the store
  pub store_read : (disk : Option D) (blocks : Option (BlockMap (Database D))) (s : SessionState) (n : ℕ)
      → HoldsStore tells clock past given disk blocks s → HoldsStore tells clock past given disk blocks (record s { read = n })
  store_read None None s n h = h
  store_read (Some d) None s n h = h
  store_read None (Some m) s n h = (h.0, record { blocks = h.1.blocks; pipeline = h.1.pipeline; running = h.1.running; kept = h.1.kept })
  store_read (Some d) (Some m) s n h = h

  -- a session that was left as it was, at a line without a mark
  pub as_it_was : (p q : Session D) (a : Reached) → Represents tells clock past given p a
      → q.window ≡ p.window → q.read ≡ p.read → q.lines ≡ p.lines → q.disk ≡ p.disk → q.blocks ≡ p.blocks → q.marks.items ≡ p.marks.items
      → Represents tells clock past given q (record { session = a.session; lines = a.lines; clock = a.clock; marks = a.marks ++ []; tally = a.tally })
  as_it_was p q a h window read lines disk blocks marks = record {
    window = window ∙ h.window;
    read = read ∙ h.read;
    lines = lines ∙ h.lines;
    time = ap₂ (seen_at clock) disk blocks ∙ h.time;
    marks = marks ∙ h.marks ∙ sym (append-nil a.marks);
    store = subst (λ (bs : Option (BlockMap (Database D))). HoldsStore tells clock past given q.disk bs a.session) (sym blocks)
        (subst (λ (d : Option D). HoldsStore tells clock past given d p.blocks a.session) (sym disk) h.store);
    tally = subst (λ (bs : Option (BlockMap (Database D))). HoldsTally bs a.tally) (sym blocks) h.tally;
  }

  pub time_in : (p : Session D) (m n : BlockMap (Database D)) (a : Reached) → Represents tells clock past given p a → p.blocks ≡ Some m
      → clock n.keeper.redo.log.disk ≡ clock m.keeper.redo.log.disk → clock n.keeper.redo.log.disk ≡ a.clock
  time_in p m n a h at_p time = time ∙ sym (ap (seen_at clock p.disk) at_p) ∙ h.time

  -- the blocks of a session were changed, and its disk was only read
  pub with_blocks : (p q : Session D) (m n : BlockMap (Database D)) (a : Reached) (next : SessionState)
      → Represents tells clock past given p a → p.blocks ≡ Some m → q.blocks ≡ Some n → q.disk ≡ p.disk → q.read ≡ p.read
      → q.lines ≡ p.lines → q.marks.items ≡ p.marks.items → clock n.keeper.redo.log.disk ≡ clock m.keeper.redo.log.disk
      → q.window ≡ next.window → next.read ≡ a.session.read → next.begun ≡ true
      → ((t : Tally) → IsRedoTally m.keeper.redo t → IsRedoTally n.keeper.redo t) → HoldsBlocks tells clock past (tells given) n next
      → Represents tells clock past given q (record { session = next; lines = a.lines; clock = a.clock; marks = a.marks ++ []; tally = a.tally })
  with_blocks p q m n a next h at_p at_q disk read lines marks time window same begun counts holds = record {
    window = window;
    read = read ∙ h.read ∙ sym same;
    lines = lines ∙ h.lines;
    time = ap (seen_at clock q.disk) at_q ∙ time_in p m n a h at_p time;
    marks = marks ∙ h.marks ∙ sym (append-nil a.marks);
    store = subst (λ (bs : Option (BlockMap (Database D))). HoldsStore tells clock past given q.disk bs next) (sym at_q)
        (held_again q.disk n next (disk ∙ (has_begun p m a h at_p).none) begun holds);
    tally = subst (λ (bs : Option (BlockMap (Database D))). HoldsTally bs a.tally) (sym at_q)
        (counts a.tally (subst (λ (bs : Option (BlockMap (Database D))). HoldsTally bs a.tally) at_p h.tally));
  }

-- ---- the count of the disk's faults in a session that has blocks

pub counts_in : {D Failed : Type 0} (count : D → ℕ) (p : Session D) (m : BlockMap (Database D)) (after : ℕ) → p.blocks ≡ Some m
    → CountsWhere Failed (count m.keeper.redo.log.disk) after → CountsWhere Failed (disk_count count p) after
counts_in count p m after at_p h =
    let e : disk_count count p ≡ count m.keeper.redo.log.disk = ap (seen_at count p.disk) at_p in rw e h
