-- Lines where no two different nodes of the blocks after them have one hash: they are played as the model plays them.
use Rattle.std.proofs.Common.{◌≡◌, ◌≢◌, ℕ, ◌+◌, Bool, true, false, cond, List, [], ◌∷◌, Option, Some, None, is_some, refl, sym, ap, subst, ◌∙◌, inl, inr}
use Rattle.std.specs.Prelude.{◌⊎◌}
use Rattle.std.proofs.lemmas.Slice.Eq.{bytes_eq-Decides}
use Rattle.sdb_base.specs.declared.Block.{Block}
use Rattle.sdb_base.specs.declared.BlockId.{BlockId}
use Rattle.sdb_model.proofs.Chains.{chain-none, state-later}
use Rattle.sdb_model.specs.Blocks.{chain_of, number_of, same_id, state_of}
use Rattle.sdb_model.specs.Clear.{Clear, IsStoredNode}
use Rattle.sdb_model.specs.State.{State}
use Rattle.sdb_model.specs.declared.Refusal.TheVariants.{AlreadyExists, TooManySiblings}
use Rattle.sdb_model.specs.declared.Reply.{Reply}
use Rattle.sdb_model.specs.declared.Reply.TheVariants.{Imported, Value, Key, Nothing, Listed, Root, Refused}
use Rattle.sdb_model.specs.declared.Task.{Task}
use Rattle.sdb_model.specs.declared.Task.TheVariants as tasks
use Rattle.sdb_script.specs.declared.Line.{Line}
use Rattle.sdb_script.specs.declared.Line.TheVariants as lines
use Rattle.sdb_script.specs.declared.LineReply.{LineReply}
use Rattle.sdb_serve.specs.Jobs.{after_import, import_on, import_reply}
use Rattle.sdb_serve.specs.Session.{SessionState, answer, answer_job}
use Rattle.sdb_serve.proofs.Answering.{blank, genesis_again, genesis_early, job_early, job_is, new_again, new_first, stage_early, stage_line}

no_state : (id : BlockId) (state : State) → chain_of [] id ≡ None → state_of [] id ≡ Some state → ⊥
no_state id state e f = absurd cc

-- the states of no blocks have no nodes
no_blocks : Clear []
no_blocks a b x y e = absurd (no_state x.id x.state (chain-none x.id) x.of_block)

same_chain : (older : List Block) (a b : BlockId) → same_id a b ≡ true → chain_of older a ≡ None → chain_of older b ≡ None
same_chain older a b same e = ap (λ (text : List ℕ). chain_of older (record { 0 = text })) (sym ((bytes_eq-Decides a.0 b.0).0 same)) ∙ e

state_stays : (c : Block) (older : List Block) (b : Block) (id : BlockId) (state : State) (same : Bool) → same_id b.id id ≡ same → chain_of (c ∷ older) b.id ≡ None
    → state_of (c ∷ older) id ≡ Some state → state_of (b ∷ (c ∷ older)) id ≡ Some state
state_stays c older b id state false apart new e = state-later b c older id apart ∙ e
state_stays c older b id state true same new e = absurd (lost (same_chain (c ∷ older) b.id id same new) e) where
  lost : chain_of (c ∷ older) id ≡ None → state_of (c ∷ older) id ≡ Some state → ⊥
  lost none some = absurd cc

-- what is stored of older blocks' states still is where a block of another id was added
still_stored : (older : List Block) (b : Block) (bytes : List ℕ) → chain_of older b.id ≡ None → IsStoredNode older bytes → IsStoredNode (b ∷ older) bytes
still_stored [] b bytes new s = absurd (no_state s.id s.state (chain-none s.id) s.of_block)
still_stored (c ∷ older) b bytes new s = record {
  id = s.id;
  state = s.state;
  of_block = state_stays c older b s.id s.state (same_id b.id s.id) refl new s.of_block;
  node = s.node;
  stored = s.stored;
  same = s.same;
}

-- the older blocks of clear ones are clear
older_clear : (older : List Block) (b : Block) → chain_of older b.id ≡ None → Clear (b ∷ older) → Clear older
older_clear older b new clear x y s t e = clear x y (still_stored older b x new s) (still_stored older b y new t) e

-- an imported block's id is new
imported_new : (o : Option (List Block)) (full : Bool) (number n : ℕ)
    → cond (is_some o) (Refused AlreadyExists) (cond full (Refused (TooManySiblings number)) (Imported number)) ≡ Imported n → o ≡ None
imported_new None full number n e = refl
imported_new (Some chain) full number n e = absurd cc

imported_on : (blocks : List Block) (b : Block) (parent : Option ℕ) (n : ℕ) → import_on blocks b parent ≡ Imported n → chain_of blocks b.id ≡ None
imported_on blocks b None n e = absurd cc
imported_on blocks b (Some k) n e = imported_new (chain_of blocks b.id) _ (k + 1) n e

imported : (blocks : List Block) (b : Block) (n : ℕ) → import_reply blocks b ≡ Imported n → chain_of blocks b.id ≡ None
unfolding import_reply
imported blocks b n e = imported_on blocks b (number_of blocks b.parent) n e

before_import : (blocks : List Block) (b : Block) (reply : Reply) → import_reply blocks b ≡ reply → Clear (after_import blocks b reply) → Clear blocks
before_import blocks b (Imported n) e clear = older_clear blocks b (imported blocks b n e) clear
before_import blocks b (Value value) e clear = clear
before_import blocks b (Key key) e clear = clear
before_import blocks b Nothing e clear = clear
before_import blocks b (Listed keys) e clear = clear
before_import blocks b (Root root) e clear = clear
before_import blocks b (Refused refusal) e clear = clear

-- a job leaves the blocks as they are, or adds one to them
pub before_job : (blocks : List Block) (task : Task) → Clear (answer_job blocks task).1 → Clear blocks
before_job blocks (tasks.Read id key) clear = clear
before_job blocks (tasks.Next id key) clear = clear
before_job blocks (tasks.List id prefix) clear = clear
before_job blocks (tasks.Root id) clear = clear
before_job blocks (tasks.Import b) clear = before_import blocks b (import_reply blocks b) refl clear

-- ---- a line

abbrev pub Answered : Type 0
Answered = Option LineReply × SessionState

some_answer : (x y : Answered) → ◌≡◌ {A = Option Answered} (Some x) (Some y) → x ≡ y
some_answer x y e = cc

no_answer : (y : Answered) → ◌≡◌ {A = Option Answered} None (Some y) → ⊥
no_answer y e = absurd cc

-- what a line is answered, and that it has one answer
pub one_answer : (s : SessionState) (line : Line) (x y : Answered) → answer s line ≡ Some x → answer s line ≡ Some y → x ≡ y
one_answer s line x y e f = some_answer x y (sym e ∙ f)

pub never : (s : SessionState) (line : Line) (y : Answered) → answer s line ≡ None → answer s line ≡ Some y → ⊥
never s line y e f = no_answer y (sym e ∙ f)

pub at_blocks : (x y : Answered) → x ≡ y → Clear y.1.blocks → Clear x.1.blocks
at_blocks x y e clear = subst (λ (a : Answered). Clear a.1.blocks) (sym e) clear

abbrev pub EmptyOrNot : List Block → Type 0
EmptyOrNot blocks = (blocks ≡ []) ⊎ (blocks ≢ [])

pub empty_or_not : (blocks : List Block) → EmptyOrNot blocks
empty_or_not [] = inl refl
empty_or_not (b ∷ bs) = inr (λ e. cc)

-- the blocks before a line are clear where those after it are
pub before_line : (s : SessionState) (line : Line) (a : Answered) (begun : Bool) → s.begun ≡ begun → EmptyOrNot s.blocks → answer s line ≡ Some a → Clear a.1.blocks
    → Clear s.blocks
before_line s lines.Blank a begun b none e clear = at_blocks _ a (one_answer s _ _ a (blank s) e) clear
before_line s (lines.New base) a true b none e clear = absurd (never s _ a (new_again s base b) e)
before_line s (lines.New base) a false b none e clear = at_blocks _ a (one_answer s _ _ a (new_first s base b) e) clear
before_line s (lines.Genesis window block) a false b none e clear = absurd (never s _ a (genesis_early s window block b) e)
before_line s (lines.Genesis window block) a true b (inl none) e clear = subst Clear (sym none) no_blocks
before_line s (lines.Genesis window block) a true b (inr some) e clear = at_blocks _ a (one_answer s _ _ a (genesis_again s window block b some) e) clear
before_line s (lines.Job task) a false b none e clear = absurd (never s _ a (job_early s task b) e)
before_line s (lines.Job task) a true b (inl none) e clear = subst Clear (sym none) no_blocks
before_line s (lines.Job task) a true b (inr some) e clear =
    before_job s.blocks task (at_blocks _ a (one_answer s _ _ a (job_is s task (answer_job s.blocks task).0 b some refl) e) clear)
before_line s (lines.Stage stage) a false b none e clear = absurd (never s _ a (stage_early s stage b) e)
before_line s (lines.Stage stage) a true b none e clear = at_blocks _ a (one_answer s _ _ a (stage_line s stage b) e) clear
