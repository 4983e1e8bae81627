-- An input is cut into lines in one way, so that no run goes past the first bad line.
use Rattle.std.proofs.Common.{◌≡◌, ◌≢◌, ℕ, zero, suc, List, [], ◌∷◌, ◌++◌, length, refl, sym, ap, subst, ◌∙◌, arith, inl, inr, Option, Some, None, append_assoc, length-append}
use Rattle.std.specs.Prelude.{◌⊎◌, All}
use Rattle.std.specs.List.{flat_map}
use Rattle.sdb_serve.specs.Given.{Given}
use Rattle.sdb_serve.specs.Marks.{Reached, first_reached}
use Rattle.sdb_serve.specs.Playing.{MayPlay, MayPlayAll}
use Rattle.sdb_serve.specs.Session.{SessionState, play_line, reply_lines}
use Rattle.sdb_serve.specs.Runs.{BeginsWith, HasNoLineFeed, IsBad, IsFirstBad, IsRun, IsScript, Run, ended}
use Rattle.sdb_serve.proofs.Running.{some_is}

clear_tail : (x : ℕ) (xs : List ℕ) → HasNoLineFeed (x ∷ xs) → HasNoLineFeed xs
clear_tail x xs h k d lt = h (suc k) d (omega arith)

clear_head : (x : ℕ) (xs : List ℕ) → HasNoLineFeed (x ∷ xs) → x ≢ 10
clear_head x xs h = h zero 0 (omega arith)

head_is : (x y : ℕ) (xs ys : List ℕ) → x ∷ xs ≡ y ∷ ys → x ≡ y
head_is x y xs ys e = cc

tail_is : (x y : ℕ) (xs ys : List ℕ) → x ∷ xs ≡ y ∷ ys → xs ≡ ys
tail_is x y xs ys e = cc

-- two texts that begin with a line are cut alike
first_line_same : (l k m n : List ℕ) → HasNoLineFeed l → HasNoLineFeed k → l ++ 10 ∷ m ≡ k ++ 10 ∷ n → (l ≡ k) × (m ≡ n)
first_line_same [] [] m n h g e = (refl, tail_is 10 10 m n e)
first_line_same [] (y ∷ ys) m n h g e = absurd (clear_head y ys g (sym (head_is 10 y m (ys ++ 10 ∷ n) e)))
first_line_same (x ∷ xs) [] m n h g e = absurd (clear_head x xs h (head_is x 10 (xs ++ 10 ∷ m) n e))
first_line_same (x ∷ xs) (y ∷ ys) m n h g e =
    let rest = first_line_same xs ys m n (clear_tail x xs h) (clear_tail y ys g) (tail_is x y (xs ++ 10 ∷ m) (ys ++ 10 ∷ n) e) in
    let first : x ≡ y = head_is x y (xs ++ 10 ∷ m) (ys ++ 10 ∷ n) e in
    (ap (λ (c : ℕ). c ∷ xs) first ∙ ap (λ (t : List ℕ). y ∷ t) rest.0, rest.1)

-- a text that has a line has a line feed
not_clear : (l m : List ℕ) → HasNoLineFeed (l ++ 10 ∷ m) → ⊥
not_clear [] m h = clear_head 10 m h refl
not_clear (x ∷ l) m h = not_clear l m (clear_tail x (l ++ 10 ∷ m) h)

not_empty : (l m : List ℕ) → l ++ 10 ∷ m ≡ [] → ⊥
not_empty [] m e = absurd cc
not_empty (x ∷ l) m e = absurd cc

differ : {A : Type 0} (x : A) → ◌≡◌ {A = Option A} None (Some x) → ⊥
differ x e = absurd cc

-- the rest can't be gone on with
abbrev Stuck : SessionState → List ℕ → Type 0
Stuck s m = ((line rest : List ℕ) × BeginsWith m line rest × (play_line s line ≡ None)) ⊎ (HasNoLineFeed m × (m ≢ []))

stuck_some : (s : SessionState) (m : List ℕ) → Stuck s m → m ≡ [] → ⊥
stuck_some s m stuck e = elim stuck [
  | inl b ↦ not_empty b.0 b.1 (sym b.2.parts ∙ e)
  | inr b ↦ b.1 e
]

-- no line that is there is answered
stuck_line : (s : SessionState) (m k n : List ℕ) (out : List (List ℕ)) (next : SessionState) → Stuck s m → HasNoLineFeed k
    → m ≡ k ++ 10 ∷ n → play_line s k ≡ Some (out, next) → ⊥
stuck_line s m k n out next stuck clear e f = elim stuck [
  | inl b ↦
      let same : b.0 ≡ k = (first_line_same b.0 k b.1 n b.2.one_line clear (sym b.2.parts ∙ e)).0 in
      let none : play_line s k ≡ None = ap (play_line s) (sym same) ∙ b.3 in
      differ (out, next) (sym none ∙ f)
  | inr b ↦ not_clear k n (subst HasNoLineFeed e b.0)
]

empty_back : (xs ys : List ℕ) → xs ++ ys ≡ [] → ys ≡ []
empty_back [] ys e = e
empty_back (x ∷ xs) ys e = absurd cc

each_head : (l : List ℕ) (ls : List (List ℕ)) → All HasNoLineFeed (l ∷ ls) → HasNoLineFeed l
each_head l ls h = h zero [] (omega arith)

each_tail : (l : List ℕ) (ls : List (List ℕ)) → All HasNoLineFeed (l ∷ ls) → All HasNoLineFeed ls
each_tail l ls h k d lt = h (suc k) d (omega arith)

regroup : (l : List ℕ) (ls : List (List ℕ)) (m : List ℕ) → flat_map ended (l ∷ ls) ++ m ≡ l ++ 10 ∷ (flat_map ended ls ++ m)
regroup l ls m = append_assoc (ended l) (flat_map ended ls) m ∙ append_assoc l (10 ∷ []) (flat_map ended ls ++ m)

-- what is known after a line is determined by what was known and by the line
one_next : (g : Given) (a c : Reached) (l k : List ℕ) (out more : List (List ℕ)) (next other : Reached) → a.session ≡ c.session → l ≡ k
    → MayPlay g a l out next → MayPlay g c k more other → next.session ≡ other.session
one_next g a c l k out more next other start e f h =
    let played = ap (λ (s : SessionState). play_line s l) (sym start) ∙ f.played in
    let pair = some_is (reply_lines f.model, next.session) (reply_lines h.model, other.session)
    (sym played ∙ ap (play_line c.session) e ∙ h.played) in
    ap (λ (p : List (List ℕ) × SessionState). p.1) pair

-- no run goes further than one that is stuck
no_further : (g : Given) (a c : Reached) (ls ks : List (List ℕ)) (m n : List ℕ) (o p : List (List ℕ)) (at end : Reached)
    → a.session ≡ c.session → All HasNoLineFeed ls → All HasNoLineFeed ks → flat_map ended ls ++ m ≡ flat_map ended ks ++ n
    → MayPlayAll g a ls o at → MayPlayAll g c ks p end → Stuck at.session m
    → (extra : List (List ℕ)) × (ls ≡ ks ++ extra) × (n ≡ flat_map ended extra ++ m)
no_further g a c ls [] m n o p at end start h k e f q stuck = (ls, refl, sym e)
no_further g a c [] (k ∷ ks) m n o p at end start h clear e f q stuck =
    let here : Stuck c.session m = subst (λ (t : SessionState). Stuck t m) (ap (λ (t : Reached). t.session) f.1 ∙ start) stuck in
    absurd (stuck_line c.session m k (flat_map ended ks ++ n) (reply_lines q.3.model) q.2.session here (each_head k ks clear)
    (e ∙ regroup k ks n) q.3.played)
no_further g a c (l ∷ ls) (k ∷ ks) m n o p at end start h clear e f q stuck =
    let same = first_line_same l k (flat_map ended ls ++ m) (flat_map ended ks ++ n) (each_head l ls h) (each_head k ks clear)
    (sym (regroup l ls m) ∙ e ∙ regroup k ks n) in
    let next : f.2.session ≡ q.2.session = one_next g a c l k f.0 q.0 f.2 q.2 start same.0 f.3 q.3 in
    let more = no_further g f.2 q.2 ls ks m n f.1 q.1 at end next (each_tail l ls h) (each_tail k ks clear) same.1 f.4 q.4 stuck in
    (more.0, ap (λ (t : List (List ℕ)). l ∷ t) more.1 ∙ ap (λ (t : List ℕ). t ∷ (ks ++ more.0)) same.0, more.2)

further : (g : Given) (r q : Run) (input : List ℕ) → IsRun g r input → IsRun g q input → IsBad r
    → (extra : List (List ℕ)) × (r.lines ≡ q.lines ++ extra) × (q.more ≡ flat_map ended extra ++ r.more)
further g r q input run other bad =
    no_further g (first_reached g) (first_reached g) r.lines q.lines r.more q.more r.replies q.replies r.at q.at refl run.each other.each
    (sym run.parts ∙ other.parts) run.answers other.answers bad

pub no_script : (g : Given) (r : Run) (input : List ℕ) → IsRun g r input → IsBad r → IsScript g input → ⊥
no_script g r input run bad script =
    let x = further g r script.0 input run script.1 bad in
    stuck_some r.at.session r.more bad (empty_back (flat_map ended x.0) r.more (sym x.2 ∙ script.2))

pub one_first : (g : Given) (input : List ℕ) (m n : ℕ) → IsFirstBad g input m → IsFirstBad g input n → m ≡ n
one_first g input m n a b =
    let x = further g a.0 b.0 input a.1 b.1 a.2 in
    let y = further g b.0 a.0 input b.1 a.1 b.2 in
    omega (arith, a.3, b.3, ap length x.1, ap length y.1, length-append b.0.lines x.0, length-append a.0.lines y.0)

pub not_whole : (g : Given) (r : Run) (input : List ℕ) (n : ℕ) → IsRun g r input → r.more ≡ [] → IsFirstBad g input n → ⊥
not_whole g r input n run e bad = no_script g bad.0 input bad.1 bad.2 (r, run, e)
