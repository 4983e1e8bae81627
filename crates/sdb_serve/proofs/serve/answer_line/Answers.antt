use Rattle.std.proofs.Common.{◌≡◌, ◌∙◌, ℕ, List, [], ◌∷◌, sym, ap, subst, refl}
use Rattle.std.proofs.lemmas.Result.{err_from_is_err_and}
use Rattle.sdb_serve.specs.Given.{given_disk}
use Rattle.sdb_serve.specs.inner.Pieces.{as_piece}
use Rattle.sdb_serve.proofs.Answering.{no_piece, some_piece}
use Rattle.sdb_serve.proofs.DiskCounts.{counts_stop, none_counted}
use Rattle.sdb_serve.proofs.Outputs.{gets_nothing}
use Rattle.sdb_serve.specs.Playing.{MayPlay}
use Rattle.sdb_serve.proofs.serve.answer_line.Goals as goal

-- a line without a reply leaves the sink as it was
pub returns-else-not-is_empty-clause-answered : goal.returns-else-not-is_empty-clause-answered
returns-else-not-is_empty-clause-answered g c = λ given at h.
    let known = given_disk g.D.Disk.tells g.D.Disk.clock g.D.Disk.past given in
    let a = c.in_ok-play_line.ensures.answer given at h in
    let none : as_piece c.play_line.new.text.items ≡ [] =
    ap as_piece (sym c.as_slice-reply.ensures.value)
    ∙ no_piece c.as_slice-reply.result.now (sym c.is_empty.ensures ∙ c.if-not-is_empty.false) in
    ([], a.0, subst (λ (t : List (List ℕ)). MayPlay known at c.args.line.now t a.0) none a.1, a.2, gets_nothing _)

pub returns-in_ok-put-clause-answered : goal.returns-in_ok-put-clause-answered
returns-in_ok-put-clause-answered g c = λ given at h.
    let known = given_disk g.D.Disk.tells g.D.Disk.clock g.D.Disk.past given in
    let a = c.in_ok-play_line.ensures.answer given at h in
    let reply : List ℕ = c.as_slice-reply.result.now in
    let one : as_piece c.play_line.new.text.items ≡ reply ∷ [] =
    ap as_piece (sym c.as_slice-reply.ensures.value) ∙ some_piece reply (sym c.is_empty.ensures ∙ c.if-not-is_empty.true) in
    (reply ∷ [], a.0, subst (λ (t : List (List ℕ)). MayPlay known at c.args.line.now t a.0) one a.1, a.2, c.in_ok-put.ensures.ok)

pub returns-in_err-put-clause-stopped : goal.returns-in_err-put-clause-stopped
returns-in_err-put-clause-stopped g c =
    let p = err_from_is_err_and c.from_residual-in_err-put.result c.from_residual-in_err-put.ensures.1 in
    rw (p.1, p.2) (λ given r rest h begins.
    let known = given_disk g.D.Disk.tells g.D.Disk.clock g.D.Disk.past given in
    let a = c.in_ok-play_line.ensures.answer given r.at h in
    let reply : List ℕ = c.as_slice-reply.result.now in
    let one : as_piece c.play_line.new.text.items ≡ reply ∷ [] =
    ap as_piece (sym c.as_slice-reply.ensures.value) ∙ some_piece reply (sym c.is_empty.ensures ∙ c.if-not-is_empty.true) in
    let play = subst (λ (t : List (List ℕ)). MayPlay known r.at c.args.line.now t a.0) one a.1 in
    (reply, (λ left. (c.args.line.now, rest, a.0, begins, play, a.2.time, a.2.marks)), c.in_err-put.ensures.err))

pub returns-in_err-play_line-clause-stopped : goal.returns-in_err-play_line-clause-stopped
returns-in_err-play_line-clause-stopped g c =
    let p = err_from_is_err_and c.from_residual.result c.from_residual.ensures.1 in
    rw (p.1, p.2) (λ given r rest h begins. (c.in_err-play_line.ensures.stops given r rest h begins, refl))

pub returns-in_err-play_line-clause-disk : goal.returns-in_err-play_line-clause-disk
returns-in_err-play_line-clause-disk g c =
    let p = err_from_is_err_and c.from_residual.result c.from_residual.ensures.1 in
    rw (p.1, p.2) (λ given at h. counts_stop _ _ _ _ (c.in_err-play_line.ensures.counted given at h))

pub returns-in_err-put-clause-disk : goal.returns-in_err-put-clause-disk
returns-in_err-put-clause-disk g c =
    let p = err_from_is_err_and c.from_residual-in_err-put.result c.from_residual-in_err-put.ensures.1 in
    rw (p.1, p.2) (λ given at h. none_counted _ _ _ (λ e. cc) ((c.in_ok-play_line.ensures.counted given at h).1 (λ e. cc)))

pub returns-in_ok-put-clause-disk : goal.returns-in_ok-put-clause-disk
returns-in_ok-put-clause-disk g c = λ given at h. none_counted _ _ _ (λ e. cc) ((c.in_ok-play_line.ensures.counted given at h).1 (λ e. cc))

pub returns-else-not-is_empty-clause-disk : goal.returns-else-not-is_empty-clause-disk
returns-else-not-is_empty-clause-disk g c = λ given at h.
    none_counted _ _ _ (λ e. cc) ((c.in_ok-play_line.ensures.counted given at h).1 (λ e. cc))
