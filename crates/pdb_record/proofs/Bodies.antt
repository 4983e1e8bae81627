-- Bodies of records, put by put.
use Rattle.std.proofs.Common.{◌≡◌, ◌+◌, ◌<◌, ◌≤◌, ℕ, List, [], ◌∷◌, ◌++◌, length, take, drop, get_or, sym, ap, ◌∙◌, arith, length-append, append-nil}
use Rattle.std.proofs.lemmas.Grind.{flat_map-append}
use Rattle.std.proofs.lemmas.List.{take_more, take-append-drop}
use Rattle.pdb_cells.specs.declared.Put.{Put}
use Rattle.pdb_model.specs.Records.{body_bytes, put_bytes}

pub body-append : (ps qs : List Put) → body_bytes (ps ++ qs) ≡ body_bytes ps ++ body_bytes qs
body-append ps qs = flat_map-append put_bytes ps qs

pub put-len : (p : Put) → length (put_bytes p) ≡ 10 + length p.bytes
put-len p = omega arith

pub body-within : (i : ℕ) (ps : List Put) → length (body_bytes (take i ps)) ≤ length (body_bytes ps)
body-within i ps =
    let parts : body_bytes ps ≡ body_bytes (take i ps) ++ body_bytes (drop i ps) = ap body_bytes (sym (take-append-drop i ps)) ∙ body-append (take i ps) (drop i ps) in
    omega (arith, ap length parts, length-append (body_bytes (take i ps)) (body_bytes (drop i ps)))

pub body-next : (i : ℕ) (ps : List Put) (d : Put) → i < length ps
    → length (body_bytes (take (i + 1) ps)) ≡ length (body_bytes (take i ps)) + (10 + length (get_or ps i d).bytes)
body-next i ps d within =
    let parts : body_bytes (take (i + 1) ps) ≡ body_bytes (take i ps) ++ body_bytes (get_or ps i d ∷ [])
    = ap body_bytes (take_more ps i d within) ∙ body-append (take i ps) (get_or ps i d ∷ []) in
    let one : length (body_bytes (get_or ps i d ∷ [])) ≡ 10 + length (get_or ps i d).bytes = ap length (append-nil (put_bytes (get_or ps i d))) ∙ put-len (get_or ps i d) in
    omega (arith, ap length parts, length-append (body_bytes (take i ps)) (body_bytes (get_or ps i d ∷ [])), one)

pub next-within : (i : ℕ) (ps : List Put) (d : Put) → i < length ps
    → length (body_bytes (take i ps)) + (10 + length (get_or ps i d).bytes) ≤ length (body_bytes ps)
next-within i ps d within = omega (arith, body-next i ps d within, body-within (i + 1) ps)
