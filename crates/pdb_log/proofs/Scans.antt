-- What a scan of one log file comes to.
use Rattle.std.proofs.Common.{◌≡◌, inl, inr, ⊎_elim, ℕ, zero, suc, ◌+◌, ◌≤◌, ◌<◌, List, [], ◌∷◌, ◌++◌, length, take, refl, sym, ◌∙◌, ap, subst, arith, length-append, append_assoc}
use Rattle.std.proofs.lemmas.List.{append-nil, get_or-append-add, get_or_append_left}
use Rattle.pdb_disk.specs.Files.{FileBytes, StandsAt, done, AllSpare}
use Rattle.pdb_disk.specs.Files.{Step as step}
use Rattle.pdb_model.specs.Logs.{AreInARow, IsScanned, StandsWhole, most_in_log}
use Rattle.pdb_model.specs.Records.{IsRecord, Record, record_bytes}
use Rattle.pdb_model.specs.Recovery.{after_steps}
use Rattle.pdb_log.specs.Ledger.{AreNumbered, file_of, spelled_records, writes_of}
use Rattle.pdb_log.proofs.Bytes.{whole_decides, record_same, stands_after, stands_front, done_at_end, none_in_zeros, spelled_push}
use Rattle.pdb_log.proofs.Members.{In}

-- a scan from this place and number comes to this record
abbrev pub Reaches : FileBytes → ℕ → ℕ → Record → Type 0
Reaches c at n r = (rs : List Record) × (p : ℕ) × AreInARow c at n rs p × (r.number ≡ n + length rs) × StandsWhole c p r

pub to_reaches : (c : FileBytes) (r : Record) → (h : IsScanned c r) → Reaches c 0 h.number r
to_reaches c r h = (h.before, h.end, h.row, h.next, h.whole)

pub from_reaches : (c : FileBytes) (n : ℕ) (r : Record) → Reaches c 0 n r → IsScanned c r
from_reaches c n r h = record { number = n; before = h.0; end = h.1; row = h.2; next = h.3; whole = h.4 }

abbrev head_of : Record → List Record → Record
head_of d [] = d
head_of d (x ∷ xs) = x

abbrev tail_of : List Record → List Record
tail_of [] = []
tail_of (x ∷ xs) = xs

pub first_same : (a b : Record) (xs ys : List Record) → a ∷ xs ≡ b ∷ ys → a ≡ b
first_same a b xs ys e = ap (head_of a) e

rest_same : (a b : Record) (xs ys : List Record) → a ∷ xs ≡ b ∷ ys → xs ≡ ys
rest_same a b xs ys e = ap tail_of e

not_nil : (a : Record) (xs : List Record) → [] ≡ a ∷ xs → ⊥
not_nil a xs e = let l = ap length e in omega (arith, l)

-- the records so far are those at the front, and what is whole after them is the next
abbrev pub Follows : FileBytes → ℕ → ℕ → List Record → Type 0
Follows c at n todo = (pre post : List Record) (p : ℕ) (r : Record) → todo ≡ pre ++ post → AreInARow c at n pre p → StandsWhole c p r → (more : List Record) × (post ≡ r ∷ more)

-- a scan comes to just the records at the front, up to the first that isn't whole
pub record Front (c : FileBytes) (at n : ℕ) (todo : List Record) : Type 0 where
  pub found : List Record
  pub sound : (r : Record) → Reaches c at n r → In found r
  pub each : (r : Record) → In found r → Reaches c at n r
  pub listed : (r : Record) → In found r → In todo r

none_here : (c : FileBytes) (at n : ℕ) (todo : List Record) → ((r : Record) → StandsWhole c at r → ⊥) → Front c at n todo
none_here c at n todo shut = record {
  found = [];
  sound = λ r h. none r h.0 h.1 h.2 h.4;
  each = λ r h. absurd h;
  listed = λ r h. absurd h;
}
  where
    none : (r : Record) (rs : List Record) (p : ℕ) → AreInARow c at n rs p → StandsWhole c p r → In [] r
    none r [] p e h = shut r (subst (λ q. StandsWhole c q r) e h)
    none r (q ∷ rs) p ch h = shut q ch.1

pub front : (c : FileBytes) (at n : ℕ) (todo : List Record) → AreNumbered n todo → Follows c at n todo → Front c at n todo
front c at n [] num f = none_here c at n [] (λ r h. let k = f [] [] at r refl refl h in not_nil r k.0 k.1)
front c at n (a ∷ todo) num f = ⊎_elim
    (λ h. more h (front c (at + length (record_bytes a)) (n + 1) todo num.2
    (λ pre post p r e ch k. f (a ∷ pre) post p r (ap (λ (l : List Record). a ∷ l) e) (num.1, h, ch) k)))
    (λ no. none_here c at n (a ∷ todo) (λ r k. no (is_first r k)))
    (whole_decides c at a num.0)
  where
    same : (r : Record) → StandsWhole c at r → a ≡ r
    same r k = let m = f [] (a ∷ todo) at r refl refl k in first_same a r todo m.0 m.1

    is_first : (r : Record) → StandsWhole c at r → StandsWhole c at a
    is_first r k = subst (λ (s : Record). StandsWhole c at s) (sym (same r k)) k

    more : StandsWhole c at a → Front c (at + length (record_bytes a)) (n + 1) todo → Front c at n (a ∷ todo)
    more h rest = record {
      found = a ∷ rest.found;
      sound = λ r k. comes r k.0 k.1 k.2 k.3 k.4;
      each = λ r. ⊎_elim
          (λ e. ([], at, refl, (let m : r.number ≡ n + 0 = sym (ap (λ (s : Record). s.number) e) ∙ num.1 ∙ omega arith in m), subst (λ (s : Record). StandsWhole c at s) e h))
          (λ i. let k = rest.each r i in (a ∷ k.0, k.1, (num.1, h, k.2), (let m = k.3 in omega (arith, m)), k.4));
      listed = λ r. ⊎_elim (λ e. inl e) (λ i. inr (rest.listed r i));
    }
      where
        comes : (r : Record) (rs : List Record) (p : ℕ) → AreInARow c at n rs p → r.number ≡ n + length rs → StandsWhole c p r → In (a ∷ rest.found) r
        comes r [] p e m k = inl (same r (subst (λ q. StandsWhole c q r) e k))
        comes r (q ∷ rs) p ch m k =
            let is = same q ch.1 in
            let on : AreInARow c (at + length (record_bytes a)) (n + 1) rs p = subst (λ (s : Record). AreInARow c (at + length (record_bytes s)) (n + 1) rs p) (sym is) ch.2 in
            inr (rest.sound r (rs, p, on, omega (arith, m), k))

-- where a row ends
pub row_end : (c : FileBytes) (at n : ℕ) (rs : List Record) (p : ℕ) → AreInARow c at n rs p → p ≡ at + length (spelled_records rs)
row_end c at n [] p e = e ∙ omega arith
row_end c at n (r ∷ rs) p ch =
    let more = row_end c (at + length (record_bytes r)) (n + 1) rs p ch.2 in
    omega (arith, more, length-append (record_bytes r) (spelled_records rs))

-- in a file of records the record at a row's end is the next one
pub next_in : (n : ℕ) (xs ys pre post : List Record) (r : Record) → xs ++ ys ≡ pre ++ post → AreNumbered n xs → IsRecord r
    → StandsAt (file_of (spelled_records xs)) (length (spelled_records pre)) (record_bytes r) → (more : List Record) × (post ≡ r ∷ more)
next_in n [] ys pre post r e num is h = absurd (none_in_zeros (length (spelled_records pre)) r h)
next_in n (x ∷ xs) ys [] post r e num is h =
    let same = record_same (file_of (record_bytes x ++ spelled_records xs)) 0 x r num.0 is (stands_front (record_bytes x) (spelled_records xs)) h in
    (xs ++ ys, sym e ∙ (λ i. same i ∷ (xs ++ ys)))
next_in n (x ∷ xs) ys (q ∷ pre) post r e num is h =
    let same = first_same x q (xs ++ ys) (pre ++ post) e in
    let at : length (record_bytes q ++ spelled_records pre) ≡ length (record_bytes x) + length (spelled_records pre) = length-append (record_bytes q) (spelled_records pre) ∙ ap (λ (s : Record). length (record_bytes s) + length (spelled_records pre)) (sym same) in
    next_in (n + 1) xs ys pre post r (rest_same x q (xs ++ ys) (pre ++ post) e) num.2 is
    (stands_after (record_bytes x) (spelled_records xs) (record_bytes r) (length (spelled_records pre)) (subst (λ p. StandsAt (file_of (record_bytes x ++ spelled_records xs)) p (record_bytes r)) at h))

-- a file of records after the first k writes of more of them
pub after_writes : (have rs : List Record) (k : ℕ) → after_steps (file_of (spelled_records have)) (take k (writes_of (length (spelled_records have)) rs)) ≡ file_of (spelled_records (have ++ take k rs))
after_writes have rs zero = ap (λ l. file_of (spelled_records l)) (sym (append-nil have))
after_writes have [] (suc k) = ap (λ l. file_of (spelled_records l)) (sym (append-nil have))
after_writes have (r ∷ rs) (suc k) =
    let bytes : spelled_records have ++ record_bytes r ≡ spelled_records (have ++ r ∷ []) = sym (spelled_push have r) in
    let wrote : done (file_of (spelled_records have)) (step.Write (length (spelled_records have)) (record_bytes r)) ≡ file_of (spelled_records (have ++ r ∷ [])) = done_at_end (spelled_records have) (record_bytes r) ∙ ap file_of bytes in
    let end : length (spelled_records have) + length (record_bytes r) ≡ length (spelled_records (have ++ r ∷ [])) = sym (length-append (spelled_records have) (record_bytes r)) ∙ ap length bytes in
    ap (λ c. after_steps c (take k (writes_of (length (spelled_records have) + length (record_bytes r)) rs))) wrote
    ∙ ap (λ n. after_steps (file_of (spelled_records (have ++ r ∷ []))) (take k (writes_of n rs))) end
    ∙ after_writes (have ++ r ∷ []) rs k
    ∙ ap (λ l. file_of (spelled_records l)) (append_assoc have (r ∷ []) (take k rs))

-- the writes spare what stands before them
pub writes_spare : (at : ℕ) (rs : List Record) (i : ℕ) → i < at → AllSpare (writes_of at rs) i
writes_spare at [] i l = tt
writes_spare at (r ∷ rs) i l = (inl l, writes_spare (at + length (record_bytes r)) rs i (omega (arith, l)))

-- a scan comes to records that stand at the front, within the bytes of a log file
pub standing : (c : FileBytes) (xs : List ℕ) (n : ℕ) (rs : List Record) → ((i : ℕ) → i < length (xs ++ spelled_records rs) → c i ≡ file_of (xs ++ spelled_records rs) i) → AreNumbered n rs
    → length (xs ++ spelled_records rs) ≤ most_in_log → (r : Record) → In rs r → Reaches c (length xs) n r
standing c xs n [] same num low r i = absurd i
standing c xs n (a ∷ rs) same num low r i = ⊎_elim
    (λ e. ([], length xs, refl, (let m : r.number ≡ n + 0 = sym (ap (λ (s : Record). s.number) e) ∙ num.1 ∙ omega arith in m), subst (λ (s : Record). StandsWhole c (length xs) s) e here))
    (λ j. let k = standing c (xs ++ record_bytes a) (n + 1) rs same_after num.2 (subst (λ ys. length ys ≤ most_in_log) (sym joined) low) r j in
    (a ∷ k.0, k.1, (num.1, here, subst (λ p. AreInARow c p (n + 1) k.0 k.1) (length-append xs (record_bytes a)) k.2), (let m = k.3 in omega (arith, m)), k.4))
    i
  where
    joined : (xs ++ record_bytes a) ++ spelled_records rs ≡ xs ++ (record_bytes a ++ spelled_records rs)
    joined = append_assoc xs (record_bytes a) (spelled_records rs)

    same_after : (i : ℕ) → i < length ((xs ++ record_bytes a) ++ spelled_records rs) → c i ≡ file_of ((xs ++ record_bytes a) ++ spelled_records rs) i
    same_after i l = subst (λ ys. i < length ys → c i ≡ file_of ys i) (sym joined) (same i) l

    long : length (xs ++ (record_bytes a ++ spelled_records rs)) ≡ length xs + length (record_bytes a) + length (spelled_records rs)
    long = let p = length-append xs (record_bytes a ++ spelled_records rs) in let q = length-append (record_bytes a) (spelled_records rs) in omega (arith, p, q)

    there : StandsAt c (length xs) (record_bytes a)
    there i l = sym (same (length xs + i) (omega (arith, l, long))
        ∙ get_or-append-add xs (record_bytes a ++ spelled_records rs) i 0
        ∙ get_or_append_left (record_bytes a) (spelled_records rs) 0 i l)

    here : StandsWhole c (length xs) a
    here = record { is = num.0; there = there; within = omega (arith, low, long) }
