-- Steps of reading that gave a value, and the bytes that they took.
use Rattle.std.proofs.Common.{◌≡◌, ℕ, ◌<◌, ◌≤◌, Bool, true, false, cond, List, [], ◌∷◌, ◌++◌, length, take, drop, All, Result, Ok, Err, refl, sym, subst, arith}
use Rattle.std.specs.Prelude.{nat_lt}
use Rattle.std.proofs.lemmas.Bool.Decides.{nat_tests}
use Rattle.std.proofs.lemmas.List.{length-take-le, take-append-drop}
use Rattle.std.proofs.lemmas.List.Elements.{All-nil, All-cons, All-head, All-tail}
use Rattle.trie_codec.specs.declared.fault.CodecFault.{CodecFault}
use Rattle.trie_codec.specs.declared.fault.CodecFault.TheVariants.{Short}
use Rattle.trie_codec.specs.Reading.{◌>>=◌, first_bytes}

-- each is a byte
abbrev pub AreBytes : List ℕ → Type 0
AreBytes bytes = All (λ b. b < 256) bytes

pub value_is : {A : Type 0} (x y : A) → ◌≡◌ {A = Result A CodecFault} (Ok x) (Ok y) → x ≡ y
value_is x y e = cc

-- two steps that gave a value
pub both_gave : {A B : Type 0} (first : Result A CodecFault) (next : A → Result B CodecFault) (x : B) → (first >>= next) ≡ Ok x
    → (y : A) × (first ≡ Ok y) × (next y ≡ Ok x)
both_gave (Ok y) next x e = (y, refl, e)
both_gave (Err f) next x e = absurd (cc)

-- a test that found no fault
pub no_fault : {A : Type 0} (faulty : Bool) (f : CodecFault) (read : Result A CodecFault) (x : A) → cond faulty (Err f) read ≡ Ok x
    → (faulty ≡ false) × (read ≡ Ok x)
no_fault true f read x e = absurd (cc)
no_fault false f read x e = (refl, e)

-- what holds of each of two lists together holds in each list
pub All-parts : {X : Type 0} (P : X → Type 0) (xs ys : List X) → All P (xs ++ ys) → All P xs × All P ys
All-parts P [] ys h = (All-nil P, h)
All-parts P (x ∷ xs) ys h =
    let after = All-parts P xs ys (All-tail P x (xs ++ ys) h) in
    (All-cons P x xs (All-head P x (xs ++ ys) h) after.0, after.1)

pub bytes_in_parts : (bytes front rest : List ℕ) → AreBytes bytes → bytes ≡ front ++ rest → AreBytes front × AreBytes rest
bytes_in_parts bytes front rest all e = All-parts (λ b. b < 256) front rest (subst AreBytes e all)

-- so many bytes, and what follows them
pub taken : (n : ℕ) (bytes : List ℕ) (x : List ℕ × List ℕ) → first_bytes n bytes ≡ Ok x → (length x.0 ≡ n) × (bytes ≡ x.0 ++ x.1)
taken n bytes x e =
    let (there, read) = no_fault (nat_lt (length bytes) n) Short (Ok (take n bytes, drop n bytes)) x e in
    let enough : n ≤ length bytes = grind (arith, nat_tests) in
    subst (λ (z : List ℕ × List ℕ). (length z.0 ≡ n) × (bytes ≡ z.0 ++ z.1)) (value_is (take n bytes, drop n bytes) x read)
    (length-take-le n bytes enough, sym (take-append-drop n bytes))
