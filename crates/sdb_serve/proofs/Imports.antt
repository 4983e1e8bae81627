-- The replies of an import by what is kept of the blocks.
use Rattle.std.proofs.Common.{◌≡◌, ℕ, ◌+◌, ◌-◌, ◌^◌, ◌<◌, ◌≤◌, min, Bool, true, false, cond, nat_le, get_or, List, Option, Some, None, is_some, sym, ap, ap₂, ◌∙◌, arith}
use Rattle.std.specs.BTreeMap.{get}
use Rattle.std.specs.Option.{option_map}
use Rattle.std.proofs.lemmas.Bool.{le-leb}
use Rattle.std.proofs.lemmas.Bool.Decides.{nat_tests}
use Rattle.sdb_base.specs.declared.Block.{Block}
use Rattle.sdb_model.specs.Blocks.{count_at, number_of}
use Rattle.sdb_model.specs.declared.Refusal.TheVariants.{AlreadyExists, TooManySiblings, UnknownParent}
use Rattle.sdb_model.specs.declared.Reply.{Reply}
use Rattle.sdb_model.specs.declared.Reply.TheVariants.{Imported, Refused}
use Rattle.sdb_serve.specs.inner.Blocks.{RepresentsBlocks, id_cmp}
use Rattle.sdb_serve.specs.Jobs.{import_on, import_reply, most_siblings}
use Rattle.sdb_serve.specs.declared.blocks.BlockMap.{BlockMap}
use Rattle.sdb_serve.specs.declared.blocks.BlockEntry.{BlockEntry}
use Rattle.sdb_serve.proofs.Keeping.{entry_has_chain}

-- the reply by how many blocks have the number
abbrev by_room : ℕ → ℕ → Reply
by_room number siblings = cond (nat_le most_siblings siblings) (Refused (TooManySiblings number)) (Imported number)

lt-leb : (a b : ℕ) → b < a → nat_le a b ≡ false
lt-leb a b less = grind (arith, nat_tests)

pub no_room : (number siblings : ℕ) → most_siblings ≤ siblings → Refused (TooManySiblings number) ≡ by_room number siblings
no_room number siblings full = ap (λ t. cond t (Refused (TooManySiblings number)) (Imported number)) (sym (le-leb most_siblings siblings full))

pub room : (number siblings : ℕ) → siblings < most_siblings → Imported number ≡ by_room number siblings
room number siblings less = ap (λ t. cond t (Refused (TooManySiblings number)) (Imported number)) (sym (lt-leb most_siblings siblings less))

module _ {K : Type 0} (m : BlockMap K) (blocks : List Block) (b : Block) (represents : RepresentsBlocks m blocks) where
  parent_number : (o : Option BlockEntry) → get id_cmp m.blocks b.parent ≡ o → number_of blocks b.parent ≡ option_map (λ (k : BlockEntry). k.number) o
  parent_number o e = sym (represents.numbers b.parent) ∙ ap (option_map (λ (k : BlockEntry). k.number)) e

  pub import_without_parent : get id_cmp m.blocks b.parent ≡ None → Refused UnknownParent ≡ import_reply blocks b
  unfolding import_reply
  import_without_parent e = ap (import_on blocks b) (sym (parent_number None e))

  module _ (parent : BlockEntry) (at_parent : get id_cmp m.blocks b.parent ≡ Some parent) where
    -- no number is at its type's end, so that the saturating sum is the sum
    pub next_number : (number : ℕ) → number ≡ min (parent.number + 1) (2 ^ 64 - 1) → number ≡ parent.number + 1
    next_number number is =
        let less = represents.below b.parent parent.number (parent_number (Some parent) at_parent) in
        let small = m.levels.small in
        let long = m.levels.ok in
        omega arith

    by_id : (known : Bool) → is_some (get id_cmp m.blocks b.id) ≡ known
        → cond known (Refused AlreadyExists) (by_room (parent.number + 1) (count_at blocks (parent.number + 1))) ≡ import_reply blocks b
    unfolding import_reply
    by_id known e =
        ap (λ t. cond t (Refused AlreadyExists) (by_room (parent.number + 1) (count_at blocks (parent.number + 1)))) (sym e ∙ entry_has_chain m blocks b.id represents)
        ∙ ap (import_on blocks b) (sym (parent_number (Some parent) at_parent))

    pub import_again : is_some (get id_cmp m.blocks b.id) ≡ true → Refused AlreadyExists ≡ import_reply blocks b
    import_again known = by_id true known

    pub import_of_new : is_some (get id_cmp m.blocks b.id) ≡ false → (number siblings : ℕ) → number ≡ min (parent.number + 1) (2 ^ 64 - 1)
        → siblings ≡ get_or m.levels.items number 0 → by_room number siblings ≡ import_reply blocks b
    import_of_new new number siblings is_next is_count =
        let next = next_number number is_next in
        ap₂ by_room next (is_count ∙ ap (λ k. get_or m.levels.items k 0) next ∙ represents.levels (parent.number + 1)) ∙ by_id false new
