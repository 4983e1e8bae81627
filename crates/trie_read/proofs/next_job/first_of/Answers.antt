use Rattle.std.proofs.Common.{vec_len, [], ◌∷◌, ◌++◌, ap, sym, ◌∙◌}
use Rattle.trie_read.specs.declared.parts.Part.{Part}
use Rattle.trie_read.proofs.Turned.{emptied, first_key, first_two}
use Rattle.trie_read.proofs.next_job.first_of.Goals as goal

pub returns-in-Some-Node-clause-front : goal.returns-in-Some-Node-clause-front
returns-in-Some-Node-clause-front c =
    first_two c.args.parts.items c.pop.new.self.items c.pop-in-Some-Node.new.self.items c.in-Some-Node.stored c.pop-in-Some-Node.result c.args.behind c.or.result
    (sym c.reversed-left.ensures ∙ c.in-Some-Node.ensures.items ∙ ap (λ (p : Part). c.pop.new.self.items ++ p ∷ []) c.in-Some-Node.field-0-is)
    c.pop-in-Some-Node.ensures.items
    (emptied _ _ c.pop.new.self.items c.pop-in-Some-Node.new.self.items c.pop-in-Some-Node.result (vec_len c.pop.new.self) c.pop-in-Some-Node.ensures.cases c.pop-in-Some-Node.ensures.rest
    c.pop-in-Some-Node.ensures.items)
    c.or.ensures

pub returns-in-Some-Key-clause-front : goal.returns-in-Some-Key-clause-front
returns-in-Some-Key-clause-front c =
    first_key c.args.parts.items c.pop.new.self.items c.in-Some-Key.key c.args.behind
    (sym c.reversed-left.ensures ∙ c.in-Some-Key.ensures.items ∙ ap (λ (p : Part). c.pop.new.self.items ++ p ∷ []) c.in-Some-Key.field-0-is)
