-- `notice::has_length` meets its contract: by the byte's kind, and a byte that is none has no length.
use borrow.Author.Rules.{rules}
use Rattle.notice.proofs.Bytes.{length_by}
use Rattle.notice.proofs.has_length.Goals as goal

pub returns : goal.returns
returns c = length_by _ _ c.args.third _ c.requires c.of.ensures c.is_some_and.ensures (λ k q. search rules)
