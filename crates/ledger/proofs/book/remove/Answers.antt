use Rattle.std.proofs.Common.{not, eqb, rules}
use Rattle.std.proofs.lemmas.Fn.{filter_same}
use Rattle.ledger.proofs.book.remove.Goals as goal

pub returns-clause-kept : goal.returns-clause-kept
returns-clause-kept c = filter_same _ (λ l. not (eqb l.table c.args.table)) _ (λ x b f' h. (search (rules, h), search (rules, h))) _ _ c.retain.ensures.filtered
