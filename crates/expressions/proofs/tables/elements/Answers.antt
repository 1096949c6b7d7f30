use Rattle.std.proofs.Common.{rules}
use Rattle.phrases.specs.declared.sorts.Listed.TheVariants as listed
use Rattle.expressions.proofs.tables.elements.Goals as goal

pub list-requires-clause-moves : goal.list-requires-clause-moves
list-requires-clause-moves c = record { lent = λ p q r e. (e 0).lent.0; numbers = λ p q r e. (e 0).numbers }

pub returns-in-Tuples : goal.returns-in-Tuples
returns-in-Tuples c = λ n. record {
  lent = (c.list.ensures.lent, c.list.ensures.long (record { long = λ p q r e. (e 0).lent.1 }));
  numbers = search rules;
  answer = rw (c.in-Tuples.is) (c.list.ensures.answer listed.Tuples (record { follows = λ p q r e m. (e m).answer }) n);
}
