use Rattle.phrases.specs.declared.sorts.Listed.TheVariants as listed
use Rattle.phrases.proofs.lists.list_of.Goals as goal

pub list-requires-in-Tuples-clause-moves : goal.list-requires-in-Tuples-clause-moves
list-requires-in-Tuples-clause-moves c = record { lent = λ p q r e. (e 0).lent.0; numbers = λ p q r e. (e 0).numbers }

pub returns-in-Tuples : goal.returns-in-Tuples
returns-in-Tuples c =
    let l = c.list-in-Tuples.ensures in
    λ n. record {
      lent = (l.lent, l.long (record { long = λ p q r e. (e 0).lent.1 }));
      numbers = l.numbers;
      answer = rw (c.in-Tuples.is) (l.answer listed.Tuples (record { follows = λ p q r e m. (e m).answer }) n);
    }
