use Rattle.phrases.specs.States.{worth}
use Rattle.phrases.proofs.one_lifetime.+more_items.Given as goal

abbrev pub decreases-more_items : goal.decreases-more_items
decreases-more_items g l = worth l.parser.now
