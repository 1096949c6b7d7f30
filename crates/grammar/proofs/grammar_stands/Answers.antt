use Rattle.grammar.proofs.Promise.{decided, one, one_fault, never_both, readers_exact}
use Rattle.grammar.proofs.grammar_stands.Goals as goal

pub returns : goal.returns
returns c = record { decided = decided; one_tree = one; one_fault = one_fault; never_both = never_both; readers = readers_exact }
