use Rattle.std.proofs.Common.{rules}
use Rattle.schema.specs.Kinds.{type_of}
use Rattle.schema.proofs.Sames.{type_decided}
use Rattle.schema.proofs.sameness.same_type.Goals as goal

pub returns-in-Atom-Atom-clause-same : goal.returns-in-Atom-Atom-clause-same
returns-in-Atom-Atom-clause-same c = type_decided (type_of c.args.left_text.now c.args.left.now) (type_of c.args.right_text.now c.args.right.now) (search rules)

pub returns-in-Table-Table-clause-same : goal.returns-in-Table-Table-clause-same
returns-in-Table-Table-clause-same c = type_decided (type_of c.args.left_text.now c.args.left.now) (type_of c.args.right_text.now c.args.right.now) (search rules)
