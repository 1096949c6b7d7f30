use Rattle.lines.proofs.Loops.{Going}
use Rattle.lines.proofs.writing.Line.put_entries.Given as goal

abbrev pub invariant-loop-entry : goal.invariant-loop-entry
invariant-loop-entry g l = Going (g.W.Entries.text l.writer) g.W.Entries.room l.entries l.entry-index l.separator l.fn.self l.self
