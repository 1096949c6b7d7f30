use Rattle.std.proofs.Common.{arith}
use Rattle.lines.proofs.Loops.{going_start, going_room, going_room_end, going_on, going_end, going_short}
use Rattle.lines.proofs.writing.Line.put_entries.Goals as goal

pub loop-entry-init : goal.loop-entry-init
loop-entry-init g c = going_start _ _ _ _ _ c.put.ensures

pub put_all-requires : goal.put_all-requires
put_all-requires g c = omega (arith, going_room _ _ _ _ _ _ _ c.loop-entry-test.true c.loop-entry.invariant c.requires, c.loop-entry.invariant.one)

pub put-requires-in-loop-entry : goal.put-requires-in-loop-entry
put-requires-in-loop-entry g c = omega (arith, going_room _ _ _ _ _ _ _ c.loop-entry-test.true c.loop-entry.invariant c.requires, c.loop-entry.invariant.one, c.put_all.ensures.end, c.put_all.ensures.size)

pub loop-entry-preserved : goal.loop-entry-preserved
loop-entry-preserved g c =
    going_on _ _ _ _ _ _ _ _ _ _ c.loop-entry-test.true c.entry-item.is c.loop-entry.invariant c.put_all.ensures c.put-in-loop-entry.ensures.bytes c.put-in-loop-entry.ensures.short

pub put_all-requires-2 : goal.put_all-requires-2
put_all-requires-2 g c = going_room_end _ _ _ _ _ _ _ c.loop-entry.auto.entry-index-end c.loop-entry.invariant c.requires

pub returns : goal.returns
returns g c = record {
  bytes = going_end _ _ _ _ _ _ _ _ c.loop-entry-test.false c.loop-entry.auto.entry-index-end c.loop-entry.invariant c.put_all-2.ensures;
  short = going_short _ _ _ _ _ _ _ _ c.loop-entry-test.false c.loop-entry.auto.entry-index-end c.loop-entry.invariant c.put_all-2.ensures;
}
