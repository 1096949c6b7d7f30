use Rattle.store.proofs.Reasons.{rightly}
use Rattle.store.proofs.calls.perform.Goals as goal

pub returns : goal.returns
returns g c =
    record {
      reply = c.dispatch.ensures.reply;
      after = c.dispatch.ensures.after;
      refused = rightly _ _ _ _ c.dispatch.ensures.reply c.dispatch.ensures.after;
    }
