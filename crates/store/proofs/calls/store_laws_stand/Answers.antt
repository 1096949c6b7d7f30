use Rattle.store.proofs.Laws.{store_laws}
use Rattle.store.proofs.calls.store_laws_stand.Goals as goal

pub returns : goal.returns
returns c = store_laws
