use Rattle.meaning.proofs.Passes.{more_passes_add_lines, endings_stay, passes_are_counted}
use Rattle.meaning.proofs.Repeats.{updates_have_no_repeats}
use Rattle.meaning.proofs.meaning_stands.Goals as goal

pub returns : goal.returns
returns c = record { lines = more_passes_add_lines; endings = endings_stay; passes = passes_are_counted; updates = updates_have_no_repeats }
