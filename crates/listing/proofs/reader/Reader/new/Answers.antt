use Rattle.std.proofs.Common.{take, ap, ◌∙◌}
use Rattle.std.proofs.lemmas.List.{take_min}
use Rattle.fault.specs.Limits.{text_bytes}
use Rattle.listing.proofs.reader.Reader.new.Goals as goal

pub returns-clause-text : goal.returns-clause-text
returns-clause-text c = ap (λ n. take n c.args.text.now) c.min.ensures ∙ take_min text_bytes c.args.text.now
