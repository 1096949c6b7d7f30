use Rattle.texts.specs.Language.{TableText, AtomText}
use Rattle.texts.specs.Reading.{read_table, read_atom}
use Rattle.texts.proofs.Whole.{exact}
use Rattle.texts.proofs.Listings.{table_reads, atom_reads}
use Rattle.texts.proofs.Layers.{tables_by_layer, atoms_by_layer}
use Rattle.texts.proofs.Written.{tables_read_back, atoms_read_back, one_text}
use Rattle.texts.proofs.texts_stand.Goals as goal

pub returns : goal.returns
returns c = record {
  tables = λ cs. exact (TableText cs) (read_table cs) (table_reads cs);
  atoms = λ d. exact (AtomText d) (read_atom d) (atom_reads d);
  table_layers = tables_by_layer;
  atom_layers = atoms_by_layer;
  tables_back = tables_read_back;
  atoms_back = atoms_read_back;
  one_text = one_text;
}
