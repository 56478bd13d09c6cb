use Rattle.bl_ctext_semantics.specs.Parts.{parts_of}
use Rattle.bl_bound_laws.proofs.Counting.{file-bounded}
use Rattle.bl_bound_laws.proofs.runs_are_bounded.Goals as goal

pub returns : goal.returns
returns c = record {
  runs = (file-bounded (parts_of c.args._file.now) c.within_bound.ensures).runs;
  behaves = file-bounded (parts_of c.args._file.now) c.within_bound.ensures;
}
