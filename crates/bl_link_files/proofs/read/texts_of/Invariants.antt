use Rattle.std.proofs.Common.{map, take, string_bytes}
use Rattle.bl_io.specs.Count.{NeverFell}
use Rattle.bl_link_files.specs.inner.Fronts.{FrontsRead}
use Rattle.bl_link_files.proofs.read.texts_of.Given as goal

abbrev pub invariant-loop-k : goal.invariant-loop-k
invariant-loop-k g l = record {
  read : FrontsRead (g.F.Files.left l.initial.files) (map string_bytes (take l.k l.names)) l.texts (g.F.Files.left l.files);
  counts : NeverFell (g.F.Files.faults l.initial.files) (g.F.Files.faults l.files);
}
