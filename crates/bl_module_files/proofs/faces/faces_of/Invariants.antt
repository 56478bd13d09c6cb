use Rattle.std.proofs.Common.{map, take, string_bytes}
use Rattle.bl_io.specs.Count.{NeverFell}
use Rattle.bl_module_files.specs.Faces.{AreFaces}
use Rattle.bl_module_files.proofs.faces.faces_of.Given as goal

abbrev pub invariant-loop-k : goal.invariant-loop-k
invariant-loop-k g l = record {
  faces : AreFaces (g.F.Files.left l.initial.files) (map string_bytes (take l.k l.names)) l.faces.items (g.F.Files.left l.files);
  counts : NeverFell (g.F.Files.faults l.initial.files) (g.F.Files.faults l.files);
}
