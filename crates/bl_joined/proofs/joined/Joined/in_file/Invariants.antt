use Rattle.std.proofs.Common.{◌≡◌, ◌≤◌, length}
use Rattle.std.specs.Prelude.{Some, slice_get}
use Rattle.bl_joined.proofs.Finding.{LastOf}
use Rattle.bl_joined.proofs.joined.Joined.in_file.Given as goal

abbrev pub invariant-loop-file : goal.invariant-loop-file
invariant-loop-file l = slice_get l.self.starts.items 0 ≡ Some 0 → 1 ≤ l.file → LastOf l.self.starts.items l.file l.place l.found.file l.found.place
