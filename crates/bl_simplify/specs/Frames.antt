-- Functions that take a frame first.
use Rattle.std.specs.Prelude.{◌≡◌, Bool, false, List, [], ◌∷◌, bytes_eq, codes}
use Rattle.bl_tree.specs.declared.c.CParam.{CParam}

-- whether the first of some parameters is named `f`
abbrev pub begins_with_frame : List CParam → Bool
begins_with_frame [] = false
begins_with_frame (p ∷ params) = bytes_eq p.name (codes "f")
