-- A file of the C subset, without what its type keeps of it.
use Rattle.std.specs.Prelude.{List}
use Rattle.bl_tree.specs.declared.c.CStruct.{CStruct}
use Rattle.bl_tree.specs.declared.c.CFunc.{CFunc}
use Rattle.bl_ctext.specs.declared.file.CFile.{CFile}

-- a file's structs and functions, in order
pub record Parts : Type 0 where
  pub structs : List CStruct
  pub funcs : List CFunc

-- the structs and functions of a file
abbrev pub parts_of : CFile → Parts
parts_of file = record { structs = file.structs; funcs = file.funcs }

-- a file's parts, made of a list of structs and a list of functions
abbrev pub parts_from : List CStruct → List CFunc → Parts
parts_from structs funcs = record { structs = structs; funcs = funcs }
