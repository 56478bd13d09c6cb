use Rattle.std.proofs.Common.{length, refl}
use Rattle.bl_link.proofs.Turns.{good_parts}
use Rattle.bl_link.specs.Fits.{faces_of}
use Rattle.bl_link.proofs.laws.parts_that_fit_are_good_files.Goals as goal

pub returns : goal.returns
returns c = λ parts are fit. good_parts (length parts) parts (faces_of parts) are fit.faces fit.lasts refl
