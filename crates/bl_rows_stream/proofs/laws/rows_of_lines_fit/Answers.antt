use Rattle.bl_rows_stream.proofs.Fits.{lines-fit}
use Rattle.bl_rows_stream.proofs.laws.rows_of_lines_fit.Goals as goal

pub returns : goal.returns
returns c = lines-fit
