use Rattle.bl_rows_stream.proofs.Fits.{told-fits}
use Rattle.bl_rows_stream.proofs.laws.rows_of_bytes_fit.Goals as goal

pub returns : goal.returns
returns c = told-fits
