use Rattle.std.proofs.Common.{string_bytes}
use Rattle.bl_top_args.proofs.FewWords.{too_few}
use Rattle.bl_top_args.proofs.driven.driven_by.Goals as goal

pub returns-in_default : goal.returns-in_default
returns-in_default c = too_few string_bytes c.args.words.now c.in_default.len_below
