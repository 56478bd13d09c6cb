use Rattle.std.proofs.Common.{string_bytes}
use Rattle.bl_top_args.proofs.FewWords.{too_few_to_face}
use Rattle.bl_top_args.proofs.faced.faced_by.Goals as goal

pub returns-in_default : goal.returns-in_default
returns-in_default c = too_few_to_face string_bytes c.args.words.now c.in_default.len_below
