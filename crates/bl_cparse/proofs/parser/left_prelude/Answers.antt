use Rattle.bl_ctext.specs.declared.prelude.TheConstants.{PRELUDE}
use Rattle.bl_cparse.proofs.FileLemmas.{prelude_is, other_none}
use Rattle.bl_cparse.proofs.PlaceLemmas.{leaves}
use Rattle.bl_cparse.proofs.parser.left_prelude.Goals as goal

pub returns-clause-leaves : goal.returns-clause-leaves
returns-clause-leaves c = leaves PRELUDE.now c.args.text.now c.shared_length.result prelude_is c.requires.other
    c.shared_length.ensures.text c.shared_length.ensures.other c.shared_length.ensures.same c.shared_length.ensures.differ

pub returns-clause-none : goal.returns-clause-none
returns-clause-none c = other_none c.args.text.now c.requires.other
