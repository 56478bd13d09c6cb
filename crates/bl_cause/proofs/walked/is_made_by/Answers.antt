use Rattle.bl_cause.proofs.WalkedLemmas.{made_there}
use Rattle.bl_cause.proofs.walked.is_made_by.Goals as goal

pub returns-in-Read : goal.returns-in-Read
returns-in-Read c is =
    made_there c.args.accesses.now c.args.at c.in-Read.node c.in-Read.from c.args.edge c.args.access c.is_writer.result c.requires.kind c.requires.stands
    c.in-Read.is c.is_writer.ensures is
