use Rattle.bl_io.proofs.Named.{files_of-update}
use Rattle.bl_io.proofs.store.Store.add.Goals as goal

pub returns-clause-ok : goal.returns-clause-ok
returns-clause-ok c = rw (← c.self.view_is, ← c.in_ok-name.ensures.ok, ← c.new.ensures)
    (files_of-update c.self.inside.files c.insert.new.self _ _ c.in_ok-insert.ensures.updates)
