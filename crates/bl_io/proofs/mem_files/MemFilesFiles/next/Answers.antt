use Rattle.bl_io.proofs.Handing.{HandsOver-moved, KeepsOthers-insert}
use Rattle.bl_io.proofs.mem_files.MemFilesFiles.next.Goals as goal

pub returns-clause-front : goal.returns-clause-front
returns-clause-front c =
    let t = c.in-Some.ensures in
    rw (← c.self.view_is) (HandsOver-moved c.self.inside.store _ _ c.args.room.now _ _ c.most-most.result c.requires
    c.most-most.ensures.some t.count t.room t.rest)

pub returns-clause-others : goal.returns-clause-others
returns-clause-others c = rw (← c.self.view_is) (KeepsOthers-insert c.self.inside.store _ _ _ c.in-Some.ensures.rest)
