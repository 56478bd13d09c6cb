use Rattle.std.proofs.Common.{Some, ap, refl, unwrap_or, [], lit<}
use Rattle.std.specs.FinMap.{get}
use Rattle.bl_io.proofs.Handing.{IsNext-moved, get-insert-same, get-insert-other}
use Rattle.bl_io.proofs.sure_files.SureFilesFiles.next.Goals as goal

pub returns-clause-front : goal.returns-clause-front
returns-clause-front c =
    let t = c.in-Some.ensures in
    rw (← c.self.view_is, t.rest, get-insert-same) (IsNext-moved
    (get c.self.inside.store c.args.name.now) _ c.args.room.now _ _ _ c.requires (lit< tt) t.count t.room refl)

pub returns-clause-others : goal.returns-clause-others
returns-clause-others c = λ other differ.
    rw (← c.self.view_is, c.in-Some.ensures.rest) (ap (λ o. Some (unwrap_or o [])) (get-insert-other c.self.inside.store c.args.name.now _ other differ))
