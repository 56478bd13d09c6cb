use Rattle.std.proofs.Common.{◌≡◌, None, Some, rules, ap}
use Rattle.std.specs.FinMap as map
use Rattle.bl_io.proofs.Named.{files_of-update, get-seen}
use Rattle.bl_io.proofs.store.Store.hand_over.Goals as goal

pub returns-in_default-clause-count : goal.returns-in_default-clause-count
returns-in_default-clause-count c =
    let absent : map.get c.args.self.now c.args.name.now ≡ None = get-seen c.self.inside.files _ _ _ c.self.view_is c.in_default.ensures.value in
    rw absent

pub returns-clause-count : goal.returns-clause-count
returns-clause-count c =
    let found : map.get c.args.self.now c.args.name.now ≡ Some c.in-Some.file.now =
    get-seen c.self.inside.files _ _ _ c.self.view_is c.in-Some.ensures.value in
    rw found (ap Some c.hand_over.ensures.count)

pub returns-clause-rest : goal.returns-clause-rest
returns-clause-rest c =
    let found : map.get c.args.self.now c.args.name.now ≡ Some c.in-Some.file.now =
    get-seen c.self.inside.files _ _ _ c.self.view_is c.in-Some.ensures.value in
    let more = files_of-update c.self.inside.files (c.get_mut.follows.lender c.hand_over.new.self) c.args.name.now _
    ((c.get_mut.follows.holds c.hand_over.new.self).3 (search rules)) in
    rw (found, ← c.hand_over.ensures.rest, ← c.self.view_is) more

pub returns-clause-room : goal.returns-clause-room
returns-clause-room c =
    let found : map.get c.args.self.now c.args.name.now ≡ Some c.in-Some.file.now =
    get-seen c.self.inside.files _ _ _ c.self.view_is c.in-Some.ensures.value in
    rw found c.hand_over.ensures.room
