use Rattle.std.proofs.Common.{◌<◌, length, map, ap, sym, ◌∙◌, arith}
use Rattle.std.specs.List.{list_any}
use Rattle.bl_tree.proofs.Basics.{map_length}
use Rattle.bl_ctree.specs.Store.{overlap}
use Rattle.bl_ctree_store.specs.Seen.{location_of}
use Rattle.bl_ctree_enabled.proofs.ListLemmas.{list_here, list_map, list_past}
use Rattle.bl_ctree_enabled.proofs.beside.meets_at.Goals as goal

pub returns-then-j-all : goal.returns-then-j-all
returns-then-j-all c =
    let all = c.args.all.now in
    let j = c.args.j in
    let within : j < length all = omega (arith, c.if-j-all.true) in
    c.meets.ensures
    ∙ ap (list_any (overlap (location_of c.args.at.now)))
    (ap (map location_of) (c.deref.ensures ∙ sym (list_here all j c.index-all-j.result within c.index-all-j.is)) ∙ sym (list_map location_of all j))

pub returns : goal.returns
returns c =
    let all = c.args.all.now in
    sym (ap (list_any (overlap (location_of c.args.at.now)))
    (list_past (map (map location_of) all) c.args.j (omega (arith, c.if-j-all.false, map_length (map location_of) all))))
