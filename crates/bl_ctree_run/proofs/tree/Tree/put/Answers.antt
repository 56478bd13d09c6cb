use Rattle.std.proofs.Common.{◌≡◌, Some, map, ap, sym, ◌∙◌, subst}
use Rattle.std.specs.Prelude.{Result, OnOk, slice_set}
use Rattle.bl_tree.specs.declared.memory.NoMemory.{NoMemory}
use Rattle.bl_ctree.specs.Nodes.{control_of}
use Rattle.bl_ctree_enabled.specs.Listing.{IsRight, enabled_view}
use Rattle.bl_ctree_enabled.specs.Spots.{spot_of}
use Rattle.bl_ctree_store.specs.Seen.{location_of}
use Rattle.bl_ctree_run.specs.Running.{setting}
use Rattle.bl_ctree_run.specs.inner.Spines.{Fits, FitsAny, fork_at, listed_by}
use Rattle.bl_ctree_run.proofs.ListedLemmas.{kept_lists, lists_end}
use Rattle.bl_ctree_run.proofs.tree.Tree.put.Goals as goal

pub replace-requires-clause-points : goal.replace-requires-clause-points
replace-requires-clause-points c =
    let tree = c.args.self.now in
    let facts = c.listings_tell_points.ensures.right (setting tree) (fork_at 0 (control_of tree.node)) (enabled_view c.in-Some.listing)
    (lists_end (setting tree) (control_of tree.node) tree.listing c.in-Some.listing tree.lists c.in-Some.is) in
    facts.2 ∙ sym facts.1

pub invariant_of-self-in-Ok-clause-lists : goal.invariant_of-self-in-Ok-clause-lists
invariant_of-self-in-Ok-clause-lists c =
    let tree = c.args.self.now in
    let w = setting tree in
    let old = control_of tree.node in
    let d = control_of c.args.tree in
    let l = enabled_view c.in-Some.listing in
    let fits : Fits w old l d c.args.kept =
    subst (λ listing. FitsAny w old (listed_by listing) d (Some c.args.kept)) c.in-Some.is c.requires in
    ap Some (kept_lists c.replaced_branches_are_listed.ensures w old (control_of c.put.new.node) d l (enabled_view c.replace.new.self) c.args.kept
    (lists_end w old tree.listing c.in-Some.listing tree.lists c.in-Some.is) fits
    (subst (λ (r : Result (Unit {0}) NoMemory). OnOk r ((enabled_view c.replace.new.self).homes
    ≡ slice_set l.homes c.args.kept.branch (map location_of c.args.kept.found.homes)))
    c.in-Ok.is c.replace.ensures.homes)
    (subst (λ (r : Result (Unit {0}) NoMemory). OnOk r ((enabled_view c.replace.new.self).spots
    ≡ slice_set l.spots c.args.kept.branch (map spot_of c.args.kept.found.points)))
    c.in-Ok.is c.replace.ensures.spots)
    (subst (λ (r : Result (Unit {0}) NoMemory). OnOk r (IsRight (enabled_view c.replace.new.self))) c.in-Ok.is c.replace.ensures.right) c.put.ensures)
