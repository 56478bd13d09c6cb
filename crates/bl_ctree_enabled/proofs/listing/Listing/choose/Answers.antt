use Rattle.std.proofs.Common.{◌∙◌, subst}
use Rattle.bl_ctree_counts.specs.Counts.{Falls}
use Rattle.bl_ctree_enabled.specs.Listing.{enabled_view}
use Rattle.bl_ctree_enabled.proofs.CountLemmas.{chosen_none, chosen_some}
use Rattle.bl_ctree_enabled.proofs.listing.Listing.choose.Goals as goal

pub returns-in-None : goal.returns-in-None
returns-in-None c =
    let l = enabled_view c.args.self.now in
    chosen_none l c.requires c.args.n (subst (Falls l.counts c.args.n) c.in-None.is c.find.ensures)

pub returns-in-Some : goal.returns-in-Some
returns-in-Some c =
    let l = enabled_view c.args.self.now in
    c.nth_of.ensures ∙ chosen_some l c.requires c.args.n c.in-Some.found (subst (Falls l.counts c.args.n) c.in-Some.is c.find.ensures)
