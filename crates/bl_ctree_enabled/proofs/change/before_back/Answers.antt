use Rattle.std.proofs.Common.{◌-◌, length, map, ap, sym, ◌∙◌}
use Rattle.std.proofs.lemmas.List.{take-map}
use Rattle.bl_ctree_store.specs.Seen.{location_of}
use Rattle.bl_ctree_enabled.specs.Listing.{touches}
use Rattle.bl_ctree_enabled.proofs.ChangeLemmas.{before_back}
use Rattle.bl_ctree_enabled.proofs.change.before_back.Goals as goal

pub returns : goal.returns
returns c = λ reads rest.
    let before = c.args.before.now in
    let now = c.args.now.now in
    let back = c.common_back-back.result in
    before_back (length before - back) (length now - back) (map location_of before) (map location_of now) c.common_back-back.ensures.same reads
    (ap (λ xs. touches xs reads) (take-map location_of (length before - back) before) ∙ rest
    ∙ sym (ap (λ xs. touches xs reads) (take-map location_of (length now - back) now)))
