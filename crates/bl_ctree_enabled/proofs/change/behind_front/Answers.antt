use Rattle.std.proofs.Common.{map, ap, sym, ◌∙◌}
use Rattle.std.proofs.lemmas.List.{drop-map}
use Rattle.bl_ctree_store.specs.Seen.{location_of}
use Rattle.bl_ctree_enabled.specs.Listing.{touches}
use Rattle.bl_ctree_enabled.proofs.ChangeLemmas.{behind_front, take_rest}
use Rattle.bl_ctree_enabled.proofs.change.behind_front.Goals as goal

pub returns : goal.returns
returns c = λ reads rest.
    let before = c.args.before.now in
    let now = c.args.now.now in
    let front = c.common_front-front.result in
    let gone = ap (map location_of) (take_rest front before c.common_front-front.ensures.in_a) ∙ sym (drop-map location_of front before) in
    let come = ap (map location_of) (take_rest front now c.common_front-front.ensures.in_b) ∙ sym (drop-map location_of front now) in
    behind_front front (map location_of before) (map location_of now) c.common_front-front.ensures.same reads
    (sym (ap (λ xs. touches xs reads) gone) ∙ rest ∙ ap (λ xs. touches xs reads) come)
