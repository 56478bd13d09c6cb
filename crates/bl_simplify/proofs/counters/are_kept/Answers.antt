use Rattle.std.proofs.Common.{◌≡◌, map, ap, ◌∙◌, rules}
use Rattle.std.specs.List.{list_any}
use Rattle.bl_ctext_places.specs.Counters.{names_counter}
use Rattle.bl_ctext_places.specs.Lists.{path_of}
use Rattle.bl_ctext_places.specs.Places.{places_named}
use Rattle.bl_simplify.proofs.OnCounters.{kept_told}
use Rattle.bl_simplify.proofs.counters.are_kept.Goals as goal

pub returns : goal.returns
returns c =
    let before : map (λ p. path_of p.now) c.deref-4.result.now ≡ places_named c.args.old.now = search rules in
    let after : map (λ p. path_of p.now) c.deref-3.result.now ≡ places_named c.args.new.now = search rules in
    let again : map (λ p. path_of p.now) c.deref-5.result.now ≡ map (λ p. path_of p.now) c.deref-3.result.now = search rules in
    kept_told c.args.old.now c.args.new.now _ _ c.are_own.result c.name_some.result c.name_some-2.result before after c.are_own.ensures
    c.name_some.ensures (c.name_some-2.ensures ∙ ap (list_any names_counter) again)
