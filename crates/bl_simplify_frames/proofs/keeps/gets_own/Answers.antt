use Rattle.std.proofs.Common.{◌≡◌, not, rules, ap, sym, ◌∙◌}
use Rattle.bl_simplify_laws.specs.Tables.{has_name}
use Rattle.bl_simplify_frames.proofs.OnPlaces.{either}
use Rattle.bl_simplify_frames.proofs.keeps.gets_own.Goals as goal

pub returns : goal.returns
returns c = λ names has.
    let told : c.has.result ≡ has_name names c.args.call.now.name = search rules in
    either _ _ _ _ (ap not told) (c.is_with_some.ensures names)
