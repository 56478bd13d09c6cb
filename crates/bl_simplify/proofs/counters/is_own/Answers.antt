use Rattle.std.proofs.Common.{◌≡◌, true, rules}
use Rattle.std.specs.Prelude.{bytes_eq, codes}
use Rattle.bl_tree.specs.declared.c.CPlace.{out-CPlace}
use Rattle.bl_simplify.proofs.OnCounters.{own_of}
use Rattle.bl_simplify.proofs.counters.is_own.Goals as goal

pub returns-then-place : goal.returns-then-place
returns-then-place c = λ h.
    let same : c.as_slice.result.now ≡ (out-CPlace c.args.place.now).steps = search rules in
    let through : (out-CPlace c.args.place.now).through ≡ true = search rules in
    let named : bytes_eq (out-CPlace c.args.place.now).name (codes "f") ≡ true = search rules in
    own_of c.args.place.now c.as_slice.result.now same c.in-len1.len_at_least c.in-len1.len_below through named
