-- The loop has looked at all texts, and the first begins at 0.
use Rattle.std.proofs.Common.{◌≡◌, ℕ, ◌+◌, ◌<◌, ◌≤◌, List, length, sym, subst, arith}
use Rattle.std.proofs.lemmas.Option.{slice_get_within}
use Rattle.std.specs.Prelude.{Some, slice_get}
use Rattle.bl_joined.proofs.Finding.{first_start, in_file}
use Rattle.bl_joined.proofs.joined.Joined.in_file.Goals as goal

pub returns : goal.returns
returns c = λ texts some is.
    let starts : List ℕ = c.args.self.now.starts.items in
    let first : slice_get starts 0 ≡ Some 0 = subst (λ (ns : List ℕ). slice_get ns 0 ≡ Some 0) (sym is.starts) (first_start texts some) in
    let filled : 0 < length starts = slice_get_within starts 0 0 first in
    let all : length starts ≤ c.loop-file.file =
    omega (arith, c.loop-file-test.false, c.loop-file.auto.file-end, c.deref-start-items.ensures.len) in
    in_file texts c.args.place c.loop-file.found.file c.loop-file.found.place starts c.loop-file.file is.starts all
    (c.loop-file.invariant first (omega arith))
