use Rattle.std.proofs.Common.{◌≡◌, drop}
use Rattle.bl_names.specs.inner.Past.{begun}
use Rattle.bl_names.proofs.HeadingLemmas.{behind}
use Rattle.bl_names.proofs.state.State.behind.Given as goal

abbrev pub invariant-loop-heading : goal.invariant-loop-heading
invariant-loop-heading l = behind l.state (drop l.heading-index l.headings) ≡ begun l.headings
