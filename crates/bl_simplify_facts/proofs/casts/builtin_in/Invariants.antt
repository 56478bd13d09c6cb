use Rattle.std.proofs.Common.{◌≡◌, drop}
use Rattle.bl_ctext_semantics.specs.inner.Maps.{named_entries}
use Rattle.bl_ctext_semantics.specs.Tables.{found}
use Rattle.bl_simplify_facts.proofs.casts.builtin_in.Given as goal

abbrev pub invariant-loop-of : goal.invariant-loop-of
invariant-loop-of l = found l.name (named_entries (drop l.of-index l.entries)) ≡ found l.name (named_entries l.entries)
