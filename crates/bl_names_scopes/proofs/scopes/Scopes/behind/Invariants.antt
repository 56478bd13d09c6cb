use Rattle.std.proofs.Common.{◌≡◌, drop, map}
use Rattle.bl_names_scopes.specs.Scopes.{after, heading_mark, opened_by}
use Rattle.bl_names_scopes.proofs.scopes.Scopes.behind.Given as goal

abbrev pub invariant-loop-heading : goal.invariant-loop-heading
invariant-loop-heading l = after l.scopes (map heading_mark (drop l.heading-index l.headings)) ≡ opened_by l.headings
