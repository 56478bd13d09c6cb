-- What expressions and acts ask of the values before.
use Rattle.bl_emit_spec_laws_nodes.specs.Points.Nodes.{PrevsAgree}

-- what an expression means, and what an act leaves, depends on no value before but those that it names under a `prev`
abbrev pub PrevsTell : Type 0
PrevsTell = PrevsAgree
