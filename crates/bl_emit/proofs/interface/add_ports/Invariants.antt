use Rattle.std.proofs.Common.{◌≡◌, ◌++◌, drop, map}
use Rattle.bl_emit_spec.specs.Programs.{port_member}
use Rattle.bl_emit.proofs.interface.add_ports.Given as goal

abbrev pub invariant-loop-var : goal.invariant-loop-var
invariant-loop-var l = l.members ++ map (port_member l.structs l.prefix) (drop l.var-index l.vars) ≡ l.initial.members
    ++ map (port_member l.structs l.prefix) l.vars
