use Rattle.bl_ctext_semantics.specs.Parts.{parts_of}
use Rattle.bl_crun_ports.proofs.PortLemmas.{ports-stand-in}
use Rattle.bl_crun_ports.proofs.laws.ports_stand.Goals as goal

pub returns : goal.returns
returns c = ports-stand-in (parts_of c.args._file.now)
