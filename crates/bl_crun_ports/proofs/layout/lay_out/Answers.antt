use Rattle.bl_crun_ports.proofs.LayLemmas.{all-kinds}
use Rattle.bl_crun_ports.proofs.layout.lay_out.Goals as goal

pub returns-clause-kinds : goal.returns-clause-kinds
returns-clause-kinds c = λ funcs.
    all-kinds c.args.structs.now c.in_ok-places.places.structs.now c.new-kinds.result.items c.add_struct.new.kinds.items c.add_struct-2.new.kinds.items
    c.add_struct-3.new.kinds.items funcs
    c.in_ok-places.ensures c.new-kinds.ensures.items c.in_ok-add_struct.ensures.kinds c.in_ok-add_struct-2.ensures.kinds c.in_ok-add_struct-3.ensures.kinds
