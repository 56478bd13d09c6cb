use Rattle.std.proofs.Common.{◌≡◌, length, map, take}
use Rattle.bl_ctext.specs.Spelling.{struct_tokens}
use Rattle.bl_ctext.specs.Spellable.{spells_struct}
use Rattle.bl_cparse.specs.HasPlaces.{in_turn, struct_walk}
use Rattle.bl_cparse.proofs.placing.item.structs.Given as goal

-- those before the next one have their places
abbrev pub invariant-loop-k : goal.invariant-loop-k
invariant-loop-k l = record {
  places : in_turn (map struct_walk (take l.k l.structs)) l.fn.spot ≡ (take l.k l.structs, l.spot);
  tokens : map struct_tokens l.structs ≡ map struct_tokens l.fn.structs;
  spells : map spells_struct l.structs ≡ map spells_struct l.fn.structs;
  many : length l.structs ≡ length l.fn.structs;
}
