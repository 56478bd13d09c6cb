use Rattle.std.proofs.Common.{◌≡◌, length, map, take}
use Rattle.bl_ctext.specs.Spelling.{func_tokens}
use Rattle.bl_ctext.specs.Spellable.{spells_func}
use Rattle.bl_cparse.specs.HasPlaces.{in_turn, func_walk}
use Rattle.bl_cparse.proofs.placing.item.funcs.Given as goal

-- those before the next one have their places
abbrev pub invariant-loop-k : goal.invariant-loop-k
invariant-loop-k l = record {
  places : in_turn (map func_walk (take l.k l.funcs)) l.fn.spot ≡ (take l.k l.funcs, l.spot);
  tokens : map func_tokens l.funcs ≡ map func_tokens l.fn.funcs;
  spells : map spells_func l.funcs ≡ map spells_func l.fn.funcs;
  many : length l.funcs ≡ length l.fn.funcs;
}
