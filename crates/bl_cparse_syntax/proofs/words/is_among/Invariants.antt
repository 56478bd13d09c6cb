use Rattle.std.proofs.Common.{◌≡◌, map, drop}
use Rattle.bl_ctext.specs.Names.{is_among as among}
use Rattle.bl_cparse_syntax.proofs.words.is_among.Given as goal

abbrev pub invariant-loop-known : goal.invariant-loop-known
invariant-loop-known l = among l.word (map (λ known. known.now) (drop l.known-index l.words)) ≡ among l.word (map (λ known. known.now) l.words)
