-- Scripts whose rows all have one width.
use Rattle.std.proofs.Common.{◌≡◌, ℕ, zero, suc, ℤ, List, [], ◌∷◌, ◌++◌, length, Some, ap, sym, ◌∙◌}
use Rattle.bl_plant.specs.Kinds.{AreWide}
use Rattle.bl_plant.specs.declared.script.Turn.{Turn}
use Rattle.bl_plant.specs.declared.script.Turn.TheVariants as turn

same-row : (x y : List ℤ) → Some x ≡ Some y → x ≡ y
same-row x y is = cc

-- one more row of the width
pub wide_more : (width : ℕ) (turns : List Turn) (row : List ℤ) → AreWide width turns → length row ≡ width →
    AreWide width (turns ++ turn.Give row ∷ [])
wide_more width [] row wide long zero other is = ap length (sym (same-row row other is)) ∙ long
wide_more width [] row wide long (suc k) other is = cc
wide_more width (turn.Give x ∷ turns) row wide long zero other is = wide zero other is
wide_more width (turn.Give x ∷ turns) row wide long (suc k) other is =
    wide_more width turns row (λ j next at. wide (suc j) next at) long k other is
wide_more width (turn.Fail ∷ turns) row wide long k other is = wide_more width turns row wide long k other is

-- one more turn that fails
pub wide_fails : (width : ℕ) (turns : List Turn) → AreWide width turns → AreWide width (turns ++ turn.Fail ∷ [])
wide_fails width [] wide k other is = wide k other is
wide_fails width (turn.Give x ∷ turns) wide zero other is = wide zero other is
wide_fails width (turn.Give x ∷ turns) wide (suc k) other is = wide_fails width turns (λ j next at. wide (suc j) next at) k other is
wide_fails width (turn.Fail ∷ turns) wide k other is = wide_fails width turns wide k other is
