-- Elements of lists.
use Rattle.std.proofs.Common.{◌≡◌, ◌⊎◌, [], ◌∷◌, arith}
