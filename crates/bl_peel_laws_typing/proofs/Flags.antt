-- Conjunctions: what holds of their parts, and parts in place of others.
use Rattle.std.proofs.Common.{◌≡◌, Bool, true, ◌&&◌}
use Rattle.std.proofs.lemmas.Bool.{and_from}
use Rattle.bl_tree.proofs.Basics.{and_first, and_second}

-- the first part stays, and the second makes place for another
pub under : (a b d : Bool) → (b ≡ true → d ≡ true) → (a && b) ≡ true → (a && d) ≡ true
under a b d step h = and_from a d (and_first a b h) (step (and_second a b h))

-- and_from parts make place for others
pub beside_each : (a b c d : Bool) → (a ≡ true → c ≡ true) → (b ≡ true → d ≡ true) → (a && b) ≡ true → (c && d) ≡ true
beside_each a b c d one other h = and_from c d (one (and_first a b h)) (other (and_second a b h))
