-- One text more is joined.
use Rattle.std.proofs.Common.{◌+◌, [], ◌∷◌, ◌++◌, arith, length, nat_eq, refl, subst}
use Rattle.bl_joined.specs.Joined.{IsJoinedOf}
use Rattle.bl_link_together.specs.Alone.{StandsAlone}
use Rattle.bl_link_together.proofs.Joining.{joins_all, joins_next}
use Rattle.bl_link_together.proofs.together.joined_of.Goals as goal

pub loop-k-preserved : goal.loop-k-preserved
loop-k-preserved c =
    joins_next c.args.texts.now c.loop-k.k c.index-texts-k.result c.loop-k-test.true c.index-texts-k.is c.loop-k.joined c.add.new.joined
    (nat_eq (c.loop-k.k + 1) (length c.args.texts.now)) refl c.loop-k.invariant
    (subst (λ text. StandsAlone (nat_eq (c.loop-k.k + 1) (length c.args.texts.now)) text) c.deref.ensures (c.add.ensures.alone c.if-not-add.false))
    (λ those is. subst (λ text. IsJoinedOf (those ++ text ∷ []) c.add.new.joined) c.deref.ensures (c.add.ensures.added c.if-not-add.false those is))
    (c.add.ensures.grown c.if-not-add.false)

pub returns : goal.returns
returns c = joins_all c.args.texts.now c.loop-k.k c.loop-k.joined (omega arith) c.requires.few c.loop-k.invariant
