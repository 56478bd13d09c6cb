-- Plain trees tell the control trees of which they are made.
use Rattle.std.specs.Prelude.{◌≡◌}
use Rattle.bl_ctree.specs.Control.{Control}
use Rattle.bl_ctree.specs.Instances.{Setting}
use Rattle.bl_ctree.specs.Residual.{ResidualTree}
use Rattle.bl_ctree_laws.specs.Bridge.{plain_tree}

-- two control trees that may be left of the body of a program's entry, with one plain tree, are one control tree
abbrev pub PlainTreesTell : Type 0
PlainTreesTell = (w : Setting) (c d : Control) → ResidualTree w c → ResidualTree w d → plain_tree c ≡ plain_tree d → c ≡ d
