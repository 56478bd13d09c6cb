use Rattle.bl_types_laws.proofs.WhatKeeps.{laws_are_shallow, laws_keep}
use Rattle.bl_types_laws.proofs.kept.what_is_typed_keeps.Goals as goal

pub returns : goal.returns
returns c = record {
  keeps = laws_keep c.what_is_named_keeps.ensures.keeps c.what_is_named_suits.ensures.units c.what_is_named_suits.ensures.constants
      c.what_is_made_keeps_shape.ensures.shallow c.what_is_made_keeps_shape.ensures.apart;
  shallow = laws_are_shallow c.what_is_named_keeps.ensures.keeps c.what_is_named_suits.ensures.units c.what_is_named_suits.ensures.constants
      c.what_is_made_keeps_shape.ensures.shallow c.what_is_made_keeps_shape.ensures.apart;
}
