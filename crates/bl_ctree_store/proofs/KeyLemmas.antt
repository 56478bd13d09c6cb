-- Keys of maps and sets that tie.
use Rattle.std.proofs.Common.{◌≡◌, ◌&&◌, ◌∙◌, nat_cmp, eqb→eq}
use Rattle.std.specs.BTreeMap.{is_at}
use Rattle.std.specs.Cmp.{unsigned_tied}
use Rattle.bl_tree.specs.declared.place.Place.{Place}
use Rattle.bl_effects.specs.Entries.{key_of}
use Rattle.bl_tree.specs.Rules.{same_place}
use Rattle.bl_ctree_store.specs.inner.Expansion.{place_cmp}
use Rattle.bl_effects.proofs.EntryLemmas.{both_equal}

-- a place is that of a key where the key ties
pub same_place_key : (a b : Place) → is_at (place_cmp (key_of a)) (key_of b) ≡ same_place a b
same_place_key a b = both_equal (nat_cmp a.start b.start) (nat_cmp a.end b.end) ∙ (λ i. unsigned_tied a.start b.start i && unsigned_tied a.end b.end i)
