use Rattle.std.proofs.Common.{◌≡◌, ℕ, List, [], ◌∷◌, ◌++◌, codes, decimal, drop, map, ap, sym, ◌∙◌, append_assoc, append-nil, arith}
use Rattle.std.proofs.lemmas.List.{drop_all}
use Rattle.bl_tree.specs.declared.place.Place.{Place}
use Rattle.bl_tree.specs.Reduce.{joined}
use Rattle.bl_walk.specs.Lines.{start_text, tick_line}
use Rattle.bl_walk.proofs.notes.append_line.Goals as goal

-- the pieces of a line, one behind the other
line_whole : (t0 t1 t2 t3 t4 t5 : List ℕ) (tick : ℕ) (places : List Place) → t1 ≡ t0 ++ codes "tick " → t2 ≡ t1 ++ decimal tick →
    t3 ≡ t2 ++ (58 ∷ []) → t4 ≡ t3 ++ joined (map start_text places) → t5 ≡ t4 ++ (10 ∷ []) → t5 ≡ t0 ++ tick_line tick places
unfolding tick_line
line_whole t0 t1 t2 t3 t4 t5 tick places e1 e2 e3 e4 e5 = rw (e5, e4, e3, e2, e1) (simp append_assoc)

-- all places were told
told_all : (text begun : List ℕ) (places : List Place) (k : ℕ) → drop k places ≡ [] →
    text ++ joined (map start_text (drop k places)) ≡ begun ++ joined (map start_text places) → text ≡ begun ++ joined (map start_text places)
told_all text begun places k none told = sym (append-nil text) ∙ ap (λ rest. text ++ joined (map start_text rest)) (sym none) ∙ told

pub returns : goal.returns
returns c =
    line_whole c.args.text.now.items c.extend_from_slice.new.self.items c.extend_from_slice-2.new.self.items c.extend_from_slice-3.new.self.items
    c.places.text.items c.extend_from_slice-4.new.self.items c.args.tick c.args.places.now
    c.in_ok-extend_from_slice.ensures.items
    (c.in_ok-extend_from_slice-2.ensures.items ∙ ap (λ t. c.extend_from_slice.new.self.items ++ t) (c.as_bytes.ensures.value ∙ c.format.ensures.text))
    c.in_ok-extend_from_slice-3.ensures.items
    (told_all c.places.text.items c.extend_from_slice-3.new.self.items c.args.places.now c.places.place-index
    (drop_all c.places.place-index c.args.places.now (omega arith)) c.places.invariant)
    c.in_ok-extend_from_slice-6.ensures.items
